use Rattle.std.proofs.Common.{◌≡◌, ℕ, List, map, replicate, ap, ◌∙◌, subst}
use Rattle.std.specs.Prelude.{IfOk}
use Rattle.call_rules.specs.declared.cells.Cell.{Cell}
use Rattle.call_rules.specs.Layout.{cells_of}
use Rattle.call_rules.specs.Touches.{empty_cell}
use Rattle.cell_face.specs.PlainCells.{PlainCells}
use Rattle.rank_runners.proofs.FirstWorlds.{map_replicate}
use Rattle.rank_runners.proofs.starts.new_memory.Goals as goal

abbrev unwritten : ℕ → Cell
unwritten bits = record { bits = bits; place = 0 }

pub returns-in-Ok-clause-cells : goal.returns-in-Ok-clause-cells
returns-in-Ok-clause-cells c =
    let zeros : c.in-Ok.zeros.items
    ≡ replicate c.cells_of.result 0 = c.in-Ok.ensures.items_if_clones_equal (λ y e. e) in
    let same : map unwritten c.deref.result.now ≡ replicate (cells_of c.args.layout.now) empty_cell =
    ap (λ (xs : List ℕ). map unwritten xs) (c.deref.ensures.value ∙ zeros)
    ∙ map_replicate unwritten c.cells_of.result 0
    ∙ ap (λ n. replicate n empty_cell) c.cells_of.ensures in
    subst (λ (xs : List Cell). IfOk c.new.result (λ (memory : PlainCells). memory.cells ≡ xs)) same c.new.ensures.cells
