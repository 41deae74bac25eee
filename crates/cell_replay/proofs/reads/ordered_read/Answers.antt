-- The access that the item issues is the one of its name.
use Rattle.std.proofs.Common.{◌≡◌, ◌≤◌, ap, map, subst, sym, ◌∙◌}
use Rattle.std.specs.Prelude.{IfOk}
use Rattle.rma_types.specs.declared.schedules.Delay.TheVariants.{Seeded}
use Rattle.rma_types.specs.declared.scripts.Layout.{Layout}
use Rattle.call_rules.specs.Pieces.{first_cell, pieces}
use Rattle.vector_clocks.specs.Marks.{before_in}
use Rattle.cell_replay.specs.Kept.{DoFit, element_left, touchings_of}
use Rattle.cell_replay.proofs.Fitting.{touches_fit}
use Rattle.cell_replay.proofs.Reading.{read_found, read_named}
use Rattle.cell_replay.proofs.SmallCells.{small_first}
use Rattle.cell_replay.proofs.reads.ordered_read.Goals as goal

pub read_elements-requires-clause-fit : goal.read_elements-requires-clause-fit
read_elements-requires-clause-fit c =
    subst DoFit (sym (ap touchings_of c.as_slice.ensures.value ∙ c.in_ok-touches-in-Some.ensures))
    (touches_fit c.args.script.now Seeded c.args.run.now c.requires.formed c.requires.lawful)

pub read_elements-requires-clause-cells : goal.read_elements-requires-clause-cells
read_elements-requires-clause-cells c =
    subst (λ (found : Layout). first_cell found c.in-Some.access.target ≤ 65536) (sym c.in_ok-layout-in-Some.ensures)
    (small_first c.args.script.now c.in-Some.access.target c.requires.formed.limits)

pub returns-in_ok-touches-in-Some : goal.returns-in_ok-touches-in-Some
returns-in_ok-touches-in-Some c =
    let before = before_in c.args.clocks.now in
    let touches = ap touchings_of c.as_slice.ensures.value ∙ c.in_ok-touches-in-Some.ensures in
    let found = sym c.in-Some.is ∙ c.access_at.ensures in
    subst (λ list. IfOk c.read_elements.result (λ values. values ≡ list))
    ((λ i. map (element_left (touches i) before c.args.id c.in-Some.dtype)
    (pieces (c.in_ok-layout-in-Some.ensures i) c.in-Some.access c.in-Some.dtype))
    ∙ ap (read_found c.args.script.now c.args.run.now before c.args.id) found
    ∙ sym (read_named c.args.script.now c.args.run.now before c.args.id))
    c.read_elements.ensures

pub returns-in-None : goal.returns-in-None
returns-in-None c =
    let before = before_in c.args.clocks.now in
    c.new.ensures
    ∙ ap (read_found c.args.script.now c.args.run.now before c.args.id) (sym c.in-None.is ∙ c.access_at.ensures)
    ∙ sym (read_named c.args.script.now c.args.run.now before c.args.id)
