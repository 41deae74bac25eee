use Rattle.std.proofs.Common.{◌≤◌, ◌∙◌, [], ap, sym, subst, replicate}
use Rattle.rma_types.specs.declared.scripts.Layout.{Layout}
use Rattle.call_rules.specs.Layout.{cells_of}
use Rattle.call_rules.specs.Touches.{empty_cell}
use Rattle.rank_runners.proofs.FirstWorlds.{few_cells, layout_fits, starts_in}
use Rattle.rank_runners.proofs.runners.Runner.new.Goals as goal
use Rattle.sync_board.specs.Boards.{BoardState, IsLayoutOf}

pub new_memory-requires : goal.new_memory-requires
new_memory-requires c = subst (λ (l : Layout). cells_of l ≤ 16384) (sym c.requires.layout)
    (few_cells c.args.script.now c.requires.formed)

pub new-requires-clause-layout : goal.new-requires-clause-layout
new-requires-clause-layout c =
    subst (λ (l : Layout). IsLayoutOf c.args.script.now.ranks l) (sym c.requires.layout)
    (layout_fits c.args.script.now c.requires.formed)

pub returns : goal.returns
returns c =
    starts_in c.args.script.now c.args.order c.args.delay c.args.seed _ c.requires.formed c.in_ok-agents.ensures
    (c.in_ok-board.ensures ∙ ap (λ (l : Layout). let board : BoardState = record {
      ranks = c.args.script.now.ranks;
      layout = l;
      name = [];
      entries = [];
    } in board) c.requires.layout)
    (c.in_ok-memory.ensures.cells ∙ ap (λ (l : Layout). replicate (cells_of l) empty_cell) c.requires.layout)
    c.in_ok-memory.ensures.share c.new-2.ensures.kept c.none.ensures
