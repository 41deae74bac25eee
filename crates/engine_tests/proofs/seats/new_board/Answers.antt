use Rattle.std.proofs.Common.{sym, subst}
use Rattle.rma_types.specs.declared.scripts.Layout.{Layout}
use Rattle.rank_runners.proofs.FirstWorlds.{layout_fits}
use Rattle.sync_board.specs.Boards.{IsLayoutOf}
use Rattle.engine_tests.proofs.seats.new_board.Goals as goal

pub new-requires-clause-layout : goal.new-requires-clause-layout
new-requires-clause-layout c = subst (λ (l : Layout). IsLayoutOf c.args.script.now.ranks l) (sym c.requires.layout)
    (layout_fits c.args.script.now c.requires.formed)
