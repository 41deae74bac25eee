use Rattle.std.proofs.Common.{sym, subst, arith}
use Rattle.rank_rules.specs.Windows.{window_number}
use Rattle.sync_board.specs.Windows.{KeepsWindow}
use Rattle.sync_board.proofs.GrownSteps.{at_none}
use Rattle.sync_board.proofs.named.NameRecord.judge.Goals as goal

pub returns-in-None : goal.returns-in-None
returns-in-None c = λ layout q name is at kept leaves.
    c.judge-in-None.ensures layout q is
    (subst (λ w. KeepsWindow layout q.ranks w q.entries c.idle-idle.result) (sym at)
    (c.idle-idle.ensures layout q.ranks (window_number c.args.round name) q.entries
    (at_none c.args.self.now.rounds.items c.args.round _
    (KeepsWindow layout q.ranks (window_number c.args.round name) q.entries)
    (omega (arith, c.in-None.ensures.lookup.3)) (kept c.args.round)))) leaves
