use Rattle.std.proofs.Common.{◌+◌, cond}
use Rattle.std.specs.Prelude.{sum_by}
use Rattle.rank_runners.proofs.Drained.{Leaves, pending_of}
use Rattle.rank_runners.proofs.runners.Runner.drain_rank.Given as goal

-- what is left of the rank's deliveries leads where all of them do
abbrev pub invariant-deliveries : goal.invariant-deliveries
invariant-deliveries l = Leaves l.initial.self l.rank l.more l.self

abbrev pub decreases-deliveries : goal.decreases-deliveries
decreases-deliveries l = sum_by pending_of l.self.agents.items + cond l.more 1 0
