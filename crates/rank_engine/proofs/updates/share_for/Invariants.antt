use Rattle.std.proofs.Common.{◌≡◌, ◌*◌, ◌≤◌, take, length}
use Rattle.std.specs.Prelude.{sum_by}
use Rattle.rank_engine.proofs.updates.share_for.Given as goal
use Rattle.rank_engine.specs.Shares.{updates_of}

abbrev pub invariant-loop-call : goal.invariant-loop-call
invariant-loop-call l = (l.share ≡ sum_by updates_of (take l.call-index l.calls)) × (l.share ≤ 256 * l.call-index)
