-- The clause is a theorem.
use Rattle.conflict_check.proofs.Alikes.{findings_alike}
use Rattle.conflict_check.proofs.points_may_stand_for_others.Goals as goal

pub returns : goal.returns
returns c = record { enough = findings_alike }
