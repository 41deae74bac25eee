use Rattle.std.proofs.Common.{◌≡◌}
use Rattle.std.specs.Prelude.{drop}
use Rattle.every_point.specs.Points.{access_named}
use Rattle.every_point.proofs.kept.access_named.Given as goal

-- what is left decides
abbrev pub invariant-loop-record : goal.invariant-loop-record
invariant-loop-record l = access_named l.id (drop l.record-index l.records) ≡ access_named l.id l.records
