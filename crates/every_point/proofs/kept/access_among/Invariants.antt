use Rattle.std.proofs.Common.{◌≡◌}
use Rattle.std.specs.Prelude.{drop}
use Rattle.std.specs.List.{find}
use Rattle.every_point.specs.Points.{is_named}
use Rattle.every_point.proofs.kept.access_among.Given as goal

-- what is left decides
abbrev pub invariant-loop-access : goal.invariant-loop-access
invariant-loop-access l =
    find (is_named l.id) (drop l.access-index l.accesses) ≡ find (is_named l.id) l.accesses
