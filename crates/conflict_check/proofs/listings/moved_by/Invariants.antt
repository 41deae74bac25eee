use Rattle.std.proofs.Common.{◌≡◌, ◌+◌}
use Rattle.std.specs.Prelude.{map, take}
use Rattle.conflict_check.proofs.listings.moved_by.Given as goal

-- the ordinals so far
abbrev pub invariant-loop-ordinal : goal.invariant-loop-ordinal
invariant-loop-ordinal l = l.places ≡ map (λ o. l.from + o) (take l.ordinal-index l.ordinals)
