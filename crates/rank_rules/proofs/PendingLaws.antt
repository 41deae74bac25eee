-- Pending accesses that give way.
use Rattle.std.proofs.Common.{List, ℕ, Option, take, None, ◌≡◌, Some, ◌<◌, length, min, subst, arith, slice_get}
use Rattle.std.proofs.lemmas.List.{length-take}
use Rattle.std.proofs.lemmas.List.Quantifiers.{position-Some}
use Rattle.std.specs.List.{position}
use Rattle.std.specs.Option.{option_map_or}
use Rattle.rank_rules.specs.Pending.{gives_way, first_in_way}
use Rattle.rank_rules.specs.declared.pending.PendingAccess.{PendingAccess}

pub earlier_by : (pending : List PendingAccess) (at other : ℕ) (found : Option PendingAccess) →
    option_map_or (λ one. position (gives_way one) (take at pending)) found None ≡ Some other → other < at
earlier_by pending at other None e = cc
earlier_by pending at other (Some one) e =
    let within : other < length (take at pending) = (position-Some (gives_way one) (take at pending) other one e).0 in
    let below : other < min at (length pending) = subst (λ n. other < n) (length-take at pending) within in
    omega arith

-- an access gives way to an earlier one
pub gives_way_to_earlier : (pending : List PendingAccess) (at other : ℕ) →
    first_in_way pending at ≡ Some other → other < at
gives_way_to_earlier pending at other e = earlier_by pending at other (slice_get pending at) e
