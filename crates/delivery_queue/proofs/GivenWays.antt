-- Giving way ends within as many steps as the place that it begins at.
use Rattle.std.proofs.Common.{◌≡◌, ◌<◌, ◌≤◌, ℕ, zero, suc, List, Option, Some, None, refl}
use Rattle.std.proofs.Common.{arith}
use Rattle.std.specs.Option.{option_map_or}
use Rattle.rank_rules.specs.declared.pending.PendingAccess.{PendingAccess}
use Rattle.rank_rules.specs.Pending.{first_in_way, way_in, way}
use Rattle.rank_rules.proofs.PendingLaws.{gives_way_to_earlier}

-- as many steps as the place are enough, where that holds of all earlier places
same_by : (pending : List PendingAccess) (at a b : ℕ) (found : Option ℕ) → first_in_way pending at ≡ found →
    at ≤ a → at ≤ b →
    ((other : ℕ) → other < at → (c d : ℕ) → other ≤ c → other ≤ d → way_in c pending other ≡ way_in d pending other) →
    way_in a pending at ≡ way_in b pending at
same_by pending at zero zero found e fa fb rest = refl
same_by pending at zero (suc b) None e fa fb rest = rw e refl
same_by pending at zero (suc b) (Some other) e fa fb rest =
    let earlier = gives_way_to_earlier pending at other e in absurd (omega arith)
same_by pending at (suc a) zero None e fa fb rest = rw e refl
same_by pending at (suc a) zero (Some other) e fa fb rest =
    let earlier = gives_way_to_earlier pending at other e in absurd (omega arith)
same_by pending at (suc a) (suc b) None e fa fb rest = rw e refl
same_by pending at (suc a) (suc b) (Some other) e fa fb rest =
    let earlier = gives_way_to_earlier pending at other e in
    rw e (rest other earlier a b (omega arith) (omega arith))

same_within : (pending : List PendingAccess) (bound at a b : ℕ) → at < bound → at ≤ a → at ≤ b →
    way_in a pending at ≡ way_in b pending at
same_within pending zero at a b l fa fb = absurd (omega arith)
same_within pending (suc bound) at a b l fa fb = same_by pending at a b (first_in_way pending at) refl fa fb
    (λ other earlier c d fc fd. same_within pending bound other c d (omega arith) fc fd)

step_by : (pending : List PendingAccess) (at : ℕ) (found : Option ℕ) → first_in_way pending at ≡ found →
    way pending at ≡ option_map_or (way pending) found at
step_by pending zero None e = refl
step_by pending zero (Some other) e = let earlier = gives_way_to_earlier pending 0 other e in absurd (omega arith)
step_by pending (suc at) None e = rw e refl
step_by pending (suc at) (Some other) e =
    let earlier = gives_way_to_earlier pending (suc at) other e in
    rw e (same_within pending (suc at) other at other (omega arith) (omega arith) (omega arith))

-- an access that gives way to another ends where that one does
pub way_step : (pending : List PendingAccess) (at : ℕ) →
    way pending at ≡ option_map_or (way pending) (first_in_way pending at) at
way_step pending at = step_by pending at (first_in_way pending at) refl
