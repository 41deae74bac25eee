-- The access in which a way ends gives way to none.
use Rattle.std.proofs.Common.{◌≡◌, ℕ, zero, suc, ◌<◌, ◌≤◌, Bool, true, false, cond, List, [], ◌∷◌, length, Option}
use Rattle.std.proofs.Common.{Some, None, refl, arith}
use Rattle.std.specs.Prelude.{nat_lt}
use Rattle.std.specs.List.{position, position_or_len}
use Rattle.std.specs.Option.{option_map_or}
use Rattle.std.proofs.lemmas.Bool.{ltb-true}
use Rattle.rank_rules.specs.Pending.{first_in_way, way_in, way}
use Rattle.rank_rules.specs.declared.pending.PendingAccess.{PendingAccess}
use Rattle.rank_rules.proofs.PendingLaws.{gives_way_to_earlier}

-- a place is within its list
pub position_within : {X : Type 0} (test : X → Bool) (xs : List X) (at : ℕ) → position test xs ≡ Some at →
    at < length xs
position_within test xs at e =
    elim (nat_lt (position_or_len test xs) (length xs)) as (λ b. nat_lt (position_or_len test xs) (length xs) ≡ b →
    cond b (Some (position_or_len test xs)) None ≡ Some at → at < length xs) [
      | true ↦ λ t some. let less = ltb-true (position_or_len test xs)
          (length xs) t in let same : position_or_len test xs ≡ at = cc some in omega arith
      | false ↦ λ t none. absurd (cc none)
    ] refl e

-- as many steps as the place are enough
way_ends : (steps : ℕ) (pending : List PendingAccess) (at : ℕ) → at ≤ steps →
    first_in_way pending (way_in steps pending at) ≡ None
way_ends zero pending at h =
    elim (first_in_way pending at) as (λ (o : Option ℕ). first_in_way pending at ≡ o →
    first_in_way pending at ≡ None) [
      | None ↦ λ e. e
      | Some earlier ↦ λ e. let less = gives_way_to_earlier pending at earlier e in absurd (omega arith)
    ] refl
way_ends (suc steps) pending at h =
    elim (first_in_way pending at) as (λ (o : Option ℕ). first_in_way pending at ≡ o →
    first_in_way pending (option_map_or (way_in steps pending) o at) ≡ None) [
      | None ↦ λ e. e
      | Some earlier ↦ λ e. let less = gives_way_to_earlier pending at earlier e in way_ends steps pending earlier
          (omega arith)
    ] refl

-- the end of a way is free
pub way_is_free : (pending : List PendingAccess) (at : ℕ) → first_in_way pending (way pending at) ≡ None
way_is_free pending at = way_ends at pending at (omega arith)

-- the first pending access gives way to none
pub first_is_free : (pending : List PendingAccess) → first_in_way pending 0 ≡ None
first_is_free [] = refl
first_is_free (one ∷ rest) = refl
