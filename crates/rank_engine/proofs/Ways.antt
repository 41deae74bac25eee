-- Where an access gives way in the end, nothing is given way to.
use Rattle.std.proofs.Common.{◌≡◌, ℕ, zero, suc, ◌<◌, Bool, true, false, List, get_or, take, Option, Some, None, refl}
use Rattle.std.proofs.Common.{sym, ◌∙◌, ap, subst, arith}
use Rattle.std.proofs.lemmas.List.Quantifiers.{position-Some}
use Rattle.std.specs.Prelude.{slice_get}
use Rattle.std.specs.List.{position}
use Rattle.std.specs.Option.{option_map_or}
use Rattle.rank_rules.proofs.PendingLaws.{gives_way_to_earlier}
use Rattle.delivery_queue.proofs.GivenWays.{way_step}
use Rattle.rank_rules.specs.declared.pending.PendingAccess.{PendingAccess}
use Rattle.rank_rules.specs.Pending.{first_in_way, gives_way, way}

-- an access that gives way to none is its own
pub way_first : (pending : List PendingAccess) (at : ℕ) → first_in_way pending at ≡ None → way pending at ≡ at
way_first pending at e = way_step pending at ∙ ap (λ o. option_map_or (way pending) o at) e

free_by : (pending : List PendingAccess) (at : ℕ) (o : Option ℕ) → first_in_way pending at ≡ o →
    ((other : ℕ) → other < at → first_in_way pending (way pending other) ≡ None) →
    first_in_way pending (way pending at) ≡ None
free_by pending at None e rest = subst (λ n. first_in_way pending n ≡ None) (sym (way_first pending at e)) e
free_by pending at (Some other) e rest =
    let leads : way pending at ≡ way pending other =
    way_step pending at ∙ ap (λ o. option_map_or (way pending) o at) e in
    subst (λ n. first_in_way pending n ≡ None) (sym leads) (rest other (gives_way_to_earlier pending at other e))

free_within : (pending : List PendingAccess) (bound at : ℕ) → at < bound → first_in_way pending (way pending at) ≡ None
free_within pending zero at l = absurd (omega arith)
free_within pending (suc bound) at l =
    free_by pending at (first_in_way pending at) refl (λ other k. free_within pending bound other (omega arith))

pub way_twice : (pending : List PendingAccess) (at : ℕ) → way pending (way pending at) ≡ way pending at
way_twice pending at = way_first pending (way pending at) (free_within pending (suc at) at (omega arith))

none_found : {X : Type 0} (test : X → Bool) (one : X) → ((x : X) → test x ≡ false) → (xs : List X) →
    position test xs ≡ None
none_found test one none xs = by_place (position test xs) refl
  where
    by_place : (o : Option ℕ) → position test xs ≡ o → o ≡ None
    by_place None e = refl
    by_place (Some i) e =
        let found : test (get_or xs i one) ≡ true = (position-Some test xs i one e).1 in
        absurd (cc (found, none (get_or xs i one)))

-- an access that gives way to no other is its own
pub way_alone : (pending : List PendingAccess) (at : ℕ) (one : PendingAccess) → slice_get pending at ≡ Some one →
    ((other : PendingAccess) → gives_way one other ≡ false) → way pending at ≡ at
way_alone pending at one here alone = way_first pending at
    (ap (λ o. option_map_or (λ (x : PendingAccess). position (gives_way x) (take at pending)) o None) here
    ∙ none_found (gives_way one) one alone (take at pending))
