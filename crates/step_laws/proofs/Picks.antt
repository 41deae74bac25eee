-- The rank that is picked may have a turn; where none is picked, none may. So it is in each order.
use Rattle.std.proofs.Common.{◌≡◌, ℕ, zero, suc, ◌+◌, ◌<◌, ◌≤◌, Bool, true, false, List, [], ◌∷◌, ◌++◌, length, take}
use Rattle.std.proofs.Common.{drop, Option, Some, None, refl, sym, subst, arith}
use Rattle.std.specs.Prelude.{slice_get, ◌%◌, reverse}
use Rattle.std.specs.List.{filter, AllByRecursion}
use Rattle.std.specs.Option.{option_map_or}
use Rattle.std.proofs.lemmas.Nat.{mod_below}
use Rattle.list_laws.proofs.Each.{each_take, each_drop, each_append, each_front, each_back, each_at}
use Rattle.rma_types.specs.declared.schedules.Order.{Order}
use Rattle.rma_types.specs.declared.schedules.Order.TheVariants.{Robin, Reverse, Greedy, Seeded}
use Rattle.call_rules.specs.Pieces.{numbers_from}
use Rattle.step_runs.specs.Generator.{drawn_from}
use Rattle.step_runs.specs.Schedules.{Schedule, in_order, turn_of, with_draw, pick_among, pick}
use Rattle.step_laws.proofs.Lists.{each_of_parts}
use Rattle.step_laws.proofs.Lists.{each_reverse, each_unreversed, each_filter, none_filter, numbers_below}
use Rattle.step_laws.proofs.Lists.{number_among}

-- what holds of the ranks in one order holds of them all in another
to_order : (P : ℕ → Type 0) (order : Order) (last ranks : ℕ) → AllByRecursion P (numbers_from 0 ranks) →
    AllByRecursion P (in_order order last ranks)
to_order P Robin last ranks h =
    let all = numbers_from 0 ranks in
    each_append P (drop (last + 1) all) (take (last + 1) all) (each_drop P (last + 1) all h)
    (each_take P (last + 1) all h)
to_order P Reverse last ranks h =
    let all = numbers_from 0 ranks in
    each_append P (reverse (take last all)) (reverse (drop last all))
    (each_reverse P (take last all) (each_take P last all h)) (each_reverse P (drop last all) (each_drop P last all h))
to_order P Greedy last ranks h = h
to_order P Seeded last ranks h = h

of_order : (P : ℕ → Type 0) (order : Order) (last ranks : ℕ) → AllByRecursion P (in_order order last ranks) →
    AllByRecursion P (numbers_from 0 ranks)
of_order P Robin last ranks h =
    let all = numbers_from 0 ranks in
    each_of_parts P (last + 1) all (each_back P (drop (last + 1) all) (take (last + 1) all) h)
    (each_front P (drop (last + 1) all) (take (last + 1) all) h)
of_order P Reverse last ranks h =
    let all = numbers_from 0 ranks in
    each_of_parts P last all
    (each_unreversed P (take last all) (each_front P (reverse (take last all)) (reverse (drop last all)) h))
    (each_unreversed P (drop last all) (each_back P (reverse (take last all)) (reverse (drop last all)) h))
of_order P Greedy last ranks h = h
of_order P Seeded last ranks h = h

-- ---- a rank among those that are ready

-- the waiting ranks stay as they were, and the pick has the property
abbrev pub IsPickOf : (ℕ → Type 0) → Schedule → (ℕ × Schedule) → Type 0
IsPickOf P schedule picked = P picked.0 × (picked.1.waiting ≡ schedule.waiting)

-- the drawn rank, if there is one, with the schedule in which it has the turn
abbrev pub one_drawn : Schedule → Option ℕ → Option (ℕ × Schedule)
one_drawn drawn o = option_map_or (λ one. Some (one, turn_of drawn one)) o None

-- what a draw picks is one of the ranks
drawn_is : (P : ℕ → Type 0) (schedule drawn : Schedule) (ranks : List ℕ) (at : ℕ) (next : ℕ × Schedule) →
    drawn.waiting ≡ schedule.waiting → AllByRecursion P ranks →
    one_drawn drawn (slice_get ranks at) ≡ Some next → IsPickOf P schedule next
drawn_is P schedule drawn ranks at next same all e =
    let go : (o : Option ℕ) → slice_get ranks at ≡ o → one_drawn drawn o ≡ Some next → IsPickOf P schedule next =
    λ o. elim o as (λ o. slice_get ranks at ≡ o → one_drawn drawn o ≡ Some next → IsPickOf P schedule next) [
      | None ↦ λ g h. absurd (cc h)
      | Some one ↦ λ g h.
          let is : (one, turn_of drawn one) ≡ next = cc h in
          subst (λ (n : ℕ × Schedule). IsPickOf P schedule n) is (each_at P ranks at one all g, same)
    ] in
    go (slice_get ranks at) refl e

among_is : (P : ℕ → Type 0) (order : Order) (schedule : Schedule) (ranks : List ℕ) (next : ℕ × Schedule) →
    AllByRecursion P ranks →
    pick_among order schedule ranks ≡ Some next → IsPickOf P schedule next
among_is P order schedule [] next all e = absurd (cc e)
among_is P Robin schedule (rank ∷ ranks) next all e =
    let is : (rank, turn_of schedule rank) ≡ next = cc e in subst (λ (n : ℕ × Schedule). IsPickOf P schedule n) is
    (all.0, refl)
among_is P Reverse schedule (rank ∷ ranks) next all e =
    let is : (rank, turn_of schedule rank) ≡ next = cc e in subst (λ (n : ℕ × Schedule). IsPickOf P schedule n) is
    (all.0, refl)
among_is P Greedy schedule (rank ∷ ranks) next all e =
    let is : (rank, turn_of schedule rank) ≡ next = cc e in subst (λ (n : ℕ × Schedule). IsPickOf P schedule n) is
    (all.0, refl)
among_is P Seeded schedule (rank ∷ ranks) next all e =
    drawn_is P schedule (with_draw schedule) (rank ∷ ranks)
    (drawn_from (with_draw schedule).draws % length (rank ∷ ranks)) next refl all e

-- one is picked where there are some
some_get : {X : Type 0} (xs : List X) (i : ℕ) → i < length xs → slice_get xs i ≡ None → ⊥
some_get [] i inside e = omega arith
some_get (x ∷ xs) zero inside e = cc e
some_get (x ∷ xs) (suc i) inside e = some_get xs i (omega arith) e

none_drawn : (drawn : Schedule) (ranks : List ℕ) (at : ℕ) → at < length ranks →
    one_drawn drawn (slice_get ranks at) ≡ None → ⊥
none_drawn drawn ranks at inside e =
    let go : (o : Option ℕ) → slice_get ranks at ≡ o → one_drawn drawn o ≡ None → ⊥ =
    λ o. elim o as (λ o. slice_get ranks at ≡ o → one_drawn drawn o ≡ None → ⊥) [
      | None ↦ λ g h. some_get ranks at inside g
      | Some one ↦ λ g h. absurd (cc h)
    ] in
    go (slice_get ranks at) refl e

none_among : (order : Order) (schedule : Schedule) (ranks : List ℕ) → pick_among order schedule ranks ≡ None →
    ranks ≡ []
none_among order schedule [] e = refl
none_among Robin schedule (rank ∷ ranks) e = absurd (cc e)
none_among Reverse schedule (rank ∷ ranks) e = absurd (cc e)
none_among Greedy schedule (rank ∷ ranks) e = absurd (cc e)
none_among Seeded schedule (rank ∷ ranks) e =
    let at = drawn_from (with_draw schedule).draws in
    absurd (none_drawn (with_draw schedule) (rank ∷ ranks) (at % length (rank ∷ ranks))
    (mod_below at (length (rank ∷ ranks)) (omega arith)) e)

-- ---- picks

-- a rank of the run that may have a turn
abbrev pub MayGo : (ℕ → Bool) → ℕ → ℕ → Type 0
MayGo ready ranks rank = (rank < ranks) × (ready rank ≡ true)

-- the rank that is picked may have a turn, and no rank begins or ends to wait by the pick
pub pick_is : (order : Order) (ready : ℕ → Bool) (ranks : ℕ) (schedule : Schedule) (next : ℕ × Schedule) →
    pick order ready ranks schedule ≡ Some next →
    IsPickOf (MayGo ready ranks) schedule next
pick_is order ready ranks schedule next e =
    among_is (MayGo ready ranks) order schedule (filter ready (in_order order schedule.last ranks)) next
    (each_filter (λ rank. rank < ranks) ready (in_order order schedule.last ranks)
    (to_order (λ rank. rank < ranks) order schedule.last ranks
    (subst (λ m. AllByRecursion (λ n. n < m) (numbers_from 0 ranks)) (omega arith) (numbers_below 0 ranks)))) e

-- where none is picked none may have a turn
pub none_may_go : (order : Order) (ready : ℕ → Bool) (ranks : ℕ) (schedule : Schedule) →
    pick order ready ranks schedule ≡ None →
    (rank : ℕ) → rank < ranks → ready rank ≡ false
none_may_go order ready ranks schedule e rank inside =
    let none = none_filter ready (in_order order schedule.last ranks)
    (none_among order schedule (filter ready (in_order order schedule.last ranks)) e) in
    number_among (λ n. ready n ≡ false) 0 ranks rank (of_order (λ n. ready n ≡ false) order schedule.last ranks none)
    (omega arith) (omega arith)
