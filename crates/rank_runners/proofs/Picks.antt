-- The rank that is picked is the first that is ready, or a drawn one.
use Rattle.std.proofs.Common.{◌≡◌, ◌∙◌, ◌+◌, ◌-◌, ◌<◌, ℕ, zero, suc, Bool, true, false, cond, List, [], ◌∷◌, ◌++◌}
use Rattle.std.proofs.Common.{length, take, drop, refl, sym, ap, subst, arith}
use Rattle.std.specs.Prelude.{Option, Some, None, ◌%◌, reverse, slice_get}
use Rattle.std.specs.List.{find, filter}
use Rattle.std.specs.Option.{option_map_or, option_or}
use Rattle.std.proofs.lemmas.List.Elements.{filter-append}
use Rattle.std.proofs.lemmas.List.Folds.{find-append}
use Rattle.rma_types.specs.declared.schedules.Order.{Order}
use Rattle.rma_types.specs.declared.schedules.Order.TheVariants.{Robin, Reverse, Greedy, Seeded}
use Rattle.call_rules.specs.Pieces.{numbers_from}
use Rattle.std.proofs.lemmas.Nat.{mod_below}
use Rattle.std.proofs.lemmas.Option.{slice_get-get_or}
use Rattle.rank_runners.specs.Marks.{IsKept, IsPicked}
use Rattle.rank_runners.specs.RankSets.{has}
use Rattle.rank_runners.specs.declared.rank_sets.RankSet.{RankSet}
use Rattle.rank_runners.specs.declared.schedules.Turns.{Turns}
use Rattle.rank_runners.proofs.Numbers.{drop_numbers, take_numbers, reversed_more}
use Rattle.step_runs.specs.Generator.{drawn_from, next_state}
use Rattle.step_runs.specs.Schedules.{Schedule, in_order, turn_of, with_draw, pick_among, pick}

-- ascending and round, after the last one
pub robin_order : (test : ℕ → Bool) (last ranks : ℕ) → last < ranks
    → find test (in_order Robin last ranks)
    ≡ option_or (find test (numbers_from (last + 1) (ranks - (last + 1)))) (find test (numbers_from 0 (last + 1)))
robin_order test last ranks h =
    let from : 0 + (last + 1) ≡ last + 1 = omega arith in
    find-append test (drop (last + 1) (numbers_from 0 ranks)) (take (last + 1) (numbers_from 0 ranks))
    ∙ ap (λ (xs : List ℕ). option_or (find test xs) (find test (take (last + 1) (numbers_from 0 ranks))))
    (drop_numbers 0 ranks (last + 1) ∙ ap (λ n. numbers_from n (ranks - (last + 1))) from)
    ∙ ap (λ (xs : List ℕ). option_or (find test (numbers_from (last + 1) (ranks - (last + 1)))) (find test xs))
    (take_numbers 0 ranks (last + 1) (omega arith))

-- descending and round, before the last one
pub reverse_order : (test : ℕ → Bool) (last ranks : ℕ) → last < ranks
    → find test (in_order Reverse last ranks)
    ≡ option_or (find test (reverse (numbers_from 0 (last - 0))))
    (find test (reverse (numbers_from last (ranks - last))))
reverse_order test last ranks h =
    let from : 0 + last ≡ last = omega arith in
    let all : last - 0 ≡ last = omega arith in
    find-append test (reverse (take last (numbers_from 0 ranks))) (reverse (drop last (numbers_from 0 ranks)))
    ∙ ap (λ (xs : List ℕ). option_or (find test (reverse xs)) (find test (reverse (drop last (numbers_from 0 ranks)))))
    (take_numbers 0 ranks last (omega arith) ∙ ap (λ n. numbers_from 0 n) (sym all))
    ∙ ap (λ (xs : List ℕ). option_or (find test (reverse (numbers_from 0 (last - 0)))) (find test (reverse xs)))
    (drop_numbers 0 ranks last ∙ ap (λ n. numbers_from n (ranks - last)) from)

-- the first that is ready, with its turn
abbrev pub first_of : Schedule → Option ℕ → Option (ℕ × Schedule)
first_of schedule o = option_map_or (λ rank. Some (rank, turn_of schedule rank)) o None

robin_first : (schedule : Schedule) (test : ℕ → Bool) (xs : List ℕ)
    → pick_among Robin schedule (filter test xs) ≡ first_of schedule (find test xs)
robin_first schedule test [] = refl
robin_first schedule test (x ∷ xs) = by (test x) (robin_first schedule test xs)
  where
    by : (b : Bool) → pick_among Robin schedule (filter test xs) ≡ first_of schedule (find test xs)
        → pick_among Robin schedule (cond b (x ∷ filter test xs) (filter test xs))
        ≡ first_of schedule (cond b (Some x) (find test xs))
    by true e = refl
    by false e = e

reverse_first : (schedule : Schedule) (test : ℕ → Bool) (xs : List ℕ)
    → pick_among Reverse schedule (filter test xs) ≡ first_of schedule (find test xs)
reverse_first schedule test [] = refl
reverse_first schedule test (x ∷ xs) = by (test x) (reverse_first schedule test xs)
  where
    by : (b : Bool) → pick_among Reverse schedule (filter test xs) ≡ first_of schedule (find test xs)
        → pick_among Reverse schedule (cond b (x ∷ filter test xs) (filter test xs))
        ≡ first_of schedule (cond b (Some x) (find test xs))
    by true e = refl
    by false e = e

greedy_first : (schedule : Schedule) (test : ℕ → Bool) (xs : List ℕ)
    → pick_among Greedy schedule (filter test xs) ≡ first_of schedule (find test xs)
greedy_first schedule test [] = refl
greedy_first schedule test (x ∷ xs) = by (test x) (greedy_first schedule test xs)
  where
    by : (b : Bool) → pick_among Greedy schedule (filter test xs) ≡ first_of schedule (find test xs)
        → pick_among Greedy schedule (cond b (x ∷ filter test xs) (filter test xs))
        ≡ first_of schedule (cond b (Some x) (find test xs))
    by true e = refl
    by false e = e

-- the order is not that of draws
abbrev pub IsSought : Order → Type 0
IsSought Robin = Unit {0}
IsSought Reverse = Unit {0}
IsSought Greedy = Unit {0}
IsSought Seeded = ⊥

pub sought_pick : (order : Order) (schedule : Schedule) (test : ℕ → Bool) (ranks : ℕ) → IsSought order
    → pick order test ranks schedule ≡ first_of schedule (find test (in_order order schedule.last ranks))
sought_pick Robin schedule test ranks h = robin_first schedule test (in_order Robin schedule.last ranks)
sought_pick Reverse schedule test ranks h = reverse_first schedule test (in_order Reverse schedule.last ranks)
sought_pick Greedy schedule test ranks h = greedy_first schedule test (in_order Greedy schedule.last ranks)
sought_pick Seeded schedule test ranks h = absurd h

-- the drawn one, with its turn
abbrev pub drawn_of : Schedule → List ℕ → Option (ℕ × Schedule)
drawn_of schedule ranks =
    option_map_or (λ one. Some (one, turn_of (with_draw schedule) one))
    (slice_get ranks (drawn_from (with_draw schedule).draws % length ranks)) None

pub seeded_none : (schedule : Schedule) (ranks : List ℕ) → length ranks ≡ 0 → pick_among Seeded schedule ranks ≡ None
seeded_none schedule [] h = refl
seeded_none schedule (rank ∷ ranks) h = absurd (omega arith)

pub seeded_some : (schedule : Schedule) (ranks : List ℕ) → 0 < length ranks
    → pick_among Seeded schedule ranks ≡ drawn_of schedule ranks
seeded_some schedule [] h = absurd (omega arith)
seeded_some schedule (rank ∷ ranks) h = refl

-- ---- what the code picks

numbers_below : (test : ℕ → Bool) (from count rank : ℕ) → find test (numbers_from from count) ≡ Some rank
    → rank < from + count
numbers_below test from zero rank e = cc
numbers_below test from (suc count) rank e = by (numbers_below test (from + 1) count rank) (test from) e
  where
    by : (find test (numbers_from (from + 1) count) ≡ Some rank → rank < from + 1 + count) → (b : Bool)
        → cond b (Some from) (find test (numbers_from (from + 1) count)) ≡ Some rank → rank < from + suc count
    by more true h = let same : from ≡ rank = cc in omega arith
    by more false h = let below = more h in omega arith

got_below : (test : ℕ → Bool) (from count at rank : ℕ)
    → slice_get (filter test (numbers_from from count)) at ≡ Some rank → rank < from + count
got_below test from zero at rank e = cc
got_below test from (suc count) at rank e = by (λ k. got_below test (from + 1) count k rank) (test from) e
  where
    further : ((k : ℕ) → slice_get (filter test (numbers_from (from + 1) count)) k ≡ Some rank
        → rank < from + 1 + count)
        → (at : ℕ) → slice_get (from ∷ filter test (numbers_from (from + 1) count)) at ≡ Some rank
        → rank < from + suc count
    further more zero h = let same : from ≡ rank = cc in omega arith
    further more (suc k) h = let below = more k h in omega arith

    by : ((k : ℕ) → slice_get (filter test (numbers_from (from + 1) count)) k ≡ Some rank → rank < from + 1 + count)
        → (b : Bool)
        → slice_get (cond b (from ∷ filter test (numbers_from (from + 1) count))
        (filter test (numbers_from (from + 1) count))) at ≡ Some rank
        → rank < from + suc count
    by more true h = further more at h
    by more false h = let below = more at h in omega arith

found_in_top : (test : ℕ → Bool) (from count rank : ℕ) → find test (reverse (numbers_from from count)) ≡ Some rank
    → rank < from + count
found_in_top test from zero rank e = cc
found_in_top test from (suc count) rank e =
    by (found_in_top test from count rank) (test (from + count)) (sym (ap (find test) (reversed_more from count)) ∙ e)
  where
    by : (find test (reverse (numbers_from from count)) ≡ Some rank → rank < from + count) → (b : Bool)
        → cond b (Some (from + count)) (find test (reverse (numbers_from from count))) ≡ Some rank
        → rank < from + suc count
    by more true h = let same : from + count ≡ rank = cc in omega arith
    by more false h = let below = more h in omega arith

either : (P : ℕ → Type 0) (a b : Option ℕ) (rank : ℕ) → (a ≡ Some rank → P rank) → (b ≡ Some rank → P rank)
    → option_or a b ≡ Some rank → P rank
either P None b rank f g e = g e
either P (Some x) b rank f g e = f e

first_passes : (test : ℕ → Bool) (xs : List ℕ) (rank : ℕ) → find test xs ≡ Some rank → test rank ≡ true
first_passes test [] rank e = cc
first_passes test (x ∷ xs) rank e = by (test x) refl e (first_passes test xs rank)
  where
    by : (b : Bool) → test x ≡ b → cond b (Some x) (find test xs) ≡ Some rank
        → (find test xs ≡ Some rank → test rank ≡ true) → test rank ≡ true
    by true t h more = let same : x ≡ rank = cc in ap test (sym same) ∙ t
    by false t h more = more h

got_passes : (test : ℕ → Bool) (xs : List ℕ) (at rank : ℕ) → slice_get (filter test xs) at ≡ Some rank
    → test rank ≡ true
got_passes test [] at rank e = cc
got_passes test (x ∷ xs) at rank e = by (test x) refl at e (λ k. got_passes test xs k rank)
  where
    by : (b : Bool) → test x ≡ b → (at : ℕ) → slice_get (cond b (x ∷ filter test xs) (filter test xs)) at ≡ Some rank
        → ((k : ℕ) → slice_get (filter test xs) k ≡ Some rank → test rank ≡ true) → test rank ≡ true
    by true t zero h more = let same : x ≡ rank = cc in ap test (sym same) ∙ t
    by true t (suc k) h more = more k h
    by false t k h more = more k h

-- the first that is ready is one of the ranks
pub first_below : (order : Order) (test : ℕ → Bool) (last ranks rank : ℕ) → last < ranks
    → find test (in_order order last ranks) ≡ Some rank → rank < ranks
first_below Robin test last ranks rank h e =
    either (λ rank. rank < ranks) (find test (numbers_from (last + 1) (ranks - (last + 1))))
    (find test (numbers_from 0 (last + 1))) rank
    (λ f. let below = numbers_below test (last + 1) (ranks - (last + 1)) rank f in omega arith)
    (λ f. let below = numbers_below test 0 (last + 1) rank f in omega arith) (sym (robin_order test last ranks h) ∙ e)
first_below Reverse test last ranks rank h e =
    either (λ rank. rank < ranks) (find test (reverse (numbers_from 0 (last - 0))))
    (find test (reverse (numbers_from last (ranks - last)))) rank
    (λ f. let below = found_in_top test 0 (last - 0) rank f in omega arith)
    (λ f. let below = found_in_top test last (ranks - last) rank f in omega arith)
    (sym (reverse_order test last ranks h) ∙ e)
first_below Greedy test last ranks rank h e = let below = numbers_below test 0 ranks rank e in omega arith
first_below Seeded test last ranks rank h e = let below = numbers_below test 0 ranks rank e in omega arith

pub drawn_below : (test : ℕ → Bool) (ranks at rank : ℕ)
    → slice_get (filter test (numbers_from 0 ranks)) at ≡ Some rank → rank < ranks
drawn_below test ranks at rank e = let below = got_below test 0 ranks at rank e in omega arith

picks : (order : Order) (kept new : Turns) (test : ℕ → Bool) (ranks : ℕ) (schedule : Schedule) (o : Option ℕ)
    → IsSought order → IsKept kept schedule
    → o ≡ find test (in_order order kept.last ranks) → pick order test ranks schedule ≡ first_of schedule o
picks order kept new test ranks schedule o s k e =
    sought_pick order schedule test ranks s
    ∙ ap (λ last. first_of schedule (find test (in_order order last ranks))) (sym k.last)
    ∙ ap (first_of schedule) (sym e)

pub picked_some : (order : Order) (kept : Turns) (ready : RankSet) (ranks rank : ℕ) → IsSought order → kept.last < ranks
    → Some rank ≡ find (has ready) (in_order order kept.last ranks)
    → (schedule : Schedule) → IsKept kept schedule
    → IsPicked ready ranks schedule (pick order (has ready) ranks schedule) (Some rank) (record kept { last = rank })
picked_some order kept ready ranks rank s within e schedule k =
    let P : Option (ℕ × Schedule) → Type 0 = λ o. IsPicked ready ranks schedule o (Some rank)
    (record kept { last = rank }) in
    subst P (sym (picks order kept kept (has ready) ranks schedule (Some rank) s k e)) (
      refl,
      first_below order (has ready) kept.last ranks rank within (sym e),
      first_passes (has ready)
          (in_order order kept.last ranks) rank (sym e),
      refl,
      record { waiting = k.waiting; last = refl; draws = k.draws },
    )

pub picked_none : (order : Order) (kept : Turns) (ready : RankSet) (ranks : ℕ) → IsSought order
    → None ≡ find (has ready) (in_order order kept.last ranks)
    → (schedule : Schedule) → IsKept kept schedule
    → IsPicked ready ranks schedule (pick order (has ready) ranks schedule) None kept
picked_none order kept ready ranks s e schedule k =
    let P : Option (ℕ × Schedule) → Type 0 = λ o. IsPicked ready ranks schedule o None kept in
    subst P (sym (picks order kept kept (has ready) ranks schedule None s k e)) (refl, k)

pub is_sought : (order : Order) → (order ≡ Seeded → ⊥) → IsSought order
is_sought Robin h = tt
is_sought Reverse h = tt
is_sought Greedy h = tt
is_sought Seeded h = h refl

pub drawn_some : (kept : Turns) (ready : RankSet) (ranks rank draws at : ℕ)
    → 0 < length (filter (has ready) (numbers_from 0 ranks))
    → draws ≡ next_state kept.draws → at ≡ drawn_from draws % length (filter (has ready) (numbers_from 0 ranks))
    → Some rank ≡ slice_get (filter (has ready) (numbers_from 0 ranks)) at
    → (schedule : Schedule) → IsKept kept schedule
    → IsPicked ready ranks schedule (pick Seeded (has ready) ranks schedule) (Some rank)
    (record { waiting = kept.waiting; last = rank; draws = draws })
drawn_some kept ready ranks rank draws at some d a e schedule k =
    let all = filter (has ready) (numbers_from 0 ranks) in
    let now : draws ≡ (with_draw schedule).draws = d ∙ ap next_state k.draws in
    let place : at ≡ drawn_from (with_draw schedule).draws % length all = a ∙ ap (λ n. drawn_from n % length all) now in
    let got : slice_get all (drawn_from (with_draw schedule).draws % length all)
    ≡ Some rank = ap (slice_get all) (sym place) ∙ sym e in
    let is : pick Seeded (has ready) ranks schedule ≡ Some (rank, turn_of (with_draw schedule) rank) =
    seeded_some schedule all some ∙ ap
    (λ (o : Option ℕ). option_map_or (λ one. Some (one, turn_of (with_draw schedule) one)) o None) got in
    let P : Option (ℕ × Schedule) → Type 0 = λ o. IsPicked ready ranks schedule o (Some rank)
    (record { waiting = kept.waiting; last = rank; draws = draws }) in
    subst P (sym is) (
      refl,
      drawn_below (has ready) ranks at rank (sym e),
      got_passes (has ready)
          (numbers_from 0 ranks) at rank (sym e),
      refl,
      record { waiting = k.waiting; last = refl; draws = now },
    )

pub drawn_no_rank : (kept : Turns) (ready : RankSet) (ranks : ℕ)
    → length (filter (has ready) (numbers_from 0 ranks)) ≡ 0
    → (schedule : Schedule) → IsKept kept schedule
    → IsPicked ready ranks schedule (pick Seeded (has ready) ranks schedule) None kept
drawn_no_rank kept ready ranks none schedule k =
    let P : Option (ℕ × Schedule) → Type 0 = λ o. IsPicked ready ranks schedule o None kept in
    subst P (sym (seeded_none schedule (filter (has ready) (numbers_from 0 ranks)) none)) (refl, k)

-- a draw is never past the ranks that are ready
pub drawn_within : (xs : List ℕ) (draw at : ℕ) → 0 < length xs → at ≡ draw % length xs → None ≡ slice_get xs at → ⊥
drawn_within xs draw at some a e =
    let below : at < length xs = let l = mod_below draw (length xs) some in omega arith in
    let got = slice_get-get_or xs at 0 below in
    cc

-- ---- the same ranks are ready

same_kept : (f g : ℕ → Bool) (from count : ℕ) → ((rank : ℕ) → rank < from + count → f rank ≡ g rank)
    → filter f (numbers_from from count) ≡ filter g (numbers_from from count)
same_kept f g from zero same = refl
same_kept f g from (suc count) same =
    ap (λ b. cond b (from ∷ filter f (numbers_from (from + 1) count)) (filter f (numbers_from (from + 1) count)))
    (same from (omega arith))
    ∙ ap (λ (xs : List ℕ). cond (g from) (from ∷ xs) xs)
    (same_kept f g (from + 1) count (λ rank h. same rank (omega arith)))

same_kept_down : (f g : ℕ → Bool) (from count : ℕ) → ((rank : ℕ) → rank < from + count → f rank ≡ g rank)
    → filter f (reverse (numbers_from from count)) ≡ filter g (reverse (numbers_from from count))
same_kept_down f g from zero same = refl
same_kept_down f g from (suc count) same =
    let rest = reverse (numbers_from from count) in
    ap (filter f) (reversed_more from count)
    ∙ ap (λ b. cond b ((from + count) ∷ filter f rest) (filter f rest)) (same (from + count) (omega arith))
    ∙ ap (λ (xs : List ℕ). cond (g (from + count)) ((from + count) ∷ xs) xs)
    (same_kept_down f g from count (λ rank h. same rank (omega arith)))
    ∙ sym (ap (filter g) (reversed_more from count))

same_in : (f g : ℕ → Bool) (order : Order) (last ranks : ℕ) → last < ranks
    → ((rank : ℕ) → rank < ranks → f rank ≡ g rank)
    → filter f (in_order order last ranks) ≡ filter g (in_order order last ranks)
same_in f g Robin last ranks h same =
    let after = drop_numbers 0 ranks (last + 1) in
    let upto = take_numbers 0 ranks (last + 1) (omega arith) in
    filter-append f (drop (last + 1) (numbers_from 0 ranks)) (take (last + 1) (numbers_from 0 ranks))
    ∙ ap (λ (xs : List ℕ). filter f xs ++ filter f (take (last + 1) (numbers_from 0 ranks))) after
    ∙ ap (λ (xs : List ℕ). filter f (numbers_from (0 + (last + 1)) (ranks - (last + 1))) ++ filter f xs) upto
    ∙ ap (λ (xs : List ℕ). xs ++ filter f (numbers_from 0 (last + 1)))
    (same_kept f g (0 + (last + 1)) (ranks - (last + 1)) (λ rank l. same rank (omega arith)))
    ∙ ap (λ (xs : List ℕ). filter g (numbers_from (0 + (last + 1)) (ranks - (last + 1))) ++ xs)
    (same_kept f g 0 (last + 1) (λ rank l. same rank (omega arith)))
    ∙ sym (filter-append g (drop (last + 1) (numbers_from 0 ranks)) (take (last + 1) (numbers_from 0 ranks))
    ∙ ap (λ (xs : List ℕ). filter g xs ++ filter g (take (last + 1) (numbers_from 0 ranks))) after
    ∙ ap (λ (xs : List ℕ). filter g (numbers_from (0 + (last + 1)) (ranks - (last + 1))) ++ filter g xs) upto)
same_in f g Reverse last ranks h same =
    let after = drop_numbers 0 ranks last in
    let upto = take_numbers 0 ranks last (omega arith) in
    filter-append f (reverse (take last (numbers_from 0 ranks))) (reverse (drop last (numbers_from 0 ranks)))
    ∙ ap (λ (xs : List ℕ). filter f (reverse xs) ++ filter f (reverse (drop last (numbers_from 0 ranks)))) upto
    ∙ ap (λ (xs : List ℕ). filter f (reverse (numbers_from 0 last)) ++ filter f (reverse xs)) after
    ∙ ap (λ (xs : List ℕ). xs ++ filter f (reverse (numbers_from (0 + last) (ranks - last))))
    (same_kept_down f g 0 last (λ rank l. same rank (omega arith)))
    ∙ ap (λ (xs : List ℕ). filter g (reverse (numbers_from 0 last)) ++ xs)
    (same_kept_down f g (0 + last) (ranks - last) (λ rank l. same rank (omega arith)))
    ∙ sym (filter-append g (reverse (take last (numbers_from 0 ranks))) (reverse (drop last (numbers_from 0 ranks)))
    ∙ ap (λ (xs : List ℕ). filter g (reverse xs) ++ filter g (reverse (drop last (numbers_from 0 ranks)))) upto
    ∙ ap (λ (xs : List ℕ). filter g (reverse (numbers_from 0 last)) ++ filter g (reverse xs)) after)
same_in f g Greedy last ranks h same = same_kept f g 0 ranks (λ rank l. same rank (omega arith))
same_in f g Seeded last ranks h same = same_kept f g 0 ranks (λ rank l. same rank (omega arith))

-- the pick asks no more than which of the ranks are ready
pub pick_same : (f g : ℕ → Bool) (order : Order) (ranks : ℕ) (schedule : Schedule) → schedule.last < ranks
    → ((rank : ℕ) → rank < ranks → f rank ≡ g rank) → pick order f ranks schedule ≡ pick order g ranks schedule
pick_same f g order ranks schedule h same = ap (pick_among order schedule)
    (same_in f g order schedule.last ranks h same)
