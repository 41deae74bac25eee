-- The update that is found at a place is the one that the list has there.
use Rattle.std.proofs.Common.{◌≡◌, ℕ, zero, suc, ◌+◌, ◌<◌, Bool, true, false, cond, List, [], ◌∷◌, ◌++◌, Some, None}
use Rattle.std.proofs.Common.{length, get_or, refl, sym, ap, ◌∙◌, inl, inr, arith, add-one}
use Rattle.std.specs.List.{count_by, find, filter}
use Rattle.std.specs.Option.{option_map_or}
use Rattle.std.proofs.lemmas.Bool.{cases_Bool, cond-true, cond-false, eq-eqb, ne_eqb}
use Rattle.std.proofs.lemmas.List.Sums.{length-filter}
use Rattle.lawful_runs.specs.Cells.{state, bits_after, has_place}
use Rattle.lawful_runs.specs.Accesses.{Touching}
use Rattle.run_examples.specs.CellLaws.{FoldsOneAtATime, StaysWithoutAnUpdate, ChangesNothingBefore}
use Rattle.run_examples.proofs.cells.updates_of_a_cell.Goals as goal

-- the count of a list that begins with an element that passes, and of one that begins with another
count_yes : {X : Type 0} (p : X → Bool) (x : X) (xs : List X) → p x ≡ true → count_by p (x ∷ xs) ≡ count_by p xs + 1
count_yes p x xs passes =
    let all = length-filter p (x ∷ xs) in
    let rest = length-filter p xs in
    let kept = ap (λ ys. length ys) (cond-true (p x) (x ∷ filter p xs) (filter p xs) passes) in
    grind arith

count_no : {X : Type 0} (p : X → Bool) (x : X) (xs : List X) → p x ≡ false → count_by p (x ∷ xs) ≡ count_by p xs
count_no p x xs fails =
    let all = length-filter p (x ∷ xs) in
    let rest = length-filter p xs in
    let kept = ap (λ ys. length ys) (cond-false (p x) (x ∷ filter p xs) (filter p xs) fails) in
    grind arith

-- where no element passes, none is found
finds_none : {X : Type 0} (p : X → Bool) (xs : List X) → count_by p xs ≡ 0 → find p xs ≡ None
finds_none p [] none = refl
finds_none p (x ∷ xs) none = elim (cases_Bool (p x)) [
  | inl passes ↦ let counted = count_yes p x xs passes in absurd (omega (arith, counted, none))
  | inr fails ↦ cond-false (p x) (Some x) (find p xs) fails ∙ finds_none p xs (sym (count_no p x xs fails) ∙ none)
]

-- an element that passes is found where no other passes
not_none : {X : Type 0} (p : X → Bool) (xs : List X) (x : X) (k : ℕ) → p x ≡ true → k < length xs → get_or xs k x ≡ x →
    count_by p xs ≡ 0 → ⊥
not_none p [] x k passes inside is none = absurd (omega (arith, inside))
not_none p (y ∷ ys) x zero passes inside is none =
    let counted = count_yes p y ys (ap p is ∙ passes) in absurd (omega (arith, counted, none))
not_none p (y ∷ ys) x (suc k) passes inside is none = elim (cases_Bool (p y)) [
  | inl here ↦ let counted = count_yes p y ys here in absurd (omega (arith, counted, none))
  | inr fails ↦ not_none p ys x k passes (omega (arith, inside)) is (sym (count_no p y ys fails) ∙ none)
]

finds_once : {X : Type 0} (p : X → Bool) (xs : List X) (x : X) (k : ℕ) → p x ≡ true → k < length xs →
    get_or xs k x ≡ x → count_by p xs ≡ 1 → find p xs ≡ Some x
finds_once p [] x k passes inside is once = absurd (omega (arith, inside))
finds_once p (y ∷ ys) x zero passes inside is once =
    cond-true (p y) (Some y) (find p ys) (ap p is ∙ passes) ∙ ap (λ z. Some z) is
finds_once p (y ∷ ys) x (suc k) passes inside is once = elim (cases_Bool (p y)) [
  | inl here ↦
      let counted = count_yes p y ys here in
      let none : count_by p ys ≡ 0 = omega (arith, counted, once) in
      absurd (not_none p ys x k passes (omega (arith, inside)) is none)
  | inr fails ↦
      cond-false (p y) (Some y) (find p ys) fails
      ∙ finds_once p ys x k passes (omega (arith, inside)) is (sym (count_no p y ys fails) ∙ once)
]

-- an element that does not pass makes no difference to what is found
finds_past : {X : Type 0} (p : X → Bool) (front back : List X) (x : X) → p x ≡ false →
    find p (front ++ x ∷ back) ≡ find p (front ++ back)
finds_past p [] back x fails = cond-false (p x) (Some x) (find p back) fails
finds_past p (y ∷ front) back x fails = ap (λ rest. cond (p y) (Some y) rest) (finds_past p front back x fails)

one_at_a_time : FoldsOneAtATime
one_at_a_time updates update has once =
    let place = update.place in
    let found = finds_once (has_place place) updates update has.0 (eq-eqb place place refl) has.1 has.2 once in
    ap (λ n. state updates n) (add-one place)
    ∙ ap (λ one. option_map_or (λ (u : Touching). bits_after (state updates place) u.change) one (state updates place))
    found

without_an_update : StaysWithoutAnUpdate
without_an_update updates place none =
    ap (λ n. state updates n) (add-one place)
    ∙ ap (λ one. option_map_or (λ (u : Touching). bits_after (state updates place) u.change) one (state updates place))
    (finds_none (has_place place) updates none)

before : ChangesNothingBefore
before front back update zero below = refl
before front back update (suc place) below =
    let all = front ++ update ∷ back in
    let rest = front ++ back in
    let found = finds_past (has_place place) front back update
    (ne_eqb update.place place (λ same. absurd (omega (arith, same, below)))) in
    ap (λ one. option_map_or (λ (u : Touching). bits_after (state all place) u.change) one (state all place)) found
    ∙ ap (λ (bits : ℕ). option_map_or (λ (u : Touching). bits_after bits u.change) (find (has_place place) rest) bits)
    (before front back update place (omega (arith, below)))

pub returns : goal.returns
returns c = record { one_at_a_time = one_at_a_time; without_an_update = without_an_update; before = before }
