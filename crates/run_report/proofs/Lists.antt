-- Lemmas on lists alone.
use Rattle.std.proofs.Common.{◌≡◌, ℕ, zero, suc, ◌+◌, ◌-◌, ◌<◌, List, [], ◌∷◌, ◌++◌, length, get_or, take, drop, refl}
use Rattle.std.proofs.Common.{ap, sym, ◌∙◌, arith, Bool, true, false, cond, min, inl, inr}
use Rattle.std.specs.Prelude.{Option, Some, slice_get, ◌&&◌, ◌||◌}
use Rattle.std.specs.List.{find, flat_map, join_with_byte, list_all, list_any, sum_by, count_by}
use Rattle.std.proofs.lemmas.List.{append_assoc, append-nil, at_drop_more, at_drop_all, take_all}
use Rattle.std.proofs.lemmas.Bool.{cases_lt}
use Rattle.std.proofs.lemmas.List.Concat.{flat_map-append}
use Rattle.std.proofs.lemmas.List.Sums.{sum_by_more}
use Rattle.call_rules.specs.Pieces.{numbers_from}

pub join_is : (c : ℕ) (x : List ℕ) (xs : List (List ℕ)) → join_with_byte c (x ∷ xs) ≡ x ++ flat_map (λ y. c ∷ y) xs
join_is c x [] = sym (append-nil x)
join_is c x (y ∷ ys) = ap (λ t. x ++ (c ∷ t)) (join_is c y ys)

pub numbers_step : {Y : Type 0} (F : List ℕ → Y) (k n : ℕ) → k < n
    → F (numbers_from k (n - k)) ≡ F (k ∷ numbers_from (k + 1) (n - (k + 1)))
numbers_step F k n h = let e : n - k ≡ suc (n - (k + 1)) = omega arith in rw e refl

pub flat_map_of_flat_map : {A B C : Type 0} (f : B → List C) (g : A → List B) (xs : List A)
    → flat_map f (flat_map g xs) ≡ flat_map (λ x. flat_map f (g x)) xs
flat_map_of_flat_map f g [] = refl
flat_map_of_flat_map f g (x ∷ xs) = flat_map-append f (g x) (flat_map g xs)
    ∙ ap (λ t. flat_map f (g x) ++ t) (flat_map_of_flat_map f g xs)

-- what the first of the lists that are left decides
all_at : {X : Type 0} (test : List X → Bool) (xs : List (List X)) (k : ℕ) → k < length xs
    → list_all test (drop k xs) ≡ (test (get_or xs k []) && list_all test (drop (k + 1) xs))
all_at test xs k h = at_drop_more (list_all test) xs k [] h

pub all_goes : {X : Type 0} (test : List X → Bool) (xs : List (List X)) (k : ℕ) → k < length xs
    → test (get_or xs k []) ≡ true → list_all test (drop k xs) ≡ list_all test xs
    → list_all test (drop (k + 1) xs) ≡ list_all test xs
all_goes test xs k h e i = ap (λ b. b && list_all test (drop (k + 1) xs)) (sym e) ∙ sym (all_at test xs k h) ∙ i

pub all_stops : {X : Type 0} (test : List X → Bool) (xs : List (List X)) (k : ℕ) → k < length xs
    → test (get_or xs k []) ≡ false → list_all test (drop k xs) ≡ list_all test xs → false ≡ list_all test xs
all_stops test xs k h e i = ap (λ b. b && list_all test (drop (k + 1) xs)) (sym e) ∙ sym (all_at test xs k h) ∙ i

any_at : {X : Type 0} (test : List X → Bool) (xs : List (List X)) (k : ℕ) → k < length xs
    → list_any test (drop k xs) ≡ (test (get_or xs k []) || list_any test (drop (k + 1) xs))
any_at test xs k h = at_drop_more (list_any test) xs k [] h

pub any_goes : {X : Type 0} (test : List X → Bool) (xs : List (List X)) (k : ℕ) → k < length xs
    → test (get_or xs k []) ≡ false → list_any test (drop k xs) ≡ list_any test xs
    → list_any test (drop (k + 1) xs) ≡ list_any test xs
any_goes test xs k h e i = ap (λ b. b || list_any test (drop (k + 1) xs)) (sym e) ∙ sym (any_at test xs k h) ∙ i

pub any_stops : {X : Type 0} (test : List X → Bool) (xs : List (List X)) (k : ℕ) → k < length xs
    → test (get_or xs k []) ≡ true → list_any test (drop k xs) ≡ list_any test xs → true ≡ list_any test xs
any_stops test xs k h e i = ap (λ b. b || list_any test (drop (k + 1) xs)) (sym e) ∙ sym (any_at test xs k h) ∙ i

pub some_at : {X : Type 0} (xs : List X) (k : ℕ) (x : X) → k < length xs → x ≡ get_or xs k x → Some x ≡ slice_get xs k
some_at [] k x h e = absurd (omega arith)
some_at (y ∷ ys) zero x h e = ap Some e
some_at (y ∷ ys) (suc k) x h e = some_at ys k x (omega arith) e

pub take_min : {X : Type 0} (k : ℕ) (xs : List X) → take (min k (length xs)) xs ≡ take k xs
take_min k xs = elim (cases_lt k (length xs)) [
  | inl l ↦ let e : min k (length xs) ≡ k = omega arith in rw e refl
  | inr g ↦ let e : min k (length xs)
      ≡ length xs = omega arith in rw e (take_all (length xs) xs (omega arith) ∙ sym (take_all k xs g))
]

pub drop_min : {X : Type 0} (k : ℕ) (xs : List X) → drop (min k (length xs)) xs ≡ drop k xs
drop_min k xs = elim (cases_lt k (length xs)) [
  | inl l ↦ let e : min k (length xs) ≡ k = omega arith in rw e refl
  | inr g ↦ let e : min k (length xs)
      ≡ length xs = omega arith in rw e (at_drop_all (λ ys. ys) xs (length xs) (omega arith)
      ∙ sym (at_drop_all (λ ys. ys) xs k g))
]

-- one number more is written
pub written_step : (f : ℕ → List ℕ) (k n : ℕ) (text next whole : List ℕ) → k < n
    → text ++ flat_map f (numbers_from k (n - k)) ≡ whole → next ≡ text ++ f k
    → next ++ flat_map f (numbers_from (k + 1) (n - (k + 1))) ≡ whole
written_step f k n text next whole h i e =
    ap (λ t. t ++ flat_map f (numbers_from (k + 1) (n - (k + 1)))) e
    ∙ append_assoc text (f k) (flat_map f (numbers_from (k + 1) (n - (k + 1))))
    ∙ ap (λ t. text ++ t) (sym (numbers_step (flat_map f) k n h)) ∙ i

-- one log more is counted
pub count_more : {X : Type 0} (test : X → Bool) (logs : List (List X)) (k total count : ℕ) (log : List X)
    → k < length logs
    → log ≡ get_or logs k [] → count ≡ count_by test log → total ≡ sum_by (count_by test) (take k logs)
    → total + count ≡ sum_by (count_by test) (take (k + 1) logs)
count_more test logs k total count log h l e t =
    let here : count ≡ count_by test (get_or logs k []) = e ∙ ap (count_by test) l in
    let more : sum_by (count_by test) (take (k + 1) logs)
    ≡ sum_by (count_by test) (take k logs) + count_by test (get_or logs k []) =
    sum_by_more (count_by test) logs k [] h in
    omega arith

-- five parts are written one after the other
pub five_written : (text a b c d e first second third fourth fifth : List ℕ) → a ≡ text ++ first → b ≡ a ++ second
    → c ≡ b ++ third → d ≡ c ++ fourth → e ≡ d ++ fifth
    → e ≡ text ++ (first ++ second ++ third ++ fourth ++ fifth)
five_written text a b c d e first second third fourth fifth p q r s t = rw t
    (rw s (rw r (rw q (rw p (simp append_assoc)))))

numbers_step_found : (test : ℕ → Bool) (k n : ℕ) → k < n
    → find test (numbers_from k (n - k)) ≡ cond (test k) (Some k) (find test (numbers_from (k + 1) (n - (k + 1))))
numbers_step_found test k n h = let e : n - k ≡ suc (n - (k + 1)) = omega arith in rw e refl

-- the search goes on behind a number that doesn't pass
pub find_goes : (test : ℕ → Bool) (k n : ℕ) (whole : Option ℕ) → k < n → test k ≡ false
    → find test (numbers_from k (n - k)) ≡ whole
    → find test (numbers_from (k + 1) (n - (k + 1))) ≡ whole
find_goes test k n whole h e i =
    ap (λ b. cond b (Some k) (find test (numbers_from (k + 1) (n - (k + 1))))) (sym e)
    ∙ sym (numbers_step_found test k n h) ∙ i

-- it ends at one that does
pub find_stops : (test : ℕ → Bool) (k n : ℕ) (whole : Option ℕ) → k < n → test k ≡ true
    → find test (numbers_from k (n - k)) ≡ whole → Some k ≡ whole
find_stops test k n whole h e i =
    ap (λ b. cond b (Some k) (find test (numbers_from (k + 1) (n - (k + 1))))) (sym e)
    ∙ sym (numbers_step_found test k n h) ∙ i
