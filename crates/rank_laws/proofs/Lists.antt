-- Lists: facts of each element, of each pair, and at an index, where a list is followed by another.
use Rattle.std.proofs.Common.{◌≡◌, ℕ, zero, suc, ◌+◌, ◌<◌, ◌≤◌, ◌⊎◌, inl, inr, Bool, true, false, cond, List, [], ◌∷◌}
use Rattle.std.proofs.Common.{◌++◌, length, take, Some, None, refl, ap, subst, sym, ◌∙◌, arith}
use Rattle.std.specs.Prelude.{slice_get, nat_lt}
use Rattle.std.specs.List.{AllByRecursion, position, position_or_len, remove}
use Rattle.std.proofs.lemmas.Bool.{ltb-false}
use Rattle.list_laws.proofs.Each.{each_weaker, each_with, each_at, each_removed}
use Rattle.list_laws.proofs.Members.{Among}
use Rattle.call_rules.specs.Pieces.{numbers_from}
use Rattle.lawful_runs.specs.Accesses.{EachPair}
use Rattle.lawful_runs.proofs.PairLaws.{pair_joined}

-- ---- each element

-- what holds of everything holds of each element
pub each_of : {X : Type 0} (P : X → Type 0) → ((x : X) → P x) → (xs : List X) → AllByRecursion P xs
each_of P h [] = tt
each_of P h (x ∷ xs) = (h x, each_of P h xs)

-- no place of a list passes where its position is none
pub none_passes : {X : Type 0} (test : X → Bool) (xs : List X) → position test xs ≡ None →
    AllByRecursion (λ x. test x ≡ false) xs
none_passes {X} test xs e =
    elim (nat_lt (position_or_len test xs) (length xs)) as (λ b. nat_lt (position_or_len test xs) (length xs) ≡ b →
    cond b (Some (position_or_len test xs)) None ≡ None →
    AllByRecursion (λ x. test x ≡ false) xs) [
      | true ↦ λ t some. absurd (cc some)
      | false ↦ λ t none. all_fail xs (ltb-false (position_or_len test xs) (length xs) t)
    ] refl e
  where
    all_fail : (ys : List X) → length ys ≤ position_or_len test ys → AllByRecursion (λ x. test x ≡ false) ys
    all_fail [] h = tt
    all_fail (y ∷ ys) h =
        elim (test y) as (λ b. test y ≡ b → suc (length ys) ≤ cond
        (elim b as (λ x. Bool) [ true ↦ false | false ↦ true ]) (1 + position_or_len test ys) 0 →
        (test y ≡ false) × AllByRecursion (λ x. test x ≡ false) ys) [
          | true ↦ λ t less. absurd (omega arith)
          | false ↦ λ t less. (t, all_fail ys (omega arith))
        ] refl h

-- ---- each pair

pub pair_push : {X : Type 0} (R : X → X → Type 0) (xs : List X) (y : X) → EachPair R xs →
    AllByRecursion (λ x. R x y) xs → EachPair R (xs ++ y ∷ [])
pair_push R xs y h k = pair_joined R xs (y ∷ []) h (tt, tt) (each_weaker (λ x. R x y)
    (λ x. AllByRecursion (R x) (y ∷ [])) (λ x r. (r, tt)) xs k)

-- a relation that holds of all elements of a kind
pub pair_alike : {X : Type 0} (P : X → Type 0) (R : X → X → Type 0) → ((x y : X) → P x → P y → R x y) →
    (xs : List X) → AllByRecursion P xs → EachPair R xs
pair_alike P R h [] all = tt
pair_alike P R h (x ∷ xs) all = (each_weaker P (R x) (λ y p. h x y all.0 p) xs all.1, pair_alike P R h xs all.1)

-- what is left of a list with a relation, after one is removed
pub pair_left : {X : Type 0} (R : X → X → Type 0) (xs : List X) (at : ℕ) → EachPair R xs → EachPair R (remove xs at)
pair_left R [] zero h = tt
pair_left R [] (suc at) h = tt
pair_left R (x ∷ xs) zero h = h.1
pair_left R (x ∷ xs) (suc at) h = (each_removed (R x) xs at h.0, pair_left R xs at h.1)

-- ---- at an index

-- an index is within the front of a list, or that many places into its rest
pub place_in : (at count : ℕ) → (at < count) ⊎ ((past : ℕ) × (at ≡ count + past))
place_in at zero = inr (at, omega arith)
place_in zero (suc count) = inl (omega arith)
place_in (suc at) (suc count) = elim (place_in at count) [
  | inl h ↦ inl (omega arith)
  | inr h ↦ let same = h.1 in inr
      (h.0, omega arith)
]

-- the front of a list is found at its own indices
pub get_front : {X : Type 0} (xs ys : List X) (at : ℕ) → at < length xs → slice_get (xs ++ ys) at ≡ slice_get xs at
get_front [] ys at h = absurd (omega arith)
get_front (x ∷ xs) ys zero h = refl
get_front (x ∷ xs) ys (suc at) h = get_front xs ys at (omega arith)

-- what follows is found past them
pub get_rest : {X : Type 0} (xs ys : List X) (at past : ℕ) → at ≡ length xs + past →
    slice_get (xs ++ ys) at ≡ slice_get ys past
get_rest [] ys at past e = let same : at ≡ past = omega arith in ap (slice_get ys) same
get_rest (x ∷ xs) ys zero past e = absurd (omega arith)
get_rest (x ∷ xs) ys (suc at) past e = get_rest xs ys at past (omega arith)

-- the first elements of two lists, one after the other
pub take_joined : {X : Type 0} (n : ℕ) (xs ys : List X) → (k : ℕ) × (take n (xs ++ ys) ≡ take n xs ++ take k ys)
take_joined zero xs ys = (zero, refl)
take_joined (suc n) [] ys = (suc n, refl)
take_joined (suc n) (x ∷ xs) ys = let rest = take_joined n xs ys in (rest.0, ap (λ zs. x ∷ zs) rest.1)

-- ---- numbers

pub numbers_each : (P : ℕ → Type 0) → ((n : ℕ) → P n) → (first count : ℕ) →
    AllByRecursion P (numbers_from first count)
numbers_each P h first count = each_of P h (numbers_from first count)

-- ---- membership

pub among_left : {X : Type 0} (x : X) (xs ys : List X) → Among x xs → Among x (xs ++ ys)
among_left x [] ys h = absurd h
among_left x (y ∷ xs) ys (inl e) = inl e
among_left x (y ∷ xs) ys (inr h) = inr (among_left x xs ys h)

pub among_last : {X : Type 0} (x : X) (xs : List X) → Among x (xs ++ x ∷ [])
among_last x [] = inl refl
among_last x (y ∷ xs) = inr (among_last x xs)

-- one of a list is still there after another is removed
pub among_rest : {X : Type 0} (x y : X) (xs : List X) (at : ℕ) → Among x xs → slice_get xs at ≡ Some y → (y ≡ x → ⊥) →
    Among x (remove xs at)
among_rest x y [] at h e other = absurd h
among_rest x y (z ∷ xs) zero (inl same) e other = let is : z ≡ y = cc e in absurd (other (sym is ∙ same))
among_rest x y (z ∷ xs) zero (inr h) e other = h
among_rest x y (z ∷ xs) (suc at) (inl same) e other = inl same
among_rest x y (z ∷ xs) (suc at) (inr h) e other = inr (among_rest x y xs at h e other)

pub among_each : {X : Type 0} (P : X → Type 0) (x : X) (xs : List X) → AllByRecursion P xs → Among x xs → P x
among_each P x [] all h = absurd h
among_each P x (y ∷ xs) all (inl e) = subst P e all.0
among_each P x (y ∷ xs) all (inr h) = among_each P x xs all.1 h

-- each of the others differs in a strictly rising number
pub others_apart : {X : Type 0} (number : X → ℕ) (xs : List X) (at : ℕ) (x : X) →
    EachPair (λ a b. number a < number b) xs → slice_get xs at ≡ Some x →
    AllByRecursion (λ y. number y ≡ number x → ⊥) (remove xs at)
others_apart number [] at x h e = absurd (cc e)
others_apart {X} number (y ∷ xs) zero x h e =
    let same : y ≡ x = cc e in
    each_weaker (λ z. number y < number z) (λ z. number z ≡ number x → ⊥)
    (λ z less k. let k2 = ap number same in absurd (omega arith)) xs h.0
others_apart {X} number (y ∷ xs) (suc at) x h e =
    let less = each_at (λ z. number y < number z) xs at x h.0 e in
    (λ k. absurd (omega arith), others_apart number xs at x h.1 e)

-- those before the one at a place, and those after it
pub smaller_before : {X : Type 0} (number : X → ℕ) (P : X → Type 0) (xs : List X) (at : ℕ) (x : X) →
    EachPair (λ a b. number a < number b) xs → slice_get xs at ≡ Some x →
    AllByRecursion P (take at xs) → AllByRecursion (λ y. number y < number x → P y) (remove xs at)
smaller_before number P [] at x h e k = absurd (cc e)
smaller_before number P (y ∷ xs) zero x h e k =
    let same : y ≡ x = cc e in
    each_weaker (λ z. number y < number z) (λ z. number z < number x → P z)
    (λ z more less. let k2 = ap number same in absurd (omega arith)) xs h.0
smaller_before number P (y ∷ xs) (suc at) x h e k = (λ less. k.0, smaller_before number P xs at x h.1 e k.1)

-- one relation of each pair follows from another, where each element has a property
pub pair_within : {X : Type 0} (P : X → Type 0) (R S : X → X → Type 0) → ((x y : X) → P x → P y → R x y → S x y) →
    (xs : List X) → AllByRecursion P xs → EachPair R xs → EachPair S xs
pair_within P R S h [] all pairs = tt
pair_within P R S h (x ∷ xs) all pairs = (
  each_with P (R x) (S x) (λ y p r. h x y all.0 p r) xs all.1 pairs.0,
  pair_within P R S h xs all.1 pairs.1,
)
