-- Weights of the elements of a list, added up, where one or two of them change.
use Rattle.std.proofs.Common.{◌≡◌, ℕ, zero, suc, ◌+◌, ◌≤◌, ◌≢◌, List, [], ◌∷◌, ◌++◌, set, sym, refl, ap, arith}
use mathlib.Core.Option.{some, some-injective, some-ne-none}
use lib.ListN.{get_elem?}
use Rattle.turn_lock.specs.Rules.{total}

module _ {A : Type 0} (f : A → ℕ) where
  pub total_set : (xs : List A) (i : ℕ) (v w : A) → get_elem? xs i ≡ some v → total f (set xs i w) + f v ≡ total f xs + f w
  total_set [] i v w e = absurd (some-ne-none v (sym e))
  total_set (x ∷ xs) zero v w e = let s : f x ≡ f v = ap f (some-injective x v e) in omega arith
  total_set (x ∷ xs) (suc i) v w e = let h = total_set xs i v w e in omega arith

  pub total_append : (xs ys : List A) → total f (xs ++ ys) ≡ total f xs + total f ys
  total_append [] ys = omega arith
  total_append (x ∷ xs) ys = let h = total_append xs ys in omega arith

  pub total_one : (xs : List A) (i : ℕ) (v : A) → get_elem? xs i ≡ some v → f v ≤ total f xs
  total_one [] i v e = absurd (some-ne-none v (sym e))
  total_one (x ∷ xs) zero v e = let s : f x ≡ f v = ap f (some-injective x v e) in omega arith
  total_one (x ∷ xs) (suc i) v e = let h = total_one xs i v e in omega arith

  pub total_two : (xs : List A) (i j : ℕ) (v w : A) → i ≢ j → get_elem? xs i ≡ some v → get_elem? xs j ≡ some w → f v + f w ≤ total f xs
  total_two [] i j v w n e d = absurd (some-ne-none v (sym e))
  total_two (x ∷ xs) zero zero v w n e d = absurd (n refl)
  total_two (x ∷ xs) zero (suc j) v w n e d = let s : f x ≡ f v = ap f (some-injective x v e) in let h = total_one xs j w d in omega arith
  total_two (x ∷ xs) (suc i) zero v w n e d = let s : f x ≡ f w = ap f (some-injective x w d) in let h = total_one xs i v e in omega arith
  total_two (x ∷ xs) (suc i) (suc j) v w n e d = let h = total_two xs i j v w (λ p. n (ap suc p)) e d in omega arith

  pub total_none : (xs : List A) → ((i : ℕ) (x : A) → get_elem? xs i ≡ some x → f x ≡ 0) → total f xs ≡ 0
  total_none [] all = refl
  total_none (x ∷ xs) all = let h = total_none xs (λ i. all (suc i)) in let s = all 0 x refl in omega arith

  -- one element is cut in two
  pub total_cut : (xs : List A) (i : ℕ) (v left right : A) → get_elem? xs i ≡ some v → f left + f right ≡ f v → total f (set xs i left ++ right ∷ []) ≡ total f xs
  total_cut xs i v left right e s = let h = total_set xs i v left e in let a = total_append (set xs i left) (right ∷ []) in omega arith

  -- two elements are joined
  pub total_joined : (xs : List A) (i j : ℕ) (v w both spent : A) → get_elem? xs i ≡ some v → get_elem? (set xs i both) j ≡ some w → f both ≡ f v + f w → f spent ≡ 0
      → total f (set (set xs i both) j spent) ≡ total f xs
  total_joined xs i j v w both spent e d s z = let h = total_set xs i v both e in let k = total_set (set xs i both) j w spent d in omega arith

  pub total_same : (xs : List A) (i : ℕ) (v w : A) → get_elem? xs i ≡ some v → f v ≡ f w → total f (set xs i w) ≡ total f xs
  total_same xs i v w e s = let h = total_set xs i v w e in omega arith

module _ {A : Type 0} (f g : A → ℕ) where
  pub total_under : (xs : List A) → ((i : ℕ) (x : A) → get_elem? xs i ≡ some x → f x ≤ g x) → total f xs ≤ total g xs
  total_under [] all = omega arith
  total_under (x ∷ xs) all = let h = total_under xs (λ i. all (suc i)) in let s = all 0 x refl in omega arith

  -- where each weighs no more by f than by g, and one is known
  pub total_over : (xs : List A) (i : ℕ) (v : A) → ((j : ℕ) (x : A) → get_elem? xs j ≡ some x → f x ≤ g x) → get_elem? xs i ≡ some v → total f xs + g v ≤ total g xs + f v
  total_over [] i v all e = absurd (some-ne-none v (sym e))
  total_over (x ∷ xs) zero v all e = let s : f x ≡ f v = ap f (some-injective x v e) in let t : g x ≡ g v = ap g (some-injective x v e) in let h = total_under xs (λ j. all (suc j)) in omega arith
  total_over (x ∷ xs) (suc i) v all e = let h = total_over xs i v (λ j. all (suc j)) e in let s = all 0 x refl in omega arith
