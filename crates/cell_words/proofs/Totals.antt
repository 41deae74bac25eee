-- Totals over the views of all seats, where one of them changes.
use Rattle.std.proofs.Common.{◌≡◌, ℕ, zero, suc, ◌+◌, ◌≤◌, List, [], ◌∷◌, set, sum_by, refl, sym, ap, arith}
use Rattle.std.proofs.lemmas.List.Sums.{sum_by-cons}
use mathlib.Core.Option.{some, some-injective, some-ne-none}
use lib.ListN.{get_elem?}

module _ {V : Type 0} where
  -- one view is replaced
  pub total_set : (f : V → ℕ) (views : List V) (id : ℕ) (v w : V) → get_elem? views id ≡ some v →
      sum_by f (set views id w) + f v ≡ sum_by f views + f w
  total_set f [] id v w at = absurd (some-ne-none v (sym at))
  total_set f (x ∷ xs) zero v w at =
      let same : f x ≡ f v = ap f (some-injective x v at) in
      omega (arith, same, sum_by-cons f x xs, sum_by-cons f w xs)
  total_set f (x ∷ xs) (suc id) v w at =
      omega (arith, total_set f xs id v w at, sum_by-cons f x xs, sum_by-cons f x (set xs id w))

  -- a view replaced by one that counts as much
  pub total_same : (f : V → ℕ) (views : List V) (id : ℕ) (v w : V) → get_elem? views id ≡ some v → f w ≡ f v →
      sum_by f (set views id w) ≡ sum_by f views
  total_same f views id v w at same = omega (arith, total_set f views id v w at, same)

  -- one view is a part of all
  pub total_part : (f : V → ℕ) (views : List V) (id : ℕ) (v : V) → get_elem? views id ≡ some v →
      f v ≤ sum_by f views
  total_part f [] id v at = absurd (some-ne-none v (sym at))
  total_part f (x ∷ xs) zero v at =
      let same : f x ≡ f v = ap f (some-injective x v at) in omega (arith, same, sum_by-cons f x xs)
  total_part f (x ∷ xs) (suc id) v at = omega (arith, total_part f xs id v at, sum_by-cons f x xs)

  -- what counts no more, counts no more in all
  pub total_below : (f g : V → ℕ) → ((v : V) → f v ≤ g v) → (views : List V) → sum_by f views ≤ sum_by g views
  total_below f g below [] = omega arith
  total_below f g below (x ∷ xs) =
      omega (arith, below x, total_below f g below xs, sum_by-cons f x xs, sum_by-cons g x xs)

  -- where one view has all of g, it has all of f
  pub total_alone : (f g : V → ℕ) → ((v : V) → f v ≤ g v) → (views : List V) (id : ℕ) (v : V) →
      get_elem? views id ≡ some v → sum_by g views ≤ g v → sum_by f views ≡ f v
  total_alone f g below [] id v at all = absurd (some-ne-none v (sym at))
  total_alone f g below (x ∷ xs) zero v at all =
      let fs : f x ≡ f v = ap f (some-injective x v at) in
      let gs : g x ≡ g v = ap g (some-injective x v at) in
      omega (arith, fs, gs, total_below f g below xs, sum_by-cons f x xs, sum_by-cons g x xs)
  total_alone f g below (x ∷ xs) (suc id) v at all =
      let part = total_part g xs id v at in
      let cons = sum_by-cons g x xs in
      let rest = total_alone f g below xs id v at (omega arith) in
      omega (arith, rest, below x, part, cons, sum_by-cons f x xs)

  -- two totals are the total of both
  pub total_both : (f g : V → ℕ) (views : List V) → sum_by (λ v. f v + g v) views ≡ sum_by f views + sum_by g views
  total_both f g [] = refl
  total_both f g (x ∷ xs) = omega (
    arith,
    total_both f g xs,
    sum_by-cons f x xs,
    sum_by-cons g x xs,
    sum_by-cons (λ v. f v + g v) x xs,
  )
