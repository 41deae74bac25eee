-- A list by its key that gets one element more.
use Rattle.std.proofs.Common.{arith, ◌≢◌, ◌≡◌, ◌⊎◌, inl, inr, Bool, true, List, [], ◌∷◌, ◌++◌, refl, sym, subst, ◌∙◌}
use Rattle.std.specs.Prelude.{Contains, cond}
use Rattle.std.proofs.lemmas.Bool.{cases_Bool, cond-true, cond-false}
use Rattle.std.proofs.lemmas.List.Elements.{Contains-append_left, Contains-push, Contains-push_cases}

module _ {K X : Type 0} (eq : K → K → Bool) (same : (a b : K) → eq a b ≡ true → a ≡ b)
    (self : (a : K) → eq a a ≡ true) (old next : K → List X) (key : K) (x : X)
    (put : (other : K) → next other ≡ cond (eq key other) (old key ++ x ∷ []) (old other)) where
  pub at_key : next key ≡ old key ++ x ∷ []
  at_key = put key ∙ cond-true (eq key key) (old key ++ x ∷ []) (old key) (self key)

  -- the list of a key is as it was, or it has one element more
  pub either : (other : K) → ((key ≡ other) × (next other ≡ old other ++ x ∷ [])) ⊎ (next other ≡ old other)
  either other = elim (cases_Bool (eq key other)) [
    | inl one ↦
        let equal = same key other one in
        inl (equal, subst (λ k. next k ≡ old k ++ x ∷ []) equal at_key)
    | inr two ↦ inr (put other ∙ cond-false (eq key other) (old key ++ x ∷ []) (old other) two)
  ]

  pub kept : (other : K) (y : X) → Contains (old other) y → Contains (next other) y
  kept other y has = elim (either other) [
    | inl one ↦ subst (λ l. Contains l y) (sym one.1) (Contains-append_left (old other) (x ∷ []) y has)
    | inr two ↦ subst (λ l. Contains l y) (sym two) has
  ]

  pub added : Contains (next key) x
  added = subst (λ l. Contains l x) (sym at_key) (Contains-push (old key) x)

  pub was : (other : K) (y : X) → Contains (next other) y → Contains (old other) y ⊎ ((key ≡ other) × (x ≡ y))
  was other y has = elim (either other) [
    | inl one ↦ elim (Contains-push_cases (old other) x y (subst (λ l. Contains l y) one.1 has)) [
      | inl before ↦ inl before
      | inr now ↦ inr (one.0, now)
    ]
    | inr two ↦ inl (subst (λ l. Contains l y) two has)
  ]

-- a list that isn't empty has an element
pub some_of : {X : Type 0} (xs : List X) → xs ≢ [] → (x : X) × Contains xs x
some_of [] not_empty = absurd (not_empty refl)
some_of (x ∷ xs) not_empty = (x, (0, omega arith, refl))
