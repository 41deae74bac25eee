-- Lists of entries that go on by entries of others.
use Rattle.std.proofs.Common.{◌≡◌, ℕ, ◌<◌, ◌≢◌, List, [], ◌∷◌, ◌++◌, length, drop, sym, refl, ap, ◌∙◌, arith, subst, cond, eqb, ne_eqb, eq-eqb, false, true}
use mathlib.Core.List.{IsPrefix}
use mathlib.Core.Logic.{dite}
use native.Mathlib.Decide.{ℕ_discrete}
use Rattle.std.specs.Prelude.{All}
use Rattle.std.proofs.Math.Seq.{drop-append_seam}
use Rattle.std.proofs.lemmas.List.{append-nil, append_assoc}
use Rattle.std.proofs.lemmas.List.Elements.{All-cons, All-head, All-tail, filter-append}
use Rattle.turn_lock.specs.Lists.{of}

nothing_more : {A : Type 0} (xs ys : List A) → xs ++ ys ≡ xs → ys ≡ []
nothing_more xs ys e = sym (drop-append_seam xs ys) ∙ ap (λ l. drop (length xs) l) (e ∙ sym (append-nil xs)) ∙ drop-append_seam xs []

first_empty : {A : Type 0} (xs ys : List A) → xs ++ ys ≡ [] → xs ≡ []
first_empty [] ys e = refl
first_empty (x ∷ xs) ys e = absurd (let n : length (x ∷ xs ++ ys) ≡ 0 = ap length e in omega (arith, n))

module _ {E : Type 0} (owner : E → ℕ) (n : ℕ) where
  of_both : (xs ys : List E) → of owner n (xs ++ ys) ≡ of owner n xs ++ of owner n ys
  of_both xs ys = filter-append (λ (e : E). eqb (owner e) n) xs ys

  pub no_own : (xs : List E) → of owner n xs ≡ [] → All (λ e. owner e ≢ n) xs
  no_own [] none = λ k d lt. absurd (omega arith)
  no_own (x ∷ xs) none = dite (ℕ_discrete (owner x) n)
      (λ same. absurd (
      let kept : x ∷ of owner n xs ≡ [] = subst (λ b. cond b (x ∷ of owner n xs) (of owner n xs) ≡ []) (eq-eqb (owner x) n same) none in
      let long : length (x ∷ of owner n xs) ≡ 0 = ap length kept in
      omega (arith, long)))
      (λ other. All-cons (λ e. owner e ≢ n) x xs other
      (no_own xs (subst (λ b. cond b (x ∷ of owner n xs) (of owner n xs) ≡ []) (ne_eqb (owner x) n other) none)))

  -- a list that has of the owner what was known, and goes on from it, goes on by entries of others
  pub adds_others : (known list given : List E) → IsPrefix known list → of owner n known ≡ given → of owner n list ≡ given
      → (others : List E) × (list ≡ known ++ others) × All (λ e. owner e ≢ n) others
  adds_others known list given p a b =
      (p.0, sym p.1, no_own p.0 (nothing_more (of owner n known) (of owner n p.0) (sym (of_both known p.0) ∙ ap (of owner n) p.1 ∙ b ∙ sym a)))

  -- what is given stays known while the list grows
  pub own_stays : (known list given : List E) → IsPrefix known list → of owner n known ≡ given → IsPrefix (of owner n list) given → of owner n list ≡ given
  own_stays known list given p a q =
      let more = of owner n p.0 in
      let grown : of owner n known ++ more ≡ of owner n list = sym (of_both known p.0) ∙ ap (of owner n) p.1 in
      let whole : of owner n known ++ (more ++ q.0) ≡ of owner n known = sym (append_assoc (of owner n known) more q.0) ∙ ap (λ l. l ++ q.0) grown ∙ q.1 ∙ sym a in
      let none : more ≡ [] = first_empty more q.0 (nothing_more (of owner n known) (more ++ q.0) whole) in
      sym grown ∙ ap (λ l. of owner n known ++ l) none ∙ append-nil (of owner n known) ∙ a

  of_own : (xs : List E) → All (λ e. owner e ≡ n) xs → of owner n xs ≡ xs
  of_own [] all = refl
  of_own (x ∷ xs) all =
      let here : owner x ≡ n = All-head (λ e. owner e ≡ n) x xs all in
      let rest = of_own xs (All-tail (λ e. owner e ≡ n) x xs all) in
      subst (λ b. cond b (x ∷ of owner n xs) (of owner n xs) ≡ x ∷ xs) (sym (eq-eqb (owner x) n here)) (ap (λ (l : List E). x ∷ l) rest)

  -- what is added to the list is given
  pub own_grows : (known list given : List E) → (added : List E) × (list ≡ known ++ added) × All (λ e. owner e ≡ n) added → of owner n known ≡ given
      → of owner n list ≡ given ++ drop (length known) list
  own_grows known list given own a =
      ap (of owner n) own.1 ∙ of_both known own.0 ∙ (λ i. a i ++ of_own own.0 own.2 i)
      ∙ ap (λ l. given ++ l) (sym (ap (λ l. drop (length known) l) own.1 ∙ drop-append_seam known own.0))
