-- Lists of entries: prefixes, and whose the entries are.
use Rattle.std.proofs.Common.{◌≡◌, ℕ, zero, suc, ◌+◌, ◌<◌, ◌≤◌, ◌≢◌, List, [], ◌∷◌, ◌++◌, length, drop, get_or, sym, refl, ap, ◌∙◌, arith, true, false, subst, Bool, cond, eqb, ne_eqb, eq-eqb, inl, inr, ◌⊎◌, true≢false}
use mathlib.Core.List.{IsPrefix}
use mathlib.Core.Logic.{dite}
use native.Mathlib.Decide.{ℕ_discrete}
use Rattle.std.specs.Prelude.{All, leb, if◌then◌else◌}
use Rattle.std.proofs.lemmas.Bool.Decides.{leb_tells}
use Rattle.std.proofs.lemmas.List.{append-nil, append_assoc}
use Rattle.std.proofs.lemmas.List.Elements.{All-cons, All-head, All-tail, filter-append}
use Rattle.turn_lock.specs.Lists.{of, longer}
use Rattle.turn_lock.specs.Rules.{weight, times}
use Rattle.turn_lock.specs.Views.{numbers_from}

pub all_none : {A : Type 0} (P : A → Type 0) → All P []
all_none P k d lt = absurd (omega arith)

module _ {E : Type 0} where
  pub prefix_self : (xs : List E) → IsPrefix xs xs
  prefix_self xs = ([], append-nil xs)

  pub prefix_trans : (xs ys zs : List E) → IsPrefix xs ys → IsPrefix ys zs → IsPrefix xs zs
  prefix_trans xs ys zs p q = (p.0 ++ q.0, sym (append_assoc xs p.0 q.0) ∙ ap (λ (l : List E). l ++ q.0) p.1 ∙ q.1)

  pub prefix_of_same : (xs ys : List E) → xs ≡ ys → IsPrefix xs ys
  prefix_of_same xs ys e = ([], append-nil xs ∙ e)

  -- of two beginnings of one list the shorter begins the longer
  pub prefix_shorter : (xs ys zs : List E) → IsPrefix xs zs → IsPrefix ys zs → length xs ≤ length ys → IsPrefix xs ys
  prefix_shorter [] ys zs p q le = (ys, refl)
  prefix_shorter (x ∷ xs) [] zs p q le = absurd (omega arith)
  prefix_shorter (x ∷ xs) (y ∷ ys) [] p q le = let e : suc (length (xs ++ p.0)) ≡ 0 = ap length p.1 in absurd (omega arith)
  prefix_shorter (x ∷ xs) (y ∷ ys) (z ∷ zs) p q le =
      let h = prefix_shorter xs ys zs (p.0, ap (λ (l : List E). drop 1 l) p.1) (q.0, ap (λ (l : List E). drop 1 l) q.1) (omega arith) in
      let e : x ≡ y = ap (λ (l : List E). get_or l 0 z) p.1 ∙ sym (ap (λ (l : List E). get_or l 0 z) q.1) in
      (h.0, λ i. e i ∷ h.1 i)

  pub prefix_of : (owner : E → ℕ) (n : ℕ) (xs ys : List E) → IsPrefix xs ys → IsPrefix (of owner n xs) (of owner n ys)
  prefix_of owner n xs ys p = (of owner n p.0, sym (filter-append (λ (e : E). eqb (owner e) n) xs p.0) ∙ ap (of owner n) p.1)

  longer_by : (xs ys zs : List E) → IsPrefix xs zs → IsPrefix ys zs → (b : Bool) → ((b ≡ true) × (length ys ≤ length xs)) ⊎ ((b ≡ false) × (length xs < length ys))
      → IsPrefix xs (if b then xs else ys) × IsPrefix ys (if b then xs else ys) × IsPrefix (if b then xs else ys) zs
  longer_by xs ys zs p q true (inl is) = (prefix_self xs, prefix_shorter ys xs zs q p is.1, p)
  longer_by xs ys zs p q true (inr is) = absurd (true≢false is.0)
  longer_by xs ys zs p q false (inl is) = absurd (true≢false (sym is.0))
  longer_by xs ys zs p q false (inr is) = (prefix_shorter xs ys zs p q (omega (arith, is.1)), prefix_self ys, q)

  pub longer_prefix : (xs ys zs : List E) → IsPrefix xs zs → IsPrefix ys zs → IsPrefix xs (longer xs ys) × IsPrefix ys (longer xs ys) × IsPrefix (longer xs ys) zs
  longer_prefix xs ys zs p q = longer_by xs ys zs p q (leb (length ys) (length xs)) (leb_tells (length ys) (length xs))

  pub of_none : (owner : E → ℕ) (n m : ℕ) (xs : List E) → All (λ e. owner e ≡ n) xs → m ≢ n → of owner m xs ≡ []
  of_none owner n m [] all ne = refl
  of_none owner n m (x ∷ xs) all ne =
      let here : owner x ≡ n = All-head (λ e. owner e ≡ n) x xs all in
      let rest = of_none owner n m xs (All-tail (λ e. owner e ≡ n) x xs all) ne in
      let b : eqb (owner x) m ≡ false = ne_eqb (owner x) m (λ e. ne (sym e ∙ here)) in
      subst (λ c. cond c (x ∷ of owner m xs) (of owner m xs) ≡ []) (sym b) rest

  pub of_all : (owner : E → ℕ) (n : ℕ) (xs : List E) → All (λ e. owner e ≡ n) xs → of owner n xs ≡ xs
  of_all owner n [] all = refl
  of_all owner n (x ∷ xs) all =
      let here : owner x ≡ n = All-head (λ e. owner e ≡ n) x xs all in
      let rest = of_all owner n xs (All-tail (λ e. owner e ≡ n) x xs all) in
      let b : eqb (owner x) n ≡ true = eq-eqb (owner x) n here in
      subst (λ c. cond c (x ∷ of owner n xs) (of owner n xs) ≡ x ∷ xs) (sym b) (ap (λ (l : List E). x ∷ l) rest)

  -- a number that is among the parts
  pub times_at : (n k : ℕ) (d : ℕ × List E) (parts : List (ℕ × List E)) → k < length parts → (get_or parts k d).0 ≡ n → 1 ≤ times n parts
  times_at n k d [] lt e = absurd (omega arith)
  times_at n zero d (p ∷ parts) lt e = let b : weight (eqb p.0 n) ≡ 1 = ap weight (eq-eqb p.0 n e) in omega arith
  times_at n (suc k) d (p ∷ parts) lt e = let h = times_at n k d parts (omega arith) e in omega arith

module _ (E : Type 0) where
  pub numbers_length : (i n : ℕ) → length (numbers_from {E = E} i n) ≡ n
  numbers_length i zero = refl
  numbers_length i (suc n) = ap suc (numbers_length (suc i) n)

  numbers_before : (m i n : ℕ) → m < i → times m (numbers_from {E = E} i n) ≡ 0
  numbers_before m i zero lt = refl
  numbers_before m i (suc n) lt = let b : weight (eqb i m) ≡ 0 = ap weight (ne_eqb i m (λ e. omega arith)) in let h = numbers_before m (suc i) n (omega arith) in omega arith

  pub numbers_once : (m i n : ℕ) → times m (numbers_from {E = E} i n) ≤ 1
  numbers_once m i zero = omega arith
  numbers_once m i (suc n) = dite (ℕ_discrete i m)
      (λ e. let b : weight (eqb i m) ≡ 1 = ap weight (eq-eqb i m e) in let h = numbers_before m (suc i) n (omega arith) in omega arith)
      (λ ne. let b : weight (eqb i m) ≡ 0 = ap weight (ne_eqb i m ne) in let h = numbers_once m (suc i) n in omega arith)

  pub numbers_gave : (owner : E → ℕ) (seats i n : ℕ) → i + n ≤ seats → All (λ (p : ℕ × List E). (p.0 < seats) × (of owner p.0 [] ≡ p.1)) (numbers_from i n)
  numbers_gave owner seats i zero le = all_none (λ (p : ℕ × List E). (p.0 < seats) × (of owner p.0 [] ≡ p.1))
  numbers_gave owner seats i (suc n) le = All-cons (λ (p : ℕ × List E). (p.0 < seats) × (of owner p.0 [] ≡ p.1)) (i, []) (numbers_from (suc i) n)
      (omega arith, refl) (numbers_gave owner seats (suc i) n (omega arith))
