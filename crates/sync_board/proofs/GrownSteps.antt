-- Lists that grow with use: what holds of each index stays, and one item is changed.
use Rattle.std.proofs.Common.{◌≡◌, ◌≢◌, ℕ, zero, suc, ◌<◌, ◌≤◌, List, [], ◌∷◌, length, get_or, set, refl, ap, sym}
use Rattle.std.proofs.Common.{subst, arith, Option, Some, None, ⊎_elim}
use Rattle.std.specs.Prelude.{slice_get}
use Rattle.std.specs.Option.{MatchOption}
use Rattle.std.proofs.lemmas.Bool.{cases_eq, cases_lt}
use Rattle.std.proofs.lemmas.Option.{slice_get-get_or, slice_get_past, slice_get_cases}
use Rattle.sync_board.specs.Tables.{IsAt}

pub at_item : {X : Type 0} (xs : List X) (k : ℕ) (d : X) (P : Type 0) (Q : X → Type 0) → k < length xs → IsAt xs k P Q →
    Q (get_or xs k d)
at_item xs k d P Q within found = subst (λ o. MatchOption o P Q) (slice_get-get_or xs k d within) found

pub at_none : {X : Type 0} (xs : List X) (k : ℕ) (P : Type 0) (Q : X → Type 0) → length xs ≤ k → IsAt xs k P Q → P
at_none xs k P Q past found = subst (λ o. MatchOption o P Q) (slice_get_past xs k past) found

pub is_item : {X : Type 0} (xs : List X) (k : ℕ) (d : X) (P : Type 0) (Q : X → Type 0) → k < length xs →
    Q (get_or xs k d) → IsAt xs k P Q
is_item xs k d P Q within here = subst (λ o. MatchOption o P Q) (sym (slice_get-get_or xs k d within)) here

-- the list has grown by idle items
pub record HasGrown {X : Type 0} (is_idle : X → Type 0) (old grown : List X) : Type 0 where
  pub longer : length old ≤ length grown
  pub same : (k : ℕ) (none : X) → k < length old → get_or grown k none ≡ get_or old k none
  pub idle : (k : ℕ) (none : X) → length old ≤ k → k < length grown → is_idle (get_or grown k none)

pub at_grown : {X : Type 0} (is_idle : X → Type 0) (old grown : List X) (absent : ℕ → Type 0) (kind : ℕ → X → Type 0) →
    HasGrown is_idle old grown →
    ((k : ℕ) (x : X) → is_idle x → absent k → kind k x) →
    ((k : ℕ) → IsAt old k (absent k) (kind k)) → (k : ℕ) → IsAt grown k (absent k) (kind k)
at_grown is_idle old grown absent kind has from_idle kept k = ⊎_elim
    (λ found.
    let x = found.0 in
    is_item grown k x (absent k) (kind k) found.1 (⊎_elim
    (λ before. subst (λ y. kind k y) (sym (has.same k x before)) (at_item old k x (absent k) (kind k) before (kept k)))
    (λ past. from_idle k (get_or grown k x) (has.idle k x past found.1)
    (at_none old k (absent k) (kind k) past (kept k)))
    (cases_lt k (length old))))
    (λ past. subst (λ o. MatchOption o (absent k) (kind k)) (sym past.1)
    (at_none old k (absent k) (kind k) (let a = has.longer in let b = past.0 in omega arith) (kept k)))
    (slice_get_cases grown k).1

get_set_other : {X : Type 0} (xs : List X) (at k : ℕ) (x : X) → k ≢ at → slice_get (set xs at x) k ≡ slice_get xs k
get_set_other [] at k x apart = refl
get_set_other (y ∷ xs) zero zero x apart = absurd (apart refl)
get_set_other (y ∷ xs) zero (suc k) x apart = refl
get_set_other (y ∷ xs) (suc at) zero x apart = refl
get_set_other (y ∷ xs) (suc at) (suc k) x apart = get_set_other xs at k x (λ e. apart (ap suc e))

get_set_same : {X : Type 0} (xs : List X) (at : ℕ) (x : X) → at < length xs → slice_get (set xs at x) at ≡ Some x
get_set_same [] at x within = absurd (omega arith)
get_set_same (y ∷ xs) zero x within = refl
get_set_same (y ∷ xs) (suc at) x within = get_set_same xs at x (omega arith)

pub at_set : {X : Type 0} (xs : List X) (at : ℕ) (x : X) (absent after : ℕ → Type 0) (kind kind' : ℕ → X → Type 0) →
    at < length xs →
    ((k : ℕ) → IsAt xs k (absent k) (kind k)) →
    ((k : ℕ) → k ≢ at → absent k → after k) → ((k : ℕ) (y : X) → k ≢ at → kind k y → kind' k y) → kind' at x →
    (k : ℕ) → IsAt (set xs at x) k (after k) (kind' k)
at_set {X} xs at x absent after kind kind' within kept others others' here k = ⊎_elim
    (λ e. subst (λ j. IsAt (set xs at x) j (after j) (kind' j)) (sym e)
    (subst (λ o. MatchOption o (after at) (kind' at)) (sym (get_set_same xs at x within)) here))
    (λ apart. subst (λ o. MatchOption o (after k) (kind' k)) (sym (get_set_other xs at k x apart))
    (weaker (slice_get xs k) (others k apart) (λ y. others' k y apart) (kept k)))
    (cases_eq k at)
  where
    weaker : (o : Option X) {P P' : Type 0} {Q Q' : X → Type 0} → (P → P') → ((y : X) → Q y → Q' y) →
        MatchOption o P Q → MatchOption o P' Q'
    weaker None p q found = p found
    weaker (Some y) p q found = q y found
