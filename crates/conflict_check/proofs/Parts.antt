-- One more of some accesses.
use Rattle.std.proofs.Common.{◌≡◌, ℕ, zero, suc, ◌+◌, ◌<◌, List, [], ◌∷◌, ◌++◌, length, refl, ap, sym, ◌∙◌, arith}
use Rattle.std.specs.Prelude.{drop, take, slice_index_or, Bool}
use Rattle.std.specs.Option.{option_map_or}
use Rattle.list_laws.proofs.Lists.{drop_at}
use Rattle.rma_types.specs.declared.accesses.Id.{Id}
use Rattle.rma_types.specs.declared.findings.Model.{Model}
use Rattle.order_rules.specs.Findings.{findings_after, first_finding}
use Rattle.order_rules.specs.Ordered.{JudgedAccess}
use Rattle.access_sweeps.specs.Places.{judged_at, nobody}

pub take_at : {X : Type 0} (xs : List X) (k : ℕ) (d : X) → k < length xs → take (suc k) xs ≡ take k xs
    ++ slice_index_or xs k d ∷ []
take_at [] k d within = absurd (omega arith)
take_at (x ∷ xs) zero d within = refl
take_at (x ∷ xs) (suc k) d within = ap (λ l. x ∷ l) (take_at xs k d (omega (arith, within)))

pub take_more : {X : Type 0} (xs : List X) (k : ℕ) (d : X) → k < length xs → take (k + 1) xs ≡ take k xs
    ++ slice_index_or xs k d ∷ []
take_more xs k d within = sym (ap (λ n. take n xs) next) ∙ take_at xs k d within
  where
    next : suc k ≡ k + 1
    next = omega arith

pub drop_more : {X : Type 0} (xs : List X) (k : ℕ) (d : X) → k < length xs →
    drop k xs ≡ slice_index_or xs k d ∷ drop (k + 1) xs
drop_more xs k d within = drop_at xs k d within ∙ ap (λ n. slice_index_or xs k d ∷ drop n xs) next
  where
    next : suc k ≡ k + 1
    next = omega arith

-- the front of a list with its next element is the next front
pub taken_next : {X : Type 0} (front xs ys : List X) (k : ℕ) (x d : X) → front ≡ take k xs → ys ≡ xs →
    x ≡ slice_index_or ys k d → k < length ys → front ++ x ∷ [] ≡ take (k + 1) xs
taken_next front xs ys k x d are all is within =
    (λ i. are i ++ is i ∷ []) ∙ (λ i. take k (sym all i) ++ slice_index_or ys k d ∷ [])
    ∙ sym (take_more ys k d within) ∙ ap (take (k + 1)) all

-- a list that is written over the whole of another
pub take_front : {X : Type 0} (xs ys : List X) (k : ℕ) → length xs ≡ k → take k (xs ++ ys) ≡ xs
take_front [] ys zero long = refl
take_front [] ys (suc k) long = absurd (omega (arith, long))
take_front (x ∷ xs) ys zero long = absurd (omega (arith, long))
take_front (x ∷ xs) ys (suc k) long = ap (λ l. x ∷ l) (take_front xs ys k (omega (arith, long)))

-- the finding of the next access, and what is left after it
pub findings_step : (model : Model) (before : Id → Id → Bool) (xs : List JudgedAccess) (k : ℕ) → k < length xs →
    findings_after model before (take k xs) (drop k xs)
    ≡ option_map_or (λ finding. finding ∷ []) (first_finding model before (take k xs) (judged_at xs k)) []
    ++ findings_after model before (take (k + 1) xs) (drop (k + 1) xs)
findings_step model before xs k within =
    ap (findings_after model before (take k xs)) (drop_more xs k nobody within)
    ∙ ap (λ l. option_map_or (λ finding. finding ∷ []) (first_finding model before (take k xs) (judged_at xs k)) []
    ++ findings_after model before l (drop (k + 1) xs)) (sym (take_more xs k nobody within))
