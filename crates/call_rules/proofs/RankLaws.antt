-- Members of a list of ranks.
use Rattle.std.proofs.Common.{ℕ, List, ◌≡◌, true, subst, false, [], refl, ◌∷◌, cond, not, ap, ◌∙◌, ◌++◌}
use Rattle.std.proofs.lemmas.Bool.{eqb-true, or_parts, or_from}
use Rattle.std.specs.Prelude.{◌==◌}
use Rattle.list_laws.proofs.Members.{In, any_in}
use Rattle.list_laws.proofs.Tests.{without}
use Rattle.call_rules.specs.Ranks.{is_member}

pub member_in : (rank : ℕ) (group : List ℕ) → is_member rank group ≡ true → In rank group
member_in rank group h =
    let found = any_in (λ other. other == rank) group h in
    subst (λ n. In n group) (eqb-true _ _ found.2) found.1

pub absent_without : (x n : ℕ) (xs : List ℕ) → is_member x xs ≡ false → is_member x (without n xs) ≡ false
absent_without x n [] h = refl
absent_without x n (y ∷ ys) h =
    let parts = or_parts _ _ h in
    let rest = absent_without x n ys parts.1 in
    elim (y == n) as (λ b. is_member x (cond (not b) (y ∷ without n ys) (without n ys)) ≡ false) [
      | true ↦ rest
      | false ↦ or_from _ _ parts.0 rest
    ]

pub absent_stays : (n : ℕ) (xs : List ℕ) → is_member n xs ≡ false → without n xs ≡ xs
absent_stays n [] h = refl
absent_stays n (y ∷ ys) h =
    let parts = or_parts _ _ h in
    ap (λ b. cond (not b) (y ∷ without n ys) (without n ys)) parts.0 ∙ ap (λ zs. y ∷ zs) (absent_stays n ys parts.1)

pub absent_append : (x rank : ℕ) (xs : List ℕ) → is_member x xs ≡ false → (rank == x) ≡ false
    → is_member x (xs ++ rank ∷ []) ≡ false
absent_append x rank [] h other = or_from _ _ other refl
absent_append x rank (y ∷ ys) h other =
    let parts = or_parts _ _ h in
    or_from _ _ parts.0 (absent_append x rank ys parts.1 other)
