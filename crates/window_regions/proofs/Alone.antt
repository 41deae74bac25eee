-- Ranges that are all attached to one window, as a list of ranges.
use Rattle.std.proofs.Common.{◌≡◌, ℕ, ◌==◌, Bool, true, false, not, ◌&&◌, List, [], ◌∷◌, ◌++◌, map, filter, refl, ◌∙◌}
use Rattle.std.proofs.Common.{ap, cond}
use Rattle.std.specs.List.{AllByRecursion}
use Rattle.rank_rules.specs.Ranges.{Range}
use Rattle.rank_rules.specs.Windows.{OwnRange, is_attached_from}
use Rattle.window_regions.specs.Indexed.{IsAttachedAlone}

-- one more comes
pub all_alone-append : (xs : List OwnRange) (own : OwnRange) → AllByRecursion IsAttachedAlone xs → IsAttachedAlone own
    → AllByRecursion IsAttachedAlone (xs ++ own ∷ [])
all_alone-append [] own all alone = (alone, tt)
all_alone-append (x ∷ xs) own all alone = (all.0, all_alone-append xs own all.1 alone)

-- some go
pub all_alone-filter : (q : OwnRange → Bool) (xs : List OwnRange) → AllByRecursion IsAttachedAlone xs
    → AllByRecursion IsAttachedAlone (filter q xs)
all_alone-filter q [] all = tt
all_alone-filter q (x ∷ xs) all =
    elim (q x) as (λ b. AllByRecursion IsAttachedAlone (cond b (x ∷ filter q xs) (filter q xs))) [
      | true ↦ (all.0, all_alone-filter q xs all.1)
      | false ↦ all_alone-filter q xs all.1
    ]

-- those of the window are all of them
pub filter-alone : (xs : List OwnRange) → AllByRecursion IsAttachedAlone xs
    → filter (λ (own : OwnRange). own.is_attached && own.win == 0) xs ≡ xs
filter-alone [] all = refl
filter-alone (x ∷ xs) all =
    ap (λ b. cond b (x ∷ filter (λ (own : OwnRange). own.is_attached && own.win == 0) xs)
    (filter (λ (own : OwnRange). own.is_attached && own.win == 0) xs)) all.0
    ∙ ap (λ (ys : List OwnRange). x ∷ ys) (filter-alone xs all.1)

-- the one that begins at the base goes
pub ranges-filter : (base : ℕ) (xs : List OwnRange) → AllByRecursion IsAttachedAlone xs
    → map (λ (own : OwnRange). own.range) (filter (λ (own : OwnRange). not (is_attached_from 0 base own)) xs)
    ≡ filter (λ (range : Range). not (range.base == base)) (map (λ (own : OwnRange). own.range) xs)
ranges-filter base [] all = refl
ranges-filter base (x ∷ xs) all =
    ap (λ b. map (λ (own : OwnRange). own.range)
    (cond (not (b && x.range.base == base)) (x ∷ filter (λ (own : OwnRange). not (is_attached_from 0 base own)) xs)
    (filter (λ (own : OwnRange). not (is_attached_from 0 base own)) xs))) all.0
    ∙ by_test (ranges-filter base xs all.1) (x.range.base == base)
  where
    rest : List OwnRange
    rest = filter (λ (own : OwnRange). not (is_attached_from 0 base own)) xs

    others : List Range
    others = filter (λ (range : Range). not (range.base == base)) (map (λ (own : OwnRange). own.range) xs)

    by_test : map (λ (own : OwnRange). own.range) rest ≡ others → (b : Bool)
        → map (λ (own : OwnRange). own.range) (cond (not b) (x ∷ rest) rest) ≡ cond (not b) (x.range ∷ others) others
    by_test same true = same
    by_test same false = ap (λ (rs : List Range). x.range ∷ rs) same

pub ranges-append : (xs : List OwnRange) (own : OwnRange)
    → map (λ (other : OwnRange). other.range) (xs ++ own ∷ []) ≡ map (λ
    (other : OwnRange). other.range) xs ++ own.range ∷ []
ranges-append [] own = refl
ranges-append (x ∷ xs) own = ap (λ (rs : List Range). x.range ∷ rs) (ranges-append xs own)
