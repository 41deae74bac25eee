-- Tests of lists of ranges.
use Rattle.std.proofs.Common.{◌≡◌, ℕ, ◌==◌, Bool, true, false, ◌&&◌, List, [], ◌∷◌, map, filter, refl, sym, ◌∙◌}
use Rattle.std.proofs.Common.{ap}
use Rattle.std.specs.List.{list_any, list_all}
use Rattle.list_laws.proofs.Tests.{any_alike, any_map, any_filter}
use Rattle.call_rules.specs.Pieces.{numbers_from}
use Rattle.rank_rules.specs.Ranges.{has_byte, covers}
use Rattle.rank_rules.specs.Windows.{OwnRange, is_attached_from}
use Rattle.window_regions.specs.Ascending.{is_attached_byte}

pub list_all-agree : {X : Type 0} (p q : X → Bool) → ((x : X) → p x ≡ q x) →
    (xs : List X) → list_all p xs ≡ list_all q xs
list_all-agree p q h [] = refl
list_all-agree p q h (x ∷ xs) = ap (λ b. b && list_all p xs) (h x) ∙ ap (λ b. q x && b) (list_all-agree p q h xs)

and-again : (a b c : Bool) → (a && ((a && b) && c)) ≡ ((a && b) && c)
and-again true b c = refl
and-again false b c = refl

-- the bytes that are attached to a window, among all ranges and among those that are attached
pub covers-attached : (ranges attached : List OwnRange) (win lo len : ℕ)
    → ((test : OwnRange → Bool) → list_any test attached ≡ list_any (λ
    (own : OwnRange). own.is_attached && test own) ranges)
    → list_all (λ (address : ℕ). list_any (is_attached_byte win address) attached) (numbers_from lo len)
    ≡ covers (map (λ (own : OwnRange). own.range) (filter (λ (own : OwnRange). own.is_attached && own.win == win)
    ranges)) lo len
covers-attached ranges attached win lo len same = list_all-agree _ _ each (numbers_from lo len)
  where
    each : (address : ℕ) → list_any (is_attached_byte win address) attached
        ≡ list_any (has_byte address) (map (λ (own : OwnRange). own.range) (filter (λ
        (own : OwnRange). own.is_attached && own.win == win) ranges))
    each address =
        same (is_attached_byte win address)
        ∙ any_alike _ _ (λ (own : OwnRange). and-again own.is_attached (own.win == win)
        (has_byte address own.range)) ranges
        ∙ sym (any_filter (λ (own : OwnRange). has_byte address own.range) (λ
        (own : OwnRange). own.is_attached && own.win == win) ranges)
        ∙ sym (any_map (has_byte address) (λ (own : OwnRange). own.range) (filter (λ
        (own : OwnRange). own.is_attached && own.win == win) ranges))

-- a range that is attached to a window and begins at a base, likewise
pub list_any-is_attached_from : (ranges attached : List OwnRange) (win base : ℕ)
    → ((test : OwnRange → Bool) → list_any test attached ≡ list_any (λ
    (own : OwnRange). own.is_attached && test own) ranges)
    → list_any (is_attached_from win base) attached ≡ list_any (is_attached_from win base) ranges
list_any-is_attached_from ranges attached win base same =
    same (is_attached_from win base)
    ∙ any_alike _ _ (λ (own : OwnRange). and-again own.is_attached (own.win == win)
    (own.range.base == base)) ranges
