-- The ranges for searches stay those of all ranges.
use Rattle.std.proofs.Common.{◌≡◌, ℕ, ◌+◌, ◌<◌, Bool, true, false, not, ◌&&◌, ◌||◌, nat_lt, List, [], ◌∷◌, ◌++◌, take}
use Rattle.std.proofs.Common.{drop, map, filter, refl, sym, ◌∙◌, ap, subst, take-append-drop}
use Rattle.std.specs.Prelude.{insert, All}
use Rattle.std.specs.List.{list_any}
use Rattle.std.proofs.lemmas.List.Elements.{All-filter, All-get_or, All-from_get_or}
use Rattle.std.proofs.lemmas.List.Folds.{list_any-append}
use Rattle.std.proofs.lemmas.List.Kept.{AllPairs-filter}
use Rattle.list_laws.proofs.Tests.{any_alike, any_filter, any_map}
use Rattle.list_laws.proofs.Truths.{or_false}
use Rattle.rank_rules.specs.Ranges.{Range, do_overlap, is_taken}
use Rattle.rank_rules.specs.Windows.{OwnRange}
use Rattle.window_regions.specs.Ascending.{IsBefore, IsAscending}
use Rattle.window_regions.specs.Indexed.{IsIndexed}
use Rattle.window_regions.proofs.Searches.{no_range}

and-swap : (a b c : Bool) → (a && (b && c)) ≡ (b && (a && c))
and-swap true b c = refl
and-swap false true c = refl
and-swap false false c = refl

or-swap : (a b c : Bool) → (a || (b || c)) ≡ (b || (a || c))
or-swap true true c = refl
or-swap true false c = refl
or-swap false b c = refl

-- ascending ranges, some left out
IsAscending-filter : (q : OwnRange → Bool) (xs : List OwnRange) → IsAscending xs → IsAscending (filter q xs)
IsAscending-filter q xs up = record {
  in_order = AllPairs-filter IsBefore q xs up.in_order;
  with_bytes = λ i d lt. All-get_or HasBytes (filter q xs) i d lt (All-filter q HasBytes xs each);
}
  where
    HasBytes : OwnRange → Type 0
    HasBytes own = 0 < own.range.bytes

    each : All (λ (own : OwnRange). 0 < own.range.bytes) xs
    each = All-from_get_or (λ (own : OwnRange). 0 < own.range.bytes) xs no_range (λ i lt. up.with_bytes i no_range lt)

-- some ranges are left out of all lists
pub IsIndexed-filter : (q : OwnRange → Bool) (ranges created attached : List OwnRange) → IsIndexed ranges created
    attached
    → IsIndexed (filter q ranges) (filter q created) (filter q attached)
IsIndexed-filter q ranges created attached so = record {
  of_created = λ test.
      any_filter test q created
      ∙ so.of_created (λ own. q own && test own)
      ∙ any_alike _ _ (λ (own : OwnRange). and-swap (not own.is_attached) (q own) (test own)) ranges
      ∙ sym (any_filter (λ (own : OwnRange). not own.is_attached && test own) q ranges);
  of_attached = λ test.
      any_filter test q attached
      ∙ so.of_attached (λ own. q own && test own)
      ∙ any_alike _ _ (λ (own : OwnRange). and-swap own.is_attached (q own) (test own)) ranges
      ∙ sym (any_filter (λ (own : OwnRange). own.is_attached && test own) q ranges);
  ascending = IsAscending-filter q attached so.ascending;
}

-- the range of a created window comes to the ranges
pub IsIndexed-created : (ranges created attached : List OwnRange)
    (win base bytes : ℕ) → IsIndexed ranges created attached
    → IsIndexed (ranges ++ record { win = win; range = record { base = base; bytes = bytes }; is_attached = false } ∷
    [])
    (created ++ record { win = win; range = record { base = base; bytes = bytes }; is_attached = false } ∷ []) attached
IsIndexed-created ranges created attached win base bytes so = record {
  of_created = λ test.
      list_any-append test created _
      ∙ ap (λ b. b || (test (record {
        win = win;
        range = record { base = base; bytes = bytes };
        is_attached = false;
      }) || false)) (so.of_created test)
      ∙ sym (list_any-append (λ (own : OwnRange). not own.is_attached && test own) ranges _);
  of_attached = λ test.
      so.of_attached test
      ∙ sym (or_false _)
      ∙ sym (list_any-append (λ (own : OwnRange). own.is_attached && test own) ranges _);
  ascending = so.ascending;
}

pub list_any-insert : (test : OwnRange → Bool) (xs : List OwnRange) (at : ℕ) (own : OwnRange)
    → list_any test (insert xs at own) ≡ (test own || list_any test xs)
list_any-insert test xs at own =
    list_any-append test (take at xs) (own ∷ drop at xs)
    ∙ or-swap (list_any test (take at xs)) (test own) (list_any test (drop at xs))
    ∙ ap (λ b. test own || b) (sym (list_any-append test (take at xs) (drop at xs)) ∙ ap (list_any test)
    (take-append-drop at xs))

list_any-parts : (test q : OwnRange → Bool) (xs : List OwnRange)
    → list_any test xs ≡ (list_any (λ own. not (q own) && test own) xs || list_any (λ own. q own && test own) xs)
list_any-parts test q [] = refl
list_any-parts test q (x ∷ xs) = ap (λ b. test x || b) (list_any-parts test q xs) ∙ by_part (q x) (test x) _ _
  where
    by_part : (a t c d : Bool) → (t || (c || d)) ≡ ((not a && t || c) || (a && t || d))
    by_part true true true d = refl
    by_part true true false d = refl
    by_part true false c d = refl
    by_part false true c d = refl
    by_part false false c d = refl

-- whether a byte of a range is taken, by the two lists for searches
pub taken_by_parts : (ranges created attached : List OwnRange) (base bytes : ℕ) → IsIndexed ranges created attached
    → is_taken (map (λ (own : OwnRange). own.range) ranges) (record { base = base; bytes = bytes })
    ≡ (list_any (λ (own : OwnRange). do_overlap (record { base = base; bytes = bytes }) own.range) created
    || list_any (λ (own : OwnRange). do_overlap (record { base = base; bytes = bytes }) own.range) attached)
taken_by_parts ranges created attached base bytes so =
    any_map (do_overlap (record { base = base; bytes = bytes })) (λ (own : OwnRange). own.range) ranges
    ∙ list_any-parts (λ (own : OwnRange). do_overlap (record { base = base; bytes = bytes }) own.range) (λ
    (own : OwnRange). own.is_attached) ranges
    ∙ ap (λ b. b || list_any (λ (own : OwnRange). own.is_attached && do_overlap
    (record { base = base; bytes = bytes }) own.range) ranges)
    (sym (so.of_created (λ (own : OwnRange). do_overlap (record { base = base; bytes = bytes }) own.range)))
    ∙ ap (λ b. list_any (λ (own : OwnRange). do_overlap (record { base = base; bytes = bytes }) own.range) created || b)
    (sym (so.of_attached (λ (own : OwnRange). do_overlap (record { base = base; bytes = bytes }) own.range)))

pub taken_by_created : (ranges created attached : List OwnRange) (base bytes : ℕ)
    (hit : Bool) → IsIndexed ranges created attached
    → hit ≡ list_any (λ (own : OwnRange). do_overlap (record { base = base; bytes = bytes }) own.range) created → hit
    ≡ true
    → hit ≡ is_taken (map (λ (own : OwnRange). own.range) ranges) (record { base = base; bytes = bytes })
taken_by_created ranges created attached base bytes hit so is yes_hit =
    yes_hit
    ∙ sym (ap (λ b. b || list_any (λ (own : OwnRange). do_overlap
    (record { base = base; bytes = bytes }) own.range) attached) (sym is ∙ yes_hit))
    ∙ sym (taken_by_parts ranges created attached base bytes so)

pub taken_by_attached : (ranges created attached : List OwnRange) (base bytes : ℕ) (hit other : Bool)
    → IsIndexed ranges created attached
    → hit ≡ list_any (λ (own : OwnRange). do_overlap (record { base = base; bytes = bytes }) own.range) created → hit
    ≡ false
    → other ≡ list_any (λ (own : OwnRange). do_overlap (record { base = base; bytes = bytes }) own.range) attached
    → other ≡ is_taken (map (λ (own : OwnRange). own.range) ranges) (record { base = base; bytes = bytes })
taken_by_attached ranges created attached base bytes hit other so is none attached_is =
    attached_is
    ∙ sym (ap (λ b. b || list_any (λ (own : OwnRange). do_overlap
    (record { base = base; bytes = bytes }) own.range) attached) (sym is ∙ none))
    ∙ sym (taken_by_parts ranges created attached base bytes so)

pub not_taken-empty : (ranges : List Range) (base bytes : ℕ) → bytes ≡ 0
    → false ≡ is_taken ranges (record { base = base; bytes = bytes })
not_taken-empty [] base bytes none = refl
not_taken-empty (r ∷ rs) base bytes none =
    not_taken-empty rs base bytes none
    ∙ sym (ap (λ n. (((nat_lt 0 n && nat_lt 0 r.bytes) && nat_lt base (r.base + r.bytes)) && nat_lt r.base
    (base + bytes)) || is_taken rs (record { base = base; bytes = bytes })) none)

-- the same, of lists that are equal to those
pub IsIndexed-filtered : (q : OwnRange → Bool) (ranges created attached rs cs ats : List OwnRange)
    → IsIndexed ranges created attached → rs ≡ filter q ranges → cs ≡ filter q created → ats ≡ filter q attached
    → IsIndexed rs cs ats
IsIndexed-filtered q ranges created attached rs cs ats so r c a =
    let left = IsIndexed-filter q ranges created attached so in
    let one : IsIndexed rs (filter q created) (filter q attached) =
    subst (λ (xs : List OwnRange). IsIndexed xs (filter q created) (filter q attached)) (sym r) left in
    let two : IsIndexed rs cs (filter q attached) = subst (λ (xs : List OwnRange). IsIndexed rs xs
    (filter q attached)) (sym c) one in
    subst (λ (xs : List OwnRange). IsIndexed rs cs xs) (sym a) two
