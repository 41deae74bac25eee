-- What a search among ascending ranges finds.
use Rattle.std.proofs.Common.{◌≡◌, ℕ, ◌+◌, ◌<◌, ◌≤◌, true, false, nat_lt, nat_le, List, length}
use Rattle.std.proofs.Common.{slice_index_or, refl, sym, ◌∙◌, ap, subst, arith, inl, inr}
use Rattle.std.specs.Prelude.{◌⊎◌}
use Rattle.std.specs.List.{list_any, list_all}
use Rattle.call_rules.specs.Pieces.{numbers_from}
use Rattle.std.specs.List.Sorted.{IsPartitionedBy, IsPartitionPoint}
use Rattle.std.proofs.lemmas.Bool.{cases_lt, cases_Bool, leb-true, le-leb, leb-false, ltb-true, ltb-false, lt-ltb}
use Rattle.std.proofs.lemmas.Bool.{le-ltb, lt-leb, and_parts, and_from, and_left, and_right, ne_eqb}
use Rattle.std.proofs.lemmas.List.{get_or_default}
use Rattle.std.proofs.lemmas.List.Recursion.{or_at, or_from_places}
use Rattle.call_rules.proofs.NumbersFrom.{all_numbers, not_all_numbers}
use Rattle.rank_rules.specs.Ranges.{Range, do_overlap}
use Rattle.rank_rules.specs.Windows.{OwnRange, is_attached_from}
use Rattle.window_regions.specs.Ascending.{end_of, IsAscending, IsFirstPast, is_attached_byte}

-- what is read past the end of a list
abbrev pub no_range : OwnRange
no_range = record { win = 0; range = record { base = 0; bytes = 0 }; is_attached = false }

-- a range ends no later than those after it
end-rises : (xs : List OwnRange) → IsAscending xs → (i j : ℕ) (d : OwnRange) → i ≤ j → j < length xs
    → end_of (slice_index_or xs i d) ≤ end_of (slice_index_or xs j d)
end-rises xs up i j d le lt = by_order (cases_lt i j)
  where
    by_order : ((i < j) ⊎ (j ≤ i)) → end_of (slice_index_or xs i d) ≤ end_of (slice_index_or xs j d)
    by_order (inl below) =
        let before : end_of (slice_index_or xs i d) ≤ (slice_index_or xs j d).range.base = up.in_order i j d below lt in
        omega arith
    by_order (inr above) =
        let same : i ≡ j = omega arith in
        let ends : end_of (slice_index_or xs i d) ≡ end_of (slice_index_or xs j d) =
        ap (λ (k : ℕ). end_of (slice_index_or xs k d)) same in
        omega arith

-- so a test for an end by an address parts the list in two
pub IsPartitionedBy-end : (xs : List OwnRange) (address : ℕ) → IsAscending xs
    → IsPartitionedBy (λ (own : OwnRange). nat_le (end_of own) address) xs
IsPartitionedBy-end xs address up i j d le lt h =
    let rises = end-rises xs up i j d le lt in
    let low : end_of (slice_index_or xs j d) ≤ address = leb-true _ address h in
    le-leb _ address (omega arith)

pub IsFirstPast-from_partition : (xs : List OwnRange) (address at : ℕ) → at ≤ length xs
    → IsPartitionPoint (λ (own : OwnRange). nat_le (end_of own) address ≡ true) (λ own. nat_le
    (end_of own) address ≡ false) xs at
    → IsFirstPast xs address at
IsFirstPast-from_partition xs address at within parts = record {
  within = within;
  before = λ i d lt. leb-true _ address (parts.0 i d (omega arith) lt);
  after = λ i d le lt. leb-false _ address (parts.1 i d le lt);
}

pub do_overlap-true : (base bytes : ℕ) (r : Range) → 0 < bytes → 0 < r.bytes → base < r.base + r.bytes → r.base <
    base + bytes
    → do_overlap (record { base = base; bytes = bytes }) r ≡ true
do_overlap-true base bytes r a b c e =
    and_from _ _ (and_from _ _ (and_from _ _ (lt-ltb 0 bytes a) (lt-ltb 0 r.bytes b)) (lt-ltb _ _ c)) (lt-ltb _ _ e)

do_overlap-below : (base bytes : ℕ) (r : Range) → r.base + r.bytes ≤ base
    → do_overlap (record { base = base; bytes = bytes }) r ≡ false
do_overlap-below base bytes r below = and_left _ _ (and_right _ _ (le-ltb base (r.base + r.bytes) below))

do_overlap-above : (base bytes : ℕ) (r : Range) → base + bytes ≤ r.base
    → do_overlap (record { base = base; bytes = bytes }) r ≡ false
do_overlap-above base bytes r above = and_right _ _ (le-ltb r.base (base + bytes) above)

-- where the first range past the base begins within the bytes, it overlaps
pub overlap_found : (xs : List OwnRange) (base bytes at : ℕ) (d : OwnRange) → IsAscending xs → 0 < bytes
    → IsFirstPast xs base at → at < length xs → (slice_index_or xs at d).range.base < base + bytes
    → list_any (λ (own : OwnRange). do_overlap (record { base = base; bytes = bytes }) own.range) xs ≡ true
overlap_found xs base bytes at d up some first lt near =
    or_at (list_any (λ (own : OwnRange). do_overlap (record { base = base; bytes = bytes }) own.range))
    (λ (own : OwnRange). do_overlap (record { base = base; bytes = bytes }) own.range)
    refl (λ x rest. refl) xs at d lt
    (do_overlap-true base bytes (slice_index_or xs at d).range some (up.with_bytes at d lt) (first.after at d
    (omega arith) lt) near)

-- where it begins past them, or there is none, no range overlaps
pub overlap_nowhere : (xs : List OwnRange) (base bytes at : ℕ) (d : OwnRange) → IsAscending xs
    → IsFirstPast xs base at → (at < length xs → base + bytes ≤ (slice_index_or xs at d).range.base)
    → list_any (λ (own : OwnRange). do_overlap (record { base = base; bytes = bytes }) own.range) xs ≡ false
overlap_nowhere xs base bytes at d up first far =
    or_from_places (list_any (λ (own : OwnRange). do_overlap (record { base = base; bytes = bytes }) own.range))
    (λ (own : OwnRange). do_overlap (record { base = base; bytes = bytes }) own.range)
    refl (λ x rest. refl) xs d each
  where
    each : (i : ℕ) → i < length xs → do_overlap (record { base = base; bytes = bytes })
        (slice_index_or xs i d).range ≡ false
    each i lt = by_place (cases_lt i at)
      where
        by_place : ((i < at) ⊎ (at ≤ i)) → do_overlap (record { base = base; bytes = bytes })
            (slice_index_or xs i d).range ≡ false
        by_place (inl below) = do_overlap-below base bytes (slice_index_or xs i d).range (first.before i d below)
        by_place (inr above) = by_order (cases_lt at i)
          where
            by_order : ((at < i) ⊎ (i ≤ at)) → do_overlap (record { base = base; bytes = bytes })
                (slice_index_or xs i d).range ≡ false
            by_order (inl later) =
                let start : base + bytes ≤ (slice_index_or xs at d).range.base = far (omega arith) in
                let before : end_of (slice_index_or xs at d) ≤ (slice_index_or xs i d).range.base = up.in_order at i
                d later lt in
                do_overlap-above base bytes (slice_index_or xs i d).range (omega arith)
            by_order (inr here) =
                let same : at ≡ i = omega arith in
                let start : base + bytes ≤ (slice_index_or xs i d).range.base =
                subst (λ (k : ℕ). base + bytes ≤ (slice_index_or xs k d).range.base) same (far (omega arith)) in
                do_overlap-above base bytes (slice_index_or xs i d).range start

-- the first range past the base tells whether any overlaps
pub overlap_at : (xs : List OwnRange) (base bytes at : ℕ) (own : OwnRange) → IsAscending xs → 0 < bytes
    → IsFirstPast xs base at → at < length xs → own ≡ slice_index_or xs at own
    → nat_lt own.range.base (base + bytes)
    ≡ list_any (λ (other : OwnRange). do_overlap (record { base = base; bytes = bytes }) other.range) xs
overlap_at xs base bytes at own up some first lt is = by_test (cases_Bool (nat_lt own.range.base (base + bytes)))
  where
    by_test : ((nat_lt own.range.base (base + bytes) ≡ true) ⊎ (nat_lt own.range.base (base + bytes) ≡ false))
        → nat_lt own.range.base (base + bytes)
        ≡ list_any (λ (other : OwnRange). do_overlap (record { base = base; bytes = bytes }) other.range) xs
    by_test (inl near) =
        let begins : (slice_index_or xs at own).range.base < base + bytes =
        subst (λ (o : OwnRange). o.range.base < base + bytes) is (ltb-true _ _ near) in
        near ∙ sym (overlap_found xs base bytes at own up some first lt begins)
    by_test (inr far) =
        let begins : base + bytes ≤ (slice_index_or xs at own).range.base =
        subst (λ (o : OwnRange). base + bytes ≤ o.range.base) is (ltb-false _ _ far) in
        far ∙ sym (overlap_nowhere xs base bytes at own up first (λ _. begins))

-- and where there is none, no range does
pub overlap_past_all : (xs : List OwnRange) (base bytes at : ℕ) (d : OwnRange) → IsAscending xs
    → IsFirstPast xs base at → length xs ≤ at
    → false ≡ list_any (λ (other : OwnRange). do_overlap (record { base = base; bytes = bytes }) other.range) xs
overlap_past_all xs base bytes at d up first none =
    sym (overlap_nowhere xs base bytes at d up first (λ lt. absurd (omega arith)))

-- ---- a range that begins at a base

begins_elsewhere : (win base : ℕ) (own : OwnRange) → ((own.range.base ≡ base) → ⊥) → is_attached_from win base own ≡
    false
begins_elsewhere win base own other = and_right _ _ (ne_eqb own.range.base base other)

-- no other range than the first past the base begins there
pub begin_elsewhere : (xs : List OwnRange) (win base at : ℕ) (d : OwnRange) → IsAscending xs → IsFirstPast xs base at
    → (at < length xs → is_attached_from win base (slice_index_or xs at d) ≡ false)
    → list_any (is_attached_from win base) xs ≡ false
begin_elsewhere xs win base at d up first here =
    or_from_places (list_any (is_attached_from win base)) (is_attached_from win base) refl (λ x rest. refl) xs d each
  where
    each : (i : ℕ) → i < length xs → is_attached_from win base (slice_index_or xs i d) ≡ false
    each i lt = by_place (cases_lt i at)
      where
        by_place : ((i < at) ⊎ (at ≤ i)) → is_attached_from win base (slice_index_or xs i d) ≡ false
        by_place (inl below) =
            let ends : end_of (slice_index_or xs i d) ≤ base = first.before i d below in
            let some : 0 < (slice_index_or xs i d).range.bytes = up.with_bytes i d lt in
            begins_elsewhere win base (slice_index_or xs i d) (λ same. absurd (omega arith))
        by_place (inr above) = by_order (cases_lt at i)
          where
            by_order : ((at < i) ⊎ (i ≤ at)) → is_attached_from win base (slice_index_or xs i d) ≡ false
            by_order (inl later) =
                let past : base < end_of (slice_index_or xs at d) = first.after at d (omega arith) (omega arith) in
                let before : end_of (slice_index_or xs at d) ≤ (slice_index_or xs i d).range.base = up.in_order at i
                d later lt in
                begins_elsewhere win base (slice_index_or xs i d) (λ same. absurd (omega arith))
            by_order (inr at_place) =
                let same : at ≡ i = omega arith in
                subst (λ (k : ℕ). is_attached_from win base (slice_index_or xs k d) ≡ false) same (here (omega arith))

pub begin_at : (xs : List OwnRange) (win base at : ℕ) (own : OwnRange) → IsAscending xs → IsFirstPast xs base at
    → at < length xs → own ≡ slice_index_or xs at own
    → is_attached_from win base own ≡ list_any (is_attached_from win base) xs
begin_at xs win base at own up first lt is = by_test (cases_Bool (is_attached_from win base own))
  where
    by_test : ((is_attached_from win base own ≡ true) ⊎ (is_attached_from win base own ≡ false))
        → is_attached_from win base own ≡ list_any (is_attached_from win base) xs
    by_test (inl begins) =
        let there : is_attached_from win base (slice_index_or xs at own) ≡ true =
        subst (λ (o : OwnRange). is_attached_from win base o ≡ true) is begins in
        begins ∙ sym (or_at (list_any (is_attached_from win base)) (is_attached_from win base) refl
        (λ x rest. refl) xs at own lt there)
    by_test (inr other) =
        let there : is_attached_from win base (slice_index_or xs at own) ≡ false =
        subst (λ (o : OwnRange). is_attached_from win base o ≡ false) is other in
        other ∙ sym (begin_elsewhere xs win base at own up first (λ _. there))

pub begin_past_all : (xs : List OwnRange) (win base at : ℕ) (d : OwnRange) → IsAscending xs → IsFirstPast xs base at
    → length xs ≤ at → false ≡ list_any (is_attached_from win base) xs
begin_past_all xs win base at d up first none = sym (begin_elsewhere xs win base at d up first (λ lt. absurd
    (omega arith)))

-- ---- bytes that are attached

-- a byte lies in no range, where those before a place end by it, and none from there on has it
pub byte_nowhere : (xs : List OwnRange) (win address at : ℕ) (d : OwnRange) → IsAscending xs → IsFirstPast xs address at
    → (at < length xs → is_attached_byte win address (slice_index_or xs at d) ≡ false)
    → list_any (is_attached_byte win address) xs ≡ false
byte_nowhere xs win address at d up first here =
    or_from_places (list_any (is_attached_byte win address)) (is_attached_byte win address) refl
    (λ x rest. refl) xs d each
  where
    each : (i : ℕ) → i < length xs → is_attached_byte win address (slice_index_or xs i d) ≡ false
    each i lt = by_place (cases_lt i at)
      where
        by_place : ((i < at) ⊎ (at ≤ i)) → is_attached_byte win address (slice_index_or xs i d) ≡ false
        by_place (inl below) =
            let ends : end_of (slice_index_or xs i d) ≤ address = first.before i d below in
            and_right _ _ (and_right _ _ (le-ltb _ _ ends))
        by_place (inr above) = by_order (cases_lt at i)
          where
            by_order : ((at < i) ⊎ (i ≤ at)) → is_attached_byte win address (slice_index_or xs i d) ≡ false
            by_order (inl later) =
                let past : address < end_of (slice_index_or xs at d) = first.after at d (omega arith) (omega arith) in
                let before : end_of (slice_index_or xs at d) ≤ (slice_index_or xs i d).range.base = up.in_order at i
                d later lt in
                and_right _ _ (and_left _ _ (lt-leb (slice_index_or xs i d).range.base address (omega arith)))
            by_order (inr at_place) =
                let same : at ≡ i = omega arith in
                subst (λ (k : ℕ). is_attached_byte win address (slice_index_or xs k d) ≡ false) same (here
                (omega arith))

-- a range that has one byte has those up to its end
pub bytes_of_range : (xs : List OwnRange) (win address a at : ℕ) (own : OwnRange) → at < length xs
    → own ≡ slice_index_or xs at own → is_attached_byte win address own ≡ true → address ≤ a → a < end_of own
    → list_any (is_attached_byte win a) xs ≡ true
bytes_of_range xs win address a at own lt is has le within =
    let parts = and_parts _ _ has in
    let bounds = and_parts _ _ parts.1 in
    let low : own.range.base ≤ address = leb-true _ _ bounds.0 in
    let there : is_attached_byte win a own ≡ true =
    and_from _ _ parts.0 (and_from _ _ (le-leb own.range.base a (omega arith)) (lt-ltb a (end_of own) within)) in
    or_at (list_any (is_attached_byte win a)) (is_attached_byte win a) refl (λ x rest. refl) xs at own lt
    (subst (λ (o : OwnRange). is_attached_byte win a o ≡ true) is there)

-- the ranges before a place end by an address, those from there on end past it, and the bytes up to it are attached
pub record IsCoveredUpTo (xs : List OwnRange) (win low at address : ℕ) : Type 0 where
  pub reached : low ≤ address
  pub first : IsFirstPast xs address at
  pub covered : (a : ℕ) → low ≤ a → a < address → list_any (is_attached_byte win a) xs ≡ true

-- the next range has the bytes up to its end
pub IsCoveredUpTo-more : (xs : List OwnRange) (win low at address : ℕ) (own : OwnRange) → IsAscending xs
    → IsCoveredUpTo xs win low at address → at < length xs → own ≡ slice_index_or xs at own
    → is_attached_byte win address own ≡ true → IsCoveredUpTo xs win low (at + 1) (end_of own)
IsCoveredUpTo-more xs win low at address own up so lt is has = record {
  reached = reached;
  first = record { within = omega arith; before = before; after = after };
  covered = covered;
}
  where
    past : address < end_of own
    past = subst (λ (o : OwnRange). address < end_of o) (sym is) (so.first.after at own (omega arith) lt)

    reached : low ≤ end_of own
    reached = let below = so.reached in let beyond : address < end_of own = past in omega arith

    ends : (d : OwnRange) → end_of (slice_index_or xs at d) ≡ end_of own
    ends d = ap end_of (get_or_default xs at d own lt ∙ sym is)

    before : (i : ℕ) (d : OwnRange) → i < at + 1 → end_of (slice_index_or xs i d) ≤ end_of own
    before i d below =
        let rises : end_of (slice_index_or xs i d) ≤ end_of (slice_index_or xs at d) = end-rises xs up i at d
        (omega arith) lt in
        let same : end_of (slice_index_or xs at d) ≡ end_of own = ends d in
        omega arith

    after : (i : ℕ) (d : OwnRange) → at + 1 ≤ i → i < length xs → end_of own < end_of (slice_index_or xs i d)
    after i d above within =
        let next : end_of (slice_index_or xs at d) ≤ (slice_index_or xs i d).range.base = up.in_order at i d
        (omega arith) within in
        let some : 0 < (slice_index_or xs i d).range.bytes = up.with_bytes i d within in
        let same : end_of (slice_index_or xs at d) ≡ end_of own = ends d in
        omega arith

    covered : (a : ℕ) → low ≤ a → a < end_of own → list_any (is_attached_byte win a) xs ≡ true
    covered a le within = by_place (cases_lt a address)
      where
        by_place : ((a < address) ⊎ (address ≤ a)) → list_any (is_attached_byte win a) xs ≡ true
        by_place (inl early) = so.covered a le early
        by_place (inr late) = bytes_of_range xs win address a at own lt is has late within

-- where the end is reached, each byte is attached
pub covered_whole : (xs : List OwnRange) (win low len at address : ℕ) → IsCoveredUpTo xs win low at address
    → low + len ≤ address
    → true ≡ list_all (λ (a : ℕ). list_any (is_attached_byte win a) xs) (numbers_from low len)
covered_whole xs win low len at address so reached =
    sym (all_numbers (λ (a : ℕ). list_any (is_attached_byte win a) xs) low len
    (λ a le lt. so.covered a le (omega arith)))

-- where the next byte is in no range, not each byte is
pub gap_found : (xs : List OwnRange) (win low len at address : ℕ) (d : OwnRange) → IsAscending xs
    → IsCoveredUpTo xs win low at address → address < low + len
    → (at < length xs → is_attached_byte win address (slice_index_or xs at d) ≡ false)
    → false ≡ list_all (λ (a : ℕ). list_any (is_attached_byte win a) xs) (numbers_from low len)
gap_found xs win low len at address d up so more here =
    sym (not_all_numbers (λ (a : ℕ). list_any (is_attached_byte win a) xs) low len address so.reached more
    (byte_nowhere xs win address at d up so.first here))

-- and past the last range the address alone tells
pub covered_at_end : (xs : List OwnRange) (win low len at address : ℕ) → IsAscending xs
    → IsCoveredUpTo xs win low at address → length xs ≤ at
    → nat_le (low + len) address ≡ list_all (λ (a : ℕ). list_any (is_attached_byte win a) xs) (numbers_from low len)
covered_at_end xs win low len at address up so none = by_test (cases_Bool (nat_le (low + len) address))
  where
    by_test : ((nat_le (low + len) address ≡ true) ⊎ (nat_le (low + len) address ≡ false))
        → nat_le (low + len) address ≡ list_all (λ (a : ℕ). list_any (is_attached_byte win a) xs) (numbers_from low len)
    by_test (inl reached) = reached ∙ covered_whole xs win low len at address so (leb-true _ _ reached)
    by_test (inr more) =
        more ∙ gap_found xs win low len at address no_range up so (leb-false _ _ more) (λ lt. absurd (omega arith))
