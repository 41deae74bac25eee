-- A range that is attached comes between those that end before it and those that begin after it.
use Rattle.std.proofs.Common.{◌≡◌, ℕ, zero, suc, ◌+◌, ◌<◌, ◌≤◌, Bool, true, false, not, ◌&&◌, ◌||◌, List, [], ◌∷◌, ◌++◌}
use Rattle.std.proofs.Common.{length, slice_index_or, map, refl, sym, ◌∙◌, ap, subst, inl, inr, arith}
use Rattle.std.specs.Prelude.{◌⊎◌, insert}
use Rattle.std.specs.List.{list_any}
use Rattle.std.proofs.lemmas.Bool.{cases_lt, or_parts, false≢true}
use Rattle.std.proofs.lemmas.List.Edits.{length-insert, get_or-insert_below, get_or-insert_at, get_or-insert_above}
use Rattle.std.proofs.lemmas.List.Folds.{list_any-append, list_any_at}
use Rattle.list_laws.proofs.Truths.{or_false}
use Rattle.rank_rules.specs.Ranges.{do_overlap, is_taken}
use Rattle.rank_rules.specs.Windows.{OwnRange}
use Rattle.window_regions.specs.Ascending.{end_of, IsBefore, IsAscending, IsFirstPast}
use Rattle.window_regions.specs.Indexed.{IsIndexed}
use Rattle.window_regions.proofs.Searches.{do_overlap-true}
use Rattle.window_regions.proofs.Indexes.{list_any-insert, taken_by_parts}

-- what stands at a place of a list into which a range was inserted
abbrev IsEntry : List OwnRange → ℕ → OwnRange → OwnRange → ℕ → Type 0
IsEntry xs at own d k =
    ((k < at) × (slice_index_or (insert xs at own) k d ≡ slice_index_or xs k d))
    ⊎ (((k ≡ at) × (slice_index_or (insert xs at own) k d ≡ own))
    ⊎ ((m : ℕ) × (k ≡ m + 1) × (at ≤ m) × (slice_index_or (insert xs at own) k d ≡ slice_index_or xs m d)))

entry_at : (xs : List OwnRange) (at : ℕ) (own d : OwnRange) (k : ℕ) → at ≤ length xs → IsEntry xs at own d k
entry_at xs at own d k within = by_place (cases_lt k at)
  where
    by_place : ((k < at) ⊎ (at ≤ k)) → IsEntry xs at own d k
    by_place (inl below) = inl (below, get_or-insert_below xs at own d k below within)
    by_place (inr above) = by_order (cases_lt at k)
      where
        by_order : ((at < k) ⊎ (k ≤ at)) → IsEntry xs at own d k
        by_order (inr here) =
            let same : at ≡ k = omega arith in
            inr (inl (
              sym same,
              subst (λ (n : ℕ). slice_index_or (insert xs at own) n d ≡ own) same
                  (get_or-insert_at xs at own d within),
            ))
        by_order (inl later) = past k later
          where
            past : (n : ℕ) → at < n → IsEntry xs at own d n
            past zero lt = absurd (omega arith)
            past (suc m) lt =
                let more : m + 1 ≡ suc m = omega arith in
                inr (inr (
                  m,
                  sym more,
                  (omega arith),
                  subst (λ (n : ℕ). slice_index_or (insert xs at own) n d ≡ slice_index_or xs m d) more
                      (get_or-insert_above xs at own d m (omega arith) within),
                ))

pub IsAscending-insert : (xs : List OwnRange) (at : ℕ) (own : OwnRange) → IsAscending xs → at ≤ length xs
    → 0 < own.range.bytes
    → ((i : ℕ) (d : OwnRange) → i < at → end_of (slice_index_or xs i d) ≤ own.range.base)
    → ((i : ℕ) (d : OwnRange) → at ≤ i → i < length xs → end_of own ≤ (slice_index_or xs i d).range.base)
    → IsAscending (insert xs at own)
IsAscending-insert xs at own up within some before after = record {
  in_order = λ i j d lt inside. ordered i j d lt inside (entry_at xs at own d i within) (entry_at xs at own d j within);
  with_bytes = λ i d inside. has_bytes i d inside (entry_at xs at own d i within);
}
  where
    long : length (insert xs at own) ≡ length xs + 1
    long = length-insert xs at own within

    has_bytes : (i : ℕ) (d : OwnRange) → i < length (insert xs at own) → IsEntry xs at own d i
        → 0 < (slice_index_or (insert xs at own) i d).range.bytes
    has_bytes i d inside (inl (below, is)) =
        subst (λ (o : OwnRange). 0 < o.range.bytes) (sym is) (up.with_bytes i d (omega arith))
    has_bytes i d inside (inr (inl (here, is))) = subst (λ (o : OwnRange). 0 < o.range.bytes) (sym is) some
    has_bytes i d inside (inr (inr (m, next, above, is))) =
        let length_is = long in
        subst (λ (o : OwnRange). 0 < o.range.bytes) (sym is) (up.with_bytes m d (omega arith))

    both : (a b a' b' : OwnRange) → a' ≡ a → b' ≡ b → IsBefore a b → IsBefore a' b'
    both a b a' b' a_is b_is h =
        subst (λ (o : OwnRange). IsBefore o b') (sym a_is) (subst (λ (o : OwnRange). IsBefore a o) (sym b_is) h)

    ordered : (i j : ℕ) (d : OwnRange) → i < j → j < length (insert xs at own) → IsEntry xs at own d i → IsEntry xs
        at own d j
        → IsBefore (slice_index_or (insert xs at own) i d) (slice_index_or (insert xs at own) j d)
    ordered i j d lt inside (inl (below, i_is)) (inl (low, j_is)) =
        both _ _ _ _ i_is j_is (up.in_order i j d lt (omega arith))
    ordered i j d lt inside (inl (below, i_is)) (inr (inl (here, j_is))) = both _ _ _ _ i_is j_is (before i d below)
    ordered i j d lt inside (inl (below, i_is)) (inr (inr (m, next, above, j_is))) =
        let length_is = long in
        both _ _ _ _ i_is j_is (up.in_order i m d (omega arith) (omega arith))
    ordered i j d lt inside (inr (inl (here, i_is))) (inl (low, j_is)) = absurd (omega arith)
    ordered i j d lt inside (inr (inl (here, i_is))) (inr (inl (there, j_is))) = absurd (omega arith)
    ordered i j d lt inside (inr (inl (here, i_is))) (inr (inr (m, next, above, j_is))) =
        let length_is = long in
        both _ _ _ _ i_is j_is (after m d above (omega arith))
    ordered i j d lt inside (inr (inr (m, next, above, i_is))) (inl (low, j_is)) = absurd (omega arith)
    ordered i j d lt inside (inr (inr (m, next, above, i_is))) (inr (inl (there, j_is))) = absurd (omega arith)
    ordered i j d lt inside (inr (inr (m, next, above, i_is))) (inr (inr (n, following, later, j_is))) =
        let length_is = long in
        both _ _ _ _ i_is j_is (up.in_order m n d (omega arith) (omega arith))

-- where no range overlaps, those that end past the base begin past the bytes
pub begins_past : (xs : List OwnRange) (base bytes at : ℕ) → IsAscending xs → 0 < bytes → IsFirstPast xs base at
    → list_any (λ (own : OwnRange). do_overlap (record { base = base; bytes = bytes }) own.range) xs ≡ false
    → (i : ℕ) (d : OwnRange) → at ≤ i → i < length xs → base + bytes ≤ (slice_index_or xs i d).range.base
begins_past xs base bytes at up some first none i d le lt = by_order (cases_lt (slice_index_or xs i d).range.base
    (base + bytes))
  where
    by_order : (((slice_index_or xs i d).range.base < base + bytes) ⊎ (base + bytes ≤
        (slice_index_or xs i d).range.base))
        → base + bytes ≤ (slice_index_or xs i d).range.base
    by_order (inr far) = far
    by_order (inl near) = absurd (false≢true (sym none ∙ list_any_at
        (λ (own : OwnRange). do_overlap (record { base = base; bytes = bytes }) own.range) xs i d lt
        (do_overlap-true base bytes (slice_index_or xs i d).range some (up.with_bytes i d lt)
        (first.after i d le lt) near)))

or-to_end : (t a : Bool) → (t || a) ≡ (a || (t || false))
or-to_end true true = refl
or-to_end true false = refl
or-to_end false true = refl
or-to_end false false = refl

-- a range that is attached comes to the ranges
pub IsIndexed-attached : (ranges created attached : List OwnRange) (win base bytes at : ℕ)
    → IsIndexed ranges created attached → 0 < bytes
    → is_taken (map (λ (own : OwnRange). own.range) ranges) (record { base = base; bytes = bytes }) ≡ false
    → IsFirstPast attached base at
    → IsIndexed (ranges ++ record { win = win; range = record { base = base; bytes = bytes }; is_attached = true } ∷
    []) created
    (insert attached at (record { win = win; range = record { base = base; bytes = bytes }; is_attached = true }))
IsIndexed-attached ranges created attached win base bytes at so some free first = record {
  of_created = λ test.
      so.of_created test
      ∙ sym (or_false _)
      ∙ sym (list_any-append (λ (own : OwnRange). not own.is_attached && test own) ranges _);
  of_attached = λ test.
      list_any-insert test attached at own
      ∙ ap (λ b. test own || b) (so.of_attached test)
      ∙ or-to_end (test own) _
      ∙ sym (list_any-append (λ (other : OwnRange). other.is_attached && test other) ranges _);
  ascending = IsAscending-insert attached at own so.ascending first.within some first.before
      (begins_past attached base bytes at so.ascending some first none);
}
  where
    own : OwnRange
    own = record { win = win; range = record { base = base; bytes = bytes }; is_attached = true }

    none : list_any (λ (other : OwnRange). do_overlap (record { base = base; bytes = bytes }) other.range) attached ≡
        false
    none = (or_parts (list_any (λ (other : OwnRange). do_overlap
        (record { base = base; bytes = bytes }) other.range) created)
        (list_any (λ (other : OwnRange). do_overlap (record { base = base; bytes = bytes }) other.range) attached)
        (sym (taken_by_parts ranges created attached base bytes so) ∙ free)).1

-- the same, of lists that are equal to those
pub IsIndexed-attached_as : (ranges created attached rs ats : List OwnRange) (win base bytes at : ℕ)
    → IsIndexed ranges created attached → 0 < bytes
    → is_taken (map (λ (own : OwnRange). own.range) ranges) (record { base = base; bytes = bytes }) ≡ false
    → IsFirstPast attached base at
    → rs ≡ ranges ++ record { win = win; range = record { base = base; bytes = bytes }; is_attached = true } ∷ []
    → ats ≡ insert attached at (record { win = win; range = record { base = base; bytes = bytes }; is_attached = true })
    → IsIndexed rs created ats
IsIndexed-attached_as ranges created attached rs ats win base bytes at so some free first r a =
    let own : OwnRange = record { win = win; range = record { base = base; bytes = bytes }; is_attached = true } in
    let one : IsIndexed (ranges ++ own ∷ []) created (insert attached at own) =
    IsIndexed-attached ranges created attached win base bytes at so some free first in
    let two : IsIndexed rs created (insert attached at own) =
    subst (λ (xs : List OwnRange). IsIndexed xs created (insert attached at own)) (sym r) one in
    subst (λ (xs : List OwnRange). IsIndexed rs created xs) (sym a) two
