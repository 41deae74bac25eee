-- The ranges that are kept are those that a rank has attached, as it attaches and detaches.
use Rattle.std.proofs.Common.{◌≡◌, ℕ, Bool, true, false, not, ◌&&◌, ◌||◌, eqb, List, [], ◌∷◌, ◌++◌, map, refl, ap, sym}
use Rattle.std.proofs.Common.{◌∙◌, append-nil}
use Rattle.std.specs.List.{filter, fold, list_all, list_any}
use Rattle.std.proofs.lemmas.Grind.{fold-append}
use Rattle.std.proofs.lemmas.List.Elements.{filter-append}
use Rattle.std.proofs.lemmas.List.Folds.{list_any-append}
use Rattle.list_laws.proofs.Tests.{any_filter, any_map}
use Rattle.rma_types.specs.Actions.{action_of}
use Rattle.call_rules.specs.Pieces.{numbers_from}
use Rattle.rank_rules.specs.Ranges.{Range, covers, has_byte}
use Rattle.board_rules.specs.AttachedRanges.{ranges_after, ranges_attached}
use Rattle.board_rules.specs.Entries.{Act, is_by_on}
use Rattle.sync_board.specs.declared.regions.Span.{Span}
use Rattle.sync_board.specs.KeptRanges.{HasSameRanges, range_in, without}
use Rattle.sync_board.specs.Sides.{done, own}
use Rattle.sync_board.proofs.AnyOf.{filter_map_swap}

-- ---- what is kept

-- a byte of one of the ranges is one of those that are apart or of the others
pub has_either : (ranges apart : List Range) (others : List Span) (address : ℕ) →
    HasSameRanges (apart ++ map range_in others) ranges →
    list_any (has_byte address) ranges ≡
    (covers apart address 1 || list_any (λ span. has_byte address (range_in span)) others)
has_either ranges apart others address same =
    sym (same (has_byte address)) ∙ (list_any-append (has_byte address) apart (map range_in others)
    ∙ rw (any_map (has_byte address) range_in others)
    (ap (λ b. b || list_any (λ span. has_byte address (range_in span)) others)
    (sym (always (list_any (has_byte address) apart)))))
  where
    always : (b : Bool) → (b && true) ≡ b
    always true = refl
    always false = refl

-- all ranges are apart
pub covers_apart : (ranges apart : List Range) (others : List Span) (lo len : ℕ) → others ≡ [] →
    HasSameRanges (apart ++ map range_in others) ranges →
    covers apart lo len ≡ covers ranges lo len
covers_apart ranges apart others lo len none same =
    all_alike (λ address. list_any (has_byte address) apart) (λ address. list_any (has_byte address) ranges)
    (λ address. ap (list_any (has_byte address)) (sym (append-nil apart) ∙ ap (λ xs. apart ++ map range_in xs)
    (sym none)) ∙ same (has_byte address)) (numbers_from lo len)
  where
    all_alike : (p r : ℕ → Bool) → ((k : ℕ) → p k ≡ r k) → (ks : List ℕ) → list_all p ks ≡ list_all r ks
    all_alike p r alike [] = refl
    all_alike p r alike (k ∷ ks) = rw (alike k, all_alike p r alike ks) refl

pub fewer : (ranges apart : List Range) (others : List Span) (base : ℕ) →
    HasSameRanges (apart ++ map range_in others) ranges →
    HasSameRanges (without base apart ++ map range_in (filter (λ (span : Span). not (eqb span.base base)) others))
    (without base ranges)
fewer ranges apart others base same test =
    let stays : Range → Bool = λ (range : Range). not (eqb range.base base) in
    ap (λ xs. list_any test (without base apart ++ xs)) (filter_map_swap range_in stays others)
    ∙ (ap (list_any test) (sym (filter-append stays apart (map range_in others)))
    ∙ (any_filter test stays (apart ++ map range_in others)
    ∙ (same (λ range. stays range && test range) ∙ sym (any_filter test stays ranges))))

-- ---- one entry more

-- the ranges of a rank on a window, as part of what the rank has done there
pub attached_is : (entries : List Act) (rank window : ℕ) → ranges_attached entries rank window ≡
    (done (own entries rank window)).ranges
unfolding done
attached_is entries rank window = refl

pub attached_more : (entries : List Act) (rank window : ℕ) (act : Act) → is_by_on rank window act ≡ true →
    ranges_attached (entries ++ act ∷ []) rank window ≡ ranges_after (ranges_attached entries rank window) act.row.step
    (action_of act.row.call)
attached_more entries rank window act its =
    let step : List Range → Act → List Range = λ ranges (act : Act). ranges_after ranges act.row.step
    (action_of act.row.call) in
    let more : own (entries ++ act ∷ []) rank window ≡ own entries rank window ++ act ∷ [] =
    filter-append (is_by_on rank window) entries (act ∷ []) ∙ rw its refl in
    ap (fold step []) more
    ∙ fold-append step [] (filter (is_by_on rank window) entries) (act ∷ [])

-- an entry of another rank, or on another window
pub attached_elsewhere : (entries : List Act) (rank window : ℕ) (act : Act) → is_by_on rank window act ≡ false →
    ranges_attached (entries ++ act ∷ []) rank window ≡ ranges_attached entries rank window
attached_elsewhere entries rank window act other =
    let step : List Range → Act → List Range = λ ranges (act : Act). ranges_after ranges act.row.step
    (action_of act.row.call) in
    let same : own (entries ++ act ∷ []) rank window ≡ own entries rank window =
    filter-append (is_by_on rank window) entries (act ∷ []) ∙ rw other (append-nil (own entries rank window)) in
    ap (fold step []) same
