-- What one row more adds to the entries, the creations and the barriers.
use Rattle.std.proofs.Common.{◌≡◌, ℕ, ◌+◌, Bool, true, false, ◌&&◌, cond, eqb, List, [], ◌∷◌, ◌++◌, refl, ap, sym, ◌∙◌}
use Rattle.std.proofs.Common.{append_assoc, append-nil}
use Rattle.list_laws.proofs.Tests.{count_append}
use Rattle.board_rules.specs.Entries.{Row, acts, acts_after, begins_window, creations, names_window, window_of}
use Rattle.board_rules.specs.Questions.{question}
use Rattle.kept_rows.specs.KeptCalls.{kept_row}
use Rattle.kept_rows.proofs.KeptActs.{creation_kept, name_kept, window_of_kept}
use Rattle.sync_board.specs.Windows.{entries_after}

acts_more : (before rows : List Row) (row : Row) →
    acts_after before (rows ++ row ∷ []) ≡ acts_after before rows ++ record
    { row = row; window = window_of (before ++ rows) row } ∷ []
acts_more before [] row = ap (λ xs. record { row = row; window = window_of xs row } ∷ []) (sym (append-nil before))
acts_more before (one ∷ rows) row =
    ap (λ xs. record { row = one; window = window_of before one } ∷ xs)
    (acts_more (before ++ one ∷ []) rows row
    ∙ ap (λ xs. acts_after (before ++ one ∷ []) rows ++ record { row = row; window = window_of xs row } ∷ [])
    (append_assoc before (one ∷ []) rows))

-- the entries with one row more, as it is kept, are those with the entry that the question becomes
pub acts_entered : (ranks : ℕ) (rows : List Row) (row : Row) → acts (rows ++ kept_row row ∷ []) ≡ entries_after
    (question ranks rows row) row.number row.step
acts_entered ranks rows row =
    acts_more [] rows (kept_row row)
    ∙ ap (λ w. acts rows ++ record { row = kept_row row; window = w } ∷ []) (window_of_kept rows row)

pub creations_more : (rows : List Row) (row : Row) (rank win : ℕ) →
    creations (rows ++ kept_row row ∷ []) rank win ≡ creations rows rank win + cond
    (eqb row.rank rank && begins_window row && names_window win row.call) 1 0
creations_more rows row rank win =
    count_append (λ (row : Row). eqb row.rank rank && begins_window row && names_window win row.call) rows
    (kept_row row ∷ [])
    ∙ rw (creation_kept row.call, name_kept row.call)
    (last (eqb row.rank rank && begins_window row && names_window win row.call))
  where
    last : (b : Bool) → creations rows rank win + (0 + cond b 1 0) ≡ creations rows rank win + cond b 1 0
    last true = refl
    last false = refl
