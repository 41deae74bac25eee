-- A look-up that is allowed reaches the memory of its target alone.
use Rattle.std.proofs.Common.{◌≡◌, ℕ, ◌+◌, ◌<◌, ◌≤◌, Bool, true, false, not, leb, ltb, List, [], ◌∷◌, refl, ap}
use Rattle.std.proofs.Common.{sym, ◌∙◌, subst, arith, is_some, Option, Some, None, ⊎_elim}
use Rattle.std.specs.Prelude.{slice_get}
use Rattle.std.specs.List.{AllByRecursion, list_any}
use Rattle.std.specs.Option.{MatchOption}
use Rattle.std.proofs.lemmas.Bool.{ltb-true, or_cases, true≢false}
use Rattle.list_laws.proofs.Truths.{both_right}
use Rattle.rma_types.specs.declared.accesses.Step.{Step}
use Rattle.rma_types.specs.declared.accesses.Step.TheVariants.{Arrive, Leave, One}
use Rattle.rma_types.specs.declared.calls.Call.{Call}
use Rattle.rma_types.specs.declared.classes.Class.TheVariants.{Range as RangeClass}
use Rattle.rma_types.specs.declared.scripts.Layout.{Layout}
use Rattle.rma_types.specs.declared.actions.Transfer.{Transfer}
use Rattle.rma_types.specs.declared.actions.Action.TheVariants.{Moves}
use Rattle.rma_types.specs.Actions.{action_of, transfer_of}
use Rattle.rma_types.proofs.ActionLaws.{transfer_is}
use Rattle.call_rules.specs.Ranks.{natural}
use Rattle.call_rules.specs.Transfers.{bytes_of, rank_reached}
use Rattle.call_rules.proofs.NumbersFrom.{all_at_number}
use Rattle.rank_rules.specs.Ranges.{Range, covers, has_byte}
use Rattle.rank_rules.specs.Windows.{window_number}
use Rattle.board_rules.specs.AttachedRanges.{ranges_attached}
use Rattle.board_rules.specs.Board.{Allow, decide, decision, decision_by, refuse_if}
use Rattle.board_rules.specs.Entries.{Act, Row, acts, collective_in, window_of}
use Rattle.board_rules.specs.Questions.{Question, question}
use Rattle.sync_board.specs.Boards.{LooksInside, bytes_at, is_step_of}
use Rattle.sync_board.specs.Named.{IsNameUntouched, KeepsName, KeepsWindows}
use Rattle.sync_board.specs.Windows.{AttachedInside, IsUntouched, KeepsWindow, done_on}
use Rattle.sync_board.specs.declared.named.NameRecord.{NameRecord}
use Rattle.sync_board.specs.declared.window_record.WindowRecord.{WindowRecord}
use Rattle.sync_board.proofs.Judged.{one_by}
use Rattle.sync_board.proofs.RangesKept.{attached_is}

byte_below : (limit : ℕ) (ranges : List Range) (address : ℕ) →
    AllByRecursion (λ (range : Range). range.base + range.bytes ≤ limit) ranges →
    list_any (has_byte address) ranges ≡ true → address < limit
byte_below limit [] address all found = absurd (true≢false (sym found))
byte_below limit (range ∷ ranges) address all found = ⊎_elim
    (λ here.
    let less : address < range.base + range.bytes = ltb-true address (range.base + range.bytes)
    (both_right (leb range.base address) (ltb address (range.base + range.bytes)) here) in
    let within : range.base + range.bytes ≤ limit = all.0 in
    omega arith)
    (λ later. byte_below limit ranges address all.1 later)
    (or_cases (has_byte address range) (list_any (has_byte address) ranges) found)

-- the ranges that are attached to any window lie in the memory of their ranks
pub inside_at : (layout : Layout) (ranks : ℕ) (entries : List Act) (names : List NameRecord) →
    KeepsWindows layout ranks entries names → (round name : ℕ) → name < 32 →
    AttachedInside layout (done_on entries (window_number round name))
inside_at layout ranks entries names keeps round name below = named (slice_get names name) (keeps name)
  where
    rounds : (o : Option WindowRecord) → MatchOption o (IsUntouched ranks (window_number round name) entries)
        (KeepsWindow layout ranks (window_number round name) entries) →
        AttachedInside layout (done_on entries (window_number round name))
    rounds None none rank = rw (none.ranges rank) tt
    rounds (Some kept) keeps rank = keeps.inside rank

    named : (o : Option NameRecord) → MatchOption o (name < 32 → IsNameUntouched ranks name entries)
        (λ (one : NameRecord). name < 32 → KeepsName layout ranks name entries one.rounds.items) →
        AttachedInside layout (done_on entries (window_number round name))
    named None none rank = rw ((none below round).ranges rank) tt
    named (Some one) keeps rank = rounds (slice_get one.rounds.items round) (keeps below round) rank

step_by : (step : Step) (call : Call) (t : Transfer) → action_of call ≡ Moves t → is_step_of step call ≡ true →
    step ≡ One
step_by One call t moves is = refl
step_by Arrive call t moves is = absurd (true≢false (sym is ∙ ap (λ a. is_some (collective_in a)) moves))
step_by Leave call t moves is = absurd (true≢false (sym is ∙ ap (λ a. is_some (collective_in a)) moves))

covered_so : (b : Bool) → decision_by (refuse_if (not b) RangeClass) true ≡ Allow → b ≡ true
covered_so true e = refl
covered_so false e = cc

pub looks_inside : (layout : Layout) (ranks : ℕ) (rows : List Row) (row : Row) (t : Transfer) (names : List NameRecord)
    (round name : ℕ) →
    KeepsWindows layout ranks (acts rows) names → window_of rows row ≡ window_number round name → name < 32 →
    transfer_of row.call ≡ Some t → is_step_of row.step row.call ≡ true → decide ranks rows row ≡ Allow →
    LooksInside layout row.rank t
looks_inside layout ranks rows row t names round name keeps at below is step allowed address low high =
    let moves : action_of row.call ≡ Moves t = transfer_is (action_of row.call) t is in
    let q : Question = question ranks rows row in
    let one : decision (question ranks rows row) One ≡ Allow = ap (decision (question ranks rows row))
    (sym (step_by row.step row.call t moves step)) ∙ allowed in
    let all : covers (ranges_attached (acts rows) (rank_reached row.rank t.target) (window_of rows row))
    (natural t.disp) (bytes_of t) ≡ true =
    covered_so (covers (ranges_attached (acts rows) (rank_reached row.rank t.target) (window_of rows row))
    (natural t.disp) (bytes_of t)) (sym (one_by q (Moves t) moves) ∙ one) in
    let inside : AllByRecursion (λ (range : Range). range.base + range.bytes ≤ bytes_at layout
    (rank_reached row.rank t.target))
    (done_on (acts rows) (window_of rows row) (rank_reached row.rank t.target)).ranges =
    subst (λ w. AttachedInside layout (done_on (acts rows) w)) (sym at)
    (inside_at layout ranks (acts rows) names keeps round name below) (rank_reached row.rank t.target) in
    byte_below (bytes_at layout (rank_reached row.rank t.target))
    (ranges_attached (acts rows) (rank_reached row.rank t.target) (window_of rows row)) address
    (rw (attached_is (acts rows) (rank_reached row.rank t.target) (window_of rows row)) inside)
    (all_at_number (λ a. list_any (has_byte a) (ranges_attached (acts rows) (rank_reached row.rank t.target)
    (window_of rows row))) (natural t.disp) (bytes_of t) address all low high)
