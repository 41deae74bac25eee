-- An entry that takes locks or gives them back leaves all else that is kept of its window.
use Rattle.std.proofs.Common.{◌≡◌, ℕ, false, refl}
use Rattle.std.proofs.lemmas.Bool.{and_right}
use Rattle.rma_types.specs.declared.accesses.Step.{Step}
use Rattle.rma_types.specs.declared.scripts.Layout.{Layout}
use Rattle.rma_types.specs.declared.actions.Synchronisation.{Synchronisation}
use Rattle.rma_types.specs.declared.actions.Action.TheVariants.{Synchronises}
use Rattle.rma_types.specs.Actions.{action_of}
use Rattle.board_rules.specs.Entries.{is_arrive}
use Rattle.board_rules.specs.Questions.{Question}
use Rattle.rma_types.specs.KeptCalls.{kept_call}
use Rattle.sync_board.specs.HeldHere.{KeepsHeld}
use Rattle.sync_board.specs.Windows.{KeepsAfter, KeepsBefore, done_on, entries_after}
use Rattle.sync_board.specs.declared.lock_state.LockState.{LockState}
use Rattle.sync_board.specs.declared.window_record.WindowRecord.{WindowRecord}
use Rattle.sync_board.proofs.HeldSteps.{inside_each, parts_unless, ranges_by, regions_each}
use Rattle.sync_board.proofs.OneMore.{with_entry}
use Rattle.sync_board.proofs.SameParts.{has_round, has_side, members_by, rounds_by, rounds_unless, sides_by}
use Rattle.sync_board.proofs.SameParts.{sides_unless}
use Rattle.sync_board.proofs.WindowSteps.{done_entered, same_for}

pub with_locks : (layout : Layout) (q : Question) (number : ℕ) (step : Step) (win : ℕ) (s : Synchronisation)
    (record_before : WindowRecord) (locks : LockState) →
    has_side (Synchronises win s) ≡ false → has_round (Synchronises win s) ≡ false →
    action_of q.call ≡ Synchronises win s → KeepsBefore layout q record_before →
    KeepsHeld q.ranks q.window (entries_after q number step) locks.table →
    KeepsAfter layout q number step (record record_before { lock_state = locks })
with_locks layout q number step win s record_before locks no_side no_round is kept held =
    let before = done_on q.entries q.window in
    let after = done_on (entries_after q number step) q.window in
    let mine = done_on q.entries q.window q.rank in
    let new = with_entry mine step (kept_call q.call) (Synchronises win s) in
    let same = same_for q number step q.rank refl in
    let at = done_entered q number step q.rank (Synchronises win s) refl is refl in
    let sides = sides_unless mine step (kept_call q.call) (Synchronises win s) no_side in
    let rounds = rounds_unless mine step (kept_call q.call) (Synchronises win s)
    (and_right (is_arrive step) (has_round (Synchronises win s)) no_round) in
    let ranges = ranges_by q.rank before after new same at refl in
    record {
      sides = sides_by q.rank before after new record_before.side_table.sides.items same at sides kept.sides;
      members = members_by q.rank before after new same at sides.posts kept.members;
      rounds = rounds_by q.rank before after new record_before.round_table.rounds.items same at rounds kept.rounds;
      held = held;
      regions = regions_each before after record_before.region_table.regions.items ranges kept.regions;
      inside = inside_each layout before after ranges kept.inside;
      brought = parts_unless layout q number step record_before.parts.parts.items (Synchronises win s) is refl
          kept.brought;
    }
