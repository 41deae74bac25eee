-- An entry that brings nothing leaves what is kept of its window as it is.
use Rattle.std.proofs.Common.{◌≡◌, ℕ, true, false, ◌&&◌, is_some, eqb, List, refl, ap, ◌∙◌, None}
use Rattle.std.proofs.lemmas.Bool.{and_right}
use Rattle.rma_types.specs.declared.accesses.Step.{Step}
use Rattle.rma_types.specs.declared.accesses.Step.TheVariants.{Arrive, Leave, One}
use Rattle.rma_types.specs.declared.scripts.Layout.{Layout}
use Rattle.rma_types.specs.declared.actions.Action.{Action}
use Rattle.rma_types.specs.declared.actions.Action.TheVariants.{Creates, Synchronises, Meets, Moves, EndsRequest}
use Rattle.rma_types.specs.declared.actions.Synchronisation.TheVariants.{Fences, Flushes, Syncs}
use Rattle.rma_types.specs.Actions.{action_of, creation_in}
use Rattle.rank_rules.specs.Ranges.{Range}
use Rattle.board_rules.specs.AttachedRanges.{ranges_after}
use Rattle.board_rules.specs.Entries.{is_arrive}
use Rattle.board_rules.specs.Questions.{Question}
use Rattle.rma_types.specs.KeptCalls.{kept_call}
use Rattle.kept_rows.proofs.KeptActs.{creation_kept, unless_moved}
use Rattle.sync_board.specs.Nothing.{brings_nothing}
use Rattle.sync_board.specs.Sides.{done}
use Rattle.sync_board.specs.Windows.{KeepsAfter, KeepsBefore, done_on, entered, entries_after}
use Rattle.sync_board.specs.declared.window_record.WindowRecord.{WindowRecord}
use Rattle.sync_board.proofs.HeldSteps.{held_by_asking, inside_each, lock_by, lock_kept, ranges_by, regions_each}
use Rattle.sync_board.proofs.HeldSteps.{unlock_by, unlock_kept}
use Rattle.sync_board.proofs.OneMore.{done_more, with_entry}
use Rattle.sync_board.proofs.PartsKept.{parts_keep}
use Rattle.sync_board.proofs.SameParts.{has_round, has_side, members_by, rounds_by, rounds_unless, sides_by}
use Rattle.sync_board.proofs.SameParts.{sides_unless}
use Rattle.sync_board.proofs.WindowSteps.{own_entered, same_for}

pub record IsNothing (step : Step) (action : Action) : Type 0 where
  pub side : has_side action ≡ false
  pub round : (is_arrive step && has_round action) ≡ false
  pub lock : lock_by action ≡ None
  pub unlock : unlock_by action ≡ None
  pub ranges : (ranges : List Range) → ranges_after ranges step action ≡ ranges
  pub creation : (is_arrive step && is_some (creation_in action)) ≡ false

is_nothing : (step : Step) (action : Action) → brings_nothing step action ≡ true → IsNothing step action
is_nothing Arrive Meets e = record {
  side = refl;
  round = refl;
  lock = refl;
  unlock = refl;
  ranges = λ ranges. refl;
  creation = refl;
}
is_nothing Leave (Creates creation) e = record {
  side = refl;
  round = refl;
  lock = refl;
  unlock = refl;
  ranges = λ
      ranges. refl;
  creation = refl;
}
is_nothing Leave (Synchronises win (Fences asserts)) e = record
    { side = refl; round = refl; lock = refl; unlock = refl; ranges = λ ranges. refl; creation = refl }
is_nothing Leave Meets e = record {
  side = refl;
  round = refl;
  lock = refl;
  unlock = refl;
  ranges = λ ranges. refl;
  creation = refl;
}
is_nothing One (Synchronises win (Flushes target local)) e = record
    { side = refl; round = refl; lock = refl; unlock = refl; ranges = λ ranges. refl; creation = refl }
is_nothing One (Synchronises win Syncs) e = record {
  side = refl;
  round = refl;
  lock = refl;
  unlock = refl;
  ranges = λ
      ranges. refl;
  creation = refl;
}
is_nothing One (Moves transfer) e = record {
  side = refl;
  round = refl;
  lock = refl;
  unlock = refl;
  ranges = λ ranges.
      refl;
  creation = refl;
}
is_nothing One (EndsRequest req) e = record {
  side = refl;
  round = refl;
  lock = refl;
  unlock = refl;
  ranges = λ ranges.
      refl;
  creation = refl;
}
is_nothing step action e = cc

pub nothing_entered : (layout : Layout) (q : Question) (number : ℕ) (step : Step) (kept : WindowRecord) →
    brings_nothing step (action_of q.call) ≡ true →
    KeepsBefore layout q kept → KeepsAfter layout q number step kept
nothing_entered layout q number step kept e keeps =
    let none : IsNothing step (action_of q.call) = is_nothing step (action_of q.call) e in
    let before = done_on q.entries q.window in
    let after = done_on (entries_after q number step) q.window in
    let action = action_of (kept_call q.call) in
    let new = with_entry (done_on q.entries q.window q.rank) step (kept_call q.call) action in
    let same = same_for q number step q.rank refl in
    let at : done_on (entries_after q number step) q.window q.rank ≡ with_entry (done_on q.entries q.window q.rank) step
    (kept_call q.call) (action_of (kept_call q.call)) =
    ap done (own_entered q number step q.rank refl) ∙ done_more _ (entered q number step) in
    let side : has_side (action_of (kept_call q.call)) ≡ false = unless_moved has_side (λ t u w. refl) q.call
    ∙ none.side in
    let round : (is_arrive step && has_round (action_of (kept_call q.call))) ≡ false = ap (λ b. is_arrive step && b)
    (unless_moved has_round (λ t u w. refl) q.call) ∙ none.round in
    let ranges : ranges_after (done_on q.entries q.window q.rank).ranges step (action_of (kept_call q.call)) ≡
    (done_on q.entries q.window q.rank).ranges =
    unless_moved (ranges_after (done_on q.entries q.window q.rank).ranges step) (λ t u w. refl) q.call
    ∙ none.ranges (done_on q.entries q.window q.rank).ranges in
    let sides = sides_unless (done_on q.entries q.window q.rank) step (kept_call q.call) (action_of (kept_call q.call))
    side in
    record {
      sides = sides_by q.rank before after new kept.side_table.sides.items same at sides keeps.sides;
      members = members_by q.rank before after new same at sides.posts keeps.members;
      rounds = rounds_by q.rank before after new kept.round_table.rounds.items same at
          (rounds_unless (done_on q.entries q.window q.rank) step (kept_call q.call) (action_of (kept_call q.call))
          round) keeps.rounds;
      held = held_by_asking q number step kept.lock_state.table (lock_kept q.call ∙ none.lock)
          (unlock_kept q.call ∙ none.unlock) keeps.held;
      regions = regions_each before after kept.region_table.regions.items
          (ranges_by q.rank before after new same at ranges) keeps.regions;
      inside = inside_each layout before after (ranges_by q.rank before after new same at ranges) keeps.inside;
      brought = parts_keep layout q.window q.entries (entered q number step) kept.parts.parts.items
          (and_right (eqb q.window q.window) _ (ap (λ o. is_arrive step && is_some o) (creation_kept q.call)
          ∙ none.creation)) keeps.brought;
    }
