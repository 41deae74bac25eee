use Rattle.std.proofs.Common.{◌+◌, ◌≤◌, not, eqb, false, refl, ap, ◌∙◌}
use Rattle.std.proofs.lemmas.Bool.{and_right}
use Rattle.rma_types.specs.declared.actions.Action.TheVariants.{Detaches}
use Rattle.call_rules.specs.Ranks.{natural}
use Rattle.rank_rules.specs.Ranges.{Range}
use Rattle.board_rules.specs.Entries.{is_arrive}
use Rattle.rma_types.specs.KeptCalls.{kept_call}
use Rattle.sync_board.specs.Boards.{bytes_at}
use Rattle.sync_board.specs.KeptRanges.{without}
use Rattle.sync_board.specs.Sides.{Done}
use Rattle.sync_board.specs.Windows.{done_on, entries_after}
use Rattle.sync_board.proofs.HeldSteps.{parts_unless, all_kept, held_unless, inside_by}
use Rattle.sync_board.proofs.OneMore.{with_entry}
use Rattle.sync_board.proofs.SameParts.{members_by, rounds_by, rounds_unless, sides_by, sides_unless}
use Rattle.sync_board.proofs.WindowSteps.{done_entered, same_for}
use Rattle.sync_board.proofs.window_record.WindowRecord.detach.Goals as goal

pub returns : goal.returns
returns c =
    (λ layout q number step win from asker is base kept.
    let before = done_on q.entries q.window in
    let after = done_on (entries_after q number step) q.window in
    let new = with_entry (done_on q.entries q.window c.args.rank) step (kept_call q.call) (Detaches win from) in
    let same = same_for q number step c.args.rank asker in
    let at = done_entered q number step c.args.rank (Detaches win from) asker is refl in
    record {
      sides = sides_by c.args.rank before after new c.args.self.now.side_table.sides.items same at
          (sides_unless (done_on q.entries q.window c.args.rank) step (kept_call q.call) (Detaches win from) refl)
          kept.sides;
      members = members_by c.args.rank before after new same at
          (sides_unless (done_on q.entries q.window c.args.rank) step (kept_call q.call) (Detaches win from) refl).posts
          kept.members;
      rounds = rounds_by c.args.rank before after new c.args.self.now.round_table.rounds.items same at
          (rounds_unless (done_on q.entries q.window c.args.rank) step (kept_call q.call) (Detaches win from)
          (and_right (is_arrive step) false refl)) kept.rounds;
      held = held_unless q number step c.args.self.now.lock_state.table (Detaches win from) is refl refl kept.held;
      regions = c.detach.ensures before after same
          (ap (λ (d : Done). d.ranges) at ∙ ap (λ b. without b (done_on q.entries q.window c.args.rank).ranges) base)
          kept.regions;
      inside = inside_by layout c.args.rank before after same
          (rw at (all_kept (λ (range : Range). range.base + range.bytes ≤ bytes_at layout c.args.rank)
          (λ (range : Range). not (eqb range.base (natural from))) (done_on q.entries q.window c.args.rank).ranges
          (kept.inside c.args.rank))) kept.inside;
      brought = parts_unless layout q number step c.args.self.now.parts.parts.items (Detaches win from) is refl
          kept.brought;
    })
