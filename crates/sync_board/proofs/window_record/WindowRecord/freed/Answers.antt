use Rattle.std.proofs.Common.{refl, ap}
use Rattle.rma_types.specs.declared.accesses.Step.TheVariants.{Leave}
use Rattle.rma_types.specs.declared.actions.Action.TheVariants.{Frees}
use Rattle.rma_types.specs.KeptCalls.{kept_call}
use Rattle.sync_board.specs.Sides.{Done}
use Rattle.sync_board.specs.Windows.{done_on, entries_after}
use Rattle.sync_board.proofs.HeldSteps.{parts_unless, held_unless, inside_by}
use Rattle.sync_board.proofs.OneMore.{with_entry}
use Rattle.sync_board.proofs.SameParts.{members_by, rounds_by, rounds_unless, sides_by, sides_unless}
use Rattle.sync_board.proofs.WindowSteps.{done_entered, same_for}
use Rattle.sync_board.proofs.window_record.WindowRecord.freed.Goals as goal

pub returns : goal.returns
returns c =
    (λ layout q number win asker is kept.
    let before = done_on q.entries q.window in
    let after = done_on (entries_after q number Leave) q.window in
    let new = with_entry (done_on q.entries q.window c.args.rank) Leave (kept_call q.call) (Frees win) in
    let same = same_for q number Leave c.args.rank asker in
    let at = done_entered q number Leave c.args.rank (Frees win) asker is refl in
    record {
      sides = sides_by c.args.rank before after new c.args.self.now.side_table.sides.items same at
          (sides_unless (done_on q.entries q.window c.args.rank) Leave (kept_call q.call) (Frees win) refl) kept.sides;
      members = members_by c.args.rank before after new same at
          (sides_unless (done_on q.entries q.window c.args.rank) Leave (kept_call q.call) (Frees win) refl).posts
          kept.members;
      rounds = rounds_by c.args.rank before after new c.args.self.now.round_table.rounds.items same at
          (rounds_unless (done_on q.entries q.window c.args.rank) Leave (kept_call q.call) (Frees win) refl)
          kept.rounds;
      held = held_unless q number Leave c.args.self.now.lock_state.table (Frees win) is refl refl kept.held;
      regions = c.clear.ensures before after same (ap (λ (d : Done). d.ranges) at) kept.regions;
      inside = inside_by layout c.args.rank before after same (rw at tt) kept.inside;
      brought = parts_unless layout q number Leave c.args.self.now.parts.parts.items (Frees win) is refl kept.brought;
    })
