use Rattle.std.proofs.Common.{refl, ap, ◌∙◌, Some}
use Rattle.std.specs.Option.{option_map}
use Rattle.rma_types.specs.declared.accesses.Step.TheVariants.{Arrive}
use Rattle.rma_types.specs.declared.actions.Creation.{Creation}
use Rattle.rma_types.specs.declared.actions.Action.TheVariants.{Creates}
use Rattle.rma_types.specs.Actions.{creation_in}
use Rattle.rma_types.specs.KeptCalls.{kept_call}
use Rattle.sync_board.specs.Rounds.{with_creation}
use Rattle.sync_board.specs.Windows.{done_on, entered, entries_after}
use Rattle.sync_board.proofs.HeldSteps.{held_unless, inside_each, ranges_by, regions_each}
use Rattle.sync_board.proofs.SameParts.{members_by, sides_by}
use Rattle.sync_board.proofs.WindowEntries.{create_at}
use Rattle.sync_board.proofs.WindowSteps.{kept_action, same_for}
use Rattle.sync_board.proofs.window_record.WindowRecord.create.Goals as goal

pub returns-in-Ok-clause-ok : goal.returns-in-Ok-clause-ok
returns-in-Ok-clause-ok c = λ layout q number creation asker is flavor made within kept.
    let before = done_on q.entries q.window in
    let after = done_on (entries_after q number Arrive) q.window in
    let new = with_creation (done_on q.entries q.window c.args.rank) (kept_call q.call) in
    let same = same_for q number Arrive c.args.rank asker in
    let at = create_at q number c.args.rank creation asker is in
    let whole = kept_action q.call (Creates creation) is refl in
    record {
      sides = sides_by c.args.rank before after new c.args.self.now.side_table.sides.items same at
          (record { posts = refl; starts = refl; completes = refl; waits = refl }) kept.sides;
      members = members_by c.args.rank before after new same at refl kept.members;
      rounds = c.in-Ok.ensures.ok before after (kept_call q.call)
          (ap (λ a. option_map (λ (c : Creation). c.flavor) (creation_in a)) whole ∙ ap Some flavor) same at
          kept.rounds;
      held = held_unless q number Arrive c.args.self.now.lock_state.table (Creates creation) is refl refl kept.held;
      regions = regions_each before after c.args.self.now.region_table.regions.items
          (ranges_by c.args.rank before after new same at refl) kept.regions;
      inside = inside_each layout before after (ranges_by c.args.rank before after new same at refl) kept.inside;
      brought = c.arrive.ensures layout q.window q.entries (entered q number Arrive) creation asker refl refl
          (ap creation_in whole) made within (c.reserve.ensures.same layout q.window q.entries kept.brought);
    }

pub returns-in-Err-clause-err : goal.returns-in-Err-clause-err
returns-in-Err-clause-err c = λ layout q kept. record {
  sides = kept.sides;
  members = kept.members;
  rounds = c.in-Err.ensures.err (done_on q.entries q.window) kept.rounds;
  held = kept.held;
  regions = kept.regions;
  inside = kept.inside;
  brought = c.reserve.ensures.same layout q.window q.entries kept.brought;
}
