use Rattle.std.proofs.Common.{refl, ap, None}
use Rattle.std.proofs.lemmas.Result.{on_err_weaker, on_ok_weaker}
use Rattle.std.specs.Option.{option_map_or}
use Rattle.rma_types.specs.declared.accesses.Step.TheVariants.{Arrive}
use Rattle.rma_types.specs.declared.actions.Action.TheVariants.{Synchronises}
use Rattle.rma_types.specs.declared.actions.Synchronisation.TheVariants.{Fences}
use Rattle.rma_types.specs.Actions.{synchronisation_in}
use Rattle.board_rules.specs.Rounds.{asserts_of_fence}
use Rattle.rma_types.specs.KeptCalls.{kept_call}
use Rattle.sync_board.specs.Rounds.{with_fence}
use Rattle.sync_board.specs.Windows.{done_on, entries_after}
use Rattle.sync_board.proofs.HeldSteps.{parts_unless, held_unless, inside_each, ranges_by, regions_each}
use Rattle.sync_board.proofs.SameParts.{members_by, sides_by}
use Rattle.sync_board.proofs.WindowEntries.{fence_at}
use Rattle.sync_board.proofs.WindowSteps.{kept_action, same_for}
use Rattle.sync_board.proofs.window_record.WindowRecord.fence.Goals as goal

pub returns-clause-ok : goal.returns-clause-ok
returns-clause-ok c = on_ok_weaker c.fence.result
    (λ more layout q number win asker is kept.
    let before = done_on q.entries q.window in
    let after = done_on (entries_after q number Arrive) q.window in
    let new = with_fence (done_on q.entries q.window c.args.rank) (kept_call q.call) in
    let same = same_for q number Arrive c.args.rank asker in
    let at = fence_at q number c.args.rank win c.args.asserts asker is in
    record {
      sides = sides_by c.args.rank before after new c.args.self.now.side_table.sides.items same at
          (record { posts = refl; starts = refl; completes = refl; waits = refl }) kept.sides;
      members = members_by c.args.rank before after new same at refl kept.members;
      rounds = more before after (kept_call q.call)
          (ap (λ a. option_map_or asserts_of_fence (synchronisation_in a) None)
          (kept_action q.call (Synchronises win (Fences c.args.asserts)) is refl)) same at kept.rounds;
      held = held_unless q number Arrive c.args.self.now.lock_state.table (Synchronises win (Fences c.args.asserts)) is
          refl refl kept.held;
      regions = regions_each before after c.args.self.now.region_table.regions.items
          (ranges_by c.args.rank before after new same at refl) kept.regions;
      inside = inside_each layout before after (ranges_by c.args.rank before after new same at refl) kept.inside;
      brought = parts_unless layout q number Arrive c.args.self.now.parts.parts.items
          (Synchronises win (Fences c.args.asserts)) is refl kept.brought;
    })
    c.fence.ensures.ok

pub returns-clause-err : goal.returns-clause-err
returns-clause-err c = on_err_weaker c.fence.result
    (λ keeps layout q kept. record {
      sides = kept.sides;
      members = kept.members;
      rounds = keeps (done_on q.entries q.window) kept.rounds;
      held = kept.held;
      regions = kept.regions;
      inside = kept.inside;
      brought = kept.brought;
    })
    c.fence.ensures.err
