use Rattle.std.proofs.Common.{refl}
use Rattle.std.proofs.lemmas.Result.{on_err_weaker, on_ok_weaker}
use Rattle.rma_types.specs.declared.accesses.Step.TheVariants.{Arrive}
use Rattle.rma_types.specs.declared.actions.Action.TheVariants.{Frees}
use Rattle.rma_types.specs.KeptCalls.{kept_call}
use Rattle.sync_board.specs.Rounds.{with_free}
use Rattle.sync_board.specs.Windows.{done_on, entries_after}
use Rattle.sync_board.proofs.HeldSteps.{parts_unless, held_unless, inside_each, ranges_by, regions_each}
use Rattle.sync_board.proofs.SameParts.{members_by, sides_by}
use Rattle.sync_board.proofs.WindowEntries.{free_at}
use Rattle.sync_board.proofs.WindowSteps.{same_for}
use Rattle.sync_board.proofs.window_record.WindowRecord.free.Goals as goal

pub returns-clause-ok : goal.returns-clause-ok
returns-clause-ok c = on_ok_weaker c.free.result
    (λ more layout q number win asker is kept.
    let before = done_on q.entries q.window in
    let after = done_on (entries_after q number Arrive) q.window in
    let new = with_free (done_on q.entries q.window c.args.rank) (kept_call q.call) in
    let same = same_for q number Arrive c.args.rank asker in
    let at = free_at q number c.args.rank win asker is in
    record {
      sides = sides_by c.args.rank before after new c.args.self.now.side_table.sides.items same at
          (record { posts = refl; starts = refl; completes = refl; waits = refl }) kept.sides;
      members = members_by c.args.rank before after new same at refl kept.members;
      rounds = more before after (kept_call q.call) same at kept.rounds;
      held = held_unless q number Arrive c.args.self.now.lock_state.table (Frees win) is refl refl kept.held;
      regions = regions_each before after c.args.self.now.region_table.regions.items
          (ranges_by c.args.rank before after new same at refl) kept.regions;
      inside = inside_each layout before after (ranges_by c.args.rank before after new same at refl) kept.inside;
      brought = parts_unless layout q number Arrive c.args.self.now.parts.parts.items (Frees win) is refl kept.brought;
    })
    c.free.ensures.ok

pub returns-clause-err : goal.returns-clause-err
returns-clause-err c = on_err_weaker c.free.result
    (λ keeps layout q kept. record {
      sides = kept.sides;
      members = kept.members;
      rounds = keeps (done_on q.entries q.window) kept.rounds;
      held = kept.held;
      regions = kept.regions;
      inside = kept.inside;
      brought = kept.brought;
    })
    c.free.ensures.err
