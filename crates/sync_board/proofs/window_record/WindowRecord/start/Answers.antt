use Rattle.std.proofs.Common.{refl}
use Rattle.std.proofs.lemmas.Result.{on_err_weaker, on_ok_weaker}
use Rattle.rma_types.specs.declared.actions.Action.TheVariants.{Synchronises}
use Rattle.rma_types.specs.declared.actions.Synchronisation.TheVariants.{Starts}
use Rattle.call_rules.specs.Ranks.{members_of}
use Rattle.sync_board.specs.Sides.{with_start}
use Rattle.sync_board.specs.Windows.{done_on, entries_after}
use Rattle.sync_board.proofs.HeldSteps.{parts_unless, held_unless, inside_each, ranges_by, regions_each}
use Rattle.sync_board.proofs.SameParts.{members_by, rounds_by}
use Rattle.sync_board.proofs.WindowEntries.{start_at}
use Rattle.sync_board.proofs.WindowSteps.{same_for}
use Rattle.sync_board.proofs.window_record.WindowRecord.start.Goals as goal

pub returns-clause-ok : goal.returns-clause-ok
returns-clause-ok c = on_ok_weaker c.start.result
    (λ more layout q number step win asserts asker is kept.
    let before = done_on q.entries q.window in
    let after = done_on (entries_after q number step) q.window in
    let new = with_start (done_on q.entries q.window c.args.rank) (members_of c.args.group.now) in
    let same = same_for q number step c.args.rank asker in
    let at = start_at q number step c.args.rank win c.args.group.now asserts asker is in
    record {
      sides = more before after (members_of c.args.group.now) c.truths_of-truths.ensures same at kept.sides;
      members = members_by c.args.rank before after new same at refl kept.members;
      rounds = rounds_by c.args.rank before after new c.args.self.now.round_table.rounds.items same at
          (record { creations = refl; frees = refl; fences = refl }) kept.rounds;
      held = held_unless q number step c.args.self.now.lock_state.table
          (Synchronises win (Starts c.args.group.now asserts)) is refl refl kept.held;
      regions = regions_each before after c.args.self.now.region_table.regions.items
          (ranges_by c.args.rank before after new same at refl) kept.regions;
      inside = inside_each layout before after (ranges_by c.args.rank before after new same at refl) kept.inside;
      brought = parts_unless layout q number step c.args.self.now.parts.parts.items
          (Synchronises win (Starts c.args.group.now asserts)) is refl kept.brought;
    })
    c.start.ensures.ok

pub returns-clause-err : goal.returns-clause-err
returns-clause-err c = on_err_weaker c.start.result
    (λ keeps layout q kept. record {
      sides = keeps (done_on q.entries q.window) kept.sides;
      members = kept.members;
      rounds = kept.rounds;
      held = kept.held;
      regions = kept.regions;
      inside = kept.inside;
      brought = kept.brought;
    })
    c.start.ensures.err
