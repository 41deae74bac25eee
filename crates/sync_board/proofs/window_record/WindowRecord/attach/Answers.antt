use Rattle.std.proofs.Common.{◌≡◌, ◌+◌, ◌≤◌, ◌∷◌, ◌++◌, [], false, refl, ap, ◌∙◌}
use Rattle.std.proofs.lemmas.Bool.{and_right}
use Rattle.std.proofs.lemmas.Result.{on_err_weaker, on_ok_weaker}
use Rattle.rma_types.specs.declared.actions.Action.TheVariants.{Attaches}
use Rattle.call_rules.specs.Ranks.{natural}
use Rattle.rank_rules.specs.Ranges.{Range}
use Rattle.board_rules.specs.Entries.{is_arrive}
use Rattle.rma_types.specs.KeptCalls.{kept_call}
use Rattle.sync_board.specs.Boards.{bytes_at}
use Rattle.sync_board.specs.Sides.{Done}
use Rattle.sync_board.specs.Windows.{done_on, entries_after}
use Rattle.sync_board.proofs.HeldSteps.{parts_unless, all_more, held_unless, inside_by}
use Rattle.sync_board.proofs.OneMore.{with_entry}
use Rattle.sync_board.proofs.SameParts.{members_by, rounds_by, rounds_unless, sides_by, sides_unless}
use Rattle.sync_board.proofs.WindowSteps.{done_entered, same_for}
use Rattle.sync_board.proofs.window_record.WindowRecord.attach.Goals as goal

pub returns-clause-ok : goal.returns-clause-ok
returns-clause-ok c = on_ok_weaker c.attach.result
    (λ more layout q number step win from size asker is base bytes within kept.
    let before = done_on q.entries q.window in
    let after = done_on (entries_after q number step) q.window in
    let new = with_entry (done_on q.entries q.window c.args.rank) step (kept_call q.call) (Attaches win from size) in
    let same = same_for q number step c.args.rank asker in
    let at = done_entered q number step c.args.rank (Attaches win from size) asker is refl in
    let span : record { base = natural from; bytes = natural size } ≡ record
    { base = c.args.base; bytes = c.args.bytes } = rw (base, bytes) refl in
    record {
      sides = sides_by c.args.rank before after new c.args.self.now.side_table.sides.items same at
          (sides_unless (done_on q.entries q.window c.args.rank) step (kept_call q.call) (Attaches win from size) refl)
          kept.sides;
      members = members_by c.args.rank before after new same at
          (sides_unless (done_on q.entries q.window c.args.rank) step (kept_call q.call) (Attaches win from size)
          refl).posts kept.members;
      rounds = rounds_by c.args.rank before after new c.args.self.now.round_table.rounds.items same at
          (rounds_unless (done_on q.entries q.window c.args.rank) step (kept_call q.call) (Attaches win from size)
          (and_right (is_arrive step) false refl)) kept.rounds;
      held = held_unless q number step c.args.self.now.lock_state.table (Attaches win from size) is refl refl kept.held;
      regions = more before after same
          (ap (λ (d : Done). d.ranges) at ∙ ap (λ (r : Range). (done_on q.entries q.window c.args.rank).ranges ++ r
          ∷ []) span) kept.regions;
      inside = inside_by layout c.args.rank before after same
          (rw at (rw span (all_more (λ (range : Range). range.base + range.bytes ≤ bytes_at layout c.args.rank)
          (done_on q.entries q.window c.args.rank).ranges (record { base = c.args.base; bytes = c.args.bytes })
          (kept.inside c.args.rank) within))) kept.inside;
      brought = parts_unless layout q number step c.args.self.now.parts.parts.items (Attaches win from size) is refl
          kept.brought;
    })
    c.attach.ensures.ok

pub returns-clause-err : goal.returns-clause-err
returns-clause-err c = on_err_weaker c.attach.result
    (λ keeps layout q kept. record {
      sides = kept.sides;
      members = kept.members;
      rounds = kept.rounds;
      held = kept.held;
      regions = keeps (done_on q.entries q.window) kept.regions;
      inside = kept.inside;
      brought = kept.brought;
    })
    c.attach.ensures.err
