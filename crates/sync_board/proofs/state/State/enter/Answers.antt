use Rattle.std.proofs.Common.{◌+◌, cond, get_or, length, refl, ap, sym, ◌∙◌, subst}
use Rattle.std.proofs.Common.{⊎_elim}
use Rattle.std.proofs.lemmas.Bool.{cases_eq}
use Rattle.board_rules.specs.Board.{is_allowed_now, refusal}
use Rattle.board_rules.specs.Entries.{Act, Barrier, Row, acts, arrivals}
use Rattle.board_rules.specs.Questions.{Question, question}
use Rattle.board_rules.proofs.DecisionLaws.{allowed_now}
use Rattle.sync_board.specs.Asked.{IsQuestion, row_asked}
use Rattle.sync_board.specs.Named.{KeepsWindows}
use Rattle.sync_board.specs.Windows.{entered}
use Rattle.sync_board.proofs.ActSteps.{acts_entered}
use Rattle.sync_board.proofs.BegunSteps.{begun_more}
use Rattle.sync_board.proofs.Meetings.{met_here, met_same, window_zero}
use Rattle.sync_board.proofs.state.State.enter.Goals as goal

pub returns-in-Ok-clause-ok : goal.returns-in-Ok-clause-ok
returns-in-Ok-clause-ok c = λ rows after allowed kept.
    let row : Row = row_asked c.args.asked.now in
    let q : Question = question c.args.asked.now.ranks rows (row_asked c.args.asked.now) in
    let is : IsQuestion (question c.args.asked.now.ranks rows (row_asked c.args.asked.now)) c.args.asked.now = record
    { ranks = refl; rank = refl; call = refl; window = after.window } in
    let more = acts_entered c.args.asked.now.ranks rows (row_asked c.args.asked.now) in
    let act : Act = entered (question c.args.asked.now.ranks rows (row_asked c.args.asked.now)) c.args.asked.now.number
    c.args.asked.now.step in
    record {
      begun = begun_more rows row c.args.self.now.creations.items c.make_room.new.counts.items c.add.new.counts.items
          c.args.asked.now.name c.begins_window.result
          c.requires.name after.named (c.begins_window.ensures c.args.asked.now.rank c.args.asked.now.number) kept.begun
          c.make_room.ensures.same c.in_ok-make_room.ensures.small c.add.ensures.here c.add.ensures.others;
      met = λ rank. ⊎_elim
          (λ e.
          ap (λ k. get_or c.add-in-Ok.new.counts.items k 0) e
          ∙ (c.add-in-Ok.ensures.here
          ∙ (ap (λ n. n + cond c.meets.result 1 0) (c.make_room-2.ensures.same c.args.asked.now.rank
          ∙ (kept.met c.args.asked.now.rank ∙ ap (λ k. length (arrivals (acts rows) Barrier k 0)) (sym e)))
          ∙ (sym (met_here (acts rows) act rank c.args.asked.now.call.now c.meets.result e refl c.meets.ensures
          (window_zero rows row))
          ∙ ap (λ entries. length (arrivals entries Barrier rank 0)) (sym more)))))
          (λ apart.
          c.add-in-Ok.ensures.others rank apart
          ∙ (c.make_room-2.ensures.same rank
          ∙ (kept.met rank
          ∙ (sym (met_same (acts rows) act rank apart)
          ∙ ap (λ entries. length (arrivals entries Barrier rank 0)) (sym more)))))
          (cases_eq rank c.args.asked.now.rank);
      windows = subst (λ entries. KeepsWindows c.args.layout.now c.args.asked.now.ranks entries
          c.enter.new.self.names.items) (sym more)
          (c.in-Ok.ensures.ok q is (after.window ∙ after.number)
          (allowed_now (refusal q c.args.asked.now.step) (is_allowed_now q c.args.asked.now.step) allowed)
          kept.windows);
    }

pub returns-in-Err-clause-err : goal.returns-in-Err-clause-err
returns-in-Err-clause-err c = λ rows after kept.
    let q = question c.args.asked.now.ranks rows (row_asked c.args.asked.now) in
    let is : IsQuestion (question c.args.asked.now.ranks rows (row_asked c.args.asked.now)) c.args.asked.now = record
    { ranks = refl; rank = refl; call = refl; window = after.window } in
    record {
      begun = record {
        counted = λ rank name below. c.make_room.ensures.same _ ∙ kept.begun.counted rank name below;
        small = λ index. rw (c.make_room.ensures.same index) (kept.begun.small index);
      };
      met = λ rank. c.make_room-2.ensures.same rank ∙ kept.met rank;
      windows = c.in-Err.ensures.err q is (after.window ∙ after.number) kept.windows;
    }
