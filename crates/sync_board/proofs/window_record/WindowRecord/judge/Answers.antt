use Rattle.std.proofs.Common.{◌≡◌, true, is_some, ap, sym, subst, ◌∙◌}
use Rattle.std.proofs.lemmas.Bool.{true≢false}
use Rattle.board_rules.specs.Board.{decision}
use Rattle.board_rules.specs.Entries.{collective_of, is_arrive}
use Rattle.sync_board.specs.Boards.{is_step_of}
use Rattle.sync_board.proofs.KindCases.{of_kind, of_no_kind}
use Rattle.sync_board.proofs.window_record.WindowRecord.judge.Goals as goal

pub returns-in-Arrive : goal.returns-in-Arrive
returns-in-Arrive c = λ layout q is kept leaves. c.judge_arrival.ensures layout q is kept
    ∙ sym (ap (decision q) c.in-Arrive.is)

pub returns-in-One : goal.returns-in-One
returns-in-One c = λ layout q is kept leaves. c.judge_one.ensures layout q is kept ∙ sym (ap (decision q) c.in-One.is)

pub returns-in-Some : goal.returns-in-Some
returns-in-Some c = λ layout q is kept leaves.
    c.judge_leave.ensures layout q is
    (ap collective_of is.call ∙ of_kind _ c.in-Some.kind (sym c.kind_of.ensures ∙ c.in-Some.is)) kept
    ∙ sym (ap (decision q) c.in-Leave.is)

pub returns-in-None : goal.returns-in-None
returns-in-None c = λ layout q is kept leaves.
    let fits : is_some (collective_of c.args.asked.now.call.now) ≡ true =
    subst (λ step. is_step_of step c.args.asked.now.call.now ≡ true) c.in-Leave.is c.requires.may.fits in
    let barrier = of_no_kind _ (sym c.kind_of.ensures ∙ c.in-None.is) fits in
    absurd (true≢false (ap is_arrive (sym (leaves (ap collective_of is.call ∙ barrier)) ∙ c.in-Leave.is)))
