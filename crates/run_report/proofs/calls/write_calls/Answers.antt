use Rattle.std.proofs.Common.{◌≡◌, ◌++◌, ◌∙◌, List, ℕ, ap, sym, length}
use Rattle.std.specs.Prelude.{Option, ◌==◌}
use Rattle.std.specs.List.{filter, flat_map}
use Rattle.std.specs.String.{string_bytes}
use Rattle.std.proofs.lemmas.List.{append_assoc}
use Rattle.run_report.specs.Parts.{said_lines, waiting_lines}
use Rattle.run_report.proofs.Lines.{lines_are}
use Rattle.run_report.proofs.Lists.{written_step}
use Rattle.run_report.proofs.calls.write_calls.Goals as goal
use Rattle.run_texts.specs.Answers.{Answer, answers}
use Rattle.run_texts.specs.Report.{answer_line}

pub loop-call-preserved : goal.loop-call-preserved
loop-call-preserved c =
    let rank = c.args.rank in let calls = c.args.calls.now in let log = c.args.items.now in let call =
    c.loop-call.call in
    let text = string_bytes c.loop-call.text in
    let said = said_lines rank calls log call in
    written_step (λ call. flat_map (answer_line rank) (filter (λ (a : Answer). a.call == call) (answers calls log)))
    call (length calls) _ _ _ c.loop-call-test.true c.loop-call.invariant
    (c.in_ok-write_waiting.ensures ∙ ap (λ t. t
    ++ waiting_lines rank calls c.stands_at-stands.result call) c.in_ok-write_said.ensures
    ∙ append_assoc text said (waiting_lines rank calls c.stands_at-stands.result call)
    ∙ ap (λ (stands : Option ℕ). text
    ++ (said ++ waiting_lines rank calls stands call)) c.stands_at-stands.ensures.value
    ∙ ap (λ t. text ++ t) (sym (lines_are rank calls log call c.loop-call-test.true)))
