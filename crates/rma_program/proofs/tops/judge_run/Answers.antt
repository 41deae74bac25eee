-- What was found are the findings of the run.
use Rattle.std.proofs.Common.{inl, subst, sym}
use Rattle.rma_program.specs.Answers.{IsJudged}
use Rattle.rma_program.proofs.tops.judge_run.Goals as goal

pub returns-in-Ok-clause-ends : goal.returns-in-Ok-clause-ends
returns-in-Ok-clause-ends g c =
    let judged : IsJudged c.args.script.now c.args.run c.in-Ok.found =
    record { findings = c.in-Ok.ensures.found; reads = c.in-Ok.ensures.reads } in
    inl (
      c.as_slice.result.now,
      subst (IsJudged c.args.script.now c.args.run) (sym c.as_slice.ensures) judged,
      c.report_run.ensures.ends,
    )
