-- Where a run has no findings, its reads are in order.
use Rattle.std.proofs.Common.{◌≡◌, Bool, List, Result, Ok, Err, sym, ◌∙◌}
use Rattle.std.specs.Prelude.{IfOk}
use Rattle.rma_types.specs.declared.accesses.Id.{Id}
use Rattle.rma_types.specs.declared.findings.Finding.{Finding}
use Rattle.rma_types.specs.declared.findings.Model.TheVariants.{Separate}
use Rattle.rma_types.specs.declared.schedules.Delay.TheVariants.{Seeded}
use Rattle.rma_types.specs.declared.scripts.Script.{Script}
use Rattle.rma_record.specs.declared.runs.Run.{Run}
use Rattle.call_rules.specs.WellFormed.{IsWellFormed}
use Rattle.lawful_runs.specs.LawfulRun.{IsLawful}
use Rattle.order_rules.specs.Before.{IsOrder}
use Rattle.order_rules.specs.Findings.{findings}
use Rattle.order_rules.specs.OrderedReads.{TouchesAgree}
use Rattle.read_laws.specs.ReadLaws.{ReadsAreOrdered}
use Rattle.conflict_check.specs.Judgements.{AreReadsOrderedIfNone}

pub ordered_if_none : ReadsAreOrdered → (script : Script) (run : Run) → IsWellFormed script →
    IsLawful script Seeded run → TouchesAgree script run → (before : Id → Id → Bool) → IsOrder script run before →
    {E : Type 0} (result : Result (List Finding) E) →
    IfOk result (λ found. found ≡ findings script run Separate before) →
    IfOk result (AreReadsOrderedIfNone script run)
ordered_if_none law script run formed lawful agrees before order (Ok found) are = λ none.
    (before, order, law script Seeded run formed lawful agrees Separate before order (sym are ∙ none))
ordered_if_none law script run formed lawful agrees before order (Err error) are = tt
