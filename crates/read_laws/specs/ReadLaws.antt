-- What gets and loads read in a run without findings, and where accesses lie: MPI 3.1, sections 11.2, 11.3 and 11.7, in
-- this project's profile.
use Rattle.std.specs.Prelude.{◌≡◌, Bool, [], Some, Contains}
use Rattle.rma_types.specs.declared.accesses.Id.{Id}
use Rattle.rma_types.specs.declared.findings.Model.{Model}
use Rattle.rma_types.specs.declared.schedules.Delay.{Delay}
use Rattle.rma_types.specs.declared.scripts.Script.{Script}
use Rattle.rma_record.specs.declared.runs.Run.{Run}
use Rattle.rma_types.specs.declared.actions.Transfer.{Transfer}
use Rattle.call_rules.specs.Layout.{layout}
use Rattle.call_rules.specs.WellFormed.{IsWellFormed}
use Rattle.lawful_runs.specs.Accesses.{transfer_at}
use Rattle.lawful_runs.specs.LawfulRun.{IsLawful}
use Rattle.lawful_runs.specs.Logs.{calls_of}
use Rattle.order_rules.specs.Before.{IsOrder}
use Rattle.order_rules.specs.CallSteps.{IssuedAccess, accesses_in}
use Rattle.order_rules.specs.Findings.{findings}
use Rattle.order_rules.specs.OrderedReads.{TouchesAgree, ReadsInOrder}
use Rattle.step_laws.specs.Inside.{LiesInMemory}

-- Where the touches of a lawful run keep its order, and it has no findings in some model, each get and each load reads
-- what the updates before its Issue leave.
abbrev pub ReadsAreOrdered : Type 0
ReadsAreOrdered = (script : Script) (delay : Delay) (run : Run) → IsWellFormed script → IsLawful script delay run →
    TouchesAgree script run → (model : Model) (before : Id → Id → Bool) → IsOrder script run before →
    findings script run model before ≡ [] → ReadsInOrder script run before

-- Each access of a lawful run is one of a transfer of its rank, and lies in the memory of its target, aligned.
abbrev pub AccessesLieInMemory : Type 0
AccessesLieInMemory = (script : Script) (delay : Delay) (run : Run) → IsWellFormed script → IsLawful script delay run →
    (a : IssuedAccess) → Contains (accesses_in script run) a →
    (t : Transfer) × (transfer_at (calls_of script a.id.rank) a.issued.number ≡ Some t)
    × LiesInMemory (layout script) a.issued.access t.dtype
