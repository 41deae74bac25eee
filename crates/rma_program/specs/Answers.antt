-- What the top calls answer. A source and a sink tell their bytes or not: left and written are Options.
use Rattle.std.specs.Prelude.{ℕ, ◌≡◌, ◌≤◌, ◌⊎◌, List, length, Option, Some, None}
use Rattle.rma_types.specs.declared.findings.Finding.{Finding}
use Rattle.rma_types.specs.declared.findings.Model.TheVariants.{Separate}
use Rattle.rma_types.specs.declared.scripts.Script.{Script}
use Rattle.rma_record.specs.declared.runs.Run.{Run}
use Rattle.lawful_runs.specs.LawfulRun.{IsLawful}
use Rattle.step_runs.specs.StepRun.{step_run}
use Rattle.order_rules.specs.Findings.{AreFindings}
use Rattle.order_rules.specs.OrderedReads.{TouchesAgree}
use Rattle.conflict_check.specs.Judgements.{AreReadsOrderedIfNone}
use Rattle.run_texts.specs.declared.modes.Mode.TheVariants.{Step}
use Rattle.run_texts.specs.Report.{report}
use Rattle.run_texts.specs.Status.{status}
use Rattle.rma_streams.specs.Moves.{Took, AtEnd, Wrote, WrotePrefix}
use Rattle.script_language.specs.Reading.{Reads, HasFault}
use Rattle.script_language.specs.declared.faults.Fault.{Fault}
use Rattle.command_words.specs.declared.options.Options.{Options}
use Rattle.rma_program.specs.Lines.{fault_line}

-- the bytes that were taken: the whole input, or as many as are taken of a longer one
pub record IsInput (before after : Option (List ℕ)) (bytes : List ℕ) : Type 0 where
  pub taken : Took before bytes after
  pub whole : AtEnd after ⊎ (length bytes ≡ 1048577)

-- the bytes taken are the whole input, and read as the script
pub record ReadsAs (before after : Option (List ℕ)) (script : Script) : Type 0 where
  pub bytes : List ℕ
  pub taken : Took before bytes after
  pub end : AtEnd after
  pub reads : Reads bytes script

-- the fault is the first one of the bytes taken
pub record ReadsAsNone (before after : Option (List ℕ)) (fault : Fault) : Type 0 where
  pub bytes : List ℕ
  pub input : IsInput before after bytes
  pub refused : HasFault bytes fault

-- The run is the script's run on one thread by these options. It is lawful, and its touches agree with its order.
pub record IsRunOf (options : Options) (script : Script) (run : Run) : Type 0 where
  pub steps : run ≡ step_run script options.order options.delay options.seed
  pub lawful : IsLawful script options.delay run
  pub agrees : TouchesAgree script run

-- These are the findings of the run, in the separate model. Where there are none, each get and each load reads what the
-- updates that are ordered before it leave.
pub record IsJudged (script : Script) (run : Run) (found : List Finding) : Type 0 where
  pub findings : AreFindings script run Separate found
  pub reads : AreReadsOrderedIfNone script run found

-- the report on a run and its findings
abbrev pub report_on : Script → Run → List Finding → List ℕ
report_on script run found = report script run found Step

-- a run is handed back, and its whole report was written; the status is that of the run and its findings
pub record Reported (options : Options) (left_before left_after written_before written_after : Option (List ℕ))
    (answer : ℕ) (handed : Option Run) : Type 0 where
  pub script : Script
  pub run : Run
  pub found : List Finding
  pub reads : ReadsAs left_before left_after script
  pub is_run : IsRunOf options script run
  pub judged : IsJudged script run found
  pub handed_back : handed ≡ Some run
  pub text : Wrote written_before (report_on script run found) written_after
  pub status_is : answer ≡ status run found

-- a run is handed back, and a front of its report was written
pub record ReportedInPart (options : Options) (left_before left_after written_before written_after : Option (List ℕ))
    (handed : Option Run) : Type 0 where
  pub script : Script
  pub run : Run
  pub found : List Finding
  pub reads : ReadsAs left_before left_after script
  pub is_run : IsRunOf options script run
  pub judged : IsJudged script run found
  pub handed_back : handed ≡ Some run
  pub text : WrotePrefix written_before (report_on script run found) written_after

-- the bytes taken are refused by their first fault, and its line was written
pub record Refused (left_before left_after written_before written_after : Option (List ℕ)) (handed : Option Run) : Type
    0 where
  pub fault : Fault
  pub reads : ReadsAsNone left_before left_after fault
  pub none : handed ≡ None
  pub text : Wrote written_before (fault_line fault) written_after

-- the same, and a front of the line was written
pub record RefusedInPart (left_before left_after written_before written_after : Option (List ℕ))
    (handed : Option Run) : Type 0 where
  pub fault : Fault
  pub reads : ReadsAsNone left_before left_after fault
  pub none : handed ≡ None
  pub text : WrotePrefix written_before (fault_line fault) written_after

-- the text says no script, and is no longer than what is read of an input
pub record IsNoText (text : List ℕ) : Type 0 where
  pub short : length text ≤ 1048577
  pub none : (script : Script) → Reads text script → ⊥
