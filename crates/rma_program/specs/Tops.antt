-- How a call ends that had a text to write.
use Rattle.std.specs.Prelude.{ℕ, ◌≡◌, ◌⊎◌, List, Option, Some, None}
use Rattle.rma_types.specs.declared.findings.Finding.{Finding}
use Rattle.rma_types.specs.declared.scripts.Script.{Script}
use Rattle.rma_record.specs.declared.runs.Run.{Run}
use Rattle.run_texts.specs.Status.{status, words_refused, script_refused, read_failed, write_failed, out_of_memory}
use Rattle.rma_streams.specs.Moves.{Wrote, WrotePrefix}
use Rattle.script_language.specs.declared.faults.Fault.{Fault}
use Rattle.rma_program.specs.Answers.{IsJudged, IsRunOf, ReadsAs, ReadsAsNone, report_on}
use Rattle.rma_program.specs.Lines.{fault_line, usage_line}
use Rattle.command_words.specs.declared.options.Options.{Options}
use Rattle.rma_program.specs.declared.outcomes.Outcome.{Outcome}

-- the whole text was written and the status is the one of that; or a write failed; or there was no memory for the text
abbrev pub Ends : ℕ → Option Run → List ℕ → Option (List ℕ) → Option (List ℕ) → Outcome → Type 0
Ends code run text before after outcome =
    ((outcome ≡ record { status = code; run = run }) × Wrote before text after)
    ⊎ ((outcome ≡ record { status = write_failed; run = run }) × WrotePrefix before text after)
    ⊎ ((outcome ≡ record { status = out_of_memory; run = None }) × (after ≡ before))

-- the report on a run and its findings was to be written
abbrev pub EndsRun : Script → Run → List Finding → Option (List ℕ) → Option (List ℕ) → Outcome → Type 0
EndsRun script run found before after outcome =
    Ends (status run found) (Some run) (report_on script run found) before after outcome

-- the findings of a run were found, and the report was to be written; or there was no memory for the judgement
abbrev pub EndsJudged : Script → Run → Option (List ℕ) → Option (List ℕ) → Outcome → Type 0
EndsJudged script run before after outcome =
    ((found : List Finding) × IsJudged script run found × EndsRun script run found before after outcome)
    ⊎ ((outcome ≡ record { status = out_of_memory; run = None }) × (after ≡ before))

abbrev pub EndsFault : Fault → Option (List ℕ) → Option (List ℕ) → Outcome → Type 0
EndsFault fault before after outcome = Ends script_refused None (fault_line fault) before after outcome

abbrev pub EndsUsage : Option (List ℕ) → Option (List ℕ) → Outcome → Type 0
EndsUsage before after outcome = Ends words_refused None usage_line before after outcome

-- a script's run was made, which is lawful, and was to be judged and reported on; or there was no memory for the run
abbrev pub EndsScript : Options → Script → Option (List ℕ) → Option (List ℕ) → Outcome → Type 0
EndsScript options script before after outcome =
    ((run : Run) × IsRunOf options script run × EndsJudged script run before after outcome)
    ⊎ ((outcome ≡ record { status = out_of_memory; run = None }) × (after ≡ before))

-- the input was read as a script, which was run; or refused by a fault; or a read failed; or there was no memory for
-- the script
abbrev pub StepEnds : Options → Option (List ℕ) → Option (List ℕ) → Option (List ℕ) → Option (List ℕ) → Outcome → Type 0
StepEnds options left_before left_after before after outcome =
    ((script : Script) × ReadsAs left_before left_after script × EndsScript options script before after outcome)
    ⊎ (((fault : Fault) × ReadsAsNone left_before left_after fault × EndsFault fault before after outcome)
    ⊎ (((outcome ≡ record { status = read_failed; run = None }) × (after ≡ before))
    ⊎ ((outcome ≡ record { status = out_of_memory; run = None }) × (after ≡ before))))
