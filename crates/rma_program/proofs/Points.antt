-- What holds of the run that is handed back.
use Rattle.std.proofs.Common.{ℕ, inl, inr, List, Option, sym, subst}
use Rattle.std.specs.Prelude.{IfSome}
use Rattle.rma_types.specs.declared.findings.Finding.{Finding}
use Rattle.rma_types.specs.declared.scripts.Script.{Script}
use Rattle.rma_record.specs.declared.runs.Run.{Run}
use Rattle.refusal_laws.specs.RefusalLaws.{RefusedCallsChangeNothing}
use Rattle.command_words.specs.declared.options.Options.{Options}
use Rattle.rma_program.proofs.Ending.{Case, Whole, Part, NoScript, NoScriptPart, NotRead, NoRoom}
use Rattle.rma_program.specs.declared.outcomes.Outcome.{Outcome}
use Rattle.rma_program.specs.Answers.{IsJudged, IsRunOf, report_on}
use Rattle.rma_program.specs.Headline.{CallsAreRefusedByClass, OfScript, PrintsFindings, ReadsAreOrdered}
use Rattle.rma_program.specs.Headline.{RefusalsOfRunChangeNothing, TouchesReadStates, UpdatesStandOnce, WroteOrBegan}

-- what holds of each run that is judged and reported on holds of the one that is handed back
of_run : (options : Options) (lb la before after : Option (List ℕ)) (outcome : Outcome)
    (Holds : Script → Run → Type 0) →
    ((script : Script) (run : Run) (found : List Finding) → IsRunOf options script run → IsJudged script run found →
    WroteOrBegan before (report_on script run found) after → Holds script run) →
    Case options lb la before after outcome → IfSome outcome.run (OfScript options lb la Holds)
of_run options lb la before after outcome Holds holds (Whole script run found reads is judged e text) =
    subst (λ (o : Outcome). IfSome o.run (OfScript options lb la Holds)) (sym e)
    (script, reads, is, holds script run found is judged (inl text))
of_run options lb la before after outcome Holds holds (Part script run found reads is judged e text) =
    subst (λ (o : Outcome). IfSome o.run (OfScript options lb la Holds)) (sym e)
    (script, reads, is, holds script run found is judged (inr text))
of_run options lb la before after outcome Holds holds (NoScript fault none e text) =
    subst (λ (o : Outcome). IfSome o.run (OfScript options lb la Holds)) (sym e) tt
of_run options lb la before after outcome Holds holds (NoScriptPart fault none e text) =
    subst (λ (o : Outcome). IfSome o.run (OfScript options lb la Holds)) (sym e) tt
of_run options lb la before after outcome Holds holds (NotRead e same) =
    subst (λ (o : Outcome). IfSome o.run (OfScript options lb la Holds)) (sym e) tt
of_run options lb la before after outcome Holds holds (NoRoom e same) =
    subst (λ (o : Outcome). IfSome o.run (OfScript options lb la Holds)) (sym e) tt

-- ---- of each run

one_history : (options : Options) (script : Script) (run : Run) → IsRunOf options script run →
    UpdatesStandOnce script run
one_history options script run is = record {
  inside = is.lawful.cells.inside;
  histories = λ cell low. let history = is.lawful.cells.histories cell low in
      record { places = history.places; last = history.last };
}

-- ---- of the run that is handed back

pub updates_stand_once : (options : Options) (lb la before after : Option (List ℕ)) (outcome : Outcome) →
    Case options lb la before after outcome → IfSome outcome.run (OfScript options lb la UpdatesStandOnce)
updates_stand_once options lb la before after outcome case = of_run options lb la before after outcome UpdatesStandOnce
    (λ script run found is judged text. one_history options script run is) case

pub touches_read_states : (options : Options) (lb la before after : Option (List ℕ)) (outcome : Outcome) →
    Case options lb la before after outcome → IfSome outcome.run (OfScript options lb la TouchesReadStates)
touches_read_states options lb la before after outcome case = of_run options lb la before after outcome
    TouchesReadStates
    (λ script run found is judged text cell low. (is.lawful.cells.histories cell low).states) case

pub refused_by_class : (options : Options) (lb la before after : Option (List ℕ)) (outcome : Outcome) →
    Case options lb la before after outcome →
    IfSome outcome.run (OfScript options lb la (CallsAreRefusedByClass options.delay))
refused_by_class options lb la before after outcome case = of_run options lb la before after outcome
    (CallsAreRefusedByClass options.delay)
    (λ script run found is judged text. record {
      by_rank = λ rank low. (is.lawful.logs rank low).calls;
      by_board = is.lawful.board.looks;
      entries = is.lawful.board.allowed;
    }) case

pub refusals_change_nothing : RefusedCallsChangeNothing → (options : Options)
    (lb la before after : Option (List ℕ)) (outcome : Outcome) → Case options lb la before after outcome →
    IfSome outcome.run (OfScript options lb la (RefusalsOfRunChangeNothing options.delay))
refusals_change_nothing law options lb la before after outcome case = of_run options lb la before after outcome
    (RefusalsOfRunChangeNothing options.delay)
    (λ script run found is judged text. law script options.delay run is.lawful) case

pub findings_printed : (options : Options) (lb la before after : Option (List ℕ)) (outcome : Outcome) →
    Case options lb la before after outcome → IfSome outcome.run (OfScript options lb la (PrintsFindings before after))
findings_printed options lb la before after outcome case = of_run options lb la before after outcome
    (PrintsFindings before after)
    (λ script run found is judged text. (found, judged.findings, text)) case

pub reads_ordered : (options : Options) (lb la before after : Option (List ℕ)) (outcome : Outcome) →
    Case options lb la before after outcome → IfSome outcome.run (OfScript options lb la ReadsAreOrdered)
reads_ordered options lb la before after outcome case = of_run options lb la before after outcome ReadsAreOrdered
    (λ script run found is judged text. (found, judged.findings, judged.reads)) case
