-- What follows from how the call ends that reads a script and runs it.
use Rattle.std.proofs.Common.{◌≡◌, ℕ, ◌<◌, ◌≤◌, ◌⊎◌, inl, inr, Bool, true, false, cond, not, List, [], ◌∷◌, ◌++◌}
use Rattle.std.proofs.Common.{length, Option, Some, None, refl, sym, ◌∙◌, ap, subst, arith}
use Rattle.std.specs.Prelude.{IfSome, ◌||◌, nat_lt, ◌-◌, ◌^◌}
use Rattle.std.proofs.Common.{length-append}
use Rattle.std.specs.List.{list_any}
use Rattle.std.proofs.lemmas.List.{append-nil}
use Rattle.rma_types.specs.declared.findings.Finding.{Finding}
use Rattle.rma_types.specs.declared.scripts.Script.{Script}
use Rattle.rma_record.specs.declared.runs.Run.{Run}
use Rattle.run_texts.specs.Report.{all_ended}
use Rattle.lawful_runs.specs.Items.{is_refused}
use Rattle.run_texts.specs.Status.{status}
use Rattle.rma_streams.specs.Faults.{Rose}
use Rattle.rma_streams.specs.Moves.{Took, AtEnd, Wrote, WrotePrefix}
use Rattle.script_language.specs.declared.faults.Fault.{Fault}
use Rattle.script_language.specs.Reading.{Reads}
use Rattle.rma_program.proofs.Texts.{text_is_short, is_no_text}
use Rattle.command_words.specs.declared.options.Options.{Options}
use Rattle.rma_program.specs.declared.outcomes.Outcome.{Outcome}
use Rattle.rma_program.specs.Answers.{IsInput, ReadsAs, ReadsAsNone, IsJudged, IsRunOf, Reported, ReportedInPart}
use Rattle.rma_program.specs.Answers.{Refused, RefusedInPart, IsNoText, report_on}
use Rattle.rma_program.specs.Lines.{fault_line}
use Rattle.rma_program.specs.Statuses.{IsRunStatus, IsStepStatus}
use Rattle.rma_program.specs.Tops.{EndsFault, EndsScript, StepEnds}

-- the status of a run is 0, 1 or 7
status_by : (ended bad : Bool) → IsRunStatus (cond (not ended) 7 (cond bad 1 0))
status_by false bad = inr (inr refl)
status_by true true = inr (inl refl)
status_by true false = inl refl

pub run_status : (run : Run) (found : List Finding) → IsRunStatus (status run found)
run_status run found =
    status_by (all_ended run) (nat_lt 0 (length found) || list_any (list_any is_refused) run.logs)

-- a run's status is none of the others
apart : (code other : ℕ) → IsRunStatus code → code ≡ other → (0 ≡ other → ⊥) → (1 ≡ other → ⊥) → (7 ≡ other → ⊥) → ⊥
apart code other (inl is) e zero one seven = zero (sym is ∙ e)
apart code other (inr (inl is)) e zero one seven = one (sym is ∙ e)
apart code other (inr (inr is)) e zero one seven = seven (sym is ∙ e)

pub is_not_3 : (code : ℕ) → IsRunStatus code → code ≡ 3 → ⊥
is_not_3 code is e = apart code 3 is e (λ h. omega arith) (λ h. omega arith) (λ h. omega arith)

pub is_not_4 : (code : ℕ) → IsRunStatus code → code ≡ 4 → ⊥
is_not_4 code is e = apart code 4 is e (λ h. omega arith) (λ h. omega arith) (λ h. omega arith)

pub is_not_5 : (code : ℕ) → IsRunStatus code → code ≡ 5 → ⊥
is_not_5 code is e = apart code 5 is e (λ h. omega arith) (λ h. omega arith) (λ h. omega arith)

pub is_not_6 : (code : ℕ) → IsRunStatus code → code ≡ 6 → ⊥
is_not_6 code is e = apart code 6 is e (λ h. omega arith) (λ h. omega arith) (λ h. omega arith)

-- ---- how a call ends, case by case

-- a report was written whole; in part; a refusal was written whole; in part; a read failed; memory ran out
pub data Case (options : Options) (left_before left_after before after : Option (List ℕ)) (outcome : Outcome) : Type 0
  where
    Whole : (script : Script) (run : Run) (found : List Finding) → ReadsAs left_before left_after script →
        IsRunOf options script run → IsJudged script run found →
        outcome ≡ record { status = status run found; run = Some run } →
        Wrote before (report_on script run found) after →
        Case options left_before left_after before after outcome
    Part : (script : Script) (run : Run) (found : List Finding) → ReadsAs left_before left_after script →
        IsRunOf options script run → IsJudged script run found →
        outcome ≡ record { status = 5; run = Some run } → WrotePrefix before (report_on script run found) after →
        Case options left_before left_after before after outcome
    NoScript : (fault : Fault) → ReadsAsNone left_before left_after fault →
        outcome ≡ record { status = 3; run = None } → Wrote before (fault_line fault) after →
        Case options left_before left_after before after outcome
    NoScriptPart : (fault : Fault) → ReadsAsNone left_before left_after fault →
        outcome ≡ record { status = 5; run = None } → WrotePrefix before (fault_line fault) after →
        Case options left_before left_after before after outcome
    NotRead : outcome ≡ record { status = 4; run = None } → after ≡ before →
        Case options left_before left_after before after outcome
    NoRoom : outcome ≡ record { status = 6; run = None } → after ≡ before →
        Case options left_before left_after before after outcome

by_script : (options : Options) (lb la before after : Option (List ℕ)) (outcome : Outcome) (script : Script) →
    ReadsAs lb la script → EndsScript options script before after outcome →
    Case options lb la before after outcome
by_script options lb la before after outcome script reads (inl (run, is, inl (found, judged, inl whole))) =
    Whole script run found reads is judged whole.0 whole.1
by_script options lb la before after outcome script reads (inl (run, is, inl (found, judged, inr (inl part)))) =
    Part script run found reads is judged part.0 part.1
by_script options lb la before after outcome script reads (inl (run, is, inl (found, judged, inr (inr room)))) =
    NoRoom room.0 room.1
by_script options lb la before after outcome script reads (inl (run, is, inr room)) = NoRoom room.0 room.1
by_script options lb la before after outcome script reads (inr room) = NoRoom room.0 room.1

by_fault : (options : Options) (lb la before after : Option (List ℕ)) (outcome : Outcome) (fault : Fault) →
    ReadsAsNone lb la fault → EndsFault fault before after outcome → Case options lb la before after outcome
by_fault options lb la before after outcome fault none (inl whole) = NoScript fault none whole.0 whole.1
by_fault options lb la before after outcome fault none (inr (inl part)) = NoScriptPart fault none part.0 part.1
by_fault options lb la before after outcome fault none (inr (inr room)) = NoRoom room.0 room.1

pub case_of : (options : Options) (lb la before after : Option (List ℕ)) (outcome : Outcome) →
    StepEnds options lb la before after outcome → Case options lb la before after outcome
case_of options lb la before after outcome (inl (script, reads, ends)) = by_script options lb la before after outcome
    script reads ends
case_of options lb la before after outcome (inr (inl (fault, none, ends))) =
    by_fault options lb la before after outcome fault none ends
case_of options lb la before after outcome (inr (inr (inl unread))) = NotRead unread.0 unread.1
case_of options lb la before after outcome (inr (inr (inr room))) = NoRoom room.0 room.1

-- ---- what each case says

pub reported : (options : Options) (lb la before after : Option (List ℕ)) (outcome : Outcome) →
    Case options lb la before after outcome → IsRunStatus outcome.status →
    Reported options lb la before after outcome.status outcome.run
reported options lb la before after outcome (Whole script run found reads is judged e text) code = record {
  script = script;
  run = run;
  found = found;
  reads = reads;
  is_run = is;
  judged = judged;
  handed_back = ap (λ (o : Outcome). o.run) e;
  text = text;
  status_is = ap (λ (o : Outcome). o.status) e;
}
reported options lb la before after outcome (Part script run found reads is judged e text) code = absurd
    (is_not_5 outcome.status code (ap (λ (o : Outcome). o.status) e))
reported options lb la before after outcome (NoScript fault none e text) code = absurd
    (is_not_3 outcome.status code (ap (λ (o : Outcome). o.status) e))
reported options lb la before after outcome (NoScriptPart fault none e text) code = absurd
    (is_not_5 outcome.status code (ap (λ (o : Outcome). o.status) e))
reported options lb la before after outcome (NotRead e same) code = absurd
    (is_not_4 outcome.status code (ap (λ (o : Outcome). o.status) e))
reported options lb la before after outcome (NoRoom e same) code = absurd
    (is_not_6 outcome.status code (ap (λ (o : Outcome). o.status) e))

abbrev pub HandedBy : Outcome → Type 0
HandedBy outcome = IfSome outcome.run (λ _. IsRunStatus outcome.status ⊎ (outcome.status ≡ 5))

pub handed : (options : Options) (lb la before after : Option (List ℕ)) (outcome : Outcome) →
    Case options lb la before after outcome → HandedBy outcome
handed options lb la before after outcome (Whole script run found reads is judged e text) = subst HandedBy (sym e)
    (inl (run_status run found))
handed options lb la before after outcome (Part script run found reads is judged e text) =
    subst HandedBy (sym e) (inr refl)
handed options lb la before after outcome (NoScript fault none e text) = subst HandedBy (sym e) tt
handed options lb la before after outcome (NoScriptPart fault none e text) = subst HandedBy (sym e) tt
handed options lb la before after outcome (NotRead e same) = subst HandedBy (sym e) tt
handed options lb la before after outcome (NoRoom e same) = subst HandedBy (sym e) tt

-- the status is that of the case
code_of : (outcome other : Outcome) (code : ℕ) → outcome ≡ other → outcome.status ≡ code → other.status ≡ code
code_of outcome other code e h = sym (ap (λ (o : Outcome). o.status) e) ∙ h

pub refused : (options : Options) (lb la before after : Option (List ℕ)) (outcome : Outcome) →
    Case options lb la before after outcome → outcome.status ≡ 3 →
    Refused lb la before after outcome.run
refused options lb la before after outcome (Whole script run found reads is judged e text) h = absurd
    (is_not_3 (status run found) (run_status run found) (code_of outcome _ 3 e h))
refused options lb la before after outcome (Part script run found reads is judged e text) h =
    let k = code_of outcome _ 3 e h in
    absurd (omega arith)
refused options lb la before after outcome (NoScript fault none e text) h = record
    { fault = fault; reads = none; none = ap (λ (o : Outcome). o.run) e; text = text }
refused options lb la before after outcome (NoScriptPart fault none e text) h = let k = code_of outcome _ 3 e h in
    absurd (omega arith)
refused options lb la before after outcome (NotRead e same) h = let k = code_of outcome _ 3 e h in absurd (omega arith)
refused options lb la before after outcome (NoRoom e same) h = let k = code_of outcome _ 3 e h in absurd (omega arith)

pub unread : (options : Options) (lb la before after : Option (List ℕ)) (outcome : Outcome) →
    Case options lb la before after outcome → outcome.status ≡ 4 →
    (after ≡ before) × (outcome.run ≡ None)
unread options lb la before after outcome (Whole script run found reads is judged e text) h = absurd
    (is_not_4 (status run found) (run_status run found) (code_of outcome _ 4 e h))
unread options lb la before after outcome (Part script run found reads is judged e text) h =
    let k = code_of outcome _ 4 e h in
    absurd (omega arith)
unread options lb la before after outcome (NoScript fault none e text) h = let k = code_of outcome _ 4 e h in absurd
    (omega arith)
unread options lb la before after outcome (NoScriptPart fault none e text) h = let k = code_of outcome _ 4 e h in absurd
    (omega arith)
unread options lb la before after outcome (NotRead e same) h = (same, ap (λ (o : Outcome). o.run) e)
unread options lb la before after outcome (NoRoom e same) h = let k = code_of outcome _ 4 e h in absurd (omega arith)

pub no_memory : (options : Options) (lb la before after : Option (List ℕ)) (outcome : Outcome) →
    Case options lb la before after outcome → outcome.status ≡ 6 →
    (after ≡ before) × (outcome.run ≡ None)
no_memory options lb la before after outcome (Whole script run found reads is judged e text) h = absurd
    (is_not_6 (status run found) (run_status run found) (code_of outcome _ 6 e h))
no_memory options lb la before after outcome (Part script run found reads is judged e text) h =
    let k = code_of outcome _ 6 e h in
    absurd (omega arith)
no_memory options lb la before after outcome (NoScript fault none e text) h = let k = code_of outcome _ 6 e h in absurd
    (omega arith)
no_memory options lb la before after outcome (NoScriptPart fault none e text) h = let k = code_of outcome _ 6 e h in
    absurd (omega arith)
no_memory options lb la before after outcome (NotRead e same) h = let k = code_of outcome _ 6 e h in absurd
    (omega arith)
no_memory options lb la before after outcome (NoRoom e same) h = (same, ap (λ (o : Outcome). o.run) e)

pub cut : (options : Options) (lb la before after : Option (List ℕ)) (outcome : Outcome) →
    Case options lb la before after outcome → outcome.status ≡ 5 →
    ReportedInPart options lb la before after outcome.run ⊎ RefusedInPart lb la before after outcome.run
cut options lb la before after outcome (Whole script run found reads is judged e text) h = absurd
    (is_not_5 (status run found) (run_status run found) (code_of outcome _ 5 e h))
cut options lb la before after outcome (Part script run found reads is judged e text) h =
    inl (record {
      script = script;
      run = run;
      found = found;
      reads = reads;
      is_run = is;
      judged = judged;
      handed_back = ap (λ (o : Outcome). o.run) e;
      text = text;
    })
cut options lb la before after outcome (NoScript fault none e text) h = let k = code_of outcome _ 5 e h in absurd
    (omega arith)
cut options lb la before after outcome (NoScriptPart fault none e text) h = inr
    (record { fault = fault; reads = none; none = ap (λ (o : Outcome). o.run) e; text = text })
cut options lb la before after outcome (NotRead e same) h = let k = code_of outcome _ 5 e h in absurd (omega arith)
cut options lb la before after outcome (NoRoom e same) h = let k = code_of outcome _ 5 e h in absurd (omega arith)

pub statuses : (options : Options) (lb la before after : Option (List ℕ)) (outcome : Outcome) →
    Case options lb la before after outcome → IsStepStatus outcome.status
statuses options lb la before after outcome (Whole script run found reads is judged e text) = inl
    (subst IsRunStatus (sym (ap (λ (o : Outcome). o.status) e)) (run_status run found))
statuses options lb la before after outcome (Part script run found reads is judged e text) = inr
    (inr (inr (inl (ap (λ (o : Outcome). o.status) e))))
statuses options lb la before after outcome (NoScript fault none e text) = inr (inl (ap (λ (o : Outcome). o.status) e))
statuses options lb la before after outcome (NoScriptPart fault none e text) = inr
    (inr (inr (inl (ap (λ (o : Outcome). o.status) e))))
statuses options lb la before after outcome (NotRead e same) = inr (inr (inl (ap (λ (o : Outcome). o.status) e)))
statuses options lb la before after outcome (NoRoom e same) = inr (inr (inr (inr (ap (λ (o : Outcome). o.status) e))))

-- ---- a source that tells its bytes

-- the bytes taken of an input that is not too long are the input
all_taken : (text bytes : List ℕ) (after : Option (List ℕ)) → Took (Some text) bytes after → AtEnd after
    ⊎ (length bytes ≡ 1048577) → length text ≤ 1048577 → bytes ≡ text
all_taken text bytes None took whole short = absurd (cc took)
all_taken text bytes (Some rest) took whole short = both whole
  where
    same : text ≡ bytes ++ rest
    same = cc took

    empty : (xs : List ℕ) → length xs ≡ 0 → xs ≡ []
    empty [] e = refl
    empty (x ∷ xs) e = absurd (omega arith)

    ends : rest ≡ [] → bytes ≡ text
    ends none = sym (same ∙ ap (λ xs. bytes ++ xs) none ∙ append-nil bytes)

    both : AtEnd (Some rest) ⊎ (length bytes ≡ 1048577) → bytes ≡ text
    both (inl none) = ends none
    both (inr full) = ends (empty rest (omega (arith, ap length same, length-append bytes rest)))

input_is : (lb la : Option (List ℕ)) (bytes text : List ℕ) → lb ≡ Some text → length text ≤ 1048577 →
    IsInput lb la bytes → bytes ≡ text
input_is lb la bytes text e short input = all_taken text bytes la (subst (λ o. Took o bytes la) e input.taken)
    input.whole short

pub complete : (options : Options) (lb la before after : Option (List ℕ)) (outcome : Outcome) →
    Case options lb la before after outcome →
    (text : List ℕ) (script : Script) → Reads text script → lb ≡ Some text → (outcome.status ≡ 4 → ⊥) →
    (outcome.status ≡ 5 → ⊥) →
    IsRunStatus outcome.status ⊎ (outcome.status ≡ 6)
complete options lb la before after outcome (Whole s run found reads is judged e t) text script is_text told no4 no5 =
    inl
    (subst IsRunStatus (sym (ap (λ (o : Outcome). o.status) e)) (run_status run found))
complete options lb la before after outcome (Part s run found reads is judged e t) text script is_text told no4 no5 =
    absurd
    (no5 (ap (λ (o : Outcome). o.status) e))
complete options lb la before after outcome (NoScript fault none e t) text script is_text told no4 no5 =
    let bytes = input_is lb la none.bytes text told (let low = text_is_short text script is_text in omega arith)
    none.input in
    absurd (is_no_text none.bytes fault script none.refused (subst (λ b. Reads b script) (sym bytes) is_text))
complete options lb la before after outcome (NoScriptPart fault none e t) text script is_text told no4 no5 = absurd
    (no5 (ap (λ (o : Outcome). o.status) e))
complete options lb la before after outcome (NotRead e same) text script is_text told no4 no5 = absurd
    (no4 (ap (λ (o : Outcome). o.status) e))
complete options lb la before after outcome (NoRoom e same) text script is_text told no4 no5 = inr
    (ap (λ (o : Outcome). o.status) e)

-- a script that was read has the text
read_is : (lb la : Option (List ℕ)) (text : List ℕ) (script : Script) → lb ≡ Some text → length text ≤ 1048577 →
    ReadsAs lb la script → Reads text script
read_is lb la text script told short reads =
    subst (λ b. Reads b script) (input_is lb la reads.bytes text told short
    (record { taken = reads.taken; whole = inl reads.end })) reads.reads

pub refuses : (options : Options) (lb la before after : Option (List ℕ)) (outcome : Outcome) →
    Case options lb la before after outcome →
    (text : List ℕ) → IsNoText text → lb ≡ Some text → (outcome.status ≡ 4 → ⊥) → (outcome.status ≡ 5 → ⊥) →
    (outcome.status ≡ 3) ⊎ (outcome.status ≡ 6)
refuses options lb la before after outcome (Whole s run found reads is judged e t) text none told no4 no5 = absurd
    (none.none s (read_is lb la text s told none.short reads))
refuses options lb la before after outcome (Part s run found reads is judged e t) text none told no4 no5 = absurd
    (no5 (ap (λ (o : Outcome). o.status) e))
refuses options lb la before after outcome (NoScript fault reads e t) text none told no4 no5 = inl
    (ap (λ (o : Outcome). o.status) e)
refuses options lb la before after outcome (NoScriptPart fault reads e t) text none told no4 no5 = absurd
    (no5 (ap (λ (o : Outcome). o.status) e))
refuses options lb la before after outcome (NotRead e same) text none told no4 no5 = absurd
    (no4 (ap (λ (o : Outcome). o.status) e))
refuses options lb la before after outcome (NoRoom e same) text none told no4 no5 = inr
    (ap (λ (o : Outcome). o.status) e)

-- a count that is not at its end rose
pub rises : (old new : ℕ) → old < 2 ^ 64 - 1 → Rose old new → old < new
rises old new low (inl more) = more
rises old new low (inr full) = omega arith
