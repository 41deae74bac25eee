-- Every move keeps that a rank's log fits the entries that it knows.
use Rattle.std.proofs.Common.{◌≡◌, ℕ, zero, suc, inl, inr, Bool, true, false, cond, List, [], ◌∷◌, ◌++◌, length, take}
use Rattle.std.proofs.Common.{Option, Some, None, refl, sym, ◌∙◌, ap, subst, arith}
use Rattle.std.specs.Prelude.{slice_get}
use Rattle.std.proofs.Math.Seq.{take-length}
use Rattle.std.proofs.lemmas.Option.{slice_get_within}
use Rattle.list_laws.proofs.Each.{each_weaker}
use Rattle.rma_types.specs.declared.accesses.Step.{Step}
use Rattle.rma_types.specs.declared.calls.Call.{Call}
use Rattle.rma_types.specs.declared.classes.Class.{Class}
use Rattle.rma_record.specs.declared.items.Item.{Item}
use Rattle.rma_record.specs.declared.items.Item.TheVariants.{Issue, Null, Touch, Flush, Request, Entry, Tested, Refused}
use Rattle.rma_record.specs.declared.items.Item.TheVariants.{Ended}
use Rattle.board_rules.specs.Board.{Refuse, Allow, NotYet, decide, shared_class, is_allowed_now}
use Rattle.board_rules.specs.Entries.{Row}
use Rattle.board_rules.specs.Questions.{question}
use Rattle.lawful_runs.specs.BoardLaw.{LookAfter, first_row}
use Rattle.lawful_runs.specs.Stages.{Stage, calls_at}
use Rattle.rank_laws.proofs.BoardFits.{FitsBoard, AddsLook, IsQuiet, others_fit, own_fits, item_fits, quiet_fits}
use Rattle.rank_laws.proofs.BoardFits.{quiet_items_fit}
use Rattle.rank_laws.proofs.CallKinds.{first_step_is}
use Rattle.rank_laws.proofs.Inductions.{Keeps}
use Rattle.rank_laws.proofs.Moves.{Point, course_at, step_by, Entering, OnlyEntry, LookUp, Arriving, Leaving}
use Rattle.rank_laws.proofs.Moves.{IsPlainItem, Learns, Rises, Ends, RefusesAlone, IsRefused, Tests, Passes, Enters}
use Rattle.rank_laws.proofs.Moves.{Issues, IssuesWhole, Draws, Delivers}
use Rattle.rank_laws.proofs.Touching.{IsTouchOf, touches_own, touches_of_own}
use Rattle.rank_rules.specs.Courses.{Course, OneNull, OneIssue, LookUpAndIssue, OneFlush, OneRequest, ArriveAndLeave}
use Rattle.rank_rules.specs.Courses.{EntryOrTested, OneEntry}
use Rattle.step_runs.specs.Agents.{Agent, next_call}
use Rattle.step_runs.specs.BoardSteps.{next_row}

-- the rank's log fits the entries that it knows
abbrev pub FitsAt : Stage → Point → Type 0
FitsAt stage p = FitsBoard stage.script.ranks (calls_at stage p.agent.rank) p.agent.rank p.rows p.agent.log

-- ---- looks

if_is_no_refusal : (allowed : Bool) (class : Class) → cond allowed Allow NotYet ≡ Refuse class → ⊥
if_is_no_refusal true class e = cc e
if_is_no_refusal false class e = cc e

-- a refusal by the board is the class that the entries give
pub refused_by : (ranks : ℕ) (rows : List Row) (row : Row) (class : Class) → decide ranks rows row ≡ Refuse class →
    shared_class ranks rows row ≡ Some class
refused_by ranks rows row class e =
    elim (shared_class ranks rows row) as (λ (o : Option Class). shared_class ranks rows row ≡ o → o ≡ Some class) [
      | None ↦ λ none. absurd (if_is_no_refusal (is_allowed_now (question ranks rows row) row.step) class
          (rw none at e))
      | Some other ↦ λ some. let same : Refuse other ≡ Refuse class = rw some at e in cc same
    ] refl

at_all : (rows : List Row) (before : ℕ) → length rows ≡ suc before → take (suc before) rows ≡ rows
at_all rows before e = ap (λ n. take n rows) (sym e) ∙ take-length rows

-- a refusal is a look at all entries, or one at none
refusal_adds : (ranks : ℕ) (calls : List Call) (rank number : ℕ) (rows : List Row) (call : Call) (class : Class) →
    slice_get calls number ≡ Some call →
    shared_class ranks rows (first_row rank number call) ≡ Some class → (entries : ℕ) → length rows ≡ entries →
    AddsLook ranks calls rank rows (Refused number class entries)
refusal_adds ranks calls rank number rows call class here e zero none = record {
  entry = refl;
  look = tt;
  seen = omega arith;
  moment = inl refl;
}
refusal_adds ranks calls rank number rows call class here e (suc before) some = record {
  entry = refl;
  look = rw here (subst (λ (seen : List Row). shared_class ranks seen (first_row rank number call) ≡ Some class)
      (sym (at_all rows before some)) e);
  seen = omega arith;
  moment = inr (ap (λ n. LookAfter n ∷ []) (sym some));
}

test_adds : (ranks : ℕ) (calls : List Call) (rank number : ℕ) (rows : List Row) (call : Call) →
    slice_get calls number ≡ Some call →
    decide ranks rows (first_row rank number call) ≡ NotYet →
    AddsLook ranks calls rank rows (Tested number (length rows))
test_adds ranks calls rank number rows call here e = record {
  entry = refl;
  look = rw here (subst (λ (seen : List Row). decide ranks seen (first_row rank number call) ≡ NotYet)
      (sym (take-length rows)) e);
  seen = omega arith;
  moment = inr refl;
}

-- the row of a call's first entry
first_is : (agent : Agent) (call : Call) (course : Course) → course_at agent call ≡ course →
    next_row agent call (step_by course) ≡ first_row agent.rank agent.at call
first_is agent call course e =
    ap (next_row agent call) (ap step_by (sym e) ∙ first_step_is agent.known.windows call)

-- ---- quiet items

plain_is_quiet : (course : Course) (number : ℕ) (item : Item) → IsPlainItem course number item → IsQuiet item
plain_is_quiet OneNull number item e = subst IsQuiet (sym e) tt
plain_is_quiet OneIssue number item e = absurd e
plain_is_quiet LookUpAndIssue number item e = absurd e
plain_is_quiet OneFlush number item e = subst IsQuiet (sym e) tt
plain_is_quiet OneRequest number item e = subst IsQuiet (sym e) tt
plain_is_quiet ArriveAndLeave number item e = absurd e
plain_is_quiet EntryOrTested number item e = absurd e
plain_is_quiet OneEntry number item e = absurd e

touch_is_quiet : (issue : ℕ) (item : Item) → IsTouchOf issue item → IsQuiet item
touch_is_quiet issue (Touch of element cell place bits) is = tt
touch_is_quiet issue (Issue number access) is = absurd is
touch_is_quiet issue (Null number) is = absurd is
touch_is_quiet issue (Flush number) is = absurd is
touch_is_quiet issue (Request number) is = absurd is
touch_is_quiet issue (Entry number place step) is = absurd is
touch_is_quiet issue (Tested number seen) is = absurd is
touch_is_quiet issue (Refused number class seen) is = absurd is
touch_is_quiet issue Ended is = absurd is

-- ---- moves

entered_fits : (stage : Stage) (agent : Agent) (call : Call) (step : Step) (after : Agent → Agent) (next : Agent)
    (rows : List Row) → Entering stage agent call step after →
    FitsBoard stage.script.ranks (calls_at stage next.rank) next.rank rows next.log →
    FitsBoard stage.script.ranks (calls_at stage (after next).rank) (after next).rank rows (after next).log
entered_fits stage agent call _ _ next rows (OnlyEntry begins course) h = h
entered_fits stage agent call _ _ next rows (LookUp begins course) h = h
entered_fits stage agent call _ _ next rows (Arriving begins course) h = h
entered_fits stage agent call _ _ next rows (Leaving here inside moves) h = h

entering_here : (stage : Stage) (agent : Agent) (call : Call) (step : Step) (after : Agent → Agent) →
    Entering stage agent call step after → next_call stage agent ≡ Some call
entering_here stage agent call _ _ (OnlyEntry begins course) = begins.here
entering_here stage agent call _ _ (LookUp begins course) = begins.here
entering_here stage agent call _ _ (Arriving begins course) = begins.here
entering_here stage agent call _ _ (Leaving here inside moves) = here

pub fits_kept : (stage : Stage) → Keeps stage (FitsAt stage)
fits_kept stage p _ h (Learns more others) = others_fit stage.script.ranks
    (calls_at stage p.agent.rank) p.agent.rank more p.rows p.agent.log others h
fits_kept stage p _ h (Rises after rise) = h
fits_kept stage p _ h (Ends past empty going) = quiet_fits stage.script.ranks
    (calls_at stage p.agent.rank) p.agent.rank p.rows p.agent.log Ended tt h
fits_kept stage p _ h (RefusesAlone call class here new refuses) =
    quiet_fits stage.script.ranks (calls_at stage p.agent.rank) p.agent.rank p.rows p.agent.log
    (Refused p.agent.at class 0) tt h
fits_kept stage p _ h (IsRefused call class begins has answer) =
    item_fits stage.script.ranks (calls_at stage p.agent.rank) p.agent.rank p.rows p.agent.log
    (Refused p.agent.at class (length p.rows))
    (refusal_adds stage.script.ranks (calls_at stage p.agent.rank) p.agent.rank p.agent.at p.rows call class
    begins.here
    (refused_by stage.script.ranks p.rows (first_row p.agent.rank p.agent.at call) class
    (ap (decide stage.script.ranks p.rows) (sym (first_is p.agent call (course_at p.agent call) refl)) ∙ answer))
    (length p.rows) refl) h
fits_kept stage p _ h (Tests call begins course answer) =
    item_fits stage.script.ranks (calls_at stage p.agent.rank) p.agent.rank p.rows p.agent.log
    (Tested p.agent.at (length p.rows))
    (test_adds stage.script.ranks (calls_at stage p.agent.rank) p.agent.rank p.agent.at p.rows call begins.here
    (ap (decide stage.script.ranks p.rows) (sym (first_is p.agent call EntryOrTested course)) ∙ answer)) h
fits_kept stage p _ h (Passes call item begins plain) =
    quiet_fits stage.script.ranks (calls_at stage p.agent.rank) p.agent.rank p.rows p.agent.log item
    (plain_is_quiet (course_at p.agent call) p.agent.at item plain) h
fits_kept stage p _ h (Enters call step after entering answer) =
    let here = entering_here stage p.agent call step after entering in
    entered_fits stage p.agent call step after _ (p.rows ++ next_row p.agent call step ∷ []) entering
    (own_fits stage.script.ranks (calls_at stage p.agent.rank) p.agent.rank p.rows
    (next_row p.agent call step) p.agent.log refl answer here
    (slice_get_within (calls_at stage p.agent.rank) p.agent.at call here) h)
fits_kept stage p _ h (Issues call t access issuing later) =
    quiet_fits stage.script.ranks (calls_at stage p.agent.rank) p.agent.rank p.rows p.agent.log
    (Issue p.agent.at access) tt h
fits_kept stage p _ h (IssuesWhole call t access items after issuing once touches) =
    quiet_items_fit stage.script.ranks (calls_at stage p.agent.rank) p.agent.rank p.rows items
    (p.agent.log ++ Issue p.agent.at access ∷ [])
    (each_weaker (IsTouchOf (length p.agent.log)) IsQuiet (touch_is_quiet (length p.agent.log)) items
    (touches_own t (length p.agent.log) 0 _ p.lows items after touches))
    (quiet_fits stage.script.ranks (calls_at stage p.agent.rank) p.agent.rank p.rows p.agent.log
    (Issue p.agent.at access) tt h)
fits_kept stage p _ h (Draws state new) = h
fits_kept stage p _ h (Delivers at one items after there due touches) =
    quiet_items_fit stage.script.ranks (calls_at stage p.agent.rank) p.agent.rank p.rows items p.agent.log
    (each_weaker (IsTouchOf one.index) IsQuiet (touch_is_quiet one.index) items
    (touches_of_own stage one _ p.lows items after touches)) h
