-- What calls are by their courses, and what a rank learns when a call ends.
use Rattle.std.proofs.Common.{◌≡◌, ℕ, ◌+◌, Bool, true, false, cond, List, [], ◌∷◌, Option, Some, None, refl, sym, ◌∙◌}
use Rattle.std.proofs.Common.{ap, subst}
use Rattle.std.specs.Prelude.{slice_get, is_none}
use Rattle.std.specs.Option.{option_map_or}
use Rattle.rma_types.specs.declared.accesses.Step.{Step}
use Rattle.rma_types.specs.declared.calls.Call.{Call}
use Rattle.rma_types.specs.declared.calls.Flavor.TheVariants.{Dynamic}
use Rattle.rma_types.specs.declared.scripts.Part.{Part}
use Rattle.rma_types.proofs.ActionLaws.{moves_it}
use Rattle.rma_record.specs.declared.items.Item.TheVariants.{Entry}
use Rattle.rma_types.specs.declared.actions.Creation.{Creation}
use Rattle.rma_types.specs.declared.actions.Target.{Target}
use Rattle.rma_types.specs.declared.actions.Transfer.{Transfer}
use Rattle.rma_types.specs.declared.actions.Action.TheVariants.{Creates}
use Rattle.rma_types.specs.declared.actions.Target.TheVariants.{Own, Null, Named}
use Rattle.rma_types.specs.Actions.{action_of, transfer_of}
use Rattle.rank_rules.specs.Courses.{Course, OneNull, OneIssue, LookUpAndIssue, ArriveAndLeave, course_of_transfer}
use Rattle.rank_rules.specs.Courses.{course_of_action, course_of}
use Rattle.rank_rules.specs.Knowledge.{Knowledge, ends_call, known_after_call, learn}
use Rattle.rank_rules.specs.Windows.{Window, RankWindows, window_of_name, is_same_flavor}
use Rattle.step_laws.proofs.EntryMoves.{IsOneEntry}

course_by_target : (known : RankWindows) (t : Transfer) (P : Course → Type 0) → (P OneIssue → ⊥) → (P OneNull → ⊥) →
    (P LookUpAndIssue → ⊥) → P (course_of_transfer known t) → ⊥
course_by_target known t P issue null look h = by_target t.target refl
  where
    named : (b : Bool) → P (cond b LookUpAndIssue OneIssue) → ⊥
    named true k = look k
    named false k = issue k

    by_target : (target : Target) → t.target ≡ target → ⊥
    by_target Own is = issue (subst (λ (x : Target). P (course_of_transfer known (record t { target = x }))) is h)
    by_target Null is = null (subst (λ (x : Target). P (course_of_transfer known (record t { target = x }))) is h)
    by_target (Named rank) is = named _
        (subst (λ (x : Target). P (course_of_transfer known (record t { target = x }))) is h)

-- a collective call moves no data
pub collective_moves_none : (known : RankWindows) (call : Call) (t : Transfer) →
    course_of known call ≡ ArriveAndLeave → transfer_of call ≡ Some t → ⊥
collective_moves_none known call t course moves =
    course_by_target known t (λ c. c ≡ ArriveAndLeave) (λ e. absurd (cc e)) (λ e. absurd (cc e)) (λ e. absurd (cc e))
    (subst (λ a. course_of_action known a ≡ ArriveAndLeave) (moves_it call t moves) course)

-- nor does a call of one entry; and it makes no window
pub one_entry_moves_none : (known : RankWindows) (call : Call) → IsOneEntry (course_of known call) →
    is_none (transfer_of call) ≡ true
one_entry_moves_none known call one = by_transfer (transfer_of call) refl
  where
    by_transfer : (o : Option Transfer) → transfer_of call ≡ o → is_none o ≡ true
    by_transfer None e = refl
    by_transfer (Some t) e = absurd
        (course_by_target known t IsOneEntry (λ h. h) (λ h. h) (λ h. h)
        (subst (λ a. IsOneEntry (course_of_action known a)) (moves_it call t e) one))

pub one_entry_makes_none : (known : RankWindows) (call : Call) (creation : Creation) →
    IsOneEntry (course_of known call) →
    action_of call ≡ Creates creation → ⊥
one_entry_makes_none known call creation one is = subst (λ a. IsOneEntry (course_of_action known a)) is one

-- a look-up is of a dynamic window
pub looks_up_dynamic : (known : RankWindows) (t : Transfer) (window : Window) →
    course_of_transfer known t ≡ LookUpAndIssue → window_of_name known t.win ≡ Some window →
    is_same_flavor window.flavor Dynamic ≡ true
looks_up_dynamic known t window course live = by_target t.target refl
  where
    named : (b : Bool) → cond b LookUpAndIssue OneIssue ≡ LookUpAndIssue → b ≡ true
    named true e = refl
    named false e = absurd (cc e)

    at_target : (target : Target) → t.target ≡ target → course_of_transfer known (record t { target = target }) ≡
        LookUpAndIssue
    at_target target is = subst (λ (x : Target). course_of_transfer known (record t { target = x }) ≡ LookUpAndIssue)
        is course

    by_target : (target : Target) → t.target ≡ target → is_same_flavor window.flavor Dynamic ≡ true
    by_target Own is = absurd (cc (at_target Own is))
    by_target Null is = absurd (cc (at_target Null is))
    by_target (Named rank) is = named (is_same_flavor window.flavor Dynamic)
        (subst (λ (o : Option Window). cond (option_map_or (λ (w : Window). is_same_flavor w.flavor Dynamic) o false)
        LookUpAndIssue OneIssue ≡ LookUpAndIssue) live (at_target (Named rank) is))

-- ---- what an entry teaches that ends its call

pub learns_call : (shapes : ℕ → List Part) (calls : List Call) (known : Knowledge) (number place : ℕ) (step : Step)
    (call : Call) →
    slice_get calls number ≡ Some call → ends_call step call ≡ true →
    learn shapes calls known (Entry number place step) ≡ known_after_call shapes known number call
learns_call shapes calls known number place step call here ends =
    ap (λ (o : Option Call). option_map_or
    (λ n. option_map_or (known_after_call shapes known n) (slice_get calls n) known)
    (option_map_or (λ (c : Call). cond (ends_call step c) (Some number) None) o None) known) here
    ∙ ap (λ b. option_map_or (λ n. option_map_or (known_after_call shapes known n) (slice_get calls n) known)
    (cond b (Some number) None) known) ends
    ∙ ap (λ (o : Option Call). option_map_or (known_after_call shapes known number) o known) here
