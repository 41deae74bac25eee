-- The bytes that the look-up of an access finds attached lie in memory.
use Rattle.std.proofs.Common.{◌≡◌, ℕ, Bool, true, false, List, Option, Some, None, refl, sym, ◌∙◌, subst}
use Rattle.std.specs.Prelude.{◌==◌}
use Rattle.std.proofs.lemmas.Bool.{not-false}
use Rattle.list_laws.proofs.Each.{found_has}
use Rattle.rma_types.specs.declared.accesses.Step.TheVariants.{One}
use Rattle.rma_types.specs.declared.calls.Call.{Call}
use Rattle.rma_types.specs.declared.classes.Class.{Class}
use Rattle.rma_types.specs.declared.classes.Class.TheVariants.{Range as RangeClass}
use Rattle.rma_types.specs.declared.schedules.Delay.{Delay}
use Rattle.rma_types.specs.declared.scripts.Script.{Script}
use Rattle.rma_types.proofs.ActionLaws.{moves_it}
use Rattle.rank_rules.proofs.KnowledgeLaws.{epochs_allow}
use Rattle.board_rules.specs.AttachedRanges.{ranges_attached, reaches_unattached}
use Rattle.board_rules.specs.Board.{Allow, refuse_if, one_refusal, refusal, decision_by, is_allowed_now}
use Rattle.board_rules.specs.Entries.{Row, acts}
use Rattle.board_rules.specs.Questions.{Question, question}
use Rattle.rma_types.specs.declared.actions.Transfer.{Transfer}
use Rattle.rma_types.specs.declared.actions.Action.TheVariants.{Moves}
use Rattle.rma_types.specs.Actions.{action_of, transfer_of}
use Rattle.call_rules.specs.Layout.{layout}
use Rattle.call_rules.specs.Ranks.{natural}
use Rattle.call_rules.specs.Transfers.{rank_reached, bytes_of}
use Rattle.lawful_runs.specs.Stages.{stage_of}
use Rattle.rank_rules.specs.Classes.{first_class}
use Rattle.rank_rules.specs.Courses.{LookUpAndIssue, course_of_transfer, course_of_action, course_of, access_on}
use Rattle.rank_rules.specs.EpochTests.{epoch_class}
use Rattle.rank_rules.specs.Ranges.{covers}
use Rattle.rank_rules.specs.Windows.{Window, RankWindows, window_of_name}
use Rattle.rank_rules.specs.WindowTests.{place_tests, window_class}
use Rattle.step_runs.specs.Agents.{Agent}
use Rattle.step_runs.specs.BoardSteps.{next_row}
use Rattle.step_laws.proofs.CallCourses.{looks_up_dynamic}
use Rattle.step_laws.proofs.Creations.{acts_sound, attached_lie}
use Rattle.step_laws.proofs.EntryMoves.{IsAllowedEntry}
use Rattle.step_laws.proofs.Flavors.{AreRegular}
use Rattle.step_laws.proofs.OwnRoom.{IsRoomyWindow, right_place, looked_up_lies}
use Rattle.step_laws.proofs.OwnTests.{HasIssue, windows_allow, transfer_passed}
use Rattle.step_laws.proofs.Sound.{IsSoundRank}
use Rattle.step_laws.specs.Inside.{LiesInMemory}

pub look_up_lies : (script : Script) (delay : Delay) (rank : ℕ) (agent : Agent) (rows : List Row) (call : Call)
    (t : Transfer) → AreRegular script rows → IsSoundRank script delay rank agent rows →
    IsAllowedEntry (stage_of script delay) agent rows call One → course_of agent.known.windows call ≡ LookUpAndIssue →
    transfer_of call ≡ Some t →
    (window : Window) → window_of_name agent.known.windows t.win ≡ Some window →
    LiesInMemory (layout script) (access_on agent.known.windows t window) t.dtype
look_up_lies script delay rank agent rows call t regular sound entry course moves window live =
    looked_up_lies (layout script) known t window
    (ranges_attached (acts rows) (rank_reached known.rank t.target) q.window)
    (found_has (IsRoomyWindow (layout script)) (λ (w : Window). w.win == t.win) known.windows window
    sound.roomy.windows live).0
    (looks_up_dynamic known t window looks live)
    (right_place known agent.known.epochs window t (subst HasIssue (sym looks) tt)
    (subst (λ a. epoch_class known.ranks agent.known.epochs a ≡ None) is (epochs_allow agent.known call entry.own))
    (subst (λ (w : Window). first_class (place_tests known w t) ≡ None) same passed.2))
    (attached_lie script (acts rows) (rank_reached known.rank t.target) q.window (acts_sound script rows regular.sound))
    (subst (λ r. covers (ranges_attached (acts rows) (rank_reached r t.target) q.window) (natural t.disp)
    (bytes_of t) ≡ true) (sound.mine ∙ sym sound.whose) covered)
  where
    known : RankWindows
    known = agent.known.windows

    q : Question
    q = question script.ranks rows (next_row agent call One)

    is : action_of call ≡ Moves t
    is = moves_it call t moves

    looks : course_of_transfer known t ≡ LookUpAndIssue
    looks = subst (λ a. course_of_action known a ≡ LookUpAndIssue) is course

    passed : (w : Window) × (window_of_name known t.win ≡ Some w) × (first_class (place_tests known w t) ≡ None)
    passed = transfer_passed known t
        (subst (λ a. window_class known a ≡ None) is (windows_allow agent.known call entry.own))

    same : passed.0 ≡ window
    same = cc (passed.1, live)

    not_refused : (o : Option Class) (b : Bool) → decision_by o b ≡ Allow → o ≡ None
    not_refused None b e = refl
    not_refused (Some class) b e = absurd (cc e)

    attached : (b : Bool) → refuse_if b RangeClass ≡ None → b ≡ false
    attached true e = absurd (cc e)
    attached false e = refl

    covered : covers (ranges_attached (acts rows) (rank_reached agent.rank t.target) q.window) (natural t.disp)
        (bytes_of t) ≡ true
    covered = not-false (covers (ranges_attached (acts rows) (rank_reached agent.rank t.target) q.window)
        (natural t.disp) (bytes_of t))
        (attached (reaches_unattached q t)
        (subst (λ a. one_refusal q a ≡ None) is (not_refused (refusal q One) (is_allowed_now q One) entry.allowed)))
