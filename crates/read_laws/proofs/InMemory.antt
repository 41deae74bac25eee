-- Each access of a lawful run is of a transfer, and lies in the memory of its target.
use Rattle.std.proofs.Common.{◌≡◌, ℕ, zero, suc, ◌<◌, inl, inr, Bool, true, false, List, [], ◌∷◌, ◌++◌, Option, Some}
use Rattle.std.proofs.Common.{None, refl, ap, sym, ◌∙◌, subst, append_assoc}
use Rattle.std.specs.Prelude.{◌==◌, slice_get}
use Rattle.std.specs.List.{AllByRecursion}
use Rattle.std.specs.Option.{option_map_or}
use Rattle.std.proofs.lemmas.Bool.{not-false}
use Rattle.std.proofs.lemmas.List.{append-nil}
use Rattle.list_laws.proofs.Each.{each_append, each_front, each_at, found_has}
use Rattle.list_laws.proofs.Options.{some_and}
use Rattle.rma_types.specs.declared.accesses.Access.{Access}
use Rattle.rma_types.specs.declared.accesses.Step.TheVariants.{Arrive, One}
use Rattle.rma_types.specs.declared.calls.Call.{Call}
use Rattle.rma_types.specs.declared.classes.Class.{Class}
use Rattle.rma_types.specs.declared.classes.Class.TheVariants.{Range as RangeClass}
use Rattle.rma_types.specs.declared.schedules.Delay.{Delay}
use Rattle.rma_types.specs.declared.scripts.Script.{Script}
use Rattle.rma_types.proofs.ActionLaws.{moves_it}
use Rattle.rma_record.specs.declared.items.Item.{Item}
use Rattle.rma_record.specs.declared.items.Item.TheVariants.{Issue, Null, Flush, Request, Entry, Tested, Refused, Ended}
use Rattle.rma_record.specs.declared.runs.Run.{Run}
use Rattle.rank_rules.proofs.KnowledgeLaws.{epochs_allow}
use Rattle.board_rules.specs.AttachedRanges.{ranges_attached, reaches_unattached}
use Rattle.board_rules.specs.Board.{Allow, refuse_if, one_refusal, refusal, decision_by, is_allowed_now, decide}
use Rattle.board_rules.specs.Entries.{Row, acts}
use Rattle.board_rules.specs.Questions.{Question, question}
use Rattle.rma_types.specs.declared.actions.Transfer.{Transfer}
use Rattle.rma_types.specs.declared.actions.Action.TheVariants.{Moves}
use Rattle.rma_types.specs.declared.actions.Target.TheVariants.{Own}
use Rattle.rma_types.specs.Actions.{transfer_of}
use Rattle.call_rules.specs.Layout.{layout}
use Rattle.call_rules.specs.Ranks.{natural}
use Rattle.call_rules.specs.Transfers.{rank_reached, bytes_of}
use Rattle.call_rules.specs.WellFormed.{IsWellFormed}
use Rattle.lawful_runs.specs.BoardLaw.{AreAllowed}
use Rattle.lawful_runs.specs.CallItems.{other_items, AreItemsOfCourse, AreFinished, StandsAt, EndsOrStands}
use Rattle.lawful_runs.specs.CallItems.{HasItemsOfCalls}
use Rattle.lawful_runs.specs.Items.{is_touch}
use Rattle.lawful_runs.specs.LawfulRun.{IsLawful, rank_in}
use Rattle.lawful_runs.specs.Logs.{log_of, calls_of, rows_of}
use Rattle.lawful_runs.specs.Stages.{known_at}
use Rattle.rank_rules.specs.Classes.{first_class}
use Rattle.rank_rules.specs.Courses.{Course, OneNull, OneIssue, LookUpAndIssue, OneFlush, OneRequest, ArriveAndLeave}
use Rattle.rank_rules.specs.Courses.{EntryOrTested, OneEntry, course_of_transfer, course_of_action, course_of}
use Rattle.rank_rules.specs.Courses.{access_on, access_of}
use Rattle.rank_rules.specs.EpochTests.{epoch_class}
use Rattle.rank_rules.specs.Knowledge.{Knowledge, own_class}
use Rattle.rank_rules.specs.Ranges.{covers}
use Rattle.rank_rules.specs.Windows.{Window, window_of_name}
use Rattle.rank_rules.specs.WindowTests.{place_tests, window_class}
use Rattle.read_laws.proofs.Begun.{IsEntered}
use Rattle.read_laws.proofs.Known.{AreEntered, IsSound, begun_in, IsOfCallAfter, Refuses, Accepts, of_call_after}
use Rattle.read_laws.proofs.Known.{known_sound}
use Rattle.read_laws.proofs.Leaves.{with_touches}
use Rattle.read_laws.proofs.Parts.{IsOfTransfer, AreOfTransfers}
use Rattle.read_laws.proofs.Steps.{access_is}
use Rattle.read_laws.proofs.Touches.{issued_is}
use Rattle.read_laws.proofs.Transfers.{call_facts}
use Rattle.step_laws.proofs.CallCourses.{looks_up_dynamic}
use Rattle.step_laws.proofs.Creations.{IsSoundRow, acts_sound, attached_lie}
use Rattle.step_laws.proofs.Flavors.{AreRegular}
use Rattle.step_laws.proofs.OwnRoom.{IsRoomyWindow, right_place, access_lies, looked_up_lies}
use Rattle.step_laws.proofs.OwnTests.{HasIssue, transfer_with_issue, access_is as access_on_is, windows_allow}
use Rattle.step_laws.proofs.OwnTests.{transfer_passed}
use Rattle.step_laws.specs.Inside.{LiesInMemory}
use Rattle.read_laws.proofs.EntriesInMemory.{rows_sound, regular, all_entered}

module _ (script : Script) (delay : Delay) (run : Run) (formed : IsWellFormed script)
    (lawful : IsLawful script delay run) where
  abbrev entries : AreRegular script (rows_of script run)
  entries = regular script delay run formed lawful

  -- ---- accesses

  allowed_at : (before front rest : List Row) (row : Row) → AreAllowed script.ranks before (front ++ row ∷ rest) →
      decide script.ranks (before ++ front) row ≡ Allow
  allowed_at before [] rest row allowed = subst (λ l. decide script.ranks l row ≡ Allow)
      (sym (append-nil before)) allowed.0
  allowed_at before (x ∷ front) rest row allowed =
      subst (λ l. decide script.ranks l row ≡ Allow) (append_assoc before (x ∷ []) front)
      (allowed_at (before ++ x ∷ []) front rest row allowed.1)

  -- what an Issue tells of its access
  pub record IsIssueTold (rank : ℕ) (access : Access) (call : Call) : Type 0 where
    pub t : Transfer
    pub moves : transfer_of call ≡ Some t
    pub kind : access.kind ≡ t.kind
    pub own : t.target ≡ Own → access.target ≡ rank
    pub lies : LiesInMemory (layout script) access t.dtype

  abbrev IssueIsTold : ℕ → Item → Type 0
  IssueIsTold rank item = (number : ℕ) (access : Access) → item ≡ Issue number access → (call : Call) →
      slice_get (calls_of script rank) number ≡ Some call → IsIssueTold rank access call

  module _ (rank : ℕ) (within : rank < script.ranks) where
    abbrev Sound : Knowledge → (ℕ → ℕ) → Type 0
    Sound known begun = IsSound script delay run formed lawful entries rank within known begun

    -- the access of an accepted transfer, given that it lies in memory on its window
    told : (known : Knowledge) (begun : ℕ → ℕ) (call : Call) (access : Access) → Sound known begun →
        own_class known call ≡ None →
        (t : Transfer) → transfer_of call ≡ Some t → access_of known.windows call ≡ Some access →
        ((window : Window) → window_of_name known.windows t.win ≡ Some window →
        first_class (place_tests known.windows window t) ≡ None →
        LiesInMemory (layout script) (access_on known.windows t window) t.dtype) → IsIssueTold rank access call
    told known begun call access sound own t moves is lies =
        let passed = transfer_passed known.windows t
        (subst (λ a. window_class known.windows a ≡ None) (moves_it call t moves) (windows_allow known call own)) in
        let both : Some access ≡ Some (access_on known.windows t passed.0) = sym is
        ∙ access_on_is known.windows call t passed.0 moves passed.1 in
        let same : access ≡ access_on known.windows t passed.0 = cc both in
        record {
          t = t;
          moves = moves;
          kind = ap (λ (a : Access). a.kind) same;
          own = λ own. ap (λ (a : Access). a.target) same ∙ ap (rank_reached known.windows.rank) own ∙ sound.mine;
          lies = subst (λ a. LiesInMemory (layout script) a t.dtype) (sym same) (lies passed.0 passed.1 passed.2);
        }

    roomy_window : (known : Knowledge) (begun : ℕ → ℕ) (win : ℕ) (window : Window) → Sound known begun →
        window_of_name known.windows win ≡ Some window →
        IsRoomyWindow (layout script) window
    roomy_window known begun win window sound live =
        (found_has (IsRoomyWindow (layout script)) (λ (w : Window). w.win == win) known.windows.windows window
        sound.roomy.windows live).0

    epochs_pass : (known : Knowledge) (call : Call) (t : Transfer) → transfer_of call ≡ Some t →
        own_class known call ≡ None →
        epoch_class known.windows.ranks known.epochs (Moves t) ≡ None
    epochs_pass known call t moves own = subst (λ a. epoch_class known.windows.ranks known.epochs a ≡ None)
        (moves_it call t moves) (epochs_allow known call own)

    course_at : (known : Knowledge) (call : Call) (t : Transfer) (course : Course) → transfer_of call ≡ Some t →
        course_of known.windows call ≡ course →
        course_of_transfer known.windows t ≡ course
    course_at known call t course moves is = subst (λ a. course_of_action known.windows a ≡ course)
        (moves_it call t moves) is

    -- without a look-up
    plain_told : (known : Knowledge) (begun : ℕ → ℕ) (call : Call) (access : Access) → Sound known begun →
        own_class known call ≡ None →
        course_of known.windows call ≡ OneIssue → access_of known.windows call ≡ Some access →
        IsIssueTold rank access call
    plain_told known begun call access sound own course is =
        let t = transfer_with_issue known.windows call (subst HasIssue (sym course) tt) in
        let at = course_at known call t.0 OneIssue t.1 course in
        told known begun call access sound own t.0 t.1 is (λ window live place.
        access_lies (layout script) known.windows t.0 window sound.roomy
        (roomy_window known begun t.0.win window sound live) live at
        (right_place known.windows known.epochs window t.0 (subst HasIssue (sym at) tt)
        (epochs_pass known call t.0 t.1 own) place))

    not_refused : (o : Option Class) (b : Bool) → decision_by o b ≡ Allow → o ≡ None
    not_refused None b e = refl
    not_refused (Some class) b e = absurd (cc e)

    attached : (b : Bool) → refuse_if b RangeClass ≡ None → b ≡ false
    attached true e = absurd (cc e)
    attached false e = refl

    -- after a look-up
    looked_told : (known : Knowledge) (begun : ℕ → ℕ) (number place : ℕ) (call : Call) (access : Access)
        (xs : List Item) → Sound known begun →
        own_class known call ≡ None → course_of known.windows call ≡ LookUpAndIssue →
        access_of known.windows call ≡ Some access →
        IsEntered script delay run lawful rank number place One call xs → IsIssueTold rank access call
    looked_told known begun number place call access xs sound own course is entry =
        told known begun call access sound own t.0 t.1 is (λ window live passed.
        looked_up_lies (layout script) known.windows t.0 window
        (ranges_attached (acts entry.before) (rank_reached known.windows.rank t.0.target) q.window)
        (roomy_window known begun t.0.win window sound live) (looks_up_dynamic known.windows t.0 window at live)
        (right_place known.windows known.epochs window t.0 (subst HasIssue (sym at) tt)
        (epochs_pass known call t.0 t.1 own) passed)
        (attached_lie script (acts entry.before) (rank_reached known.windows.rank t.0.target) q.window
        (acts_sound script entry.before
        (each_front (IsSoundRow script) entry.before _
        (subst (AllByRecursion (IsSoundRow script)) entry.split (rows_sound script delay run formed lawful)))))
        (subst (λ r. covers (ranges_attached (acts entry.before) (rank_reached r t.0.target) q.window)
        (natural t.0.disp) (bytes_of t.0) ≡ true)
        (sym sound.mine) covered))
      where
        t : (t : Transfer) × (transfer_of call ≡ Some t)
        t = transfer_with_issue known.windows call (subst HasIssue (sym course) tt)

        at : course_of_transfer known.windows t.0 ≡ LookUpAndIssue
        at = course_at known call t.0 LookUpAndIssue t.1 course

        row : Row
        row = record { rank = rank; number = number; call = call; step = One }

        q : Question
        q = question script.ranks entry.before (record { rank = rank; number = number; call = call; step = One })

        allowed : decide script.ranks entry.before (record { rank = rank; number = number; call = call; step = One })
            ≡ Allow
        allowed = allowed_at [] entry.before entry.rest
            (record { rank = rank; number = number; call = call; step = One })
            (subst (AreAllowed script.ranks []) entry.split lawful.board.allowed)

        covered : covers (ranges_attached (acts entry.before) (rank_reached rank t.0.target) q.window)
            (natural t.0.disp) (bytes_of t.0) ≡ true
        covered = not-false (covers (ranges_attached (acts entry.before) (rank_reached rank t.0.target) q.window)
            (natural t.0.disp) (bytes_of t.0))
            (attached (reaches_unattached q t.0)
            (subst (λ a. one_refusal q a ≡ None) (moves_it call t.0 t.1)
            (not_refused (refusal q One) (is_allowed_now q One) allowed)))

    -- ---- the items of a rank

    of_issue : (number : ℕ) (call : Call) (access : Access) → slice_get (calls_of script rank) number ≡ Some call →
        IsIssueTold rank access call →
        IssueIsTold rank (Issue number access)
    of_issue number call access of tells other access' e found at =
        let number_is : number ≡ other = cc e in
        let same_access : access ≡ access' = cc e in
        let both : Some call ≡ Some found = sym of ∙ ap (slice_get (calls_of script rank)) number_is ∙ at in
        let call_is : call ≡ found = cc both in
        subst (IsIssueTold rank access') call_is (subst (λ a. IsIssueTold rank a call) same_access tells)

    none_issues : (items : List Item) (x : Item) → items ≡ x ∷ [] →
        ((number : ℕ) (access : Access) → x ≡ Issue number access → ⊥) →
        AllByRecursion (IssueIsTold rank) items
    none_issues items x is none = subst (AllByRecursion (IssueIsTold rank)) (sym is) (λ n a e. absurd (none n a e), tt)

    course_told : (known : Knowledge) (before rest items : List Item) (number : ℕ) (call : Call) (course : Course) →
        Sound known
        (begun_in script delay run formed lawful entries rank within before) →
        AreEntered script delay run formed lawful entries rank within (before ++ (items ++ rest)) →
        own_class known call ≡ None →
        slice_get (calls_of script rank) number ≡ Some call → course_of known.windows call ≡ course →
        AreItemsOfCourse course known number call items → AllByRecursion (IssueIsTold rank) items
    course_told known before rest items number call OneNull sound enter own of is h =
        none_issues items (Null number) h (λ n a e. cc e)
    course_told known before rest items number call OneIssue sound enter own of is (item, issue, e) =
        let one = some_and (access_of known.windows call) issue in
        subst (AllByRecursion (IssueIsTold rank)) (sym (e ∙ ap (λ i. i ∷ []) one.2))
        (of_issue number call one.0 of (plain_told known _ call one.0 sound own is one.1), tt)
    course_told known before rest items number call LookUpAndIssue sound enter own of is (place, item, issue, e) =
        let one = some_and (access_of known.windows call) issue in
        let entry = enter before (item ∷ rest) number place One call (ap (λ l. before ++ (l ++ rest)) e) of in
        subst (AllByRecursion (IssueIsTold rank)) (sym (e ∙ ap (λ i. Entry number place One ∷ i ∷ []) one.2)) (
          λ n a same. absurd (cc same),
          (
            of_issue number call one.0 of
                (looked_told known _ number place call one.0 before sound own is one.1 entry),
            tt,
          ),
        )
    course_told known before rest items number call OneFlush sound enter own of is h =
        none_issues items (Flush number) h (λ n a e. cc e)
    course_told known before rest items number call OneRequest sound enter own of is h =
        none_issues items (Request number) h (λ n a e. cc e)
    course_told known before rest items number call ArriveAndLeave sound enter own of is (arrived, left, e) =
        subst (AllByRecursion (IssueIsTold rank)) (sym e) (
          λ n a same. absurd (cc same),
          (λ n a same. absurd (cc same), tt),
        )
    course_told known before rest items number call EntryOrTested sound enter own of is (inl entry) =
        none_issues items (Entry number entry.0 One) entry.1 (λ n a e. cc e)
    course_told known before rest items number call EntryOrTested sound enter own of is (inr tested) =
        none_issues items (Tested number tested.0) tested.1 (λ n a e. cc e)
    course_told known before rest items number call OneEntry sound enter own of is (place, e) =
        none_issues items (Entry number place One) e (λ n a same. cc same)

    call_told : (before rest items : List Item) (number : ℕ) (call : Call) →
        Sound (known_at (rank_in script delay run rank) before)
        (begun_in script delay run formed lawful entries rank within before) →
        AreEntered script delay run formed lawful entries rank within (before ++ (items ++ rest)) →
        slice_get (calls_of script rank) number ≡ Some call →
        IsOfCallAfter script delay run formed lawful entries rank within
        (known_at (rank_in script delay run rank) before) number call items →
        AllByRecursion (IssueIsTold rank) items
    call_told before rest items number call sound enter of (Refuses item class seen is) =
        none_issues items (Refused number class seen) is (λ n a e. cc e)
    call_told before rest items number call sound enter of (Accepts own accepted) =
        course_told (known_at (rank_in script delay run rank) before) before rest items number call
        (course_of (known_at (rank_in script delay run rank) before).windows call)
        sound enter own of refl accepted

    finished_told : (number : ℕ) (items rest : List Item) → AreFinished (rank_in script delay run rank) number items →
        AreEntered script delay run formed lawful entries rank within (items ++ rest) →
        AllByRecursion (IssueIsTold rank) items
    finished_told zero items rest h enter = subst (AllByRecursion (IssueIsTold rank)) (sym h) tt
    finished_told (suc number) items rest (before, last, is, earlier, of) enter =
        let enter' = subst (AreEntered script delay run formed lawful entries rank within) (ap (λ l. l ++ rest) is
        ∙ append_assoc before last rest) enter in
        let sound = known_sound script delay run formed lawful entries rank within number before
        (last ++ rest) earlier enter' in
        let one = of_call_after script delay run formed lawful entries rank within before number last of in
        subst (AllByRecursion (IssueIsTold rank)) (sym is)
        (each_append (IssueIsTold rank) before last (finished_told number before (last ++ rest) earlier enter')
        (call_told before rest last number one.0 sound enter' one.1 one.2))

    ending_told : (before : List Item) (number : ℕ) (rest : List Item) →
        EndsOrStands (rank_in script delay run rank) before number rest →
        AllByRecursion (IssueIsTold rank) rest
    ending_told before number rest (inl ended) = none_issues rest Ended ended.1 (λ n a e. cc e)
    ending_told before number rest (inr stands) =
        let call = some_and (slice_get (calls_of script rank) number) stands in by_standing call.0 call.2
      where
        by_standing : (call : Call) → StandsAt (rank_in script delay run rank) before number call rest →
            AllByRecursion (IssueIsTold rank) rest
        by_standing call (own, inl none) = subst (AllByRecursion (IssueIsTold rank)) (sym none.0) tt
        by_standing call (own, inr arrived) = none_issues rest (Entry number arrived.0 Arrive) arrived.1 (λ n a e. cc e)

    log_told : AllByRecursion (IssueIsTold rank) (log_of run rank)
    log_told = with_touches (IssueIsTold rank) no_touch (log_of run rank) (by_calls (lawful.logs rank within).calls)
      where
        no_touch : (x : Item) → is_touch x ≡ true → IssueIsTold rank x
        no_touch x touch number access e = absurd (cc (touch, ap is_touch e))

        by_calls : HasItemsOfCalls (rank_in script delay run rank) (other_items (log_of run rank)) →
            AllByRecursion (IssueIsTold rank) (other_items (log_of run rank))
        by_calls (number, before, rest, is, finished, end) =
            subst (AllByRecursion (IssueIsTold rank)) (sym is)
            (each_append (IssueIsTold rank) before rest
            (finished_told number before rest finished
            (subst (AreEntered script delay run formed lawful entries rank within) is
            (all_entered script delay run formed lawful rank within)))
            (ending_told before number rest end))

  call_at : (calls : List Call) (number : ℕ) (t : Transfer) (o : Option Call) → slice_get calls number ≡ o →
      option_map_or transfer_of o None ≡ Some t →
      (call : Call) × (slice_get calls number ≡ Some call) × (transfer_of call ≡ Some t)
  call_at calls number t None e h = absurd (cc h)
  call_at calls number t (Some call) e h = (call, e, h)

  pub of_transfers : AreOfTransfers script run
  of_transfers a m =
      let access = access_is script run m in
      let issued = issued_is (calls_of script a.id.rank) a.issued.index access.item a.issued access.issued in
      let call = call_at (calls_of script a.id.rank) a.issued.number issued.t
      (slice_get (calls_of script a.id.rank) a.issued.number) refl issued.moves in
      let one = each_at (IssueIsTold a.id.rank) (log_of run a.id.rank) a.issued.index access.item
      (log_told a.id.rank access.within) access.logged
      a.issued.number a.issued.access issued.is call.0 call.1 in
      let both : Some one.t ≡ Some issued.t = sym one.moves ∙ call.2 in
      let same : one.t ≡ issued.t = cc both in (
        issued.t,
        subst (IsOfTransfer script a) same (record {
          moves = issued.moves ∙ ap Some (sym same);
          facts = call_facts call.0 one.t one.moves;
          kind = one.kind;
          fetches = issued.fetches ∙ ap (λ (t : Transfer). t.fetches) (sym same);
          own = one.own;
          lies = one.lies;
        }),
      )
