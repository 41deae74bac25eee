-- Each step of a rank without the board leaves what holds of the rank: what is pending lies in memory.
use Rattle.std.proofs.Common.{◌≡◌, ℕ, ◌+◌, ◌<◌, ◌≤◌, ◌⊎◌, inl, inr, Bool, true, false, cond, not, List, [], ◌∷◌, ◌++◌}
use Rattle.std.proofs.Common.{length, Option, Some, None, refl, sym, ◌∙◌, ap, subst}
use Rattle.std.specs.Prelude.{◌&&◌, ◌==◌, nat_lt, slice_get, is_none, remove}
use Rattle.std.specs.List.{count_by, AllByRecursion}
use Rattle.std.specs.Option.{option_map_or}
use Rattle.std.proofs.lemmas.List.{append-nil}
use Rattle.list_laws.proofs.Each.{each_append, each_removed, found_has}
use Rattle.rma_types.specs.declared.accesses.Access.{Access}
use Rattle.rma_types.specs.declared.calls.Call.{Call}
use Rattle.rma_types.specs.declared.classes.Class.{Class}
use Rattle.rma_types.specs.declared.schedules.Delay.{Delay}
use Rattle.rma_types.specs.declared.scripts.Script.{Script}
use Rattle.rma_types.proofs.ActionLaws.{transfer_makes_none, moves_it, name_made}
use Rattle.rma_record.specs.declared.items.Item.{Item}
use Rattle.rma_record.specs.declared.items.Item.TheVariants.{Issue, Null, Flush, Request, Refused, Ended}
use Rattle.rank_rules.proofs.KnowledgeLaws.{epochs_allow}
use Rattle.board_rules.specs.Entries.{Row, creations}
use Rattle.call_rules.specs.declared.cells.Cell.{Cell}
use Rattle.rma_types.specs.declared.actions.Action.{Action}
use Rattle.rma_types.specs.declared.actions.Action.TheVariants.{Creates, Frees, Attaches, Detaches, Synchronises, Meets}
use Rattle.rma_types.specs.declared.actions.Action.TheVariants.{Moves, EndsRequest}
use Rattle.rma_types.specs.declared.actions.Creation.{Creation}
use Rattle.rma_types.specs.declared.actions.Transfer.{Transfer}
use Rattle.rma_types.specs.Actions.{action_of, creation_in, creation_of, transfer_of}
use Rattle.call_rules.specs.Layout.{layout}
use Rattle.lawful_runs.specs.Accesses.{transfer_at}
use Rattle.lawful_runs.specs.Logs.{calls_of}
use Rattle.lawful_runs.specs.Stages.{Stage, stage_of, calls_at}
use Rattle.rank_rules.specs.Classes.{first_class}
use Rattle.rank_rules.specs.Courses.{Course, OneNull, OneIssue, LookUpAndIssue, OneFlush, OneRequest, ArriveAndLeave}
use Rattle.rank_rules.specs.Courses.{EntryOrTested, OneEntry, course_of_transfer, course_of_action, course_of}
use Rattle.rank_rules.specs.Courses.{has_entry, access_on, access_of}
use Rattle.rank_rules.specs.EpochTests.{epoch_class}
use Rattle.rank_rules.specs.Knowledge.{Knowledge, own_class, known_after_call, learn}
use Rattle.rank_rules.specs.declared.pending.PendingAccess.{PendingAccess}
use Rattle.rank_rules.specs.Windows.{Window, RankWindows, window_of_name, windows_after}
use Rattle.rank_rules.specs.WindowTests.{place_tests, window_class}
use Rattle.step_runs.specs.Agents.{Agent, next_call, keep_item, end_call, has_pending, must_draw, awaited_by}
use Rattle.step_runs.specs.Agents.{begins_with_entry, tries_entry}
use Rattle.step_runs.specs.DataSteps.{OnMemory, with_touches, with_delivery, deliver, Move, just_delivers}
use Rattle.step_runs.specs.DataSteps.{without_delivery, no_shapes, with_item, made_pending, with_issue, issue_of, issue}
use Rattle.step_runs.specs.DataSteps.{draw, first_item, wait_or_go_on, judge, begin, go_on, end, move_of, data_step}
use Rattle.step_laws.proofs.DataWeights.{ended_now}
use Rattle.step_laws.proofs.OwnRoom.{AreRoomy, IsRoomyWindow, right_place, access_lies}
use Rattle.step_laws.proofs.OwnTests.{HasIssue, transfer_with_issue, windows_allow}
use Rattle.step_laws.proofs.OwnTests.{transfer_passed, access_is}
use Rattle.step_laws.proofs.Sound.{IsSoundRank}
use Rattle.step_laws.specs.Inside.{bytes_at, LiesInMemory, IsPendingInside, ArePendingInside, begun_names, names_so_far}

-- ---- calls without an entry

-- a call without an entry leaves the windows, and makes none
pub record LeavesWindows (known : RankWindows) (call : Call) : Type 0 where
  pub windows : windows_after no_shapes known (action_of call) ≡ known
  pub names : name_made call ≡ []

action_leaves : (known : RankWindows) (a : Action) → has_entry (course_of_action known a) ≡ false →
    (windows_after no_shapes known a ≡ known) ×
    (option_map_or (λ (creation : Creation). creation.win ∷ []) (creation_in a) [] ≡ [])
action_leaves known (Creates creation) e = absurd (cc e)
action_leaves known (Frees win) e = absurd (cc e)
action_leaves known (Attaches win base bytes) e = absurd (cc e)
action_leaves known (Detaches win base) e = absurd (cc e)
action_leaves known (Synchronises win s) e = (refl, refl)
action_leaves known Meets e = absurd (cc e)
action_leaves known (Moves t) e = (refl, refl)
action_leaves known (EndsRequest req) e = (refl, refl)

leaves : (known : RankWindows) (call : Call) → has_entry (course_of known call) ≡ false → LeavesWindows known call
leaves known call e = let both = action_leaves known (action_of call) e in record { windows = both.0; names = both.1 }

transfer_leaves : (known : RankWindows) (call : Call) (t : Transfer) → transfer_of call ≡ Some t →
    LeavesWindows known call
transfer_leaves known call t moves = record {
  windows = ap (windows_after no_shapes known) (moves_it call t moves);
  names = ap (λ o. option_map_or (λ (creation : Creation). creation.win ∷ []) o []) (transfer_makes_none call t moves);
}

learnt_windows : (calls : List Call) (known : Knowledge) (number : ℕ) (call : Call) →
    slice_get calls number ≡ Some call → windows_after no_shapes known.windows (action_of call) ≡ known.windows →
    (option_map_or (known_after_call no_shapes known number) (slice_get calls number) known).windows ≡ known.windows
learnt_windows calls known number call here same =
    ap (λ o. (option_map_or (known_after_call no_shapes known number) o known).windows) here ∙ same

-- ---- a call is finished

finished_sound : (script : Script) (delay : Delay) (rank : ℕ) (agent next : Agent) (rows : List Row) →
    IsSoundRank script delay rank agent rows → next.rank ≡ agent.rank →
    next.known.windows ≡ agent.known.windows → next.entered ≡ false →
    begun_names agent.entered (next_call (stage_of script delay) agent) ≡ [] →
    ArePendingInside script rank next → IsSoundRank script delay rank next rows
finished_sound script delay rank agent next rows sound mine windows new none pending = record {
  mine = mine ∙ sound.mine;
  whose = ap (λ (k : RankWindows). k.rank) windows ∙ sound.whose;
  space = subst (λ (k : RankWindows). k.space ≤ bytes_at (layout script) rank) (sym windows) sound.space;
  roomy = subst (AreRoomy (layout script)) (sym windows) sound.roomy;
  numbers = λ win. sound.numbers win
      ∙ ap (λ l. count_by (λ name. name == win) (agent.known.windows.created ++ l))
      (none ∙ ap (λ b. begun_names b (next_call (stage_of script delay) next)) (sym new))
      ∙ ap (λ (k : RankWindows). count_by (λ name. name == win)
      (k.created ++ begun_names next.entered (next_call (stage_of script delay) next))) (sym windows);
  arrived = λ e. absurd (cc (e, new));
  looked = λ e. absurd (cc (e, new));
  pending = pending;
}

-- nothing is begun, or a call that makes no window
none_begun : (stage : Stage) (agent : Agent) (call : Call) → next_call stage agent ≡ Some call → name_made call ≡ [] →
    begun_names agent.entered (next_call stage agent) ≡ []
none_begun stage agent call here none = ap (begun_names agent.entered) here ∙ by_entered agent.entered
  where
    by_entered : (b : Bool) → begun_names b (Some call) ≡ []
    by_entered true = none
    by_entered false = refl

new_begun : (stage : Stage) (agent : Agent) → agent.entered ≡ false →
    begun_names agent.entered (next_call stage agent) ≡ []
new_begun stage agent new = ap (λ b. begun_names b (next_call stage agent)) new

-- an access that is pending from its Issue on
abbrev pub one_pending : Agent → Access → Transfer → PendingAccess
one_pending agent access t = record
    { index = length agent.log; number = agent.at; access = access; fetches = t.fetches }

issued_pending : (script : Script) (rank : ℕ) (agent : Agent) (access : Access) (t : Transfer) →
    ArePendingInside script rank agent → IsPendingInside script rank (one_pending agent access t) →
    AllByRecursion (IsPendingInside script rank) (agent.pending ++ made_pending (one_pending agent access t))
issued_pending script rank agent access t old new =
    each_append (IsPendingInside script rank) agent.pending (made_pending (one_pending agent access t)) old
    (by_test (nat_lt 0 access.len))
  where
    by_test : (b : Bool) → AllByRecursion (IsPendingInside script rank) (cond b (one_pending agent access t ∷ []) [])
    by_test true = (new, tt)
    by_test false = tt

-- ---- issues

-- the access of the call that the rank issues next lies in memory
abbrev pub IssueLies : Script → Agent → Call → Type 0
IssueLies script agent call = (t : Transfer) → transfer_of call ≡ Some t → (window : Window) →
    window_of_name agent.known.windows t.win ≡ Some window →
    LiesInMemory (layout script) (access_on agent.known.windows t window) t.dtype

issue_sound : (script : Script) (delay : Delay) (rank : ℕ) (agent : Agent) (rows : List Row) (call : Call) →
    IsSoundRank script delay rank agent rows →
    next_call (stage_of script delay) agent ≡ Some call → IssueLies script agent call →
    IsSoundRank script delay rank (issue (stage_of script delay) agent call).agent rows
issue_sound script delay rank agent rows call sound here lies = by_transfer (transfer_of call) refl
  where
    stage : Stage
    stage = stage_of script delay

    known : RankWindows
    known = agent.known.windows

    with_access : (t : Transfer) (window : Window) → transfer_of call ≡ Some t →
        window_of_name known t.win ≡ Some window →
        IsSoundRank script delay rank (with_issue stage agent (access_on known t window) t) rows
    with_access t window moves live =
        let left = transfer_leaves known call t moves in
        finished_sound script delay rank agent (with_issue stage agent (access_on known t window) t) rows sound refl
        (learnt_windows (calls_at stage agent.rank) agent.known agent.at call here left.windows) refl
        (none_begun stage agent call here left.names)
        (issued_pending script rank agent (access_on known t window) t sound.pending (
          t,
          ap (λ r. transfer_at (calls_of script r) agent.at) (sym sound.mine) ∙ ap
              (λ o. option_map_or transfer_of o None) here ∙ moves,
          lies t moves window live,
        ))

    by_window : (t : Transfer) → transfer_of call ≡ Some t → (o : Option Window) → window_of_name known t.win ≡ o →
        IsSoundRank script delay rank
        (option_map_or (issue_of stage agent t) (option_map_or (λ window. Some (access_on known t window)) o None)
        (without_delivery agent)).agent rows
    by_window t moves None live = sound
    by_window t moves (Some window) live = with_access t window moves live

    access_by : (t : Transfer) → transfer_of call ≡ Some t → access_of known call ≡ option_map_or
        (λ window. Some (access_on known t window)) (window_of_name known t.win) None
    access_by t moves = rw moves refl

    by_transfer : (o : Option Transfer) → transfer_of call ≡ o →
        IsSoundRank script delay rank
        (option_map_or (λ t. option_map_or (issue_of stage agent t) (access_of known call)
        (without_delivery agent)) o (without_delivery agent)).agent rows
    by_transfer None e = sound
    by_transfer (Some t) e =
        subst (λ (o : Option Access). IsSoundRank script delay rank
        (option_map_or (issue_of stage agent t) o (without_delivery agent)).agent rows) (sym (access_by t e))
        (by_window t e (window_of_name known t.win) refl)

-- an Issue without a look-up
direct_lies : (script : Script) (delay : Delay) (rank : ℕ) (agent : Agent) (rows : List Row) (call : Call) →
    IsSoundRank script delay rank agent rows → own_class agent.known call ≡ None →
    course_of agent.known.windows call ≡ OneIssue → IssueLies script agent call
direct_lies script delay rank agent rows call sound own course t moves window live =
    let known = agent.known.windows in
    let is = moves_it call t moves in
    let direct : course_of_transfer known t ≡ OneIssue = subst (λ a. course_of_action known a ≡ OneIssue) is course in
    let passed = transfer_passed known t
    (subst (λ a. window_class known a ≡ None) is (windows_allow agent.known call own)) in
    let same : passed.0 ≡ window = cc (passed.1, live) in
    access_lies (layout script) known t window sound.roomy
    (found_has (IsRoomyWindow (layout script)) (λ (w : Window). w.win == t.win) known.windows window
    sound.roomy.windows live).0 live direct
    (right_place known agent.known.epochs window t (subst HasIssue (sym direct) tt)
    (subst (λ a. epoch_class known.ranks agent.known.epochs a ≡ None) is (epochs_allow agent.known call own))
    (subst (λ (w : Window). first_class (place_tests known w t) ≡ None) same passed.2))

-- ---- a call that begins

item_sound : (script : Script) (delay : Delay) (rank : ℕ) (agent : Agent) (rows : List Row) (call : Call)
    (item : Item) → IsSoundRank script delay rank agent rows → agent.entered ≡ false →
    (learn no_shapes (calls_at (stage_of script delay) agent.rank) agent.known item).windows ≡ agent.known.windows →
    IsSoundRank script delay rank (with_item (stage_of script delay) agent item) rows
item_sound script delay rank agent rows call item sound new same =
    finished_sound script delay rank agent (with_item (stage_of script delay) agent item) rows sound refl same refl
    (new_begun (stage_of script delay) agent new) sound.pending

first_item_sound : (course : Course) (script : Script) (delay : Delay) (rank : ℕ) (agent : Agent) (rows : List Row)
    (call : Call) → IsSoundRank script delay rank agent rows →
    next_call (stage_of script delay) agent ≡ Some call → agent.entered ≡ false → own_class agent.known call ≡ None →
    course_of agent.known.windows call ≡ course →
    IsSoundRank script delay rank (first_item course (stage_of script delay) agent call).agent rows
first_item_sound OneNull script delay rank agent rows call sound here new own is =
    item_sound script delay rank agent rows call (Null agent.at) sound new
    (learnt_windows (calls_at (stage_of script delay) agent.rank) agent.known agent.at call here
    (leaves agent.known.windows call (ap has_entry is)).windows)
first_item_sound OneIssue script delay rank agent rows call sound here new own is =
    issue_sound script delay rank agent rows call sound here
    (direct_lies script delay rank agent rows call sound own is)
first_item_sound LookUpAndIssue script delay rank agent rows call sound here new own is = sound
first_item_sound OneFlush script delay rank agent rows call sound here new own is =
    item_sound script delay rank agent rows call (Flush agent.at) sound new
    (learnt_windows (calls_at (stage_of script delay) agent.rank) agent.known agent.at call here
    (leaves agent.known.windows call (ap has_entry is)).windows)
first_item_sound OneRequest script delay rank agent rows call sound here new own is =
    item_sound script delay rank agent rows call (Request agent.at) sound new
    (learnt_windows (calls_at (stage_of script delay) agent.rank) agent.known agent.at call here
    (leaves agent.known.windows call (ap has_entry is)).windows)
first_item_sound ArriveAndLeave script delay rank agent rows call sound here new own is = sound
first_item_sound EntryOrTested script delay rank agent rows call sound here new own is = sound
first_item_sound OneEntry script delay rank agent rows call sound here new own is = sound

begin_sound : (script : Script) (delay : Delay) (rank : ℕ) (agent : Agent) (rows : List Row) (call : Call) →
    IsSoundRank script delay rank agent rows →
    next_call (stage_of script delay) agent ≡ Some call → agent.entered ≡ false →
    IsSoundRank script delay rank (begin (stage_of script delay) agent call).agent rows
begin_sound script delay rank agent rows call sound here new = by_draw (must_draw stage agent)
  where
    stage : Stage
    stage = stage_of script delay

    by_wait : (o : Option ℕ) → own_class agent.known call ≡ None →
        IsSoundRank script delay rank (wait_or_go_on o stage agent call).agent rows
    by_wait None own = first_item_sound (course_of agent.known.windows call) script delay rank agent rows call sound
        here new own refl
    by_wait (Some at) own = sound

    by_class : (o : Option Class) → own_class agent.known call ≡ o →
        IsSoundRank script delay rank (judge o stage agent call).agent rows
    by_class None own = by_wait (awaited_by agent call) own
    by_class (Some class) own = item_sound script delay rank agent rows call (Refused agent.at class 0) sound new refl

    drawn : IsSoundRank script delay rank (draw agent).agent rows
    drawn = record {
      mine = sound.mine;
      whose = sound.whose;
      space = sound.space;
      roomy = sound.roomy;
      numbers = sound.numbers;
      arrived = sound.arrived;
      looked = sound.looked;
      pending = sound.pending;
    }

    by_draw : (b : Bool) → IsSoundRank script delay rank
        (cond b (draw agent) (judge (own_class agent.known call) stage agent call)).agent rows
    by_draw true = drawn
    by_draw false = by_class (own_class agent.known call) refl

-- ---- the step

pub move_sound : (script : Script) (delay : Delay) (rank : ℕ) (agent : Agent) (rows : List Row) →
    IsSoundRank script delay rank agent rows →
    IsSoundRank script delay rank (move_of (stage_of script delay) agent).agent rows
move_sound script delay rank agent rows sound = by_call (next_call stage agent) refl
  where
    stage : Stage
    stage = stage_of script delay

    over : IsSoundRank script delay rank (ended_now stage agent) rows
    over = record {
      mine = sound.mine;
      whose = sound.whose;
      space = sound.space;
      roomy = sound.roomy;
      numbers = sound.numbers;
      arrived = sound.arrived;
      looked = sound.looked;
      pending = sound.pending;
    }

    by_ended : (b : Bool) → IsSoundRank script delay rank
        (cond b (without_delivery agent) (without_delivery (ended_now stage agent))).agent rows
    by_ended true = sound
    by_ended false = over

    by_pending : (b : Bool) → IsSoundRank script delay rank
        (cond b (just_delivers agent 0)
        (cond agent.ended (without_delivery agent) (without_delivery (ended_now stage agent)))).agent rows
    by_pending true = sound
    by_pending false = by_ended agent.ended

    by_entered : (call : Call) → next_call stage agent ≡ Some call → (b : Bool) → agent.entered ≡ b →
        IsSoundRank script delay rank (cond b (issue stage agent call) (begin stage agent call)).agent rows
    by_entered call here true e = issue_sound script delay rank agent rows call sound here (sound.looked e call here)
    by_entered call here false e = begin_sound script delay rank agent rows call sound here e

    by_call : (o : Option Call) → next_call stage agent ≡ o →
        IsSoundRank script delay rank (option_map_or (go_on stage agent) o (end stage agent)).agent rows
    by_call None e = by_pending (has_pending agent)
    by_call (Some call) e = by_entered call e agent.entered refl

pub delivery_sound : (script : Script) (delay : Delay) (rank : ℕ) (agent : Agent) (rows : List Row)
    (cells : List Cell) (at : ℕ) → IsSoundRank script delay rank agent rows →
    IsSoundRank script delay rank (deliver (stage_of script delay) agent cells at).agent rows
delivery_sound script delay rank agent rows cells at sound = by_access (slice_get agent.pending at)
  where
    stage : Stage
    stage = stage_of script delay

    rest : Agent
    rest = record agent { pending = remove agent.pending at }

    removed : AllByRecursion (IsPendingInside script rank) (remove agent.pending at)
    removed = each_removed (IsPendingInside script rank) agent.pending at sound.pending

    by_transfer : (one : PendingAccess) (o : Option Transfer) →
        IsSoundRank script delay rank
        (option_map_or (with_touches stage rest cells one) o (record { agent = rest; cells = cells })).agent rows
    by_transfer one None = record {
      mine = sound.mine;
      whose = sound.whose;
      space = sound.space;
      roomy = sound.roomy;
      numbers = sound.numbers;
      arrived = sound.arrived;
      looked = sound.looked;
      pending = removed;
    }
    by_transfer one (Some t) = record {
      mine = sound.mine;
      whose = sound.whose;
      space = sound.space;
      roomy = sound.roomy;
      numbers = sound.numbers;
      arrived = sound.arrived;
      looked = sound.looked;
      pending = removed;
    }

    by_access : (o : Option PendingAccess) → IsSoundRank script delay rank
        (option_map_or (with_delivery stage agent cells at) o (record { agent = agent; cells = cells })).agent rows
    by_access None = sound
    by_access (Some one) = by_transfer one (transfer_at (calls_at stage agent.rank) one.number)

pub step_sound : (script : Script) (delay : Delay) (rank : ℕ) (agent : Agent) (rows : List Row) (cells : List Cell) →
    IsSoundRank script delay rank agent rows →
    IsSoundRank script delay rank (data_step (stage_of script delay) agent cells).agent rows
step_sound script delay rank agent rows cells sound = by_delivery move.delivers
  where
    stage : Stage
    stage = stage_of script delay

    move : Move
    move = move_of stage agent

    by_delivery : (o : Option ℕ) → IsSoundRank script delay rank
        (option_map_or (deliver stage move.agent cells) o (record { agent = move.agent; cells = cells })).agent rows
    by_delivery None = move_sound script delay rank agent rows sound
    by_delivery (Some at) = delivery_sound script delay rank move.agent rows cells at
        (move_sound script delay rank agent rows sound)
