-- What a step of a rank at the board does: nothing, one entry or look, or the Arrive of a collective and then its
-- Leave.
use Rattle.std.proofs.Common.{◌≡◌, ◌+◌, Bool, true, false, cond, not, List, [], ◌∷◌, ◌++◌, length, Option, Some}
use Rattle.std.proofs.Common.{None, refl, sym, ◌∙◌, ap, subst}
use Rattle.std.specs.Prelude.{◌&&◌, is_none}
use Rattle.std.specs.Option.{option_map_or}
use Rattle.std.proofs.lemmas.Bool.{and_parts}
use Rattle.rma_types.specs.declared.accesses.Step.{Step}
use Rattle.rma_types.specs.declared.accesses.Step.TheVariants.{Arrive, Leave, One}
use Rattle.rma_types.specs.declared.calls.Call.{Call}
use Rattle.rma_types.specs.declared.classes.Class.{Class}
use Rattle.rma_types.proofs.ClassLaws.{none_is}
use Rattle.rma_record.specs.declared.items.Item.{Item}
use Rattle.rma_record.specs.declared.items.Item.TheVariants.{Entry, Tested, Refused}
use Rattle.rank_rules.proofs.KnowledgeLaws.{learns_nothing}
use Rattle.board_rules.specs.Board.{Decision, Refuse, Allow, NotYet, decide}
use Rattle.board_rules.specs.Entries.{Row}
use Rattle.board_rules.specs.Questions.{question}
use Rattle.board_rules.specs.Rounds.{all_arrived}
use Rattle.rma_types.specs.Actions.{transfer_of}
use Rattle.board_rules.proofs.DecisionLaws.{never_refused}
use Rattle.lawful_runs.specs.Stages.{Stage, calls_at, shapes_in}
use Rattle.rank_rules.specs.Courses.{Course, OneNull, OneIssue, LookUpAndIssue, OneFlush, OneRequest, ArriveAndLeave}
use Rattle.rank_rules.specs.Courses.{EntryOrTested, OneEntry, course_of, has_entry}
use Rattle.rank_rules.specs.Knowledge.{Knowledge, own_class, ends_call}
use Rattle.rank_rules.specs.Windows.{RankWindows}
use Rattle.step_runs.specs.Agents.{Agent, next_call, keep_item, end_call, enter_call, must_draw, awaited_by}
use Rattle.step_runs.specs.Agents.{begins_with_entry}
use Rattle.step_runs.specs.Agents.{tries_entry}
use Rattle.step_runs.specs.BoardSteps.{AtBoard, next_row, stay_waiting, put_entry, refuse_entry, turn_away, enter_by}
use Rattle.step_runs.specs.BoardSteps.{enter}
use Rattle.step_runs.specs.BoardSteps.{test_by, test, leave, leave_if_entered, arrive, first_entry, entry_of}
use Rattle.step_runs.specs.BoardSteps.{board_step}
use Rattle.step_laws.proofs.OwnTests.{HasIssue, transfer_with_issue}

-- a call of two parts: a collective call, or an RMA call on a dynamic window
abbrev pub IsTwofold : Course → Type 0
IsTwofold OneNull = ⊥
IsTwofold OneIssue = ⊥
IsTwofold LookUpAndIssue = Unit {0}
IsTwofold OneFlush = ⊥
IsTwofold OneRequest = ⊥
IsTwofold ArriveAndLeave = Unit {0}
IsTwofold EntryOrTested = ⊥
IsTwofold OneEntry = ⊥

-- a call of one entry
abbrev pub IsOneEntry : Course → Type 0
IsOneEntry OneNull = ⊥
IsOneEntry OneIssue = ⊥
IsOneEntry LookUpAndIssue = ⊥
IsOneEntry OneFlush = ⊥
IsOneEntry OneRequest = ⊥
IsOneEntry ArriveAndLeave = ⊥
IsOneEntry EntryOrTested = Unit {0}
IsOneEntry OneEntry = Unit {0}

-- the rank itself does not refuse a call of which the first part is done
pub record IsBegun (agent : Agent) (call : Call) : Type 0 where
  pub allowed : own_class agent.known call ≡ None
  pub twofold : IsTwofold (course_of agent.known.windows call)

abbrev pub HasBegun : Stage → Agent → Type 0
HasBegun stage agent = agent.entered ≡ true → (call : Call) → next_call stage agent ≡ Some call → IsBegun agent call

-- the rank's next entry is of this call, which its rank does not refuse, and the board allows it
pub record IsAllowedEntry (stage : Stage) (agent : Agent) (rows : List Row) (call : Call) (step : Step) : Type 0 where
  pub here : next_call stage agent ≡ Some call
  pub own : own_class agent.known call ≡ None
  pub allowed : decide stage.script.ranks rows (next_row agent call step) ≡ Allow

-- the rank keeps the entry
abbrev pub with_entry : Stage → Agent → List Row → Call → Step → Agent
with_entry stage agent rows call step =
    keep_item (shapes_in stage (rows ++ next_row agent call step ∷ [])) stage agent (Entry agent.at (length rows) step)

-- a refusal by the board, or a false test
pub data IsTurnedAway (agent : Agent) (rows : List Row) (item : Item) : Type 0 where
  ByRefusal : (class : Class) → item ≡ Refused agent.at class (length rows) → IsTurnedAway agent rows item
  ByTest : item ≡ Tested agent.at (length rows) → IsTurnedAway agent rows item

-- the rows with the rank's entry
abbrev pub with_row : Agent → List Row → Call → Step → List Row
with_row agent rows call step = rows ++ next_row agent call step ∷ []

-- one move of a rank at the board: it is turned away, it arrives at a collective call or looks up where an RMA call
-- goes, it leaves the collective call, or it puts the only entry of a call
pub data EntryMove (stage : Stage) (agent : Agent) (rows : List Row) (next : Agent) (now : List Row) : Type 0 where
  TurnsAway : (call : Call) (item : Item) → next_call stage agent ≡ Some call → agent.entered ≡ false →
      IsTurnedAway agent rows item →
      next ≡ end_call (keep_item (shapes_in stage rows) stage agent item) → now ≡ rows →
      EntryMove stage agent rows next now
  Arrives : (call : Call) → IsAllowedEntry stage agent rows call Arrive → agent.entered ≡ false →
      course_of agent.known.windows call ≡ ArriveAndLeave →
      next ≡ enter_call (with_entry stage agent rows call Arrive) → now ≡ with_row agent rows call Arrive →
      EntryMove stage agent rows next now
  LooksUp : (call : Call) → IsAllowedEntry stage agent rows call One → agent.entered ≡ false →
      course_of agent.known.windows call ≡ LookUpAndIssue →
      next ≡ enter_call (with_entry stage agent rows call One) → now ≡ with_row agent rows call One →
      EntryMove stage agent rows next now
  Leaves : (call : Call) → IsAllowedEntry stage agent rows call Leave → agent.entered ≡ true →
      course_of agent.known.windows call ≡ ArriveAndLeave →
      next ≡ end_call (with_entry stage agent rows call Leave) → now ≡ with_row agent rows call Leave →
      EntryMove stage agent rows next now
  EntersOnce : (call : Call) → IsAllowedEntry stage agent rows call One → agent.entered ≡ false →
      IsOneEntry (course_of agent.known.windows call) →
      next ≡ end_call (with_entry stage agent rows call One) → now ≡ with_row agent rows call One →
      EntryMove stage agent rows next now

-- a step of a rank at the board: no move, one, or two
pub data EntryMoves (stage : Stage) (agent : Agent) (rows : List Row) (next : Agent) (now : List Row) : Type 0 where
  Stays : next ≡ agent → now ≡ rows → EntryMoves stage agent rows next now
  OneMove : EntryMove stage agent rows next now → EntryMoves stage agent rows next now
  TwoMoves : (middle : Agent) (between : List Row) → EntryMove stage agent rows middle between →
      EntryMove stage middle between next now →
      EntryMoves stage agent rows next now

abbrev pub IsMovedTo : Stage → Agent → List Row → AtBoard → Type 0
IsMovedTo stage agent rows step = EntryMoves stage agent rows step.agent step.rows

-- ---- what an entry teaches

-- a look-up does not end its call
pub look_up_opens : (known : RankWindows) (call : Call) → course_of known call ≡ LookUpAndIssue →
    ends_call One call ≡ false
look_up_opens known call is = let t = transfer_with_issue known call (subst HasIssue (sym is) tt) in ap is_none t.1

pub known_stays : (stage : Stage) (agent : Agent) (rows : List Row) (call : Call) (step : Step) →
    next_call stage agent ≡ Some call → ends_call step call ≡ false →
    (with_entry stage agent rows call step).known ≡ agent.known
known_stays stage agent rows call step here opens =
    learns_nothing (shapes_in stage (rows ++ next_row agent call step ∷ [])) (calls_at stage agent.rank) agent.known
    agent.at (length rows) step call here opens

-- ---- the step

leave_moves : (d : Decision) (stage : Stage) (agent : Agent) (rows : List Row) (call : Call) →
    decide stage.script.ranks rows (next_row agent call Leave) ≡ d →
    next_call stage agent ≡ Some call → agent.entered ≡ true → own_class agent.known call ≡ None →
    course_of agent.known.windows call ≡ ArriveAndLeave →
    IsMovedTo stage agent rows (enter_by d stage agent rows call Leave end_call)
leave_moves (Refuse class) stage agent rows call is here inside own course = absurd
    (never_refused (all_arrived (question stage.script.ranks rows (next_row agent call Leave))) class is)
leave_moves Allow stage agent rows call is here inside own course = OneMove
    (Leaves call (record { here = here; own = own; allowed = is }) inside course refl refl)
leave_moves NotYet stage agent rows call is here inside own course = Stays refl refl

arrive_moves : (d : Decision) (stage : Stage) (agent : Agent) (rows : List Row) (call : Call) →
    decide stage.script.ranks rows (next_row agent call Arrive) ≡ d →
    next_call stage agent ≡ Some call → agent.entered ≡ false → own_class agent.known call ≡ None →
    course_of agent.known.windows call ≡ ArriveAndLeave →
    IsMovedTo stage agent rows (leave_if_entered stage call (enter_by d stage agent rows call Arrive enter_call))
arrive_moves (Refuse class) stage agent rows call is here new own course = OneMove
    (TurnsAway call (Refused agent.at class (length rows)) here new (ByRefusal class refl) refl refl)
arrive_moves Allow stage agent rows call is here new own course = by_leave
    (decide stage.script.ranks now (next_row middle call Leave)) refl
  where
    now : List Row
    now = rows ++ next_row agent call Arrive ∷ []

    middle : Agent
    middle = enter_call (with_entry stage agent rows call Arrive)

    first : EntryMove stage agent rows middle now
    first = Arrives call (record { here = here; own = own; allowed = is }) new course refl refl

    same : middle.known ≡ agent.known
    same = known_stays stage agent rows call Arrive here refl

    by_leave : (d : Decision) → decide stage.script.ranks now (next_row middle call Leave) ≡ d →
        IsMovedTo stage agent rows (enter_by d stage middle now call Leave end_call)
    by_leave (Refuse class) e = absurd
        (never_refused (all_arrived (question stage.script.ranks now (next_row middle call Leave))) class e)
    by_leave Allow e = TwoMoves middle now first (Leaves call
        (record { here = here; own = ap (λ (k : Knowledge). own_class k call) same ∙ own; allowed = e }) refl
        (ap (λ (k : Knowledge). course_of k.windows call) same ∙ course) refl refl)
    by_leave NotYet e = OneMove first
arrive_moves NotYet stage agent rows call is here new own course =
    subst (IsMovedTo stage agent rows) (sym (ap (λ b. cond b (leave stage agent rows call) (stay_waiting agent rows))
    new))
    (Stays refl refl)

test_moves : (d : Decision) (stage : Stage) (agent : Agent) (rows : List Row) (call : Call) →
    decide stage.script.ranks rows (next_row agent call One) ≡ d →
    next_call stage agent ≡ Some call → agent.entered ≡ false → own_class agent.known call ≡ None →
    IsOneEntry (course_of agent.known.windows call) →
    IsMovedTo stage agent rows (test_by d stage agent rows call)
test_moves (Refuse class) stage agent rows call is here new own course = OneMove
    (TurnsAway call (Refused agent.at class (length rows)) here new (ByRefusal class refl) refl refl)
test_moves Allow stage agent rows call is here new own course = OneMove
    (EntersOnce call (record { here = here; own = own; allowed = is }) new course refl refl)
test_moves NotYet stage agent rows call is here new own course = OneMove
    (TurnsAway call (Tested agent.at (length rows)) here new (ByTest refl) refl refl)

once_moves : (d : Decision) (stage : Stage) (agent : Agent) (rows : List Row) (call : Call) →
    decide stage.script.ranks rows (next_row agent call One) ≡ d →
    next_call stage agent ≡ Some call → agent.entered ≡ false → own_class agent.known call ≡ None →
    IsOneEntry (course_of agent.known.windows call) →
    IsMovedTo stage agent rows (enter_by d stage agent rows call One end_call)
once_moves (Refuse class) stage agent rows call is here new own course = OneMove
    (TurnsAway call (Refused agent.at class (length rows)) here new (ByRefusal class refl) refl refl)
once_moves Allow stage agent rows call is here new own course = OneMove
    (EntersOnce call (record { here = here; own = own; allowed = is }) new course refl refl)
once_moves NotYet stage agent rows call is here new own course = Stays refl refl

look_moves : (d : Decision) (stage : Stage) (agent : Agent) (rows : List Row) (call : Call) →
    decide stage.script.ranks rows (next_row agent call One) ≡ d →
    next_call stage agent ≡ Some call → agent.entered ≡ false → own_class agent.known call ≡ None →
    course_of agent.known.windows call ≡ LookUpAndIssue →
    IsMovedTo stage agent rows (enter_by d stage agent rows call One enter_call)
look_moves (Refuse class) stage agent rows call is here new own course = OneMove
    (TurnsAway call (Refused agent.at class (length rows)) here new (ByRefusal class refl) refl refl)
look_moves Allow stage agent rows call is here new own course = OneMove
    (LooksUp call (record { here = here; own = own; allowed = is }) new course refl refl)
look_moves NotYet stage agent rows call is here new own course = Stays refl refl

first_moves : (course : Course) (stage : Stage) (agent : Agent) (rows : List Row) (call : Call) →
    course_of agent.known.windows call ≡ course →
    next_call stage agent ≡ Some call → agent.entered ≡ false → own_class agent.known call ≡ None →
    IsMovedTo stage agent rows (first_entry course stage agent rows call)
first_moves OneNull stage agent rows call course here new own = Stays refl refl
first_moves OneIssue stage agent rows call course here new own = Stays refl refl
first_moves LookUpAndIssue stage agent rows call course here new own =
    look_moves (decide stage.script.ranks rows (next_row agent call One)) stage agent rows call refl here new own course
first_moves OneFlush stage agent rows call course here new own = Stays refl refl
first_moves OneRequest stage agent rows call course here new own = Stays refl refl
first_moves ArriveAndLeave stage agent rows call course here new own =
    arrive_moves (decide stage.script.ranks rows (next_row agent call Arrive)) stage agent rows call refl here new own
    course
first_moves EntryOrTested stage agent rows call course here new own =
    test_moves (decide stage.script.ranks rows (next_row agent call One)) stage agent rows call refl here new own
    (subst IsOneEntry (sym course) tt)
first_moves OneEntry stage agent rows call course here new own =
    once_moves (decide stage.script.ranks rows (next_row agent call One)) stage agent rows call refl here new own
    (subst IsOneEntry (sym course) tt)

-- a call of two parts that moves no data is collective
is_collective_call : (course : Course) → IsTwofold course → (HasIssue course → ⊥) → course ≡ ArriveAndLeave
is_collective_call OneNull h n = absurd h
is_collective_call OneIssue h n = absurd h
is_collective_call LookUpAndIssue h n = absurd (n tt)
is_collective_call OneFlush h n = absurd h
is_collective_call OneRequest h n = absurd h
is_collective_call ArriveAndLeave h n = refl
is_collective_call EntryOrTested h n = absurd h
is_collective_call OneEntry h n = absurd h

no_issue_of : (known : RankWindows) (call : Call) → is_none (transfer_of call) ≡ true →
    HasIssue (course_of known call) → ⊥
no_issue_of known call none h = let t = transfer_with_issue known call h in absurd (cc (none, ap is_none t.1))

entry_moves : (stage : Stage) (agent : Agent) (rows : List Row) (call : Call) → HasBegun stage agent →
    next_call stage agent ≡ Some call →
    cond agent.entered (is_none (transfer_of call)) (begins_with_entry stage agent call) ≡ true →
    IsMovedTo stage agent rows (entry_of stage agent rows call)
entry_moves stage agent rows call begun here tries = by_entered agent.entered refl tries
  where
    by_entered : (b : Bool) → agent.entered ≡ b → cond b (is_none (transfer_of call))
        (begins_with_entry stage agent call) ≡ true →
        IsMovedTo stage agent rows
        (cond b (leave stage agent rows call)
        (first_entry (course_of agent.known.windows call) stage agent rows call))
    by_entered true e t =
        let one = begun e call here in
        leave_moves (decide stage.script.ranks rows (next_row agent call Leave)) stage agent rows call refl here e
        one.allowed
        (is_collective_call (course_of agent.known.windows call) one.twofold (no_issue_of agent.known.windows call t))
    by_entered false e t =
        let most = and_parts (not (must_draw stage agent) && is_none (own_class agent.known call) && is_none
        (awaited_by agent call)) (has_entry (course_of agent.known.windows call)) t in
        let some = and_parts (not (must_draw stage agent) && is_none (own_class agent.known call))
        (is_none (awaited_by agent call)) most.0 in
        let own = and_parts (not (must_draw stage agent)) (is_none (own_class agent.known call)) some.0 in
        first_moves (course_of agent.known.windows call) stage agent rows call refl here e
        (none_is (own_class agent.known call) own.1)

pub board_step_moves : (stage : Stage) (agent : Agent) (rows : List Row) → HasBegun stage agent →
    tries_entry stage agent ≡ true → IsMovedTo stage agent rows (board_step stage agent rows)
board_step_moves stage agent rows begun tries = by_call (next_call stage agent) refl tries
  where
    by_call : (o : Option Call) → next_call stage agent ≡ o →
        option_map_or (λ call. cond agent.entered (is_none (transfer_of call)) (begins_with_entry stage agent call)) o
        false ≡ true →
        IsMovedTo stage agent rows (option_map_or (entry_of stage agent rows) o (stay_waiting agent rows))
    by_call None e t = Stays refl refl
    by_call (Some call) e t = entry_moves stage agent rows call begun e t

-- ---- what every move keeps

-- what each move keeps, a step at the board keeps
pub moves_keep : (stage : Stage) (P : Agent → List Row → Type 0) →
    ((agent next : Agent) (rows now : List Row) → P agent rows → EntryMove stage agent rows next now → P next now) →
    (agent next : Agent) (rows now : List Row) → P agent rows → EntryMoves stage agent rows next now → P next now
moves_keep stage P keeps agent next rows now old (Stays same still) = subst (λ (a : Agent). P a now) (sym same)
    (subst (P agent) (sym still) old)
moves_keep stage P keeps agent next rows now old (OneMove move) = keeps agent next rows now old move
moves_keep stage P keeps agent next rows now old (TwoMoves middle between first second) =
    keeps middle next between now (keeps agent middle rows between old first) second

-- a call of two parts is begun
begun_with : (stage : Stage) (agent : Agent) (rows : List Row) (call : Call) (step : Step) →
    IsAllowedEntry stage agent rows call step → ends_call step call ≡ false →
    IsTwofold (course_of agent.known.windows call) → HasBegun stage (enter_call (with_entry stage agent rows call step))
begun_with stage agent rows call step entry opens course e other here =
    let same = known_stays stage agent rows call step entry.here opens in
    let is : call ≡ other = cc (entry.here, here) in
    subst (IsBegun (enter_call (with_entry stage agent rows call step))) is (record {
      allowed = ap (λ (k : Knowledge). own_class k call) same ∙ entry.own;
      twofold = subst IsTwofold (sym (ap (λ (k : Knowledge). course_of k.windows call) same)) course;
    })

-- no call is begun where the last one is finished
none_begun : (stage : Stage) (agent next : Agent) → next ≡ end_call agent → HasBegun stage next
none_begun stage agent next is e = absurd (cc (e, ap (λ (a : Agent). a.entered) is))

pub begun_kept : (stage : Stage) (agent next : Agent) (rows now : List Row) → EntryMove stage agent rows next now →
    HasBegun stage next
begun_kept stage agent next rows now (TurnsAway call item here new away is still) = none_begun stage
    (keep_item (shapes_in stage rows) stage agent item) next is
begun_kept stage agent next rows now (Arrives call entry new course is more) =
    subst (HasBegun stage) (sym is)
    (begun_with stage agent rows call Arrive entry refl (subst IsTwofold (sym course) tt))
begun_kept stage agent next rows now (LooksUp call entry new course is more) =
    subst (HasBegun stage) (sym is)
    (begun_with stage agent rows call One entry (look_up_opens agent.known.windows call course)
    (subst IsTwofold (sym course) tt))
begun_kept stage agent next rows now (Leaves call entry inside course is more) = none_begun stage
    (with_entry stage agent rows call Leave) next is
begun_kept stage agent next rows now (EntersOnce call entry new course is more) = none_begun stage
    (with_entry stage agent rows call One) next is
