-- Steps of a rank at the board that are made of two parts: an Arrive and its Leave, and a false test.
use Rattle.std.proofs.Common.{◌≡◌, ℕ, ◌+◌, ◌<◌, ◌≤◌, Result, Ok, Err, true, false, List, [], ◌∷◌, ◌++◌, length, drop}
use Rattle.std.proofs.Common.{Option, Some, None, refl, sym, ◌∙◌, ap, subst, arith, length-append}
use Rattle.std.specs.Prelude.{is_some, map, IfOk}
use Rattle.std.specs.List.{AllByRecursion}
use Rattle.std.specs.Option.{option_map_or}
use Rattle.std.proofs.lemmas.List.{append-nil}
use Rattle.std.proofs.Math.Seq.{drop-append_seam}
use Rattle.rma_types.specs.declared.accesses.Step.TheVariants.{Arrive, Leave, One}
use Rattle.rma_types.specs.declared.calls.Call.{Call}
use Rattle.rma_record.specs.declared.items.Item.{Item}
use Rattle.rma_record.specs.declared.items.Item.TheVariants.{Tested}
use Rattle.rank_rules.proofs.KnowledgeLaws.{learns_nothing}
use Rattle.board_rules.specs.Board.{Decision, Refuse, Allow, NotYet as NotYetDecided, decide}
use Rattle.board_rules.specs.Entries.{Collective, Row, collective_in, collective_of}
use Rattle.board_rules.specs.Entries.{is_same_collective}
use Rattle.rma_types.specs.declared.actions.Action.{Action}
use Rattle.rma_types.specs.declared.actions.Action.TheVariants.{Creates, Frees, Attaches, Detaches, Synchronises, Meets}
use Rattle.rma_types.specs.declared.actions.Action.TheVariants.{Moves, EndsRequest}
use Rattle.rma_types.specs.declared.actions.Synchronisation.TheVariants.{Fences, Posts, Starts, Completes, Waits, Locks}
use Rattle.rma_types.specs.declared.actions.Synchronisation.TheVariants.{Unlocks, Flushes, Syncs}
use Rattle.rma_types.specs.Actions.{action_of, synchronisation_in}
use Rattle.board_rules.proofs.CollectiveLaws.{collective_same}
use Rattle.cell_face.specs.Faces.{Face}
use Rattle.kept_rows.proofs.KeptActs.{collective_whole}
use Rattle.rma_types.specs.KeptCalls.{kept_call}
use Rattle.kept_rows.specs.KeptCalls.{kept_row}
use Rattle.lawful_runs.specs.Stages.{Stage, calls_at, shapes_in}
use Rattle.rank_rules.specs.Knowledge.{Knowledge, own_class}
use Rattle.rank_rules.specs.Courses.{ArriveAndLeave, course_of}
use Rattle.step_runs.specs.Agents.{Agent, end_call, next_call, enter_call}
use Rattle.step_runs.specs.BoardSteps.{AtBoard, next_row, stay_waiting, put_entry, turn_away, enter_by, enter, test_by}
use Rattle.step_runs.specs.BoardSteps.{test}
use Rattle.step_runs.specs.BoardSteps.{leave, leave_if_entered, arrive}
use Rattle.step_runs.specs.DataSteps.{with_item, without_delivery}
use Rattle.sync_board.specs.Boards.{BoardState, rows_on}
use Rattle.rank_engine.proofs.Asked.{collective_call}
use Rattle.rank_engine.proofs.Ended.{no_row}
use Rattle.rank_engine.proofs.EntrySteps.{ahead_less, as_many, item_moved}
use Rattle.rank_engine.specs.BoardAnswers.{gives, hands_on}
use Rattle.rank_engine.specs.Entering.{IsClosing, IsReady, IsTurn, StepsTo}
use Rattle.rank_engine.specs.Moves.{IsMove}
use Rattle.rank_engine.specs.RankStates.{RankState, AreOwnRows}
use Rattle.rank_engine.specs.declared.answers.Turned.{Turned}
use Rattle.rank_engine.specs.declared.answers.Turned.TheVariants.{Did, NotYet}
use Rattle.rank_engine.proofs.ThenSteps.{then_steps}

all_dropped : {X : Type 0} (xs : List X) → drop (length xs) xs ≡ []
all_dropped [] = refl
all_dropped (x ∷ xs) = all_dropped xs

-- ---- an Arrive and its Leave

collective_gives : (a : Action) → is_some (collective_in a) ≡ true →
    option_map_or hands_on (synchronisation_in a) false ≡ false
collective_gives (Creates creation) e = refl
collective_gives (Frees win) e = refl
collective_gives (Attaches win base bytes) e = refl
collective_gives (Detaches win base) e = refl
collective_gives (Synchronises win (Fences asserts)) e = refl
collective_gives (Synchronises win (Posts group asserts)) e = absurd (cc e)
collective_gives (Synchronises win (Starts group asserts)) e = refl
collective_gives (Synchronises win Completes) e = absurd (cc e)
collective_gives (Synchronises win (Waits tests)) e = refl
collective_gives (Synchronises win (Locks kind target asserts)) e = refl
collective_gives (Synchronises win (Unlocks target)) e = absurd (cc e)
collective_gives (Synchronises win (Flushes target local)) e = refl
collective_gives (Synchronises win Syncs) e = refl
collective_gives Meets e = refl
collective_gives (Moves t) e = refl
collective_gives (EndsRequest req) e = refl

-- the board keeps a collective call whole
kept_whole : (call : Call) → is_some (collective_of call) ≡ true → kept_call call ≡ call
kept_whole call some = by_collective (collective_of call) refl some
  where
    by_collective : (o : Option Collective) → collective_of call ≡ o → is_some o ≡ true → kept_call call ≡ call
    by_collective None e h = absurd (cc h)
    by_collective (Some c) e h = collective_whole c call
        (ap (λ o. option_map_or (is_same_collective c) o false) e ∙ collective_same c)

-- a Leave gives no token
pub leave_grows : (d : Decision) (stage : Stage) (agent : Agent) (rows : List Row) (call : Call) →
    is_some (collective_of call) ≡ true →
    (more : List Row) × ((enter_by d stage agent rows call Leave end_call).rows ≡ rows ++ more)
    × AllByRecursion (λ (r : Row). gives r.step r.call ≡ false) (map kept_row more)
leave_grows (Refuse class) stage agent rows call some = ([], sym (append-nil rows), tt)
leave_grows Allow stage agent rows call some = (
  next_row agent call Leave ∷ [],
  refl,
  (ap (λ c. gives Leave c) (kept_whole call some) ∙ collective_gives (action_of call) some, tt),
)
leave_grows NotYetDecided stage agent rows call some = ([], sym (append-nil rows), tt)

-- an Arrive after which the call is begun was put
arrive_allowed : (d : Decision) (stage : Stage) (agent : Agent) (rows : List Row) (call : Call) →
    agent.entered ≡ false →
    (enter_by d stage agent rows call Arrive enter_call).agent.entered ≡ true → d ≡ Allow
arrive_allowed (Refuse class) stage agent rows call new e = absurd (cc e)
arrive_allowed Allow stage agent rows call new e = refl
arrive_allowed NotYetDecided stage agent rows call new e = absurd (cc (new, e))

-- what holds after an Arrive that was put
pub record HasArrived (s between : RankState) (call : Call) (board board_between : BoardState)
    (face face_between : Face) : Type 0 where
  pub steps : StepsTo (put_entry s.stage s.agent (rows_on board) call Arrive enter_call) s between board board_between
      face
      face_between
  pub few : length between.agent.log ≤ length s.agent.log + 1
  pub above : s.free ≤ between.free + 1
  pub to : enter s.stage s.agent (rows_on board) call Arrive enter_call
      ≡ put_entry s.stage s.agent (rows_on board) call Arrive enter_call
  pub whole : is_some (collective_of call) ≡ true

pub has_arrived : (turned : Turned) (s between : RankState) (call : Call) (board board_between : BoardState)
    (face face_between : Face) → IsReady s call board face → s.agent.entered ≡ false →
    course_of s.agent.known.windows call ≡ ArriveAndLeave →
    IsTurn turned 1 (enter s.stage s.agent (rows_on board) call Arrive enter_call) s between board board_between face
    face_between →
    between.agent.entered ≡ true → HasArrived s between call board board_between face face_between
has_arrived turned s between call board board_between face face_between ready new course one begun = record {
  steps = subst (λ t. StepsTo t s between board board_between face face_between) to one.steps;
  few = one.few;
  above = one.above;
  to = to;
  whole = collective_call s.agent.known.windows call course;
}
  where
    to : enter s.stage s.agent (rows_on board) call Arrive enter_call
        ≡ put_entry s.stage s.agent (rows_on board) call Arrive enter_call
    to = ap (λ d. enter_by d s.stage s.agent (rows_on board) call Arrive enter_call)
        (arrive_allowed (decide s.stage.script.ranks (rows_on board) (next_row s.agent call Arrive)) s.stage s.agent
        (rows_on board) call new (sym (ap (λ (x : RankState). x.agent.entered) one.steps.rank) ∙ begun))

-- the rows are those of the board
pub arrived_rows : (s between : RankState) (call : Call) (board board_between : BoardState) (face face_between : Face) →
    HasArrived s between call board board_between face face_between →
    rows_on board ++ next_row s.agent call Arrive ∷ [] ≡ rows_on board_between
arrived_rows s between call board board_between face face_between h =
    sym (h.steps.rows
    ∙ (ap (λ l. rows_on board ++ map kept_row l) dropped
    ∙ ap (λ c. rows_on board ++ record { rank = s.agent.rank; number = s.agent.at; call = c; step = Arrive } ∷ [])
    (kept_whole call h.whole)))
  where
    dropped : drop (length board.entries) (rows_on board ++ next_row s.agent call Arrive ∷ [])
        ≡ next_row s.agent call Arrive ∷ []
    dropped =
        ap (λ n. drop n (rows_on board ++ next_row s.agent call Arrive ∷ [])) (sym (as_many board))
        ∙ drop-append_seam (rows_on board) (next_row s.agent call Arrive ∷ [])

-- the Leave may be asked of the board
pub still_ready : (s between : RankState) (call : Call) (board board_between : BoardState) (face face_between : Face) →
    IsReady s call board face → 2 ≤ s.free → HasArrived s between call board board_between face face_between →
    IsReady between call board_between face_between
still_ready s between call board board_between face face_between ready free h = record {
  here = ap (λ (x : RankState). next_call x.stage x.agent) is ∙ ready.here;
  own = ap (λ (x : RankState). own_class x.agent.known call) is ∙ (ap (λ k. own_class k call) learnt ∙ ready.own);
  closed = ap (λ (x : RankState). x.opened) is ∙ ready.closed;
  within = subst (λ n. n < 65536) (sym (ap (λ (x : RankState). x.agent.at) is)) ready.within;
  written = ready.written;
  board_is = record {
    ranks = ap (λ (b : BoardState). b.ranks) h.steps.entries
        ∙ (ready.board_is.ranks ∙ sym (ap (λ (x : RankState). x.stage.script.ranks) is));
    layout = ap (λ (b : BoardState). b.layout) h.steps.entries
        ∙ (ready.board_is.layout ∙ sym (ap (λ (x : RankState). x.stage.layout) is));
    rows = h.steps.own;
    name = ap (λ (b : BoardState). b.name) h.steps.entries
        ∙ (ready.board_is.name ∙ sym h.steps.handed.unwritten.stays.name);
  };
  free = let above = h.above in omega arith;
}
  where
    is : between ≡ record s {
      agent = (put_entry s.stage s.agent (rows_on board) call Arrive enter_call).agent;
      free = between.free;
    }
    is = h.steps.rank

    learnt : (put_entry s.stage s.agent (rows_on board) call Arrive enter_call).agent.known ≡ s.agent.known
    learnt = learns_nothing (shapes_in s.stage (rows_on board ++ next_row s.agent call Arrive ∷ []))
        (calls_at s.stage s.agent.rank) s.agent.known s.agent.at (length (rows_on board)) Arrive call ready.here refl

-- its course is still that of a collective call
pub still_closes : (s between : RankState) (call : Call) (board board_between : BoardState) (face face_between : Face) →
    IsReady s call board face → course_of s.agent.known.windows call ≡ ArriveAndLeave →
    HasArrived s between call board board_between face face_between → between.agent.entered ≡ true →
    IsClosing Leave between.agent.entered (course_of between.agent.known.windows call)
still_closes s between call board board_between face face_between ready course h begun = (
  begun,
  ap (λ (x : RankState). course_of x.agent.known.windows call) h.steps.rank
      ∙ (ap (λ (k : Knowledge). course_of k.windows call)
      (learns_nothing (shapes_in s.stage (rows_on board ++ next_row s.agent call Arrive ∷ []))
      (calls_at s.stage s.agent.rank) s.agent.known s.agent.at (length (rows_on board)) Arrive call ready.here refl)
      ∙ course),
)

pub left_turn : (turned : Turned) (s between after : RankState) (call : Call)
    (board board_between board_after : BoardState)
    (face face_between face_after : Face) → HasArrived s between call board board_between face face_between →
    IsTurn turned 1 (enter between.stage between.agent (rows_on board_between) call Leave end_call) between after
    board_between board_after face_between face_after →
    IsTurn turned 2 (arrive s.stage s.agent (rows_on board) call) s after board board_after face face_after
left_turn turned s between after call board board_between board_after face face_between face_after h two =
    subst (λ t. IsTurn turned 2 t s after board board_after face face_after) (sym is_leave) (record {
      says = at.says;
      steps = then_steps first second s between after board board_between board_after face face_between face_after
          grown.0
          h.steps at.steps rows grown.1 (ap (λ (x : RankState). x.agent.rank) h.steps.rank) grown.2;
      few = let one = h.few in let last = at.few in omega arith;
      above = let one = h.above in let last = at.above in omega arith;
    })
  where
    first : AtBoard
    first = put_entry s.stage s.agent (rows_on board) call Arrive enter_call

    second : AtBoard
    second = leave s.stage (put_entry s.stage s.agent (rows_on board) call Arrive enter_call).agent
        (rows_on board ++ next_row s.agent call Arrive ∷ []) call

    rows : rows_on board ++ next_row s.agent call Arrive ∷ [] ≡ rows_on board_between
    rows = arrived_rows s between call board board_between face face_between h

    is_leave : arrive s.stage s.agent (rows_on board) call
        ≡ leave s.stage (put_entry s.stage s.agent (rows_on board) call Arrive enter_call).agent
        (rows_on board ++ next_row s.agent call Arrive ∷ []) call
    is_leave = ap (λ (t : AtBoard). leave_if_entered s.stage call t) h.to

    at : IsTurn turned 1 (leave s.stage (put_entry s.stage s.agent (rows_on board) call Arrive enter_call).agent
        (rows_on board ++ next_row s.agent call Arrive ∷ []) call) between after board_between board_after face_between
        face_after
    at =
        subst (λ l. IsTurn turned 1 (enter s.stage (put_entry s.stage s.agent
        (rows_on board) call Arrive enter_call).agent l call
        Leave end_call) between after board_between board_after face_between face_after) (sym rows)
        (subst (λ (x : RankState). IsTurn turned 1 (enter x.stage x.agent (rows_on board_between) call Leave end_call)
        between after board_between board_after face_between face_after) h.steps.rank two)

    grown : (more : List Row) × (second.rows ≡ first.rows ++ more)
        × AllByRecursion (λ (r : Row). gives r.step r.call ≡ false) (map kept_row more)
    grown = leave_grows (decide s.stage.script.ranks (rows_on board ++ next_row s.agent call Arrive ∷ [])
        (next_row (put_entry s.stage s.agent (rows_on board) call Arrive enter_call).agent call Leave)) s.stage
        (put_entry s.stage s.agent (rows_on board) call Arrive enter_call).agent
        (rows_on board ++ next_row s.agent call Arrive ∷ []) call h.whole

-- ---- a false test

waits_only : (d : Decision) (stage : Stage) (agent : Agent) (rows : List Row) (call : Call) →
    (enter_by d stage agent rows call One end_call).waits ≡ true → d ≡ NotYetDecided
waits_only (Refuse class) stage agent rows call e = absurd (cc e)
waits_only Allow stage agent rows call e = absurd (cc e)
waits_only NotYetDecided stage agent rows call e = refl

pub waits_there : (s between : RankState) (call : Call) (board board_between : BoardState) (face face_between : Face) →
    IsTurn NotYet 1 (enter s.stage s.agent (rows_on board) call One end_call) s between board board_between face
    face_between → between ≡ record s { free = between.free }
waits_there s between call board board_between face face_between one =
    one.steps.rank
    ∙ ap (λ d. record s {
      agent = (enter_by d s.stage s.agent
          (rows_on board) call One end_call).agent;
      free = between.free;
    })
    (waits_only (decide s.stage.script.ranks (rows_on board) (next_row s.agent call One)) s.stage s.agent
    (rows_on board)
    call one.says)

pub tested_turn : (s between after : RankState) (call : Call) (seen : ℕ) (board board_between : BoardState)
    (face face_between : Face) →
    IsTurn NotYet 1 (enter s.stage s.agent (rows_on board) call One end_call) s between board board_between face
    face_between → seen ≡ length board_between.entries →
    IsMove between after (without_delivery (with_item between.stage between.agent
    (Tested between.agent.at seen))) → between.opened ≡ None →
    IsTurn Did 2 (test s.stage s.agent (rows_on board) call) s after board board_between face face_between
tested_turn s between after call seen board board_between face face_between one all move closed =
    subst (λ t. IsTurn Did 2 t s after board board_between face face_between) (sym is_tested) (record {
      says = refl;
      steps = record {
        rank = is;
        given = at.given;
        entries = at.entries;
        rows = at.rows;
        own = subst (λ (x : RankState). AreOwnRows x.stage x.agent (rows_on board_between)) (sym is)
            (subst (λ (x : RankState). AreOwnRows x.stage x.agent (rows_on board_between)) waits at.own
            ∙ ap (map kept_row) (sym (no_row s.stage s.agent.rank s.agent.log
            (s.agent.log ++ item ∷ []) item refl refl)));
        of_rank = at.of_rank;
        gifts = at.gifts;
        gains = at.gains;
        handed = at.handed;
        pending = ap (λ (x : RankState). x.agent.pending) is;
        ahead = ahead_less s after (with_item s.stage s.agent item) is refl refl refl;
        below = further after.free between.free s.free move.below at.below;
      };
      few = few (length after.agent.log) (length (s.agent.log ++ item ∷ [])) (length s.agent.log)
          (ap (λ (x : RankState). length x.agent.log) is) (length-append s.agent.log (item ∷ []));
      above = let first = one.above in let last = move.above in omega arith;
    })
  where
    item : Item
    item = Tested s.agent.at (length (rows_on board))

    waits : between ≡ record s { free = between.free }
    waits = waits_there s between call board board_between face face_between one

    decided : decide s.stage.script.ranks (rows_on board) (next_row s.agent call One) ≡ NotYetDecided
    decided = waits_only (decide s.stage.script.ranks (rows_on board) (next_row s.agent call One)) s.stage s.agent
        (rows_on board) call one.says

    at : StepsTo (stay_waiting s.agent (rows_on board)) s between board board_between face face_between
    at = subst (λ d. StepsTo (enter_by d s.stage s.agent (rows_on board) call One end_call) s between board
        board_between
        face face_between) decided one.steps

    is_tested : test s.stage s.agent (rows_on board) call
        ≡ turn_away s.stage s.agent (rows_on board) (Tested s.agent.at (length (rows_on board)))
    is_tested = ap (λ d. test_by d s.stage s.agent (rows_on board) call) decided

    dropped : drop (length board.entries) (rows_on board) ≡ []
    dropped = ap (λ n. drop n (rows_on board)) (sym (as_many board)) ∙ all_dropped (rows_on board)

    same : seen ≡ length (rows_on board)
    same =
        all
        ∙ (sym (as_many board_between)
        ∙ ap length (at.rows ∙ (ap (λ l. rows_on board ++ map kept_row l) dropped ∙ append-nil (rows_on board))))

    is : after ≡ record s {
      agent = with_item s.stage s.agent (Tested s.agent.at (length (rows_on board)));
      free = after.free;
    }
    is =
        item_moved between after (Tested between.agent.at seen) closed move refl
        ∙ (ap (λ (x : RankState). record x {
          agent = with_item x.stage x.agent (Tested x.agent.at seen);
          free = after.free;
        }) waits
        ∙ ap (λ n. record s { agent = with_item s.stage s.agent (Tested s.agent.at n); free = after.free }) same)

    further : (a b c : ℕ) → a ≤ b → b ≤ c → a ≤ c
    further a b c h k = omega arith

    few : (a b c : ℕ) → a ≡ b → b ≡ c + 1 → a ≤ c + 2
    few a b c e f = omega arith

-- a test that is not false is its entry
pub entered_test : (s after : RankState) (call : Call) (board board_after : BoardState) (face face_after : Face) →
    IsTurn Did 1 (enter s.stage s.agent (rows_on board) call One end_call) s after board board_after face face_after →
    IsTurn Did 2 (test s.stage s.agent (rows_on board) call) s after board board_after face face_after
entered_test s after call board board_after face face_after one =
    by_decision (decide s.stage.script.ranks (rows_on board) (next_row s.agent call One)) one
  where
    by_decision : (d : Decision) →
        IsTurn Did 1 (enter_by d s.stage s.agent (rows_on board) call One end_call) s after board board_after face
        face_after →
        IsTurn Did 2 (test_by d s.stage s.agent (rows_on board) call) s after board board_after face face_after
    by_decision (Refuse class) h = record {
      says = h.says;
      steps = h.steps;
      few = let few = h.few in omega arith;
      above = let above = h.above in omega arith;
    }
    by_decision Allow h = record {
      says = h.says;
      steps = h.steps;
      few = let few = h.few in omega arith;
      above = let above = h.above in omega arith;
    }
    by_decision NotYetDecided h = absurd (cc h.says)

-- ---- answers that may want memory

pub if_ok_then : {X Y : Type 0} (r : Result X Y) (P Q : X → Type 0) → ((x : X) → P x → Q x) → IfOk r P → IfOk r Q
if_ok_then (Ok x) P Q keeps h = keeps x h
if_ok_then (Err e) P Q keeps h = tt
