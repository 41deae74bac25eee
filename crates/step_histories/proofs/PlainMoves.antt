-- What a rank does by itself, and what it does at the board, touches nothing.
use Rattle.std.proofs.Common.{◌≡◌, ℕ, Bool, true, false, cond, List, [], ◌∷◌, ◌++◌, length, Option, Some, None, refl}
use Rattle.std.proofs.Common.{sym, ◌∙◌, ap, subst, append_assoc, append-nil}
use Rattle.std.specs.List.{AllByRecursion}
use Rattle.std.specs.Option.{option_map_or}
use Rattle.list_laws.proofs.Each.{each_append}
use Rattle.rma_types.specs.declared.accesses.Access.{Access}
use Rattle.rma_types.specs.declared.accesses.Step.{Step}
use Rattle.rma_types.specs.declared.calls.Call.{Call}
use Rattle.rma_types.specs.declared.classes.Class.{Class}
use Rattle.rma_record.specs.declared.items.Item.{Item}
use Rattle.rma_record.specs.declared.items.Item.TheVariants.{Null, Flush, Request, Entry, Refused, Ended}
use Rattle.board_rules.specs.Entries.{Row}
use Rattle.rma_types.specs.declared.actions.Transfer.{Transfer}
use Rattle.rma_types.specs.Actions.{transfer_of}
use Rattle.lawful_runs.specs.Accesses.{transfer_at}
use Rattle.lawful_runs.specs.Items.{is_touch}
use Rattle.lawful_runs.specs.Stages.{Stage, calls_at}
use Rattle.rank_laws.proofs.DataPaths.{its_transfer}
use Rattle.rank_rules.specs.Courses.{Course, OneNull, OneIssue, LookUpAndIssue, OneFlush, OneRequest, ArriveAndLeave}
use Rattle.rank_rules.specs.Courses.{EntryOrTested, OneEntry, course_of, access_of}
use Rattle.rank_rules.specs.Knowledge.{own_class}
use Rattle.step_histories.proofs.LogGrowth.{HasIssues, IsPlain, plain_same, plain_item, plain_issue}
use Rattle.step_laws.proofs.DataWeights.{ended_now}
use Rattle.step_laws.proofs.EntryMoves.{HasBegun, with_row, IsTurnedAway, ByRefusal, ByTest, EntryMove, TurnsAway}
use Rattle.step_laws.proofs.EntryMoves.{Arrives, LooksUp, Leaves, EntersOnce, moves_keep, board_step_moves}
use Rattle.step_runs.specs.Agents.{Agent, next_call, has_pending, must_draw, awaited_by, tries_entry}
use Rattle.step_runs.specs.BoardSteps.{next_row, board_step}
use Rattle.step_runs.specs.DataSteps.{just_delivers, without_delivery, with_item, with_issue, issue_of, issue, draw}
use Rattle.step_runs.specs.DataSteps.{first_item, wait_or_go_on, judge, begin, go_on, end, move_of}

-- ---- without the board

with_item_plain : (stage : Stage) (rank : ℕ) (agent : Agent) (item : Item) → HasIssues stage rank agent →
    is_touch item ≡ false → IsPlain stage rank agent (with_item stage agent item)
with_item_plain stage rank agent item has plain = plain_item stage rank agent (with_item stage agent item) item has
    plain refl refl refl

issue_plain : (stage : Stage) (rank : ℕ) (agent : Agent) (call : Call) → agent.rank ≡ rank →
    HasIssues stage rank agent → next_call stage agent ≡ Some call →
    IsPlain stage rank agent (issue stage agent call).agent
issue_plain stage rank agent call mine has here = by_transfer (transfer_of call) refl
  where
    same : IsPlain stage rank agent agent
    same = plain_same stage rank agent agent has refl refl refl

    by_access : (t : Transfer) → transfer_of call ≡ Some t → (o : Option Access) → IsPlain stage rank agent
        (option_map_or (issue_of stage agent t) o (without_delivery agent)).agent
    by_access t moves None = same
    by_access t moves (Some access) =
        let there : transfer_at (calls_at stage rank) agent.at ≡ Some t =
        subst (λ r. transfer_at (calls_at stage r) agent.at ≡ Some t) mine
        (its_transfer stage agent call t here moves) in
        plain_issue stage rank agent (with_issue stage agent access t) access t has there refl refl refl

    by_transfer : (o : Option Transfer) → transfer_of call ≡ o → IsPlain stage rank agent
        (option_map_or (λ t. option_map_or (issue_of stage agent t) (access_of agent.known.windows call)
        (without_delivery agent)) o (without_delivery agent)).agent
    by_transfer None moves = same
    by_transfer (Some t) moves = by_access t moves (access_of agent.known.windows call)

first_item_plain : (course : Course) (stage : Stage) (rank : ℕ) (agent : Agent) (call : Call) → agent.rank ≡ rank →
    HasIssues stage rank agent → next_call stage agent ≡ Some call →
    IsPlain stage rank agent (first_item course stage agent call).agent
first_item_plain OneNull stage rank agent call mine has here = with_item_plain stage rank agent (Null agent.at) has refl
first_item_plain OneIssue stage rank agent call mine has here = issue_plain stage rank agent call mine has here
first_item_plain LookUpAndIssue stage rank agent call mine has here = plain_same stage rank agent agent has refl refl
    refl
first_item_plain OneFlush stage rank agent call mine has here = with_item_plain stage rank agent (Flush agent.at) has
    refl
first_item_plain OneRequest stage rank agent call mine has here = with_item_plain stage rank agent (Request agent.at)
    has refl
first_item_plain ArriveAndLeave stage rank agent call mine has here = plain_same stage rank agent agent has refl refl
    refl
first_item_plain EntryOrTested stage rank agent call mine has here = plain_same stage rank agent agent has refl refl
    refl
first_item_plain OneEntry stage rank agent call mine has here = plain_same stage rank agent agent has refl refl refl

begin_plain : (stage : Stage) (rank : ℕ) (agent : Agent) (call : Call) → agent.rank ≡ rank →
    HasIssues stage rank agent → next_call stage agent ≡ Some call →
    IsPlain stage rank agent (begin stage agent call).agent
begin_plain stage rank agent call mine has here = by_draw (must_draw stage agent)
  where
    by_wait : (o : Option ℕ) → IsPlain stage rank agent (wait_or_go_on o stage agent call).agent
    by_wait None = first_item_plain (course_of agent.known.windows call) stage rank agent call mine has here
    by_wait (Some at) = plain_same stage rank agent agent has refl refl refl

    by_class : (o : Option Class) → IsPlain stage rank agent (judge o stage agent call).agent
    by_class None = by_wait (awaited_by agent call)
    by_class (Some class) = with_item_plain stage rank agent (Refused agent.at class 0) has refl

    by_draw : (b : Bool) → IsPlain stage rank agent
        (cond b (draw agent) (judge (own_class agent.known call) stage agent call)).agent
    by_draw true = plain_same stage rank agent (draw agent).agent has refl refl refl
    by_draw false = by_class (own_class agent.known call)

-- what a rank does before a delivery touches nothing
pub move_plain : (stage : Stage) (rank : ℕ) (agent : Agent) → agent.rank ≡ rank → HasIssues stage rank agent →
    IsPlain stage rank agent (move_of stage agent).agent
move_plain stage rank agent mine has = by_call (next_call stage agent) refl
  where
    same : IsPlain stage rank agent agent
    same = plain_same stage rank agent agent has refl refl refl

    by_ended : (b : Bool) → IsPlain stage rank agent
        (cond b (without_delivery agent) (without_delivery (ended_now stage agent))).agent
    by_ended true = same
    by_ended false = plain_item stage rank agent (ended_now stage agent) Ended has refl refl refl refl

    by_pending : (b : Bool) → IsPlain stage rank agent
        (cond b (just_delivers agent 0)
        (cond agent.ended (without_delivery agent) (without_delivery (ended_now stage agent)))).agent
    by_pending true = same
    by_pending false = by_ended agent.ended

    by_entered : (call : Call) → next_call stage agent ≡ Some call → (b : Bool) →
        IsPlain stage rank agent (cond b (issue stage agent call) (begin stage agent call)).agent
    by_entered call here true = issue_plain stage rank agent call mine has here
    by_entered call here false = begin_plain stage rank agent call mine has here

    by_call : (o : Option Call) → next_call stage agent ≡ o →
        IsPlain stage rank agent (option_map_or (go_on stage agent) o (end stage agent)).agent
    by_call None here = by_pending (has_pending agent)
    by_call (Some call) here = by_entered call here agent.entered

-- ---- at the board

-- the rank went on at the board without a touch, and put some entries of its own at the end
pub record IsLooked (stage : Stage) (rank : ℕ) (agent : Agent) (before : List Row) (next : Agent)
    (rows : List Row) : Type 0 where
  pub plain : IsPlain stage rank agent next
  pub more : List Row
  pub put : rows ≡ before ++ more
  pub own : AllByRecursion (λ (row : Row). row.rank ≡ rank) more

-- an item more, and the row that it is, if it is an entry
item_looked : (stage : Stage) (rank : ℕ) (agent : Agent) (before : List Row) (now next : Agent) (rows : List Row)
    (item : Item) (more : List Row) → IsLooked stage rank agent before now rows → is_touch item ≡ false →
    next.rank ≡ now.rank → next.log ≡ now.log ++ item ∷ [] → next.pending ≡ now.pending →
    AllByRecursion (λ (row : Row). row.rank ≡ rank) more → IsLooked stage rank agent before next (rows ++ more)
item_looked stage rank agent before now next rows item more old plain mine log pending own =
    let step = plain_item stage rank now next item old.plain.issues plain mine log pending in
    record {
      plain = record {
        mine = step.mine ∙ old.plain.mine;
        touches = step.touches ∙ old.plain.touches;
        issues = step.issues;
      };
      more = old.more ++ more;
      put = ap (λ r. r ++ more) old.put ∙ append_assoc before old.more more;
      own = each_append (λ (row : Row). row.rank ≡ rank) old.more more old.own own;
    }

-- an entry
entry_looked : (stage : Stage) (rank : ℕ) (agent : Agent) (before : List Row) (now next : Agent)
    (rows after : List Row) (call : Call) (step : Step) → agent.rank ≡ rank →
    IsLooked stage rank agent before now rows → next.rank ≡ now.rank →
    next.log ≡ now.log ++ Entry now.at (length rows) step ∷ [] → next.pending ≡ now.pending →
    after ≡ with_row now rows call step → IsLooked stage rank agent before next after
entry_looked stage rank agent before now next rows after call step mine old same log pending is =
    subst (IsLooked stage rank agent before next) (sym is)
    (item_looked stage rank agent before now next rows (Entry now.at (length rows) step) (next_row now call step ∷ [])
    old refl same log pending (old.plain.mine ∙ mine, tt))

turned_plain : (agent : Agent) (rows : List Row) (item : Item) → IsTurnedAway agent rows item → is_touch item ≡ false
turned_plain agent rows item (ByRefusal class e) = ap is_touch e
turned_plain agent rows item (ByTest e) = ap is_touch e

move_looked : (stage : Stage) (rank : ℕ) (agent : Agent) (before : List Row) → agent.rank ≡ rank →
    (now next : Agent) (rows after : List Row) → IsLooked stage rank agent before now rows →
    EntryMove stage now rows next after → IsLooked stage rank agent before next after
move_looked stage rank agent before mine now next rows after old (TurnsAway call item here new away is still) =
    subst (IsLooked stage rank agent before next) (append-nil rows ∙ sym still)
    (item_looked stage rank agent before now next rows item [] old (turned_plain now rows item away)
    (ap (λ (a : Agent). a.rank) is) (ap (λ (a : Agent). a.log) is) (ap (λ (a : Agent). a.pending) is) tt)
move_looked stage rank agent before mine now next rows after old (Arrives call entry new course is more) =
    entry_looked stage rank agent before now next rows after call _ mine old
    (ap (λ (a : Agent). a.rank) is) (ap (λ (a : Agent). a.log) is) (ap (λ (a : Agent). a.pending) is) more
move_looked stage rank agent before mine now next rows after old (LooksUp call entry new course is more) =
    entry_looked stage rank agent before now next rows after call _ mine old
    (ap (λ (a : Agent). a.rank) is) (ap (λ (a : Agent). a.log) is) (ap (λ (a : Agent). a.pending) is) more
move_looked stage rank agent before mine now next rows after old (Leaves call entry inside course is more) =
    entry_looked stage rank agent before now next rows after call _ mine old
    (ap (λ (a : Agent). a.rank) is) (ap (λ (a : Agent). a.log) is) (ap (λ (a : Agent). a.pending) is) more
move_looked stage rank agent before mine now next rows after old (EntersOnce call entry new course is more) =
    entry_looked stage rank agent before now next rows after call _ mine old
    (ap (λ (a : Agent). a.rank) is) (ap (λ (a : Agent). a.log) is) (ap (λ (a : Agent). a.pending) is) more

-- a step at the board touches nothing, and puts entries of the rank alone
pub board_looked : (stage : Stage) (rank : ℕ) (agent : Agent) (rows : List Row) → agent.rank ≡ rank →
    HasIssues stage rank agent → HasBegun stage agent → tries_entry stage agent ≡ true →
    (let step = board_step stage agent rows in IsLooked stage rank agent rows step.agent step.rows)
board_looked stage rank agent rows mine has begun tries =
    let step = board_step stage agent rows in
    moves_keep stage (IsLooked stage rank agent rows)
    (λ now next between after old move. move_looked stage rank agent rows mine now next between after old move)
    agent step.agent rows step.rows
    (record {
      plain = plain_same stage rank agent agent has refl refl refl;
      more = [];
      put = sym (append-nil rows);
      own = tt;
    }) (board_step_moves stage agent rows begun tries)
