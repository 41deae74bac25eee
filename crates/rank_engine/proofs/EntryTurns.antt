-- What a rank is after an entry, as code leaves it.
use Rattle.std.proofs.Common.{◌≡◌, ℕ, ◌+◌, ◌≤◌, Bool, true, false, List, [], ◌∷◌, ◌++◌, length, Option, Some, None}
use Rattle.std.proofs.Common.{refl, sym, ◌∙◌, ap, subst}
use Rattle.std.specs.Prelude.{is_none}
use Rattle.rma_types.specs.declared.accesses.Step.{Step}
use Rattle.rma_types.specs.declared.accesses.Step.TheVariants.{Arrive, Leave, One}
use Rattle.rma_types.specs.declared.calls.Call.{Call}
use Rattle.rma_types.specs.declared.scripts.Part.{Part}
use Rattle.rma_record.specs.declared.items.Item.{Item}
use Rattle.rma_record.specs.declared.items.Item.TheVariants.{Entry, Refused as RefusedItem}
use Rattle.rma_types.specs.declared.classes.Class.{Class}
use Rattle.rank_rules.proofs.KnowledgeLaws.{learns_nothing}
use Rattle.board_rules.specs.Board.{Refuse, decide}
use Rattle.board_rules.specs.Questions.{question}
use Rattle.board_rules.specs.Rounds.{all_arrived}
use Rattle.board_rules.specs.Entries.{Row}
use Rattle.rma_types.specs.declared.actions.Action.{Action}
use Rattle.rma_types.specs.declared.actions.Action.TheVariants.{Creates, Frees, Attaches, Detaches, Synchronises, Meets}
use Rattle.rma_types.specs.declared.actions.Action.TheVariants.{Moves, EndsRequest}
use Rattle.rma_types.specs.declared.actions.Transfer.{Transfer}
use Rattle.rma_types.specs.Actions.{action_of, transfer_in, transfer_of}
use Rattle.board_rules.proofs.DecisionLaws.{never_refused}
use Rattle.cell_face.specs.Faces.{Face}
use Rattle.lawful_runs.specs.Stages.{calls_at, shapes_in}
use Rattle.rank_rules.specs.Courses.{Course, OneNull, OneIssue, LookUpAndIssue, OneFlush, OneRequest, ArriveAndLeave}
use Rattle.rank_rules.specs.Courses.{EntryOrTested, OneEntry, course_of, course_of_action}
use Rattle.rank_rules.specs.Epochs.{Epochs, epochs_after}
use Rattle.rank_rules.specs.Knowledge.{Knowledge, ends_call, learn}
use Rattle.rank_rules.specs.Requests.{Requests, requests_after}
use Rattle.rank_rules.specs.Windows.{RankWindows, windows_after}
use Rattle.step_laws.proofs.CallCourses.{collective_moves_none, learns_call, one_entry_moves_none}
use Rattle.step_laws.proofs.EntryMoves.{IsOneEntry as IsOneEntryByLaws, look_up_opens}
use Rattle.step_runs.specs.Agents.{Agent, end_call, enter_call}
use Rattle.step_runs.specs.BoardSteps.{enter, put_entry, next_row}
use Rattle.sync_board.specs.Boards.{BoardState, rows_on}
use Rattle.window_regions.specs.declared.window.Shape.{Shape}
use Rattle.rank_engine.proofs.EntryParts.{Makes, closing_parts}
use Rattle.rank_engine.proofs.EntrySteps.{ahead_less, ahead_same, as_many, put_turn, refused_turn, waiting_turn}
use Rattle.rank_engine.specs.Moves.{IsMove}
use Rattle.step_runs.specs.DataSteps.{with_item, without_delivery}
use Rattle.rank_engine.specs.Entering.{IsAnswered, IsClosing, IsHandedOver, IsOneEntry, IsOpening, IsPut, IsReady}
use Rattle.rank_engine.specs.Entering.{IsTurn}
use Rattle.rank_engine.specs.Learning.{HasParts}
use Rattle.rank_engine.specs.RankStates.{RankState}
use Rattle.rank_engine.specs.Sound.{IsSound}
use Rattle.rank_engine.specs.declared.answers.Turned.{Turned}
use Rattle.rank_engine.specs.declared.answers.Turned.TheVariants.{Did, NotYet}
use Rattle.rank_engine.specs.declared.asking.Answer.{Answer}
use Rattle.rank_engine.specs.declared.asking.Answer.TheVariants.{NotYetEntered, Refused}

-- a turn of the rank as code sees it is one of the rank
pub seen_turn : (s now after : RankState) (call : Call) (step : Step) (go : Agent → Agent) (turned : Turned) (items : ℕ)
    (board board_after : BoardState) (face face_after : Face) → s ≡ now →
    IsTurn turned items (enter s.stage s.agent (rows_on board) call step go) s after board board_after face face_after →
    IsTurn turned items (enter now.stage now.agent (rows_on board) call step go) now after board board_after face
    face_after
seen_turn s now after call step go turned items board board_after face face_after same h =
    subst (λ (x : RankState). IsTurn turned items (enter x.stage x.agent (rows_on board) call step go) x after board
    board_after face face_after) same h

-- ---- the first entry of two

opening_opens : (known : RankWindows) (step : Step) (call : Call) → IsOpening step (course_of known call) →
    ends_call step call ≡ false
opening_opens known Arrive call opens = refl
opening_opens known Leave call opens = absurd opens
opening_opens known One call opens = look_up_opens known call opens

pub opened_turn : (s after : RankState) (call : Call) (step : Step) (place : ℕ) (log : List Item) (free : ℕ)
    (home : List ℕ) (board board_after : BoardState) (face face_after : Face) → IsReady s call board face →
    IsOpening step (course_of s.agent.known.windows call) →
    IsPut (next_row s.agent call step) place board board_after face face_after → IsHandedOver face face_after →
    log ≡ s.agent.log ++ Entry s.agent.at place step ∷ [] → home ≡ s.home → s.free ≤ free + 1 → free ≤ s.free →
    after ≡ record s { agent = record s.agent { log = log; entered = true }; free = free; home = home } →
    IsTurn Did 1 (enter s.stage s.agent (rows_on board) call step enter_call) s after board board_after face face_after
opened_turn s after call step place log free home board board_after face face_after ready opens put handed is homes
    above
    below after_is =
    put_turn s after call step enter_call place board board_after face face_after (λ a. refl) (λ a. refl)
    (λ a. refl) ready put
    handed after_to (ahead_same s after (put_entry s.stage s.agent
    (rows_on board) call step enter_call).agent after_to refl refl refl)
    (subst (λ n. s.free ≤ n + 1) (sym frees) above) (subst (λ n. n ≤ s.free) (sym frees) below)
  where
    frees : after.free ≡ free
    frees = ap (λ (x : RankState). x.free) after_is

    place_is : place ≡ length (rows_on board)
    place_is = put.at_end ∙ sym (as_many board)

    learnt : learn (shapes_in s.stage (rows_on board ++ next_row s.agent call step ∷ []))
        (calls_at s.stage s.agent.rank)
        s.agent.known (Entry s.agent.at (length (rows_on board)) step) ≡ s.agent.known
    learnt = learns_nothing (shapes_in s.stage (rows_on board ++ next_row s.agent call step ∷ []))
        (calls_at s.stage s.agent.rank) s.agent.known s.agent.at (length (rows_on board)) step call ready.here
        (opening_opens s.agent.known.windows step call opens)

    after_to : after ≡ record s {
      agent = (put_entry s.stage s.agent (rows_on board) call step enter_call).agent;
      free = after.free;
    }
    after_to =
        after_is
        ∙ (ap (λ l. record s { agent = record s.agent { log = l; entered = true }; free = free; home = home })
        (is ∙ ap (λ n. s.agent.log ++ Entry s.agent.at n step ∷ []) place_is)
        ∙ (ap (λ (k : Knowledge). record s {
          agent = record s.agent {
            log = s.agent.log ++ Entry s.agent.at (length (rows_on board)) step ∷ [];
            known = k;
            entered = true;
          };
          free = free;
          home = home;
        }) (sym learnt)
        ∙ (ap (λ h. record s {
          agent = (put_entry s.stage s.agent (rows_on board) call step enter_call).agent;
          free = free;
          home = h;
        }) homes
        ∙ ap (λ n. record s {
          agent = (put_entry s.stage s.agent (rows_on board) call step enter_call).agent;
          free = n;
        }) (sym frees))))

-- ---- the entry that ends a call

abbrev knowing : RankWindows → List Epochs → Requests → Knowledge
knowing windows epochs requests = record { windows = windows; epochs = epochs; requests = requests }

collective_requests : (requests : Requests) (number : ℕ) (known : RankWindows) (a : Action) →
    transfer_in a ≡ None → (course_of_action known a ≡ OneRequest → ⊥) →
    requests_after requests number a ≡ requests
collective_requests requests number known (Creates creation) e f = refl
collective_requests requests number known (Frees win) e f = refl
collective_requests requests number known (Attaches win base bytes) e f = refl
collective_requests requests number known (Detaches win base) e f = refl
collective_requests requests number known (Synchronises win s) e f = refl
collective_requests requests number known Meets e f = refl
collective_requests requests number known (Moves t) e f = absurd (cc e)
collective_requests requests number known (EndsRequest req) e f = absurd (f refl)

no_request_of_one : (course : Course) → IsOneEntry course → course ≡ OneRequest → ⊥
no_request_of_one course one e = subst IsOneEntry e one

closing_facts : (known : RankWindows) (step : Step) (begun : Bool) (call : Call) →
    IsClosing step begun (course_of known call) →
    (is_none (transfer_of call) ≡ true) × (course_of known call ≡ OneRequest → ⊥) × (ends_call step call ≡ true)
closing_facts known Arrive begun call closes = absurd closes
closing_facts known Leave begun call closes = (
  none_moved (transfer_of call) refl,
  λ e. absurd (cc (closes.1, e)),
  refl,
)
  where
    none_moved : (o : Option Transfer) → transfer_of call ≡ o → is_none o ≡ true
    none_moved None e = refl
    none_moved (Some t) e = absurd (collective_moves_none known call t closes.1 e)
closing_facts known One begun call closes =
    let none : is_none (transfer_of call) ≡ true = one_entry_moves_none known call (to_laws
    (course_of known call) closes.1) in
    (none, no_request_of_one (course_of known call) closes.1, none)
  where
    to_laws : (course : Course) → IsOneEntry course → IsOneEntryByLaws course
    to_laws OneNull h = h
    to_laws OneIssue h = h
    to_laws LookUpAndIssue h = h
    to_laws OneFlush h = h
    to_laws OneRequest h = h
    to_laws ArriveAndLeave h = h
    to_laws EntryOrTested h = h
    to_laws OneEntry h = h

none_is : (o : Option Transfer) → is_none o ≡ true → o ≡ None
none_is None e = refl
none_is (Some t) e = absurd (cc e)

pub closed_turn : (s after : RankState) (call : Call) (step : Step) (place : ℕ) (made : Option Shape) (log : List Item)
    (windows : RankWindows) (epochs : List Epochs) (free : ℕ) (home : List ℕ) (board board_after : BoardState)
    (face face_after : Face) → IsSound s → IsReady s call board face →
    IsClosing step s.agent.entered (course_of s.agent.known.windows call) →
    IsPut (next_row s.agent call step) place board board_after face face_after → Makes s call step board made →
    IsHandedOver face face_after →
    ((shapes : ℕ → List Part) → HasParts shapes s.agent.known.windows (action_of call) made →
    windows ≡ windows_after shapes s.agent.known.windows (action_of call)) →
    epochs ≡ epochs_after s.agent.known.epochs (action_of call) →
    log ≡ s.agent.log ++ Entry s.agent.at place step ∷ [] → home ≡ s.home → s.free ≤ free + 1 → free ≤ s.free →
    after ≡ record s {
      agent = record s.agent {
        log = log;
        known = record { windows = windows; epochs = epochs; requests = s.agent.known.requests };
        at = s.agent.at + 1;
        entered = false;
        drawn = false;
      };
      free = free;
      home = home;
    } →
    IsTurn Did 1 (enter s.stage s.agent (rows_on board) call step end_call) s after board board_after face face_after
closed_turn s after call step place made log windows epochs free home board board_after face face_after sound ready
    closes put
    makes handed windows_are epochs_are is homes above below after_is =
    put_turn s after call step end_call place board board_after face face_after (λ a. refl) (λ a. refl)
    (λ a. refl) ready put
    handed after_to
    (ahead_less s after (put_entry s.stage s.agent (rows_on board) call step end_call).agent after_to refl refl refl)
    (subst (λ n. s.free ≤ n + 1) (sym frees) above) (subst (λ n. n ≤ s.free) (sym frees) below)
  where
    frees : after.free ≡ free
    frees = ap (λ (x : RankState). x.free) after_is

    facts : (is_none (transfer_of call) ≡ true) × (course_of s.agent.known.windows call ≡ OneRequest → ⊥) ×
        (ends_call step call ≡ true)
    facts = closing_facts s.agent.known.windows step s.agent.entered call closes

    place_is : place ≡ length (rows_on board)
    place_is = put.at_end ∙ sym (as_many board)

    known_is : knowing windows epochs s.agent.known.requests
        ≡ learn (shapes_in s.stage (rows_on board ++ next_row s.agent call step ∷ [])) (calls_at s.stage s.agent.rank)
        s.agent.known (Entry s.agent.at (length (rows_on board)) step)
    known_is =
        ap (λ (w : RankWindows). knowing w epochs s.agent.known.requests)
        (windows_are (shapes_in s.stage (rows_on board ++ next_row s.agent call step ∷ []))
        (closing_parts s call step board face made sound ready makes))
        ∙ (ap (λ (e : List Epochs). knowing (windows_after (shapes_in s.stage
        (rows_on board ++ next_row s.agent call step ∷ []))
        s.agent.known.windows (action_of call)) e s.agent.known.requests) epochs_are
        ∙ (ap (λ (r : Requests). knowing (windows_after (shapes_in s.stage
        (rows_on board ++ next_row s.agent call step ∷ []))
        s.agent.known.windows (action_of call)) (epochs_after s.agent.known.epochs (action_of call)) r)
        (sym (collective_requests s.agent.known.requests s.agent.at s.agent.known.windows (action_of call)
        (none_is (transfer_of call) facts.0) facts.1))
        ∙ sym (learns_call (shapes_in s.stage (rows_on board ++ next_row s.agent call step ∷ []))
        (calls_at s.stage s.agent.rank) s.agent.known s.agent.at (length
        (rows_on board)) step call ready.here facts.2)))

    after_to : after ≡ record s {
      agent = (put_entry s.stage s.agent (rows_on board) call step end_call).agent;
      free = after.free;
    }
    after_to =
        after_is
        ∙ (ap (λ l. closing l (knowing windows epochs s.agent.known.requests) free home)
        (is ∙ ap (λ n. s.agent.log ++ Entry s.agent.at n step ∷ []) place_is)
        ∙ (ap (λ (k : Knowledge). closing (s.agent.log ++ Entry s.agent.at (length
        (rows_on board)) step ∷ []) k free home)
        known_is
        ∙ (ap (λ h. record s {
          agent = (put_entry s.stage s.agent (rows_on board) call step end_call).agent;
          free = free;
          home = h;
        }) homes
        ∙ ap (λ n. record s {
          agent = (put_entry s.stage s.agent (rows_on board) call step end_call).agent;
          free = n;
        }) (sym frees))))
      where
        closing : List Item → Knowledge → ℕ → List ℕ → RankState
        closing l k f h = record s {
          agent = record s.agent { log = l; known = k; at = s.agent.at + 1; entered = false; drawn = false };
          free = f;
          home = h;
        }

-- ---- an entry that is not put

-- room for items was made: the rank is as it was
pub with_room : (s : RankState) (log : List Item) (free : ℕ) (home : List ℕ) → log ≡ s.agent.log → free ≡ s.free →
    home ≡ s.home → record s { agent = record s.agent { log = log }; free = free; home = home } ≡ s
with_room s log free home is frees homes =
    ap (λ l. record s { agent = record s.agent { log = l }; free = free; home = home }) is
    ∙ (ap (λ n. record s { free = n; home = home }) frees ∙ ap (λ h. record s { home = h }) homes)

pub not_yet_turn : (s after : RankState) (call : Call) (step : Step) (go : Agent → Agent) (answer : Answer)
    (board board_after : BoardState) (face face_after : Face) → IsReady s call board face → IsHandedOver face
    face_after →
    answer ≡ NotYetEntered → IsAnswered (next_row s.agent call step) answer board board_after face face_after → after
    ≡ s →
    IsTurn NotYet 1 (enter s.stage s.agent (rows_on board) call step go) s after board board_after face face_after
not_yet_turn s after call step go answer board board_after face face_after ready handed is answered same =
    let said = subst (λ a. IsAnswered (next_row s.agent call step) a board board_after face face_after) is answered in
    subst (λ b. IsTurn NotYet 1 (enter s.stage s.agent (rows_on board) call step go) s after board b face face_after)
    (sym said.1)
    (subst (λ x. IsTurn NotYet 1 (enter s.stage s.agent (rows_on board) call step go) s x board board face face_after)
    (sym same) (waiting_turn s call step go board face face_after ready handed said.0))

pub turned_away : (s between after : RankState) (call : Call) (step : Step) (go : Agent → Agent) (answer : Answer)
    (class : Class) (seen : ℕ) (board board_after : BoardState) (face face_after : Face) → IsReady s call board face →
    IsHandedOver face face_after → answer ≡ Refused class seen →
    IsAnswered (next_row s.agent call step) answer board board_after face face_after → between ≡ s →
    IsMove between after (without_delivery (with_item between.stage between.agent
    (RefusedItem between.agent.at class seen))) →
    IsTurn Did 1 (enter s.stage s.agent (rows_on board) call step go) s after board board_after face face_after
turned_away s between after call step go answer class seen board board_after face face_after ready handed is answered
    same
    move =
    let said = subst (λ a. IsAnswered (next_row s.agent call step) a board board_after face face_after) is answered in
    subst (λ b. IsTurn Did 1 (enter s.stage s.agent (rows_on board) call step go) s after board b face face_after)
    (sym said.2)
    (refused_turn s after call step go class seen board face face_after ready handed said.0 said.1
    (subst (λ (x : RankState). IsMove x after
    (without_delivery (with_item x.stage x.agent (RefusedItem x.agent.at class seen)))) same move))

closing_new : (known : RankWindows) (step : Step) (begun : Bool) (call : Call) (ranks : ℕ) (rows : List Row)
    (agent : Agent)
    (class : Class) → IsClosing step begun (course_of known call) →
    decide ranks rows (next_row agent call step) ≡ Refuse class → begun ≡ false
closing_new known Arrive begun call ranks rows agent class closes e = absurd closes
closing_new known Leave begun call ranks rows agent class closes e =
    absurd (never_refused (all_arrived (question ranks rows (next_row agent call Leave))) class e)
closing_new known One begun call ranks rows agent class closes e = closes.0

-- a call that is refused is not begun
pub refused_new : (s : RankState) (call : Call) (step : Step) (answer : Answer) (class : Class) (seen : ℕ)
    (board board_after : BoardState) (face face_after : Face) →
    IsClosing step s.agent.entered (course_of s.agent.known.windows call) → answer ≡ Refused class seen →
    IsAnswered (next_row s.agent call step) answer board board_after face face_after → s.agent.entered ≡ false
refused_new s call step answer class seen board board_after face face_after closes is answered =
    let said = subst (λ a. IsAnswered (next_row s.agent call step) a board board_after face face_after) is answered in
    closing_new s.agent.known.windows step s.agent.entered call board.ranks (rows_on board) s.agent class closes said.0
