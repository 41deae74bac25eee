-- What a step puts on the board, where memory runs out in it.
use Rattle.std.proofs.Common.{◌≡◌, ◌∙◌, ◌++◌, ◌≤◌, ℕ, List, [], ◌∷◌, length, drop, Result, Ok}
use Rattle.std.proofs.Common.{Err, false, refl, sym, ap, subst, suc, zero, arith, length-append}
use Rattle.std.specs.Prelude.{OnErr, map}
use Rattle.std.specs.List.{AllByRecursion}
use Rattle.std.proofs.lemmas.List.{append-nil, append_assoc, map-append}
use Rattle.std.proofs.Math.Seq.{drop-append_seam}
use Rattle.list_laws.proofs.Each.{each_append}
use Rattle.list_laws.proofs.Lists.{cancel}
use Rattle.rma_types.specs.declared.accesses.Step.{Step}
use Rattle.rma_types.specs.declared.accesses.Step.TheVariants.{Arrive, Leave, One}
use Rattle.rma_types.specs.declared.calls.Call.{Call}
use Rattle.board_rules.specs.Board.{Decision, Refuse, Allow, NotYet, decide}
use Rattle.board_rules.specs.Entries.{Row}
use Rattle.cell_face.specs.Faces.{Face}
use Rattle.kept_rows.specs.Gifts.{Given, rows_given}
use Rattle.kept_rows.specs.KeptCalls.{kept_row}
use Rattle.lawful_runs.specs.Stages.{Stage}
use Rattle.step_runs.specs.Agents.{Agent, end_call, enter_call}
use Rattle.step_runs.specs.BoardSteps.{AtBoard, arrive, enter, enter_by, leave, leave_if_entered, next_row, put_entry, test}
use Rattle.step_runs.specs.BoardSteps.{test_by}
use Rattle.sync_board.specs.Boards.{BoardState, rows_on}
use Rattle.rank_engine.proofs.EntrySteps.{as_many}
use Rattle.rank_engine.proofs.TwoEntries.{HasArrived, arrived_rows, leave_grows}
use Rattle.rank_engine.specs.BoardAnswers.{gives}
use Rattle.rank_engine.specs.Entering.{IsPut, StepsTo}
use Rattle.rank_engine.specs.KeptItems.{PutsFirst}
use Rattle.rank_engine.specs.RankStates.{RankState}

-- nothing
pub puts_none : (rank : ℕ) (rows : List Row) (board after : BoardState) → after ≡ board →
    PutsFirst rank rows board after
puts_none rank rows board after same = record {
  given = [];
  entries = same ∙ ap (λ l. record board { entries = l }) (sym (append-nil board.entries));
  of_rank = tt;
  rest = map kept_row (drop (length board.entries) rows);
  first = refl;
}

-- the one entry of a step
pub puts_one : (s : RankState) (call : Call) (step : Step) (go : Agent → Agent) (place : ℕ)
    (board board_after : BoardState) (face face_after : Face) → board.ranks ≡ s.stage.script.ranks →
    IsPut (next_row s.agent call step) place board board_after face face_after →
    PutsFirst s.agent.rank (enter s.stage s.agent (rows_on board) call step go).rows board board_after
puts_one s call step go place board board_after face face_after ranks put =
    subst (λ (to : AtBoard). PutsFirst s.agent.rank to.rows board board_after) (sym entered) (record {
      given = record { row = kept_row (next_row s.agent call step); gift = put.gift } ∷ [];
      entries = put.put;
      of_rank = (refl, tt);
      rest = [];
      first = ap (map kept_row) dropped;
    })
  where
    entered : enter s.stage s.agent (rows_on board) call step go
        ≡ put_entry s.stage s.agent (rows_on board) call step go
    entered = ap (λ d. enter_by d s.stage s.agent (rows_on board) call step go)
        (ap (λ n. decide n (rows_on board) (next_row s.agent call step)) (sym ranks) ∙ put.allowed)

    dropped : drop (length board.entries) (rows_on board ++ next_row s.agent call step ∷ [])
        ≡ next_row s.agent call step ∷ []
    dropped = ap (λ n. drop n (rows_on board ++ next_row s.agent call step ∷ [])) (sym (as_many board))
        ∙ drop-append_seam (rows_on board) (next_row s.agent call step ∷ [])

-- all entries of a step that was done
pub puts_all : (to : AtBoard) (s after : RankState) (board board_after : BoardState) (face face_after : Face) →
    StepsTo to s after board board_after face face_after → PutsFirst s.agent.rank to.rows board board_after
puts_all to s after board board_after face face_after steps = record {
  given = steps.given;
  entries = steps.entries;
  of_rank = steps.of_rank;
  rest = [];
  first = sym (cancel (rows_on board) (rows_given steps.given)
      (map kept_row (drop (length board.entries) to.rows))
      (sym (map-append (λ (one : Given). one.row) board.entries steps.given)
      ∙ (ap rows_on (sym steps.entries) ∙ steps.rows))) ∙ sym (append-nil (rows_given steps.given));
}

-- ---- a test

tested_rows : (d : Decision) (stage : Stage) (agent : Agent) (rows : List Row) (call : Call) →
    (enter_by d stage agent rows call One end_call).rows ≡ (test_by d stage agent rows call).rows
tested_rows (Refuse class) stage agent rows call = refl
tested_rows Allow stage agent rows call = refl
tested_rows NotYet stage agent rows call = refl

-- a test puts the entry of its call
pub test_puts : (stage : Stage) (agent : Agent) (rank : ℕ) (call : Call) (board board_after : BoardState) →
    PutsFirst rank (enter stage agent (rows_on board) call One end_call).rows board board_after →
    PutsFirst rank (test stage agent (rows_on board) call).rows board board_after
test_puts stage agent rank call board board_after =
    subst (λ rows. PutsFirst rank rows board board_after)
    (tested_rows (decide stage.script.ranks (rows_on board) (next_row agent call One)) stage agent (rows_on board) call)

-- ---- two entries

-- what two steps put, the second of which was not done
puts_twice : (rank : ℕ) (rows more : List Row) (board between after : BoardState)
    (one : PutsFirst rank rows board between) → one.rest ≡ [] → rows ≡ rows_on between →
    PutsFirst rank (rows ++ more) between after → length board.entries ≤ length rows →
    PutsFirst rank (rows ++ more) board after
puts_twice rank rows more board between after one done here two few = record {
  given = one.given ++ two.given;
  entries = two.entries
      ∙ (ap (λ (b : BoardState). record b { entries = b.entries ++ two.given }) one.entries
      ∙ ap (λ l. record board { entries = l }) (append_assoc board.entries one.given two.given));
  of_rank = each_append (λ (x : Given). x.row.rank ≡ rank) one.given two.given one.of_rank two.of_rank;
  rest = two.rest;
  first = ap (map kept_row) (drop_front rows more (length board.entries) few)
      ∙ (map-append kept_row (drop (length board.entries) rows) more
      ∙ (ap (λ l. l ++ map kept_row more) all
      ∙ (ap (λ l. rows_given one.given ++ l) last
      ∙ (sym (append_assoc (rows_given one.given) (rows_given two.given) two.rest)
      ∙ ap (λ l. l ++ two.rest) (sym (map-append (λ (x : Given). x.row) one.given two.given))))));
}
  where
    drop_front : (xs ys : List Row) (n : ℕ) → n ≤ length xs → drop n (xs ++ ys) ≡ drop n xs ++ ys
    drop_front xs ys zero h = refl
    drop_front [] ys (suc n) h = absurd (omega arith)
    drop_front (x ∷ xs) ys (suc n) h = drop_front xs ys n (omega arith)

    last : map kept_row more ≡ rows_given two.given ++ two.rest
    last = sym (ap (map kept_row) (ap (λ n. drop n (rows ++ more)) (sym (as_many between) ∙ ap length (sym here))
        ∙ drop-append_seam rows more)) ∙ two.first

    all : map kept_row (drop (length board.entries) rows) ≡ rows_given one.given
    all = one.first ∙ (ap (λ l. rows_given one.given ++ l) done ∙ append-nil (rows_given one.given))

-- an Arrive that was put, and what the Leave after it puts
pub left_puts : (s between : RankState) (call : Call) (board board_between after : BoardState)
    (face face_between : Face) → HasArrived s between call board board_between face face_between →
    PutsFirst between.agent.rank (enter between.stage between.agent (rows_on board_between) call Leave end_call).rows
    board_between after →
    PutsFirst s.agent.rank (arrive s.stage s.agent (rows_on board) call).rows board after
unfolding puts_all
left_puts s between call board board_between after face face_between h two =
    subst (λ rows. PutsFirst s.agent.rank rows board after) (sym (is_leave ∙ grown.1))
    (puts_twice s.agent.rank first.rows grown.0 board board_between after
    (puts_all first s between board board_between face face_between h.steps) refl here
    (subst (λ rows. PutsFirst s.agent.rank rows board_between after) grown.1 at) few)
  where
    first : AtBoard
    first = put_entry s.stage s.agent (rows_on board) call Arrive enter_call

    second : AtBoard
    second = leave s.stage (put_entry s.stage s.agent (rows_on board) call Arrive enter_call).agent
        (rows_on board ++ next_row s.agent call Arrive ∷ []) call

    here : rows_on board ++ next_row s.agent call Arrive ∷ [] ≡ rows_on board_between
    here = arrived_rows s between call board board_between face face_between h

    few : length board.entries ≤ length (rows_on board ++ next_row s.agent call Arrive ∷ [])
    few = let long = length-append (rows_on board) (next_row s.agent call Arrive ∷ []) in
        let many = as_many board in omega arith

    is_leave : (arrive s.stage s.agent (rows_on board) call).rows ≡ second.rows
    is_leave = ap (λ (t : AtBoard). (leave_if_entered s.stage call t).rows) h.to

    at : PutsFirst s.agent.rank second.rows board_between after
    at = subst (λ l. PutsFirst s.agent.rank (enter s.stage first.agent l call Leave end_call).rows board_between after)
        (sym here)
        (subst (λ (x : RankState). PutsFirst x.agent.rank (enter x.stage x.agent (rows_on board_between) call Leave
        end_call).rows board_between after) h.steps.rank two)

    grown : (more : List Row) × (second.rows ≡ first.rows ++ more)
        × AllByRecursion (λ (r : Row). gives r.step r.call ≡ false) (map kept_row more)
    grown = leave_grows (decide s.stage.script.ranks (rows_on board ++ next_row s.agent call Arrive ∷ [])
        (next_row (put_entry s.stage s.agent (rows_on board) call Arrive enter_call).agent call Leave)) s.stage
        (put_entry s.stage s.agent (rows_on board) call Arrive enter_call).agent
        (rows_on board ++ next_row s.agent call Arrive ∷ []) call h.whole

pub puts_on_err : {X E : Type 0} (result : Result X E) (P Q : Type 0) → (P → Q) → OnErr result P → OnErr result Q
puts_on_err (Ok x) P Q leads h = tt
puts_on_err (Err e) P Q leads h = leads h
