-- What a step leaves of a rank: at the board its pending accesses, and on memory the entries of its log.
use Rattle.std.proofs.Common.{◌≡◌, ℕ, ◌+◌, ◌≤◌, Bool, true, false, cond, List, [], ◌∷◌, ◌++◌, length, Option, Some}
use Rattle.std.proofs.Common.{None, refl, sym, ap, ◌∙◌, arith}
use Rattle.std.specs.Prelude.{slice_get}
use Rattle.std.specs.List.{flat_map, remove}
use Rattle.std.specs.Option.{option_map_or}
use Rattle.std.proofs.lemmas.List.{append-nil, length-set}
use Rattle.std.proofs.lemmas.List.Concat.{flat_map-append}
use Rattle.rma_types.specs.declared.accesses.Access.{Access}
use Rattle.rma_types.specs.declared.accesses.Step.{Step}
use Rattle.rma_types.specs.declared.accesses.Step.TheVariants.{Arrive, Leave, One}
use Rattle.rma_types.specs.declared.calls.Call.{Call}
use Rattle.rma_types.specs.declared.classes.Class.{Class}
use Rattle.rma_types.specs.declared.scripts.Script.{Script}
use Rattle.rma_record.specs.declared.items.Item.{Item}
use Rattle.rma_record.specs.declared.items.Item.TheVariants.{Issue, Null, Flush, Request, Refused, Ended}
use Rattle.board_rules.specs.Board.{Decision, Refuse, Allow, NotYet, decide}
use Rattle.board_rules.specs.Entries.{Row}
use Rattle.call_rules.specs.declared.cells.Cell.{Cell}
use Rattle.call_rules.specs.declared.elements.Change.{Change}
use Rattle.call_rules.specs.declared.elements.Piece.{Piece}
use Rattle.rma_types.specs.declared.actions.Transfer.{Transfer}
use Rattle.rma_types.specs.Actions.{transfer_of}
use Rattle.call_rules.specs.Pieces.{pieces}
use Rattle.call_rules.specs.Touches.{cell_at, cells_after, touch_each, update_cell}
use Rattle.call_rules.specs.Transfers.{change_of}
use Rattle.lawful_runs.specs.Accesses.{transfer_at}
use Rattle.lawful_runs.specs.Logs.{row_by}
use Rattle.lawful_runs.specs.Stages.{Stage, calls_at}
use Rattle.rank_rules.specs.Courses.{Course, OneNull, OneIssue, LookUpAndIssue, OneFlush, OneRequest, ArriveAndLeave}
use Rattle.rank_rules.specs.Courses.{EntryOrTested, OneEntry, course_of, access_of}
use Rattle.rank_rules.specs.Knowledge.{own_class}
use Rattle.rank_rules.specs.declared.pending.PendingAccess.{PendingAccess}
use Rattle.step_runs.specs.Agents.{Agent, keep_item, end_call, enter_call, next_call, has_pending, must_draw}
use Rattle.step_runs.specs.Agents.{awaited_by}
use Rattle.step_runs.specs.BoardSteps.{AtBoard, next_row, stay_waiting, enter_by, enter, test_by, test, leave}
use Rattle.step_runs.specs.BoardSteps.{leave_if_entered, first_entry, entry_of, board_step}
use Rattle.step_runs.specs.DataSteps.{Move, with_item, issue_of, issue, draw, first_item, wait_or_go_on, judge, begin}
use Rattle.step_runs.specs.DataSteps.{go_on, end, move_of, deliver, with_delivery, with_touches, data_step, no_shapes}

-- ---- at the board

-- the rank comes no less far, with the same pending accesses
pub record IsOn (before after : Agent) : Type 0 where
  pub pending : after.pending ≡ before.pending
  pub rank : after.rank ≡ before.rank
  pub at : before.at ≤ after.at

on_still : (agent : Agent) → IsOn agent agent
on_still agent = record { pending = refl; rank = refl; at = omega arith }

on_finished : (agent next : Agent) → next.pending ≡ agent.pending → next.rank ≡ agent.rank → next.at ≡ agent.at
    → IsOn agent (end_call next)
on_finished agent next p r a = record { pending = p; rank = r; at = omega arith }

on_enter : (stage : Stage) (agent : Agent) (rows : List Row) (call : Call) (step : Step) (after : Agent → Agent)
    → ((next : Agent) → next.pending ≡ agent.pending → next.rank ≡ agent.rank → next.at ≡ agent.at
    → IsOn agent (after next))
    → IsOn agent (enter stage agent rows call step after).agent
on_enter stage agent rows call step after goes = by (decide stage.script.ranks rows (next_row agent call step))
  where
    by : (d : Decision) → IsOn agent (enter_by d stage agent rows call step after).agent
    by (Refuse class) = record { pending = refl; rank = refl; at = omega arith }
    by Allow = goes _ refl refl refl
    by NotYet = on_still agent

on_opened : (agent next : Agent) → next.pending ≡ agent.pending → next.rank ≡ agent.rank → next.at ≡ agent.at
    → IsOn agent (enter_call next)
on_opened agent next p r a = record { pending = p; rank = r; at = omega arith }

on_test : (stage : Stage) (agent : Agent) (rows : List Row) (call : Call)
    → IsOn agent (test stage agent rows call).agent
on_test stage agent rows call = by (decide stage.script.ranks rows (next_row agent call One))
  where
    by : (d : Decision) → IsOn agent (test_by d stage agent rows call).agent
    by (Refuse class) = record { pending = refl; rank = refl; at = omega arith }
    by Allow = record { pending = refl; rank = refl; at = omega arith }
    by NotYet = record { pending = refl; rank = refl; at = omega arith }

on_then : (stage : Stage) (agent : Agent) (call : Call) (a : AtBoard) → IsOn agent a.agent
    → IsOn agent (leave_if_entered stage call a).agent
on_then stage agent call a h = by a.agent.entered
    (on_enter stage a.agent a.rows call Leave end_call (on_finished a.agent))
  where
    by : (flag : Bool) → IsOn a.agent (leave stage a.agent a.rows call).agent
        → IsOn agent (cond flag (leave stage a.agent a.rows call) a).agent
    by true k = let u = h.at in let v = k.at in record {
      pending = k.pending ∙ h.pending;
      rank = k.rank
          ∙ h.rank;
      at = omega arith;
    }
    by false k = h

on_first : (stage : Stage) (agent : Agent) (rows : List Row) (call : Call) (course : Course)
    → IsOn agent (first_entry course stage agent rows call).agent
on_first stage agent rows call OneNull = on_still agent
on_first stage agent rows call OneIssue = on_still agent
on_first stage agent rows call LookUpAndIssue = on_enter stage agent rows call One enter_call (on_opened agent)
on_first stage agent rows call OneFlush = on_still agent
on_first stage agent rows call OneRequest = on_still agent
on_first stage agent rows call ArriveAndLeave =
    on_then stage agent call (enter stage agent rows call Arrive enter_call)
    (on_enter stage agent rows call Arrive enter_call (on_opened agent))
on_first stage agent rows call EntryOrTested = on_test stage agent rows call
on_first stage agent rows call OneEntry = on_enter stage agent rows call One end_call (on_finished agent)

pub board_goes_on : (stage : Stage) (agent : Agent) (rows : List Row) → IsOn agent (board_step stage agent rows).agent
board_goes_on stage agent rows = by (next_call stage agent)
  where
    entry : (call : Call) (flag : Bool) → IsOn agent
        (cond flag (leave stage agent rows call)
        (first_entry (course_of agent.known.windows call) stage agent rows call)).agent
    entry call true = on_enter stage agent rows call Leave end_call (on_finished agent)
    entry call false = on_first stage agent rows call (course_of agent.known.windows call)

    by : (o : Option Call) → IsOn agent (option_map_or (entry_of stage agent rows) o (stay_waiting agent rows)).agent
    by None = on_still agent
    by (Some call) = entry call agent.entered

-- ---- on memory

abbrev pub entries_in : Script → ℕ → List Item → List Row
entries_in script rank log = flat_map (row_by script rank) log

-- the rank puts no entry
pub record PutsNone (script : Script) (before after : Agent) : Type 0 where
  pub rank : after.rank ≡ before.rank
  pub entries : entries_in script before.rank after.log ≡ entries_in script before.rank before.log

none_still : (script : Script) (agent : Agent) → PutsNone script agent agent
none_still script agent = record { rank = refl; entries = refl }

none_added : (script : Script) (rank : ℕ) (log more : List Item) → entries_in script rank more ≡ []
    → entries_in script rank (log ++ more) ≡ entries_in script rank log
none_added script rank log more e =
    flat_map-append (row_by script rank) log more ∙ ap (λ (rows : List Row). entries_in script rank log ++ rows) e
    ∙ append-nil (entries_in script rank log)

touches_put_none : (script : Script) (rank : ℕ) (t : Transfer) (issue element : ℕ) (places : List Piece)
    (cells : List Cell)
    → entries_in script rank (touch_each t issue element places cells).items ≡ []
touches_put_none script rank t issue element [] cells = refl
touches_put_none script rank t issue element (piece ∷ places) cells =
    touches_put_none script rank t issue (element + 1) places
    (cells_after cells piece.cell (change_of t element piece.first_byte))

none_joined : (script : Script) (a b c : Agent) → PutsNone script a b → PutsNone script b c → PutsNone script a c
none_joined script a b c h k = record {
  rank = k.rank ∙ h.rank;
  entries = ap (λ rank. entries_in script rank c.log) (sym h.rank) ∙ k.entries
      ∙ ap (λ rank. entries_in script rank b.log) h.rank ∙ h.entries;
}

pub delivery_puts_none : (stage : Stage) (agent : Agent) (cells : List Cell) (at : ℕ)
    → PutsNone stage.script agent (deliver stage agent cells at).agent
delivery_puts_none stage agent cells at = by (slice_get agent.pending at)
  where
    touched : (one : PendingAccess) (o : Option Transfer) → PutsNone stage.script agent
        (option_map_or (with_touches stage (record agent { pending = remove agent.pending at }) cells one) o
        (record { agent = record agent { pending = remove agent.pending at }; cells = cells })).agent
    touched one None = record { rank = refl; entries = refl }
    touched one (Some t) = record {
      rank = refl;
      entries = none_added stage.script agent.rank agent.log
          (touch_each t one.index 0 (pieces stage.layout one.access t.dtype) cells).items
          (touches_put_none stage.script agent.rank t one.index 0 (pieces stage.layout one.access t.dtype) cells);
    }

    by : (o : Option PendingAccess) → PutsNone stage.script agent
        (option_map_or (with_delivery stage agent cells at) o (record { agent = agent; cells = cells })).agent
    by None = none_still stage.script agent
    by (Some one) = touched one (transfer_at (calls_at stage agent.rank) one.number)

none_item : (stage : Stage) (agent : Agent) (item : Item) → row_by stage.script agent.rank item ≡ []
    → PutsNone stage.script agent (with_item stage agent item)
none_item stage agent item e = record {
  rank = refl;
  entries = none_added stage.script agent.rank agent.log (item ∷ []) (ap (λ (rows : List Row). rows ++ []) e);
}

none_issue : (stage : Stage) (agent : Agent) (call : Call) → PutsNone stage.script agent (issue stage agent call).agent
none_issue stage agent call = by (transfer_of call)
  where
    issued : (t : Transfer) (o : Option Access) → PutsNone stage.script agent
        (option_map_or (issue_of stage agent t) o (record { agent = agent; delivers = None })).agent
    issued t None = none_still stage.script agent
    issued t (Some access) = record {
      rank = refl;
      entries = none_added stage.script agent.rank agent.log (Issue agent.at access ∷ []) refl;
    }

    by : (o : Option Transfer) → PutsNone stage.script agent (option_map_or
        (λ t. option_map_or (issue_of stage agent t) (access_of agent.known.windows call)
        (record { agent = agent; delivers = None })) o
        (record { agent = agent; delivers = None })).agent
    by None = none_still stage.script agent
    by (Some t) = issued t (access_of agent.known.windows call)

none_first : (stage : Stage) (agent : Agent) (call : Call) (course : Course)
    → PutsNone stage.script agent (first_item course stage agent call).agent
none_first stage agent call OneNull = none_item stage agent (Null agent.at) refl
none_first stage agent call OneIssue = none_issue stage agent call
none_first stage agent call LookUpAndIssue = none_still stage.script agent
none_first stage agent call OneFlush = none_item stage agent (Flush agent.at) refl
none_first stage agent call OneRequest = none_item stage agent (Request agent.at) refl
none_first stage agent call ArriveAndLeave = none_still stage.script agent
none_first stage agent call EntryOrTested = none_still stage.script agent
none_first stage agent call OneEntry = none_still stage.script agent

none_judged : (stage : Stage) (agent : Agent) (call : Call) (o : Option Class)
    → PutsNone stage.script agent (judge o stage agent call).agent
none_judged stage agent call (Some class) = none_item stage agent (Refused agent.at class 0) refl
none_judged stage agent call None = by (awaited_by agent call)
  where
    by : (o : Option ℕ) → PutsNone stage.script agent (wait_or_go_on o stage agent call).agent
    by None = none_first stage agent call (course_of agent.known.windows call)
    by (Some at) = none_still stage.script agent

none_begun : (stage : Stage) (agent : Agent) (call : Call) → PutsNone stage.script agent (begin stage agent call).agent
none_begun stage agent call = by (must_draw stage agent)
  where
    by : (flag : Bool) → PutsNone stage.script agent
        (cond flag (draw agent) (judge (own_class agent.known call) stage agent call)).agent
    by true = record { rank = refl; entries = refl }
    by false = none_judged stage agent call (own_class agent.known call)

none_gone_on : (stage : Stage) (agent : Agent) (call : Call)
    → PutsNone stage.script agent (go_on stage agent call).agent
none_gone_on stage agent call = by agent.entered
  where
    by : (flag : Bool) → PutsNone stage.script agent (cond flag (issue stage agent call) (begin stage agent call)).agent
    by true = none_issue stage agent call
    by false = none_begun stage agent call

none_ended : (stage : Stage) (agent : Agent) → PutsNone stage.script agent (end stage agent).agent
none_ended stage agent = by (has_pending agent) agent.ended
  where
    by : (left over : Bool) → (let move : Move = cond left (record { agent = agent; delivers = Some 0 })
        (cond over (record { agent = agent; delivers = None })
        (record { agent = record (keep_item no_shapes stage agent Ended) { ended = true }; delivers = None })) in
        PutsNone stage.script agent move.agent)
    by true over = none_still stage.script agent
    by false true = none_still stage.script agent
    by false false = record { rank = refl; entries = none_added stage.script agent.rank agent.log (Ended ∷ []) refl }

pub move_puts_none : (stage : Stage) (agent : Agent) → PutsNone stage.script agent (move_of stage agent).agent
move_puts_none stage agent = by (next_call stage agent)
  where
    by : (o : Option Call) → PutsNone stage.script agent (option_map_or (go_on stage agent) o (end stage agent)).agent
    by None = none_ended stage agent
    by (Some call) = none_gone_on stage agent call

pub data_puts_none : (stage : Stage) (agent : Agent) (cells : List Cell)
    → PutsNone stage.script agent (data_step stage agent cells).agent
data_puts_none stage agent cells = by (move_of stage agent).delivers (move_puts_none stage agent)
  where
    moved : Agent
    moved = (move_of stage agent).agent

    by : (o : Option ℕ) → PutsNone stage.script agent moved → PutsNone stage.script agent
        (option_map_or (deliver stage moved cells) o (record { agent = moved; cells = cells })).agent
    by None h = h
    by (Some at) h = none_joined stage.script agent moved (deliver stage moved cells at).agent h
        (delivery_puts_none stage moved cells at)

-- ---- cells

touches_keep_cells : (t : Transfer) (issue element : ℕ) (places : List Piece) (cells : List Cell)
    → length (touch_each t issue element places cells).cells ≡ length cells
touches_keep_cells t issue element [] cells = refl
touches_keep_cells t issue element (piece ∷ places) cells =
    touches_keep_cells t issue (element + 1) places
    (cells_after cells piece.cell (change_of t element piece.first_byte))
    ∙ changes_keep (change_of t element piece.first_byte)
  where
    changes_keep : (o : Option Change) → length (cells_after cells piece.cell o) ≡ length cells
    changes_keep None = refl
    changes_keep (Some change) = length-set cells piece.cell (update_cell (cell_at cells piece.cell) change)

pub delivery_keeps_cells : (stage : Stage) (agent : Agent) (cells : List Cell) (at : ℕ)
    → length (deliver stage agent cells at).cells ≡ length cells
delivery_keeps_cells stage agent cells at = by (slice_get agent.pending at)
  where
    touched : (one : PendingAccess) (o : Option Transfer) → length
        (option_map_or (with_touches stage (record agent { pending = remove agent.pending at }) cells one) o
        (record { agent = record agent { pending = remove agent.pending at }; cells = cells })).cells ≡ length cells
    touched one None = refl
    touched one (Some t) = touches_keep_cells t one.index 0 (pieces stage.layout one.access t.dtype) cells

    by : (o : Option PendingAccess)
        → length (option_map_or (with_delivery stage agent cells at) o
        (record { agent = agent; cells = cells })).cells ≡ length cells
    by None = refl
    by (Some one) = touched one (transfer_at (calls_at stage agent.rank) one.number)

pub data_keeps_cells : (stage : Stage) (agent : Agent) (cells : List Cell)
    → length (data_step stage agent cells).cells ≡ length cells
data_keeps_cells stage agent cells = by (move_of stage agent).delivers
  where
    moved : Agent
    moved = (move_of stage agent).agent

    by : (o : Option ℕ) → length (option_map_or (deliver stage moved cells) o
        (record { agent = moved; cells = cells })).cells ≡ length cells
    by None = refl
    by (Some at) = delivery_keeps_cells stage moved cells at
