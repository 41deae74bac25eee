-- A step at the board over entries as the board keeps them is that over the entries themselves.
use Rattle.std.proofs.Common.{◌≡◌, ℕ, Bool, true, false, cond, List, [], ◌∷◌, ◌++◌, length, Option, Some, None, refl}
use Rattle.std.proofs.Common.{sym, ap, ◌∙◌, subst}
use Rattle.std.specs.Option.{option_map_or}
use Rattle.std.proofs.Math.Path.{fun_ext}
use Rattle.std.proofs.lemmas.List.{append-nil, append_assoc, map-append, length-map}
use Rattle.rma_types.specs.declared.accesses.Step.{Step}
use Rattle.rma_types.specs.declared.accesses.Step.TheVariants.{Arrive, Leave, One}
use Rattle.rma_types.specs.declared.calls.Call.{Call}
use Rattle.rma_record.specs.declared.items.Item.{Item}
use Rattle.rma_record.specs.declared.items.Item.TheVariants.{Entry, Tested, Refused}
use Rattle.board_rules.specs.Board.{Decision, Refuse, Allow, NotYet, decide}
use Rattle.board_rules.specs.Entries.{Row, acts}
use Rattle.board_rules.specs.Shapes.{parts_of}
use Rattle.kept_rows.specs.KeptCalls.{kept_row}
use Rattle.kept_rows.specs.KeptRowLaws.{kept_rows, DecisionsNeedNoValues, PartsNeedNoValues}
use Rattle.lawful_runs.specs.Stages.{Stage, shapes_in}
use Rattle.rank_rules.specs.Courses.{Course, OneNull, OneIssue, LookUpAndIssue, OneFlush, OneRequest, ArriveAndLeave}
use Rattle.rank_rules.specs.Courses.{EntryOrTested, OneEntry, course_of}
use Rattle.step_runs.specs.Agents.{Agent, keep_item, end_call, enter_call, next_call}
use Rattle.step_runs.specs.BoardSteps.{AtBoard, next_row, stay_waiting, put_entry, turn_away, enter_by, enter, test_by}
use Rattle.step_runs.specs.BoardSteps.{test}
use Rattle.step_runs.specs.BoardSteps.{leave, leave_if_entered, first_entry, entry_of, board_step}

-- what the board needs of its entries
pub record Laws : Type 0 where
  pub decisions : DecisionsNeedNoValues
  pub parts : PartsNeedNoValues

-- the two steps are alike: the first began with these rows
pub record Alike (rows : List Row) (a b : AtBoard) : Type 0 where
  pub agent : a.agent ≡ b.agent
  pub waits : a.waits ≡ b.waits
  pub kept : kept_rows a.rows ≡ kept_rows b.rows
  pub more : List Row
  pub grown : a.rows ≡ rows ++ more

same_decision : Laws → (ranks : ℕ) (xs ys : List Row) (row : Row) → kept_rows xs ≡ kept_rows ys
    → decide ranks xs row ≡ decide ranks ys row
same_decision l ranks xs ys row e =
    sym (l.decisions ranks xs row) ∙ ap (λ (rows : List Row). decide ranks rows row) e ∙ l.decisions ranks ys row

same_shapes : Laws → (stage : Stage) (xs ys : List Row) → kept_rows xs ≡ kept_rows ys
    → shapes_in stage xs ≡ shapes_in stage ys
same_shapes l stage xs ys e = fun_ext (λ window.
    sym (l.parts stage.layout stage.script.ranks xs window)
    ∙ ap (λ (rows : List Row). parts_of stage.layout stage.script.ranks (acts rows) window) e
    ∙ l.parts stage.layout stage.script.ranks ys window)

same_length : (xs ys : List Row) → kept_rows xs ≡ kept_rows ys → length xs ≡ length ys
same_length xs ys e = sym (length-map xs kept_row) ∙ ap length e ∙ length-map ys kept_row

alike_waiting : (agent : Agent) (xs ys : List Row) → kept_rows xs ≡ kept_rows ys
    → Alike xs (stay_waiting agent xs) (stay_waiting agent ys)
alike_waiting agent xs ys e = record { agent = refl; waits = refl; kept = e; more = []; grown = sym (append-nil xs) }

alike_away : Laws → (stage : Stage) (agent : Agent) (xs ys : List Row) (item : ℕ → Item) → kept_rows xs ≡ kept_rows ys
    → Alike xs (turn_away stage agent xs (item (length xs))) (turn_away stage agent ys (item (length ys)))
alike_away l stage agent xs ys item e = record {
  agent = ap (λ shapes. end_call (keep_item shapes stage agent (item (length xs)))) (same_shapes l stage xs ys e)
      ∙ ap (λ n. end_call (keep_item (shapes_in stage ys) stage agent (item n))) (same_length xs ys e);
  waits = refl;
  kept = e;
  more = [];
  grown = sym (append-nil xs);
}

one_more : (xs ys : List Row) (row : Row) → kept_rows xs ≡ kept_rows ys
    → kept_rows (xs ++ row ∷ []) ≡ kept_rows (ys ++ row ∷ [])
one_more xs ys row e =
    map-append kept_row xs (row ∷ []) ∙ ap (λ rows. rows ++ kept_row row ∷ []) e
    ∙ sym (map-append kept_row ys (row ∷ []))

alike_entered : Laws → (stage : Stage) (agent : Agent) (xs ys : List Row) (call : Call) (step : Step) (after : Agent
    → Agent)
    → kept_rows xs ≡ kept_rows ys → Alike xs (put_entry stage agent xs call step after)
    (put_entry stage agent ys call step after)
alike_entered l stage agent xs ys call step after e =
    let row = next_row agent call step in
    let now : kept_rows (xs ++ row ∷ []) ≡ kept_rows (ys ++ row ∷ []) = one_more xs ys row e in
    record {
      agent = ap (λ shapes. after (keep_item shapes stage agent (Entry agent.at (length xs) step)))
          (same_shapes l stage (xs ++ row ∷ []) (ys ++ row ∷ []) now)
          ∙ ap (λ n. after (keep_item (shapes_in stage (ys ++ row ∷ [])) stage agent (Entry agent.at n step)))
          (same_length xs ys e);
      waits = refl;
      kept = now;
      more = row ∷ [];
      grown = refl;
    }

alike_enter : Laws → (stage : Stage) (agent : Agent) (xs ys : List Row) (call : Call) (step : Step) (after : Agent
    → Agent)
    → kept_rows xs ≡ kept_rows ys → Alike xs (enter stage agent xs call step after)
    (enter stage agent ys call step after)
alike_enter l stage agent xs ys call step after e =
    let row = next_row agent call step in
    subst (λ d. Alike xs (enter stage agent xs call step after) (enter_by d stage agent ys call step after))
    (same_decision l stage.script.ranks xs ys row e) (by (decide stage.script.ranks xs row))
  where
    by : (d : Decision) → Alike xs (enter_by d stage agent xs call step after)
        (enter_by d stage agent ys call step after)
    by (Refuse class) = alike_away l stage agent xs ys (λ n. Refused agent.at class n) e
    by Allow = alike_entered l stage agent xs ys call step after e
    by NotYet = alike_waiting agent xs ys e

alike_test : Laws → (stage : Stage) (agent : Agent) (xs ys : List Row) (call : Call)
    → kept_rows xs ≡ kept_rows ys → Alike xs (test stage agent xs call) (test stage agent ys call)
alike_test l stage agent xs ys call e =
    let row = next_row agent call One in
    subst (λ d. Alike xs (test stage agent xs call) (test_by d stage agent ys call))
    (same_decision l stage.script.ranks xs ys row e) (by (decide stage.script.ranks xs row))
  where
    by : (d : Decision) → Alike xs (test_by d stage agent xs call) (test_by d stage agent ys call)
    by (Refuse class) = alike_away l stage agent xs ys (λ n. Refused agent.at class n) e
    by Allow = alike_entered l stage agent xs ys call One end_call e
    by NotYet = alike_away l stage agent xs ys (λ n. Tested agent.at n) e

widened : (rows : List Row) (a b c d : AtBoard) → Alike rows a b → Alike a.rows c d → Alike rows c d
widened rows a b c d h k = record {
  agent = k.agent;
  waits = k.waits;
  kept = k.kept;
  more = h.more ++ k.more;
  grown = k.grown ∙ ap (λ (xs : List Row). xs ++ k.more) h.grown ∙ append_assoc rows h.more k.more;
}

alike_then : Laws → (stage : Stage) (rows : List Row) (call : Call) (a b : AtBoard) → Alike rows a b
    → Alike rows (leave_if_entered stage call a) (leave_if_entered stage call b)
alike_then l stage rows call a b h =
    subst (λ (g : Agent). Alike rows (leave_if_entered stage call a)
    (cond g.entered (leave stage g b.rows call) b)) h.agent (by a.agent.entered)
  where
    by : (flag : Bool) → Alike rows (cond flag (leave stage a.agent a.rows call) a)
        (cond flag (leave stage a.agent b.rows call) b)
    by true = widened rows a b (leave stage a.agent a.rows call) (leave stage a.agent b.rows call) h
        (alike_enter l stage a.agent a.rows b.rows call Leave end_call h.kept)
    by false = h

alike_first : Laws → (stage : Stage) (agent : Agent) (xs ys : List Row) (call : Call) (course : Course)
    → kept_rows xs ≡ kept_rows ys → Alike xs (first_entry course stage agent xs call)
    (first_entry course stage agent ys call)
alike_first l stage agent xs ys call OneNull e = alike_waiting agent xs ys e
alike_first l stage agent xs ys call OneIssue e = alike_waiting agent xs ys e
alike_first l stage agent xs ys call LookUpAndIssue e = alike_enter l stage agent xs ys call One enter_call e
alike_first l stage agent xs ys call OneFlush e = alike_waiting agent xs ys e
alike_first l stage agent xs ys call OneRequest e = alike_waiting agent xs ys e
alike_first l stage agent xs ys call ArriveAndLeave e =
    alike_then l stage xs call (enter stage agent xs call Arrive enter_call)
    (enter stage agent ys call Arrive enter_call)
    (alike_enter l stage agent xs ys call Arrive enter_call e)
alike_first l stage agent xs ys call EntryOrTested e = alike_test l stage agent xs ys call e
alike_first l stage agent xs ys call OneEntry e = alike_enter l stage agent xs ys call One end_call e

alike_entry : Laws → (stage : Stage) (agent : Agent) (xs ys : List Row) (call : Call)
    → kept_rows xs ≡ kept_rows ys → Alike xs (entry_of stage agent xs call) (entry_of stage agent ys call)
alike_entry l stage agent xs ys call e = by agent.entered
  where
    by : (flag : Bool) → Alike xs (cond flag (leave stage agent xs call)
        (first_entry (course_of agent.known.windows call) stage agent xs call))
        (cond flag (leave stage agent ys call) (first_entry (course_of agent.known.windows call) stage agent ys call))
    by true = alike_enter l stage agent xs ys call Leave end_call e
    by false = alike_first l stage agent xs ys call (course_of agent.known.windows call) e

pub alike_step : Laws → (stage : Stage) (agent : Agent) (xs ys : List Row) → kept_rows xs ≡ kept_rows ys
    → Alike xs (board_step stage agent xs) (board_step stage agent ys)
alike_step l stage agent xs ys e = by (next_call stage agent)
  where
    by : (o : Option Call) → Alike xs (option_map_or (entry_of stage agent xs) o (stay_waiting agent xs))
        (option_map_or (entry_of stage agent ys) o (stay_waiting agent ys))
    by None = alike_waiting agent xs ys e
    by (Some call) = alike_entry l stage agent xs ys call e
