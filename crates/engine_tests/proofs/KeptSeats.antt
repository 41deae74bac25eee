-- Each step keeps what a rank needs of its board and of its memory.
use Rattle.std.proofs.Common.{◌≡◌, ◌≢◌, ℕ, ◌+◌, ◌≤◌, Bool, true, false, List, [], ◌∷◌, ◌++◌, map, Option, Some}
use Rattle.std.proofs.Common.{None, refl, sym, ◌∙◌, ap, subst, arith}
use Rattle.std.specs.Prelude.{◌==◌, ◌&&◌, is_none}
use Rattle.std.specs.List.{filter}
use Rattle.std.specs.Option.{option_map_or, unwrap_or}
use Rattle.std.proofs.lemmas.List.{append-nil}
use Rattle.std.proofs.lemmas.List.Concat.{flat_map-append}
use Rattle.rma_types.specs.declared.schedules.Delay.{Delay}
use Rattle.rma_types.specs.declared.scripts.Script.{Script}
use Rattle.access_steps.specs.TouchesMade.{MadeTouch, item_of}
use Rattle.board_rules.specs.Entries.{Row}
use Rattle.call_rules.specs.Layout.{cells_of}
use Rattle.call_rules.specs.WellFormed.{IsWellFormed}
use Rattle.call_rules.specs.declared.cells.Cell.{Cell}
use Rattle.cell_face.specs.Faces.{Face, cell_count}
use Rattle.kept_rows.specs.KeptCalls.{kept_row}
use Rattle.lawful_runs.specs.Logs.{row_by}
use Rattle.lawful_runs.specs.Stages.{Stage}
use Rattle.rank_engine.specs.BoardAnswers.{IsBoardAnswer, StepsAtBoard}
use Rattle.rank_engine.specs.DataAnswers.{Drains, GivesRoom, HasRoom, IsDataAnswer, IsDelivered, IsDrainAnswer}
use Rattle.rank_engine.specs.DataAnswers.{StepsOnMemory, is_again}
use Rattle.rank_engine.specs.RankStates.{RankState, delivery_of, moved, needs_entry, new_state, own_move}
use Rattle.rank_engine.specs.Shares.{updates_ahead}
use Rattle.rank_engine.specs.declared.answers.Turned.{Turned}
use Rattle.rank_engine.specs.declared.answers.Turned.TheVariants.{Did, NotYet, Again, Full, Ended}
use Rattle.rank_runners.proofs.FirstWorlds.{few_cells}
use Rattle.rank_runners.proofs.Onward.{PutsNone, board_goes_on, entries_in, move_puts_none}
use Rattle.rank_runners.proofs.Turned.{rows_stay}
use Rattle.step_runs.specs.Agents.{Agent, tries_entry}
use Rattle.step_runs.specs.DataSteps.{just_delivers, move_of}
use Rattle.sync_board.specs.Boards.{BoardState, rows_on}
use Rattle.engine_tests.specs.Seated.{GoesOn, GoesOnAlone, IsSeated, MeetsGains, first_board}

-- ---- before the first step

pub first_seat : (script : Script) (delay : Delay) (seed rank share free : ℕ) (home : List ℕ) (board : BoardState)
    (face : Face) → IsWellFormed script → GivesRoom script rank share → 16384 ≤ cell_count face →
    share ≤ face.share → board ≡ first_board script face.name →
    IsSeated (new_state script delay seed rank free home) board face
first_seat script delay seed rank share free home board face formed gives cells enough is =
    let few = few_cells script formed in
    subst (λ (b : BoardState). IsSeated (new_state script delay seed rank free home) b face) (sym is) (record {
      of_run = record { ranks = refl; layout = refl; rows = refl; name = refl };
      room = gives delay seed free home face (omega (arith, few, cells)) enough;
    })

-- ---- at the board

seated_on : (before after : RankState) (waits : Bool) (board board_after : BoardState) (face face_after : Face) →
    IsSeated before board face → StepsAtBoard before after waits board board_after face face_after →
    IsSeated after board_after face_after
seated_on before after waits board board_after face face_after seated steps =
    let stage : after.stage ≡ before.stage = ap (λ (one : RankState). one.stage) steps.rank in
    let cells : cells_of after.stage.layout ≡ cells_of before.stage.layout =
    ap (λ (one : Stage). cells_of one.layout) stage in
    let stays = steps.unwritten.stays.cells in
    let had = seated.room.cells in
    let share = steps.unwritten.share in
    let ahead = steps.ahead in
    let enough = seated.room.share in
    record {
      of_run = record {
        ranks = ap (λ (one : BoardState). one.ranks) steps.entries ∙ seated.of_run.ranks
            ∙ ap (λ (one : Stage). one.script.ranks) (sym stage);
        layout = ap (λ (one : BoardState). one.layout) steps.entries ∙ seated.of_run.layout
            ∙ ap (λ (one : Stage). one.layout) (sym stage);
        rows = steps.own;
        name = ap (λ (one : BoardState). one.name) steps.entries ∙ seated.of_run.name
            ∙ sym steps.unwritten.stays.name;
      };
      room = record {
        cells = omega (arith, cells, stays, had);
        share = omega (arith, share, ahead, enough);
      };
    }

entry_made : (before after : RankState) (waits : Bool) (board board_after : BoardState) (face face_after : Face) →
    IsSeated before board face → StepsAtBoard before after waits board board_after face face_after →
    GoesOn before after board board_after face_after
entry_made before after waits board board_after face face_after seated steps = record {
  number = ap (λ (one : RankState). one.agent.rank) steps.rank
      ∙ (board_goes_on before.stage before.agent (rows_on board)).rank;
  seated = seated_on before after waits board board_after face face_after seated steps;
  others = λ other one apart there. record {
    ranks = ap (λ (b : BoardState). b.ranks) steps.entries ∙ there.ranks;
    layout = ap (λ (b : BoardState). b.layout) steps.entries ∙ there.layout;
    rows = rows_stay before.agent.rank other.agent.rank board board_after steps.given apart steps.of_rank
        steps.entries ∙ there.rows;
    name = ap (λ (b : BoardState). b.name) steps.entries ∙ there.name;
  };
}

-- a log in memory always has room
pub entry_goes : (turned : Turned) (before after : RankState) (board board_after : BoardState)
    (face face_after : Face) → before.free ≡ 4294967295 → IsSeated before board face →
    IsBoardAnswer turned before after board board_after face face_after →
    GoesOn before after board board_after face_after × MeetsGains before board board_after face_after
entry_goes Did before after board board_after face face_after free seated h =
    (entry_made before after false board board_after face face_after seated h.1, h.1.gains)
entry_goes NotYet before after board board_after face face_after free seated h =
    (entry_made before after true board board_after face face_after seated h.1, h.1.gains)
entry_goes Again before after board board_after face face_after free seated h = absurd h
entry_goes Full before after board board_after face face_after free seated h =
    let low = h.0 in absurd (omega (arith, low, free))
entry_goes Ended before after board board_after face face_after free seated h = absurd h

-- ---- on memory

-- what a rank leaves as it was that puts no entry
record Leaves (before after : RankState) (face face_after : Face) : Type 0 where
  stage : after.stage ≡ before.stage
  none : PutsNone before.stage.script before.agent after.agent
  cells : cell_count face_after ≡ cell_count face
  name : face_after.name ≡ face.name

touches_put_none : (script : Script) (rank issue : ℕ) (touches : List MadeTouch) →
    entries_in script rank (map (item_of issue) touches) ≡ []
touches_put_none script rank issue [] = refl
touches_put_none script rank issue (touch ∷ touches) =
    flat_map-append (row_by script rank) (item_of issue touch ∷ []) (map (item_of issue) touches)
    ∙ touches_put_none script rank issue touches

delivered : (place : Option ℕ) (before after : RankState) (done : Bool) (face face_after : Face)
    (knows : ℕ → Cell → Type 0) → IsDelivered place before after done face face_after knows →
    Leaves before after face face_after
delivered None before after done face face_after knows h =
    let same : after.agent ≡ before.agent = ap (λ (one : RankState). one.agent) h.0 in
    record {
      stage = ap (λ (one : RankState). one.stage) h.0;
      none = record {
        rank = ap (λ (one : Agent). one.rank) same;
        entries = ap (λ (one : Agent). entries_in before.stage.script before.agent.rank one.log) same;
      };
      cells = ap cell_count h.2;
      name = ap (λ (one : Face). one.name) h.2;
    }
delivered (Some at) before after done face face_after knows h =
    let script = before.stage.script in
    let rank = before.agent.rank in
    let kept = h.1.touches in
    record {
      stage = ap (λ (one : RankState). one.stage) h.0;
      none = record {
        rank = ap (λ (one : RankState). one.agent.rank) h.0;
        entries = ap (entries_in script rank) kept.items
            ∙ flat_map-append (row_by script rank) before.agent.log (map (item_of h.1.one.index) kept.touches)
            ∙ ap (λ (rows : List Row). entries_in script rank before.agent.log ++ rows)
            (touches_put_none script rank h.1.one.index kept.touches)
            ∙ append-nil (entries_in script rank before.agent.log);
      };
      cells = kept.made.stays.cells;
      name = kept.made.stays.name;
    }

own_move_puts_none : (state : RankState) → PutsNone state.stage.script state.agent (own_move state).agent
own_move_puts_none state = by state.opened
  where
    by : (opened : Option ℕ) → PutsNone state.stage.script state.agent
        (option_map_or (just_delivers state.agent) opened (move_of state.stage state.agent)).agent
    by None = move_puts_none state.stage state.agent
    by (Some at) = record { rank = refl; entries = refl }

-- a step: what the rank does by itself, and then a delivery
stepped : (before after : RankState) (done : Bool) (face face_after : Face) (knows : ℕ → Cell → Type 0) →
    StepsOnMemory before after done face face_after knows → Leaves before after face face_after
stepped before after done face face_after knows steps =
    let script = before.stage.script in
    let own = own_move_puts_none before in
    let then = delivered (delivery_of (own_move before)) (moved before) after done face face_after knows
    steps.delivered in
    record {
      stage = then.stage;
      none = record {
        rank = then.none.rank ∙ own.rank;
        entries = ap (λ rank. entries_in script rank after.agent.log) (sym own.rank) ∙ then.none.entries
            ∙ ap (λ rank. entries_in script rank (own_move before).agent.log) own.rank ∙ own.entries;
      };
      cells = then.cells;
      name = then.name;
    }

room_left : (before after : RankState) (face face_after : Face) → HasRoom before face →
    after.stage ≡ before.stage → cell_count face_after ≡ cell_count face →
    face.share + updates_ahead after ≤ face_after.share + updates_ahead before → HasRoom after face_after
room_left before after face face_after room stage count share =
    let cells : cells_of after.stage.layout ≡ cells_of before.stage.layout =
    ap (λ (one : Stage). cells_of one.layout) stage in
    let had = room.cells in
    let enough = room.share in
    record { cells = omega (arith, cells, count, had); share = omega (arith, share, enough) }

step_made : (before after : RankState) (done : Bool) (face face_after : Face) (knows : ℕ → Cell → Type 0) →
    StepsOnMemory before after done face face_after knows → GoesOnAlone before after face face_after
step_made before after done face face_after knows steps board seated =
    let left = stepped before after done face face_after knows steps in
    let rank = left.none.rank in
    record {
      number = rank;
      seated = record {
        of_run = record {
          ranks = seated.of_run.ranks ∙ ap (λ (one : Stage). one.script.ranks) (sym left.stage);
          layout = seated.of_run.layout ∙ ap (λ (one : Stage). one.layout) (sym left.stage);
          rows = ap (λ n. filter (λ (row : Row). row.rank == n) (rows_on board)) rank ∙ seated.of_run.rows
              ∙ ap (λ (rows : List Row). map kept_row rows) (sym (
              ap (λ (one : Stage). entries_in one.script after.agent.rank after.agent.log) left.stage
              ∙ ap (λ n. entries_in before.stage.script n after.agent.log) rank ∙ left.none.entries));
          name = seated.of_run.name ∙ sym left.name;
        };
        room = room_left before after face face_after seated.room left.stage left.cells steps.share;
      };
      others = λ other one apart there. there;
    }

pub step_goes : (turned : Turned) (before after : RankState) (face face_after : Face) (knows : ℕ → Cell → Type 0) →
    IsDataAnswer turned before after face face_after knows → GoesOnAlone before after face face_after
step_goes Did before after face face_after knows h = step_made before after true face face_after knows h.2
step_goes NotYet before after face face_after knows h = absurd h
step_goes Again before after face face_after knows h = step_made before after false face face_after knows h.2
step_goes Full before after face face_after knows h = λ board seated.
    let same : IsSeated after board face_after =
    subst (λ (state : RankState). IsSeated state board face_after) (sym h.1)
    (subst (λ (one : Face). IsSeated before board one) (sym h.2) seated) in
    record {
      number = ap (λ (one : RankState). one.agent.rank) h.1;
      seated = same;
      others = λ other one apart there. there;
    }
step_goes Ended before after face face_after knows h = step_made before after true face face_after knows h.2

-- where an attempt came too late, the delivery is begun: no entry is tried before it is done
pub stays_open : (turned : Turned) (before after : RankState) (face face_after : Face) (knows : ℕ → Cell → Type 0) →
    IsDataAnswer turned before after face face_after knows → is_again turned ≡ true → needs_entry after ≡ false
stays_open Did before after face face_after knows h again = absurd (cc again)
stays_open NotYet before after face face_after knows h again = absurd h
stays_open Again before after face face_after knows h again =
    by (delivery_of (own_move before)) h.2.delivered
  where
    by : (place : Option ℕ) → IsDelivered place (moved before) after false face face_after knows →
        needs_entry after ≡ false
    by None d = let never = d.1 in absurd (cc never)
    by (Some at) d = ap (λ (opened : Option ℕ). is_none opened && tries_entry after.stage after.agent)
        (ap (λ (one : RankState). one.opened) d.0)
stays_open Full before after face face_after knows h again = absurd (cc again)
stays_open Ended before after face face_after knows h again = absurd (cc again)

-- ---- a drain

drained : (before after : RankState) (done : Bool) (face face_after : Face) (knows : ℕ → Cell → Type 0) →
    HasRoom before face → Drains before after done face face_after knows → HasRoom after face_after
drained before after done face face_after knows room drains =
    let left = delivered (Some (unwrap_or before.opened 0)) before after done face face_after knows drains.delivered in
    room_left before after face face_after room left.stage left.cells drains.share

pub drain_goes : (turned : Turned) (before after : RankState) (face face_after : Face) (knows : ℕ → Cell → Type 0) →
    HasRoom before face → IsDrainAnswer turned before after face face_after knows → HasRoom after face_after
drain_goes Did before after face face_after knows room h = drained before after true face face_after knows room h.1
drain_goes NotYet before after face face_after knows room h = absurd h
drain_goes Again before after face face_after knows room h = drained before after false face face_after knows room h.1
drain_goes Full before after face face_after knows room h = absurd h
drain_goes Ended before after face face_after knows room h =
    subst (λ (state : RankState). HasRoom state face_after) (sym h.1)
    (subst (λ (one : Face). HasRoom before one) (sym h.2) room)

-- ---- several steps

pub goes_nowhere : (state : RankState) (board : BoardState) (face : Face) → IsSeated state board face →
    GoesOn state state board board face
goes_nowhere state board face seated =
    record { number = refl; seated = seated; others = λ other one apart there. there }

pub goes_further : (first second third : RankState) (board between last : BoardState) (face face_after : Face) →
    GoesOn first second board between face → GoesOn second third between last face_after →
    GoesOn first third board last face_after
goes_further first second third board between last face face_after one two = record {
  number = two.number ∙ one.number;
  seated = two.seated;
  others = λ other there apart is. two.others other there (λ same. apart (same ∙ one.number))
      (one.others other there apart is);
}

-- a rank waits while another takes steps
pub still_seated : (before after state : RankState) (board board_after : BoardState) (face face_after : Face) →
    GoesOn before after board board_after face_after → state.agent.rank ≢ before.agent.rank →
    IsSeated state board face → IsSeated state board_after face
still_seated before after state board board_after face face_after goes apart seated =
    record { of_run = goes.others state face apart seated.of_run; room = seated.room }
