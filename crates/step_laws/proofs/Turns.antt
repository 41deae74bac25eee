-- What every turn keeps holds at the end of a run.
use Rattle.std.proofs.Common.{◌≡◌, ℕ, zero, suc, ◌+◌, ◌<◌, Bool, true, false, cond, not, List, [], ◌∷◌, length, Option}
use Rattle.std.proofs.Common.{Some, None, refl, sym, ◌∙◌, ap, subst, arith, length-set, get_or, get_or-set_same}
use Rattle.std.specs.Prelude.{◌&&◌, map, slice_set}
use Rattle.std.specs.Option.{option_map_or}
use Rattle.std.proofs.lemmas.Bool.{and_parts, not-true}
use Rattle.std.proofs.lemmas.List.{length-map}
use Rattle.rma_types.specs.declared.schedules.Order.{Order}
use Rattle.call_rules.specs.declared.cells.Cell.{Cell}
use Rattle.call_rules.specs.Pieces.{numbers_from}
use Rattle.call_rules.specs.Ranks.{is_member}
use Rattle.call_rules.proofs.NumbersFrom.{numbers_length}
use Rattle.board_rules.specs.Entries.{Row}
use Rattle.lawful_runs.specs.Stages.{Stage}
use Rattle.rank_rules.specs.declared.pending.PendingAccess.{PendingAccess}
use Rattle.step_runs.specs.Agents.{Agent, new_agent, tries_entry}
use Rattle.step_runs.specs.BoardSteps.{AtBoard, board_step}
use Rattle.step_runs.specs.DataSteps.{OnMemory, data_step, deliver}
use Rattle.step_runs.specs.Schedules.{Schedule, pick}
use Rattle.step_runs.specs.StepRun.{World, agent_at, turn_at_board, turn_on_memory, turn, is_ready, picked_turn}
use Rattle.step_runs.specs.StepRun.{run_from, first_world}
use Rattle.step_laws.proofs.DataBegun.{data_begun}
use Rattle.step_laws.proofs.EntryMoves.{HasBegun, EntryMoves, board_step_moves, moves_keep, begun_kept}
use Rattle.step_laws.proofs.Lists.{each_set}
use Rattle.step_laws.proofs.Picks.{MayGo, pick_is}

-- the rank may have the turn
abbrev pub MayTurn : Stage → World → ℕ → Type 0
MayTurn stage world rank = MayGo (is_ready stage world) stage.script.ranks rank

abbrev pub with_schedule : World → Schedule → World
with_schedule world schedule = record world { schedule = schedule }

-- P is kept by a pick
abbrev pub KeptByPicks : (World → Type 0) → Type 0
KeptByPicks P = (world : World) (schedule : Schedule) → schedule.waiting ≡ world.schedule.waiting → P world →
    P (with_schedule world schedule)

-- P is kept by each turn
abbrev pub KeptByTurns : Stage → (World → Type 0) → Type 0
KeptByTurns stage P = (world : World) (rank : ℕ) → MayTurn stage world rank → P world → P (turn stage world rank)

-- who waits is as it was, so who is ready is
pub picked_may_turn : (stage : Stage) (world : World) (schedule : Schedule) (rank : ℕ) →
    schedule.waiting ≡ world.schedule.waiting → MayTurn stage world rank →
    MayTurn stage (with_schedule world schedule) rank
picked_may_turn stage world schedule rank same may =
    (may.0, ap (λ waiting. not (agent_at stage world rank).ended && not (is_member rank waiting)) same ∙ may.1)

-- what picks and turns keep holds after any number of turns
pub run_keeps : (stage : Stage) (order : Order) (P : World → Type 0) → KeptByPicks P → KeptByTurns stage P →
    (turns : ℕ) (world : World) → P world →
    P (run_from stage order turns world)
run_keeps stage order P picks turns_keep zero world old = old
run_keeps stage order P picks turns_keep (suc turns) world old =
    let go : (o : Option (ℕ × Schedule)) → pick order (is_ready stage world) stage.script.ranks world.schedule ≡ o →
    P (option_map_or (λ picked. run_from stage order turns (picked_turn stage world picked)) o world) =
    λ o. elim o as (λ o. pick order (is_ready stage world) stage.script.ranks world.schedule ≡ o →
    P (option_map_or (λ picked. run_from stage order turns (picked_turn stage world picked)) o world)) [
      | None ↦ λ e. old
      | Some next ↦ λ e.
          let is = pick_is order (is_ready stage world) stage.script.ranks world.schedule next e in
          run_keeps stage order P picks turns_keep turns (turn stage (with_schedule world next.1) next.0)
          (turns_keep (with_schedule world next.1) next.0 (picked_may_turn stage world next.1 next.0 is.1 is.0)
          (picks world next.1 is.1 old))
    ] in
    go (pick order (is_ready stage world) stage.script.ranks world.schedule) refl

pub not_ended : (stage : Stage) (world : World) (rank : ℕ) → is_ready stage world rank ≡ true →
    ((agent_at stage world rank).ended ≡ false) × (is_member rank world.schedule.waiting ≡ false)
not_ended stage world rank e =
    let parts = and_parts (not (agent_at stage world rank).ended) (not (is_member rank world.schedule.waiting)) e in
    (not-true (agent_at stage world rank).ended parts.0, not-true (is_member rank world.schedule.waiting) parts.1)

-- ---- each turn is a step at the board or one on memory

-- P is kept by a turn of a rank at the board, where the rank tries an entry
abbrev pub KeptAtBoard : Stage → (World → Type 0) → Type 0
KeptAtBoard stage P = (world : World) (rank : ℕ) → MayTurn stage world rank →
    tries_entry stage (agent_at stage world rank) ≡ true → P world →
    P (turn_at_board world rank (board_step stage (agent_at stage world rank) world.rows))

-- P is kept by a turn of a rank on memory, where the rank tries none
abbrev pub KeptOnMemory : Stage → (World → Type 0) → Type 0
KeptOnMemory stage P = (world : World) (rank : ℕ) → MayTurn stage world rank →
    tries_entry stage (agent_at stage world rank) ≡ false → P world →
    P (turn_on_memory world rank (data_step stage (agent_at stage world rank) world.cells))

pub turns_kept : (stage : Stage) (P : World → Type 0) → KeptAtBoard stage P → KeptOnMemory stage P → KeptByTurns stage P
turns_kept stage P at_board on_memory world rank may old = by_tries (tries_entry stage (agent_at stage world rank)) refl
  where
    by_tries : (b : Bool) → tries_entry stage (agent_at stage world rank) ≡ b →
        P (cond b (turn_at_board world rank (board_step stage (agent_at stage world rank) world.rows))
        (turn_on_memory world rank (data_step stage (agent_at stage world rank) world.cells)))
    by_tries true e = at_board world rank may e old
    by_tries false e = on_memory world rank may e old

-- ---- the ranks of a state

-- as many ranks as the script has, and no rank refuses a call of which the first part is done
pub record IsRegular (stage : Stage) (world : World) : Type 0 where
  pub ranks : length world.agents ≡ stage.script.ranks
  pub begun : (rank : ℕ) → HasBegun stage (agent_at stage world rank)

pub regular_picks : (stage : Stage) → KeptByPicks (IsRegular stage)
regular_picks stage world schedule same regular = record { ranks = regular.ranks; begun = regular.begun }

pub regular_at_board : (stage : Stage) → KeptAtBoard stage (IsRegular stage)
regular_at_board stage world rank may tries regular =
    let agent = agent_at stage world rank in
    let step = board_step stage agent world.rows in
    record {
      ranks = length-set world.agents rank step.agent ∙ regular.ranks;
      begun = each_set (λ _ (a : Agent). HasBegun stage a) world.agents (new_agent stage 0) rank step.agent
          (moves_keep stage (λ a rows. HasBegun stage a)
          (λ a next rows now old move. begun_kept stage a next rows now move)
          agent step.agent world.rows step.rows (regular.begun rank)
          (board_step_moves stage agent world.rows (regular.begun rank) tries)) regular.begun;
    }

pub regular_on_memory : (stage : Stage) → KeptOnMemory stage (IsRegular stage)
regular_on_memory stage world rank may tries regular =
    let agent = agent_at stage world rank in
    let step = data_step stage agent world.cells in
    record {
      ranks = length-set world.agents rank step.agent ∙ regular.ranks;
      begun = each_set (λ _ (a : Agent). HasBegun stage a) world.agents (new_agent stage 0) rank step.agent
          (data_begun stage agent world.cells (regular.begun rank)) regular.begun;
    }

pub regular_turns : (stage : Stage) → KeptByTurns stage (IsRegular stage)
regular_turns stage = turns_kept stage (IsRegular stage) (regular_at_board stage) (regular_on_memory stage)

-- a fact of new ranks
pub new_agents_at : (stage : Stage) (seed : ℕ) (P : ℕ → Agent → Type 0) →
    ((rank some : ℕ) → P rank (new_agent stage some rank)) → (first count at : ℕ) →
    P (first + at) (get_or (map (new_agent stage seed) (numbers_from first count)) at (new_agent stage 0 (first + at)))
new_agents_at stage seed P each first zero at = each (first + at) 0
new_agents_at stage seed P each first (suc count) zero = subst (λ n. P n (new_agent stage seed first)) (omega arith)
    (each first seed)
new_agents_at stage seed P each first (suc count) (suc at) =
    subst (λ n. P n (get_or (map (new_agent stage seed) (numbers_from (first + 1) count)) at (new_agent stage 0 n)))
    (omega arith)
    (new_agents_at stage seed P each (first + 1) count at)

pub at_first : (stage : Stage) (order : Order) (seed : ℕ) (P : ℕ → Agent → Type 0) →
    ((rank some : ℕ) → P rank (new_agent stage some rank)) → (rank : ℕ) →
    P rank (agent_at stage (first_world stage order seed) rank)
at_first stage order seed P each rank =
    subst (λ n. P n (get_or (first_world stage order seed).agents rank (new_agent stage 0 n))) (omega arith)
    (new_agents_at stage seed P each 0 stage.script.ranks rank)

pub first_is_regular : (stage : Stage) (order : Order) (seed : ℕ) → IsRegular stage (first_world stage order seed)
first_is_regular stage order seed = record {
  ranks = length-map (numbers_from 0 stage.script.ranks) (new_agent stage seed) ∙ numbers_length 0 stage.script.ranks;
  begun = at_first stage order seed (λ _ a. HasBegun stage a) (λ rank some e. absurd (cc e));
}
