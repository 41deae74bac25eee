-- After any number of turns the accesses of all ranks lie in memory, and the ranks and the board agree on the numbers
-- of windows.
use Rattle.std.proofs.Common.{◌≡◌, ℕ, ◌+◌, ◌<◌, ◌≤◌, inl, inr, Bool, true, false, cond, List, [], ◌∷◌, ◌++◌, length}
use Rattle.std.proofs.Common.{get_or, refl, sym, ◌∙◌, ap, subst, arith}
use Rattle.std.specs.Prelude.{slice_set, slice_index_or, ◌==◌}
use Rattle.std.specs.List.{count_by, AllByRecursion}
use Rattle.rma_types.specs.declared.calls.Flavor.TheVariants.{Dynamic}
use Rattle.rma_types.specs.declared.schedules.Delay.{Delay}
use Rattle.rma_types.specs.declared.schedules.Order.{Order}
use Rattle.rma_types.specs.declared.scripts.Script.{Script}
use Rattle.board_rules.specs.Entries.{Row, creations}
use Rattle.call_rules.specs.Layout.{layout}
use Rattle.call_rules.specs.WellFormed.{IsWellFormed}
use Rattle.lawful_runs.specs.Stages.{Stage, stage_of}
use Rattle.step_runs.specs.Agents.{Agent, new_agent, tries_entry}
use Rattle.step_runs.specs.BoardSteps.{AtBoard, board_step}
use Rattle.step_runs.specs.DataSteps.{data_step, move_of}
use Rattle.step_runs.specs.StepRun.{World, agent_at, turn_at_board, turn_on_memory, run_from, first_world}
use Rattle.step_laws.proofs.EntryMoves.{EntryMoves, moves_keep, board_step_moves}
use Rattle.step_laws.proofs.Flavors.{AreRegular}
use Rattle.step_laws.proofs.Lists.{each_set_apart}
use Rattle.step_laws.proofs.Memory.{space_has_memory}
use Rattle.step_laws.proofs.Sound.{IsSoundRank}
use Rattle.step_laws.proofs.SoundEntries.{entry_keeps}
use Rattle.step_laws.proofs.OwnEntries.{IsSoundAt}
use Rattle.step_laws.proofs.SoundSteps.{move_sound, step_sound}
use Rattle.step_laws.proofs.Turns.{MayTurn, KeptByPicks, KeptAtBoard, KeptOnMemory, turns_kept, run_keeps, IsRegular}
use Rattle.step_laws.proofs.Turns.{regular_picks, regular_at_board, regular_on_memory, first_is_regular, at_first}
use Rattle.step_laws.specs.Inside.{bytes_at, world_after, AccessesLieInMemory, WindowNumbersAgree}

-- the entries are regular, and each rank is sound
pub record IsSoundWorld (script : Script) (delay : Delay) (world : World) : Type 0 where
  pub ranks : IsRegular (stage_of script delay) world
  pub rows : AreRegular script world.rows
  pub each : (rank : ℕ) → rank < script.ranks → IsSoundRank script delay rank
      (agent_at (stage_of script delay) world rank) world.rows

pub sound_picks : (script : Script) (delay : Delay) → KeptByPicks (IsSoundWorld script delay)
sound_picks script delay world schedule same sound = record {
  ranks = regular_picks (stage_of script delay) world schedule same sound.ranks;
  rows = sound.rows;
  each = sound.each;
}

pub sound_at_board : (script : Script) (delay : Delay) → IsWellFormed script →
    KeptAtBoard (stage_of script delay) (IsSoundWorld script delay)
sound_at_board script delay formed world rank may tries sound = record {
  ranks = regular_at_board stage world rank may tries sound.ranks;
  rows = after.regular;
  each = λ other below. each_set_apart (λ r (a : Agent). r < script.ranks → IsSoundRank script delay r a step.rows)
      world.agents (new_agent stage 0) rank step.agent
      (subst (λ n. rank < n) (sym sound.ranks.ranks) may.0) (λ _. after.sound)
      (λ r apart below'. after.others r (agent_at stage world r) apart (sound.each r below')) other below;
}
  where
    stage : Stage
    stage = stage_of script delay

    agent : Agent
    agent = agent_at stage world rank

    step : AtBoard
    step = board_step stage agent world.rows

    after : IsSoundAt script delay rank world.rows step.agent step.rows
    after = moves_keep stage (IsSoundAt script delay rank world.rows)
        (λ a next rows now at move. entry_keeps script delay rank world.rows formed may.0 a next rows now at move)
        agent step.agent world.rows step.rows
        (record {
          sound = sound.each rank may.0;
          regular = sound.rows;
          begun = sound.ranks.begun rank;
          others =
              λ other a apart old. old;
        })
        (board_step_moves stage agent world.rows (sound.ranks.begun rank) tries)

pub sound_on_memory : (script : Script) (delay : Delay) → KeptOnMemory (stage_of script delay)
    (IsSoundWorld script delay)
sound_on_memory script delay world rank may tries sound =
    let stage = stage_of script delay in
    let agent = agent_at stage world rank in
    let next = (data_step stage agent world.cells).agent in
    record {
      ranks = regular_on_memory stage world rank may tries sound.ranks;
      rows = sound.rows;
      each = λ other below. each_set_apart
          (λ r (a : Agent). r < script.ranks → IsSoundRank script delay r a world.rows) world.agents
          (new_agent stage 0) rank next
          (subst (λ n. rank < n) (sym sound.ranks.ranks) may.0)
          (λ _. step_sound script delay rank agent world.rows world.cells (sound.each rank may.0))
          (λ r apart below'. sound.each r below') other below;
    }

new_sound : (script : Script) (delay : Delay) → IsWellFormed script → (rank some : ℕ) → rank < script.ranks →
    IsSoundRank script delay rank (new_agent (stage_of script delay) some rank) []
new_sound script delay formed rank some below = record {
  mine = refl;
  whose = refl;
  space = space_has_memory script rank (subst (λ n. rank < n) (sym formed.spaces) below)
      (subst (λ n. rank < n) (sym formed.lists) below);
  roomy = record { windows = tt; ranges = tt };
  numbers = λ win. refl;
  arrived = λ e. absurd (cc e);
  looked = λ e. absurd (cc e);
  pending = tt;
}

pub first_is_sound : (script : Script) (order : Order) (delay : Delay) (seed : ℕ) → IsWellFormed script →
    IsSoundWorld script delay (first_world (stage_of script delay) order seed)
first_is_sound script order delay seed formed = record {
  ranks = first_is_regular (stage_of script delay) order seed;
  rows = record { sound = tt; numbered = tt; flavors = λ window. (Dynamic, tt) };
  each = at_first (stage_of script delay) order seed
      (λ rank agent. rank < script.ranks → IsSoundRank script delay rank agent [])
      (λ rank some below. new_sound script delay formed rank some below);
}

-- each state of a run is sound
pub run_is_sound : (script : Script) (order : Order) (delay : Delay) (seed turns : ℕ) → IsWellFormed script →
    IsSoundWorld script delay (world_after script order delay seed turns)
run_is_sound script order delay seed turns formed =
    let stage = stage_of script delay in
    run_keeps stage order (IsSoundWorld script delay) (sound_picks script delay)
    (turns_kept stage (IsSoundWorld script delay) (sound_at_board script delay formed) (sound_on_memory script delay))
    turns (first_world stage order seed)
    (first_is_sound script order delay seed formed)

pub accesses_lie : AccessesLieInMemory
accesses_lie script order delay seed turns rank formed below =
    let world = world_after script order delay seed turns in
    let sound = (run_is_sound script order delay seed turns formed).each rank below in (
      sound.pending,
      λ tries.
          (move_sound script delay rank (agent_at (stage_of script delay) world rank) world.rows sound).pending,
    )

pub numbers_agree : WindowNumbersAgree
numbers_agree script order delay seed turns rank win formed below =
    ((run_is_sound script order delay seed turns formed).each rank below).numbers win
