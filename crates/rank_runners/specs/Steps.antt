-- A step of one rank on a memory that one thread uses alone.
use Rattle.std.specs.Prelude.{◌≡◌, ◌+◌, ◌≤◌, Bool, true, false}
use Rattle.cell_face.specs.PlainCells.{PlainCells}
use Rattle.rank_engine.specs.RankStates.{RankState, IsBetween}
use Rattle.rank_engine.specs.Shares.{updates_ahead}
use Rattle.step_runs.specs.Agents.{has_pending}
use Rattle.step_runs.specs.DataSteps.{OnMemory, data_step, deliver}

-- the rank and the cells are those of the definition's step
pub record IsMade (step : OnMemory) (before after : RankState) (memory memory_after : PlainCells) : Type 0 where
  pub stage : after.stage ≡ before.stage
  pub agent : after.agent ≡ step.agent
  pub cells : memory_after.cells ≡ step.cells
  pub between : IsBetween after
  pub share : memory.share + updates_ahead after ≤ memory_after.share + updates_ahead before

abbrev pub IsStep : RankState → RankState → PlainCells → PlainCells → Type 0
IsStep before after memory memory_after =
    IsMade (data_step before.stage before.agent memory.cells) before after memory memory_after

-- the first pending access was delivered, or there was none, and nothing changed
abbrev pub IsDelivery : Bool → RankState → RankState → PlainCells → PlainCells → Type 0
IsDelivery true before after memory memory_after =
    (has_pending before.agent ≡ true)
    × IsMade (deliver before.stage before.agent memory.cells 0) before after memory memory_after
IsDelivery false before after memory memory_after =
    (has_pending before.agent ≡ false) × (after ≡ before) × (memory_after.cells ≡ memory.cells)
    × (memory_after.share ≡ memory.share)
