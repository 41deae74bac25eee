-- That the logs of assembled runs have the items of their calls: this project's record of a run.
use Rattle.std.specs.Prelude.{ℕ, ◌<◌}
use Rattle.rma_types.specs.declared.schedules.Delay.{Delay}
use Rattle.rma_types.specs.declared.scripts.Script.{Script}
use Rattle.rma_record.specs.declared.runs.Run.{Run}
use Rattle.lawful_runs.specs.CallItems.{HasItemsOfCalls, other_items}
use Rattle.lawful_runs.specs.LawfulRun.{rank_in}
use Rattle.lawful_runs.specs.Logs.{log_of}
use Rattle.rank_laws.specs.Assembled.{IsAssembled}

-- each log has the items of the calls of its rank, in their order, up to its end or to where the rank stands
abbrev pub AssembledRunsHaveItemsOfCalls : Type 0
AssembledRunsHaveItemsOfCalls = (script : Script) (delay : Delay) (seed : ℕ) (run : Run) →
    IsAssembled script delay seed run → (rank : ℕ) → rank < script.ranks →
    HasItemsOfCalls (rank_in script delay run rank) (other_items (log_of run rank))
