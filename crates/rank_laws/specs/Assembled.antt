-- Runs that are put together from a history of each rank and one of each cell: this project's profile.
use Rattle.std.specs.Prelude.{ℕ, ◌≡◌, ◌<◌, List, length, map, slice_get, slice_index, Some}
use Rattle.std.specs.List.{list_all, AllByRecursion}
use Rattle.rma_types.specs.declared.schedules.Delay.{Delay}
use Rattle.rma_types.specs.declared.scripts.Script.{Script}
use Rattle.rma_record.specs.declared.runs.Run.{Run}
use Rattle.call_rules.specs.Layout.{layout, cells_of}
use Rattle.lawful_runs.specs.Accesses.{Touching, all_touches, on_cell}
use Rattle.lawful_runs.specs.Stages.{stage_of}
use Rattle.rank_laws.specs.CellHistories.{IsHistoryOf}
use Rattle.rank_laws.specs.Fronts.{Put}
use Rattle.rank_laws.specs.Lives.{HasLived}
use Rattle.step_runs.specs.Agents.{Agent}

-- The entries of the run with their fronts, and the ranks at its end. Each rank has a history of its own among the same
-- entries, and each cell one among the touches of all ranks.
pub record IsAssembled (script : Script) (delay : Delay) (seed : ℕ) (run : Run) : Type 0 where
  pub puts : List Put
  pub agents : List Agent
  pub ranks : length agents ≡ script.ranks
  pub owners : AllByRecursion (λ (put : Put). put.row.rank < script.ranks) puts
  pub lives : (rank : ℕ) (agent : Agent) → slice_get agents rank ≡ Some agent →
      HasLived (stage_of script delay) seed rank puts agent
  pub logs : run.logs ≡ map (λ (agent : Agent). agent.log) agents
  pub ended : run.ended ≡ list_all (λ (agent : Agent). agent.ended) agents
  pub memory : length run.memory ≡ cells_of (layout script)
  pub inside : AllByRecursion (λ (touch : Touching). touch.cell < cells_of (layout script)) (all_touches script run)
  pub values : (cell : ℕ) → ℕ → ℕ
  pub histories : (cell : ℕ) → cell < cells_of (layout script) →
      IsHistoryOf (values cell) (on_cell cell (all_touches script run)) (slice_index run.memory cell)
