-- The end of a run of ranks that share the board and the cells: this project's profile of MPI 3.1, sections 11.5 and
-- 11.7.
use Rattle.std.specs.Prelude.{ℕ, ◌≡◌, ◌<◌, List, map, length, slice_get, slice_index, sum_by, Some}
use Rattle.std.specs.List.{count_by, list_all, AllByRecursion}
use Rattle.rma_types.specs.declared.schedules.Delay.{Delay}
use Rattle.rma_types.specs.declared.scripts.Script.{Script}
use Rattle.rma_record.specs.declared.runs.Run.{Run}
use Rattle.call_rules.specs.Layout.{layout, cells_of}
use Rattle.cell_face.specs.Faces.{Update}
use Rattle.cell_words.specs.Histories.{cell_bits, IsUpdate, IsState, is_of, is_at, once_below}
use Rattle.kept_rows.specs.Gifts.{Given}
use Rattle.lawful_runs.specs.LawfulRun.{IsLawful}
use Rattle.lawful_runs.specs.Stages.{stage_of}
use Rattle.order_rules.specs.OrderedReads.{TouchesAgree}
use Rattle.rank_laws.specs.Assembled.{IsAssembled}
use Rattle.step_histories.specs.LogTouches.{touches_at}
use Rattle.step_runs.specs.Agents.{Agent}
use Rattle.rank_histories.specs.Among.{HasLivedAmong}
use Rattle.rank_histories.specs.Recorded.{IsFound, updates_by}

-- What the cells are when nobody holds them any more. made: the updates of each rank. Each place of a cell is that of one
-- of them, and each is so in the history of its cell.
pub record AreClosed (cells : ℕ) (finals : List ℕ) (made : List (List Update)) : Type 0 where
  pub init : List ℕ
  pub left : ℕ → List ℕ
  pub count : length finals ≡ cells
  pub empty : (cell : ℕ) → slice_index init cell ≡ 0
  pub final : (cell : ℕ) → cell < cells → slice_index finals cell ≡ cell_bits init left cell (length (left cell))
  pub counts : (cell : ℕ) → sum_by (λ (updates : List Update). count_by (is_of cell) updates) made ≡ length (left cell)
  pub places : (cell place : ℕ) →
      sum_by (λ (updates : List Update). count_by (is_at cell place) updates) made
      ≡ once_below place (length (left cell))
  pub updates : AllByRecursion (λ (updates : List Update). AllByRecursion (IsUpdate init left) updates) made

-- Each rank has a history among the same entries, the closed cells tell of it the updates that its touches are, and the
-- touches found states of the cells.
pub record HasEnded (script : Script) (delay : Delay) (seed : ℕ) (run : Run) : Type 0 where
  pub entries : List Given
  pub agents : List Agent
  pub ranks : length agents ≡ script.ranks
  pub owners : AllByRecursion (λ (one : Given). one.row.rank < script.ranks) entries
  pub lives : (rank : ℕ) (agent : Agent) → slice_get agents rank ≡ Some agent →
      HasLivedAmong (stage_of script delay) seed rank entries agent
  pub logs : run.logs ≡ map (λ (agent : Agent). agent.log) agents
  pub ended : run.ended ≡ list_all (λ (agent : Agent). agent.ended) agents
  pub made : List (List Update)
  pub count : length made ≡ script.ranks
  pub updates : (rank : ℕ) (agent : Agent) → slice_get agents rank ≡ Some agent →
      slice_get made rank ≡ Some (updates_by (touches_at (stage_of script delay) rank agent))
  pub closed : AreClosed (cells_of (layout script)) run.memory made
  pub touches : (rank : ℕ) (agent : Agent) → slice_get agents rank ≡ Some agent →
      AllByRecursion (IsFound (cells_of (layout script)) (IsState closed.init closed.left))
      (touches_at (stage_of script delay) rank agent)

-- ---- what the theorems say

-- a run that ended so is assembled
abbrev pub EndedRunsAreAssembled : Type 0
EndedRunsAreAssembled = (script : Script) (delay : Delay) (seed : ℕ) (run : Run) →
    HasEnded script delay seed run → IsAssembled script delay seed run

-- it is lawful for its delay
abbrev pub EndedRunsAreLawful : Type 0
EndedRunsAreLawful = (script : Script) (delay : Delay) (seed : ℕ) (run : Run) →
    HasEnded script delay seed run → IsLawful script delay run

-- its touches keep its order
abbrev pub EndedRunsAgree : Type 0
EndedRunsAgree = (script : Script) (delay : Delay) (seed : ℕ) (run : Run) →
    HasEnded script delay seed run → TouchesAgree script run
