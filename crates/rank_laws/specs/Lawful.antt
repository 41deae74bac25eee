-- That assembled runs are lawful: this project's profile of MPI 3.1, sections 11.5 and 11.7.
use Rattle.std.specs.Prelude.{ℕ, ◌≡◌, ◌<◌, List, length}
use Rattle.std.specs.List.{list_all, AllByRecursion}
use Rattle.rma_types.specs.declared.schedules.Delay.{Delay}
use Rattle.rma_types.specs.declared.schedules.Delay.TheVariants.{None as NoDelay}
use Rattle.rma_types.specs.declared.scripts.Script.{Script}
use Rattle.rma_record.specs.declared.items.Item.{Item}
use Rattle.rma_record.specs.declared.runs.Run.{Run}
use Rattle.call_rules.specs.Pieces.{numbers_from}
use Rattle.lawful_runs.specs.Accesses.{EachPair}
use Rattle.lawful_runs.specs.BoardLaw.{HasLawfulBoard}
use Rattle.lawful_runs.specs.Cells.{HasLawfulCells}
use Rattle.lawful_runs.specs.DelayLaw.{KeepsDelay}
use Rattle.lawful_runs.specs.Items.{has_ended}
use Rattle.lawful_runs.specs.LawfulRun.{IsLawful, rank_in}
use Rattle.lawful_runs.specs.Logs.{log_of}
use Rattle.lawful_runs.specs.Stages.{RankOfRun}
use Rattle.lawful_runs.specs.TouchLaw.{IsTouchedWhole, HasItsIssue, IsLocalDirect, KeepsIssueOrder, IsAwaitedWhole}
use Rattle.lawful_runs.specs.TouchLaw.{IsLookUpFollowed, issued_in, issues_touched}
use Rattle.rank_laws.specs.Assembled.{IsAssembled}

-- an assembled run of any script is lawful for its delay
abbrev pub AssembledRunsAreLawful : Type 0
AssembledRunsAreLawful =
    (script : Script) (delay : Delay) (seed : ℕ) (run : Run) → IsAssembled script delay seed run →
    IsLawful script delay run

-- ---- by parts

-- the part of the law of a rank's log that speaks of touches, for any delay
pub record HasLawfulTouches (here : RankOfRun) (log : List Item) : Type 0 where
  pub touches : AllByRecursion (IsTouchedWhole here log) (issued_in here log)
  pub issues : AllByRecursion (HasItsIssue here log) (numbers_from 0 (length log))
  pub local_direct : AllByRecursion (IsLocalDirect here log) (issued_in here log)
  pub order : EachPair (KeepsIssueOrder here log) (issues_touched log)
  pub awaited : AllByRecursion (IsAwaitedWhole here log) (numbers_from 0 (length log))

-- in each log each access is touched whole, after its Issue, in issue order, and before what waits for it
abbrev pub AssembledRunsTouchLawfully : Type 0
AssembledRunsTouchLawfully = (script : Script) (delay : Delay) (seed : ℕ) (run : Run) →
    IsAssembled script delay seed run →
    (rank : ℕ) → rank < script.ranks → HasLawfulTouches (rank_in script delay run rank) (log_of run rank)

-- where nothing is delayed each access is touched directly after its Issue
abbrev pub UndelayedRunsTouchDirectly : Type 0
UndelayedRunsTouchDirectly = (script : Script) (seed : ℕ) (run : Run) → IsAssembled script NoDelay seed run →
    (rank : ℕ) → rank < script.ranks → KeepsDelay NoDelay (rank_in script NoDelay run rank) (log_of run rank)

-- each cell has one history, which the touches of each rank keep in order
abbrev pub AssembledRunsHaveLawfulCells : Type 0
AssembledRunsHaveLawfulCells =
    (script : Script) (delay : Delay) (seed : ℕ) (run : Run) → IsAssembled script delay seed run →
    HasLawfulCells script run

-- the entries of all logs are allowed in the order of their places, and each look saw what it says
abbrev pub AssembledRunsHaveLawfulBoards : Type 0
AssembledRunsHaveLawfulBoards =
    (script : Script) (delay : Delay) (seed : ℕ) (run : Run) → IsAssembled script delay seed run →
    HasLawfulBoard script run

-- in each log each look-up is directly followed by the Issue of its call
abbrev pub AssembledRunsFollowLookUps : Type 0
AssembledRunsFollowLookUps = (script : Script) (delay : Delay) (seed : ℕ) (run : Run) →
    IsAssembled script delay seed run → (rank : ℕ) → rank < script.ranks →
    AllByRecursion (IsLookUpFollowed (rank_in script delay run rank) (log_of run rank))
    (numbers_from 0 (length (log_of run rank)))

-- the run has ended exactly where each log ends with Ended
abbrev pub AssembledRunsEndAlike : Type 0
AssembledRunsEndAlike = (script : Script) (delay : Delay) (seed : ℕ) (run : Run) → IsAssembled script delay seed run →
    run.ended ≡ list_all has_ended run.logs
