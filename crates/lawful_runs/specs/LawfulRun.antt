-- Lawful runs: MPI 3.1, sections 11.5 and 11.7, in this project's profile.
use Rattle.std.specs.Prelude.{ℕ, ◌≡◌, ◌<◌, List, length}
use Rattle.std.specs.List.{list_all, AllByRecursion}
use Rattle.rma_types.specs.declared.schedules.Delay.{Delay}
use Rattle.rma_types.specs.declared.scripts.Script.{Script}
use Rattle.rma_record.specs.declared.items.Item.{Item}
use Rattle.rma_record.specs.declared.runs.Run.{Run}
use Rattle.call_rules.specs.Pieces.{numbers_from}
use Rattle.lawful_runs.specs.Accesses.{EachPair}
use Rattle.lawful_runs.specs.BoardLaw.{HasLawfulBoard}
use Rattle.lawful_runs.specs.CallItems.{HasItemsOfCalls, other_items}
use Rattle.lawful_runs.specs.Cells.{HasLawfulCells}
use Rattle.lawful_runs.specs.DelayLaw.{KeepsDelay}
use Rattle.lawful_runs.specs.Items.{has_ended}
use Rattle.lawful_runs.specs.Logs.{log_of, rows_of}
use Rattle.lawful_runs.specs.Stages.{RankOfRun, stage_of}
use Rattle.lawful_runs.specs.TouchLaw.{IsTouchedWhole, HasItsIssue, IsLocalDirect, KeepsIssueOrder, IsAwaitedWhole}
use Rattle.lawful_runs.specs.TouchLaw.{IsLookUpFollowed, issued_in, issues_touched}

-- the log of a rank
pub record IsLawfulLog (here : RankOfRun) (log : List Item) : Type 0 where
  pub calls : HasItemsOfCalls here (other_items log)
  pub look_ups : AllByRecursion (IsLookUpFollowed here log) (numbers_from 0 (length log))
  pub touches : AllByRecursion (IsTouchedWhole here log) (issued_in here log)
  pub issues : AllByRecursion (HasItsIssue here log) (numbers_from 0 (length log))
  pub local_direct : AllByRecursion (IsLocalDirect here log) (issued_in here log)
  pub order : EachPair (KeepsIssueOrder here log) (issues_touched log)
  pub awaited : AllByRecursion (IsAwaitedWhole here log) (numbers_from 0 (length log))
  pub delay : KeepsDelay here.stage.delay here log

-- a rank of the run, with all entries of the run
abbrev pub rank_in : Script → Delay → Run → ℕ → RankOfRun
rank_in script delay run rank =
    record { stage = stage_of script delay; rank = rank; rows = rows_of script run }

-- a run that this project's profile of the standard allows for the script, where accesses are delayed so
pub record IsLawful (script : Script) (delay : Delay) (run : Run) : Type 0 where
  pub ranks : length run.logs ≡ script.ranks
  pub cells : HasLawfulCells script run
  pub board : HasLawfulBoard script run
  pub logs : (rank : ℕ) → rank < script.ranks → IsLawfulLog (rank_in script delay run rank) (log_of run rank)
  pub ended : run.ended ≡ list_all has_ended run.logs
