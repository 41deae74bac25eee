-- The touches of the log of one rank, with the Issues that stand in it: MPI 3.1, section 11.7, in this project's profile.
use Rattle.std.specs.Prelude.{ℕ, ◌≡◌, ◌<◌, List, length, Some}
use Rattle.std.specs.List.{AllByRecursion}
use Rattle.rma_record.specs.declared.items.Item.{Item}
use Rattle.lawful_runs.specs.Accesses.{Touching, touches_among, issued_at}
use Rattle.lawful_runs.specs.Logs.{named_in}
use Rattle.lawful_runs.specs.Stages.{Stage, calls_at}
use Rattle.lawful_runs.specs.TouchLaw.{issues_touched}
use Rattle.rank_rules.specs.declared.pending.PendingAccess.{PendingAccess}
use Rattle.step_runs.specs.Agents.{Agent}

-- the touches of a rank's log
abbrev pub touches_at : Stage → ℕ → Agent → List Touching
touches_at stage rank agent = touches_among stage.layout (calls_at stage rank) agent.log (named_in rank agent.log)

abbrev pub IsIssuedIn : Stage → ℕ → List Item → PendingAccess → Type 0
IsIssuedIn stage rank log one = issued_at (calls_at stage rank) log one.index ≡ Some one

-- what is pending is issued in the log, and what is touched too
pub record HasIssues (stage : Stage) (rank : ℕ) (agent : Agent) : Type 0 where
  pub issued : AllByRecursion (IsIssuedIn stage rank agent.log) agent.pending
  pub below : AllByRecursion (λ n. n < length agent.log) (issues_touched agent.log)
