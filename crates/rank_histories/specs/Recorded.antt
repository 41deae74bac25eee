-- What a rank's touches were on the cells that it shares: MPI 3.1, section 11.7.1, in this project's profile.
use Rattle.std.specs.Prelude.{ℕ, ◌≡◌, ◌<◌, List, [], ◌∷◌, ◌++◌, Some}
use Rattle.std.specs.List.{AllByRecursion}
use Rattle.access_steps.specs.TouchesMade.{update_by}
use Rattle.call_rules.specs.declared.cells.Cell.{Cell}
use Rattle.call_rules.specs.Layout.{cells_of}
use Rattle.cell_face.specs.Faces.{Face, Update}
use Rattle.lawful_runs.specs.Accesses.{Touching}
use Rattle.lawful_runs.specs.Stages.{Stage}
use Rattle.step_histories.specs.LogTouches.{touches_at, HasIssues}
use Rattle.step_runs.specs.Agents.{Agent}

-- the state that a touch found
abbrev pub seen_by : Touching → Cell
seen_by touch = record { bits = touch.bits; place = touch.place }

-- the updates that touches made, in their order
abbrev pub updates_by : List Touching → List Update
updates_by [] = []
updates_by (touch ∷ touches) = update_by touch.cell (seen_by touch) touch.change ++ updates_by touches

-- the touch is on one of so many cells, and the state that it found is known
abbrev pub IsFound : ℕ → (ℕ → Cell → Type 0) → Touching → Type 0
IsFound cells knows touch = (touch.cell < cells) × knows touch.cell (seen_by touch)

-- The updates that the memory tells are those of the rank's touches, and what each touch found is known to it.
pub record IsRecorded (stage : Stage) (rank : ℕ) (agent : Agent) (face : Face) (knows : ℕ → Cell → Type 0)
    : Type 0 where
  pub mine : agent.rank ≡ rank
  pub issues : HasIssues stage rank agent
  pub updates : face.updates ≡ Some (updates_by (touches_at stage rank agent))
  pub found : AllByRecursion (IsFound (cells_of stage.layout) knows) (touches_at stage rank agent)
