-- The history of one cell, whoever touches it: MPI 3.1, section 11.7.1, in this project's profile.
use Rattle.std.specs.Prelude.{ℕ, suc, ◌≡◌, ◌≤◌, if◌then◌else◌, nat_lt, List, length}
use Rattle.std.specs.List.{count_by, AllByRecursion}
use Rattle.lawful_runs.specs.Accesses.{Touching, updates_in}
use Rattle.lawful_runs.specs.Cells.{bits_after, has_place}

-- a touch reads the value at its place, which is at most the number of updates
pub record ReadsValue (values : ℕ → ℕ) (updates : ℕ) (touch : Touching) : Type 0 where
  pub within : touch.place ≤ updates
  pub reads : touch.bits ≡ values touch.place

-- an update at a place leaves the next value
abbrev pub LeavesNext : (ℕ → ℕ) → Touching → Type 0
LeavesNext values update = values (suc update.place) ≡ bits_after update.bits update.change

-- the values of a cell after 0, 1 and more of its updates, with all touches on it; final is its value at the end
pub record IsHistoryOf (values : ℕ → ℕ) (touches : List Touching) (final : ℕ) : Type 0 where
  pub first : values 0 ≡ 0
  -- its updates have the places from 0 on, each once
  pub places : (place : ℕ) →
      count_by (has_place place) (updates_in touches) ≡ (if nat_lt place (length (updates_in touches)) then 1 else 0)
  pub reads : AllByRecursion (ReadsValue values (length (updates_in touches))) touches
  pub changes : AllByRecursion (LeavesNext values) (updates_in touches)
  pub last : final ≡ values (length (updates_in touches))
