-- Laws of the states of a cell: MPI 3.1, section 11.7.1.
use Rattle.std.specs.List.{count_by, Contains}
use Rattle.std.specs.Prelude.{ℕ, ◌≡◌, ◌+◌, ◌≤◌, List, ◌∷◌, ◌++◌}
use Rattle.lawful_runs.specs.Cells.{state, bits_after, has_place}
use Rattle.lawful_runs.specs.Accesses.{Touching}

-- the one update at a place makes the state after it from the state before it
abbrev pub FoldsOneAtATime : Type 0
FoldsOneAtATime = (updates : List Touching) (update : Touching) →
    Contains updates update → count_by (has_place update.place) updates ≡ 1 →
    state updates (update.place + 1) ≡ bits_after (state updates update.place) update.change

-- where no update has the place, the state stays
abbrev pub StaysWithoutAnUpdate : Type 0
StaysWithoutAnUpdate = (updates : List Touching) (place : ℕ) →
    count_by (has_place place) updates ≡ 0 → state updates (place + 1) ≡ state updates place

-- an update makes no difference to the states up to its place
abbrev pub ChangesNothingBefore : Type 0
ChangesNothingBefore = (front back : List Touching) (update : Touching) (place : ℕ) →
    place ≤ update.place → state (front ++ update ∷ back) place ≡ state (front ++ back) place
