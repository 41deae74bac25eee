-- The schedule of a run as the code keeps it.
use Rattle.std.specs.Prelude.{◌≡◌, ℕ, ◌<◌, true, Option, Some, None}
use Rattle.call_rules.specs.Ranks.{is_member}
use Rattle.rank_runners.specs.RankSets.{has}
use Rattle.rank_runners.specs.declared.rank_sets.RankSet.{RankSet}
use Rattle.rank_runners.specs.declared.schedules.Turns.{Turns}
use Rattle.step_runs.specs.Schedules.{Schedule}

-- the same ranks wait, and the last rank and the generator are the same
pub record IsKept (kept : Turns) (schedule : Schedule) : Type 0 where
  pub waiting : (rank : ℕ) → has kept.waiting rank ≡ is_member rank schedule.waiting
  pub last : kept.last ≡ schedule.last
  pub draws : kept.draws ≡ schedule.draws

-- the rank of the next turn, which is ready, and the schedule in which it has the turn; where there is none, nothing
-- changes
abbrev pub IsPicked : RankSet → ℕ → Schedule → Option (ℕ × Schedule) → Option ℕ → Turns → Type 0
IsPicked ready ranks before None found kept = (found ≡ None) × IsKept kept before
IsPicked ready ranks before (Some (rank, schedule)) found kept =
    (found ≡ Some rank) × (rank < ranks) × (has ready rank ≡ true) × (kept.last ≡ rank) × IsKept kept schedule
