use Rattle.std.proofs.Common.{◌≡◌, ◌++◌}
use Rattle.std.specs.Prelude.{drop}
use Rattle.std.specs.List.{filter}
use Rattle.lawful_runs.specs.Accesses.{Touching}
use Rattle.vector_clocks.specs.Marks.{before_in}
use Rattle.cell_replay.specs.Kept.{touchings_of}
use Rattle.cell_replay.proofs.reads.updates_before.Given as goal

-- what was taken, and what will be taken of those that are left, are all
abbrev pub invariant-loop-update : goal.invariant-loop-update
invariant-loop-update l =
    touchings_of l.earlier.items
    ++ filter (λ (update : Touching). before_in l.clocks update.id l.id) (touchings_of (drop l.update-index l.updates))
    ≡ filter (λ (update : Touching). before_in l.clocks update.id l.id) (touchings_of l.updates)
