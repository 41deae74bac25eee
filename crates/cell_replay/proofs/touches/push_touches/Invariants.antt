use Rattle.std.proofs.Common.{◌≡◌, ◌++◌}
use Rattle.std.specs.Prelude.{drop}
use Rattle.call_rules.specs.Layout.{layout}
use Rattle.lawful_runs.specs.Accesses.{touches_among, touches_of}
use Rattle.lawful_runs.specs.Logs.{calls_of, log_of, named_from}
use Rattle.cell_replay.specs.Kept.{touchings_of}
use Rattle.cell_replay.proofs.touches.push_touches.Given as goal

-- what was added, and what is left, are all
abbrev pub invariant-loop-at : goal.invariant-loop-at
invariant-loop-at l =
    touchings_of l.touches.items
    ++ touches_among (layout l.script) (calls_of l.script l.rank) (log_of l.run l.rank)
    (named_from l.rank l.at (drop l.at (log_of l.run l.rank)))
    ≡ touchings_of l.initial.touches.items ++ touches_of l.script l.run l.rank
