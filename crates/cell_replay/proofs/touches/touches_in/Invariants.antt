use Rattle.std.proofs.Common.{◌≡◌, ◌++◌, ◌-◌}
use Rattle.std.specs.List.{flat_map}
use Rattle.call_rules.specs.Pieces.{numbers_from}
use Rattle.lawful_runs.specs.Accesses.{all_touches, touches_of}
use Rattle.cell_replay.specs.Kept.{touchings_of}
use Rattle.cell_replay.proofs.touches.touches_in.Given as goal

-- the touches of the ranks so far, and those of the others, are all
abbrev pub invariant-loop-rank : goal.invariant-loop-rank
invariant-loop-rank l =
    touchings_of l.touches.items
    ++ flat_map (touches_of l.script l.run) (numbers_from l.rank (l.script.ranks - l.rank))
    ≡ all_touches l.script l.run
