use Rattle.std.proofs.Common.{◌≡◌, map, take}
use Rattle.call_rules.specs.declared.cells.Cell.{Cell}
use Rattle.rank_runners.proofs.ends.bits_of.Given as goal

-- the cells so far
abbrev pub invariant-loop-cell : goal.invariant-loop-cell
invariant-loop-cell l = l.bits ≡ map (λ (cell : Cell). cell.bits) (take l.cell l.memory.cells)
