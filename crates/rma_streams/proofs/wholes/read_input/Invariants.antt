use Rattle.std.proofs.Common.{◌≡◌, ◌≤◌, ◌-◌, false, vec_len}
use Rattle.rma_streams.specs.Moves.{Took}
use Rattle.rma_streams.proofs.wholes.read_input.Given as goal

-- the bytes so far were taken, no fault was counted, and no end was told
abbrev pub invariant-turns : goal.invariant-turns
invariant-turns g l = record {
  within : vec_len l.bytes ≤ 1048577;
  took : Took (g.S.Source.left l.initial.source) l.bytes.items (g.S.Source.left l.source);
  no_fault : g.S.Source.faults l.source ≡ g.S.Source.faults l.initial.source;
  not_told : (g.S.Source.end l.initial.source).told ≡ false → g.S.Source.end l.source ≡ g.S.Source.end l.initial.source;
}

abbrev pub decreases-turns : goal.decreases-turns
decreases-turns g l = 1048577 - vec_len l.bytes
