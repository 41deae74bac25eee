use Rattle.std.proofs.Common.{◌≡◌, ◌≤◌, ◌+◌}
use Rattle.cell_face.specs.Faces.{cell_count}
use Rattle.memory_tests.proofs.accesses.touch_all.Given as goal

-- the elements before the next one are touched
abbrev pub invariant-tries : goal.invariant-tries
invariant-tries g l = record {
  next : l.next ≤ 4;
  cells : cell_count (g.M.Memory.face l.memory) ≡ 2;
  room : 4 ≤ l.next + g.L.Keep.spare l.log;
}
