use Rattle.std.proofs.Common.{◌≡◌}
use Rattle.cell_face.specs.Faces.{cell_count}
use Rattle.memory_tests.specs.Alone.{IsAlone}
use Rattle.memory_tests.proofs.deliveries.deliver_all.Given as goal

-- the access is not done
abbrev pub invariant-tries : goal.invariant-tries
invariant-tries g l = record {
  alone : IsAlone l.layout l.calls l.queue;
  cells : cell_count (g.M.Memory.face l.memory) ≡ 2;
}
