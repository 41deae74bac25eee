use Rattle.std.proofs.Common.{◌≡◌}
use Rattle.std.specs.Prelude.{min, take}
use Rattle.vector_clocks.specs.Places.{count_kept}
use Rattle.vector_clocks.proofs.places.count_all.Given as goal

abbrev pub invariant-loop-record : goal.invariant-loop-record
invariant-loop-record l = l.count ≡ min (count_kept (take l.record-index l.records)) 18446744073709551615
