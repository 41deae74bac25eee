use Rattle.std.proofs.Common.{◌≡◌}
use Rattle.std.specs.Prelude.{drop}
use Rattle.vector_clocks.specs.Places.{with_records}
use Rattle.vector_clocks.proofs.places.put_all.Given as goal

-- what is left is put after what was
abbrev pub invariant-loop-record : goal.invariant-loop-record
invariant-loop-record l = with_records l.list (drop l.record-index l.records) ≡ with_records l.fn.list l.records
