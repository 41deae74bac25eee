use Rattle.std.specs.Prelude.{map, take}
use Rattle.first_points.specs.Alike.{judged_by}
use Rattle.access_index.specs.Indexes.{HasAccesses}
use Rattle.conflict_check.specs.Listings.{rows_of}
use Rattle.conflict_check.proofs.run_findings.index_of.Given as goal

-- the accesses so far
abbrev pub invariant-loop-a : goal.invariant-loop-a
invariant-loop-a l = HasAccesses l.index (rows_of (map judged_by (take l.a-index l.accesses)))
