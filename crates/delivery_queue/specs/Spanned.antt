-- What a span of cells says of an access.
use Rattle.std.specs.Prelude.{◌+◌, ◌/◌, ◌≤◌}
use Rattle.rma_types.specs.declared.accesses.Access.{Access}
use Rattle.delivery_queue.specs.declared.spans.Span.{Span}

-- the cells of the access, of 4 bytes, are in the span
pub record IsSpanned (span : Span) (access : Access) : Type 0 where
  pub begins : span.begin ≤ access.lo / 4
  pub ends : (access.lo + access.len + 3) / 4 ≤ span.end
