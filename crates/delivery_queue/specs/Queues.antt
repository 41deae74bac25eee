-- A rank's pending accesses and its live requests: MPI 3.1, sections 11.3.5 and 11.7.
use Rattle.std.specs.Prelude.{ℕ, ◌≡◌, ◌+◌, ◌-◌, ◌<◌, ◌≤◌, ◌++◌, Bool, true, false, List, [], map, Option, Some, IsTrue}
use Rattle.std.specs.Prelude.{slice_get, slice_index, slice_set, remove, drop, IfSome}
use Rattle.std.specs.Option.{option_map_or}
use Rattle.rma_types.specs.declared.accesses.Access.{Access}
use Rattle.rma_types.specs.declared.calls.Call.{Call}
use Rattle.rma_types.specs.declared.scripts.Layout.{Layout}
use Rattle.access_steps.specs.Plans.{element_count, is_update, planned_touch, planned_touches}
use Rattle.access_steps.specs.Plans.{IsAccessOf, IsTried, LiesWithin}
use Rattle.access_steps.specs.TouchesMade.{TouchesKept, IsTouchEach}
use Rattle.call_rules.specs.declared.cells.Cell.{Cell}
use Rattle.rma_types.specs.Actions.{transfer_of}
use Rattle.call_rules.specs.Pieces.{pieces}
use Rattle.cell_face.specs.Faces.{Face, cell_count}
use Rattle.rma_record.specs.declared.items.Item.{Item}
use Rattle.call_rules.specs.WellFormed.{IsWrittenCall}
use Rattle.rank_rules.specs.declared.pending.PendingAccess.{PendingAccess}
use Rattle.rank_rules.specs.Requests.{Requests, no_requests, with_request}
use Rattle.rank_rules.specs.Pending.{made_pending, way}

-- the pending accesses in the order of their Issues; how many elements of each are touched; and the live requests
pub record Queue : Type 0 where
  pub pending : List PendingAccess
  pub touched : List ℕ
  pub requests : Requests

abbrev pub no_accesses : Queue
no_accesses = record { pending = []; touched = []; requests = no_requests }

-- the pending access is that of its call, and its elements lie in so many cells
abbrev pub IsOfCall : Layout → ℕ → PendingAccess → Call → Type 0
IsOfCall layout cells one call =
    IsWrittenCall call × IsAccessOf call one.access × LiesWithin layout one.access call cells

-- the access of a call, whose Issue has this index
abbrev pub issued : (number : ℕ) → (index : ℕ) → Access → (fetches : Bool) → PendingAccess
issued number index access fetches =
    record { index = index; number = number; access = access; fetches = fetches }

-- an access is issued, and with it a request where one is named; an access without bytes is not pending
abbrev pub with_access : Queue → PendingAccess → Option ℕ → Queue
with_access queue one req = record {
  pending = queue.pending ++ made_pending one;
  touched = queue.touched ++ map (λ _. 0) (made_pending one);
  requests = option_map_or (with_request queue.requests one.number) req queue.requests;
}

-- the access at a place is pending no more
abbrev pub without_access : Queue → ℕ → Queue
without_access queue at = record queue { pending = remove queue.pending at; touched = remove queue.touched at }

-- so many elements of the access at a place are touched
abbrev pub with_touched : Queue → ℕ → ℕ → Queue
with_touched queue at count = record queue { touched = slice_set queue.touched at count }

-- what a delivery leaves: the access is done, or it is touched up to an element on which an attempt came too late
abbrev pub after_delivery : (done : Bool) → Queue → ℕ → ℕ → Queue
after_delivery true queue at next = without_access queue at
after_delivery false queue at next = with_touched queue at next

-- What is asked of the access that is to be delivered: it gives way to none, it is that of its call with its elements
-- in the cells of the memory, and there is room for the touches that are left, and a share for its updates.
pub record IsDeliverable (queue : Queue) (at : ℕ) (layout : Layout) (calls : List Call) (face : Face) (free : ℕ)
    : Type 0 where
  pub one : PendingAccess
  pub call : Call
  pub here : slice_get queue.pending at ≡ Some one
  pub named : slice_get calls one.number ≡ Some call
  pub first_way : way queue.pending at ≡ at
  pub is_its : IsOfCall layout (cell_count face) one call
  pub begun : slice_index queue.touched at ≤ element_count call
  pub room : element_count call ≤ slice_index queue.touched at + free
  pub share : IsTrue (is_update call) → element_count call ≤ slice_index queue.touched at + face.share

-- What a delivery did: the touches of the access, which is that of its call, from the first untouched element to the
-- next one. Where it is left, an attempt on that element came too late.
pub record Delivers (queue after : Queue) (at : ℕ) (done : Bool) (layout : Layout) (calls : List Call)
    (before_face after_face : Face) (knows : ℕ → Cell → Type 0) (kept_before kept_after : List Item)
    : Type 0 where
  pub one : PendingAccess
  pub call : Call
  pub here : slice_get queue.pending at ≡ Some one
  pub named : slice_get calls one.number ≡ Some call
  pub is_its : IsOfCall layout (cell_count before_face) one call
  pub next : ℕ
  pub begun : slice_index queue.touched at ≤ next
  pub within : next ≤ element_count call
  pub queue_after : after ≡ after_delivery done queue at next
  pub whole : done ≡ true → next ≡ element_count call
  pub left : done ≡ false → next < element_count call
  pub tried : done ≡ false → IsTried (planned_touch layout one.access call next)
  pub touches : TouchesKept before_face after_face knows kept_before kept_after one.index
      (planned_touches layout one.access call (slice_index queue.touched at) (next - slice_index queue.touched at))

-- over a memory that tells its cells, they and the items are those of the touches that were left, one after another
abbrev pub DeliversWhole :
    Queue → ℕ → Layout → List Call → List Cell → Option (List Cell) → List Item → List Item → Type 0
DeliversWhole queue at layout calls cells told kept_before kept_after =
    let from = slice_index queue.touched at in
    IfSome (slice_get queue.pending at) (λ one. IfSome (slice_get calls one.number) (λ call.
    IfSome (transfer_of call) (λ t.
    IsTouchEach t (drop from (pieces layout one.access t.dtype)) one.index from cells told kept_before kept_after)))
