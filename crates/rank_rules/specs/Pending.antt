-- Which accesses are pending, and which a call must wait for: this project's profile of MPI 3.1, section 11.7.
use Rattle.std.specs.Prelude.{ℕ, zero, suc, ◌+◌, ◌/◌, ◌%◌, Bool, true, false, ◌&&◌, ◌==◌, nat_lt, if◌then◌else◌, List}
use Rattle.std.specs.Prelude.{[], ◌∷◌, take, Option, Some, None, slice_get, ℤ}
use Rattle.std.specs.List.{position}
use Rattle.std.specs.Option.{option_map_or}
use Rattle.rma_types.specs.declared.accesses.Access.{Access}
use Rattle.rma_types.specs.declared.calls.Call.{Call}
use Rattle.rma_types.specs.declared.actions.Action.{Action}
use Rattle.rma_types.specs.declared.actions.Action.TheVariants.{Creates, Frees, Attaches, Detaches, Synchronises, Meets}
use Rattle.rma_types.specs.declared.actions.Action.TheVariants.{Moves, EndsRequest}
use Rattle.rma_types.specs.declared.actions.Synchronisation.{Synchronisation}
use Rattle.rma_types.specs.declared.actions.Synchronisation.TheVariants.{Fences, Posts, Starts, Completes, Waits, Locks}
use Rattle.rma_types.specs.declared.actions.Synchronisation.TheVariants.{Unlocks, Flushes, Syncs}
use Rattle.rma_types.specs.Actions.{action_of}
use Rattle.call_rules.specs.Ranks.{natural}
use Rattle.call_rules.specs.Transfers.{is_ordered_kind}
use Rattle.rank_rules.specs.Requests.{Requests, maker_of}
use Rattle.rank_rules.specs.declared.pending.PendingAccess.{PendingAccess}

-- an access without bytes has no touch, and is never pending
abbrev pub made_pending : PendingAccess → List PendingAccess
made_pending one = if nat_lt 0 one.access.len then one ∷ [] else []

-- the two accesses reach a common cell, of 4 bytes, of one rank's memory
abbrev pub share_cell : Access → Access → Bool
share_cell a b =
    a.target == b.target && nat_lt 0 a.len && nat_lt 0 b.len
    && nat_lt (a.lo / 4) ((b.lo + b.len + 3) / 4) && nat_lt (b.lo / 4) ((a.lo + a.len + 3) / 4)

-- the later of two pending accesses gives way to the earlier: both are accumulates or cas, and they share a cell
-- (11.7.2)
abbrev pub gives_way : PendingAccess → PendingAccess → Bool
gives_way later earlier =
    is_ordered_kind later.access.kind && is_ordered_kind earlier.access.kind && share_cell later.access earlier.access

-- the place of the first earlier access to which the one at this place gives way
abbrev pub first_in_way : List PendingAccess → ℕ → Option ℕ
first_in_way pending at = option_map_or
    (λ (one : PendingAccess). position (gives_way one) (take at pending)) (slice_get pending at) None

-- The place of the access to which the one at this place gives way in the end, directly or through others; its own
-- where it gives way to none. Each step leads to an earlier place, so as many steps as the place are enough.
abbrev pub way_in : ℕ → List PendingAccess → ℕ → ℕ
way_in zero pending at = at
way_in (suc steps) pending at = option_map_or (way_in steps pending) (first_in_way pending at) at

abbrev pub way : List PendingAccess → ℕ → ℕ
way pending at = way_in at pending at

-- the access is on the window of this name: a window's number is 32 times a round, plus the name
abbrev pub is_on : ℕ → PendingAccess → Bool
is_on win one = one.access.window % 32 == win

-- the access reaches the rank; all ranks, where none is named
abbrev pub is_towards : Option ℤ → PendingAccess → Bool
is_towards None one = true
is_towards (Some rank) one = one.access.target == natural rank

-- the synchronisation completes the access, at the target or, where it is local, at the origin: a fetch alone waits for
-- that
abbrev pub completes_access : Synchronisation → PendingAccess → Bool
completes_access (Fences asserts) one = true
completes_access (Posts group asserts) one = false
completes_access (Starts group asserts) one = false
completes_access Completes one = true
completes_access (Waits tests) one = false
completes_access (Locks kind target asserts) one = false
completes_access (Unlocks target) one = is_towards target one
completes_access (Flushes target false) one = is_towards target one
completes_access (Flushes target true) one = is_towards target one && one.fetches
completes_access Syncs one = false

-- the access is that of the live request of this name
abbrev pub is_requested_by : Requests → ℕ → PendingAccess → Bool
is_requested_by requests name one = option_map_or (λ number. number == one.number) (maker_of requests name) false

-- an action must wait for the pending access
abbrev pub waits_for : Requests → Action → PendingAccess → Bool
waits_for requests (Creates creation) one = false
waits_for requests (Frees win) one = false
waits_for requests (Attaches win base bytes) one = false
waits_for requests (Detaches win base) one = false
waits_for requests (Synchronises win s) one = is_on win one && completes_access s one
waits_for requests Meets one = false
waits_for requests (Moves t) one = false
waits_for requests (EndsRequest req) one = one.fetches && is_requested_by requests req one

-- the call must wait for the pending access before its first item
abbrev pub must_wait : Requests → Call → PendingAccess → Bool
must_wait requests call one = waits_for requests (action_of call) one

-- the place of the pending access that must be delivered next before the call's first item, after giving way
abbrev pub awaited : Requests → Call → List PendingAccess → Option ℕ
awaited requests call pending =
    option_map_or (λ at. Some (way pending at)) (position (must_wait requests call) pending) None
