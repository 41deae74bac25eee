-- Where an RMA access is done: after MPI 3.1, sections 11.3.5, 11.5 and 11.7, in this project's profile.
use Rattle.std.specs.Prelude.{ℕ, Bool, true, false, not, ◌&&◌, ◌||◌, ◌==◌, List, map, Option, Some, None}
use Rattle.std.specs.List.{filter, find, flat_map}
use Rattle.std.specs.Option.{option_map_or}
use Rattle.rma_types.specs.declared.accesses.Id.{Id}
use Rattle.rma_types.specs.declared.scripts.Script.{Script}
use Rattle.rma_record.specs.declared.runs.Run.{Run}
use Rattle.rma_types.specs.declared.actions.Action.{Action}
use Rattle.rma_types.specs.declared.actions.Action.TheVariants.{Creates, Frees, Attaches, Detaches, Synchronises, Meets}
use Rattle.rma_types.specs.declared.actions.Action.TheVariants.{Moves, EndsRequest}
use Rattle.rma_types.specs.declared.actions.Synchronisation.{Synchronisation}
use Rattle.rma_types.specs.declared.actions.Synchronisation.TheVariants.{Fences, Posts, Starts, Completes, Waits, Locks}
use Rattle.rma_types.specs.declared.actions.Synchronisation.TheVariants.{Unlocks, Flushes, Syncs}
use Rattle.rma_types.specs.Actions.{action_of, synchronisation_of}
use Rattle.rank_rules.specs.Epochs.{AccessEpoch, Idle, FenceUnused, FenceUsed, StartTo, LocksAt, LockAll}
use Rattle.rank_rules.specs.declared.pending.PendingAccess.{PendingAccess}
use Rattle.rank_rules.specs.Pending.{is_towards, is_requested_by}
use Rattle.board_rules.specs.Entries.{Fence, is_arrive, is_collective}
use Rattle.board_rules.specs.Posts.{is_complete}
use Rattle.order_rules.specs.Before.{NamedEvent, leads_to, events_in}
use Rattle.order_rules.specs.CallSteps.{CallStep, IssuedAccess, steps_in, accesses_named, is_later_at_origin}
use Rattle.order_rules.specs.CallSteps.{is_later_on_window}
use Rattle.order_rules.specs.Roles.{is_rma_read, role_of}

-- the entries of a run and the steps of its calls, among which points are looked for
pub record Timeline : Type 0 where
  pub events : List NamedEvent
  pub steps : List CallStep

abbrev pub timeline_of : Script → Run → Timeline
timeline_of script run = record { events = events_in script run; steps = steps_in script run }

-- ---- the epochs of active targets: the next fence, and the next complete

abbrev pub arrives_at_fence : CallStep → Bool
arrives_at_fence x = is_arrive x.step && is_collective Fence x.call

abbrev pub completes_start : CallStep → Bool
completes_start x = option_map_or is_complete (synchronisation_of x.call) false

-- the next such step of the origin on the window of the access
abbrev pub next_step : Timeline → (CallStep → Bool) → IssuedAccess → Option CallStep
next_step timeline test a = find (λ x. is_later_on_window a x && test x) timeline.steps

-- an edge leads to the step from the next such step of the origin on the window of the access
abbrev pub follows_next : Timeline → (CallStep → Bool) → IssuedAccess → CallStep → Bool
follows_next timeline test a x =
    option_map_or (λ (y : CallStep). leads_to timeline.events y.id x.id) (next_step timeline test a) false

-- ---- the epochs of passive targets: flushes and unlocks

-- the synchronisation completes the access at its target: a flush or an unlock of that rank, or of all
abbrev pub completes_at_target : PendingAccess → Synchronisation → Bool
completes_at_target one (Fences asserts) = false
completes_at_target one (Posts group asserts) = false
completes_at_target one (Starts group asserts) = false
completes_at_target one Completes = false
completes_at_target one (Waits tests) = false
completes_at_target one (Locks kind target asserts) = false
completes_at_target one (Unlocks target) = is_towards target one
completes_at_target one (Flushes target local) = not local && is_towards target one
completes_at_target one Syncs = false

abbrev pub is_completed_at_target : IssuedAccess → CallStep → Bool
is_completed_at_target a x =
    is_later_on_window a x && option_map_or (completes_at_target a.issued) (synchronisation_of x.call) false

-- the access is done at the step, by the epoch in which it was issued
abbrev pub is_done_by_epoch : Timeline → IssuedAccess → AccessEpoch → CallStep → Bool
is_done_by_epoch timeline a Idle x = false
is_done_by_epoch timeline a FenceUnused x = follows_next timeline arrives_at_fence a x
is_done_by_epoch timeline a FenceUsed x = follows_next timeline arrives_at_fence a x
is_done_by_epoch timeline a (StartTo group) x =
    follows_next timeline completes_start a x && x.id.rank == a.issued.access.target
is_done_by_epoch timeline a (LocksAt targets) x = is_completed_at_target a x
is_done_by_epoch timeline a LockAll x = is_completed_at_target a x

-- ---- reads, which are done where they are complete at the origin

-- the synchronisation completes the access at the origin alone: a complete, or a local flush of its target or of all
abbrev pub completes_at_origin : PendingAccess → Synchronisation → Bool
completes_at_origin one (Fences asserts) = false
completes_at_origin one (Posts group asserts) = false
completes_at_origin one (Starts group asserts) = false
completes_at_origin one Completes = true
completes_at_origin one (Waits tests) = false
completes_at_origin one (Locks kind target asserts) = false
completes_at_origin one (Unlocks target) = false
completes_at_origin one (Flushes target local) = local && is_towards target one
completes_at_origin one Syncs = false

abbrev pub is_completed_at_origin : IssuedAccess → CallStep → Bool
is_completed_at_origin a x =
    is_later_on_window a x && option_map_or (completes_at_origin a.issued) (synchronisation_of x.call) false

-- the request that an action ends
abbrev pub request_ended : Action → Option ℕ
request_ended (Creates creation) = None
request_ended (Frees win) = None
request_ended (Attaches win base bytes) = None
request_ended (Detaches win base) = None
request_ended (Synchronises win s) = None
request_ended Meets = None
request_ended (Moves transfer) = None
request_ended (EndsRequest req) = Some req

-- the step is the waitreq or the testreq of the request of the access
abbrev pub ends_its_request : IssuedAccess → CallStep → Bool
ends_its_request a x = is_later_at_origin a x
    && option_map_or (λ req. is_requested_by x.known.requests req a.issued) (request_ended (action_of x.call)) false

-- ---- the points

abbrev pub is_done_at : Timeline → IssuedAccess → CallStep → Bool
is_done_at timeline a x = is_done_by_epoch timeline a a.epoch x
    || (is_rma_read (role_of a.issued.access.kind) && (is_completed_at_origin a x || ends_its_request a x))

abbrev pub ids_of : List CallStep → List Id
ids_of steps = map (λ (x : CallStep). x.id) steps

-- the done points of an RMA access, in the order of their names
abbrev pub done_points : Timeline → IssuedAccess → List Id
done_points timeline a = ids_of (filter (is_done_at timeline a) timeline.steps)

-- the done points of the RMA access of this name
abbrev pub done_points_of : Script → Run → Id → List Id
done_points_of script run id = flat_map (done_points (timeline_of script run)) (accesses_named script run id)
