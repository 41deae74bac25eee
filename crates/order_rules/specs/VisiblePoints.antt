-- Where an update is visible: after MPI 3.1, sections 11.4, 11.5.4 and 11.7, in this project's profile.
use Rattle.std.specs.Prelude.{Bool, true, false, ◌&&◌, ◌==◌, List, [], ◌∷◌}
use Rattle.std.specs.List.{filter, flat_map, list_any}
use Rattle.rma_types.specs.declared.accesses.Id.{Id}
use Rattle.rma_types.specs.declared.accesses.Step.{Step}
use Rattle.rma_types.specs.declared.accesses.Step.TheVariants.{Arrive, Leave, One}
use Rattle.rma_types.specs.declared.findings.Model.{Model}
use Rattle.rma_types.specs.declared.findings.Model.TheVariants.{Separate, Unified}
use Rattle.rma_types.specs.declared.scripts.Script.{Script}
use Rattle.rma_record.specs.declared.runs.Run.{Run}
use Rattle.rma_types.specs.declared.actions.Action.{Action}
use Rattle.rma_types.specs.declared.actions.Action.TheVariants.{Creates, Frees, Attaches, Detaches, Synchronises, Meets}
use Rattle.rma_types.specs.declared.actions.Action.TheVariants.{Moves, EndsRequest}
use Rattle.rma_types.specs.declared.actions.Synchronisation.{Synchronisation}
use Rattle.rma_types.specs.declared.actions.Synchronisation.TheVariants.{Fences, Posts, Starts, Completes, Waits, Locks}
use Rattle.rma_types.specs.declared.actions.Synchronisation.TheVariants.{Unlocks, Flushes, Syncs}
use Rattle.rma_types.specs.Actions.{action_of}
use Rattle.board_rules.specs.Entries.{is_arrive}
use Rattle.order_rules.specs.CallSteps.{CallStep, IssuedAccess, accesses_named, is_step_on, is_later_on_window}
use Rattle.order_rules.specs.DonePoints.{Timeline, timeline_of, ids_of, done_points}
use Rattle.order_rules.specs.Roles.{Role, RmaUpdate, RmaRead, Store, Load, role_of}

abbrev pub is_leave : Step → Bool
is_leave Arrive = false
is_leave Leave = true
is_leave One = false

-- ---- RMA updates, towards the owner of the memory

-- at this step of a synchronisation its rank sees in its own memory what RMA updates have left in the window
abbrev pub takes_in_by : Step → Synchronisation → Bool
takes_in_by step (Fences asserts) = is_leave step
takes_in_by step (Posts group asserts) = false
takes_in_by step (Starts group asserts) = false
takes_in_by step Completes = false
takes_in_by step (Waits tests) = true
takes_in_by step (Locks kind target asserts) = true
takes_in_by step (Unlocks target) = false
takes_in_by step (Flushes target local) = false
takes_in_by step Syncs = true

abbrev pub takes_in : Step → Action → Bool
takes_in step (Creates creation) = false
takes_in step (Frees win) = is_leave step
takes_in step (Attaches win base bytes) = false
takes_in step (Detaches win base) = false
takes_in step (Synchronises win s) = takes_in_by step s
takes_in step Meets = false
takes_in step (Moves transfer) = false
takes_in step (EndsRequest req) = false

-- the RMA update with these done points is visible to the owner at the step: a done point is before the step, or is it
abbrev pub is_taken_in_at : (Id → Id → Bool) → IssuedAccess → List Id → CallStep → Bool
is_taken_in_at before a done x =
    x.id.rank == a.issued.access.target && is_step_on a.issued.access.window x && takes_in x.step (action_of x.call)
    && list_any (λ point. before point x.id) done

-- ---- stores, towards RMA accesses

-- from this step of a synchronisation on, RMA accesses see what its rank has stored in the window
abbrev pub gives_out_by : Step → Synchronisation → Bool
gives_out_by step (Fences asserts) = is_arrive step
gives_out_by step (Posts group asserts) = true
gives_out_by step (Starts group asserts) = false
gives_out_by step Completes = false
gives_out_by step (Waits tests) = false
gives_out_by step (Locks kind target asserts) = false
gives_out_by step (Unlocks target) = true
gives_out_by step (Flushes target local) = false
gives_out_by step Syncs = true

abbrev pub gives_out : Step → Action → Bool
gives_out step (Creates creation) = false
gives_out step (Frees win) = is_arrive step
gives_out step (Attaches win base bytes) = false
gives_out step (Detaches win base) = false
gives_out step (Synchronises win s) = gives_out_by step s
gives_out step Meets = false
gives_out step (Moves transfer) = false
gives_out step (EndsRequest req) = false

-- the store is visible to RMA accesses from the step on
abbrev pub is_given_out_at : IssuedAccess → CallStep → Bool
is_given_out_at a x = is_later_on_window a x && gives_out x.step (action_of x.call)

-- ---- the points

-- in the separate model (11.4); a read has none
abbrev pub separate_points : (Id → Id → Bool) → Timeline → IssuedAccess → Role → List Id
separate_points before timeline a RmaUpdate =
    ids_of (filter (is_taken_in_at before a (done_points timeline a)) timeline.steps)
separate_points before timeline a RmaRead = []
separate_points before timeline a Store = ids_of (filter (is_given_out_at a) timeline.steps)
separate_points before timeline a Load = []

-- in the unified model: an RMA update is visible where it is done, and a store at once; a read has none
abbrev pub unified_points : Timeline → IssuedAccess → Role → List Id
unified_points timeline a RmaUpdate = done_points timeline a
unified_points timeline a RmaRead = []
unified_points timeline a Store = a.id ∷ []
unified_points timeline a Load = []

-- the visible points of an update, in the order of their names
abbrev pub visible_points : Model → (Id → Id → Bool) → Timeline → IssuedAccess → List Id
visible_points Separate before timeline a = separate_points before timeline a (role_of a.issued.access.kind)
visible_points Unified before timeline a = unified_points timeline a (role_of a.issued.access.kind)

-- the visible points of the update of this name
abbrev pub visible_points_of : Script → Run → Model → (Id → Id → Bool) → Id → List Id
visible_points_of script run model before id =
    flat_map (visible_points model before (timeline_of script run)) (accesses_named script run id)
