-- What an accepted call does to the tables of its rank: MPI 3.1, sections 11.2, 11.3.5 and 11.5.
use Rattle.std.specs.Prelude.{ℕ, ◌<◌, Bool, true, false, if◌then◌else◌, List, slice_get, Option, Some, None, IfSome}
use Rattle.std.specs.Option.{option_map, option_map_or}
use Rattle.rma_types.specs.declared.calls.Call.{Call}
use Rattle.rma_types.specs.declared.actions.Action.{Action}
use Rattle.rma_types.specs.declared.actions.Action.TheVariants.{Creates, Frees, Attaches, Detaches, Synchronises, Meets}
use Rattle.rma_types.specs.declared.actions.Action.TheVariants.{Moves, EndsRequest}
use Rattle.rma_types.specs.declared.actions.Synchronisation.{Synchronisation}
use Rattle.rma_types.specs.declared.actions.Synchronisation.TheVariants.{Fences, Posts, Starts, Completes, Waits, Locks}
use Rattle.rma_types.specs.declared.actions.Synchronisation.TheVariants.{Unlocks, Flushes, Syncs}
use Rattle.rma_types.specs.Actions.{action_of}
use Rattle.rank_records.specs.declared.deeds.Deed.{Deed}
use Rattle.rank_records.specs.declared.deeds.Deed.TheVariants as deed
use Rattle.rank_records.specs.declared.deeds.Turn.{Turn}
use Rattle.rank_records.specs.declared.deeds.Turn.TheVariants as turn

-- what a synchronisation makes of the access epoch on its window
abbrev pub turn_by : Synchronisation → Turn
turn_by (Fences asserts) = if asserts.nosucceed then turn.End else turn.Fence
turn_by (Posts group asserts) = turn.Post
turn_by (Starts group asserts) = turn.Start
turn_by Completes = turn.End
turn_by (Waits tests) = turn.Stay
turn_by (Locks kind target asserts) = option_map_or (λ one. turn.Lock) target turn.LockAll
turn_by (Unlocks target) = option_map_or (λ one. turn.Unlock) target turn.End
turn_by (Flushes target local) = turn.Stay
turn_by Syncs = turn.Stay

-- what an action does
abbrev pub deed_by : Action → Deed
deed_by (Creates creation) = deed.Makes creation.win
deed_by (Frees win) = deed.Frees win
deed_by (Attaches win base bytes) = deed.Turns win turn.Stay
deed_by (Detaches win base) = deed.Turns win turn.Stay
deed_by (Synchronises win s) = deed.Turns win (turn_by s)
deed_by Meets = deed.Meets
deed_by (Moves t) = deed.Moves t.win t.request
deed_by (EndsRequest req) = deed.Ends req

-- the names of windows and requests are those of a script
abbrev pub IsWrittenDeed : Deed → Type 0
IsWrittenDeed (deed.Makes win) = win < 32
IsWrittenDeed (deed.Frees win) = win < 32
IsWrittenDeed (deed.Turns win turn) = win < 32
IsWrittenDeed deed.Meets = Unit {0}
IsWrittenDeed (deed.Moves win request) = (win < 32) × IfSome request (λ req. req < 64)
IsWrittenDeed (deed.Ends request) = request < 64

-- the window that the call names
abbrev pub window_in : Deed → Option ℕ
window_in (deed.Makes win) = Some win
window_in (deed.Frees win) = Some win
window_in (deed.Turns win turn) = Some win
window_in deed.Meets = None
window_in (deed.Moves win request) = Some win
window_in (deed.Ends request) = None

-- the request that the call ends
abbrev pub ended_in : Deed → Option ℕ
ended_in (deed.Makes win) = None
ended_in (deed.Frees win) = None
ended_in (deed.Turns win turn) = None
ended_in deed.Meets = None
ended_in (deed.Moves win request) = None
ended_in (deed.Ends request) = Some request

-- the window on which the call moves data
abbrev pub moved_in : Deed → Option ℕ
moved_in (deed.Makes win) = None
moved_in (deed.Frees win) = None
moved_in (deed.Turns win turn) = None
moved_in deed.Meets = None
moved_in (deed.Moves win request) = Some win
moved_in (deed.Ends request) = None

-- the call moves data
abbrev pub is_transfer : Deed → Bool
is_transfer (deed.Makes win) = false
is_transfer (deed.Frees win) = false
is_transfer (deed.Turns win turn) = false
is_transfer deed.Meets = false
is_transfer (deed.Moves win request) = true
is_transfer (deed.Ends request) = false

-- what the call of a number does
abbrev pub deed_at : List Call → ℕ → Option Deed
deed_at calls number = option_map (λ call. deed_by (action_of call)) (slice_get calls number)
