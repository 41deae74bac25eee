-- What a rank does by itself, in code: the room that it takes, and the access that is then delivered.
use Rattle.std.specs.Prelude.{ℕ, ◌≡◌, ◌+◌, ◌<◌, ◌≤◌, ◌&&◌, nat_lt, if◌then◌else◌, List, length, Option, Some}
use Rattle.std.specs.Prelude.{None, IfSome}
use Rattle.rma_types.specs.declared.actions.Action.{Action}
use Rattle.rma_types.specs.declared.actions.Action.TheVariants.{Creates, Frees, Attaches, Detaches, Synchronises, Meets}
use Rattle.rma_types.specs.declared.actions.Action.TheVariants.{Moves, EndsRequest}
use Rattle.rma_types.specs.Actions.{transfer_of}
use Rattle.rma_types.specs.declared.accesses.Access.{Access}
use Rattle.rma_types.specs.declared.calls.Call.{Call}
use Rattle.rank_rules.specs.Pending.{way}
use Rattle.rank_rules.specs.declared.pending.PendingAccess.{PendingAccess}
use Rattle.step_runs.specs.DataSteps.{Move, is_at_once, with_issue, without_delivery}
use Rattle.rank_engine.specs.RankStates.{RankState, moves_to}

-- the access at the place is pending, and gives way to none
abbrev pub IsFirst : (pending : List PendingAccess) → ℕ → Type 0
IsFirst pending at = (at < length pending) × (way pending at ≡ at)

-- a move of the rank, which keeps at most one item
pub record IsMove (before after : RankState) (move : Move) : Type 0 where
  pub rank : after ≡ record (moves_to before move) { free = after.free }
  pub above : before.free ≤ after.free + 1
  pub below : after.free ≤ before.free

-- the place of an access whose Issue comes next, where it is touched in the step of its Issue
abbrev pub place_now : RankState → Access → Option ℕ
place_now state access =
    if nat_lt 0 access.len && is_at_once state.stage.delay access then Some (length state.agent.pending) else None

-- an access was issued, and its delivery is begun where it is touched in the step of its Issue
pub record IsIssued (before after : RankState) (call : Call) (access : Access) : Type 0 where
  pub rank : IfSome (transfer_of call) (λ t. after ≡ record
      (moves_to before (without_delivery (with_issue before.stage before.agent access t))) {
        opened = place_now before access;
        free = after.free;
      })
  pub above : before.free ≤ after.free + 1
  pub below : after.free ≤ before.free

-- the name of the request that an action ends
abbrev pub request_ended : Action → Option ℕ
request_ended (Creates creation) = None
request_ended (Frees win) = None
request_ended (Attaches win base bytes) = None
request_ended (Detaches win base) = None
request_ended (Synchronises win s) = None
request_ended Meets = None
request_ended (Moves t) = None
request_ended (EndsRequest req) = Some req
