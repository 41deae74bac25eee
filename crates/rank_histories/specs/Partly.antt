-- A delivery that a rank has begun: some elements of its access are touched, and an attempt on the next came too late.
-- MPI 3.1, section 11.7, in this project's profile.
use Rattle.std.specs.Prelude.{ℕ, ◌≡◌, ◌<◌, Bool, true, false, List, Option, Some, None, slice_get, remove}
use Rattle.std.specs.List.{AllByRecursion}
use Rattle.rma_types.specs.declared.calls.Call.{Call}
use Rattle.access_steps.specs.Plans.{element_count, planned_touches}
use Rattle.access_steps.specs.TouchesMade.{TouchesKept}
use Rattle.call_rules.specs.declared.cells.Cell.{Cell}
use Rattle.call_rules.specs.Layout.{cells_of}
use Rattle.cell_face.specs.Faces.{Face}
use Rattle.delivery_queue.specs.Queues as queues
use Rattle.delivery_queue.specs.Queues.{Queue}
use Rattle.kept_rows.specs.Gifts.{Given}
use Rattle.lawful_runs.specs.Stages.{Stage, calls_at}
use Rattle.rank_laws.specs.Deliveries.{Delivers}
use Rattle.rank_laws.specs.Fronts.{Lows}
use Rattle.rank_laws.specs.Lives.{Drains}
use Rattle.rank_rules.specs.declared.pending.PendingAccess.{PendingAccess}
use Rattle.step_runs.specs.Agents.{Agent, tries_entry}
use Rattle.step_runs.specs.DataSteps.{move_of}
use Rattle.rank_histories.specs.Among.{HasLife, lows_in}

-- what a rank knows of its accesses, with how many elements of each are touched
abbrev pub queue_of : Agent → List ℕ → Queue
queue_of agent touched =
    record { pending = agent.pending; touched = touched; requests = agent.known.requests }

-- nothing of any access is touched
abbrev pub AreUntouched : List ℕ → Type 0
AreUntouched touched = AllByRecursion (λ count. count ≡ 0) touched

-- what a rank can still touch over a memory with this face
abbrev pub lows_of : Stage → Face → Lows
lows_of stage face = lows_in (cells_of stage.layout) face.lows

-- The rank delivers the access at a place since it was `begun`, over a memory that had the face `since`: so far it has
-- touched all elements before the next one, and nothing else.
pub record IsPartly (stage : Stage) (begun : Agent) (at : ℕ) (since : Face) (agent : Agent) (touched : List ℕ)
    (face : Face) (knows : ℕ → Cell → Type 0) : Type 0 where
  pub one : PendingAccess
  pub call : Call
  pub here : slice_get begun.pending at ≡ Some one
  pub named : slice_get (calls_at stage begun.rank) one.number ≡ Some call
  pub next : ℕ
  pub left : next < element_count call
  pub counted : slice_get touched at ≡ Some next
  pub others : AreUntouched (remove touched at)
  pub rank : agent ≡ record begun { log = agent.log }
  pub touches : TouchesKept since face knows begun.log agent.log one.index
      (planned_touches stage.layout one.access call 0 next)

-- the delivery is done, or begun
abbrev pub HasDelivered : (done : Bool) → Stage → (begun : Agent) → (at : ℕ) → (since : Face) → Agent → List ℕ → Face →
    (ℕ → Cell → Type 0) → Type 0
HasDelivered true stage begun at since agent touched face knows =
    Delivers stage begun (Some at) (lows_of stage since) agent (lows_of stage face) × AreUntouched touched
HasDelivered false stage begun at since agent touched face knows =
    IsPartly stage begun at since agent touched face knows

-- elements of the access at a place are touched: all that are left, or those up to one on which an attempt came too late
pub record DeliversOn (stage : Stage) (agent : Agent) (touched : List ℕ) (face : Face) (at : ℕ) (done : Bool)
    (after : Agent) (touched_after : List ℕ) (face_after : Face) (knows : ℕ → Cell → Type 0) : Type 0 where
  pub rank : after ≡ record agent { log = after.log; pending = after.pending }
  pub delivers : queues.Delivers (queue_of agent touched) (queue_of after touched_after) at done stage.layout
      (calls_at stage agent.rank) face face_after knows agent.log after.log

-- ---- a rank of a run

-- The rank is between two of its steps: it has a history among the entries.
pub record IsBetween (stage : Stage) (seed rank : ℕ) (entries : List Given) (agent : Agent) (touched : List ℕ)
    (face : Face) : Type 0 where
  pub life : HasLife stage seed rank entries agent (lows_of stage face)
  pub untouched : AreUntouched touched

-- The rank is within a step: it delivers the access at a place, after a history and what it did by itself.
pub record IsWithin (stage : Stage) (seed rank : ℕ) (entries : List Given) (agent : Agent) (touched : List ℕ) (at : ℕ)
    (face : Face) (knows : ℕ → Cell → Type 0) : Type 0 where
  pub before : Agent
  pub since : Face
  pub life : HasLife stage seed rank entries before (lows_of stage since)
  pub tries : tries_entry stage before ≡ false
  pub delivers : (move_of stage before).delivers ≡ Some at
  pub partly : IsPartly stage (move_of stage before).agent at since agent touched face knows

-- it is within a delivery at the place that is open, if one is; else between two steps
abbrev pub IsAmong : (opened : Option ℕ) → Stage → (seed : ℕ) → (rank : ℕ) → List Given → Agent → List ℕ → Face →
    (ℕ → Cell → Type 0) → Type 0
IsAmong None stage seed rank entries agent touched face knows = IsBetween stage seed rank entries agent touched face
IsAmong (Some at) stage seed rank entries agent touched face knows =
    IsWithin stage seed rank entries agent touched at face knows

-- after a delivery at a place that was not done, the place is open
abbrev pub opened_after : (done : Bool) → ℕ → Option ℕ
opened_after true at = None
opened_after false at = Some at

-- ---- a rank that has stopped

-- it delivers what is pending
pub record IsDraining (stage : Stage) (stopped : Agent) (lows : Lows) (agent : Agent) (touched : List ℕ)
    (face : Face) : Type 0 where
  pub drains : Drains stage stopped lows agent (lows_of stage face)
  pub untouched : AreUntouched touched

-- it is within a delivery of the first pending access
pub record IsWithinDrain (stage : Stage) (stopped : Agent) (lows : Lows) (agent : Agent) (touched : List ℕ)
    (face : Face) (knows : ℕ → Cell → Type 0) : Type 0 where
  pub before : Agent
  pub since : Face
  pub drains : Drains stage stopped lows before (lows_of stage since)
  pub partly : IsPartly stage before 0 since agent touched face knows

abbrev pub IsDrained : (opened : Option ℕ) → Stage → (stopped : Agent) → Lows → Agent → List ℕ → Face →
    (ℕ → Cell → Type 0) → Type 0
IsDrained None stage stopped lows agent touched face knows = IsDraining stage stopped lows agent touched face
IsDrained (Some at) stage stopped lows agent touched face knows =
    (at ≡ 0) × IsWithinDrain stage stopped lows agent touched face knows
