-- Which steps of calls stand for the done points of an access: MPI 3.1, sections 11.5 and 11.7, in this project's
-- profile.
use Rattle.std.specs.Prelude.{◌≡◌, ◌≢◌, ◌≤◌, Bool, true, false, IsTrue, Some, Contains, slice_get}
use Rattle.std.specs.Option.{option_map_or}
use Rattle.rma_types.specs.declared.accesses.Id.{Id}
use Rattle.rma_types.specs.declared.schedules.Delay.TheVariants.{Seeded}
use Rattle.rma_types.specs.declared.scripts.Script.{Script}
use Rattle.rma_record.specs.declared.items.Item.{Item}
use Rattle.rma_record.specs.declared.runs.Run.{Run}
use Rattle.board_rules.specs.Posts.{is_wait}
use Rattle.rma_types.specs.Actions.{synchronisation_of}
use Rattle.call_rules.specs.WellFormed.{IsWellFormed}
use Rattle.lawful_runs.specs.Items.{is_touch}
use Rattle.lawful_runs.specs.LawfulRun.{IsLawful}
use Rattle.lawful_runs.specs.Logs.{log_of}
use Rattle.order_rules.specs.Before.{Before, events_in, leads_to}
use Rattle.order_rules.specs.CallSteps.{CallStep, IssuedAccess, accesses_in, is_step_on, steps_in}
use Rattle.order_rules.specs.DonePoints.{arrives_at_fence, completes_start, next_step, timeline_of}
use Rattle.order_rules.specs.Roles.{Role, RmaUpdate, RmaRead, Store, Load, role_of}
use Rattle.rank_rules.specs.Epochs.{is_start_epoch}

-- an RMA access
abbrev pub is_rma : Role → Bool
is_rma RmaUpdate = true
is_rma RmaRead = true
is_rma Store = false
is_rma Load = false

-- a wait, or a true testwin
abbrev pub is_wait_step : CallStep → Bool
is_wait_step x = option_map_or is_wait (synchronisation_of x.call) false

-- the name is that of an item which is no touch
pub record NamesNoTouch (run : Run) (id : Id) : Type 0 where
  pub item : Item
  pub there : slice_get (log_of run id.rank) id.index ≡ Some item
  pub other : is_touch item ≡ false

-- ---- fences

-- Where the arrival at a fence is before another item which is no touch, one of the steps to which it leads is before
-- that item: the arrival stands for its leavings.
abbrev pub ArrivalsStandForLeaves : Type 0
ArrivalsStandForLeaves = (script : Script) (run : Run) → IsWellFormed script → IsLawful script Seeded run →
    (y : CallStep) → Contains (steps_in script run) y → IsTrue (arrives_at_fence y) →
    (id : Id) → NamesNoTouch run id → id ≢ y.id → Before script run y.id id →
    (x : CallStep) × Contains (steps_in script run) x × IsTrue (leads_to (events_in script run) y.id x.id)
    × Before script run x.id id

-- ---- starts

-- the step is the complete that ends the start epoch of an RMA access
pub record EndsStartOf (script : Script) (run : Run) (a : IssuedAccess) (y : CallStep) : Type 0 where
  pub access : Contains (accesses_in script run) a
  pub rma : IsTrue (is_rma (role_of a.issued.access.kind))
  pub epoch : IsTrue (is_start_epoch a.epoch)
  pub next : next_step (timeline_of script run) completes_start a ≡ Some y

-- the step is a wait of the target of the access, on its window
pub record WaitsAtTarget (script : Script) (run : Run) (a : IssuedAccess) (x : CallStep) : Type 0 where
  pub step : Contains (steps_in script run) x
  pub rank : x.id.rank ≡ a.issued.access.target
  pub window : IsTrue (is_step_on a.issued.access.window x)
  pub waits : IsTrue (is_wait_step x)

-- the complete leads to the step
abbrev pub IsLedTo : Script → Run → CallStep → CallStep → Type 0
IsLedTo script run y x = IsTrue (leads_to (events_in script run) y.id x.id)

-- the step of the target to which the complete of an RMA access leads is a wait on the window of the access
abbrev pub CompletesLeadToWaits : Type 0
CompletesLeadToWaits = (script : Script) (run : Run) → IsWellFormed script → IsLawful script Seeded run →
    (a : IssuedAccess) (y x : CallStep) → EndsStartOf script run a y → Contains (steps_in script run) x →
    x.id.rank ≡ a.issued.access.target → IsLedTo script run y x → WaitsAtTarget script run a x

-- Where the complete of an RMA access is before a wait of the target on the window, it leads to that wait or to an
-- earlier one.
abbrev pub FirstWaitsAreLedTo : Type 0
FirstWaitsAreLedTo = (script : Script) (run : Run) → IsWellFormed script → IsLawful script Seeded run →
    (a : IssuedAccess) (y late : CallStep) → EndsStartOf script run a y → WaitsAtTarget script run a late →
    Before script run y.id late.id →
    (x : CallStep) × WaitsAtTarget script run a x × IsLedTo script run y x × (x.id.index ≤ late.id.index)
