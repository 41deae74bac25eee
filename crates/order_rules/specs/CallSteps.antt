-- The accesses of a run and the steps of its synchronising calls, each with what its rank knew before it: this
-- project's record of a run.
use Rattle.std.specs.Prelude.{ℕ, ◌&&◌, ◌==◌, nat_lt, Bool, false, List, [], ◌∷◌, map, take, slice_get, Option, Some}
use Rattle.std.specs.Prelude.{None}
use Rattle.std.specs.List.{filter, flat_map}
use Rattle.std.specs.Option.{option_map_or}
use Rattle.rma_types.specs.declared.accesses.Id.{Id}
use Rattle.rma_types.specs.declared.accesses.Step.{Step}
use Rattle.rma_types.specs.declared.accesses.Step.TheVariants.{One}
use Rattle.rma_types.specs.declared.calls.Call.{Call}
use Rattle.rma_types.specs.declared.schedules.Delay.TheVariants.{Seeded}
use Rattle.rma_types.specs.declared.scripts.Script.{Script}
use Rattle.rma_record.specs.declared.items.Item.{Item}
use Rattle.rma_record.specs.declared.items.Item.TheVariants.{Issue, Null, Touch, Flush, Request, Entry, Tested, Refused}
use Rattle.rma_record.specs.declared.items.Item.TheVariants.{Ended}
use Rattle.rma_record.specs.declared.runs.Run.{Run}
use Rattle.rma_types.specs.declared.actions.Transfer.{Transfer}
use Rattle.rma_types.specs.Actions.{window_of_call}
use Rattle.call_rules.specs.Pieces.{numbers_from}
use Rattle.rank_rules.specs.Epochs.{AccessEpoch, Idle, epochs_at}
use Rattle.rank_rules.specs.Knowledge.{Knowledge}
use Rattle.rank_rules.specs.declared.pending.PendingAccess.{PendingAccess}
use Rattle.rank_rules.specs.Windows.{Window, window_of_name}
use Rattle.lawful_runs.specs.Accesses.{transfer_at, issued_from}
use Rattle.lawful_runs.specs.LawfulRun.{rank_in}
use Rattle.lawful_runs.specs.Logs.{Named, log_of, calls_of, named_items}
use Rattle.lawful_runs.specs.Stages.{known_at}
use Rattle.order_rules.specs.Before.{is_same_id}

-- what the rank of the item of this name knew before it
abbrev pub known_before : Script → Run → Id → Knowledge
known_before script run id = known_at (rank_in script Seeded run id.rank) (take id.index (log_of run id.rank))

-- ---- steps of calls

-- a step of an accepted call: its name, its call, which step it is, and what its rank knew before it
pub record CallStep : Type 0 where
  pub id : Id
  pub call : Call
  pub step : Step
  pub known : Knowledge

-- the call of which an item is a step, and which step: an entry, a flush or sync, or the end of a request
abbrev pub step_by : Item → Option (ℕ × Step)
step_by (Issue number access) = None
step_by (Null number) = None
step_by (Touch issue element cell place bits) = None
step_by (Flush number) = Some (number, One)
step_by (Request number) = Some (number, One)
step_by (Entry number place step) = Some (number, step)
step_by (Tested number seen) = None
step_by (Refused number class seen) = None
step_by Ended = None

abbrev pub call_step : Script → Run → Id → (ℕ × Step) → List CallStep
call_step script run id (number, step) = option_map_or
    (λ call. record { id = id; call = call; step = step; known = known_before script run id } ∷ [])
    (slice_get (calls_of script id.rank) number) []

abbrev pub steps_of_item : Script → Run → Named → List CallStep
steps_of_item script run one = option_map_or (call_step script run one.id) (step_by one.item) []

-- the steps of the calls of a run, in the order of their names
abbrev pub steps_in : Script → Run → List CallStep
steps_in script run = flat_map (steps_of_item script run) (named_items run)

-- the live window of this name has this number
abbrev pub is_numbered : Knowledge → ℕ → ℕ → Bool
is_numbered known number win =
    option_map_or (λ (window : Window). window.number == number) (window_of_name known.windows win) false

-- the step is on the window of this number
abbrev pub is_step_on : ℕ → CallStep → Bool
is_step_on number x = option_map_or (is_numbered x.known number) (window_of_call x.call) false

-- ---- accesses

-- an access: its name, what was issued, and the access epoch on its window in which its rank was before
pub record IssuedAccess : Type 0 where
  pub id : Id
  pub issued : PendingAccess
  pub epoch : AccessEpoch

-- the access epoch of a rank on the window of a transfer
abbrev pub epoch_for : Knowledge → Option Transfer → AccessEpoch
epoch_for known transfer = option_map_or (λ (t : Transfer). (epochs_at known.epochs t.win).access) transfer Idle

abbrev pub issued_access : Script → Run → ℕ → PendingAccess → IssuedAccess
issued_access script run rank issued =
    let id : Id = record { rank = rank; index = issued.index } in
    let transfer = transfer_at (calls_of script rank) issued.number in
    record { id = id; issued = issued; epoch = epoch_for (known_before script run id) transfer }

-- the accesses of a rank
abbrev pub accesses_of : Script → Run → ℕ → List IssuedAccess
accesses_of script run rank =
    map (issued_access script run rank) (issued_from (calls_of script rank) 0 (log_of run rank))

-- the accesses of a run, in the order of their names
abbrev pub accesses_in : Script → Run → List IssuedAccess
accesses_in script run = flat_map (accesses_of script run) (numbers_from 0 script.ranks)

-- the accesses of this name: one, where the item of this name is an Issue
abbrev pub accesses_named : Script → Run → Id → List IssuedAccess
accesses_named script run id = filter (λ (a : IssuedAccess). is_same_id a.id id) (accesses_in script run)

-- the step stands after the access in the log of its origin
abbrev pub is_later_at_origin : IssuedAccess → CallStep → Bool
is_later_at_origin a x = x.id.rank == a.id.rank && nat_lt a.id.index x.id.index

-- the step stands after the access in the log of its origin, on its window
abbrev pub is_later_on_window : IssuedAccess → CallStep → Bool
is_later_on_window a x = is_later_at_origin a x && is_step_on a.issued.access.window x
