-- What a rank knows at a place of its log, as the fold of its accepted calls, and the class that it gives a call by
-- that alone: MPI 3.1, sections 8.4, 11.2, 11.3.5, 11.5 and 11.6, in this project's order.
use Rattle.std.specs.Prelude.{ℕ, Bool, true, false, List, Option, Some, None, slice_get, is_none, if◌then◌else◌}
use Rattle.std.specs.List.{fold}
use Rattle.std.specs.Option.{option_map_or}
use Rattle.rma_types.specs.declared.accesses.Step.{Step}
use Rattle.rma_types.specs.declared.accesses.Step.TheVariants.{Arrive, Leave, One}
use Rattle.rma_types.specs.declared.calls.Call.{Call}
use Rattle.rma_types.specs.declared.classes.Class.{Class}
use Rattle.rma_types.specs.declared.scripts.Part.{Part}
use Rattle.rma_record.specs.declared.items.Item.{Item}
use Rattle.rma_record.specs.declared.items.Item.TheVariants.{Issue, Null, Touch, Flush, Request, Entry, Tested, Refused}
use Rattle.rma_record.specs.declared.items.Item.TheVariants.{Ended}
use Rattle.rma_types.specs.Actions.{action_of, transfer_of}
use Rattle.rank_rules.specs.Classes.{least_class}
use Rattle.rank_rules.specs.Epochs.{Epochs, first_epochs, epochs_after}
use Rattle.rank_rules.specs.EpochTests.{epoch_class}
use Rattle.rank_rules.specs.Requests.{Requests, no_requests, requests_after, request_class}
use Rattle.rank_rules.specs.Windows.{RankWindows, no_windows, windows_after}
use Rattle.rank_rules.specs.WindowTests.{window_class}

-- the windows and ranges, the epochs on them by name, and the live requests
pub record Knowledge : Type 0 where
  pub windows : RankWindows
  pub epochs : List Epochs
  pub requests : Requests

-- what a rank knows before its first call
abbrev pub nothing_known : (rank : ℕ) → (ranks : ℕ) → (space : ℕ) → Knowledge
nothing_known rank ranks space =
    record { windows = no_windows rank ranks space; epochs = first_epochs; requests = no_requests }

-- the class that the rank gives the call by its own tests, or none: the least, by number, of those of three subjects
abbrev pub own_class : Knowledge → Call → Option Class
own_class known call =
    let action = action_of call in
    least_class (window_class known.windows action)
    (least_class (epoch_class known.windows.ranks known.epochs action) (request_class known.requests action))

-- what is known after the accepted call of this number; shapes gives the parts of a window by its number
abbrev pub known_after_call : (ℕ → List Part) → Knowledge → ℕ → Call → Knowledge
known_after_call shapes known number call = record {
  windows = windows_after shapes known.windows (action_of call);
  epochs = epochs_after known.epochs (action_of call);
  requests = requests_after known.requests number (action_of call);
}

-- an entry ends its call, unless it is an Arrive or the look-up of an RMA call
abbrev pub ends_call : Step → Call → Bool
ends_call Arrive call = false
ends_call Leave call = true
ends_call One call = is_none (transfer_of call)

-- the number of the accepted call that an item ends
abbrev pub accepted_by : List Call → Item → Option ℕ
accepted_by calls (Issue number access) = Some number
accepted_by calls (Null number) = Some number
accepted_by calls (Touch issue element cell place bits) = None
accepted_by calls (Flush number) = Some number
accepted_by calls (Request number) = Some number
accepted_by calls (Entry number place step) = option_map_or
    (λ (call : Call). if ends_call step call then Some number else None) (slice_get calls number) None
accepted_by calls (Tested number seen) = None
accepted_by calls (Refused number class seen) = None
accepted_by calls Ended = None

-- what is known after the call of this number of the list is accepted
abbrev pub known_after_number : (ℕ → List Part) → List Call → Knowledge → ℕ → Knowledge
known_after_number shapes calls known number =
    option_map_or (known_after_call shapes known number) (slice_get calls number) known

-- what is known after one more item of the log
abbrev pub learn : (ℕ → List Part) → List Call → Knowledge → Item → Knowledge
learn shapes calls known item = option_map_or (known_after_number shapes calls known) (accepted_by calls item) known

-- what a rank knows after these items of its log, which began with what is given
abbrev pub known_after : (ℕ → List Part) → List Call → Knowledge → List Item → Knowledge
known_after shapes calls known items = fold (learn shapes calls) known items
