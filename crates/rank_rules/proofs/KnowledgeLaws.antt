-- What an item teaches, and which tests a rank passes.
use Rattle.std.proofs.Common.{ℕ, List, ◌≡◌, Some, false, ap, cond, None, ◌∙◌}
use Rattle.std.specs.Option.{option_map_or}
use Rattle.std.specs.Prelude.{slice_get}
use Rattle.rma_types.specs.Actions.{action_of}
use Rattle.rma_types.specs.declared.accesses.Step.{Step}
use Rattle.rma_types.specs.declared.calls.Call.{Call}
use Rattle.rma_types.specs.declared.scripts.Part.{Part}
use Rattle.rma_record.specs.declared.items.Item.TheVariants.{Entry}
use Rattle.rank_rules.proofs.ClassLaws.{least_none}
use Rattle.rank_rules.specs.Classes.{least_class}
use Rattle.rank_rules.specs.EpochTests.{epoch_class}
use Rattle.rank_rules.specs.Knowledge.{Knowledge, ends_call, learn, known_after_number, own_class}
use Rattle.rank_rules.specs.Requests.{request_class}
use Rattle.rank_rules.specs.WindowTests.{window_class}

-- an entry that does not end its call teaches nothing
pub learns_nothing : (shapes : ℕ → List Part) (calls : List Call) (known : Knowledge) (number place : ℕ) (step : Step)
    (call : Call) →
    slice_get calls number ≡ Some call → ends_call step call ≡ false →
    learn shapes calls known (Entry number place step) ≡ known
learns_nothing shapes calls known number place step call of ends =
    ap (λ o. option_map_or (known_after_number shapes calls known)
    (option_map_or (λ (c : Call). cond (ends_call step c) (Some number) None) o None) known) of
    ∙ ap (λ b. option_map_or (known_after_number shapes calls known) (cond b (Some number) None) known) ends

pub epochs_allow : (known : Knowledge) (call : Call) → own_class known call ≡ None →
    epoch_class known.windows.ranks known.epochs (action_of call) ≡ None
epochs_allow known call e =
    (least_none (epoch_class known.windows.ranks known.epochs (action_of call))
    (request_class known.requests (action_of call))
    (least_none (window_class known.windows (action_of call))
    (least_class (epoch_class known.windows.ranks known.epochs (action_of call))
    (request_class known.requests (action_of call))) e).1).0
