-- What is kept of each item is what the definitions say of it, where the tables stand for what its rank knew before it.
use Rattle.std.proofs.Common.{◌≡◌, ℕ, [], ◌∷◌, Option, Some, None, map}
use Rattle.std.proofs.Common.{refl, ap, sym, ◌∙◌, subst}
use Rattle.std.specs.Prelude.{slice_get, slice_index_or}
use Rattle.std.specs.List.{AllByRecursion}
use Rattle.std.specs.Option.{option_map, option_map_or}
use Rattle.std.proofs.Math.ListN.{get_or-map}
use Rattle.list_laws.proofs.Each.{each_at}
use Rattle.rma_types.specs.declared.accesses.Access.{Access}
use Rattle.rma_types.specs.declared.accesses.Step.{Step}
use Rattle.rma_types.specs.declared.calls.Call.{Call}
use Rattle.rma_types.specs.declared.scripts.Script.{Script}
use Rattle.rma_record.specs.declared.items.Item.{Item}
use Rattle.rma_record.specs.declared.items.Item.TheVariants.{Issue, Null, Touch, Flush, Request, Entry, Tested, Refused}
use Rattle.rma_record.specs.declared.items.Item.TheVariants.{Ended}
use Rattle.rma_record.specs.declared.runs.Run.{Run}
use Rattle.rma_types.specs.declared.actions.Action.{Action}
use Rattle.rma_types.specs.declared.actions.Action.TheVariants.{Creates, Frees, Attaches, Detaches, Synchronises, Meets}
use Rattle.rma_types.specs.declared.actions.Action.TheVariants.{Moves, EndsRequest}
use Rattle.rma_types.specs.declared.actions.Transfer.{Transfer}
use Rattle.rma_types.specs.Actions.{action_of, transfer_in, window_in_action}
use Rattle.call_rules.specs.WellFormed.{IsWrittenAction, IsWrittenCall}
use Rattle.lawful_runs.specs.Accesses.{issued_by, transfer_at}
use Rattle.lawful_runs.specs.Logs.{Named, calls_of}
use Rattle.order_rules.specs.CallSteps.{call_step, epoch_for, issued_access, known_before, step_by}
use Rattle.order_rules.specs.CallSteps.{steps_of_item}
use Rattle.order_rules.specs.DonePoints.{request_ended}
use Rattle.rank_rules.specs.Epochs.{AccessEpoch, Idle, FenceUnused, FenceUsed, StartTo, LocksAt, LockAll, Epochs}
use Rattle.rank_rules.specs.Epochs.{epochs_at, no_epochs}
use Rattle.rank_rules.specs.Knowledge.{Knowledge}
use Rattle.rank_rules.specs.Requests.{maker_of}
use Rattle.rank_rules.specs.Windows.{Window, window_of_name}
use Rattle.rank_records.specs.Deeds.{deed_by, ended_in, moved_in, window_in}
use Rattle.rank_records.specs.Kept.{EachKept, IsKeptAccess, IsKeptStep, kind_of_epoch}
use Rattle.rank_records.specs.Records.{access_kept, access_with, in_list, moved_at, place_by, step_kept, step_of_call}
use Rattle.rank_records.specs.Records.{step_with}
use Rattle.rank_records.specs.Tables.{StandsFor, epoch_by, epoch_in, kind_in}
use Rattle.rank_records.specs.declared.tables.Epoch.TheVariants as table
use Rattle.rank_records.specs.declared.tables.Known.{Known}

-- ---- what the tables say of a call

numbered : (known : Knowledge) (tables : Known) → StandsFor known tables → (a : Action) → IsWrittenAction a →
    option_map_or (λ win. slice_index_or tables.numbers.numbers win None) (window_in (deed_by a)) None
    ≡ option_map_or (λ win. option_map (λ (window : Window). window.number) (window_of_name known.windows win))
    (window_in_action a) None
numbered known tables stands (Creates creation) written = stands.numbers.live creation.win written.name
numbered known tables stands (Frees win) written = stands.numbers.live win written
numbered known tables stands (Attaches win base bytes) written = stands.numbers.live win written.0
numbered known tables stands (Detaches win base) written = stands.numbers.live win written.0
numbered known tables stands (Synchronises win s) written = stands.numbers.live win written.0
numbered known tables stands Meets written = refl
numbered known tables stands (Moves t) written = stands.numbers.live t.win written.name
numbered known tables stands (EndsRequest req) written = refl

made : (known : Knowledge) (tables : Known) → StandsFor known tables → (a : Action) →
    option_map_or (λ req. slice_index_or tables.makers req None) (ended_in (deed_by a)) None
    ≡ option_map_or (maker_of known.requests) (request_ended a) None
made known tables stands (Creates creation) = refl
made known tables stands (Frees win) = refl
made known tables stands (Attaches win base bytes) = refl
made known tables stands (Detaches win base) = refl
made known tables stands (Synchronises win s) = refl
made known tables stands Meets = refl
made known tables stands (Moves t) = refl
made known tables stands (EndsRequest req) = ap (λ l. slice_index_or l req None) stands.makers

kinds : (access : AccessEpoch) → kind_in (epoch_by access) ≡ kind_of_epoch access
kinds Idle = refl
kinds FenceUnused = refl
kinds FenceUsed = refl
kinds (StartTo group) = refl
kinds (LocksAt targets) = refl
kinds LockAll = refl

kind_is : (known : Knowledge) (tables : Known) → StandsFor known tables → (win : ℕ) →
    kind_in (epoch_in tables win) ≡ kind_of_epoch (epochs_at known.epochs win).access
kind_is known tables stands win =
    ap (λ l. kind_in (slice_index_or l win table.Idle)) stands.epochs
    ∙ ap kind_in (get_or-map (λ (one : Epochs). epoch_by one.access) known.epochs win no_epochs)
    ∙ kinds (epochs_at known.epochs win).access

-- ---- one item

module _ (script : Script) (run : Run) (one : Named) (tables : Known)
    (stands : StandsFor (known_before script run one.id) tables)
    (written : AllByRecursion IsWrittenCall (calls_of script one.id.rank)) where
  step_by_call : (place : Option ℕ) (number : ℕ) (step : Step) (o : Option Call) →
      slice_get (calls_of script one.id.rank) number ≡ o →
      EachKept (IsKeptStep script)
      (in_list (option_map (step_with tables one.id place number step)
      (option_map (λ call. deed_by (action_of call)) o)))
      (option_map_or
      (λ call. record { id = one.id; call = call; step = step; known = known_before script run one.id } ∷ []) o [])
  step_by_call place number step None of = tt
  step_by_call place number step (Some call) of = (
    record {
      named = refl;
      called = of;
      step = refl;
      window = numbered (known_before script run one.id) tables stands (action_of call)
          (each_at IsWrittenCall (calls_of script one.id.rank) number call written of);
      maker = made (known_before script run one.id) tables stands (action_of call);
    },
    tt,
  )

  step_by_item : (place : Option ℕ) (o : Option (ℕ × Step)) →
      EachKept (IsKeptStep script)
      (in_list (option_map_or (step_of_call tables (calls_of script one.id.rank) one.id place) o None))
      (option_map_or (call_step script run one.id) o [])
  step_by_item place None = tt
  step_by_item place (Some (number, step)) =
      step_by_call place number step (slice_get (calls_of script one.id.rank) number) refl

  -- the step that an item is
  pub step_is_kept : EachKept (IsKeptStep script)
      (in_list (step_kept tables (calls_of script one.id.rank) one.id one.item)) (steps_of_item script run one)
  step_is_kept = step_by_item (place_by one.item) (step_by one.item)

  moved_is : (number : ℕ) (o : Option Call) → slice_get (calls_of script one.id.rank) number ≡ o →
      moved_at (calls_of script one.id.rank) number
      ≡ option_map (λ (t : Transfer). t.win) (transfer_at (calls_of script one.id.rank) number)
  moved_is number None of = rw of refl
  moved_is number (Some call) of = rw of (by_action (action_of call))
    where
      by_action : (a : Action) → moved_in (deed_by a) ≡ option_map (λ (t : Transfer). t.win) (transfer_in a)
      by_action (Creates creation) = refl
      by_action (Frees win) = refl
      by_action (Attaches win base bytes) = refl
      by_action (Detaches win base) = refl
      by_action (Synchronises win s) = refl
      by_action Meets = refl
      by_action (Moves t) = refl
      by_action (EndsRequest req) = refl

  access_by_transfer : (number : ℕ) (access : Access) (o : Option Transfer) →
      transfer_at (calls_of script one.id.rank) number ≡ o →
      EachKept IsKeptAccess
      (in_list (option_map (access_with tables one.id number access) (option_map (λ (t : Transfer). t.win) o)))
      (map (issued_access script run one.id.rank) (in_list (option_map_or
      (λ (t : Transfer). Some (record { index = one.id.index; number = number; access = access; fetches = t.fetches }))
      o None)))
  access_by_transfer number access None of = tt
  access_by_transfer number access (Some t) of = (
    record {
      named = refl;
      number = refl;
      access = refl;
      epoch = kind_is (known_before script run one.id) tables stands t.win
          ∙ sym (ap (λ o. kind_of_epoch (epoch_for (known_before script run one.id) o)) of);
    },
    tt,
  )

  -- the access that an item issues
  pub access_by_item : (item : Item) → EachKept IsKeptAccess
      (in_list (access_kept tables (calls_of script one.id.rank) one.id item))
      (map (issued_access script run one.id.rank)
      (in_list (issued_by (calls_of script one.id.rank) one.id.index item)))
  access_by_item (Issue number access) =
      subst (λ o. EachKept IsKeptAccess (in_list (option_map (access_with tables one.id number access) o))
      (map (issued_access script run one.id.rank)
      (in_list (issued_by (calls_of script one.id.rank) one.id.index (Issue number access)))))
      (sym (moved_is number (slice_get (calls_of script one.id.rank) number) refl))
      (access_by_transfer number access (transfer_at (calls_of script one.id.rank) number) refl)
  access_by_item (Null number) = tt
  access_by_item (Touch issue element cell place bits) = tt
  access_by_item (Flush number) = tt
  access_by_item (Request number) = tt
  access_by_item (Entry number place step) = tt
  access_by_item (Tested number seen) = tt
  access_by_item (Refused number class seen) = tt
  access_by_item Ended = tt
