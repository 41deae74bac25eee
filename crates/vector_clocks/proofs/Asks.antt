-- The ranks that a synchronisation of an entry names are ranks of the run.
use Rattle.std.proofs.Common.{◌≡◌, ℕ, false, List, [], ◌∷◌, Option, Some, None, refl}
use Rattle.std.specs.Prelude.{slice_get}
use Rattle.std.specs.Option.{option_map_or}
use Rattle.rma_types.specs.declared.calls.Call.{Call}
use Rattle.rma_types.specs.declared.scripts.Part.{Part}
use Rattle.rma_record.specs.declared.items.Item.{Item}
use Rattle.rma_types.specs.declared.actions.Action.{Action}
use Rattle.rma_types.specs.declared.actions.Action.TheVariants.{Creates, Frees, Attaches, Detaches, Synchronises, Meets}
use Rattle.rma_types.specs.declared.actions.Action.TheVariants.{Moves, EndsRequest}
use Rattle.rma_types.specs.Actions.{action_of, synchronisation_in}
use Rattle.rank_rules.specs.Epochs.{Epochs}
use Rattle.rank_rules.specs.EpochTests.{epoch_class, epoch_tests, names_wrong_rank}
use Rattle.rank_rules.specs.Knowledge.{Knowledge, known_after, learn, known_after_number, known_after_call}
use Rattle.rank_rules.specs.Knowledge.{accepted_by}
use Rattle.rank_rules.specs.Windows.{RankWindows, windows_after}
use Rattle.rank_rules.proofs.ClassLaws.{none_applies}
use Rattle.lawful_runs.specs.Stages.{RankOfRun, calls_here, known_at, first_knowledge, shapes_in}

-- ---- the tests that a call passed

pub names_ranks : (ranks : ℕ) (epochs : List Epochs) (a : Action) → epoch_class ranks epochs a ≡ None →
    option_map_or (names_wrong_rank ranks) (synchronisation_in a) false ≡ false
names_ranks ranks epochs (Creates creation) e = refl
names_ranks ranks epochs (Frees win) e = refl
names_ranks ranks epochs (Attaches win base bytes) e = refl
names_ranks ranks epochs (Detaches win base) e = refl
names_ranks ranks epochs (Synchronises win s) e = (none_applies (epoch_tests ranks epochs (Synchronises win s)) e).0
names_ranks ranks epochs Meets e = refl
names_ranks ranks epochs (Moves t) e = refl
names_ranks ranks epochs (EndsRequest req) e = refl

-- ---- what stays in a rank's knowledge

windows_stay : (ranks : ℕ) (shapes : ℕ → List Part) (known : RankWindows) (a : Action) → known.ranks ≡ ranks →
    (windows_after shapes known a).ranks ≡ ranks
windows_stay ranks shapes known (Creates creation) p = p
windows_stay ranks shapes known (Frees win) p = p
windows_stay ranks shapes known (Attaches win base bytes) p = p
windows_stay ranks shapes known (Detaches win base) p = p
windows_stay ranks shapes known (Synchronises win s) p = p
windows_stay ranks shapes known Meets p = p
windows_stay ranks shapes known (Moves t) p = p
windows_stay ranks shapes known (EndsRequest req) p = p

call_stays : (ranks : ℕ) (shapes : ℕ → List Part) (known : Knowledge) (number : ℕ) (call : Option Call) →
    known.windows.ranks ≡ ranks →
    (option_map_or (known_after_call shapes known number) call known).windows.ranks ≡ ranks
call_stays ranks shapes known number None p = p
call_stays ranks shapes known number (Some call) p = windows_stay ranks shapes known.windows (action_of call) p

number_stays : (ranks : ℕ) (shapes : ℕ → List Part) (calls : List Call) (known : Knowledge) (number : Option ℕ) →
    known.windows.ranks ≡ ranks →
    (option_map_or (known_after_number shapes calls known) number known).windows.ranks ≡ ranks
number_stays ranks shapes calls known None p = p
number_stays ranks shapes calls known (Some number) p =
    call_stays ranks shapes known number (slice_get calls number) p

items_stay : (ranks : ℕ) (shapes : ℕ → List Part) (calls : List Call) (known : Knowledge) (items : List Item) →
    known.windows.ranks ≡ ranks → (known_after shapes calls known items).windows.ranks ≡ ranks
items_stay ranks shapes calls known [] p = p
items_stay ranks shapes calls known (item ∷ items) p =
    items_stay ranks shapes calls (learn shapes calls known item) items
    (number_stays ranks shapes calls known (accepted_by calls item) p)

pub ranks_stay : (rank_here : RankOfRun) (items : List Item) →
    (known_at rank_here items).windows.ranks ≡ rank_here.stage.script.ranks
ranks_stay rank_here items =
    items_stay rank_here.stage.script.ranks (shapes_in rank_here.stage rank_here.rows) (calls_here rank_here)
    (first_knowledge rank_here.stage rank_here.rank) items refl
