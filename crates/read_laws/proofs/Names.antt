-- The number of a window that a rank knows tells its name.
use Rattle.std.proofs.Common.{◌≡◌, ℕ, ◌%◌, ◌<◌, not, List, [], ◌∷◌, Option, Some, None, refl, ◌∙◌, arith}
use Rattle.std.specs.Prelude.{◌==◌, slice_get}
use Rattle.std.specs.List.{AllByRecursion}
use Rattle.std.specs.Option.{option_map_or}
use Rattle.std.proofs.lemmas.Bool.{eqb-true}
use Rattle.list_laws.proofs.Each.{each_append, each_kept, each_at, found_has}
use Rattle.rma_types.specs.declared.calls.Call.{Call}
use Rattle.rma_types.specs.declared.scripts.Part.{Part}
use Rattle.rma_record.specs.declared.items.Item.{Item}
use Rattle.rma_types.specs.declared.actions.Action.{Action}
use Rattle.rma_types.specs.declared.actions.Action.TheVariants.{Creates, Frees, Attaches, Detaches, Synchronises, Meets}
use Rattle.rma_types.specs.declared.actions.Action.TheVariants.{Moves, EndsRequest}
use Rattle.rma_types.specs.Actions.{action_of}
use Rattle.call_rules.specs.WellFormed.{IsWellFormed, IsWrittenCall, IsWrittenAction}
use Rattle.lawful_runs.specs.Stages.{RankOfRun, calls_here, known_at, shapes_in, first_knowledge}
use Rattle.rank_rules.specs.Knowledge.{Knowledge, known_after, known_after_number, known_after_call, learn, accepted_by}
use Rattle.rank_rules.specs.Windows.{Window, RankWindows, window_of_name, window_number, windows_after}
use Rattle.lawful_runs.proofs.LogLaws.{calls_written}

-- the number of a window is its name, and 32 for each round
abbrev pub IsNamed : Window → Type 0
IsNamed window = window.number % 32 ≡ window.win

abbrev AreNamed : RankWindows → Type 0
AreNamed known = AllByRecursion IsNamed known.windows

made_named : (round win : ℕ) → win < 32 → window_number round win % 32 ≡ win
made_named round win small = omega (arith, small)

action_named : (shapes : ℕ → List Part) (known : RankWindows) (action : Action) → IsWrittenAction action →
    AreNamed known →
    AreNamed (windows_after shapes known action)
action_named shapes known (Creates creation) written named =
    each_append IsNamed known.windows _ named (made_named _ creation.win written.name, tt)
action_named shapes known (Frees win) written named =
    each_kept IsNamed (λ (window : Window). not (window.win == win)) known.windows named
action_named shapes known (Attaches win base bytes) written named = named
action_named shapes known (Detaches win base) written named = named
action_named shapes known (Synchronises win s) written named = named
action_named shapes known Meets written named = named
action_named shapes known (Moves t) written named = named
action_named shapes known (EndsRequest req) written named = named

number_named : (shapes : ℕ → List Part) (calls : List Call) (known : Knowledge) (number : ℕ) →
    AllByRecursion IsWrittenCall calls →
    AreNamed known.windows → AreNamed (known_after_number shapes calls known number).windows
number_named shapes calls known number written named = by_call (slice_get calls number) refl
  where
    by_call : (o : Option Call) → slice_get calls number ≡ o →
        AreNamed (option_map_or (known_after_call shapes known number) o known).windows
    by_call None e = named
    by_call (Some call) e =
        action_named shapes known.windows (action_of call) (each_at IsWrittenCall calls number call written e) named

item_named : (shapes : ℕ → List Part) (calls : List Call) (known : Knowledge) (item : Item) →
    AllByRecursion IsWrittenCall calls →
    AreNamed known.windows → AreNamed (learn shapes calls known item).windows
item_named shapes calls known item written named = by_number (accepted_by calls item)
  where
    by_number : (o : Option ℕ) → AreNamed (option_map_or (known_after_number shapes calls known) o known).windows
    by_number None = named
    by_number (Some number) = number_named shapes calls known number written named

items_named : (shapes : ℕ → List Part) (calls : List Call) (known : Knowledge) (items : List Item) →
    AllByRecursion IsWrittenCall calls →
    AreNamed known.windows → AreNamed (known_after shapes calls known items).windows
items_named shapes calls known [] written named = named
items_named shapes calls known (item ∷ items) written named =
    items_named shapes calls (learn shapes calls known item) items written
    (item_named shapes calls known item written named)

-- the number of the window of this name
pub name_of_window : (here : RankOfRun) (items : List Item) (win : ℕ) (window : Window) →
    IsWellFormed here.stage.script →
    window_of_name (known_at here items).windows win ≡ Some window → window.number % 32 ≡ win
name_of_window here items win window formed e =
    let named = items_named (shapes_in here.stage here.rows) (calls_here here)
    (first_knowledge here.stage here.rank) items
    (calls_written here.stage.script here.rank formed) tt in
    let one = found_has IsNamed (λ (w : Window). w.win == win) (known_at here items).windows.windows window named e in
    one.0 ∙ eqb-true window.win win one.1
