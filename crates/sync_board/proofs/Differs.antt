-- An arrival of a round that differs, by the values that are kept of the arrivals.
use Rattle.std.proofs.Common.{◌≡◌, ℕ, zero, suc, ◌<◌, Bool, true, false, not, ◌||◌, List, [], ◌∷◌, length, get_or}
use Rattle.std.proofs.Common.{refl, ap, sym, ◌∙◌, Option, Some, None, arith}
use Rattle.std.specs.Prelude.{slice_get}
use Rattle.std.specs.List.{list_any}
use Rattle.std.specs.Option.{option_map, option_map_or}
use Rattle.rma_types.specs.declared.calls.Asserts.{Asserts}
use Rattle.rma_types.specs.declared.calls.Call.{Call}
use Rattle.rma_types.specs.declared.calls.Flavor.{Flavor}
use Rattle.rma_types.specs.declared.actions.Creation.{Creation}
use Rattle.rma_types.specs.declared.actions.Synchronisation.{Synchronisation}
use Rattle.rma_types.specs.Actions.{creation_of, synchronisation_of}
use Rattle.rank_rules.specs.Windows.{is_same_flavor}
use Rattle.board_rules.specs.Rounds.{asserts_of_fence, do_asserts_differ, is_differing_creation, is_differing_fence}
use Rattle.sync_board.specs.Rounds.{AreOf, arrival_in, asserts_in, flavor_in}

-- a test of a call by what it has
pub any_arrival : {X : Type 0} (has : Call → Option X) (by_value : X → Bool) (by_call : Call → Bool) →
    ((call : Call) (value : X) → has call ≡ Some value → by_call call ≡ by_value value) →
    (values : List X) (calls : List Call) → AreOf has values calls → (round : ℕ) →
    option_map_or by_value (slice_get values round) false ≡ list_any by_call (arrival_in calls round)
any_arrival has by_value by_call same [] [] are round = refl
any_arrival has by_value by_call same [] (call ∷ calls) are round = absurd are
any_arrival has by_value by_call same (value ∷ values) [] are round = absurd are
any_arrival has by_value by_call same (value ∷ values) (call ∷ calls) are zero = sym
    (or_nothing (by_call call) ∙ same call value are.0)
  where
    or_nothing : (b : Bool) → (b || false) ≡ b
    or_nothing true = refl
    or_nothing false = refl
any_arrival has by_value by_call same (value ∷ values) (call ∷ calls) are (suc round) = any_arrival has by_value by_call
    same values calls are.1 round

pub fence_by_asserts : (asserts : Asserts) (call : Call) (other : Asserts) → asserts_in call ≡ Some other →
    is_differing_fence asserts call ≡ do_asserts_differ asserts other
fence_by_asserts asserts call other e =
    through (synchronisation_of call) ∙ ap (λ o. option_map_or (do_asserts_differ asserts) o false) e
  where
    through : (o : Option Synchronisation) →
        option_map_or (λ s. option_map_or (do_asserts_differ asserts) (asserts_of_fence s) false) o false
        ≡ option_map_or (do_asserts_differ asserts) (option_map_or asserts_of_fence o None) false
    through None = refl
    through (Some s) = refl

pub creation_by_flavor : (flavor : Flavor) (call : Call) (other : Flavor) → flavor_in call ≡ Some other →
    is_differing_creation flavor call ≡ not (is_same_flavor flavor other)
creation_by_flavor flavor call other e =
    through (creation_of call) ∙ ap (λ o. option_map_or (λ f. not (is_same_flavor flavor f)) o false) e
  where
    through : (o : Option Creation) → option_map_or (λ (c : Creation). not (is_same_flavor flavor c.flavor)) o false
        ≡ option_map_or (λ f. not (is_same_flavor flavor f)) (option_map (λ (c : Creation). c.flavor) o) false
    through None = refl
    through (Some c) = refl

pub slice_get_at : {X : Type 0} (xs : List X) (k : ℕ) (d : X) → k < length xs → slice_get xs k ≡ Some (get_or xs k d)
slice_get_at [] k d within = absurd (omega arith)
slice_get_at (x ∷ xs) zero d within = refl
slice_get_at (x ∷ xs) (suc k) d within = slice_get_at xs k d (omega arith)
