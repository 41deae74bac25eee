-- A step that an access looks for has one of the keys of the access.
use Rattle.std.proofs.Common.{◌≡◌, ℕ, ℤ, inl, inr, Bool, true, false, Option, Some, None}
use Rattle.std.proofs.Common.{refl, ap, sym, ◌∙◌}
use Rattle.std.specs.Prelude.{◌==◌, ◌&&◌, ◌||◌}
use Rattle.std.specs.Option.{option_map, option_map_or}
use Rattle.std.proofs.lemmas.Bool.{cases_Bool, cases_eq, eqb-true, eq-eqb}
use Rattle.list_laws.proofs.Truths.{and_false}
use Rattle.rma_types.specs.declared.calls.Call.{Call}
use Rattle.rma_types.specs.declared.scripts.Script.{Script}
use Rattle.rma_types.specs.declared.actions.Synchronisation.{Synchronisation}
use Rattle.rma_types.specs.declared.actions.Synchronisation.TheVariants.{Fences, Posts, Starts, Completes, Waits, Locks}
use Rattle.rma_types.specs.declared.actions.Synchronisation.TheVariants.{Unlocks, Flushes, Syncs}
use Rattle.rma_types.specs.Actions.{synchronisation_of}
use Rattle.call_rules.specs.Ranks.{natural}
use Rattle.order_rules.specs.DonePoints.{completes_at_origin, completes_at_target}
use Rattle.rank_rules.specs.Pending.{is_towards}
use Rattle.rank_records.specs.declared.kept.KeptAccess.{KeptAccess}
use Rattle.rank_records.specs.declared.kept.KeptStep.{KeptStep}
use Rattle.first_points.specs.KeptPoints.{call_at, does, ends_request, is_sought, issued_as}
use Rattle.first_points.specs.Keys.{call_key, has_key, key_eq, origin_key, reach_key, target_key, window_key}
use Rattle.first_points.specs.declared.keys.Aim.TheVariants.{Window, Request}
use Rattle.first_points.specs.declared.keys.StepKey.{StepKey}
use Rattle.first_points.specs.declared.keys.StepKey.TheVariants.{OnWindow, Towards, OfCall}
use Rattle.first_points.specs.declared.searches.Sought.{Sought}
use Rattle.first_points.specs.declared.searches.Sought.TheVariants.{FenceArrival, Complete, Wait, AtTarget, AtOrigin}
use Rattle.first_points.specs.declared.searches.Sought.TheVariants.{TakingIn, GivingOut}

eq_turned : (m n : ℕ) → (m == n) ≡ (n == m)
eq_turned m n = elim (cases_eq m n) [
  | inl same ↦ eq-eqb m n same ∙ sym (eq-eqb n m (sym same))
  | inr other ↦ elim (cases_Bool (n == m)) [
    | inl same ↦ absurd (other (sym (eqb-true n m same)))
    | inr fails ↦ elim (cases_Bool (m == n)) [
      | inl same ↦ absurd (other (eqb-true m n same))
      | inr fails_too ↦ fails_too ∙ sym fails
    ]
  ]
]

-- the key is one of those of the accesses on this window towards this rank
abbrev is_one_of : ℕ → ℕ → Option StepKey → Bool
is_one_of window target key =
    option_map_or (λ (one : StepKey). key_eq one (OnWindow window)) key false
    || option_map_or (λ (one : StepKey). key_eq one (Towards window target)) key false

module _ (a : KeptAccess) (n : ℕ) where
  whole : (b : Bool) →
      (n == a.access.window && b) ≡ is_one_of a.access.window a.access.target (window_key n b)
  whole true = all (n == a.access.window)
    where
      all : (b : Bool) → (b && true) ≡ (b || false)
      all true = refl
      all false = refl
  whole false = and_false (n == a.access.window)

  reach : (t : Option ℤ) → (n == a.access.window && is_towards t (issued_as a))
      ≡ is_one_of a.access.window a.access.target (Some (reach_key n t))
  reach None = whole true
  reach (Some rank) = ap (λ b. n == a.access.window && b) (eq_turned a.access.target (natural rank))

  at_target : (s : Synchronisation) → (n == a.access.window && completes_at_target (issued_as a) s)
      ≡ is_one_of a.access.window a.access.target (target_key n s)
  at_target (Fences asserts) = whole false
  at_target (Posts group asserts) = whole false
  at_target (Starts group asserts) = whole false
  at_target Completes = whole false
  at_target (Waits tests) = whole false
  at_target (Locks kind target asserts) = whole false
  at_target (Unlocks target) = reach target
  at_target (Flushes target true) = whole false
  at_target (Flushes target false) = reach target
  at_target Syncs = whole false

  at_origin : (s : Synchronisation) → (n == a.access.window && completes_at_origin (issued_as a) s)
      ≡ is_one_of a.access.window a.access.target (origin_key n s)
  at_origin (Fences asserts) = whole false
  at_origin (Posts group asserts) = whole false
  at_origin (Starts group asserts) = whole false
  at_origin Completes = whole true
  at_origin (Waits tests) = whole false
  at_origin (Locks kind target asserts) = whole false
  at_origin (Unlocks target) = whole false
  at_origin (Flushes target true) = reach target
  at_origin (Flushes target false) = whole false
  at_origin Syncs = whole false

  where_one : (p : Synchronisation → Bool) (key : Synchronisation → Option StepKey) →
      ((s : Synchronisation) → (n == a.access.window && p s) ≡ is_one_of a.access.window a.access.target (key s)) →
      (o : Option Synchronisation) →
      (n == a.access.window && option_map_or p o false)
      ≡ is_one_of a.access.window a.access.target (option_map_or key o None)
  where_one p key same None = whole false
  where_one p key same (Some s) = same s

  called : (sought : Sought) (k : KeptStep) (call : Call) →
      (n == a.access.window && does sought (issued_as a) k.step call)
      ≡ is_one_of a.access.window a.access.target (call_key n sought k.step call)
  called FenceArrival k call = whole (does FenceArrival (issued_as a) k.step call)
  called Complete k call = whole (does Complete (issued_as a) k.step call)
  called Wait k call = whole (does Wait (issued_as a) k.step call)
  called AtTarget k call = where_one (completes_at_target (issued_as a)) (target_key n) at_target
      (synchronisation_of call)
  called AtOrigin k call = where_one (completes_at_origin (issued_as a)) (origin_key n) at_origin
      (synchronisation_of call)
  called TakingIn k call = whole (does TakingIn (issued_as a) k.step call)
  called GivingOut k call = whole (does GivingOut (issued_as a) k.step call)

  where_called : (sought : Sought) (k : KeptStep) (o : Option Call) →
      (n == a.access.window && option_map_or (does sought (issued_as a) k.step) o false)
      ≡ is_one_of a.access.window a.access.target (option_map_or (call_key n sought k.step) o None)
  where_called sought k None = whole false
  where_called sought k (Some call) = called sought k call

-- a step is what is looked for where it has one of the two keys of the access
pub sought_by_key : (script : Script) (sought : Sought) (a : KeptAccess) (k : KeptStep) →
    is_sought script sought a k
    ≡ (has_key script (Window sought) (OnWindow a.access.window) k
    || has_key script (Window sought) (Towards a.access.window a.access.target) k)
sought_by_key script sought a k = on_window k.window
  where
    on_window : (o : Option ℕ) →
        (option_map_or (λ number. number == a.access.window) o false
        && option_map_or (does sought (issued_as a) k.step) (call_at script k) false)
        ≡ is_one_of a.access.window a.access.target
        (option_map_or (λ window. option_map_or (call_key window sought k.step) (call_at script k) None) o None)
    on_window None = refl
    on_window (Some n) = where_called a n sought k (call_at script k)

-- a step ends the request of the access where it has the key of its call
pub ended_by_key : (script : Script) (a : KeptAccess) (k : KeptStep) →
    ends_request a k ≡ has_key script Request (OfCall a.call) k
ended_by_key script a k = made_by k.maker
  where
    made_by : (o : Option ℕ) → option_map_or (λ number. number == a.call) o false
        ≡ option_map_or (λ (one : StepKey). key_eq one (OfCall a.call)) (option_map (λ number. OfCall number) o) false
    made_by None = refl
    made_by (Some number) = refl
