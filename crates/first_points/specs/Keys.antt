-- The steps of a rank by the accesses for which they are looked for: after MPI 3.1, sections 11.4 and 11.5, in this
-- project's profile.
use Rattle.std.specs.Prelude.{ℕ, ℤ, ◌≡◌, Bool, true, false, ◌&&◌, nat_lt, cond, List, []}
use Rattle.std.specs.Prelude.{Option, None, Some, unwrap_or}
use Rattle.std.specs.HashMap.{HashMap, get}
use Rattle.std.specs.List.{filter}
use Rattle.std.specs.Option.{option_map, option_map_or}
use Rattle.std.specs.declared.hash.BuildHasherDefault.{BuildHasherDefault}
use Rattle.std.specs.declared.hash.FoldHasher.{FoldHasher}
use Rattle.rma_types.specs.declared.accesses.Step.{Step}
use Rattle.rma_types.specs.declared.calls.Call.{Call}
use Rattle.rma_types.specs.declared.scripts.Script.{Script}
use Rattle.rma_types.specs.declared.actions.Synchronisation.{Synchronisation}
use Rattle.rma_types.specs.declared.actions.Synchronisation.TheVariants.{Fences, Posts, Starts, Completes, Waits, Locks}
use Rattle.rma_types.specs.declared.actions.Synchronisation.TheVariants.{Unlocks, Flushes, Syncs}
use Rattle.rma_types.specs.Actions.{action_of, synchronisation_of}
use Rattle.call_rules.specs.Ranks.{natural}
use Rattle.board_rules.specs.Entries.{Fence as FenceCollective, is_arrive, is_collective}
use Rattle.board_rules.specs.Posts.{is_complete, is_wait}
use Rattle.order_rules.specs.VisiblePoints.{gives_out, takes_in}
use Rattle.rank_records.specs.declared.kept.KeptStep.{KeptStep}
use Rattle.first_points.specs.KeptPoints.{call_at}
use Rattle.first_points.specs.declared.keys.Aim.{Aim}
use Rattle.first_points.specs.declared.keys.Aim.TheVariants.{Window, Request}
use Rattle.first_points.specs.declared.keys.StepKey.{StepKey}
use Rattle.first_points.specs.declared.keys.StepKey.TheVariants.{OnWindow, Towards, OfCall}
use Rattle.first_points.specs.declared.searches.Sought.{Sought}
use Rattle.first_points.specs.declared.searches.Sought.TheVariants.{FenceArrival, Complete, Wait, AtTarget, AtOrigin}
use Rattle.first_points.specs.declared.searches.Sought.TheVariants.{TakingIn, GivingOut}
use Rattle.first_points.specs.contracts.keys.StepKeyPartialEq.TheImpl as key_impl

-- ---- keys

abbrev pub key_eq : StepKey → StepKey → Bool
key_eq = (key_impl.ghosts).eq

-- the accesses on the window, if what is looked for is done
abbrev pub window_key : ℕ → Bool → Option StepKey
window_key window does = cond does (Some (OnWindow window)) None

-- the accesses on the window towards a rank, or towards all
abbrev pub reach_key : ℕ → Option ℤ → StepKey
reach_key window None = OnWindow window
reach_key window (Some rank) = Towards window (natural rank)

-- the accesses that an unlock or a flush completes at their target
abbrev pub target_key : ℕ → Synchronisation → Option StepKey
target_key window (Fences asserts) = None
target_key window (Posts group asserts) = None
target_key window (Starts group asserts) = None
target_key window Completes = None
target_key window (Waits tests) = None
target_key window (Locks kind target asserts) = None
target_key window (Unlocks target) = Some (reach_key window target)
target_key window (Flushes target true) = None
target_key window (Flushes target false) = Some (reach_key window target)
target_key window Syncs = None

-- the accesses that a complete or a local flush completes at their origin alone
abbrev pub origin_key : ℕ → Synchronisation → Option StepKey
origin_key window (Fences asserts) = None
origin_key window (Posts group asserts) = None
origin_key window (Starts group asserts) = None
origin_key window Completes = Some (OnWindow window)
origin_key window (Waits tests) = None
origin_key window (Locks kind target asserts) = None
origin_key window (Unlocks target) = None
origin_key window (Flushes target true) = Some (reach_key window target)
origin_key window (Flushes target false) = None
origin_key window Syncs = None

-- the accesses on the window for which this step of the call is what is looked for
abbrev pub call_key : ℕ → Sought → Step → Call → Option StepKey
call_key window FenceArrival step call = window_key window (is_arrive step && is_collective FenceCollective call)
call_key window Complete step call = window_key window (option_map_or is_complete (synchronisation_of call) false)
call_key window Wait step call = window_key window (option_map_or is_wait (synchronisation_of call) false)
call_key window AtTarget step call = option_map_or (target_key window) (synchronisation_of call) None
call_key window AtOrigin step call = option_map_or (origin_key window) (synchronisation_of call) None
call_key window TakingIn step call = window_key window (takes_in step (action_of call))
call_key window GivingOut step call = window_key window (gives_out step (action_of call))

-- the accesses for which the step is what is looked for, or whose request it ends
abbrev pub step_key : Script → Aim → KeptStep → Option StepKey
step_key script (Window sought) k =
    option_map_or (λ window. option_map_or (call_key window sought k.step) (call_at script k) None) k.window None
step_key script Request k = option_map (λ number. OfCall number) k.maker

-- the step has this key
abbrev pub has_key : Script → Aim → StepKey → KeptStep → Bool
has_key script aim key k = option_map_or (λ (one : StepKey). key_eq one key) (step_key script aim k) false

-- ---- lists

abbrev pub StepTable : Type 0
StepTable = HashMap StepKey (List KeptStep) (BuildHasherDefault FoldHasher)

-- the steps that the table has for a key
abbrev pub listed_at : StepTable → StepKey → List KeptStep
listed_at table key = unwrap_or (get key_eq table key) []

-- the table has for each key the steps with it, in their order
abbrev pub AreListed : Script → Aim → List KeptStep → StepTable → Type 0
AreListed script aim steps table = (key : StepKey) → listed_at table key ≡ filter (has_key script aim key) steps

-- the earlier of two steps of a log, where there are two
abbrev pub earlier_of : Option KeptStep → Option KeptStep → Option KeptStep
earlier_of None b = b
earlier_of (Some x) None = Some x
earlier_of (Some x) (Some y) = cond (nat_lt y.id.index x.id.index) (Some y) (Some x)
