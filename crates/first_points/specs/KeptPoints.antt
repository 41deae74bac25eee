-- Points of accesses by what is kept of the steps of a run: of each log the first step alone, which stands for the
-- later ones. After MPI 3.1, sections 11.3.5, 11.4, 11.5 and 11.7, in this project's profile.
use Rattle.std.specs.Prelude.{ℕ, ◌==◌, Bool, false, ◌&&◌, nat_lt, Contains, List, [], ◌∷◌, ◌++◌, slice_get}
use Rattle.std.specs.Prelude.{Option, None}
use Rattle.std.specs.List.{find, flat_map}
use Rattle.std.specs.Option.{option_map_or}
use Rattle.rma_types.specs.declared.accesses.Id.{Id}
use Rattle.rma_types.specs.declared.accesses.Step.{Step}
use Rattle.rma_types.specs.declared.calls.Call.{Call}
use Rattle.rma_types.specs.declared.findings.Model.{Model}
use Rattle.rma_types.specs.declared.findings.Model.TheVariants.{Separate, Unified}
use Rattle.rma_types.specs.declared.scripts.Script.{Script}
use Rattle.rma_types.specs.Actions.{action_of, synchronisation_of}
use Rattle.rank_rules.specs.declared.pending.PendingAccess.{PendingAccess}
use Rattle.board_rules.specs.Entries.{Fence as FenceCollective, is_arrive, is_collective}
use Rattle.board_rules.specs.Posts.{is_complete, is_wait}
use Rattle.lawful_runs.specs.Logs.{calls_of}
use Rattle.order_rules.specs.Before.{StandsBefore}
use Rattle.order_rules.specs.DonePoints.{completes_at_origin, completes_at_target}
use Rattle.order_rules.specs.Ordered.{JudgedAccess}
use Rattle.order_rules.specs.Roles.{Role, RmaUpdate, RmaRead, Store, Load, role_of}
use Rattle.order_rules.specs.VisiblePoints.{gives_out, takes_in}
use Rattle.rank_records.specs.declared.kept.EpochKind.{EpochKind}
use Rattle.rank_records.specs.declared.kept.EpochKind.TheVariants.{NoEpoch, Fence, Start, Passive}
use Rattle.rank_records.specs.declared.kept.KeptAccess.{KeptAccess}
use Rattle.rank_records.specs.declared.kept.KeptStep.{KeptStep}
use Rattle.rank_records.specs.declared.kept.RankRecord.{RankRecord}
use Rattle.first_points.specs.Alike.{reaches}
use Rattle.first_points.specs.declared.searches.Sought.{Sought}
use Rattle.first_points.specs.declared.searches.Sought.TheVariants.{FenceArrival, Complete, Wait, AtTarget, AtOrigin}
use Rattle.first_points.specs.declared.searches.Sought.TheVariants.{TakingIn, GivingOut}

-- ---- what is kept

-- the steps that are kept of a rank
abbrev pub kept_steps : List RankRecord → ℕ → List KeptStep
kept_steps records rank = option_map_or (λ (record_of : RankRecord). record_of.steps) (slice_get records rank) []

-- the accesses that are kept of all ranks, in the order of their names
abbrev pub kept_accesses : List RankRecord → List KeptAccess
kept_accesses records = flat_map (λ (record_of : RankRecord). record_of.accesses) records

-- each step stands before those after it in one log
abbrev pub AreAscending : List KeptStep → Type 0
AreAscending [] = Unit {0}
AreAscending (k ∷ rest) = ((later : KeptStep) → Contains rest later → StandsBefore k.id later.id) × AreAscending rest

-- the steps of each rank stand in the order of its log
abbrev pub AllAscending : List RankRecord → Type 0
AllAscending records = (rank : ℕ) → AreAscending (kept_steps records rank)

-- the access as it was issued; whether its call fetches is not kept, and no point depends on it
abbrev pub issued_as : KeptAccess → PendingAccess
issued_as a = record { index = a.id.index; number = a.call; access = a.access; fetches = false }

-- ---- the steps that are looked for

-- this step of the call is what is looked for, on the window of the access
abbrev pub does : Sought → PendingAccess → Step → Call → Bool
does FenceArrival one step call = is_arrive step && is_collective FenceCollective call
does Complete one step call = option_map_or is_complete (synchronisation_of call) false
does Wait one step call = option_map_or is_wait (synchronisation_of call) false
does AtTarget one step call = option_map_or (completes_at_target one) (synchronisation_of call) false
does AtOrigin one step call = option_map_or (completes_at_origin one) (synchronisation_of call) false
does TakingIn one step call = takes_in step (action_of call)
does GivingOut one step call = gives_out step (action_of call)

-- the call of a step
abbrev pub call_at : Script → KeptStep → Option Call
call_at script k = slice_get (calls_of script k.id.rank) k.call

-- the step is on the window of the access
abbrev pub is_on_window : KeptAccess → KeptStep → Bool
is_on_window a k = option_map_or (λ number. number == a.access.window) k.window false

-- the step is what is looked for
abbrev pub is_sought : Script → Sought → KeptAccess → KeptStep → Bool
is_sought script sought a k =
    is_on_window a k && option_map_or (does sought (issued_as a) k.step) (call_at script k) false

-- the step ends the request of the access
abbrev pub ends_request : KeptAccess → KeptStep → Bool
ends_request a k = option_map_or (λ number. number == a.call) k.maker false

-- the step stands after the access in the log of its origin
abbrev pub is_after : KeptAccess → KeptStep → Bool
is_after a k = nat_lt a.id.index k.id.index

-- ---- the points

-- the name of a step that was found, or none
abbrev pub point : Option KeptStep → List Id
point found = option_map_or (λ (k : KeptStep). k.id ∷ []) found []

-- the first step of the origin after the access that is what is looked for
abbrev pub first_after : Script → List RankRecord → Sought → KeptAccess → Option KeptStep
first_after script records sought a =
    find (λ k. is_after a k && is_sought script sought a k) (kept_steps records a.id.rank)

-- the first step of the origin after the access that ends its request
abbrev pub first_end : List RankRecord → KeptAccess → Option KeptStep
first_end records a = find (λ k. is_after a k && ends_request a k) (kept_steps records a.id.rank)

-- The visible points of an access with these done points, by its role, in the unified model: an RMA update is visible
-- where it is done, and a store at once.
abbrev pub visible_unified : List Id → Role → KeptAccess → List Id
visible_unified points RmaUpdate a = points
visible_unified points RmaRead a = []
visible_unified points Store a = a.id ∷ []
visible_unified points Load a = []

module _ (script : Script) (records : List RankRecord) (before : Id → Id → Bool) where
  -- the first step of the target which one of the points is before and that is what is looked for
  abbrev pub first_reached : List Id → Sought → KeptAccess → Option KeptStep
  first_reached points sought a =
      find (λ k. reaches before points k.id && is_sought script sought a k) (kept_steps records a.access.target)

  -- where an RMA access is done, by the epoch in which it was issued
  abbrev pub done_by : EpochKind → KeptAccess → Option KeptStep
  done_by NoEpoch a = None
  done_by Fence a = first_after script records FenceArrival a
  done_by Start a = option_map_or (λ (complete : KeptStep). first_reached (complete.id ∷ []) Wait a)
      (first_after script records Complete a) None
  done_by Passive a = first_after script records AtTarget a

  -- the done points, by the role of the access; a read is done besides where it is complete at the origin
  abbrev pub done : Role → KeptAccess → List Id
  done RmaUpdate a = point (done_by a.epoch a)
  done RmaRead a =
      point (done_by a.epoch a) ++ point (first_after script records AtOrigin a) ++ point (first_end records a)
  done Store a = []
  done Load a = []

  -- the visible points of an access with these done points, by its role, in the separate model
  abbrev pub visible_separate : List Id → Role → KeptAccess → List Id
  visible_separate points RmaUpdate a = point (first_reached points TakingIn a)
  visible_separate points RmaRead a = []
  visible_separate points Store a = point (first_after script records GivingOut a)
  visible_separate points Load a = []

  abbrev pub visible : Model → List Id → Role → KeptAccess → List Id
  visible Separate points role a = visible_separate points role a
  visible Unified points role a = visible_unified points role a

  -- the access with points that stand for all
  abbrev pub with_points : Model → KeptAccess → JudgedAccess
  with_points model a = record {
    id = a.id;
    access = a.access;
    done = done (role_of a.access.kind) a;
    visible = visible model (done (role_of a.access.kind) a) (role_of a.access.kind) a;
  }
