-- The points of one access by what is kept of the steps of a run: each step of all logs is tested. MPI 3.1, sections
-- 11.3.5, 11.4, 11.5 and 11.7, in this project's profile.
use Rattle.std.specs.Prelude.{◌==◌, Bool, false, ◌&&◌, ◌||◌, List, map, Option, None}
use Rattle.std.specs.List.{filter, find, flat_map}
use Rattle.std.specs.Option.{option_map_or}
use Rattle.rma_types.specs.declared.accesses.Id.{Id}
use Rattle.rma_types.specs.declared.scripts.Script.{Script}
use Rattle.rma_record.specs.declared.runs.Run.{Run}
use Rattle.order_rules.specs.Before.{events_in, is_same_id, leads_to}
use Rattle.order_rules.specs.Roles.{is_rma_read, role_of}
use Rattle.rank_records.specs.declared.kept.EpochKind.{EpochKind}
use Rattle.rank_records.specs.declared.kept.EpochKind.TheVariants.{NoEpoch, Fence, Start, Passive}
use Rattle.rank_records.specs.declared.kept.KeptAccess.{KeptAccess}
use Rattle.rank_records.specs.declared.kept.KeptStep.{KeptStep}
use Rattle.rank_records.specs.declared.kept.RankRecord.{RankRecord}
use Rattle.first_points.specs.Alike.{reaches}
use Rattle.first_points.specs.KeptPoints.{ends_request, first_after, is_after, is_sought}
use Rattle.first_points.specs.KeptPoints.{kept_accesses}
use Rattle.first_points.specs.declared.searches.Sought.{Sought}
use Rattle.first_points.specs.declared.searches.Sought.TheVariants.{FenceArrival, Complete, AtTarget, AtOrigin}
use Rattle.first_points.specs.declared.searches.Sought.TheVariants.{TakingIn}
use Rattle.every_point.specs.Edges.{is_among}

-- the steps that are kept of all ranks, in the order of their names
abbrev pub all_steps : List RankRecord → List KeptStep
all_steps records = flat_map (λ (one : RankRecord). one.steps) records

-- the names of those steps that pass
abbrev pub names_passing : (KeptStep → Bool) → List KeptStep → List Id
names_passing test steps = map (λ (k : KeptStep). k.id) (filter test steps)

-- the access has this name
abbrev pub is_named : Id → KeptAccess → Bool
is_named id a = is_same_id a.id id

-- the access of this name
abbrev pub access_named : Id → List RankRecord → Option KeptAccess
access_named id records = find (is_named id) (kept_accesses records)

-- ---- done points

-- the step stands after the access in the log of its origin
abbrev pub is_later : KeptAccess → KeptStep → Bool
is_later a k = k.id.rank == a.id.rank && is_after a k

-- and it is what is looked for on its window
abbrev pub is_later_sought : Script → Sought → KeptAccess → KeptStep → Bool
is_later_sought script sought a k = is_later a k && is_sought script sought a k

-- the step from which edges lead to where the access is done, in an epoch of this kind
abbrev pub step_before : Script → List RankRecord → EpochKind → KeptAccess → Option KeptStep
step_before script records NoEpoch a = None
step_before script records Fence a = first_after script records FenceArrival a
step_before script records Start a = first_after script records Complete a
step_before script records Passive a = None

-- the access is done at the step by an epoch of this kind, where edges lead to the entries of these names
abbrev pub is_done_by : Script → List Id → KeptAccess → EpochKind → KeptStep → Bool
is_done_by script led a NoEpoch k = false
is_done_by script led a Fence k = is_among led k.id
is_done_by script led a Start k = is_among led k.id && k.id.rank == a.access.target
is_done_by script led a Passive k = is_later_sought script AtTarget a k

-- a read is done besides where it is complete at the origin, or where its request ends
abbrev pub is_done_at_origin : Script → KeptAccess → KeptStep → Bool
is_done_at_origin script a k = is_later_sought script AtOrigin a k || (is_later a k && ends_request a k)

abbrev pub is_done : Script → List Id → KeptAccess → KeptStep → Bool
is_done script led a k = is_done_by script led a a.epoch k
    || (is_rma_read (role_of a.access.kind) && is_done_at_origin script a k)

-- ---- visible points

-- the update with these done points is visible to the owner at the step
abbrev pub is_taken_in : Script → (Id → Id → Bool) → List Id → KeptAccess → KeptStep → Bool
is_taken_in script before done a k =
    (k.id.rank == a.access.target && is_sought script TakingIn a k) && reaches before done k.id

-- an edge leads from the step, if there is one, to the entry of this name
abbrev pub leads_from : Script → Run → Option KeptStep → Id → Bool
leads_from script run o id =
    option_map_or (λ (k : KeptStep). leads_to (events_in script run) k.id id) o false
