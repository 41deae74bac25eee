-- The findings of a run: its pairs of accesses that a rule forbids and no recorded synchronisation orders. After MPI
-- 3.1, section 11.7, in this project's profile.
use Rattle.std.specs.Prelude.{◌≡◌, Bool, ◌||◌, if◌then◌else◌, List, [], ◌∷◌, ◌++◌, map, Option, Some, None}
use Rattle.std.specs.Option.{option_map_or}
use Rattle.rma_types.specs.declared.accesses.Id.{Id}
use Rattle.rma_types.specs.declared.findings.Finding.{Finding}
use Rattle.rma_types.specs.declared.findings.Model.{Model}
use Rattle.rma_types.specs.declared.findings.Rule.{Rule}
use Rattle.rma_types.specs.declared.scripts.Script.{Script}
use Rattle.rma_record.specs.declared.runs.Run.{Run}
use Rattle.order_rules.specs.Before.{IsOrder}
use Rattle.order_rules.specs.CallSteps.{IssuedAccess, accesses_in}
use Rattle.order_rules.specs.DonePoints.{Timeline, timeline_of, done_points}
use Rattle.order_rules.specs.Ordered.{JudgedAccess, is_ordered}
use Rattle.order_rules.specs.Rules.{forbidden_kind}
use Rattle.order_rules.specs.VisiblePoints.{visible_points}

abbrev pub judged_access : Model → (Id → Id → Bool) → Timeline → IssuedAccess → JudgedAccess
judged_access model before timeline a = record {
  id = a.id;
  access = a.issued.access;
  done = done_points timeline a;
  visible = visible_points model before timeline a;
}

-- the accesses of a run with their points, in the order of their names
abbrev pub judged_accesses : Script → Run → Model → (Id → Id → Bool) → List JudgedAccess
judged_accesses script run model before =
    map (judged_access model before (timeline_of script run)) (accesses_in script run)

-- the rule, where neither access is ordered before the other
abbrev pub unless_ordered : (Id → Id → Bool) → JudgedAccess → JudgedAccess → Rule → Option Rule
unless_ordered before a b rule = if is_ordered before a b || is_ordered before b a then None else Some rule

-- the rule by which the two accesses are a forbidden pair
abbrev pub pair_rule : Model → (Id → Id → Bool) → JudgedAccess → JudgedAccess → Option Rule
pair_rule model before a b =
    option_map_or (unless_ordered before a b) (forbidden_kind a.access a.id.rank b.access b.id.rank model) None

-- the forbidden pair of the first of some accesses that forms one with this access
abbrev pub first_finding : Model → (Id → Id → Bool) → List JudgedAccess → JudgedAccess → Option Finding
first_finding model before [] b = None
first_finding model before (a ∷ rest) b =
    option_map_or (λ rule. Some (record { first = a.id; second = b.id; rule = rule })) (pair_rule model before a b)
    (first_finding model before rest b)

-- for each of some accesses, the forbidden pair with the first one before it that forms one
abbrev pub findings_after : Model → (Id → Id → Bool) → List JudgedAccess → List JudgedAccess → List Finding
findings_after model before earlier [] = []
findings_after model before earlier (b ∷ rest) =
    option_map_or (λ finding. finding ∷ []) (first_finding model before earlier b) []
    ++ findings_after model before (earlier ++ b ∷ []) rest

-- the findings of a run, where the test decides its order: for each access, in the order of their names, the
-- forbidden pair with the least partner of a smaller name
unfoldable pub findings : Script → Run → Model → (Id → Id → Bool) → List Finding
findings script run model before = findings_after model before [] (judged_accesses script run model before)

-- these are the findings of the run
abbrev pub AreFindings : Script → Run → Model → List Finding → Type 0
AreFindings script run model found =
    (before : Id → Id → Bool) × IsOrder script run before × (found ≡ findings script run model before)
