-- Laws of findings: MPI 3.1, section 11.7, in this project's profile.
use Rattle.std.specs.Prelude.{◌≡◌, ◌<◌, ◌⊎◌, Bool, true, false, Contains, List, ◌∷◌, ◌++◌, Some, None}
use Rattle.std.specs.List.{AllByRecursion}
use Rattle.rma_types.specs.declared.accesses.Id.{Id}
use Rattle.rma_types.specs.declared.findings.Finding.{Finding}
use Rattle.rma_types.specs.declared.findings.Model.{Model}
use Rattle.rma_types.specs.declared.findings.Rule.{Rule}
use Rattle.rma_types.specs.declared.schedules.Delay.{Delay}
use Rattle.rma_types.specs.declared.scripts.Script.{Script}
use Rattle.rma_record.specs.declared.runs.Run.{Run}
use Rattle.lawful_runs.specs.Accesses.{EachPair}
use Rattle.lawful_runs.specs.LawfulRun.{IsLawful}
use Rattle.order_rules.specs.Findings.{judged_accesses, pair_rule, findings, AreFindings}
use Rattle.order_rules.specs.Ordered.{JudgedAccess, role_in}
use Rattle.order_rules.specs.Roles.{Role, RmaUpdate, RmaRead, Store, Load}

abbrev pub is_update : Role → Bool
is_update RmaUpdate = true
is_update RmaRead = false
is_update Store = true
is_update Load = false

-- two accesses of which neither is an update are no forbidden pair
abbrev pub ReadsAreNoPair : Type 0
ReadsAreNoPair = (model : Model) (before : Id → Id → Bool) (a b : JudgedAccess) →
    is_update (role_in a) ≡ false → is_update (role_in b) ≡ false → pair_rule model before a b ≡ None

-- the first name is smaller: by rank, and then by index
abbrev pub IsSmaller : Id → Id → Type 0
IsSmaller a b = (a.rank < b.rank) ⊎ ((a.rank ≡ b.rank) × (a.index < b.index))

-- the accesses that are judged stand in the order of their names
abbrev pub AccessesAscend : Type 0
AccessesAscend = (script : Script) (run : Run) (model : Model) (before : Id → Id → Bool) →
    EachPair (λ (a b : JudgedAccess). IsSmaller a.id b.id) (judged_accesses script run model before)

-- the finding is of an access and the first one before it with which it is a forbidden pair
pub record IsFirstPair (model : Model) (before : Id → Id → Bool)
    (accesses : List JudgedAccess) (finding : Finding) : Type 0 where
  pub earlier : List JudgedAccess
  pub second : JudgedAccess
  pub later : List JudgedAccess
  pub of_run : accesses ≡ earlier ++ second ∷ later
  pub front : List JudgedAccess
  pub first : JudgedAccess
  pub back : List JudgedAccess
  pub partner : earlier ≡ front ++ first ∷ back
  pub names : finding ≡ record { first = first.id; second = second.id; rule = finding.rule }
  pub forbids : pair_rule model before first second ≡ Some finding.rule
  pub least : AllByRecursion (λ (one : JudgedAccess). pair_rule model before one second ≡ None) front

-- each finding has the least partner
abbrev pub PartnersAreLeast : Type 0
PartnersAreLeast = (script : Script) (run : Run) (model : Model) (before : Id → Id → Bool) (finding : Finding) →
    Contains (findings script run model before) finding →
    IsFirstPair model before (judged_accesses script run model before) finding

-- each access that forms a forbidden pair with one of a smaller name has a finding
abbrev pub EachPairIsFound : Type 0
EachPairIsFound = (script : Script) (run : Run) (model : Model) (before : Id → Id → Bool)
    (earlier : List JudgedAccess) (second : JudgedAccess) (later : List JudgedAccess) →
    judged_accesses script run model before ≡ earlier ++ second ∷ later →
    (first : JudgedAccess) → Contains earlier first → (rule : Rule) → pair_rule model before first second ≡ Some rule →
    (finding : Finding) × Contains (findings script run model before) finding × (finding.second ≡ second.id)

-- a lawful run has one list of findings
abbrev pub FindingsAreOneList : Type 0
FindingsAreOneList = (script : Script) (delay : Delay) (run : Run) → IsLawful script delay run → (model : Model) →
    (found : List Finding) × AreFindings script run model found
    × ((other : List Finding) → AreFindings script run model other → other ≡ found)
