-- Two accesses of a run without findings, one of them an update, that have a byte in common: one is ordered before
-- the other, or both are accumulates of one datatype.
use Rattle.std.proofs.Common.{◌≡◌, ℕ, zero, suc, ◌<◌, ◌⊎◌, inl, inr, Bool, true, false, cond, not, List, [], ◌∷◌, ◌++◌}
use Rattle.std.proofs.Common.{Option, Some, None, refl, ap, sym, ◌∙◌, arith}
use Rattle.std.specs.Prelude.{◌&&◌, ◌||◌, ◌==◌, ◌≢◌, map, nat_lt}
use Rattle.std.specs.List.{list_any}
use Rattle.std.specs.Option.{option_map_or}
use Rattle.std.proofs.lemmas.Bool.{and_parts, and_from, cases_Bool, cases_eq, cases_lt, eq-eqb, eqb-true, or_left}
use Rattle.std.proofs.lemmas.List.{map-append}
use Rattle.list_laws.proofs.Members.{In, here, there, in_map, contains_in, in_contains}
use Rattle.list_laws.proofs.Options.{some_of}
use Rattle.rma_types.specs.declared.accesses.Access.{Access}
use Rattle.rma_types.specs.declared.accesses.Id.{Id}
use Rattle.rma_types.specs.declared.accesses.Kind.{Kind}
use Rattle.rma_types.specs.declared.dtypes.Dtype.{Dtype}
use Rattle.rma_types.specs.declared.dtypes.Dtype.TheVariants.{Int8, Int16, Int32, Uint8, Uint16, Uint32, Byte}
use Rattle.rma_types.specs.declared.findings.Finding.{Finding}
use Rattle.rma_types.specs.declared.findings.Model.{Model}
use Rattle.rma_types.specs.declared.findings.Rule.{Rule}
use Rattle.rma_types.specs.declared.findings.Rule.TheVariants.{S1, S2, S3}
use Rattle.rma_types.specs.declared.ops.Op.{Op}
use Rattle.rma_types.specs.declared.scripts.Script.{Script}
use Rattle.rma_record.specs.declared.runs.Run.{Run}
use Rattle.call_rules.specs.Sameness.{dtype_number, is_same_dtype}
use Rattle.order_rules.specs.Before.{Same, InLog, IsOrder}
use Rattle.order_rules.specs.CallSteps.{IssuedAccess, accesses_in}
use Rattle.order_rules.specs.DonePoints.{timeline_of}
use Rattle.order_rules.specs.Findings.{judged_access, judged_accesses, unless_ordered, pair_rule, findings}
use Rattle.order_rules.specs.Ordered.{JudgedAccess, points_for, is_ordered}
use Rattle.order_rules.specs.Roles.{Role, RmaUpdate, RmaRead, Store, Load, role_of}
use Rattle.order_rules.specs.Rules.{Pair, rule_if, is_separate, rule_for, pair_of, are_excepted, are_alike, may_combine}
use Rattle.order_rules.specs.Rules.{accumulation_of, forbidden_kind}
use Rattle.order_laws.proofs.Pairs.{complete}
use Rattle.order_laws.specs.FindingLaws.{is_update}
use Rattle.read_laws.proofs.Places.{DoMeet}

-- ---- the rule of a pair

abbrev pub is_local_role : Role → Bool
is_local_role RmaUpdate = false
is_local_role RmaRead = false
is_local_role Store = true
is_local_role Load = true

-- a rule applies to a pair with a byte in common of which one is an update, or it is excepted, or both are local
abbrev HasRule : Pair → Role → Role → Type 0
HasRule pair a b = ((rule : Rule) × (rule_for pair a b ≡ Some rule))
    ⊎ ((pair.is_excepted ≡ true) ⊎ ((is_local_role a ≡ true) × (is_local_role b ≡ true)))

by_exception : (pair : Pair) → pair.overlaps ≡ true →
    ((rule : Rule) × (rule_if (pair.overlaps && not pair.is_excepted) S2 ≡ Some rule)) ⊎ (pair.is_excepted ≡ true)
by_exception pair overlaps = elim (cases_Bool pair.is_excepted) [
  | inl excepted ↦ inr excepted
  | inr plain ↦ inl (S2, ap (λ b. rule_if b S2) (and_from pair.overlaps (not pair.is_excepted) overlaps (ap not plain)))
]

either : (pair : Pair) (a b : Role) → rule_for pair a b ≡ rule_if (pair.overlaps && not pair.is_excepted) S2 →
    pair.overlaps ≡ true → HasRule pair a b
either pair a b is overlaps = elim (by_exception pair overlaps) [
  | inl rule ↦ inl (rule.0, is ∙ rule.1)
  | inr excepted ↦ inr (inl excepted)
]

has_rule : (pair : Pair) (a b : Role) → pair.overlaps ≡ true → (is_update a ≡ true) ⊎ (is_update b ≡ true) →
    HasRule pair a b
has_rule pair RmaUpdate RmaUpdate overlaps one = either pair RmaUpdate RmaUpdate refl overlaps
has_rule pair RmaUpdate RmaRead overlaps one = either pair RmaUpdate RmaRead refl overlaps
has_rule pair RmaUpdate Store overlaps one =
    inl (S1, ap (λ b. cond b (Some S1) (rule_if (pair.on_one_window && is_separate pair.model) S3)) overlaps)
has_rule pair RmaUpdate Load overlaps one = inl (S1, ap (λ b. rule_if b S1) overlaps)
has_rule pair RmaRead RmaUpdate overlaps one = either pair RmaRead RmaUpdate refl overlaps
has_rule pair RmaRead RmaRead overlaps (inl one) = absurd (cc one)
has_rule pair RmaRead RmaRead overlaps (inr one) = absurd (cc one)
has_rule pair RmaRead Store overlaps one = inl (S2, ap (λ b. rule_if b S2) overlaps)
has_rule pair RmaRead Load overlaps (inl one) = absurd (cc one)
has_rule pair RmaRead Load overlaps (inr one) = absurd (cc one)
has_rule pair Store RmaUpdate overlaps one =
    inl (S1, ap (λ b. cond b (Some S1) (rule_if (pair.on_one_window && is_separate pair.model) S3)) overlaps)
has_rule pair Store RmaRead overlaps one = inl (S2, ap (λ b. rule_if b S2) overlaps)
has_rule pair Store Store overlaps one = inr (inr (refl, refl))
has_rule pair Store Load overlaps one = inr (inr (refl, refl))
has_rule pair Load RmaUpdate overlaps one = inl (S1, ap (λ b. rule_if b S1) overlaps)
has_rule pair Load RmaRead overlaps (inl one) = absurd (cc one)
has_rule pair Load RmaRead overlaps (inr one) = absurd (cc one)
has_rule pair Load Store overlaps one = inr (inr (refl, refl))
has_rule pair Load Load overlaps (inl one) = absurd (cc one)
has_rule pair Load Load overlaps (inr one) = absurd (cc one)

-- where they meet, that rule is the one that forbids them
rule_meets : (model : Model) (a b : Access) (r s : ℕ) → DoMeet a b →
    forbidden_kind a r b s model ≡ rule_for (pair_of model a b (r == s)) (role_of a.kind) (role_of b.kind)
rule_meets model a b r s meet =
    ap (λ t. cond t (rule_for (pair_of model a b (r == s)) (role_of a.kind) (role_of b.kind)) None)
    (and_from (a.target == b.target && nat_lt 0 a.len) (nat_lt 0 b.len)
    (and_from (a.target == b.target) (nat_lt 0 a.len) (eq-eqb a.target b.target meet.target) meet.some_a) meet.some_b)

-- ---- accumulates that are excepted have one datatype

same_dtype : (a b : Dtype) → is_same_dtype a b ≡ true → a ≡ b
same_dtype a b h = sym (of_number a) ∙ ap dtype_at (eqb-true (dtype_number a) (dtype_number b) h) ∙ of_number b
  where
    dtype_at : ℕ → Dtype
    dtype_at zero = Int8
    dtype_at (suc zero) = Int16
    dtype_at (suc (suc zero)) = Int32
    dtype_at (suc (suc (suc zero))) = Uint8
    dtype_at (suc (suc (suc (suc zero)))) = Uint16
    dtype_at (suc (suc (suc (suc (suc zero))))) = Uint32
    dtype_at (suc (suc (suc (suc (suc (suc n)))))) = Byte

    of_number : (d : Dtype) → dtype_at (dtype_number d) ≡ d
    of_number Int8 = refl
    of_number Int16 = refl
    of_number Int32 = refl
    of_number Uint8 = refl
    of_number Uint16 = refl
    of_number Uint32 = refl
    of_number Byte = refl

-- both are accumulates or cas, of one datatype
pub record AreOfOneDtype (a b : Kind) : Type 0 where
  pub dtype : Dtype
  pub first : Option Op
  pub second : Option Op
  pub of_a : accumulation_of a ≡ Some (dtype, first)
  pub of_b : accumulation_of b ≡ Some (dtype, second)

excepted_alike : (a b : Access) (one_origin : Bool) → are_excepted a b one_origin ≡ true → AreOfOneDtype a.kind b.kind
excepted_alike a b one_origin h =
    let parts = and_parts (a.window == b.window)
    (option_map_or (λ x. option_map_or (are_alike one_origin x) (accumulation_of b.kind) false)
    (accumulation_of a.kind) false) h in
    let x = some_of (λ x. option_map_or (are_alike one_origin x) (accumulation_of b.kind) false)
    (accumulation_of a.kind) parts.1 in
    let y = some_of (are_alike one_origin x.0) (accumulation_of b.kind) x.2 in
    let alike = and_parts (is_same_dtype x.0.0 y.0.0) (may_combine x.0.1 y.0.1 one_origin) y.2 in
    record {
      dtype = x.0.0;
      first = x.0.1;
      second = y.0.1;
      of_a = x.1;
      of_b = y.1 ∙ ap (λ (d : Dtype). Some (d, y.0.1)) (sym (same_dtype x.0.0 y.0.0 alike.0));
    }

-- ---- two members of a list

abbrev StandsIn : {X : Type 0} → X → X → List X → Type 0
StandsIn {X} x y xs = (earlier later : List X) × (xs ≡ earlier ++ y ∷ later) × In x earlier

split_at : {X : Type 0} {x : X} {xs : List X} → In x xs → (front back : List X) × (xs ≡ front ++ x ∷ back)
split_at {X} {x} (here {xs}) = ([], xs, refl)
split_at (there {y} m) = let rest = split_at m in (y ∷ rest.0, rest.1, ap (λ l. y ∷ l) rest.2)

two_in : {X : Type 0} {x y : X} {xs : List X} → In x xs → In y xs → (x ≡ y) ⊎ (StandsIn x y xs ⊎ StandsIn y x xs)
two_in here here = inl refl
two_in {X} {x} here (there m) = let rest = split_at m in inr (inl (x ∷ rest.0, rest.1, ap (λ l. x ∷ l) rest.2, here))
two_in {X} {x} {y} (there m) here = let rest = split_at m in
    inr (inr (y ∷ rest.0, rest.1, ap (λ l. y ∷ l) rest.2, here))
two_in (there {y = z} m) (there n) = elim (two_in m n) [
  | inl same ↦ inl same
  | inr (inl first) ↦ inr (inl (z ∷ first.0, first.1, ap (λ l. z ∷ l) first.2, there first.3))
  | inr (inr second) ↦ inr (inr (z ∷ second.0, second.1, ap (λ l. z ∷ l) second.2, there second.3))
]

-- ---- a pair without a finding

module _ (script : Script) (run : Run) (model : Model) (before : Id → Id → Bool) (order : IsOrder script run before)
    (none : findings script run model before ≡ []) where
  abbrev judge : IssuedAccess → JudgedAccess
  judge a = judged_access model before (timeline_of script run) a

  -- one of the two is ordered before the other
  abbrev pub AreOrdered : IssuedAccess → IssuedAccess → Type 0
  AreOrdered a b = (is_ordered before (judge a) (judge b) ≡ true) ⊎ (is_ordered before (judge b) (judge a) ≡ true)

  unordered : (x y : Bool) (rule : Rule) → (x ≡ true → ⊥) → (y ≡ true → ⊥) → cond (x || y) None (Some rule) ≡ Some rule
  unordered true y rule h k = absurd (h refl)
  unordered false true rule h k = absurd (k refl)
  unordered false false rule h k = refl

  decided : (b : Bool) → (b ≡ true) ⊎ (b ≡ true → ⊥)
  decided true = inl refl
  decided false = inr (λ h. cc h)

  ordered_or_forbidden : (a b : IssuedAccess) (rule : Rule) →
      forbidden_kind a.issued.access a.id.rank b.issued.access b.id.rank model ≡ Some rule →
      AreOrdered a b ⊎ (pair_rule model before (judge a) (judge b) ≡ Some rule)
  ordered_or_forbidden a b rule is = elim (decided (is_ordered before (judge a) (judge b))) [
    | inl first ↦ inl (inl first)
    | inr not_first ↦ elim (decided (is_ordered before (judge b) (judge a))) [
      | inl second ↦ inl (inr second)
      | inr not_second ↦ inr (ap (λ o. option_map_or (unless_ordered before (judge a) (judge b)) o None) is
          ∙ unordered (is_ordered before (judge a) (judge b))
          (is_ordered before (judge b) (judge a)) rule not_first not_second)
    ]
  ]

  no_finding : (a b : IssuedAccess) (rule : Rule) → StandsIn a b (accesses_in script run) →
      pair_rule model before (judge a) (judge b) ≡ Some rule → ⊥
  no_finding a b rule stands forbids =
      let split : judged_accesses script run model before ≡ map judge stands.0 ++ judge b ∷ map judge stands.1 =
      ap (map judge) stands.2 ∙ map-append judge stands.0 (b ∷ stands.1) in
      let found = complete script run model before (map judge stands.0) (judge b) (map judge stands.1) split
      (judge a)
      (in_contains (in_map judge stands.3)) rule forbids in
      empty (contains_in (findings script run model before) found.0 found.1) none
    where
      empty : {x : Finding} {xs : List Finding} → In x xs → xs ≡ [] → ⊥
      empty here e = cc e
      empty (there m) e = cc e

  -- a pair to which a rule applies is ordered one way
  ruled : (a b : IssuedAccess) (rule : Rule) → StandsIn a b (accesses_in script run) →
      forbidden_kind a.issued.access a.id.rank b.issued.access b.id.rank model ≡ Some rule → AreOrdered a b
  ruled a b rule stands is = elim (ordered_or_forbidden a b rule is) [
    | inl ordered ↦ ordered
    | inr forbids ↦ absurd (no_finding a b rule stands forbids)
  ]

  -- two local accesses of one rank are ordered as their Issues are
  local_points : (A : JudgedAccess) (a b : Role) → is_local_role a ≡ true → is_local_role b ≡ true →
      points_for A a b ≡ A.id ∷ []
  local_points A RmaUpdate b h k = absurd (cc h)
  local_points A RmaRead b h k = absurd (cc h)
  local_points A Store RmaUpdate h k = absurd (cc k)
  local_points A Store RmaRead h k = absurd (cc k)
  local_points A Store Store h k = refl
  local_points A Store Load h k = refl
  local_points A Load b h k = refl

  local_first : (a b : IssuedAccess) → is_local_role (role_of a.issued.access.kind) ≡ true →
      is_local_role (role_of b.issued.access.kind) ≡ true →
      a.id.rank ≡ b.id.rank → a.id.index < b.id.index → is_ordered before (judge a) (judge b) ≡ true
  local_first a b local_a local_b rank earlier =
      let points = local_points (judge a) (role_of a.issued.access.kind)
      (role_of b.issued.access.kind) local_a local_b in
      let is : before a.id b.id ≡ true = (order a.id b.id).1 (InLog Same (rank, earlier)) in
      ap (list_any (λ point. before point b.id)) points ∙ or_left (before a.id b.id) false is

  local_ordered : (a b : IssuedAccess) → is_local_role (role_of a.issued.access.kind) ≡ true →
      is_local_role (role_of b.issued.access.kind) ≡ true →
      a.id.rank ≡ b.id.rank → a.id ≢ b.id → AreOrdered a b
  local_ordered a b local_a local_b rank apart = elim (cases_lt a.id.index b.id.index) [
    | inl first ↦ inl (local_first a b local_a local_b rank first)
    | inr late ↦ elim (cases_eq a.id.index b.id.index) [
      | inl same ↦ absurd (apart (λ k. record { rank = rank k; index = same k }))
      | inr other ↦ inr (local_first b a local_b local_a (sym rank) (omega (arith, late, other)))
    ]
  ]

  -- two accesses that meet, of which one is an update
  pub meeting : (a b : IssuedAccess) → In a (accesses_in script run) → In b (accesses_in script run) → a.id ≢ b.id →
      DoMeet a.issued.access b.issued.access → DoMeet b.issued.access a.issued.access →
      (is_update (role_of a.issued.access.kind) ≡ true) ⊎ (is_update (role_of b.issued.access.kind) ≡ true) →
      (is_local_role (role_of a.issued.access.kind) ≡ true → a.issued.access.target ≡ a.id.rank) →
      (is_local_role (role_of b.issued.access.kind) ≡ true → b.issued.access.target ≡ b.id.rank) →
      AreOrdered a b ⊎ AreOfOneDtype a.issued.access.kind b.issued.access.kind
  meeting a b of_a of_b apart meet back one own_a own_b = elim (two_in of_a of_b) [
    | inl same ↦ absurd (apart (ap (λ (x : IssuedAccess). x.id) same))
    | inr (inl first) ↦ by_rule a b first one meet own_a own_b (λ ordered. ordered) (λ alike. alike) apart
    | inr (inr second) ↦ by_rule b a second (turned one) back own_b own_a swapped other_way (λ same. apart (sym same))
  ]
    where
      turned : {X Y : Type 0} → X ⊎ Y → Y ⊎ X
      turned (inl x) = inr x
      turned (inr y) = inl y

      swapped : AreOrdered b a → AreOrdered a b
      swapped h = turned h

      other_way : AreOfOneDtype b.issued.access.kind a.issued.access.kind →
          AreOfOneDtype a.issued.access.kind b.issued.access.kind
      other_way alike = record {
        dtype = alike.dtype;
        first = alike.second;
        second = alike.first;
        of_a = alike.of_b;
        of_b = alike.of_a;
      }

      by_rule : (x y : IssuedAccess) → StandsIn x y (accesses_in script run) →
          (is_update (role_of x.issued.access.kind) ≡ true) ⊎ (is_update (role_of y.issued.access.kind) ≡ true) →
          DoMeet x.issued.access y.issued.access →
          (is_local_role (role_of x.issued.access.kind) ≡ true → x.issued.access.target ≡ x.id.rank) →
          (is_local_role (role_of y.issued.access.kind) ≡ true → y.issued.access.target ≡ y.id.rank) →
          (AreOrdered x y → AreOrdered a b) →
          (AreOfOneDtype x.issued.access.kind y.issued.access.kind →
          AreOfOneDtype a.issued.access.kind b.issued.access.kind) → x.id ≢ y.id →
          AreOrdered a b ⊎ AreOfOneDtype a.issued.access.kind b.issued.access.kind
      by_rule x y stands update meets own_x own_y ordered alike differ =
          elim (has_rule (pair_of model x.issued.access y.issued.access (x.id.rank == y.id.rank))
          (role_of x.issued.access.kind) (role_of y.issued.access.kind) meets.overlap update) [
            | inl rule ↦ inl (ordered
                (ruled x y rule.0 stands (rule_meets model x.issued.access y.issued.access x.id.rank y.id.rank meets
                ∙ rule.1)))
            | inr (inl excepted) ↦ inr
                (alike (excepted_alike x.issued.access y.issued.access (x.id.rank == y.id.rank) excepted))
            | inr (inr local) ↦
                let rank : x.id.rank ≡ y.id.rank = sym (own_x local.0) ∙ meets.target ∙ own_y local.1 in
                inl (ordered (local_ordered x y local.0 local.1 rank differ))
          ]
