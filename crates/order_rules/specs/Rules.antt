-- The rules that forbid a pair of accesses which are not ordered: after MPI 3.1, section 11.7, rules S1 to S3, with
-- one name for each pair, as this project gives it.
use Rattle.std.specs.Prelude.{ℕ, Bool, true, false, not, ◌&&◌, ◌||◌, ◌==◌, nat_lt, if◌then◌else◌, Option, Some, None}
use Rattle.std.specs.Option.{option_map_or}
use Rattle.rma_types.specs.declared.accesses.Access.{Access}
use Rattle.rma_types.specs.declared.accesses.Kind.{Kind}
use Rattle.rma_types.specs.declared.accesses.Kind.TheVariants.{Get, Put, Acc, Cas, Load as LoadKind, Store as StoreKind}
use Rattle.rma_types.specs.declared.dtypes.Dtype.{Dtype}
use Rattle.rma_types.specs.declared.findings.Model.{Model}
use Rattle.rma_types.specs.declared.findings.Model.TheVariants.{Separate, Unified}
use Rattle.rma_types.specs.declared.findings.Rule.{Rule}
use Rattle.rma_types.specs.declared.findings.Rule.TheVariants.{S1, S2, S3}
use Rattle.rma_types.specs.declared.ops.Op.{Op}
use Rattle.call_rules.specs.Sameness.{is_same_dtype, is_same_op}
use Rattle.call_rules.specs.Transfers.{is_no_op}
use Rattle.rank_rules.specs.Ranges.{Range, do_overlap}
use Rattle.order_rules.specs.Roles.{Role, RmaUpdate, RmaRead, Store, Load, role_of}

-- ---- accumulates that may overlap

-- the datatype of an accumulate or a cas, and the operation; a cas has none
abbrev pub accumulation_of : Kind → Option (Dtype × Option Op)
accumulation_of Get = None
accumulation_of Put = None
accumulation_of (Acc op dtype) = Some (dtype, Some op)
accumulation_of (Cas dtype) = Some (dtype, None)
accumulation_of LoadKind = None
accumulation_of StoreKind = None

-- one is a cas, or the operations are equal, or one is no_op, or both are of one origin
abbrev pub may_combine : Option Op → Option Op → Bool → Bool
may_combine None second one_origin = true
may_combine (Some a) None one_origin = true
may_combine (Some a) (Some b) one_origin = is_same_op a b || is_no_op a || is_no_op b || one_origin

abbrev pub are_alike : Bool → (Dtype × Option Op) → (Dtype × Option Op) → Bool
are_alike one_origin (first, a) (second, b) = is_same_dtype first second && may_combine a b one_origin

-- both are accumulates or cas of one datatype on one window, which may overlap
abbrev pub are_excepted : Access → Access → (one_origin : Bool) → Bool
are_excepted a b one_origin = a.window == b.window
    && option_map_or
    (λ x. option_map_or (are_alike one_origin x) (accumulation_of b.kind) false) (accumulation_of a.kind) false

-- ---- the rules

-- what the rules ask of a pair beside its roles
pub record Pair : Type 0 where
  pub model : Model
  pub overlaps : Bool
  pub on_one_window : Bool
  pub is_excepted : Bool

abbrev pub rule_if : Bool → Rule → Option Rule
rule_if applies rule = if applies then Some rule else None

abbrev pub is_separate : Model → Bool
is_separate Separate = true
is_separate Unified = false

-- two RMA accesses that overlap, unless they may
abbrev pub rma_rule : Pair → Option Rule
rma_rule pair = rule_if (pair.overlaps && not pair.is_excepted) S2

-- a store and an RMA update: where they do not overlap, they are forbidden on one window in the separate model
abbrev pub store_rule : Pair → Option Rule
store_rule pair =
    if pair.overlaps then Some S1 else rule_if (pair.on_one_window && is_separate pair.model) S3

-- the rule that forbids a pair by its roles, where it is not ordered
abbrev pub rule_for : Pair → Role → Role → Option Rule
rule_for pair RmaUpdate RmaUpdate = rma_rule pair
rule_for pair RmaUpdate RmaRead = rma_rule pair
rule_for pair RmaUpdate Store = store_rule pair
rule_for pair RmaUpdate Load = rule_if pair.overlaps S1
rule_for pair RmaRead RmaUpdate = rma_rule pair
rule_for pair RmaRead RmaRead = None
rule_for pair RmaRead Store = rule_if pair.overlaps S2
rule_for pair RmaRead Load = None
rule_for pair Store RmaUpdate = store_rule pair
rule_for pair Store RmaRead = rule_if pair.overlaps S2
rule_for pair Store Store = None
rule_for pair Store Load = None
rule_for pair Load RmaUpdate = rule_if pair.overlaps S1
rule_for pair Load RmaRead = None
rule_for pair Load Store = None
rule_for pair Load Load = None

-- the bytes of an access at its target
abbrev pub bytes_reached : Access → Range
bytes_reached a = record { base = a.lo; bytes = a.len }

abbrev pub pair_of : Model → Access → Access → (one_origin : Bool) → Pair
pair_of model a b one_origin = record {
  model = model;
  overlaps = do_overlap (bytes_reached a) (bytes_reached b);
  on_one_window = a.window == b.window;
  is_excepted = are_excepted a b one_origin;
}

-- The rule that forbids two accesses with their origins, where neither is ordered before the other: at one target,
-- each of at least one byte.
abbrev pub forbidden_kind : Access → ℕ → Access → ℕ → Model → Option Rule
forbidden_kind a origin_a b origin_b model =
    if a.target == b.target && nat_lt 0 a.len && nat_lt 0 b.len
    then rule_for (pair_of model a b (origin_a == origin_b)) (role_of a.kind) (role_of b.kind)
    else None
