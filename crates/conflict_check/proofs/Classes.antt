-- Accesses of two classes that conflict form a forbidden pair unless they may overlap.
use Rattle.std.proofs.Common.{◌≡◌, Bool, true, false, not, Option, Some, None, refl, ap, sym, ◌∙◌}
use Rattle.std.specs.Prelude.{◌&&◌, ◌||◌, ◌==◌, if◌then◌else◌}
use Rattle.std.specs.Option.{is_some, option_map_or}
use Rattle.std.proofs.lemmas.Bool.{false≢true}
use Rattle.list_laws.proofs.Truths.{or_false, or_true, and_false, and_joined}
use Rattle.rma_types.specs.declared.accesses.Access.{Access}
use Rattle.rma_types.specs.declared.accesses.Kind.{Kind}
use Rattle.rma_types.specs.declared.accesses.Kind.TheVariants.{Get, Put, Acc, Cas, Load as LoadKind, Store as StoreKind}
use Rattle.rma_types.specs.declared.dtypes.Dtype.{Dtype}
use Rattle.rma_types.specs.declared.findings.Rule.{Rule}
use Rattle.rma_types.specs.declared.findings.Rule.TheVariants.{S1, S2, S3}
use Rattle.rma_types.specs.declared.ops.Op.{Op}
use Rattle.call_rules.specs.Sameness.{is_same_dtype, is_same_op}
use Rattle.call_rules.specs.Transfers.{is_no_op}
use Rattle.order_rules.specs.Roles.{Role, RmaUpdate, RmaRead, Store, Load, role_of}
use Rattle.order_rules.specs.Rules.{Pair, accumulation_of, are_alike, is_separate, rma_rule, rule_for, rule_if, store_rule}
use Rattle.access_index.specs.Regions.{cast_of}
use Rattle.access_index.specs.declared.regions.Cast.{Cast}
use Rattle.access_index.specs.declared.regions.Cast.TheVariants.{Update, Swap, Read, Store as StoreCast, Load as LoadCast}
use Rattle.access_sweeps.specs.Labels.{do_stand, is_same_operation, label_of_kind}
use Rattle.conflict_check.specs.Conflicts.{are_quiet, are_store_and_update, is_plain}

-- ---- rules

if_not : (x : Bool) → is_some (rule_if (not x) S2) ≡ not x
if_not true = refl
if_not false = refl

module _ (pair : Pair) (meet : pair.overlaps ≡ true) where
  rma : (x : Bool) → pair.is_excepted ≡ x → is_some (rma_rule pair) ≡ not x
  rma x is = ap (λ o. is_some (rule_if (o && not pair.is_excepted) S2)) meet
      ∙ ap (λ y. is_some (rule_if (not y) S2)) is ∙ if_not x

  always : (rule : Rule) → is_some (rule_if pair.overlaps rule) ≡ true
  always rule = ap (λ o. is_some (rule_if o rule)) meet

  stored : is_some (store_rule pair) ≡ true
  stored = ap (λ o. is_some (if o then Some S1 else rule_if (pair.on_one_window && is_separate pair.model) S3)) meet

-- an accumulate is a read or an update
abbrev role_if : Bool → Role
role_if reads = if reads then RmaRead else RmaUpdate

abbrev cast_if : Bool → Cast
cast_if reads = if reads then Read else Update

-- whether the operations count between them
abbrev counts : Cast → Cast → Bool → Bool
counts a b one = is_plain a && is_plain b && not one

-- the operation that the label has
abbrev kept_op : Bool → Op → Option Op
kept_op by op = if by then Some op else None

-- two accumulates may be combined where their labels have one operation
combined : (op other : Op) (reads second one : Bool) → are_quiet (cast_if reads) (cast_if second) ≡ false →
    (((is_same_op op other || reads) || second) || one)
    ≡ is_same_operation (kept_op (counts (cast_if reads) (cast_if second) one) op)
    (kept_op (counts (cast_if reads) (cast_if second) one) other)
combined op other true true one loud = absurd (false≢true (sym loud))
combined op other true false one loud =
    ap (λ x. (x || false) || one) (or_true (is_same_op op other))
combined op other false true one loud = ap (λ x. x || one) (or_true (is_same_op op other || false))
combined op other false false true loud = or_true ((is_same_op op other || false) || false)
combined op other false false false loud =
    or_false ((is_same_op op other || false) || false) ∙ or_false (is_same_op op other || false)
    ∙ or_false (is_same_op op other)

-- two casts of which one is an update, and the other is no local access
between : (pair : Pair) → pair.overlaps ≡ true → (x : Bool) → pair.is_excepted ≡ x → (reads second : Bool) →
    are_quiet (cast_if reads) (cast_if second) ≡ false →
    is_some (rule_for pair (role_if reads) (role_if second)) ≡ not x
between pair meet x is true true loud = absurd (false≢true (sym loud))
between pair meet x is true false loud = rma pair meet x is
between pair meet x is false true loud = rma pair meet x is
between pair meet x is false false loud = rma pair meet x is

read_by : (pair : Pair) → pair.overlaps ≡ true → (x : Bool) → pair.is_excepted ≡ x → (second : Bool) →
    are_quiet Read (cast_if second) ≡ false → is_some (rule_for pair RmaRead (role_if second)) ≡ not x
read_by pair meet x is second loud = between pair meet x is true second loud

by_read : (pair : Pair) → pair.overlaps ≡ true → (x : Bool) → pair.is_excepted ≡ x → (reads : Bool) →
    are_quiet (cast_if reads) Read ≡ false → is_some (rule_for pair (role_if reads) RmaRead) ≡ not x
by_read pair meet x is reads loud = between pair meet x is reads true loud

update_by : (pair : Pair) → pair.overlaps ≡ true → (x : Bool) → pair.is_excepted ≡ x → (second : Bool) →
    is_some (rule_for pair RmaUpdate (role_if second)) ≡ not x
update_by pair meet x is true = rma pair meet x is
update_by pair meet x is false = rma pair meet x is

by_update : (pair : Pair) → pair.overlaps ≡ true → (x : Bool) → pair.is_excepted ≡ x → (reads : Bool) →
    is_some (rule_for pair (role_if reads) RmaUpdate) ≡ not x
by_update pair meet x is true = rma pair meet x is
by_update pair meet x is false = rma pair meet x is

by_load : (pair : Pair) → pair.overlaps ≡ true → (reads : Bool) → are_quiet (cast_if reads) LoadCast ≡ false →
    is_some (rule_for pair (role_if reads) Load) ≡ true
by_load pair meet true loud = absurd (false≢true (sym loud))
by_load pair meet false loud = always pair meet S1

load_by : (pair : Pair) → pair.overlaps ≡ true → (reads : Bool) → are_quiet LoadCast (cast_if reads) ≡ false →
    is_some (rule_for pair Load (role_if reads)) ≡ true
load_by pair meet true loud = absurd (false≢true (sym loud))
load_by pair meet false loud = always pair meet S1

by_store : (pair : Pair) → pair.overlaps ≡ true → (reads : Bool) →
    is_some (rule_for pair (role_if reads) Store) ≡ true
by_store pair meet true = always pair meet S2
by_store pair meet false = stored pair meet

store_by : (pair : Pair) → pair.overlaps ≡ true → (reads : Bool) →
    is_some (rule_for pair Store (role_if reads)) ≡ true
store_by pair meet true = always pair meet S2
store_by pair meet false = stored pair meet

-- the labels of an accumulate and a cas don't have the operation
without : (reads one : Bool) → counts (cast_if reads) Swap one ≡ false
without true one = refl
without false one = refl

-- ---- kinds

module _ (a b : Access) (pair : Pair) (meet : pair.overlaps ≡ true) (one : Bool) where
  abbrev excepted : Kind → Kind → Bool
  excepted k l = a.window == b.window
      && option_map_or (λ x. option_map_or (are_alike one x) (accumulation_of l) false) (accumulation_of k) false

  abbrev stand : Kind → Kind → Bool
  stand k l = do_stand (label_of_kind (counts (cast_of k) (cast_of l) one) a k)
      (label_of_kind (counts (cast_of k) (cast_of l) one) b l)

  -- none of the two is excepted
  plain : (x : Bool) → x ≡ (a.window == b.window && false) → x ≡ false
  plain x is = is ∙ and_false (a.window == b.window)

  cas_stands : (d e : Dtype) → (a.window == b.window && (is_same_dtype d e && true))
      ≡ ((a.window == b.window && is_same_dtype d e) && true)
  cas_stands d e = and_joined (a.window == b.window) (is_same_dtype d e) true

  pub meeting : (k l : Kind) → pair.is_excepted ≡ excepted k l → are_quiet (cast_of k) (cast_of l) ≡ false →
      is_some (rule_for pair (role_of k) (role_of l)) ≡ not (stand k l)
  meeting Get Get is loud = absurd (false≢true (sym loud))
  meeting Get Put is loud = rma pair meet false (plain pair.is_excepted is)
  meeting Get (Acc op d) is loud = read_by pair meet false (plain pair.is_excepted is) (is_no_op op) loud
  meeting Get (Cas d) is loud = rma pair meet false (plain pair.is_excepted is)
  meeting Get LoadKind is loud = absurd (false≢true (sym loud))
  meeting Get StoreKind is loud = always pair meet S2
  meeting Put Get is loud = rma pair meet false (plain pair.is_excepted is)
  meeting Put Put is loud = rma pair meet false (plain pair.is_excepted is)
  meeting Put (Acc op d) is loud = update_by pair meet false (plain pair.is_excepted is) (is_no_op op)
  meeting Put (Cas d) is loud = rma pair meet false (plain pair.is_excepted is)
  meeting Put LoadKind is loud = always pair meet S1
  meeting Put StoreKind is loud = stored pair meet
  meeting (Acc op d) Get is loud = by_read pair meet false (plain pair.is_excepted is) (is_no_op op) loud
  meeting (Acc op d) Put is loud = by_update pair meet false (plain pair.is_excepted is) (is_no_op op)
  meeting (Acc op d) (Acc other e) is loud =
      between pair meet (stand (Acc op d) (Acc other e))
      (is ∙ ap (λ x. a.window == b.window && (is_same_dtype d e && x))
      (combined op other (is_no_op op) (is_no_op other) one loud)
      ∙ and_joined (a.window == b.window) (is_same_dtype d e)
      (is_same_operation (kept_op (counts (cast_of (Acc op d)) (cast_of (Acc other e)) one) op)
      (kept_op (counts (cast_of (Acc op d)) (cast_of (Acc other e)) one) other)))
      (is_no_op op) (is_no_op other) loud
  meeting (Acc op d) (Cas e) is loud =
      by_update pair meet (stand (Acc op d) (Cas e))
      (is ∙ cas_stands d e
      ∙ sym (ap (λ by. (a.window == b.window && is_same_dtype d e) && is_same_operation (kept_op by op) None)
      (without (is_no_op op) one))) (is_no_op op)
  meeting (Acc op d) LoadKind is loud = by_load pair meet (is_no_op op) loud
  meeting (Acc op d) StoreKind is loud = by_store pair meet (is_no_op op)
  meeting (Cas d) Get is loud = rma pair meet false (plain pair.is_excepted is)
  meeting (Cas d) Put is loud = rma pair meet false (plain pair.is_excepted is)
  meeting (Cas d) (Acc op e) is loud =
      update_by pair meet (stand (Cas d) (Acc op e)) (is ∙ cas_stands d e) (is_no_op op)
  meeting (Cas d) (Cas e) is loud = rma pair meet (stand (Cas d) (Cas e)) (is ∙ cas_stands d e)
  meeting (Cas d) LoadKind is loud = always pair meet S1
  meeting (Cas d) StoreKind is loud = stored pair meet
  meeting LoadKind Get is loud = absurd (false≢true (sym loud))
  meeting LoadKind Put is loud = always pair meet S1
  meeting LoadKind (Acc op d) is loud = load_by pair meet (is_no_op op) loud
  meeting LoadKind (Cas d) is loud = always pair meet S1
  meeting LoadKind LoadKind is loud = absurd (false≢true (sym loud))
  meeting LoadKind StoreKind is loud = absurd (false≢true (sym loud))
  meeting StoreKind Get is loud = always pair meet S2
  meeting StoreKind Put is loud = stored pair meet
  meeting StoreKind (Acc op d) is loud = store_by pair meet (is_no_op op)
  meeting StoreKind (Cas d) is loud = stored pair meet
  meeting StoreKind LoadKind is loud = absurd (false≢true (sym loud))
  meeting StoreKind StoreKind is loud = absurd (false≢true (sym loud))

-- ---- casts

-- the role of a cast
abbrev pub role_by : Cast → Role
role_by Update = RmaUpdate
role_by Swap = RmaUpdate
role_by Read = RmaRead
role_by StoreCast = Store
role_by LoadCast = Load

reads_role : (reads : Bool) → role_if reads ≡ role_by (cast_if reads)
reads_role true = refl
reads_role false = refl

pub role_cast : (k : Kind) → role_of k ≡ role_by (cast_of k)
role_cast Get = refl
role_cast Put = refl
role_cast (Acc op d) = reads_role (is_no_op op)
role_cast (Cas d) = refl
role_cast LoadKind = refl
role_cast StoreKind = refl

-- a pair that a rule forbids is not quiet
pub loud_pair : (pair : Pair) (a b : Cast) → is_some (rule_for pair (role_by a) (role_by b)) ≡ true →
    are_quiet a b ≡ false
loud_pair pair Update b some = refl
loud_pair pair Swap b some = refl
loud_pair pair Read Update some = refl
loud_pair pair Read Swap some = refl
loud_pair pair Read Read some = absurd (false≢true some)
loud_pair pair Read StoreCast some = refl
loud_pair pair Read LoadCast some = absurd (false≢true some)
loud_pair pair StoreCast Update some = refl
loud_pair pair StoreCast Swap some = refl
loud_pair pair StoreCast Read some = refl
loud_pair pair StoreCast StoreCast some = absurd (false≢true some)
loud_pair pair StoreCast LoadCast some = absurd (false≢true some)
loud_pair pair LoadCast Update some = refl
loud_pair pair LoadCast Swap some = refl
loud_pair pair LoadCast Read some = absurd (false≢true some)
loud_pair pair LoadCast StoreCast some = absurd (false≢true some)
loud_pair pair LoadCast LoadCast some = absurd (false≢true some)

module _ (pair : Pair) (apart : pair.overlaps ≡ false) where
  no_rma : {X : Type 0} → is_some (rma_rule pair) ≡ true → X
  no_rma some = absurd (false≢true (sym (ap (λ o. is_some (rule_if (o && not pair.is_excepted) S2)) apart) ∙ some))

  never : {X : Type 0} (rule : Rule) → is_some (rule_if pair.overlaps rule) ≡ true → X
  never rule some = absurd (false≢true (sym (ap (λ o. is_some (rule_if o rule)) apart) ∙ some))

  if_true : (t : Bool) → is_some (rule_if t S3) ≡ true → t ≡ true
  if_true true some = refl
  if_true false some = absurd (false≢true some)

  apart_stored : is_some (store_rule pair) ≡ true → (pair.on_one_window && is_separate pair.model) ≡ true
  apart_stored some = if_true (pair.on_one_window && is_separate pair.model)
      (sym (ap (λ o. is_some (if o then Some S1 else rule_if (pair.on_one_window && is_separate pair.model) S3)) apart)
      ∙ some)

  -- where the bytes don't meet, a rule forbids a store and an update on one window
  pub apart_pair : (a b : Cast) → is_some (rule_for pair (role_by a) (role_by b)) ≡ true →
      (are_store_and_update a b ≡ true) × ((pair.on_one_window && is_separate pair.model) ≡ true)
  apart_pair Update Update some = no_rma some
  apart_pair Update Swap some = no_rma some
  apart_pair Update Read some = no_rma some
  apart_pair Update StoreCast some = (refl, apart_stored some)
  apart_pair Update LoadCast some = never S1 some
  apart_pair Swap Update some = no_rma some
  apart_pair Swap Swap some = no_rma some
  apart_pair Swap Read some = no_rma some
  apart_pair Swap StoreCast some = (refl, apart_stored some)
  apart_pair Swap LoadCast some = never S1 some
  apart_pair Read Update some = no_rma some
  apart_pair Read Swap some = no_rma some
  apart_pair Read Read some = absurd (false≢true some)
  apart_pair Read StoreCast some = never S2 some
  apart_pair Read LoadCast some = absurd (false≢true some)
  apart_pair StoreCast Update some = (refl, apart_stored some)
  apart_pair StoreCast Swap some = (refl, apart_stored some)
  apart_pair StoreCast Read some = never S2 some
  apart_pair StoreCast StoreCast some = absurd (false≢true some)
  apart_pair StoreCast LoadCast some = absurd (false≢true some)
  apart_pair LoadCast Update some = never S1 some
  apart_pair LoadCast Swap some = never S1 some
  apart_pair LoadCast Read some = absurd (false≢true some)
  apart_pair LoadCast StoreCast some = absurd (false≢true some)
  apart_pair LoadCast LoadCast some = absurd (false≢true some)
