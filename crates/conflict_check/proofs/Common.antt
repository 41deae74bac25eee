-- A forbidden pair has a region in common, where its classes conflict; and accesses of two such classes may be swept.
use Rattle.std.proofs.Common.{◌≡◌, ℕ, ◌+◌, ◌*◌, ◌-◌, ◌/◌, ◌<◌, ◌≤◌, inl, inr, Bool, true, false, not, refl, ap}
use Rattle.std.proofs.Common.{sym, subst, ◌∙◌, arith, Option, None, Some}
use Rattle.std.specs.Prelude.{◌&&◌, ◌||◌, ◌==◌, if◌then◌else◌, min, nat_le, nat_lt}
use Rattle.std.specs.Option.{is_some}
use Rattle.std.proofs.lemmas.Bool.{and_from, and_parts, cases_Bool, cases_lt, eq-eqb, eqb-true, false≢true, le-leb}
use Rattle.std.proofs.lemmas.Bool.{lt-ltb, ltb-true, not-true, not_from_false, or_cases, or_left, or_right}
use Rattle.rma_types.specs.declared.accesses.Access.{Access}
use Rattle.rma_types.specs.declared.findings.Model.{Model}
use Rattle.rma_types.specs.declared.findings.Model.TheVariants.{Separate, Unified}
use Rattle.rma_types.specs.declared.findings.Rule.{Rule}
use Rattle.rma_types.specs.declared.findings.Rule.TheVariants.{S1, S3}
use Rattle.rma_types.specs.declared.accesses.Kind.{Kind}
use Rattle.rma_types.specs.declared.accesses.Kind.TheVariants.{Get, Put, Acc, Cas, Load as LoadKind, Store as StoreKind}
use Rattle.call_rules.specs.Transfers.{is_no_op}
use Rattle.order_rules.specs.Roles.{role_of}
use Rattle.order_rules.specs.Rules.{Pair, bytes_reached, forbidden_kind, is_separate, pair_of, rule_for, rule_if}
use Rattle.rank_rules.specs.Ranges.{do_overlap}
use Rattle.access_index.specs.Regions.{IsIn, IsInBlock, IsInWindow, block_class, cast_of, is_update, window_class}
use Rattle.access_index.specs.declared.regions.Cast.{Cast}
use Rattle.access_index.specs.declared.regions.Cast.TheVariants.{Update, Swap, Read, Store as StoreCast, Load as LoadCast}
use Rattle.access_index.specs.declared.regions.Class.{Class}
use Rattle.access_index.specs.declared.regions.Region.{Region}
use Rattle.access_index.specs.declared.regions.Region.TheVariants.{Block, Window}
use Rattle.access_sweeps.specs.Labels.{do_stand, label_of, label_of_kind}
use Rattle.access_sweeps.specs.declared.kinds.Label.{Label}
use Rattle.conflict_check.specs.Conflicts.{are_quiet, are_store_and_update, by_operation, do_conflict, is_rma_update, is_store}
use Rattle.conflict_check.proofs.Classes.{apart_pair, loud_pair, meeting, role_by, role_cast}

-- ---- what a class says

pub cast_in : (region : Region) (class : Class) (rank : ℕ) (a : Access) → IsIn region class rank a →
    class.cast ≡ cast_of a.kind
cast_in (Block target block) class rank a inside = ap (λ (c : Class). c.cast) inside.1
cast_in (Window target window) class rank a inside = ap (λ (c : Class). c.cast) inside.1

pub rank_in : (region : Region) (class : Class) (rank : ℕ) (a : Access) → IsIn region class rank a →
    class.rank ≡ rank
rank_in (Block target block) class rank a inside = ap (λ (c : Class). c.rank) inside.1
rank_in (Window target window) class rank a inside = ap (λ (c : Class). c.rank) inside.1

-- ---- the rule of a pair

-- two accesses at one target, each of a byte
guarded : (a b : Access) → a.target ≡ b.target → 0 < a.len → 0 < b.len →
    (a.target == b.target && nat_lt 0 a.len && nat_lt 0 b.len) ≡ true
guarded a b same first second =
    and_from (a.target == b.target && nat_lt 0 a.len) (nat_lt 0 b.len)
    (and_from (a.target == b.target) (nat_lt 0 a.len) (eq-eqb a.target b.target same) (lt-ltb 0 a.len first))
    (lt-ltb 0 b.len second)

by_rule : (a b : Access) (ra rb : ℕ) (model : Model) → a.target ≡ b.target → 0 < a.len → 0 < b.len →
    forbidden_kind a ra b rb model ≡ rule_for (pair_of model a b (ra == rb)) (role_of a.kind) (role_of b.kind)
by_rule a b ra rb model same first second =
    ap (λ t. if t then rule_for (pair_of model a b (ra == rb)) (role_of a.kind) (role_of b.kind) else None)
    (guarded a b same first second)

meet_of : (a b : Access) → 0 < a.len → 0 < b.len → a.lo < b.lo + b.len → b.lo < a.lo + a.len →
    do_overlap (bytes_reached a) (bytes_reached b) ≡ true
meet_of a b first second one two =
    and_from (nat_lt 0 a.len && nat_lt 0 b.len && nat_lt a.lo (b.lo + b.len)) (nat_lt b.lo (a.lo + a.len))
    (and_from (nat_lt 0 a.len && nat_lt 0 b.len) (nat_lt a.lo (b.lo + b.len))
    (and_from (nat_lt 0 a.len) (nat_lt 0 b.len) (lt-ltb 0 a.len first) (lt-ltb 0 b.len second))
    (lt-ltb a.lo (b.lo + b.len) one)) (lt-ltb b.lo (a.lo + a.len) two)

-- ---- classes that conflict decide

in_block : (model : Model) (target block ra rb : ℕ) (a b : Access) → IsInBlock target block a →
    IsInBlock target block b →
    do_conflict model (Block target block) (block_class block ra a) (block_class block rb b) ≡ true →
    is_some (forbidden_kind a ra b rb model)
    ≡ not (do_stand (label_of (by_operation (block_class block ra a) (block_class block rb b)) a)
    (label_of (by_operation (block_class block ra a) (block_class block rb b)) b))
in_block model target block ra rb a b first second conflict =
    let c = block_class block ra a in
    let d = block_class block rb b in
    let outer = and_parts (nat_lt c.from d.to && nat_lt d.from c.to && (c.begins || d.begins))
    (not (are_quiet c.cast d.cast)) conflict in
    let inner = and_parts (nat_lt c.from d.to && nat_lt d.from c.to) (c.begins || d.begins) outer.0 in
    let bytes = and_parts (nat_lt c.from d.to) (nat_lt d.from c.to) inner.0 in
    let one : a.lo - 4 * block < min (b.lo + b.len - 4 * block) 4 = ltb-true c.from d.to bytes.0 in
    let two : b.lo - 4 * block < min (a.lo + a.len - 4 * block) 4 = ltb-true d.from c.to bytes.1 in
    let any_a = first.any in
    let any_b = second.any in
    let open_a = first.still_open in
    let open_b = second.still_open in
    let meets : do_overlap (bytes_reached a) (bytes_reached b) ≡ true =
    meet_of a b first.any second.any (omega (arith, one, any_b, open_b)) (omega (arith, two, any_a, open_a)) in
    ap is_some (by_rule a b ra rb model (first.target_of ∙ sym second.target_of) first.any second.any)
    ∙ meeting a b (pair_of model a b (ra == rb)) meets (ra == rb) a.kind b.kind refl
    (not-true (are_quiet c.cast d.cast) outer.1)

either_way : (o t : Bool) → t ≡ true → is_some (if o then Some S1 else rule_if t S3) ≡ true
either_way true t on = refl
either_way false t on = ap (λ x. is_some (rule_if x S3)) on

-- a store and an update on one window in the separate model
window_rule : (pair : Pair) → (pair.on_one_window && is_separate pair.model) ≡ true → (a b : Cast) →
    are_store_and_update a b ≡ true → is_some (rule_for pair (role_by a) (role_by b)) ≡ true
window_rule pair on Update Update both = absurd (false≢true both)
window_rule pair on Update Swap both = absurd (false≢true both)
window_rule pair on Update Read both = absurd (false≢true both)
window_rule pair on Update StoreCast both =
    either_way pair.overlaps (pair.on_one_window && is_separate pair.model) on
window_rule pair on Update LoadCast both = absurd (false≢true both)
window_rule pair on Swap Update both = absurd (false≢true both)
window_rule pair on Swap Swap both = absurd (false≢true both)
window_rule pair on Swap Read both = absurd (false≢true both)
window_rule pair on Swap StoreCast both =
    either_way pair.overlaps (pair.on_one_window && is_separate pair.model) on
window_rule pair on Swap LoadCast both = absurd (false≢true both)
window_rule pair on Read b both = absurd (false≢true both)
window_rule pair on StoreCast Update both =
    either_way pair.overlaps (pair.on_one_window && is_separate pair.model) on
window_rule pair on StoreCast Swap both =
    either_way pair.overlaps (pair.on_one_window && is_separate pair.model) on
window_rule pair on StoreCast Read both = absurd (false≢true both)
window_rule pair on StoreCast StoreCast both = absurd (false≢true both)
window_rule pair on StoreCast LoadCast both = absurd (false≢true both)
window_rule pair on LoadCast b both = absurd (false≢true both)

-- a store has no label
no_accumulate : (reads : Bool) → is_store (if reads then Read else Update) ≡ true → {X : Type 0} → X
no_accumulate true store = absurd (false≢true store)
no_accumulate false store = absurd (false≢true store)

unlabelled : (by : Bool) (a : Access) (k : Kind) → is_store (cast_of k) ≡ true → label_of_kind by a k ≡ None
unlabelled by a Get store = refl
unlabelled by a Put store = refl
unlabelled by a (Acc op dtype) store = no_accumulate (is_no_op op) store
unlabelled by a (Cas dtype) store = absurd (false≢true store)
unlabelled by a LoadKind store = refl
unlabelled by a StoreKind store = refl

stand_none : (l : Option Label) → do_stand l None ≡ false
stand_none None = refl
stand_none (Some l) = refl

window_apart : (by : Bool) (a b : Access) → are_store_and_update (cast_of a.kind) (cast_of b.kind) ≡ true →
    do_stand (label_of by a) (label_of by b) ≡ false
window_apart by a b both =
    elim (or_cases (is_store (cast_of a.kind) && is_rma_update (cast_of b.kind))
    (is_rma_update (cast_of a.kind) && is_store (cast_of b.kind)) both) [
      | inl first ↦ ap (λ l. do_stand l (label_of by b)) (unlabelled by a a.kind
          (and_parts (is_store (cast_of a.kind)) (is_rma_update (cast_of b.kind)) first).0)
      | inr second ↦ ap (λ l. do_stand (label_of by a) l) (unlabelled by b b.kind
          (and_parts (is_rma_update (cast_of a.kind)) (is_store (cast_of b.kind)) second).1)
          ∙ stand_none (label_of by a)
    ]

in_window : (target window ra rb : ℕ) (a b : Access) → IsInWindow target window a → IsInWindow target window b →
    are_store_and_update (cast_of a.kind) (cast_of b.kind) ≡ true → (by : Bool) →
    is_some (forbidden_kind a ra b rb Separate) ≡ not (do_stand (label_of by a) (label_of by b))
in_window target window ra rb a b first second both by =
    let pair = pair_of Separate a b (ra == rb) in
    let on : (a.window == b.window && true) ≡ true =
    and_from (a.window == b.window) true (eq-eqb a.window b.window (first.window_of ∙ sym second.window_of)) refl in
    ap is_some (by_rule a b ra rb Separate (first.target_of ∙ sym second.target_of) first.any second.any)
    ∙ (λ i. is_some (rule_for pair (role_cast a.kind i) (role_cast b.kind i)))
    ∙ window_rule pair on (cast_of a.kind) (cast_of b.kind) both
    ∙ sym (ap not (window_apart by a b both))

-- in a region where their classes conflict, a rule forbids two accesses unless they may overlap
pub decides : (model : Model) (region : Region) (c d : Class) (ra rb : ℕ) (a b : Access) → IsIn region c ra a →
    IsIn region d rb b → do_conflict model region c d ≡ true →
    is_some (forbidden_kind a ra b rb model)
    ≡ not (do_stand (label_of (by_operation c d) a) (label_of (by_operation c d) b))
decides model (Block target block) c d ra rb a b first second =
    subst (λ (x : Class). do_conflict model (Block target block) x d ≡ true →
    is_some (forbidden_kind a ra b rb model)
    ≡ not (do_stand (label_of (by_operation x d) a) (label_of (by_operation x d) b))) (sym first.1)
    (subst (λ (x : Class). do_conflict model (Block target block) (block_class block ra a) x ≡ true →
    is_some (forbidden_kind a ra b rb model)
    ≡ not (do_stand (label_of (by_operation (block_class block ra a) x) a)
    (label_of (by_operation (block_class block ra a) x) b))) (sym second.1)
    (in_block model target block ra rb a b first.0 second.0))
decides Separate (Window target window) c d ra rb a b first second =
    λ conflict. in_window target window ra rb a b first.0 second.0
    (ap (λ (x : Class). are_store_and_update x.cast (cast_of b.kind)) (sym first.1)
    ∙ ap (λ (x : Class). are_store_and_update c.cast x.cast) (sym second.1) ∙ conflict) (by_operation c d)
decides Unified (Window target window) c d ra rb a b first second = λ conflict. absurd (false≢true conflict)

-- ---- a common region

-- a region that both accesses reach, and where their classes conflict
pub record Meeting (model : Model) (ra rb : ℕ) (a b : Access) : Type 0 where
  pub region : Region
  pub first : Class
  pub second : Class
  pub of_first : IsIn region first ra a
  pub of_second : IsIn region second rb b
  pub conflict : do_conflict model region first second ≡ true

-- the block of the greater of two addresses
meet_in_block : (model : Model) (ra rb : ℕ) (a b : Access) → a.target ≡ b.target → 0 < a.len → 0 < b.len →
    a.lo < b.lo + b.len → b.lo < a.lo + a.len → are_quiet (cast_of a.kind) (cast_of b.kind) ≡ false →
    (block : ℕ) → a.lo < 4 * block + 4 → b.lo < 4 * block + 4 → 4 * block < a.lo + a.len →
    4 * block < b.lo + b.len → (nat_le (4 * block) a.lo || nat_le (4 * block) b.lo) ≡ true →
    Meeting model ra rb a b
meet_in_block model ra rb a b same any_a any_b one two loud block begun_a begun_b open_a open_b begins =
    let c = block_class block ra a in
    let d = block_class block rb b in
    let low : a.lo - 4 * block < min (b.lo + b.len - 4 * block) 4 = omega (arith, one, begun_a, open_b) in
    let high : b.lo - 4 * block < min (a.lo + a.len - 4 * block) 4 = omega (arith, two, begun_b, open_a) in
    record {
      region = Block a.target block;
      first = c;
      second = d;
      of_first = (record { target_of = refl; any = any_a; begun = begun_a; still_open = open_a }, refl);
      of_second = (record { target_of = sym same; any = any_b; begun = begun_b; still_open = open_b }, refl);
      conflict = and_from (nat_lt c.from d.to && nat_lt d.from c.to && (c.begins || d.begins))
          (not (are_quiet c.cast d.cast))
          (and_from (nat_lt c.from d.to && nat_lt d.from c.to) (c.begins || d.begins)
          (and_from (nat_lt c.from d.to) (nat_lt d.from c.to) (lt-ltb c.from d.to low) (lt-ltb d.from c.to high))
          begins)
          (not_from_false (are_quiet c.cast d.cast) loud);
    }

meet_where_bytes : (model : Model) (ra rb : ℕ) (a b : Access) → a.target ≡ b.target →
    do_overlap (bytes_reached a) (bytes_reached b) ≡ true → are_quiet (cast_of a.kind) (cast_of b.kind) ≡ false →
    Meeting model ra rb a b
meet_where_bytes model ra rb a b same meets loud =
    let outer = and_parts (nat_lt 0 a.len && nat_lt 0 b.len && nat_lt a.lo (b.lo + b.len)) (nat_lt b.lo (a.lo + a.len))
    meets in
    let inner = and_parts (nat_lt 0 a.len && nat_lt 0 b.len) (nat_lt a.lo (b.lo + b.len)) outer.0 in
    let bytes = and_parts (nat_lt 0 a.len) (nat_lt 0 b.len) inner.0 in
    let any_a = ltb-true 0 a.len bytes.0 in
    let any_b = ltb-true 0 b.len bytes.1 in
    let one = ltb-true a.lo (b.lo + b.len) inner.1 in
    let two = ltb-true b.lo (a.lo + a.len) outer.1 in
    elim (cases_lt a.lo b.lo) [
      | inl less ↦
          let k = b.lo / 4 in
          let low : 4 * k ≤ b.lo = omega arith in
          let high : b.lo < 4 * k + 4 = omega arith in
          meet_in_block model ra rb a b same any_a any_b one two loud k (omega (arith, less, high)) high
          (omega (arith, low, two)) (omega (arith, low, any_b))
          (or_right (nat_le (4 * k) a.lo) (nat_le (4 * k) b.lo) (le-leb (4 * k) b.lo low))
      | inr most ↦
          let k = a.lo / 4 in
          let low : 4 * k ≤ a.lo = omega arith in
          let high : a.lo < 4 * k + 4 = omega arith in
          meet_in_block model ra rb a b same any_a any_b one two loud k high (omega (arith, most, high))
          (omega (arith, low, any_a)) (omega (arith, low, one))
          (or_left (nat_le (4 * k) a.lo) (nat_le (4 * k) b.lo) (le-leb (4 * k) a.lo low))
    ]

store_updates : (a b : Cast) → are_store_and_update a b ≡ true → (is_update a ≡ true) × (is_update b ≡ true)
store_updates Update Update both = (refl, refl)
store_updates Update Swap both = (refl, refl)
store_updates Update Read both = absurd (false≢true both)
store_updates Update StoreCast both = (refl, refl)
store_updates Update LoadCast both = absurd (false≢true both)
store_updates Swap Update both = (refl, refl)
store_updates Swap Swap both = (refl, refl)
store_updates Swap Read both = absurd (false≢true both)
store_updates Swap StoreCast both = (refl, refl)
store_updates Swap LoadCast both = absurd (false≢true both)
store_updates Read b both = absurd (false≢true both)
store_updates StoreCast Update both = (refl, refl)
store_updates StoreCast Swap both = (refl, refl)
store_updates StoreCast Read both = absurd (false≢true both)
store_updates StoreCast StoreCast both = (refl, refl)
store_updates StoreCast LoadCast both = absurd (false≢true both)
store_updates LoadCast b both = absurd (false≢true both)

meet_in_window : (model : Model) (ra rb : ℕ) (a b : Access) → a.target ≡ b.target → 0 < a.len → 0 < b.len →
    are_store_and_update (cast_of a.kind) (cast_of b.kind) ≡ true → a.window ≡ b.window →
    is_separate model ≡ true → Meeting model ra rb a b
meet_in_window Separate ra rb a b same any_a any_b both window separate =
    let updates = store_updates (cast_of a.kind) (cast_of b.kind) both in record {
      region = Window a.target a.window;
      first = window_class ra a;
      second = window_class rb b;
      of_first = (record { target_of = refl; window_of = refl; any = any_a; updates = updates.0 }, refl);
      of_second = (
        record { target_of = sym same; window_of = sym window; any = any_b; updates = updates.1 },
        refl,
      );
      conflict = both;
    }
meet_in_window Unified ra rb a b same any_a any_b both window separate = absurd (false≢true separate)

rule_given : (t : Bool) (o : Option Rule) → is_some (if t then o else None) ≡ true → (t ≡ true) × (is_some o ≡ true)
rule_given true o some = (refl, some)
rule_given false o some = absurd (false≢true some)

-- accesses that a rule forbids where they are not ordered meet in a region
pub common : (model : Model) (ra rb : ℕ) (a b : Access) → is_some (forbidden_kind a ra b rb model) ≡ true →
    Meeting model ra rb a b
common model ra rb a b some =
    let pair = pair_of model a b (ra == rb) in
    let given = rule_given (a.target == b.target && nat_lt 0 a.len && nat_lt 0 b.len)
    (rule_for pair (role_of a.kind) (role_of b.kind)) some in
    let outer = and_parts (a.target == b.target && nat_lt 0 a.len) (nat_lt 0 b.len) given.0 in
    let inner = and_parts (a.target == b.target) (nat_lt 0 a.len) outer.0 in
    let same : a.target ≡ b.target = eqb-true a.target b.target inner.0 in
    let rule : is_some (rule_for pair (role_by (cast_of a.kind)) (role_by (cast_of b.kind))) ≡ true =
    sym (λ i. is_some (rule_for pair (role_cast a.kind i) (role_cast b.kind i))) ∙ given.1 in
    elim (cases_Bool (do_overlap (bytes_reached a) (bytes_reached b))) [
      | inl meets ↦ meet_where_bytes model ra rb a b same meets
          (loud_pair pair (cast_of a.kind) (cast_of b.kind) rule)
      | inr apart ↦
          let both = apart_pair pair apart (cast_of a.kind) (cast_of b.kind) rule in
          let on = and_parts (a.window == b.window) (is_separate model) both.1 in
          meet_in_window model ra rb a b same (ltb-true 0 a.len inner.1) (ltb-true 0 b.len outer.1) both.0
          (eqb-true a.window b.window on.0) on.1
    ]
