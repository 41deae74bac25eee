-- One label is the same as itself in both directions, and what is the same as one is the same as another.
use Rattle.std.proofs.Common.{◌≡◌, ℕ, true, Option, Some, None, refl, sym, ◌∙◌}
use Rattle.std.specs.Prelude.{◌&&◌, ◌==◌}
use Rattle.std.proofs.lemmas.Bool.{and_from, and_parts, eq-eqb, eqb-true, false≢true}
use Rattle.rma_types.specs.declared.ops.Op.{Op}
use Rattle.call_rules.specs.Sameness.{dtype_number, is_same_dtype, op_number}
use Rattle.access_sweeps.specs.Labels.{do_stand, is_same_label, is_same_operation}
use Rattle.access_sweeps.specs.declared.kinds.Label.{Label}

turned : (m n : ℕ) → (m == n) ≡ true → (n == m) ≡ true
turned m n same = eq-eqb n m (sym (eqb-true m n same))

through : (m n k : ℕ) → (m == n) ≡ true → (n == k) ≡ true → (m == k) ≡ true
through m n k one two = eq-eqb m k (eqb-true m n one ∙ eqb-true n k two)

operation_turned : (a b : Option Op) → is_same_operation a b ≡ true → is_same_operation b a ≡ true
operation_turned None None same = refl
operation_turned None (Some b) same = absurd (false≢true same)
operation_turned (Some a) None same = absurd (false≢true same)
operation_turned (Some a) (Some b) same = turned (op_number a) (op_number b) same

operation_through : (a b c : Option Op) → is_same_operation a b ≡ true → is_same_operation b c ≡ true →
    is_same_operation a c ≡ true
operation_through None None c one two = two
operation_through None (Some b) c one two = absurd (false≢true one)
operation_through (Some a) None c one two = absurd (false≢true one)
operation_through (Some a) (Some b) None one two = absurd (false≢true two)
operation_through (Some a) (Some b) (Some c) one two = through (op_number a) (op_number b) (op_number c) one two

label_turned : (a b : Label) → is_same_label a b ≡ true → is_same_label b a ≡ true
label_turned a b same =
    let parts = and_parts (a.window == b.window && is_same_dtype a.dtype b.dtype) (is_same_operation a.op b.op) same in
    let front = and_parts (a.window == b.window) (is_same_dtype a.dtype b.dtype) parts.0 in
    and_from (b.window == a.window && is_same_dtype b.dtype a.dtype) (is_same_operation b.op a.op)
    (and_from (b.window == a.window) (is_same_dtype b.dtype a.dtype) (turned a.window b.window front.0)
    (turned (dtype_number a.dtype) (dtype_number b.dtype) front.1))
    (operation_turned a.op b.op parts.1)

label_through : (a b c : Label) → is_same_label a b ≡ true → is_same_label b c ≡ true → is_same_label a c ≡ true
label_through a b c one two =
    let parts = and_parts (a.window == b.window && is_same_dtype a.dtype b.dtype) (is_same_operation a.op b.op) one in
    let front = and_parts (a.window == b.window) (is_same_dtype a.dtype b.dtype) parts.0 in
    let rest = and_parts (b.window == c.window && is_same_dtype b.dtype c.dtype) (is_same_operation b.op c.op) two in
    let begin = and_parts (b.window == c.window) (is_same_dtype b.dtype c.dtype) rest.0 in
    and_from (a.window == c.window && is_same_dtype a.dtype c.dtype) (is_same_operation a.op c.op)
    (and_from (a.window == c.window) (is_same_dtype a.dtype c.dtype)
    (through a.window b.window c.window front.0 begin.0)
    (through (dtype_number a.dtype) (dtype_number b.dtype) (dtype_number c.dtype) front.1 begin.1))
    (operation_through a.op b.op c.op parts.1 rest.1)

pub stand_turned : (a b : Option Label) → do_stand a b ≡ true → do_stand b a ≡ true
stand_turned None b same = absurd (false≢true same)
stand_turned (Some a) None same = absurd (false≢true same)
stand_turned (Some a) (Some b) same = label_turned a b same

pub stand_through : (a b c : Option Label) → do_stand a b ≡ true → do_stand b c ≡ true → do_stand a c ≡ true
stand_through None b c one two = absurd (false≢true one)
stand_through (Some a) None c one two = absurd (false≢true one)
stand_through (Some a) (Some b) None one two = absurd (false≢true two)
stand_through (Some a) (Some b) (Some c) one two = label_through a b c one two
