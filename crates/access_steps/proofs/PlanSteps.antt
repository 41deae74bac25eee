-- The touches that an access asks for, from what is written of its call.
use Rattle.std.proofs.Common.{◌≡◌, ℕ, zero, suc, ◌+◌, ◌-◌, ◌*◌, ◌/◌, ◌%◌, ◌<◌, ◌≤◌, Bool, true, false, not, cond, List}
use Rattle.std.proofs.Common.{[], ◌∷◌, ◌++◌, length, map, get_or, refl, ap, ◌∙◌, subst, arith, Option, Some, None}
use Rattle.std.proofs.Common.{IfSome, IsSome, IsTrue, IsSomeAnd}
use Rattle.std.proofs.lemmas.List.{length-map, map-append}
use Rattle.std.specs.List.{AllByRecursion}
use Rattle.std.specs.Option.{ForSome, option_map_or, option_and_then}
use Rattle.rma_types.specs.declared.accesses.Access.{Access}
use Rattle.rma_types.specs.declared.calls.Call.{Call}
use Rattle.rma_types.specs.declared.dtypes.Dtype.{Dtype}
use Rattle.rma_types.specs.declared.dtypes.Dtype.TheVariants.{Int8, Int16, Int32, Uint8, Uint16, Uint32, Byte}
use Rattle.rma_types.specs.declared.scripts.Layout.{Layout}
use Rattle.rma_types.specs.Datatypes.{size_of}
use Rattle.call_rules.specs.declared.elements.Change.{Change}
use Rattle.rma_types.specs.declared.actions.Transfer.{Transfer}
use Rattle.rma_types.specs.Actions.{transfer_in, action_of}
use Rattle.call_rules.specs.Elements.{Fits}
use Rattle.call_rules.specs.Numbers.{patterns_of}
use Rattle.call_rules.specs.declared.elements.Piece.{Piece}
use Rattle.call_rules.specs.Pieces.{numbers_from, piece_at}
use Rattle.call_rules.specs.Ranks.{natural}
use Rattle.call_rules.specs.Transfers.{bytes_of, change_of, is_no_op}
use Rattle.call_rules.specs.WellFormed.{IsWrittenTransfer, IsWrittenCall}
use Rattle.call_rules.proofs.NumbersFrom.{numbers_length, numbers_last}
use Rattle.call_rules.proofs.PatternLaws.{some_pattern}
use Rattle.call_rules.proofs.WellFormedLaws.{written_in}
use Rattle.access_steps.specs.Plans.{element_size, element_count, is_update, change_by, PlannedTouch, touch_at}
use Rattle.access_steps.specs.Plans.{piece_of, planned_touch, planned_touches, IsAccessOf}

pub length-planned : (layout : Layout) (access : Access) (call : Call) (first n : ℕ) →
    length (planned_touches layout access call first n) ≡ n
length-planned layout access call first n = length-map (numbers_from first n) (planned_touch layout access call)
    ∙ numbers_length first n

-- one element more
pub planned_more : (layout : Layout) (access : Access) (call : Call) (from element : ℕ) → from ≤ element →
    planned_touches layout access call from (element + 1 - from) ≡ planned_touches layout access call from
    (element - from) ++ planned_touch layout access call element ∷ []
planned_more layout access call from element le =
    let more : element + 1 - from ≡ suc (element - from) = omega arith in
    let here : from + (element - from) ≡ element = omega arith in
    ap (planned_touches layout access call from) more
    ∙ (ap (map (planned_touch layout access call)) (numbers_last from (element - from))
    ∙ (map-append (planned_touch layout access call) (numbers_from from (element - from))
    ((from + (element - from)) ∷ [])
    ∙ ap (λ (k : ℕ). planned_touches layout access call from (element - from) ++ planned_touch layout access call k
    ∷ []) here))

abbrev size_by : Option Transfer → ℕ
size_by o = option_map_or (λ (t : Transfer). size_of t.dtype) o 1

multiple : (dtype : Dtype) (lo element : ℕ) → lo % size_of dtype ≡ 0 → (lo + element * size_of dtype) % size_of dtype ≡
    0
multiple Int8 lo element e = omega arith
multiple Int16 lo element e = omega arith
multiple Int32 lo element e = omega arith
multiple Uint8 lo element e = omega arith
multiple Uint16 lo element e = omega arith
multiple Uint32 lo element e = omega arith
multiple Byte lo element e = omega arith

pub quotient : (dtype : Dtype) (n : ℕ) → n * size_of dtype / size_of dtype ≡ n
quotient Int8 n = omega arith
quotient Int16 n = omega arith
quotient Int32 n = omega arith
quotient Uint8 n = omega arith
quotient Uint16 n = omega arith
quotient Uint32 n = omega arith
quotient Byte n = omega arith

aligned_in : (dtype : Dtype) (address : ℕ) → address % size_of dtype ≡ 0 → address % 4 % size_of dtype ≡ 0
aligned_in Int8 address e = omega arith
aligned_in Int16 address e = omega arith
aligned_in Int32 address e = omega arith
aligned_in Uint8 address e = omega arith
aligned_in Uint16 address e = omega arith
aligned_in Uint32 address e = omega arith
aligned_in Byte address e = omega arith

inside : (dtype : Dtype) (address : ℕ) → address % size_of dtype ≡ 0 → address % 4 + size_of dtype ≤ 4
inside Int8 address e = omega arith
inside Int16 address e = omega arith
inside Int32 address e = omega arith
inside Uint8 address e = omega arith
inside Uint16 address e = omega arith
inside Uint32 address e = omega arith
inside Byte address e = omega arith

operand_below : (n : ℕ) (operands : List ℕ) (k : ℕ) → 0 < n → AllByRecursion (λ pattern. pattern < n) operands →
    get_or operands k 0 < n
operand_below n [] k some all = some
operand_below n (x ∷ xs) zero some all = all.0
operand_below n (x ∷ xs) (suc k) some all = operand_below n xs k some all.1

choice_fits : (reads : Bool) (change : Change) → Fits change → ForSome (cond reads None (Some change)) Fits
choice_fits true change fits = λ x e. absurd (cc)
choice_fits false change fits = λ x e. let same : change ≡ x = cc in subst Fits same fits

fits_in : (o : Option Transfer) (element address : ℕ) → IfSome o IsWrittenTransfer → address % size_by o ≡ 0 →
    ForSome (option_and_then (λ (t : Transfer). change_of t element (address % 4)) o) Fits
fits_in None element address w e = λ x h. absurd (cc)
fits_in (Some t) element address w e = choice_fits (is_no_op t.op) _ (record {
  aligned = aligned_in t.dtype address e;
  inside = inside t.dtype address e;
  operand = operand_below (patterns_of t.dtype) t.operands element (some_pattern t.dtype) w.patterns;
  compared = w.compared;
})

-- the change of an element at a multiple of its size fits its cell
pub fits_by : (call : Call) (element address : ℕ) → IsWrittenCall call → address % element_size call ≡ 0 →
    ForSome (change_by call element (address % 4)) Fits
fits_by call element address w e = fits_in (transfer_in (action_of call)) element address
    (written_in (action_of call) w) e

multiple_in : (o : Option Transfer) (access : Access) (element : ℕ) →
    IsSomeAnd o (λ t. (access.kind ≡ t.kind) × (access.len ≡ bytes_of t) × (access.lo % size_of t.dtype ≡ 0)) →
    (access.lo + element * size_by o) % size_by o ≡ 0
multiple_in None access element a = elim a [ ]
multiple_in (Some t) access element a = multiple t.dtype access.lo element a.2

pub multiple_of : (call : Call) (access : Access) (element : ℕ) → IsAccessOf call access →
    (access.lo + element * element_size call) % element_size call ≡ 0
multiple_of call access element a = multiple_in (transfer_in (action_of call)) access element a

count_in : (o : Option Transfer) (access : Access) →
    IsSomeAnd o (λ t. (access.kind ≡ t.kind) × (access.len ≡ bytes_of t) × (access.lo % size_of t.dtype ≡ 0)) →
    access.len / size_by o ≡ option_map_or (λ (t : Transfer). natural t.count) o 0
count_in None access a = elim a [ ]
count_in (Some t) access a = ap (λ n. n / size_of t.dtype) a.1 ∙ quotient t.dtype (natural t.count)

count_is : (call : Call) (access : Access) → IsAccessOf call access →
    access.len / element_size call ≡ element_count call
count_is call access a = count_in (transfer_in (action_of call)) access a

choice_updates : (reads : Bool) (change : Change) → IsSome (cond reads None (Some change)) → IsTrue (not reads)
choice_updates true change some = absurd (cc)
choice_updates false change some = refl

update_in : (o : Option Transfer) (element first_byte : ℕ) →
    IsSome (option_and_then (λ (t : Transfer). change_of t element first_byte) o) →
    IsTrue (option_map_or (λ (t : Transfer). not (is_no_op t.op)) o false)
update_in None element first_byte some = absurd (cc)
update_in (Some t) element first_byte some = choice_updates (is_no_op t.op) _ some

-- where there is a change, the call is an update
pub update_by_change : (call : Call) (element first_byte : ℕ) → IsSome (change_by call element first_byte) →
    IsTrue (is_update call)
update_by_change call element first_byte some = update_in (transfer_in (action_of call)) element first_byte some

pub piece_is : (layout : Layout) (access : Access) (call : Call) (element : ℕ) (dtype : Dtype) (piece : Piece) →
    piece ≡ piece_at layout access.target (access.lo + element * size_of dtype) → size_of dtype ≡ element_size call →
    piece ≡ piece_of layout access call element
piece_is layout access call element dtype piece e s = e
    ∙ ap (λ (n : ℕ). piece_at layout access.target (access.lo + element * n)) s

-- the quotient of the bytes by the datatype's size is the number of the call's elements
pub count_by : (call : Call) (access : Access) (dtype : Dtype) (size : ℕ) → IsAccessOf call access →
    size ≡ size_of dtype → size_of dtype ≡ element_size call → access.len / size ≡ element_count call
count_by call access dtype size a e s = ap (λ (n : ℕ). access.len / n) (e ∙ s) ∙ count_is call access a

abbrev pub plan_by : ℕ → Piece → Option Change → PlannedTouch
plan_by element piece change = record { element = element; cell = piece.cell; change = change }

pub plan_is : (layout : Layout) (access : Access) (call : Call) (element : ℕ) (piece : Piece) (change : Option Change) →
    piece ≡ piece_of layout access call element → change ≡ change_by call element piece.first_byte →
    plan_by element piece change ≡ planned_touch layout access call element
plan_is layout access call element piece change p e = ap (plan_by element piece) e ∙ ap (touch_at call element) p
