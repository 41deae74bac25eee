-- What the parts of a token are worth: numbers, names, elements and ranks within their ranges.
use Rattle.std.proofs.Common.{◌≡◌, ℕ, zero, suc, ◌+◌, ◌-◌, ◌<◌, ◌≤◌, Bool, true, false, ◌&&◌, cond, ltb, List, [], ◌∷◌}
use Rattle.std.proofs.Common.{◌++◌, length, Option, Some, None, Ok, Err, Result, ℤ, pos, negsuc, refl, ap, subst, arith}
use Rattle.std.proofs.Common.{length-append}
use Rattle.std.specs.Prelude.{IfSome, int_le, find, codes}
use Rattle.std.specs.List.{AllByRecursion, range_with_len}
use Rattle.std.specs.Str.{bytes_eq}
use Rattle.std.proofs.lemmas.Bool.{leb-true, ltb-true}
use Rattle.list_laws.proofs.Each.{each_append}
use Rattle.list_laws.proofs.Truths.{both_true}
use Rattle.rma_types.specs.declared.dtypes.Dtype.{Dtype}
use Rattle.call_rules.specs.Numbers.{patterns_of, pattern_of}
use Rattle.call_rules.specs.Ranks.{natural, is_member}
use Rattle.call_rules.specs.WellFormed.{IsNumber, IsUpTo, IsWindowName, IsRequestName, IsWrittenGroup}
use Rattle.call_rules.proofs.PatternLaws.{some_pattern}
use Rattle.script_language.specs.declared.drafts.Draft.{Draft}
use Rattle.script_language.specs.declared.faults.FaultKind.{FaultKind}
use Rattle.script_language.specs.declared.faults.FaultKind.TheVariants.{Shape, Limit}
use Rattle.script_language.specs.declared.fields.Fields.{Fields}
use Rattle.script_language.specs.declared.places.Place.{Place}
use Rattle.script_language.specs.declared.places.Place.TheVariants.{Ranks, Owner, Room, Member, Members, Times, Request}
use Rattle.script_language.specs.declared.places.Place.TheVariants.{Window, Base, Size, Unit as UnitPlace, LockKind}
use Rattle.script_language.specs.declared.places.Place.TheVariants.{Peer, Group, Assertions, Target, Displacement}
use Rattle.script_language.specs.declared.places.Place.TheVariants.{ElementType, Operation, Count, Compare, Value}
use Rattle.script_language.specs.declared.places.Place.TheVariants.{Values}
use Rattle.script_language.specs.Answers.{◌>>=◌, found_or}
use Rattle.script_language.specs.Integers.{integer_of, integer_within, integer_up_to, plain_integer, lowest, least_of}
use Rattle.script_language.specs.Integers.{greatest_of}
use Rattle.script_language.specs.Tokens.{natural_within, rank_read, members_read, group_read, pattern_read, values_read}
use Rattle.script_language.specs.Tokens.{target_read}
use Rattle.script_language.specs.Words.{window_text, request_text, window_named, request_named}
use Rattle.script_reader.specs.Sound.{AreSoundElements}
use Rattle.script_reader.proofs.Charging.{ok_from_if}

-- ---- what a step gives

pub bind_ok : {A B E : Type 0} (m : Result A E) (f : A → Result B E) (y : B) → (m >>= f) ≡ Ok y → (x : A) × (m ≡ Ok x)
    × (f x ≡ Ok y)
bind_ok (Ok x) f y h = (x, refl, h)
bind_ok (Err e) f y h = absurd cc

pub ok_same : {A E : Type 0} {x y : A} → ◌≡◌ {A = Result A E} (Ok x) (Ok y) → x ≡ y
ok_same h = cc

pub chosen_ok : {A E : Type 0} (b : Bool) (m : Result A E) (e : E) (y : A) → cond b m (Err e) ≡ Ok y → (b ≡ true)
    × (m ≡ Ok y)
chosen_ok true m e y h = (refl, h)
chosen_ok false m e y h = absurd cc

pub refused_ok : {A E : Type 0} (b : Bool) (m : Result A E) (e : E) (y : A) → cond b (Err e) m ≡ Ok y → (b ≡ false)
    × (m ≡ Ok y)
refused_ok true m e y h = absurd cc
refused_ok false m e y h = (refl, h)

pub found_is : {A : Type 0} (kind : FaultKind) (o : Option A) (x : A) → found_or kind o ≡ Ok x → o ≡ Some x
found_is kind None x h = absurd cc
found_is kind (Some y) x h = ap (λ v. Some v) (ok_same h)

-- ---- numbers

within_bounds : (low high : ℤ) (token : List ℕ) (z : ℤ) → integer_within low high token ≡ Ok z → (int_le low z ≡ true)
    × (int_le z high ≡ true)
within_bounds low high token z h =
    let b = bind_ok (integer_of token) (λ (v : ℤ). cond (int_le low v && int_le v high) (Ok v) (Err Limit)) z h in
    let g = ok_from_if (int_le low b.0 && int_le b.0 high) b.0 z Limit b.2 in
    let t = both_true (int_le low b.0) (int_le b.0 high) g.0 in
    (rw (← g.1) t.0, rw (← g.1) t.1)

is_up_to : (high : ℕ) (z : ℤ) → int_le lowest z ≡ true → int_le z (pos high) ≡ true → IsUpTo high z
is_up_to high (pos n) low most = leb-true n high most
is_up_to high (negsuc n) low most = let least = leb-true n 2147483647 low in omega arith

pub up_to : (high : ℕ) (token : List ℕ) (z : ℤ) → integer_up_to high token ≡ Ok z → IsUpTo high z
up_to high token z h = let b = within_bounds lowest (pos high) token z h in is_up_to high z b.0 b.1

natural_most_of : (most : ℕ) (z : ℤ) → int_le z (pos most) ≡ true → natural z ≤ most
natural_most_of most (pos n) h = leb-true n most h
natural_most_of most (negsuc n) h = omega arith

pub natural_most : (least most : ℕ) (token : List ℕ) (n : ℕ) → natural_within least most token ≡ Ok n → n ≤ most
natural_most least most token n h =
    let b = bind_ok (integer_within (pos least) (pos most) token) (λ (z : ℤ). Ok (natural z)) n h in
    let w = within_bounds (pos least) (pos most) token b.0 b.1 in
    let same : natural b.0 ≡ n = ok_same b.2 in
    rw (← same) (natural_most_of most b.0 w.1)

-- ---- names

named_below : (spelling : ℕ → List ℕ) (token : List ℕ) (from many n : ℕ) → find (λ x. bytes_eq (spelling x) token)
    (range_with_len from many) ≡ Some n → n < from + many
named_below spelling token from zero n h = absurd cc
named_below spelling token from (suc many) n h =
    elim (bytes_eq (spelling from) token) as
    (λ b. cond b (Some from) (find (λ x. bytes_eq (spelling x) token) (range_with_len (from + 1) many)) ≡ Some n →
    n < from + suc many) [
      | true ↦ λ e. let same : from ≡ n = cc in omega arith
      | false ↦ λ e. let below = named_below spelling token (from + 1) many n e in omega arith
    ] h

pub window_below : (token : List ℕ) (n : ℕ) → window_named token ≡ Some n → IsWindowName n
window_below token n h = named_below window_text token 0 32 n h

pub request_below : (token : List ℕ) (n : ℕ) → request_named token ≡ Some n → IsRequestName n
request_below token n h = named_below request_text token 0 64 n h

-- ---- elements

pattern_fits : (dtype : Dtype) (z : ℤ) → pattern_of dtype z < patterns_of dtype
pattern_fits dtype (pos n) = let some = some_pattern dtype in omega arith
pattern_fits dtype (negsuc n) = let some = some_pattern dtype in omega arith

pub pattern_below : (fields : Fields) (token : List ℕ) (n : ℕ) → pattern_read fields token ≡ Ok n →
    n < patterns_of fields.dtype
pattern_below fields token n h =
    let b = bind_ok (integer_within (least_of fields.dtype) (greatest_of fields.dtype) token)
    (λ (z : ℤ). Ok (pattern_of fields.dtype z)) n h in
    let same : pattern_of fields.dtype b.0 ≡ n = ok_same b.2 in
    rw (← same) (pattern_fits fields.dtype b.0)

pub more_values : (fields : Fields) (patterns : List ℕ) (token : List ℕ) →
    AreSoundElements fields.dtype fields.values fields.compare fields.value → values_read fields token ≡ Ok patterns →
    AreSoundElements fields.dtype patterns fields.compare fields.value
more_values fields patterns token s h =
    let c = chosen_ok (ltb (length fields.values) 256)
    (pattern_read fields token >>= λ (pattern : ℕ). Ok (fields.values ++ pattern ∷ [])) Limit patterns h in
    let b = bind_ok (pattern_read fields token) (λ (pattern : ℕ). Ok (fields.values ++ pattern ∷ [])) patterns c.1 in
    let few = ltb-true (length fields.values) 256 c.0 in
    let sound : AreSoundElements fields.dtype (fields.values ++ b.0 ∷ []) fields.compare fields.value = record {
      amount = rw (length-append fields.values (b.0 ∷ [])) (omega arith);
      patterns = each_append (λ pattern. pattern < patterns_of fields.dtype) fields.values (b.0 ∷ []) s.patterns
          (pattern_below fields token b.0 b.1, tt);
      compared = s.compared;
      stored = s.stored;
    } in
    subst (λ (values : List ℕ). AreSoundElements fields.dtype values fields.compare fields.value) (ok_same b.2) sound

-- ---- ranks

-- above every rank of a script that has one
abbrev pub bound : Draft → ℕ
bound draft = draft.ranks - 1 + 1

pub members_below : (draft : Draft) (members ranks : List ℕ) (token : List ℕ) →
    AllByRecursion (λ rank. rank < bound draft) members → members_read draft members token ≡ Ok ranks →
    AllByRecursion (λ rank. rank < bound draft) ranks
members_below draft members ranks token s h =
    let b = bind_ok (rank_read draft token)
    (λ (rank : ℕ). cond (is_member rank members) (Err Shape) (Ok (members ++ rank ∷ []))) ranks h in
    let c = refused_ok (is_member b.0 members) (Ok (members ++ b.0 ∷ [])) Shape ranks b.2 in
    let most = natural_most 0 (draft.ranks - 1) token b.0 b.1 in
    subst (AllByRecursion (λ rank. rank < bound draft)) (ok_same c.1)
    (each_append (λ rank. rank < bound draft) members (b.0 ∷ []) s (omega arith, tt))

pub group_written : (group ranks : List ℤ) (token : List ℕ) → IsWrittenGroup group → group_read group token ≡ Ok ranks →
    IsWrittenGroup ranks
group_written group ranks token s h =
    let c = chosen_ok (ltb (length group) 16) (plain_integer token >>= λ (rank : ℤ). Ok (group ++ rank ∷ [])) Limit
    ranks h in
    let b = bind_ok (plain_integer token) (λ (rank : ℤ). Ok (group ++ rank ∷ [])) ranks c.1 in
    let few = ltb-true (length group) 16 c.0 in
    let sound : IsWrittenGroup (group ++ b.0 ∷ []) = (
      rw (length-append group (b.0 ∷ [])) (omega (arith, s.0)),
      each_append IsNumber group (b.0 ∷ []) s.1
          (up_to 2147483647 token b.0 b.1, tt),
    ) in
    subst IsWrittenGroup (ok_same b.2) sound

pub target_number : (token : List ℕ) (target : Option ℤ) → target_read token ≡ Ok target → IfSome target IsNumber
target_number token None h = tt
target_number token (Some rank) h =
    elim (bytes_eq (codes "null") token) as (λ b. cond b (Ok None) (plain_integer token >>= λ (r : ℤ). Ok (Some r)) ≡ Ok
    (Some rank) → IsNumber rank) [
      | true ↦ λ e. absurd (let same : None ≡ Some rank = ok_same e in cc)
      | false ↦ λ e.
          let b = bind_ok (plain_integer token) (λ (r : ℤ). Ok (Some r)) (Some rank) e in
          let same : b.0 ≡ rank = (let some : Some b.0 ≡ Some rank = ok_same b.2 in cc) in
          rw (← same) (up_to 2147483647 token b.0 b.1)
    ] h

-- ---- one token

-- the place says the datatype, and a place that needs it
abbrev pub is_type : Place → Bool
is_type Ranks = false
is_type Owner = false
is_type Room = false
is_type Member = false
is_type Members = false
is_type Times = false
is_type Request = false
is_type Window = false
is_type Base = false
is_type Size = false
is_type UnitPlace = false
is_type LockKind = false
is_type Peer = false
is_type Group = false
is_type Assertions = false
is_type Target = false
is_type Displacement = false
is_type ElementType = true
is_type Operation = false
is_type Count = false
is_type Compare = false
is_type Value = false
is_type Values = false

abbrev pub needs_type : Place → Bool
needs_type Ranks = false
needs_type Owner = false
needs_type Room = false
needs_type Member = false
needs_type Members = false
needs_type Times = false
needs_type Request = false
needs_type Window = false
needs_type Base = false
needs_type Size = false
needs_type UnitPlace = false
needs_type LockKind = false
needs_type Peer = false
needs_type Group = false
needs_type Assertions = false
needs_type Target = false
needs_type Displacement = false
needs_type ElementType = false
needs_type Operation = false
needs_type Count = false
needs_type Compare = true
needs_type Value = true
needs_type Values = true

-- no element is read yet
