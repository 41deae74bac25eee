-- One token of a canonical line, what a place says, and the assertions of a call.
use Rattle.std.proofs.Common.{◌≡◌, ℕ, ◌<◌, ◌≤◌, Bool, true, false, ◌&&◌, not, cond, leb, List, [], ◌∷◌, length, map, Ok}
use Rattle.std.proofs.Common.{Err, Result, refl, ap, ◌∙◌, arith}
use Rattle.std.specs.Prelude.{filter, IfSome}
use Rattle.std.specs.List.{AllByRecursion, list_all}
use Rattle.std.proofs.lemmas.Bool.{leb-true, le-leb}
use Rattle.list_laws.proofs.Truths.{both_true}
use Rattle.rma_types.specs.declared.calls.Asserts.{Asserts}
use Rattle.call_rules.specs.Numbers.{patterns_of}
use Rattle.call_rules.specs.WellFormed.{IsNumber, IsUpTo, IsWindowName, IsRequestName, IsWrittenGroup}
use Rattle.script_language.specs.declared.drafts.Draft.{Draft}
use Rattle.script_language.specs.declared.faults.FaultKind.{FaultKind}
use Rattle.script_language.specs.declared.faults.FaultKind.TheVariants.{Word}
use Rattle.script_language.specs.declared.fields.Fields.{Fields}
use Rattle.script_language.specs.declared.places.Assertion.{Assertion}
use Rattle.script_language.specs.declared.places.Place.{Place}
use Rattle.script_language.specs.declared.places.Place.TheVariants.{Ranks, Owner, Room, Member, Members, Times, Request}
use Rattle.script_language.specs.declared.places.Place.TheVariants.{Window, Base, Size, Unit as UnitPlace, LockKind}
use Rattle.script_language.specs.declared.places.Place.TheVariants.{Peer, Group, Assertions, Target, Displacement}
use Rattle.script_language.specs.declared.places.Place.TheVariants.{ElementType, Operation, Count, Compare, Value}
use Rattle.script_language.specs.declared.places.Place.TheVariants.{Values}
use Rattle.script_language.specs.Answers.{◌>>=◌}
use Rattle.script_language.specs.Calls.{no_asserts}
use Rattle.script_language.specs.Forms.{is_group}
use Rattle.script_language.specs.Lines.{is_printable}
use Rattle.script_language.specs.Spelling.{is_given}
use Rattle.script_language.specs.Tokens.{token_read, begins_number, places_from, places_behind, Told, read_at}
use Rattle.script_language.specs.Tokens.{tokens_read}
use Rattle.script_language.specs.Words.{assertion_text, all_assertions}
use Rattle.text_laws.proofs.Lines.{IsPlain, is_plain_byte}
use Rattle.text_laws.proofs.Words.{assertion_plain}

-- ---- one token

-- a plain byte is a printable character
printable_bytes : (token : List ℕ) → list_all is_plain_byte token ≡ true → is_printable token ≡ true
printable_bytes [] plain = refl
printable_bytes (b ∷ bs) plain =
    let t = both_true (is_plain_byte b) (list_all is_plain_byte bs) plain in
    let r = both_true (leb 45 b) (leb b 122) t.0 in
    let low = leb-true 45 b r.0 in
    let high = leb-true b 122 r.1 in
    rw (le-leb 33 b (omega arith), le-leb b 126 (omega arith)) (printable_bytes bs t.1)

-- a token that is read at the first place
pub next_token : (draft : Draft) (acc told : Fields) (place : Place) (places : List Place) (token : List ℕ)
    (tokens : List (List ℕ)) → IsPlain token → (is_group place && not (begins_number token)) ≡ false →
    token_read draft acc place token ≡ Ok told → tokens_read draft acc (place ∷ places) (token ∷ tokens) ≡ tokens_read
    draft told (places_behind place places) tokens
next_token draft acc told place places token tokens plain here reads =
    let then : Result Told FaultKind → Result Fields FaultKind = λ r. r >>= λ (next : Told). tokens_read draft
    next.fields next.places tokens in
    ap (λ (b : Bool). then (cond b (read_at draft acc (places_from (place ∷ places) token) token) (Err Word)))
    (printable_bytes token plain.bytes)
    ∙ ap (λ (b : Bool). then (read_at draft acc (cond b places (place ∷ places)) token)) here
    ∙ ap (λ (r : Result Fields FaultKind). then
    (r >>= λ (f : Fields). Ok (record { fields = f; places = places_behind place places }))) reads

-- ---- what a place says

-- what is said so far, with what the line says at one more place
abbrev pub fill : Fields → Fields → Place → Fields
fill acc fields Ranks = record acc { ranks = fields.ranks }
fill acc fields Owner = record acc { owner = fields.owner }
fill acc fields Room = record acc { room = fields.room }
fill acc fields Member = record acc { members = fields.members }
fill acc fields Members = record acc { members = fields.members }
fill acc fields Times = record acc { times = fields.times }
fill acc fields Request = record acc { req = fields.req }
fill acc fields Window = record acc { win = fields.win }
fill acc fields Base = record acc { base = fields.base }
fill acc fields Size = record acc { bytes = fields.bytes }
fill acc fields UnitPlace = record acc { unit = fields.unit }
fill acc fields LockKind = record acc { lock = fields.lock }
fill acc fields Peer = record acc { peer = fields.peer }
fill acc fields Group = record acc { group = fields.group }
fill acc fields Assertions = record acc { asserts = fields.asserts }
fill acc fields Target = record acc { target = fields.target }
fill acc fields Displacement = record acc { disp = fields.disp }
fill acc fields ElementType = record acc { dtype = fields.dtype }
fill acc fields Operation = record acc { op = fields.op }
fill acc fields Count = record acc { count = fields.count }
fill acc fields Compare = record acc { compare = fields.compare }
fill acc fields Value = record acc { value = fields.value }
fill acc fields Values = record acc { values = fields.values }

abbrev pub filled : Fields → Fields → List Place → Fields
filled acc fields [] = acc
filled acc fields (place ∷ places) = filled (fill acc fields place) fields places

-- what the line of a call says at a place can be read, behind what is said so far and before the places that are left
abbrev pub IsSaid : Fields → Fields → Place → List Place → Type 0
IsSaid acc fields Ranks places = ⊥
IsSaid acc fields Owner places = ⊥
IsSaid acc fields Room places = ⊥
IsSaid acc fields Member places = ⊥
IsSaid acc fields Members places = ⊥
IsSaid acc fields Times places = ⊥
IsSaid acc fields Request places = IsRequestName fields.req
IsSaid acc fields Window places = IsWindowName fields.win
IsSaid acc fields Base places = IsNumber fields.base
IsSaid acc fields Size places = IsUpTo 65536 fields.bytes
IsSaid acc fields UnitPlace places = IsUpTo 64 fields.unit
IsSaid acc fields LockKind places = Unit {0}
IsSaid acc fields Peer places = IsNumber fields.peer
IsSaid acc fields Group places = (places ≡ Assertions ∷ []) × (acc.group ≡ []) × (acc.asserts ≡ no_asserts)
    × IsWrittenGroup fields.group
IsSaid acc fields Assertions places = (places ≡ []) × (acc.asserts ≡ no_asserts)
IsSaid acc fields Target places = IfSome fields.target IsNumber
IsSaid acc fields Displacement places = IsNumber fields.disp
IsSaid acc fields ElementType places = Unit {0}
IsSaid acc fields Operation places = Unit {0}
IsSaid acc fields Count places = IsUpTo 256 fields.count
IsSaid acc fields Compare places = (acc.dtype ≡ fields.dtype) × (fields.compare < patterns_of fields.dtype)
IsSaid acc fields Value places = (acc.dtype ≡ fields.dtype) × (fields.value < patterns_of fields.dtype)
IsSaid acc fields Values places = (places ≡ []) × (acc.dtype ≡ fields.dtype) × (acc.values ≡ [])
    × (length fields.values ≤ 256) × AllByRecursion (λ pattern. pattern < patterns_of fields.dtype) fields.values

abbrev pub AreSaid : Fields → Fields → List Place → Type 0
AreSaid acc fields [] = Unit {0}
AreSaid acc fields (place ∷ places) = IsSaid acc fields place places × AreSaid (fill acc fields place) fields places

-- ---- assertions

abbrev asserts_of : Bool → Bool → Bool → Bool → Bool → Asserts
asserts_of check store put precede succeed = record {
  nocheck = check;
  nostore = store;
  noput = put;
  noprecede =
      precede;
  nosucceed = succeed;
}

-- the tokens of assertions
abbrev pub asserted : Asserts → List (List ℕ)
asserted asserts = map assertion_text (filter (is_given asserts) all_assertions)

each_assertion : (draft : Draft) (acc : Fields) (check store put precede succeed : Bool) →
    tokens_read draft (record acc { asserts = no_asserts }) (Assertions ∷ [])
    (asserted (asserts_of check store put precede succeed)) ≡ Ok
    (record acc { asserts = asserts_of check store put precede succeed })
each_assertion draft acc true true true true true = refl
each_assertion draft acc true true true true false = refl
each_assertion draft acc true true true false true = refl
each_assertion draft acc true true true false false = refl
each_assertion draft acc true true false true true = refl
each_assertion draft acc true true false true false = refl
each_assertion draft acc true true false false true = refl
each_assertion draft acc true true false false false = refl
each_assertion draft acc true false true true true = refl
each_assertion draft acc true false true true false = refl
each_assertion draft acc true false true false true = refl
each_assertion draft acc true false true false false = refl
each_assertion draft acc true false false true true = refl
each_assertion draft acc true false false true false = refl
each_assertion draft acc true false false false true = refl
each_assertion draft acc true false false false false = refl
each_assertion draft acc false true true true true = refl
each_assertion draft acc false true true true false = refl
each_assertion draft acc false true true false true = refl
each_assertion draft acc false true true false false = refl
each_assertion draft acc false true false true true = refl
each_assertion draft acc false true false true false = refl
each_assertion draft acc false true false false true = refl
each_assertion draft acc false true false false false = refl
each_assertion draft acc false false true true true = refl
each_assertion draft acc false false true true false = refl
each_assertion draft acc false false true false true = refl
each_assertion draft acc false false true false false = refl
each_assertion draft acc false false false true true = refl
each_assertion draft acc false false false true false = refl
each_assertion draft acc false false false false true = refl
each_assertion draft acc false false false false false = refl

pub each_behind_group : (draft : Draft) (acc : Fields) (check store put precede succeed : Bool) →
    tokens_read draft acc (Group ∷ Assertions ∷ []) (asserted (asserts_of check store put precede succeed)) ≡
    tokens_read draft acc (Assertions ∷ []) (asserted (asserts_of check store put precede succeed))
each_behind_group draft acc true true true true true = refl
each_behind_group draft acc true true true true false = refl
each_behind_group draft acc true true true false true = refl
each_behind_group draft acc true true true false false = refl
each_behind_group draft acc true true false true true = refl
each_behind_group draft acc true true false true false = refl
each_behind_group draft acc true true false false true = refl
each_behind_group draft acc true true false false false = refl
each_behind_group draft acc true false true true true = refl
each_behind_group draft acc true false true true false = refl
each_behind_group draft acc true false true false true = refl
each_behind_group draft acc true false true false false = refl
each_behind_group draft acc true false false true true = refl
each_behind_group draft acc true false false true false = refl
each_behind_group draft acc true false false false true = refl
each_behind_group draft acc true false false false false = refl
each_behind_group draft acc false true true true true = refl
each_behind_group draft acc false true true true false = refl
each_behind_group draft acc false true true false true = refl
each_behind_group draft acc false true true false false = refl
each_behind_group draft acc false true false true true = refl
each_behind_group draft acc false true false true false = refl
each_behind_group draft acc false true false false true = refl
each_behind_group draft acc false true false false false = refl
each_behind_group draft acc false false true true true = refl
each_behind_group draft acc false false true true false = refl
each_behind_group draft acc false false true false true = refl
each_behind_group draft acc false false true false false = refl
each_behind_group draft acc false false false true true = refl
each_behind_group draft acc false false false true false = refl
each_behind_group draft acc false false false false true = refl
each_behind_group draft acc false false false false false = refl

pub assertions_said : (draft : Draft) (acc : Fields) (asserts : Asserts) → acc.asserts ≡ no_asserts →
    tokens_read draft acc (Assertions ∷ []) (asserted asserts) ≡ Ok (record acc { asserts = asserts })
assertions_said draft acc asserts none =
    ap (λ (before : Asserts). tokens_read draft (record acc { asserts = before }) (Assertions ∷ []) (asserted asserts))
    none
    ∙ each_assertion draft acc asserts.nocheck asserts.nostore asserts.noput asserts.noprecede asserts.nosucceed

pub assertions_plain : (asserts : Asserts) (some : List Assertion) →
    AllByRecursion IsPlain (map assertion_text (filter (is_given asserts) some))
assertions_plain asserts [] = tt
assertions_plain asserts (assertion ∷ some) =
    elim (is_given asserts assertion) as
    (λ b. AllByRecursion IsPlain (map assertion_text
    (cond b (assertion ∷ filter (is_given asserts) some) (filter (is_given asserts) some)))) [
      | true ↦ (assertion_plain assertion, assertions_plain asserts some)
      | false ↦ assertions_plain asserts some
    ]
