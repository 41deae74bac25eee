-- What the places of a call's line say is read as it was printed.
use Rattle.std.proofs.Common.{◌≡◌, ℕ, ◌+◌, ◌<◌, ◌≤◌, Bool, true, cond, ltb, List, [], ◌∷◌, ◌++◌, length, map, Option}
use Rattle.std.proofs.Common.{Ok, Err, Result, ℤ, refl, ap, sym, ◌∙◌, subst, arith, append_assoc, length-append}
use Rattle.std.specs.List.{AllByRecursion, flat_map}
use Rattle.std.proofs.lemmas.Bool.{lt-ltb}
use Rattle.std.proofs.lemmas.List.{append-nil}
use Rattle.list_laws.proofs.Each.{each_append}
use Rattle.rma_types.specs.declared.calls.Asserts.{Asserts}
use Rattle.rma_types.specs.declared.calls.Lock.{Lock}
use Rattle.rma_types.specs.declared.dtypes.Dtype.{Dtype}
use Rattle.rma_types.specs.declared.ops.Op.{Op as Operator}
use Rattle.call_rules.specs.Numbers.{patterns_of}
use Rattle.call_rules.specs.Text.{integer}
use Rattle.call_rules.specs.WellFormed.{IsNumber}
use Rattle.script_language.specs.declared.drafts.Draft.{Draft}
use Rattle.script_language.specs.declared.faults.FaultKind.TheVariants.{Word, Datatype, Op as NoOperation, Name, Limit}
use Rattle.script_language.specs.declared.fields.Fields.{Fields}
use Rattle.script_language.specs.declared.places.Place.{Place}
use Rattle.script_language.specs.declared.places.Place.TheVariants.{Ranks, Owner, Room, Member, Members, Times, Request}
use Rattle.script_language.specs.declared.places.Place.TheVariants.{Window, Base, Size, Unit as UnitPlace, LockKind}
use Rattle.script_language.specs.declared.places.Place.TheVariants.{Peer, Group, Assertions, Target, Displacement}
use Rattle.script_language.specs.declared.places.Place.TheVariants.{ElementType, Operation, Count, Compare, Value}
use Rattle.script_language.specs.declared.places.Place.TheVariants.{Values}
use Rattle.script_language.specs.Answers.{◌>>=◌, found_or}
use Rattle.script_language.specs.Calls.{no_asserts}
use Rattle.script_language.specs.Integers.{plain_integer}
use Rattle.script_language.specs.Spelling.{spelling_of, target_text, pattern_text}
use Rattle.script_language.specs.Tokens.{token_read, pattern_read, tokens_read}
use Rattle.script_language.specs.Words.{dtype_text, op_text, lock_text, all_assertions, window_text, request_text}
use Rattle.text_laws.proofs.Lines.{IsPlain}
use Rattle.text_laws.proofs.Numbers.{integer_plain, integer_begins, short_up_to, up_to_back}
use Rattle.text_laws.proofs.Words.{lock_back, lock_plain, dtype_back, dtype_plain, op_back, op_plain, target_plain}
use Rattle.text_laws.proofs.Words.{target_back}
use Rattle.text_laws.proofs.Names.{window_back, request_back, window_plain, request_plain, pattern_back, pattern_plain}
use Rattle.text_laws.proofs.Tokens.{next_token, fill, filled, AreSaid, asserted, each_behind_group, assertions_said}
use Rattle.text_laws.proofs.Tokens.{assertions_plain}

-- ---- a group, and the assertions behind it

group_said : (draft : Draft) (acc : Fields) (group : List ℤ) (asserts : Asserts) → acc.asserts ≡ no_asserts →
    length acc.group + length group ≤ 16 → AllByRecursion IsNumber group →
    tokens_read draft acc (Group ∷ Assertions ∷ []) (map integer group ++ asserted asserts) ≡ Ok
    (record acc { group = acc.group ++ group; asserts = asserts })
group_said draft acc [] asserts none few numbers =
    each_behind_group draft acc asserts.nocheck asserts.nostore asserts.noput asserts.noprecede asserts.nosucceed
    ∙ assertions_said draft acc asserts none
    ∙ ap (λ (ranks : List ℤ). Ok (record acc { group = ranks; asserts = asserts })) (sym (append-nil acc.group))
group_said draft acc (rank ∷ group) asserts none few numbers =
    let short = short_up_to 2147483647 rank (omega arith) numbers.0 in
    let plain = integer_plain rank short in
    let told : Fields = record acc { group = acc.group ++ rank ∷ [] } in
    let room : ltb (length acc.group) 16 ≡ true = lt-ltb (length acc.group) 16 (omega arith) in
    let reads : token_read draft acc Group (integer rank) ≡ Ok told =
    ap (λ (b : Bool). cond b (plain_integer (integer rank) >>= λ (z : ℤ). Ok (acc.group ++ z ∷ [])) (Err Limit) >>= λ
    (ranks : List ℤ). Ok (record acc { group = ranks })) room
    ∙ ap (λ (r : Result ℤ _). (r >>= λ (z : ℤ). Ok (acc.group ++ z ∷ [])) >>= λ (ranks : List ℤ). Ok
    (record acc { group = ranks })) (up_to_back 2147483647 rank (omega arith) numbers.0) in
    let many : length (acc.group ++ rank ∷ []) + length group ≤ 16 = rw (length-append acc.group (rank ∷ []))
    (omega arith) in
    next_token draft acc told Group (Assertions ∷ []) (integer rank) (map integer group ++ asserted asserts) plain
    (rw (integer_begins rank short) refl) reads
    ∙ group_said draft told group asserts none many numbers.1
    ∙ ap (λ (ranks : List ℤ). Ok (record acc { group = ranks; asserts = asserts }))
    (append_assoc acc.group (rank ∷ []) group)

group_plain : (group : List ℤ) → AllByRecursion IsNumber group → AllByRecursion IsPlain (map integer group)
group_plain [] numbers = tt
group_plain (rank ∷ group) numbers =
    (integer_plain rank (short_up_to 2147483647 rank (omega arith) numbers.0), group_plain group numbers.1)

-- ---- values

values_said : (draft : Draft) (acc : Fields) (dtype : Dtype) (values : List ℕ) → acc.dtype ≡ dtype →
    length acc.values + length values ≤ 256 → AllByRecursion (λ pattern. pattern < patterns_of dtype) values →
    tokens_read draft acc (Values ∷ []) (map (pattern_text dtype) values) ≡ Ok
    (record acc { values = acc.values ++ values })
values_said draft acc dtype [] is few patterns = ap (λ (vs : List ℕ). Ok (record acc { values = vs }))
    (sym (append-nil acc.values))
values_said draft acc dtype (value ∷ values) is few patterns =
    let plain = pattern_plain dtype value patterns.0 in
    let told : Fields = record acc { values = acc.values ++ value ∷ [] } in
    let room : ltb (length acc.values) 256 ≡ true = lt-ltb (length acc.values) 256 (omega arith) in
    let reads : token_read draft acc Values (pattern_text dtype value) ≡ Ok told =
    ap (λ (b : Bool). cond b (pattern_read acc (pattern_text dtype value) >>= λ (v : ℕ). Ok (acc.values ++ v ∷ []))
    (Err Limit) >>= λ (vs : List ℕ). Ok (record acc { values = vs })) room
    ∙ ap (λ (r : Result ℕ _). (r >>= λ (v : ℕ). Ok (acc.values ++ v ∷ [])) >>= λ (vs : List ℕ). Ok
    (record acc { values = vs })) (pattern_back acc dtype value is patterns.0) in
    let many : length (acc.values ++ value ∷ []) + length values ≤ 256 = rw (length-append acc.values (value ∷ []))
    (omega arith) in
    next_token draft acc told Values [] (pattern_text dtype value) (map (pattern_text dtype) values) plain refl reads
    ∙ values_said draft told dtype values is many patterns.1
    ∙ ap (λ (vs : List ℕ). Ok (record acc { values = vs })) (append_assoc acc.values (value ∷ []) values)

values_plain : (dtype : Dtype) (values : List ℕ) → AllByRecursion (λ pattern. pattern < patterns_of dtype) values →
    AllByRecursion IsPlain (map (pattern_text dtype) values)
values_plain dtype [] patterns = tt
values_plain dtype (value ∷ values) patterns =
    (pattern_plain dtype value patterns.0, values_plain dtype values patterns.1)

-- ---- all places of a line

pub places_said : (draft : Draft) (acc fields : Fields) (places : List Place) → AreSaid acc fields places →
    tokens_read draft acc places (flat_map (spelling_of fields) places) ≡ Ok (filled acc fields places)
places_said draft acc fields [] said = refl
places_said draft acc fields (Ranks ∷ places) said = absurd said.0
places_said draft acc fields (Owner ∷ places) said = absurd said.0
places_said draft acc fields (Room ∷ places) said = absurd said.0
places_said draft acc fields (Member ∷ places) said = absurd said.0
places_said draft acc fields (Members ∷ places) said = absurd said.0
places_said draft acc fields (Times ∷ places) said = absurd said.0
places_said draft acc fields (Request ∷ places) said =
    next_token draft acc (fill acc fields Request) Request places (request_text fields.req)
    (flat_map (spelling_of fields) places) (request_plain fields.req said.0) refl
    (ap (λ (o : Option ℕ). found_or Name o >>= λ (v : ℕ). Ok (record acc { req = v }))
    (request_back fields.req said.0))
    ∙ places_said draft (fill acc fields Request) fields places said.1
places_said draft acc fields (Window ∷ places) said =
    next_token draft acc (fill acc fields Window) Window places (window_text fields.win)
    (flat_map (spelling_of fields) places) (window_plain fields.win said.0) refl
    (ap (λ (o : Option ℕ). found_or Name o >>= λ (v : ℕ). Ok (record acc { win = v }))
    (window_back fields.win said.0))
    ∙ places_said draft (fill acc fields Window) fields places said.1
places_said draft acc fields (Base ∷ places) said =
    next_token draft acc (fill acc fields Base) Base places (integer fields.base) (flat_map (spelling_of fields) places)
    (integer_plain fields.base (short_up_to 2147483647 fields.base (omega arith) said.0)) refl
    (ap (λ (r : Result ℤ _). r >>= λ (v : ℤ). Ok (record acc { base = v }))
    (up_to_back 2147483647 fields.base (omega arith) said.0))
    ∙ places_said draft (fill acc fields Base) fields places said.1
places_said draft acc fields (Size ∷ places) said =
    next_token draft acc (fill acc fields Size) Size places (integer fields.bytes)
    (flat_map (spelling_of fields) places)
    (integer_plain fields.bytes (short_up_to 65536 fields.bytes (omega arith) said.0)) refl
    (ap (λ (r : Result ℤ _). r >>= λ (v : ℤ). Ok (record acc { bytes = v }))
    (up_to_back 65536 fields.bytes (omega arith) said.0))
    ∙ places_said draft (fill acc fields Size) fields places said.1
places_said draft acc fields (UnitPlace ∷ places) said =
    next_token draft acc (fill acc fields UnitPlace) UnitPlace places (integer fields.unit)
    (flat_map (spelling_of fields) places) (integer_plain fields.unit (short_up_to 64 fields.unit (omega arith) said.0))
    refl (ap (λ (r : Result ℤ _). r >>= λ (v : ℤ). Ok (record acc { unit = v }))
    (up_to_back 64 fields.unit (omega arith) said.0))
    ∙ places_said draft (fill acc fields UnitPlace) fields places said.1
places_said draft acc fields (LockKind ∷ places) said =
    next_token draft acc (fill acc fields LockKind) LockKind places (lock_text fields.lock)
    (flat_map (spelling_of fields) places) (lock_plain fields.lock) refl
    (ap (λ (o : Option Lock). found_or Word o >>= λ (v : Lock). Ok (record acc { lock = v }))
    (lock_back fields.lock))
    ∙ places_said draft (fill acc fields LockKind) fields places said.1
places_said draft acc fields (Peer ∷ places) said =
    next_token draft acc (fill acc fields Peer) Peer places (integer fields.peer) (flat_map (spelling_of fields) places)
    (integer_plain fields.peer (short_up_to 2147483647 fields.peer (omega arith) said.0)) refl
    (ap (λ (r : Result ℤ _). r >>= λ (v : ℤ). Ok (record acc { peer = v }))
    (up_to_back 2147483647 fields.peer (omega arith) said.0))
    ∙ places_said draft (fill acc fields Peer) fields places said.1
places_said draft acc fields (Group ∷ places) said =
    let few : length acc.group + length fields.group ≤ 16 = rw said.0.1 (omega (arith, said.0.3.0)) in
    let P : List Place → Type 0 = λ ps. tokens_read draft acc (Group ∷ ps)
    (map integer fields.group ++ flat_map (spelling_of fields) ps) ≡ Ok (filled (fill acc fields Group) fields ps) in
    subst P (sym said.0.0)
    (ap (λ (last : List (List ℕ)). tokens_read draft acc (Group ∷ Assertions ∷ []) (map integer fields.group ++ last))
    (append-nil (asserted fields.asserts))
    ∙ group_said draft acc fields.group fields.asserts said.0.2 few said.0.3.1
    ∙ ap (λ (before : List ℤ). Ok (record acc { group = before ++ fields.group; asserts = fields.asserts })) said.0.1)
places_said draft acc fields (Assertions ∷ places) said =
    let P : List Place → Type 0 = λ ps. tokens_read draft acc (Assertions ∷ ps)
    (asserted fields.asserts ++ flat_map (spelling_of fields) ps) ≡ Ok (filled (fill acc fields Assertions) fields ps)
    in
    subst P (sym said.0.0)
    (ap (λ (tokens : List (List ℕ)). tokens_read draft acc (Assertions ∷ []) tokens)
    (append-nil (asserted fields.asserts))
    ∙ assertions_said draft acc fields.asserts said.0.1)
places_said draft acc fields (Target ∷ places) said =
    next_token draft acc (fill acc fields Target) Target places (target_text fields.target)
    (flat_map (spelling_of fields) places) (target_plain fields.target said.0) refl
    (ap (λ (r : Result (Option ℤ) _). r >>= λ (v : Option ℤ). Ok (record acc { target = v }))
    (target_back fields.target said.0))
    ∙ places_said draft (fill acc fields Target) fields places said.1
places_said draft acc fields (Displacement ∷ places) said =
    next_token draft acc (fill acc fields Displacement) Displacement places (integer fields.disp)
    (flat_map (spelling_of fields) places)
    (integer_plain fields.disp (short_up_to 2147483647 fields.disp (omega arith) said.0)) refl
    (ap (λ (r : Result ℤ _). r >>= λ (v : ℤ). Ok (record acc { disp = v }))
    (up_to_back 2147483647 fields.disp (omega arith) said.0))
    ∙ places_said draft (fill acc fields Displacement) fields places said.1
places_said draft acc fields (ElementType ∷ places) said =
    next_token draft acc (fill acc fields ElementType) ElementType places (dtype_text fields.dtype)
    (flat_map (spelling_of fields) places) (dtype_plain fields.dtype) refl
    (ap (λ (o : Option Dtype). found_or Datatype o >>= λ (v : Dtype). Ok (record acc { dtype = v }))
    (dtype_back fields.dtype))
    ∙ places_said draft (fill acc fields ElementType) fields places said.1
places_said draft acc fields (Operation ∷ places) said =
    next_token draft acc (fill acc fields Operation) Operation places (op_text fields.op)
    (flat_map (spelling_of fields) places) (op_plain fields.op) refl
    (ap (λ (o : Option Operator). found_or NoOperation o >>= λ (v : Operator). Ok (record acc { op = v }))
    (op_back fields.op))
    ∙ places_said draft (fill acc fields Operation) fields places said.1
places_said draft acc fields (Count ∷ places) said =
    next_token draft acc (fill acc fields Count) Count places (integer fields.count)
    (flat_map (spelling_of fields) places)
    (integer_plain fields.count (short_up_to 256 fields.count (omega arith) said.0)) refl
    (ap (λ (r : Result ℤ _). r >>= λ (v : ℤ). Ok (record acc { count = v }))
    (up_to_back 256 fields.count (omega arith) said.0))
    ∙ places_said draft (fill acc fields Count) fields places said.1
places_said draft acc fields (Compare ∷ places) said =
    next_token draft acc (fill acc fields Compare) Compare places (pattern_text fields.dtype fields.compare)
    (flat_map (spelling_of fields) places) (pattern_plain fields.dtype fields.compare said.0.1) refl
    (ap (λ (r : Result ℕ _). r >>= λ (v : ℕ). Ok (record acc { compare = v }))
    (pattern_back acc fields.dtype fields.compare said.0.0 said.0.1))
    ∙ places_said draft (fill acc fields Compare) fields places said.1
places_said draft acc fields (Value ∷ places) said =
    next_token draft acc (fill acc fields Value) Value places (pattern_text fields.dtype fields.value)
    (flat_map (spelling_of fields) places) (pattern_plain fields.dtype fields.value said.0.1) refl
    (ap (λ (r : Result ℕ _). r >>= λ (v : ℕ). Ok (record acc { value = v }))
    (pattern_back acc fields.dtype fields.value said.0.0 said.0.1))
    ∙ places_said draft (fill acc fields Value) fields places said.1
places_said draft acc fields (Values ∷ places) said =
    let few : length acc.values + length fields.values ≤ 256 = rw said.0.2 (omega (arith, said.0.3)) in
    let P : List Place → Type 0 = λ ps. tokens_read draft acc (Values ∷ ps)
    (map (pattern_text fields.dtype) fields.values ++ flat_map (spelling_of fields) ps) ≡ Ok
    (filled (fill acc fields Values) fields ps) in
    subst P (sym said.0.0)
    (ap (λ (tokens : List (List ℕ)). tokens_read draft acc (Values ∷ []) tokens)
    (append-nil (map (pattern_text fields.dtype) fields.values))
    ∙ values_said draft acc fields.dtype fields.values said.0.1 few said.0.4
    ∙ ap (λ (before : List ℕ). Ok (record acc { values = before ++ fields.values })) said.0.2)

pub places_plain : (acc fields : Fields) (places : List Place) → AreSaid acc fields places →
    AllByRecursion IsPlain (flat_map (spelling_of fields) places)
places_plain acc fields [] said = tt
places_plain acc fields (Ranks ∷ places) said = absurd said.0
places_plain acc fields (Owner ∷ places) said = absurd said.0
places_plain acc fields (Room ∷ places) said = absurd said.0
places_plain acc fields (Member ∷ places) said = absurd said.0
places_plain acc fields (Members ∷ places) said = absurd said.0
places_plain acc fields (Times ∷ places) said = absurd said.0
places_plain acc fields (Request ∷ places) said =
    (request_plain fields.req said.0, places_plain (fill acc fields Request) fields places said.1)
places_plain acc fields (Window ∷ places) said =
    (window_plain fields.win said.0, places_plain (fill acc fields Window) fields places said.1)
places_plain acc fields (Base ∷ places) said = (
  integer_plain fields.base (short_up_to 2147483647 fields.base (omega arith) said.0),
  places_plain
      (fill acc fields Base) fields places said.1,
)
places_plain acc fields (Size ∷ places) said = (
  integer_plain fields.bytes (short_up_to 65536 fields.bytes (omega arith) said.0),
  places_plain
      (fill acc fields Size) fields places said.1,
)
places_plain acc fields (UnitPlace ∷ places) said = (
  integer_plain fields.unit (short_up_to 64 fields.unit (omega arith) said.0),
  places_plain
      (fill acc fields UnitPlace) fields places said.1,
)
places_plain acc fields (LockKind ∷ places) said =
    (lock_plain fields.lock, places_plain (fill acc fields LockKind) fields places said.1)
places_plain acc fields (Peer ∷ places) said = (
  integer_plain fields.peer (short_up_to 2147483647 fields.peer (omega arith) said.0),
  places_plain
      (fill acc fields Peer) fields places said.1,
)
places_plain acc fields (Group ∷ places) said = each_append IsPlain (map integer fields.group)
    (flat_map (spelling_of fields) places) (group_plain fields.group said.0.3.1)
    (places_plain (fill acc fields Group) fields places said.1)
places_plain acc fields (Assertions ∷ places) said = each_append IsPlain (asserted fields.asserts)
    (flat_map (spelling_of fields) places) (assertions_plain fields.asserts all_assertions)
    (places_plain (fill acc fields Assertions) fields places said.1)
places_plain acc fields (Target ∷ places) said =
    (target_plain fields.target said.0, places_plain (fill acc fields Target) fields places said.1)
places_plain acc fields (Displacement ∷ places) said = (
  integer_plain fields.disp (short_up_to 2147483647 fields.disp (omega arith) said.0),
  places_plain
      (fill acc fields Displacement) fields places said.1,
)
places_plain acc fields (ElementType ∷ places) said =
    (dtype_plain fields.dtype, places_plain (fill acc fields ElementType) fields places said.1)
places_plain acc fields (Operation ∷ places) said =
    (op_plain fields.op, places_plain (fill acc fields Operation) fields places said.1)
places_plain acc fields (Count ∷ places) said = (
  integer_plain fields.count (short_up_to 256 fields.count (omega arith) said.0),
  places_plain
      (fill acc fields Count) fields places said.1,
)
places_plain acc fields (Compare ∷ places) said = (
  pattern_plain fields.dtype fields.compare said.0.1,
  places_plain
      (fill acc fields Compare) fields places said.1,
)
places_plain acc fields (Value ∷ places) said = (
  pattern_plain fields.dtype fields.value said.0.1,
  places_plain
      (fill acc fields Value) fields places said.1,
)
places_plain acc fields (Values ∷ places) said = each_append IsPlain (map (pattern_text fields.dtype) fields.values)
    (flat_map (spelling_of fields) places) (values_plain fields.dtype fields.values said.0.4)
    (places_plain (fill acc fields Values) fields places said.1)
