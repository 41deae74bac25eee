-- What a token that is read gives keeps the ranges of a script.
use Rattle.std.proofs.Common.{◌≡◌, ℕ, true, false, List, Option, Ok, ℤ, refl, subst}
use Rattle.rma_types.specs.declared.calls.Lock.{Lock}
use Rattle.rma_types.specs.declared.dtypes.Dtype.{Dtype}
use Rattle.rma_types.specs.declared.ops.Op.{Op as Operator}
use Rattle.script_language.specs.declared.drafts.Draft.{Draft}
use Rattle.script_language.specs.declared.faults.FaultKind.TheVariants.{Word, Datatype, Op as NoOperation, Name}
use Rattle.script_language.specs.declared.fields.Fields.{Fields}
use Rattle.script_language.specs.declared.places.Assertion.{Assertion}
use Rattle.script_language.specs.declared.places.Place.{Place}
use Rattle.script_language.specs.declared.places.Place.TheVariants.{Ranks, Owner, Room, Member, Members, Times, Request}
use Rattle.script_language.specs.declared.places.Place.TheVariants.{Window, Base, Size, Unit as UnitPlace, LockKind}
use Rattle.script_language.specs.declared.places.Place.TheVariants.{Peer, Group, Assertions, Target, Displacement}
use Rattle.script_language.specs.declared.places.Place.TheVariants.{ElementType, Operation, Count, Compare, Value}
use Rattle.script_language.specs.declared.places.Place.TheVariants.{Values}
use Rattle.script_language.specs.Answers.{found_or}
use Rattle.script_language.specs.Integers.{integer_up_to, plain_integer}
use Rattle.script_language.specs.Tokens.{natural_within, owner_read, group_read, pattern_read}
use Rattle.script_language.specs.Tokens.{values_read, target_read, with_assertion, token_read}
use Rattle.script_language.specs.Words.{dtype_named, op_named, lock_named, assertion_named, window_named, request_named}
use Rattle.script_reader.specs.Sound.{IsSoundLine}
use Rattle.script_reader.proofs.TokenParts.{bind_ok, ok_same, found_is, up_to, natural_most, window_below}
use Rattle.script_reader.proofs.TokenParts.{request_below, pattern_below, more_values, bound}
use Rattle.script_reader.proofs.TokenParts.{group_written, target_number, is_type, needs_type}
use Rattle.script_reader.proofs.TokenMembers.{IsFresh, typed_elements, members_sound}

pub token_sound : (draft : Draft) (fields told : Fields) (place : Place) (token : List ℕ) →
    (is_type place ≡ true → IsFresh fields) → IsSoundLine (bound draft) fields →
    token_read draft fields place token ≡ Ok told → IsSoundLine (bound draft) told
    × (needs_type place ≡ false → IsFresh fields → IsFresh told)
token_sound draft fields told Ranks token typed s h =
    let b = bind_ok (natural_within 1 16 token) (λ (n : ℕ). Ok (record fields { ranks = n })) told h in
    let sound : IsSoundLine (bound draft) (record fields { ranks = b.0 }) = record {
      directive = record {
        few = natural_most 1 16 token b.0 b.1;
        room = s.directive.room;
        members =
            s.directive.members;
      };
      request = s.request;
      window = s.window;
      numbers = s.numbers;
      group = s.group;
      target =
          s.target;
      elements = s.elements;
    } in
    (subst (IsSoundLine (bound draft)) (ok_same b.2) sound, λ _. λ fresh. subst IsFresh (ok_same b.2) fresh)
token_sound draft fields told Owner token typed s h =
    let b = bind_ok (owner_read draft token) (λ (rank : ℕ). Ok (record fields { owner = rank })) told h in
    let sound : IsSoundLine (bound draft) (record fields { owner = b.0 }) = record {
      directive = s.directive;
      request = s.request;
      window = s.window;
      numbers = s.numbers;
      group = s.group;
      target
          = s.target;
      elements = s.elements;
    } in
    (subst (IsSoundLine (bound draft)) (ok_same b.2) sound, λ _. λ fresh. subst IsFresh (ok_same b.2) fresh)
token_sound draft fields told Room token typed s h =
    let b = bind_ok (natural_within 0 65536 token) (λ (n : ℕ). Ok (record fields { room = n })) told h in
    let sound : IsSoundLine (bound draft) (record fields { room = b.0 }) = record {
      directive = record {
        few = s.directive.few;
        room = natural_most 0 65536 token b.0 b.1;
        members =
            s.directive.members;
      };
      request = s.request;
      window = s.window;
      numbers = s.numbers;
      group = s.group;
      target =
          s.target;
      elements = s.elements;
    } in
    (subst (IsSoundLine (bound draft)) (ok_same b.2) sound, λ _. λ fresh. subst IsFresh (ok_same b.2) fresh)
token_sound draft fields told Member token typed s h = members_sound draft fields told token s h
token_sound draft fields told Members token typed s h = members_sound draft fields told token s h
token_sound draft fields told Times token typed s h =
    let b = bind_ok (natural_within 1 65536 token) (λ (n : ℕ). Ok (record fields { times = n })) told h in
    let sound : IsSoundLine (bound draft) (record fields { times = b.0 }) = record {
      directive = s.directive;
      request = s.request;
      window = s.window;
      numbers = s.numbers;
      group = s.group;
      target
          = s.target;
      elements = s.elements;
    } in
    (subst (IsSoundLine (bound draft)) (ok_same b.2) sound, λ _. λ fresh. subst IsFresh (ok_same b.2) fresh)
token_sound draft fields told Request token typed s h =
    let b = bind_ok (found_or Name (request_named token)) (λ (name : ℕ). Ok (record fields { req = name })) told h in
    let sound : IsSoundLine (bound draft) (record fields { req = b.0 }) = record {
      directive = s.directive;
      request = request_below token b.0 (found_is Name (request_named token) b.0 b.1);
      window = s.window;
      numbers = s.numbers;
      group = s.group;
      target = s.target;
      elements = s.elements;
    } in
    (subst (IsSoundLine (bound draft)) (ok_same b.2) sound, λ _. λ fresh. subst IsFresh (ok_same b.2) fresh)
token_sound draft fields told Window token typed s h =
    let b = bind_ok (found_or Name (window_named token)) (λ (name : ℕ). Ok (record fields { win = name })) told h in
    let sound : IsSoundLine (bound draft) (record fields { win = b.0 }) = record {
      directive = s.directive;
      request = s.request;
      window = window_below token b.0
          (found_is Name (window_named token) b.0 b.1);
      numbers = s.numbers;
      group = s.group;
      target = s.target;
      elements
          = s.elements;
    } in
    (subst (IsSoundLine (bound draft)) (ok_same b.2) sound, λ _. λ fresh. subst IsFresh (ok_same b.2) fresh)
token_sound draft fields told Base token typed s h =
    let b = bind_ok (plain_integer token) (λ (z : ℤ). Ok (record fields { base = z })) told h in
    let sound : IsSoundLine (bound draft) (record fields { base = b.0 }) = record {
      directive = s.directive;
      request = s.request;
      window = s.window;
      numbers = record {
        base = up_to 2147483647 token b.0 b.1;
        bytes = s.numbers.bytes;
        unit = s.numbers.unit;
        peer = s.numbers.peer;
        disp = s.numbers.disp;
        count = s.numbers.count;
      };
      group = s.group;
      target = s.target;
      elements = s.elements;
    } in
    (subst (IsSoundLine (bound draft)) (ok_same b.2) sound, λ _. λ fresh. subst IsFresh (ok_same b.2) fresh)
token_sound draft fields told Size token typed s h =
    let b = bind_ok (integer_up_to 65536 token) (λ (z : ℤ). Ok (record fields { bytes = z })) told h in
    let sound : IsSoundLine (bound draft) (record fields { bytes = b.0 }) = record {
      directive = s.directive;
      request = s.request;
      window = s.window;
      numbers = record {
        base = s.numbers.base;
        bytes = up_to 65536 token b.0 b.1;
        unit = s.numbers.unit;
        peer = s.numbers.peer;
        disp =
            s.numbers.disp;
        count = s.numbers.count;
      };
      group = s.group;
      target = s.target;
      elements = s.elements;
    } in
    (subst (IsSoundLine (bound draft)) (ok_same b.2) sound, λ _. λ fresh. subst IsFresh (ok_same b.2) fresh)
token_sound draft fields told UnitPlace token typed s h =
    let b = bind_ok (integer_up_to 64 token) (λ (z : ℤ). Ok (record fields { unit = z })) told h in
    let sound : IsSoundLine (bound draft) (record fields { unit = b.0 }) = record {
      directive = s.directive;
      request = s.request;
      window = s.window;
      numbers = record {
        base = s.numbers.base;
        bytes = s.numbers.bytes;
        unit = up_to 64 token b.0 b.1;
        peer = s.numbers.peer;
        disp =
            s.numbers.disp;
        count = s.numbers.count;
      };
      group = s.group;
      target = s.target;
      elements = s.elements;
    } in
    (subst (IsSoundLine (bound draft)) (ok_same b.2) sound, λ _. λ fresh. subst IsFresh (ok_same b.2) fresh)
token_sound draft fields told LockKind token typed s h =
    let b = bind_ok (found_or Word (lock_named token)) (λ (kind : Lock). Ok (record fields { lock = kind })) told h in
    let sound : IsSoundLine (bound draft) (record fields { lock = b.0 }) = record {
      directive = s.directive;
      request = s.request;
      window = s.window;
      numbers = s.numbers;
      group = s.group;
      target
          = s.target;
      elements = s.elements;
    } in
    (subst (IsSoundLine (bound draft)) (ok_same b.2) sound, λ _. λ fresh. subst IsFresh (ok_same b.2) fresh)
token_sound draft fields told Peer token typed s h =
    let b = bind_ok (plain_integer token) (λ (rank : ℤ). Ok (record fields { peer = rank })) told h in
    let sound : IsSoundLine (bound draft) (record fields { peer = b.0 }) = record {
      directive = s.directive;
      request = s.request;
      window = s.window;
      numbers = record {
        base = s.numbers.base;
        bytes = s.numbers.bytes;
        unit = s.numbers.unit;
        peer = up_to 2147483647 token b.0 b.1;
        disp = s.numbers.disp;
        count = s.numbers.count;
      };
      group = s.group;
      target = s.target;
      elements = s.elements;
    } in
    (subst (IsSoundLine (bound draft)) (ok_same b.2) sound, λ _. λ fresh. subst IsFresh (ok_same b.2) fresh)
token_sound draft fields told Group token typed s h =
    let b = bind_ok (group_read fields.group token) (λ (ranks : List ℤ). Ok (record fields { group = ranks })) told h in
    let sound : IsSoundLine (bound draft) (record fields { group = b.0 }) = record {
      directive = s.directive;
      request = s.request;
      window = s.window;
      numbers = s.numbers;
      group = group_written
          fields.group b.0 token s.group b.1;
      target = s.target;
      elements = s.elements;
    } in
    (subst (IsSoundLine (bound draft)) (ok_same b.2) sound, λ _. λ fresh. subst IsFresh (ok_same b.2) fresh)
token_sound draft fields told Assertions token typed s h =
    let b = bind_ok (found_or Word (assertion_named token))
    (λ (assertion : Assertion). Ok (record fields { asserts = with_assertion fields.asserts assertion })) told h in
    let sound : IsSoundLine (bound draft) (record fields { asserts = with_assertion fields.asserts b.0 }) = record {
      directive = s.directive;
      request = s.request;
      window = s.window;
      numbers = s.numbers;
      group = s.group;
      target
          = s.target;
      elements = s.elements;
    } in
    (subst (IsSoundLine (bound draft)) (ok_same b.2) sound, λ _. λ fresh. subst IsFresh (ok_same b.2) fresh)
token_sound draft fields told Target token typed s h =
    let b = bind_ok (target_read token) (λ (rank : Option ℤ). Ok (record fields { target = rank })) told h in
    let sound : IsSoundLine (bound draft) (record fields { target = b.0 }) = record {
      directive = s.directive;
      request = s.request;
      window = s.window;
      numbers = s.numbers;
      group = s.group;
      target
          = target_number token b.0 b.1;
      elements = s.elements;
    } in
    (subst (IsSoundLine (bound draft)) (ok_same b.2) sound, λ _. λ fresh. subst IsFresh (ok_same b.2) fresh)
token_sound draft fields told Displacement token typed s h =
    let b = bind_ok (plain_integer token) (λ (z : ℤ). Ok (record fields { disp = z })) told h in
    let sound : IsSoundLine (bound draft) (record fields { disp = b.0 }) = record {
      directive = s.directive;
      request = s.request;
      window = s.window;
      numbers = record {
        base = s.numbers.base;
        bytes = s.numbers.bytes;
        unit = s.numbers.unit;
        peer = s.numbers.peer;
        disp = up_to
            2147483647 token b.0 b.1;
        count = s.numbers.count;
      };
      group = s.group;
      target = s.target;
      elements = s.elements;
    }
    in
    (subst (IsSoundLine (bound draft)) (ok_same b.2) sound, λ _. λ fresh. subst IsFresh (ok_same b.2) fresh)
token_sound draft fields told ElementType token typed s h =
    let b = bind_ok (found_or Datatype (dtype_named token)) (λ (dtype : Dtype). Ok (record fields { dtype = dtype }))
    told h in
    let fresh_now = typed refl in
    let sound : IsSoundLine (bound draft) (record fields { dtype = b.0 }) = record {
      directive = s.directive;
      request = s.request;
      window = s.window;
      numbers = s.numbers;
      group = s.group;
      target
          = s.target;
      elements = typed_elements b.0 fields fresh_now;
    } in
    (subst (IsSoundLine (bound draft)) (ok_same b.2) sound, λ _. λ fresh. subst IsFresh (ok_same b.2) fresh)
token_sound draft fields told Operation token typed s h =
    let b = bind_ok (found_or NoOperation (op_named token)) (λ (op : Operator). Ok (record fields { op = op })) told h
    in
    let sound : IsSoundLine (bound draft) (record fields { op = b.0 }) = record {
      directive = s.directive;
      request = s.request;
      window = s.window;
      numbers = s.numbers;
      group = s.group;
      target
          = s.target;
      elements = s.elements;
    } in
    (subst (IsSoundLine (bound draft)) (ok_same b.2) sound, λ _. λ fresh. subst IsFresh (ok_same b.2) fresh)
token_sound draft fields told Count token typed s h =
    let b = bind_ok (integer_up_to 256 token) (λ (z : ℤ). Ok (record fields { count = z })) told h in
    let sound : IsSoundLine (bound draft) (record fields { count = b.0 }) = record {
      directive = s.directive;
      request = s.request;
      window = s.window;
      numbers = record {
        base = s.numbers.base;
        bytes = s.numbers.bytes;
        unit = s.numbers.unit;
        peer = s.numbers.peer;
        disp =
            s.numbers.disp;
        count = up_to 256 token b.0 b.1;
      };
      group = s.group;
      target = s.target;
      elements = s.elements;
    }
    in
    (subst (IsSoundLine (bound draft)) (ok_same b.2) sound, λ _. λ fresh. subst IsFresh (ok_same b.2) fresh)
token_sound draft fields told Compare token typed s h =
    let b = bind_ok (pattern_read fields token) (λ (pattern : ℕ). Ok (record fields { compare = pattern })) told h in
    let sound : IsSoundLine (bound draft) (record fields { compare = b.0 }) = record {
      directive = s.directive;
      request = s.request;
      window = s.window;
      numbers = s.numbers;
      group = s.group;
      target
          = s.target;
      elements = record {
        amount = s.elements.amount;
        patterns = s.elements.patterns;
        compared =
            pattern_below fields token b.0 b.1;
        stored = s.elements.stored;
      };
    } in
    (subst (IsSoundLine (bound draft)) (ok_same b.2) sound, λ other. absurd (let no : true ≡ false = other in cc))
token_sound draft fields told Value token typed s h =
    let b = bind_ok (pattern_read fields token) (λ (pattern : ℕ). Ok (record fields { value = pattern })) told h in
    let sound : IsSoundLine (bound draft) (record fields { value = b.0 }) = record {
      directive = s.directive;
      request = s.request;
      window = s.window;
      numbers = s.numbers;
      group = s.group;
      target
          = s.target;
      elements = record {
        amount = s.elements.amount;
        patterns = s.elements.patterns;
        compared =
            s.elements.compared;
        stored = pattern_below fields token b.0 b.1;
      };
    } in
    (subst (IsSoundLine (bound draft)) (ok_same b.2) sound, λ other. absurd (let no : true ≡ false = other in cc))
token_sound draft fields told Values token typed s h =
    let b = bind_ok (values_read fields token) (λ (patterns : List ℕ). Ok (record fields { values = patterns })) told h
    in
    let sound : IsSoundLine (bound draft) (record fields { values = b.0 }) = record {
      directive = s.directive;
      request = s.request;
      window = s.window;
      numbers = s.numbers;
      group = s.group;
      target
          = s.target;
      elements = more_values fields b.0 token s.elements b.1;
    } in
    (subst (IsSoundLine (bound draft)) (ok_same b.2) sound, λ other. absurd (let no : true ≡ false = other in cc))
