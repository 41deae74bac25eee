-- What a rank of a line `rank` or `space` that is read gives, and fields without values.
use Rattle.std.proofs.Common.{◌≡◌, ℕ, false, List, [], Ok, subst, arith}
use Rattle.rma_types.specs.declared.dtypes.Dtype.{Dtype}
use Rattle.call_rules.proofs.PatternLaws.{some_pattern}
use Rattle.script_language.specs.declared.drafts.Draft.{Draft}
use Rattle.script_language.specs.declared.fields.Fields.{Fields}
use Rattle.script_language.specs.declared.places.Place.TheVariants.{Member}
use Rattle.script_language.specs.Tokens.{members_read, token_read}
use Rattle.script_reader.specs.Sound.{IsSoundLine, AreSoundElements}
use Rattle.script_reader.proofs.TokenParts.{bind_ok, ok_same, members_below, needs_type, bound}

abbrev pub IsFresh : Fields → Type 0
IsFresh fields = (fields.values ≡ []) × (fields.compare ≡ 0) × (fields.value ≡ 0)

pub typed_elements : (dtype : Dtype) (fields : Fields) → IsFresh fields →
    AreSoundElements dtype fields.values fields.compare fields.value
typed_elements dtype fields fresh =
    let some = some_pattern dtype in
    rw (fresh.0, fresh.1, fresh.2) (record { amount = omega arith; patterns = tt; compared = some; stored = some })

pub members_sound : (draft : Draft) (fields told : Fields) (token : List ℕ) → IsSoundLine (bound draft) fields →
    token_read draft fields Member token ≡ Ok told → IsSoundLine (bound draft) told
    × (needs_type Member ≡ false → IsFresh fields → IsFresh told)
members_sound draft fields told token s h =
    let b = bind_ok (members_read draft fields.members token)
    (λ (ranks : List ℕ). Ok (record fields { members = ranks })) told h in
    let sound : IsSoundLine (bound draft) (record fields { members = b.0 }) = record {
      directive = record {
        few = s.directive.few;
        room = s.directive.room;
        members = members_below draft
            fields.members b.0 token s.directive.members b.1;
      };
      request = s.request;
      window = s.window;
      numbers = s.numbers;
      group = s.group;
      target = s.target;
      elements = s.elements;
    } in
    (subst (IsSoundLine (bound draft)) (ok_same b.2) sound, λ _. λ fresh. subst IsFresh (ok_same b.2) fresh)
