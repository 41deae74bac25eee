-- What a line that reads says is within its ranges.
use Rattle.std.proofs.Common.{◌≡◌, ℕ, ◌-◌, ◌<◌, ◌≤◌, Bool, true, false, ◌&&◌, ◌||◌, not, cond}
use Rattle.std.proofs.Common.{List, [], ◌∷◌, None, Ok, Err, refl}
use Rattle.std.proofs.Common.{sym, ◌∙◌, subst, arith, get_or}
use Rattle.std.specs.Prelude.{is_some}
use Rattle.std.specs.List.{list_all}
use Rattle.list_laws.proofs.Options.{none_there}
use Rattle.list_laws.proofs.Truths.{or_second, both_true}
use Rattle.script_language.specs.declared.drafts.Draft.{Draft}
use Rattle.script_language.specs.declared.faults.FaultKind.TheVariants.{Word, Shape}
use Rattle.script_language.specs.declared.fields.Fields.{Fields}
use Rattle.script_language.specs.declared.places.Place.{Place}
use Rattle.script_language.specs.declared.places.Place.TheVariants.{Owner, Room}
use Rattle.script_language.specs.Forms.{is_group, is_many, call_places, places_of}
use Rattle.script_language.specs.Lines.{is_printable}
use Rattle.script_language.specs.Tokens.{natural_within, rank_read, owner_read}
use Rattle.script_language.specs.Tokens.{token_read, begins_number}
use Rattle.script_language.specs.Tokens.{places_from, places_behind, Told, read_at, next_read, tokens_read}
use Rattle.script_language.specs.declared.forms.CallForm.{CallForm}
use Rattle.script_language.specs.declared.forms.CallForm.TheVariants.{Allocate, Create, Dynamic, Free, Attach, Detach}
use Rattle.script_language.specs.declared.forms.CallForm.TheVariants.{Fence, Post, Start, Complete, WaitWin, TestWin}
use Rattle.script_language.specs.declared.forms.CallForm.TheVariants.{LockOne, Unlock, LockAll, UnlockAll, Flush}
use Rattle.script_language.specs.declared.forms.CallForm.TheVariants.{FlushAll, FlushLocal, FlushLocalAll, Sync}
use Rattle.script_language.specs.declared.forms.CallForm.TheVariants.{Barrier, Put, RequestPut, Get, RequestGet, Acc}
use Rattle.script_language.specs.declared.forms.CallForm.TheVariants.{RequestAcc, GetAcc, RequestGetAcc, Fop, Cas, Load}
use Rattle.script_language.specs.declared.forms.CallForm.TheVariants.{Store, WaitReq, TestReq}
use Rattle.script_language.specs.declared.forms.Form.{Form}
use Rattle.script_language.specs.declared.forms.Form.TheVariants.{Ranks as RanksForm, Space, Rank, Repeat, End, Call}
use Rattle.script_language.specs.Calls.{no_fields}
use Rattle.script_reader.specs.Sound.{IsSoundLine, IsNewSpace}
use Rattle.script_reader.proofs.Charging.{ok_from_if}
use Rattle.script_reader.proofs.TokenParts.{bind_ok, ok_same, chosen_ok, refused_ok, natural_most, bound, is_type}
use Rattle.script_reader.proofs.TokenMembers.{IsFresh}
use Rattle.script_reader.proofs.TokenRanges.{token_sound}
use Rattle.script_reader.proofs.TokenParts.{needs_type}

-- ---- all tokens of a line

-- the datatype is still to be read
abbrev pub names_type : List Place → Bool
names_type [] = false
names_type (place ∷ places) = is_type place || names_type places

-- no place that needs the datatype stands before it
abbrev pub is_typed_first : List Place → Bool
is_typed_first [] = true
is_typed_first (place ∷ places) = not (needs_type place && names_type (place ∷ places)) && is_typed_first places

typed_from : (places : List Place) (token : List ℕ) → is_typed_first places ≡ true →
    is_typed_first (places_from places token) ≡ true
typed_from [] token h = refl
typed_from (place ∷ places) token h =
    elim (is_group place && not (begins_number token)) as
    (λ b. is_typed_first (cond b places (place ∷ places)) ≡ true) [
      | true ↦ (both_true (not (needs_type place && names_type (place ∷ places))) (is_typed_first places) h).1
      | false ↦ h
    ]

names_from : (places : List Place) (token : List ℕ) → names_type (places_from places token) ≡ true →
    names_type places ≡ true
names_from [] token h = h
names_from (place ∷ places) token h =
    elim (is_group place && not (begins_number token)) as (λ b. names_type (cond b places (place ∷ places)) ≡ true →
    names_type (place ∷ places) ≡ true) [
      | true ↦ λ e. or_second (is_type place) (names_type places) e
      | false ↦ λ e. e
    ] h

typed_behind : (place : Place) (places : List Place) → is_typed_first (place ∷ places) ≡ true →
    is_typed_first (places_behind place places) ≡ true
typed_behind place places h =
    elim (is_many place) as (λ b. is_typed_first (cond b (place ∷ places) places) ≡ true) [
      | true ↦ h
      | false ↦ (both_true (not (needs_type place && names_type (place ∷ places))) (is_typed_first places) h).1
    ]

names_behind : (place : Place) (places : List Place) → names_type (places_behind place places) ≡ true →
    names_type (place ∷ places) ≡ true
names_behind place places h =
    elim (is_many place) as (λ b. names_type (cond b (place ∷ places) places) ≡ true →
    names_type (place ∷ places) ≡ true) [
      | true ↦ λ e. e
      | false ↦ λ e. or_second (is_type place) (names_type places) e
    ] h

not_both : (a b c : Bool) → (not (a && b) && c) ≡ true → b ≡ true → a ≡ false
not_both true true c h e = cc
not_both true false c h e = cc
not_both false b c h e = refl

fresh_behind : (fields told : Fields) (place : Place) (places : List Place) → is_typed_first (place ∷ places) ≡ true →
    (names_type (place ∷ places) ≡ true → IsFresh fields) → (needs_type place ≡ false → IsFresh fields → IsFresh told) →
    names_type (places_behind place places) ≡ true → IsFresh told
fresh_behind fields told place places typed fresh keep h =
    let names = names_behind place places h in
    keep (not_both (needs_type place) (names_type (place ∷ places)) (is_typed_first places) typed names) (fresh names)

is_type_or : (place : Place) (places : List Place) → is_type place ≡ true → names_type (place ∷ places) ≡ true
is_type_or place places h = rw h refl

-- a token at the first of the places
read_sound : (draft : Draft) (fields : Fields) (places : List Place) (token : List ℕ) (told : Told) →
    is_typed_first places ≡ true → (names_type places ≡ true → IsFresh fields) → IsSoundLine (bound draft) fields →
    read_at draft fields places token ≡ Ok told → IsSoundLine (bound draft) told.fields
    × (is_typed_first told.places ≡ true) × (names_type told.places ≡ true → IsFresh told.fields)
read_sound draft fields [] token told typed fresh s h = absurd cc
read_sound draft fields (place ∷ places) token told typed fresh s h =
    let b = bind_ok (token_read draft fields place token)
    (λ (f : Fields). Ok (record { fields = f; places = places_behind place places })) told h in
    let one = token_sound draft fields b.0 place token (λ e. fresh (is_type_or place places e)) s b.1 in
    let P : Told → Type 0 = λ t. IsSoundLine (bound draft) t.fields × (is_typed_first t.places ≡ true)
    × (names_type t.places ≡ true → IsFresh t.fields) in
    subst P (ok_same b.2) (
      one.0,
      typed_behind place places typed,
      fresh_behind fields b.0 place places typed fresh
          one.1,
    )

tokens_sound : (draft : Draft) (tokens : List (List ℕ)) (fields told : Fields) (places : List Place) →
    is_typed_first places ≡ true → (names_type places ≡ true → IsFresh fields) → IsSoundLine (bound draft) fields →
    tokens_read draft fields places tokens ≡ Ok told → IsSoundLine (bound draft) told
tokens_sound draft [] fields told places typed fresh s h =
    subst (IsSoundLine (bound draft)) (ok_from_if (list_all is_many places) fields told Shape h).1 s
tokens_sound draft (token ∷ tokens) fields told places typed fresh s h =
    let b = bind_ok (next_read draft fields places token) (λ (t : Told). tokens_read draft t.fields t.places tokens)
    told h in
    let c = chosen_ok (is_printable token) (read_at draft fields (places_from places token) token) Word b.0 b.1 in
    let one = read_sound draft fields (places_from places token) token b.0 (typed_from places token typed)
    (λ e. fresh (names_from places token e)) s c.1 in
    tokens_sound draft tokens b.0.fields told b.0.places one.1 one.2 one.0 b.2

calls_typed : (form : CallForm) → is_typed_first (call_places form) ≡ true
calls_typed Allocate = refl
calls_typed Create = refl
calls_typed Dynamic = refl
calls_typed Free = refl
calls_typed Attach = refl
calls_typed Detach = refl
calls_typed Fence = refl
calls_typed Post = refl
calls_typed Start = refl
calls_typed Complete = refl
calls_typed WaitWin = refl
calls_typed TestWin = refl
calls_typed LockOne = refl
calls_typed Unlock = refl
calls_typed LockAll = refl
calls_typed UnlockAll = refl
calls_typed Flush = refl
calls_typed FlushAll = refl
calls_typed FlushLocal = refl
calls_typed FlushLocalAll = refl
calls_typed Sync = refl
calls_typed Barrier = refl
calls_typed Put = refl
calls_typed RequestPut = refl
calls_typed Get = refl
calls_typed RequestGet = refl
calls_typed Acc = refl
calls_typed RequestAcc = refl
calls_typed GetAcc = refl
calls_typed RequestGetAcc = refl
calls_typed Fop = refl
calls_typed Cas = refl
calls_typed Load = refl
calls_typed Store = refl
calls_typed WaitReq = refl
calls_typed TestReq = refl

forms_typed : (form : Form) → is_typed_first (places_of form) ≡ true
forms_typed RanksForm = refl
forms_typed Space = refl
forms_typed Rank = refl
forms_typed Repeat = refl
forms_typed End = refl
forms_typed (Call form) = calls_typed form

nothing_sound : (ranks : ℕ) → IsSoundLine ranks no_fields
nothing_sound ranks = record {
  directive = record { few = omega arith; room = omega arith; members = tt };
  request = omega arith;
  window = omega arith;
  numbers = record {
    base = omega arith;
    bytes = omega arith;
    unit = omega arith;
    peer = omega arith;
    disp = omega
        arith;
    count = omega arith;
  };
  group = (omega arith, tt);
  target = tt;
  elements = record { amount = omega arith; patterns = tt; compared = omega arith; stored = omega arith };
}

-- what a line says is within its ranges
pub line_sound : (draft : Draft) (form : Form) (tokens : List (List ℕ)) (fields : Fields) → tokens_read draft no_fields
    (places_of form) tokens ≡ Ok fields → IsSoundLine (bound draft) fields
line_sound draft form tokens fields h =
    tokens_sound draft tokens no_fields fields (places_of form) (forms_typed form) (λ _. (refl, refl, refl))
    (nothing_sound (bound draft)) h

-- ---- the line of a space

one_token : (draft : Draft) (fields : Fields) (place : Place) (places : List Place) (token : List ℕ) (told : Told) →
    is_group place ≡ false → next_read draft fields (place ∷ places) token ≡ Ok told → (f : Fields)
    × (token_read draft fields place token ≡ Ok f) × (record { fields = f; places = places_behind place places } ≡ told)
one_token draft fields place places token told plain h =
    let c = chosen_ok (is_printable token) (read_at draft fields (places_from (place ∷ places) token) token) Word told h
    in
    let same : places_from (place ∷ places) token ≡ place ∷ places = rw plain refl in
    let d : read_at draft fields (place ∷ places) token ≡ Ok told = rw same at c.1 in
    let b = bind_ok (token_read draft fields place token)
    (λ (f : Fields). Ok (record { fields = f; places = places_behind place places })) told d in
    (b.0, b.1, ok_same b.2)

no_place : (draft : Draft) (fields told : Fields) (tokens : List (List ℕ)) →
    tokens_read draft fields [] tokens ≡ Ok told → fields ≡ told
no_place draft fields told [] h = ok_same h
no_place draft fields told (token ∷ tokens) h =
    let b = bind_ok (next_read draft fields [] token) (λ (t : Told). tokens_read draft t.fields t.places tokens) told h
    in
    let c = chosen_ok (is_printable token) (Err Shape) Word b.0 b.1 in
    absurd (let no : Err Shape ≡ Ok b.0 = c.1 in cc)

owner_new : (draft : Draft) (token : List ℕ) (rank : ℕ) → 1 ≤ draft.ranks → owner_read draft token ≡ Ok rank →
    (rank < draft.ranks) × (is_some (get_or draft.spaces rank None) ≡ false)
owner_new draft token rank begun h =
    let b = bind_ok (rank_read draft token) (λ (r : ℕ). cond (is_some (get_or draft.spaces r None)) (Err Shape) (Ok r))
    rank h in
    let c = refused_ok (is_some (get_or draft.spaces b.0 None)) (Ok b.0) Shape rank b.2 in
    let same : b.0 ≡ rank = ok_same c.1 in
    let most = natural_most 0 (draft.ranks - 1) token b.0 b.1 in
    (rw (← same) (omega arith), rw (← same) c.0)

room_new : (draft : Draft) (tokens : List (List ℕ)) (rank : ℕ) (fields : Fields) → rank < draft.ranks →
    get_or draft.spaces rank None ≡ None → tokens_read draft (record no_fields { owner = rank })
    (Room ∷ []) tokens ≡ Ok fields → IsNewSpace draft fields
room_new draft [] rank fields owner none h = absurd cc
room_new draft (second ∷ tokens) rank fields owner none h =
    let line : Fields = record no_fields { owner = rank } in
    let b = bind_ok (next_read draft line (Room ∷ []) second) (λ (t : Told). tokens_read draft t.fields t.places tokens)
    fields h in
    let one = one_token draft line Room [] second b.0 refl b.1 in
    let roomed = bind_ok (natural_within 0 65536 second) (λ (n : ℕ). Ok (record line { room = n })) one.0 one.1 in
    let P : Told → Type 0 = λ t. tokens_read draft t.fields t.places tokens ≡ Ok fields in
    let rest : tokens_read draft one.0 [] tokens ≡ Ok fields = subst P (sym one.2) b.2 in
    let same : record line { room = roomed.0 } ≡ fields = ok_same roomed.2 ∙ no_place draft one.0 fields tokens rest in
    subst (IsNewSpace draft) same (record {
      owner = owner;
      none = none;
      room = natural_most 0 65536 second roomed.0
          roomed.1;
    })

-- the rank has no space yet
pub space_new : (draft : Draft) (tokens : List (List ℕ)) (fields : Fields) → 1 ≤ draft.ranks →
    tokens_read draft no_fields (places_of Space) tokens ≡ Ok fields → IsNewSpace draft fields
space_new draft [] fields begun h = absurd cc
space_new draft (first ∷ tokens) fields begun h =
    let b = bind_ok (next_read draft no_fields (Owner ∷ Room ∷ []) first)
    (λ (t : Told). tokens_read draft t.fields t.places tokens) fields h in
    let one = one_token draft no_fields Owner (Room ∷ []) first b.0 refl b.1 in
    let owned = bind_ok (owner_read draft first) (λ (rank : ℕ). Ok (record no_fields { owner = rank })) one.0 one.1 in
    let new = owner_new draft first owned.0 begun owned.1 in
    let P : Told → Type 0 = λ t. tokens_read draft t.fields t.places tokens ≡ Ok fields in
    let rest : tokens_read draft one.0 (Room ∷ []) tokens ≡ Ok fields = subst P (sym one.2) b.2 in
    let rest' : tokens_read draft (record no_fields { owner = owned.0 }) (Room ∷ []) tokens ≡ Ok fields =
    (let Q : Fields → Type 0 = λ f. tokens_read draft f (Room ∷ []) tokens ≡ Ok fields in subst Q
    (sym (ok_same owned.2)) rest) in
    room_new draft tokens owned.0 fields new.0 (none_there (get_or draft.spaces owned.0 None) new.1) rest'
