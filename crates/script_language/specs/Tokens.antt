-- What a token says at its place, and the tokens of a line one after the other.
use Rattle.std.specs.Prelude.{ℕ, ◌-◌, Bool, true, false, ◌&&◌, ◌||◌, not, ◌==◌, nat_lt, if◌then◌else◌, ℤ, pos, List, []}
use Rattle.std.specs.Prelude.{◌∷◌, ◌++◌, length, slice_index_or, Option, Some, None, is_some, Result, Ok, Err, codes}
use Rattle.std.specs.Char.{is_ascii_digit}
use Rattle.std.specs.List.{list_all}
use Rattle.std.specs.Str.{bytes_eq}
use Rattle.rma_types.specs.declared.calls.Asserts.{Asserts}
use Rattle.call_rules.specs.Numbers.{pattern_of}
use Rattle.call_rules.specs.Ranks.{natural, is_member}
use Rattle.script_language.specs.declared.drafts.Draft.{Draft}
use Rattle.script_language.specs.declared.faults.FaultKind.{FaultKind}
use Rattle.script_language.specs.declared.faults.FaultKind.TheVariants.{Word, Datatype, Op, Name, Shape, Limit}
use Rattle.script_language.specs.declared.fields.Fields.{Fields}
use Rattle.script_language.specs.declared.places.Assertion.{Assertion}
use Rattle.script_language.specs.declared.places.Assertion.TheVariants.{NoCheck, NoStore, NoPut, NoPrecede, NoSucceed}
use Rattle.script_language.specs.declared.places.Place.{Place}
use Rattle.script_language.specs.declared.places.Place.TheVariants.{Ranks, Owner, Room, Member, Members, Times, Request}
use Rattle.script_language.specs.declared.places.Place.TheVariants.{Window, Base, Size, Unit as UnitPlace, LockKind}
use Rattle.script_language.specs.declared.places.Place.TheVariants.{Peer, Group, Assertions, Target, Displacement}
use Rattle.script_language.specs.declared.places.Place.TheVariants.{ElementType, Operation, Count, Compare, Value}
use Rattle.script_language.specs.declared.places.Place.TheVariants.{Values}
use Rattle.script_language.specs.Answers.{◌>>=◌, found_or}
use Rattle.script_language.specs.Forms.{is_group, is_many}
use Rattle.script_language.specs.Integers.{integer_within, integer_up_to, plain_integer, least_of, greatest_of}
use Rattle.script_language.specs.Lines.{is_printable}
use Rattle.script_language.specs.Words.{dtype_named, op_named, lock_named, assertion_named, window_named, request_named}

-- a number that is not below 0, from the least to the most
abbrev pub natural_within : ℕ → ℕ → List ℕ → Result ℕ FaultKind
natural_within least most token = integer_within (pos least) (pos most) token >>= λ z. Ok (natural z)

-- a rank of the script
abbrev pub rank_read : Draft → List ℕ → Result ℕ FaultKind
rank_read draft token = natural_within 0 (draft.ranks - 1) token

-- a rank whose space no line gave yet
abbrev pub owner_read : Draft → List ℕ → Result ℕ FaultKind
owner_read draft token =
    rank_read draft token >>= λ rank. if is_some (slice_index_or draft.spaces rank None) then Err Shape else Ok rank

-- the ranks of a block with one more, which is not among them
abbrev pub members_read : Draft → List ℕ → List ℕ → Result (List ℕ) FaultKind
members_read draft members token =
    rank_read draft token >>= λ rank. if is_member rank members then Err Shape else Ok (members ++ rank ∷ [])

-- a group with one more rank: the 17th is past the limit
abbrev pub group_read : List ℤ → List ℕ → Result (List ℤ) FaultKind
group_read group token =
    if nat_lt (length group) 16 then (plain_integer token >>= λ rank. Ok (group ++ rank ∷ [])) else Err Limit

-- a number of the datatype, as a bit pattern
abbrev pub pattern_read : Fields → List ℕ → Result ℕ FaultKind
pattern_read fields token =
    integer_within (least_of fields.dtype) (greatest_of fields.dtype) token >>= λ z. Ok (pattern_of fields.dtype z)

-- the values with one more: the 257th is past the limit
abbrev pub values_read : Fields → List ℕ → Result (List ℕ) FaultKind
values_read fields token =
    if nat_lt (length fields.values) 256
    then (pattern_read fields token >>= λ pattern. Ok (fields.values ++ pattern ∷ []))
    else Err Limit

-- MPI_PROC_NULL, or a rank
abbrev pub target_read : List ℕ → Result (Option ℤ) FaultKind
target_read token = if bytes_eq (codes "null") token then Ok None else (plain_integer token >>= λ rank. Ok (Some rank))

-- the assertions with one more; it may stand there already
abbrev pub with_assertion : Asserts → Assertion → Asserts
with_assertion asserts NoCheck = record asserts { nocheck = true }
with_assertion asserts NoStore = record asserts { nostore = true }
with_assertion asserts NoPut = record asserts { noput = true }
with_assertion asserts NoPrecede = record asserts { noprecede = true }
with_assertion asserts NoSucceed = record asserts { nosucceed = true }

-- what the line says, once a token is read at its place
abbrev pub token_read : Draft → Fields → Place → List ℕ → Result Fields FaultKind
token_read draft fields Ranks token = natural_within 1 16 token >>= λ n. Ok (record fields { ranks = n })
token_read draft fields Owner token = owner_read draft token >>= λ rank. Ok (record fields { owner = rank })
token_read draft fields Room token = natural_within 0 65536 token >>= λ n. Ok (record fields { room = n })
token_read draft fields Member token = members_read draft fields.members token >>= λ ranks. Ok
    (record fields { members = ranks })
token_read draft fields Members token = members_read draft fields.members token >>= λ ranks. Ok
    (record fields { members = ranks })
token_read draft fields Times token = natural_within 1 65536 token >>= λ n. Ok (record fields { times = n })
token_read draft fields Request token = found_or Name (request_named token) >>= λ name. Ok
    (record fields { req = name })
token_read draft fields Window token = found_or Name (window_named token) >>= λ name. Ok (record fields { win = name })
token_read draft fields Base token = plain_integer token >>= λ z. Ok (record fields { base = z })
token_read draft fields Size token = integer_up_to 65536 token >>= λ z. Ok (record fields { bytes = z })
token_read draft fields UnitPlace token = integer_up_to 64 token >>= λ z. Ok (record fields { unit = z })
token_read draft fields LockKind token = found_or Word (lock_named token) >>= λ kind. Ok (record fields { lock = kind })
token_read draft fields Peer token = plain_integer token >>= λ rank. Ok (record fields { peer = rank })
token_read draft fields Group token = group_read fields.group token >>= λ ranks. Ok (record fields { group = ranks })
token_read draft fields Assertions token =
    found_or Word (assertion_named token) >>= λ assertion. Ok
    (record fields { asserts = with_assertion fields.asserts assertion })
token_read draft fields Target token = target_read token >>= λ rank. Ok (record fields { target = rank })
token_read draft fields Displacement token = plain_integer token >>= λ z. Ok (record fields { disp = z })
token_read draft fields ElementType token = found_or Datatype (dtype_named token) >>= λ dtype. Ok
    (record fields { dtype = dtype })
token_read draft fields Operation token = found_or Op (op_named token) >>= λ op. Ok (record fields { op = op })
token_read draft fields Count token = integer_up_to 256 token >>= λ z. Ok (record fields { count = z })
token_read draft fields Compare token = pattern_read fields token >>= λ pattern. Ok
    (record fields { compare = pattern })
token_read draft fields Value token = pattern_read fields token >>= λ pattern. Ok (record fields { value = pattern })
token_read draft fields Values token = values_read fields token >>= λ patterns. Ok (record fields { values = patterns })

-- a token that begins with a digit or a minus sign
abbrev pub begins_number : List ℕ → Bool
begins_number [] = false
begins_number (byte ∷ bytes) = is_ascii_digit byte || byte == 45

-- the places from the one on at which a token stands: a group ends at the first token that is no rank
abbrev pub places_from : List Place → List ℕ → List Place
places_from [] token = []
places_from (place ∷ places) token = if is_group place && not (begins_number token) then places else place ∷ places

-- the places that are left behind a token: a place of many takes the next token too
abbrev pub places_behind : Place → List Place → List Place
places_behind place places = if is_many place then place ∷ places else places

-- the line so far, and the places that are left
pub record Told : Type 0 where
  pub fields : Fields
  pub places : List Place

-- a token at the first of these places; behind the form's end there is none
abbrev pub read_at : Draft → Fields → List Place → List ℕ → Result Told FaultKind
read_at draft fields [] token = Err Shape
read_at draft fields (place ∷ places) token =
    token_read draft fields place token >>= λ told. Ok (record { fields = told; places = places_behind place places })

-- one token: a byte that is no printable character is a fault wherever the token stands
abbrev pub next_read : Draft → Fields → List Place → List ℕ → Result Told FaultKind
next_read draft fields places token =
    if is_printable token then read_at draft fields (places_from places token) token else Err Word

-- all tokens behind the word of a line; no place may be left but those that take none too
abbrev pub tokens_read : Draft → Fields → List Place → List (List ℕ) → Result Fields FaultKind
tokens_read draft fields places [] = if list_all is_many places then Ok fields else Err Shape
tokens_read draft fields places (token ∷ tokens) =
    next_read draft fields places token >>= λ told. tokens_read draft told.fields told.places tokens
