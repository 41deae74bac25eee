-- What stands at each place of a line that is printed.
use Rattle.std.specs.Prelude.{ℕ, ℤ, Bool, Option, Some, None, List, [], ◌∷◌, map, take, drop, filter, codes}
use Rattle.rma_types.specs.declared.calls.Asserts.{Asserts}
use Rattle.rma_types.specs.declared.dtypes.Dtype.{Dtype}
use Rattle.call_rules.specs.Numbers.{number_of}
use Rattle.call_rules.specs.Text.{number, integer}
use Rattle.script_language.specs.declared.fields.Fields.{Fields}
use Rattle.script_language.specs.declared.places.Assertion.{Assertion}
use Rattle.script_language.specs.declared.places.Assertion.TheVariants.{NoCheck, NoStore, NoPut, NoPrecede, NoSucceed}
use Rattle.script_language.specs.declared.places.Place.{Place}
use Rattle.script_language.specs.declared.places.Place.TheVariants.{Ranks, Owner, Room, Member, Members, Times, Request}
use Rattle.script_language.specs.declared.places.Place.TheVariants.{Window, Base, Size, Unit as UnitPlace, LockKind}
use Rattle.script_language.specs.declared.places.Place.TheVariants.{Peer, Group, Assertions, Target, Displacement}
use Rattle.script_language.specs.declared.places.Place.TheVariants.{ElementType, Operation, Count, Compare, Value}
use Rattle.script_language.specs.declared.places.Place.TheVariants.{Values}
use Rattle.script_language.specs.Words.{dtype_text, op_text, lock_text, assertion_text, all_assertions, window_text}
use Rattle.script_language.specs.Words.{request_text}

-- MPI_PROC_NULL, or a rank
abbrev pub target_text : Option ℤ → List ℕ
target_text None = codes "null"
target_text (Some rank) = integer rank

abbrev pub is_given : Asserts → Assertion → Bool
is_given asserts NoCheck = asserts.nocheck
is_given asserts NoStore = asserts.nostore
is_given asserts NoPut = asserts.noput
is_given asserts NoPrecede = asserts.noprecede
is_given asserts NoSucceed = asserts.nosucceed

-- a bit pattern as a number of its datatype
abbrev pub pattern_text : Dtype → ℕ → List ℕ
pattern_text dtype pattern = integer (number_of dtype pattern)

-- the tokens at a place
abbrev pub spelling_of : Fields → Place → List (List ℕ)
spelling_of fields Ranks = number fields.ranks ∷ []
spelling_of fields Owner = number fields.owner ∷ []
spelling_of fields Room = number fields.room ∷ []
spelling_of fields Member = map number (take 1 fields.members)
spelling_of fields Members = map number (drop 1 fields.members)
spelling_of fields Times = number fields.times ∷ []
spelling_of fields Request = request_text fields.req ∷ []
spelling_of fields Window = window_text fields.win ∷ []
spelling_of fields Base = integer fields.base ∷ []
spelling_of fields Size = integer fields.bytes ∷ []
spelling_of fields UnitPlace = integer fields.unit ∷ []
spelling_of fields LockKind = lock_text fields.lock ∷ []
spelling_of fields Peer = integer fields.peer ∷ []
spelling_of fields Group = map integer fields.group
spelling_of fields Assertions = map assertion_text (filter (is_given fields.asserts) all_assertions)
spelling_of fields Target = target_text fields.target ∷ []
spelling_of fields Displacement = integer fields.disp ∷ []
spelling_of fields ElementType = dtype_text fields.dtype ∷ []
spelling_of fields Operation = op_text fields.op ∷ []
spelling_of fields Count = integer fields.count ∷ []
spelling_of fields Compare = pattern_text fields.dtype fields.compare ∷ []
spelling_of fields Value = pattern_text fields.dtype fields.value ∷ []
spelling_of fields Values = map (pattern_text fields.dtype) fields.values
