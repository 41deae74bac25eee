-- What the log of a rank says of its calls: this project's profile of a report.
use Rattle.std.specs.Prelude.{ℕ, Bool, false, not, ◌==◌, if◌then◌else◌, ℤ, List, [], ◌∷◌, ◌++◌, map, length, slice_get}
use Rattle.std.specs.Prelude.{Option, Some, None, codes}
use Rattle.std.specs.List.{filter, flat_map, find, list_any, enumerate_from}
use Rattle.std.specs.Option.{option_map_or}
use Rattle.rma_types.specs.declared.accesses.Access.{Access}
use Rattle.rma_types.specs.declared.calls.Call.{Call}
use Rattle.rma_types.specs.declared.dtypes.Dtype.{Dtype}
use Rattle.rma_types.specs.CallWords.{word_of}
use Rattle.rma_types.specs.Classes.{class_text}
use Rattle.rma_record.specs.declared.items.Item.{Item}
use Rattle.rma_record.specs.declared.items.Item.TheVariants.{Issue, Touch, Entry, Tested, Refused}
use Rattle.rma_types.specs.declared.actions.Transfer.{Transfer}
use Rattle.rma_types.specs.Actions.{is_testwin}
use Rattle.call_rules.specs.Elements.{element_in}
use Rattle.call_rules.specs.Numbers.{number_of}
use Rattle.call_rules.specs.Pieces.{numbers_from, byte_in_cell, element_address}
use Rattle.call_rules.specs.Text.{integer}
use Rattle.lawful_runs.specs.Accesses.{transfer_at}
use Rattle.lawful_runs.specs.Items.{is_touch_of, has_ended}
use Rattle.rank_rules.specs.Knowledge.{accepted_by}

-- what is said of the call of a number
pub record Answer : Type 0 where
  pub call : ℕ
  pub words : List (List ℕ)

abbrev pub say : ℕ → List (List ℕ) → List Answer
say call words = record { call = call; words = words } ∷ []

-- the number that a touch of an element finds in the bits of its cell (MPI 3.1, sections 11.2 and 11.3)
abbrev pub fetched_integer : Access → Dtype → ℕ → ℕ → ℤ
fetched_integer access dtype element bits =
    number_of dtype (element_in bits (byte_in_cell (element_address access dtype element)) dtype)

abbrev pub fetched_word : Access → Dtype → Item → List ℕ
fetched_word access dtype (Touch issue element cell place bits) = integer (fetched_integer access dtype element bits)
fetched_word access dtype item = []

-- the numbers that the touches of an access found, which stand in the order of the elements
abbrev pub fetched_words : List Item → ℕ → Access → Dtype → List (List ℕ)
fetched_words log index access dtype = map (fetched_word access dtype) (filter (is_touch_of index) log)

-- what the item at an index of a rank's log says of its call: that it fetched, was refused, or was a test
abbrev pub item_answers : List Call → List Item → ℕ → Item → List Answer
item_answers calls log index (Issue call access) = option_map_or
    (λ (t : Transfer). if t.fetches then say call (codes "value" ∷ fetched_words log index access t.dtype) else [])
    (transfer_at calls call) []
item_answers calls log index (Refused call class seen) = say call (codes "refused" ∷ class_text class ∷ [])
item_answers calls log index (Tested call seen) = say call (codes "test" ∷ codes "false" ∷ [])
item_answers calls log index (Entry call place step) = option_map_or
    (λ tested. if is_testwin tested then say call (codes "test" ∷ codes "true" ∷ []) else []) (slice_get calls call) []
item_answers calls log index item = []

-- the number of the call that an item ends
abbrev pub ended_by : List Call → Item → Option ℕ
ended_by calls (Refused call class seen) = Some call
ended_by calls (Tested call seen) = Some call
ended_by calls item = accepted_by calls item

abbrev pub ends : List Call → ℕ → Item → Bool
ends calls call item = option_map_or (λ other. other == call) (ended_by calls item) false

-- the first call that no item ends
abbrev pub first_left : List Call → List Item → Option ℕ
first_left calls log = find (λ call. not (list_any (ends calls call) log)) (numbers_from 0 (length calls))

-- a rank that has not ended stands at the first call that no item ends
abbrev pub standing_call : List Call → List Item → Option ℕ
standing_call calls log = if has_ended log then None else first_left calls log

-- that a rank waits, said of the call at which it stands
abbrev pub wait_answer : List Call → Option ℕ → List Answer
wait_answer calls None = []
wait_answer calls (Some call) = say call (codes "waits" ∷ option_map_or word_of (slice_get calls call) [] ∷ [])

-- all that a rank's log says of its calls
abbrev pub answers : List Call → List Item → List Answer
answers calls log =
    flat_map (λ one. item_answers calls log one.0 one.1) (enumerate_from 0 log)
    ++ wait_answer calls (standing_call calls log)
