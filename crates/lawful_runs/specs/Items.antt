-- The kinds of items of a log: this project's record of a run.
use Rattle.std.specs.Prelude.{ℕ, zero, ◌-◌, ◌==◌, Bool, true, false, List, length, slice_get, Option, Some, None}
use Rattle.std.specs.Option.{option_map_or}
use Rattle.rma_record.specs.declared.items.Item.{Item}
use Rattle.rma_record.specs.declared.items.Item.TheVariants.{Issue, Null, Touch, Flush, Request, Entry, Tested, Refused}
use Rattle.rma_record.specs.declared.items.Item.TheVariants.{Ended}

abbrev pub is_issue : Item → Bool
is_issue (Issue number access) = true
is_issue item = false

abbrev pub is_touch : Item → Bool
is_touch (Touch issue element cell place bits) = true
is_touch item = false

abbrev pub is_entry : Item → Bool
is_entry (Entry number place step) = true
is_entry item = false

abbrev pub is_refused : Item → Bool
is_refused (Refused number class seen) = true
is_refused item = false

abbrev pub is_ended : Item → Bool
is_ended Ended = true
is_ended item = false

-- the item is a touch of the access whose Issue has this index
abbrev pub is_touch_of : ℕ → Item → Bool
is_touch_of index (Touch issue element cell place bits) = issue == index
is_touch_of index item = false

-- the rank decided alone to refuse the call
abbrev pub is_own_refusal : Item → Bool
is_own_refusal (Refused number class zero) = true
is_own_refusal item = false

-- the number of the call to which an item belongs; a touch names the Issue of its access instead
abbrev pub number_in : Item → Option ℕ
number_in (Issue number access) = Some number
number_in (Null number) = Some number
number_in (Touch issue element cell place bits) = None
number_in (Flush number) = Some number
number_in (Request number) = Some number
number_in (Entry number place step) = Some number
number_in (Tested number seen) = Some number
number_in (Refused number class seen) = Some number
number_in Ended = None

abbrev pub belongs_to : ℕ → Item → Bool
belongs_to number item = option_map_or (λ other. other == number) (number_in item) false

-- the rank has ended: its log ends with Ended
abbrev pub has_ended : List Item → Bool
has_ended log = option_map_or is_ended (slice_get log (length log - 1)) false
