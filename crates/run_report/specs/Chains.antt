-- The items of a log in chains: those of each call, and the touches of each access.
use Rattle.std.specs.Prelude.{ℕ, ◌≡◌, ◌+◌, ◌<◌, ◌≤◌, ◌^◌, Bool, false, ◌==◌, nat_lt, if◌then◌else◌, List, [], ◌∷◌}
use Rattle.std.specs.Prelude.{length, drop, slice_get, slice_index, Option, Some, None}
use Rattle.std.specs.List.{filter, enumerate_from}
use Rattle.std.specs.Option.{option_map_or}
use Rattle.rma_record.specs.declared.items.Item.{Item}
use Rattle.rma_record.specs.declared.items.Item.TheVariants.{Issue, Null, Touch, Flush, Request, Entry, Tested, Refused}
use Rattle.rma_record.specs.declared.items.Item.TheVariants.{Ended}
use Rattle.lawful_runs.specs.Items.{number_in}

-- the chain of a call of this number, where there are so many
abbrev pub chain_of_number : ℕ → Option ℕ → Option ℕ
chain_of_number calls None = None
chain_of_number calls (Some number) = if nat_lt number calls then Some number else None

-- the chain of an item: for a touch that of its access, and else that of its call
abbrev pub chain_of : ℕ → Item → Option ℕ
chain_of calls (Touch issue element cell place bits) = Some (calls + issue)
chain_of calls (Issue number access) = chain_of_number calls (Some number)
chain_of calls (Null number) = chain_of_number calls (Some number)
chain_of calls (Flush number) = chain_of_number calls (Some number)
chain_of calls (Request number) = chain_of_number calls (Some number)
chain_of calls (Entry number place step) = chain_of_number calls (Some number)
chain_of calls (Tested number seen) = chain_of_number calls (Some number)
chain_of calls (Refused number class seen) = chain_of_number calls (Some number)
chain_of calls Ended = None

abbrev pub is_in : ℕ → ℕ → Item → Bool
is_in calls chain item = option_map_or (λ other. other == chain) (chain_of calls item) false

-- the items of a chain with their places, among those from a place on
abbrev pub links : ℕ → ℕ → ℕ → List Item → List (ℕ × Item)
links calls chain place items = filter (λ one. is_in calls chain one.1) (enumerate_from place items)

-- from this place, which is not below low, the next places lead through these items of the log and then past its end
abbrev pub Leads : List Item → List ℕ → ℕ → ℕ → List (ℕ × Item) → Type 0
Leads log next low at [] = length log ≤ at
Leads log next low at (one ∷ ones) =
    (at ≡ one.0) × (low ≤ at) × (at < length log) × (slice_get log at ≡ Some one.1)
    × Leads log next (at + 1) (slice_index next at) ones

-- the first and the next places of the chains of a log's items from a place on
pub record AreChains (calls : ℕ) (log : List Item) (low : ℕ) (first : List ℕ) (next : List ℕ) : Type 0 where
  pub count : length first ≡ calls + length log
  pub places : length next ≡ length log
  pub few_items : length log < 2 ^ 32
  pub few_calls : calls < 2 ^ 32
  pub chains : (chain : ℕ) → chain < length first
      → Leads log next low (slice_index first chain) (links calls chain low (drop low log))
