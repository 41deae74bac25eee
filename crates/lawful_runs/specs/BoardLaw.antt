-- The entries and looks of a lawful run: MPI 3.1, section 11.5, in this project's profile.
use Rattle.std.specs.Prelude.{ℕ, ◌≡◌, ◌<◌, ◌≤◌, if◌then◌else◌, nat_lt, List, [], ◌∷◌, ◌++◌, length, take, slice_get}
use Rattle.std.specs.Prelude.{Some, IsSomeAnd, zero, suc}
use Rattle.std.specs.List.{count_by, flat_map, AllByRecursion}
use Rattle.rma_types.specs.declared.calls.Call.{Call}
use Rattle.rma_types.specs.declared.scripts.Script.{Script}
use Rattle.rma_record.specs.declared.items.Item.{Item}
use Rattle.rma_record.specs.declared.items.Item.TheVariants.{Entry, Tested, Refused}
use Rattle.rma_record.specs.declared.runs.Run.{Run}
use Rattle.board_rules.specs.Board.{Allow, NotYet, decide, shared_class}
use Rattle.board_rules.specs.Entries.{Row, first_step}
use Rattle.lawful_runs.specs.Accesses.{EachPair}
use Rattle.lawful_runs.specs.Logs.{Named, named_items, is_named_entry_at, is_some_entry, rows_of, log_of, calls_of}

-- the first entry of the call of this number
abbrev pub first_row : ℕ → ℕ → Call → Row
first_row rank number call = record { rank = rank; number = number; call = call; step = first_step call }

-- an item of a rank, where it is an entry, names a call of the rank
abbrev pub NamesCallOf : Script → ℕ → Item → Type 0
NamesCallOf script rank (Entry number place step) = number < length (calls_of script rank)
NamesCallOf script rank item = Unit {0}

abbrev pub NamesItsCall : Script → Named → Type 0
NamesItsCall script one = NamesCallOf script one.id.rank one.item

-- The entries of all logs have the places from 0 on, each once, and each names a call of its rank. So the board's rows
-- are these entries in the order of their places.
pub record HasEntries (script : Script) (run : Run) : Type 0 where
  pub calls : AllByRecursion (NamesItsCall script) (named_items run)
  pub places : (place : ℕ) →
      count_by (is_named_entry_at place) (named_items run)
      ≡ (if nat_lt place (count_by is_some_entry (named_items run)) then 1 else 0)

-- each entry is allowed, and not refused, after the entries before it
abbrev pub AreAllowed : ℕ → List Row → List Row → Type 0
AreAllowed ranks before [] = Unit {0}
AreAllowed ranks before (row ∷ rows) = (decide ranks before row ≡ Allow) × AreAllowed ranks (before ++ row ∷ []) rows

-- a look of the rank saw what it says: the board refuses the call by this class, or does not yet allow the testwin,
-- which is then false
abbrev pub IsLook : ℕ → List Row → ℕ → List Call → Item → Type 0
IsLook ranks rows rank calls (Refused number class zero) = Unit {0}
IsLook ranks rows rank calls (Refused number class (suc before)) =
    IsSomeAnd (slice_get calls number)
    (λ call. shared_class ranks (take (suc before) rows) (first_row rank number call) ≡ Some class)
IsLook ranks rows rank calls (Tested number seen) =
    IsSomeAnd (slice_get calls number) (λ call. decide ranks (take seen rows) (first_row rank number call) ≡ NotYet)
IsLook ranks rows rank calls other = Unit {0}

-- an entry at a place, or a look that saw so many entries
pub data Moment : Type 0 where
  EntryAt : ℕ → Moment
  LookAfter : ℕ → Moment

abbrev pub moment_by : Item → List Moment
moment_by (Entry number place step) = EntryAt place ∷ []
moment_by (Tested number seen) = LookAfter seen ∷ []
moment_by (Refused number class zero) = []
moment_by (Refused number class (suc before)) = LookAfter (suc before) ∷ []
moment_by other = []

abbrev pub moments_in : List Item → List Moment
moments_in log = flat_map moment_by log

-- The first stands before the second in a log. Places ascend. A look sees each entry before it, no fewer than a look
-- before it, and no entry after it.
abbrev pub IsBefore : Moment → Moment → Type 0
IsBefore (EntryAt first) (EntryAt second) = first < second
IsBefore (EntryAt place) (LookAfter seen) = place < seen
IsBefore (LookAfter first) (LookAfter second) = first ≤ second
IsBefore (LookAfter seen) (EntryAt place) = seen ≤ place

-- a look saw no more entries than there are
abbrev pub IsWithin : ℕ → Moment → Type 0
IsWithin entries (EntryAt place) = place < entries
IsWithin entries (LookAfter seen) = seen ≤ entries

-- the looks of a rank
pub record HasLawfulLooks (script : Script) (rows : List Row) (rank : ℕ) (log : List Item) : Type 0 where
  pub looks : AllByRecursion (IsLook script.ranks rows rank (calls_of script rank)) log
  pub moments : EachPair IsBefore (moments_in log)
  pub within : AllByRecursion (IsWithin (length rows)) (moments_in log)

-- the board's part of a lawful run
pub record HasLawfulBoard (script : Script) (run : Run) : Type 0 where
  pub entries : HasEntries script run
  pub allowed : AreAllowed script.ranks [] (rows_of script run)
  pub looks : (rank : ℕ) → rank < script.ranks → HasLawfulLooks script (rows_of script run) rank (log_of run rank)
