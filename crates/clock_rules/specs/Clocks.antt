-- Vector clocks of the entries of a run: for each entry, how many items of each log are before it or are it. MPI 3.1,
-- section 11.7, in this project's profile of order.
use Rattle.std.specs.Prelude.{ℕ, ◌+◌, ◌<◌, ◌≤◌, ◌≡◌, ◌⊎◌, max, Bool, ◌&&◌, ◌||◌, ◌==◌, nat_lt, nat_le, if◌then◌else◌}
use Rattle.std.specs.Prelude.{IsTrue, Contains, List, [], ◌∷◌, ◌++◌, map, replicate, slice_index, slice_set}
use Rattle.std.specs.List.{list_any}
use Rattle.rma_types.specs.declared.accesses.Id.{Id}
use Rattle.rma_types.specs.declared.scripts.Script.{Script}
use Rattle.rma_record.specs.declared.runs.Run.{Run}
use Rattle.order_rules.specs.Before.{NamedEvent, events_in, is_edge_between}

-- an entry with its clock: one number for each rank, which counts the items of its log from the first on
pub record Stamp : Type 0 where
  pub entry : NamedEvent
  pub counts : List ℕ

-- the number of a rank in a clock
abbrev pub count_in : Stamp → ℕ → ℕ
count_in stamp rank = slice_index stamp.counts rank

-- the first name stands before the second in one log
abbrev pub stands_before : Id → Id → Bool
stands_before a b = a.rank == b.rank && nat_lt a.index b.index

-- the first entry directly precedes the second: in its log, or by an edge
abbrev pub precedes : NamedEvent → NamedEvent → Bool
precedes a b = stands_before a.id b.id || is_edge_between a b

-- the greater of each two numbers
abbrev pub join_counts : List ℕ → List ℕ → List ℕ
join_counts [] others = others
join_counts (count ∷ counts) [] = count ∷ counts
join_counts (count ∷ counts) (other ∷ others) = max count other ∷ join_counts counts others

-- the numbers of an item by itself: it and the items before it in its log
abbrev pub own_counts : ℕ → Id → List ℕ
own_counts ranks id = slice_set (replicate ranks 0) id.rank (id.index + 1)

-- the join of the clocks of the entries that directly precede an entry, and of these numbers
abbrev pub joined_with : List Stamp → NamedEvent → List ℕ → List ℕ
joined_with [] entry counts = counts
joined_with (stamp ∷ stamps) entry counts =
    let rest = joined_with stamps entry counts in
    if precedes stamp.entry entry then join_counts stamp.counts rest else rest

-- the stamp of an entry, after those of the entries before it
abbrev pub stamp_after : ℕ → List Stamp → NamedEvent → Stamp
stamp_after ranks stamps entry =
    record { entry = entry; counts = joined_with stamps entry (own_counts ranks entry.id) }

-- the stamps of some entries, in the order of their places, after those of the entries before them
abbrev pub stamps_after : ℕ → List Stamp → List NamedEvent → List Stamp
stamps_after ranks stamps [] = stamps
stamps_after ranks stamps (entry ∷ entries) =
    stamps_after ranks (stamps ++ stamp_after ranks stamps entry ∷ []) entries

-- the stamps of the entries of a run
abbrev pub stamps_in : Script → Run → List Stamp
stamps_in script run = stamps_after script.ranks [] (events_in script run)

-- the stamped entry stands in the log of the second item, not after it, and counts the first
abbrev pub is_counted_by : Id → Id → Stamp → Bool
is_counted_by a b stamp =
    stamp.entry.id.rank == b.rank && nat_le stamp.entry.id.index b.index && nat_lt a.index (count_in stamp a.rank)

-- by the stamps, the first item is before the second or is it
abbrev pub is_counted : List Stamp → Id → Id → Bool
is_counted stamps a b = (a.rank == b.rank && nat_le a.index b.index) || list_any (is_counted_by a b) stamps

-- ---- laws of clocks

-- an item that the clock of an entry counts is the entry or stands before it in its log, or is counted by an entry that
-- directly precedes it
abbrev pub IsCountedFrom : List Stamp → NamedEvent → Id → Type 0
IsCountedFrom stamps entry a =
    ((a.rank ≡ entry.id.rank) × (a.index ≤ entry.id.index))
    ⊎ ((earlier : Stamp) × Contains stamps earlier
    × IsTrue (precedes earlier.entry entry) × (a.index < count_in earlier a.rank))

-- the clocks of the entries of a run, made in any way
pub record KeepClockLaws (script : Script) (run : Run) (stamps : List Stamp) : Type 0 where
  -- each entry has one
  pub entries : map (λ (stamp : Stamp). stamp.entry) stamps ≡ events_in script run
  -- an entry counts itself
  pub own : (stamp : Stamp) → Contains stamps stamp → stamp.entry.id.index < count_in stamp stamp.entry.id.rank
  -- an entry counts what those count that directly precede it
  pub joins : (earlier later : Stamp) → Contains stamps earlier → Contains stamps later →
      IsTrue (precedes earlier.entry later.entry) → (rank : ℕ) → count_in earlier rank ≤ count_in later rank
  -- and nothing else
  pub cause : (stamp : Stamp) → Contains stamps stamp → (a : Id) →
      a.index < count_in stamp a.rank → IsCountedFrom stamps stamp.entry a
