-- The clocks of a run by rank: for each entry of the board that a rank made, the item that it is, and how many items
-- of each log are before it or are it. MPI 3.1, section 11.7, in this project's profile of order.
use Rattle.std.specs.Prelude.{ℕ, ◌<◌, ◌≤◌, Bool, Contains, ◌∷◌, replicate, ◌&&◌, ◌||◌, ◌==◌, nat_lt, nat_le, List, []}
use Rattle.std.specs.Prelude.{slice_index, slice_index_or}
use Rattle.std.specs.List.{list_any}
use Rattle.rma_types.specs.declared.accesses.Id.{Id}
use Rattle.vector_clocks.specs.declared.marks.Mark.{Mark}

-- the marks of a rank, in the order of its log
abbrev pub marks_of : List (List Mark) → ℕ → List Mark
marks_of clocks rank = slice_index_or clocks rank []

-- the entry does not stand after the item of this index, and counts the first item
abbrev pub is_marked : Id → ℕ → Mark → Bool
is_marked a index mark = nat_le mark.index index && nat_lt a.index (slice_index mark.counts a.rank)

-- by the clocks, the first item is before the second or is it
abbrev pub before_in : List (List Mark) → Id → Id → Bool
before_in clocks a b =
    (a.rank == b.rank && nat_le a.index b.index) || list_any (is_marked a b.index) (marks_of clocks b.rank)

-- ---- their order

-- the first mark stands before the second in one log, and counts no more
pub record IsBelow (a b : Mark) : Type 0 where
  pub stands : a.index < b.index
  pub counts : (rank : ℕ) → slice_index a.counts rank ≤ slice_index b.counts rank

-- each mark is below those after it
abbrev pub IsSorted : List Mark → Type 0
IsSorted [] = Unit {0}
IsSorted (mark ∷ rest) = ((later : Mark) → Contains rest later → IsBelow mark later) × IsSorted rest

abbrev pub AreSorted : List (List Mark) → Type 0
AreSorted clocks = (rank : ℕ) → IsSorted (marks_of clocks rank)

-- the numbers after these marks: those of the last, or none
abbrev pub last_counts : List Mark → List ℕ
last_counts [] = replicate 16 0
last_counts (mark ∷ []) = mark.counts
last_counts (mark ∷ other ∷ rest) = last_counts (other ∷ rest)
