-- What a rank can still touch, and what it gives with its entries: this project's profile of MPI 3.1, section 11.7.
use Rattle.std.specs.Prelude.{ℕ, ◌≤◌, ◌≢◌, List, [], ◌∷◌, ◌++◌, length, map, IsTrue}
use Rattle.std.specs.List.{AllByRecursion}
use Rattle.board_rules.specs.Edges.{Event, is_edge}
use Rattle.board_rules.specs.Entries.{Row}
use Rattle.board_rules.specs.Questions.{question}

-- for each cell the least place at which the rank can still touch it
abbrev pub Lows : Type 0
Lows = ℕ → ℕ

-- before its first touch a rank can touch every state of a cell
abbrev pub first_lows : Lows
first_lows cell = 0

-- each low of the first is at or below that of the second
abbrev pub AreAtMost : Lows → Lows → Type 0
AreAtMost lows after = (cell : ℕ) → lows cell ≤ after cell

-- an entry of the board, and its front: where an edge leads from it, nothing that its rank touches later lies below it
pub record Put : Type 0 where
  pub row : Row
  pub front : Lows

abbrev pub rows_put : List Put → List Row
rows_put puts = map (λ (put : Put). put.row) puts

-- none of the entries is the rank's
abbrev pub AreOthers : ℕ → List Put → Type 0
AreOthers rank puts = AllByRecursion (λ (put : Put). put.row.rank ≢ rank) puts

-- ---- edges that are met

-- an entry after those before it
abbrev pub event_after : ℕ → List Row → Row → Event
event_after ranks before row = record { place = length before; step = row.step; asked = question ranks before row }

-- the fronts of those of the later puts that have an edge to the event are at or below the lows
abbrev pub AreMetFrom : ℕ → List Put → List Put → Event → Lows → Type 0
AreMetFrom ranks before [] event lows = Unit {0}
AreMetFrom ranks before (put ∷ puts) event lows =
    (IsTrue (is_edge (event_after ranks (rows_put before) put.row) event) → AreAtMost put.front lows)
    × AreMetFrom ranks (before ++ put ∷ []) puts event lows

-- the lows are at or above the front of each entry before the row that has an edge to it
abbrev pub MeetsEdges : ℕ → List Put → Row → Lows → Type 0
MeetsEdges ranks before row lows = AreMetFrom ranks [] before (event_after ranks (rows_put before) row) lows

-- where an edge leads from the event, the front lies between the lows before it and those after it
abbrev pub LiesBetween : Event → (lows front after : Lows) → Type 0
LiesBetween event lows front after =
    (later : Event) → IsTrue (is_edge event later) → AreAtMost lows front × AreAtMost front after

-- The rank puts these entries in one step, after those before. The front of each from which an edge leads lies between
-- the lows before it and those after it, which meet each edge to it. Lows never fall.
abbrev pub ArePut : ℕ → List Put → Lows → List Put → Lows → Type 0
ArePut ranks before lows [] after = AreAtMost lows after
ArePut ranks before lows (put ∷ puts) after =
    (middle : Lows) × AreAtMost lows middle
    × LiesBetween (event_after ranks (rows_put before) put.row) lows put.front middle
    × MeetsEdges ranks before put.row middle
    × ArePut ranks (before ++ put ∷ []) middle puts after
