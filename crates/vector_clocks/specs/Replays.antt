-- The entries of a run as they are replayed, each with its clock and with what its rank gave: this project's record
-- of a run.
use Rattle.std.specs.Prelude.{ℕ, ◌≡◌, ◌<◌, ◌≤◌, ◌==◌, false, IsTrue, Contains, List, [], ◌∷◌, ◌++◌, map, take, length}
use Rattle.std.specs.Prelude.{if◌then◌else◌, slice_set, Option, Some}
use Rattle.std.specs.Option.{option_map}
use Rattle.rma_types.specs.declared.calls.Call.{Call}
use Rattle.rma_types.specs.declared.accesses.Id.{Id}
use Rattle.rma_types.specs.declared.scripts.Script.{Script}
use Rattle.rma_record.specs.declared.runs.Run.{Run}
use Rattle.board_rules.specs.Edges.{events_of}
use Rattle.board_rules.specs.Entries.{Row}
use Rattle.clock_rules.specs.Clocks.{Stamp, IsCountedFrom, count_in}
use Rattle.kept_rows.specs.Gifts.{Given, gained_by}
use Rattle.kept_rows.specs.KeptCalls.{kept_row}
use Rattle.entry_gains.specs.ByPlace.{KeepsInOrder}
use Rattle.entry_gains.specs.declared.by_place.GainsByPlace.{GainsByPlace}
use Rattle.lawful_runs.specs.Logs.{rows_of}
use Rattle.order_rules.specs.Before.{events_in, is_edge_between}
use Rattle.vector_clocks.specs.Marks.{marks_of, last_counts}
use Rattle.vector_clocks.specs.Numbers.{raised, counts_of}
use Rattle.vector_clocks.specs.declared.marks.Mark.{Mark}
use Rattle.vector_clocks.specs.Rows.{row_placed}
use Rattle.vector_clocks.specs.declared.places.Placed.{Placed}

-- an entry that was replayed: the board's row, the entry with its clock, and the numbers that its rank gave with it
pub record Told : Type 0 where
  pub row : Row
  pub stamp : Stamp
  pub gift : List ℕ

abbrev pub id_told : Told → Id
id_told t = t.stamp.entry.id

abbrev pub stamps_told : List Told → List Stamp
stamps_told told = map (λ (t : Told). t.stamp) told

-- the entry as it was given
abbrev pub given_told : Told → Given
given_told t = record { row = kept_row t.row; gift = Some (Some t.gift) }

-- The clock of the next entry after some: it counts its own item, what the entries count that stand in its log or
-- that lead to it, and nothing else. What its rank gave is its clock, where nothing leads to it.
pub record IsNext (before : List Told) (t : Told) : Type 0 where
  pub own : (id_told t).index < count_in t.stamp (id_told t).rank
  pub up : (s : Told) → Contains before s → (id_told s).rank ≡ (id_told t).rank → (id_told s).index < (id_told t).index
  pub log : (s : Told) → Contains before s → (id_told s).rank ≡ (id_told t).rank →
      (rank : ℕ) → count_in s.stamp rank ≤ count_in t.stamp rank
  pub edge : (s : Told) → Contains before s → IsTrue (is_edge_between s.stamp.entry t.stamp.entry) →
      (rank : ℕ) → count_in s.stamp rank ≤ count_in t.stamp rank
  pub cause : (a : Id) → a.index < count_in t.stamp a.rank → IsCountedFrom (stamps_told before) t.stamp.entry a
  pub given : ((s : Told) → Contains before s → is_edge_between s.stamp.entry t.stamp.entry ≡ false) →
      t.gift ≡ t.stamp.counts

-- each of the second list is the next after those before it
abbrev pub AreNext : List Told → List Told → Type 0
AreNext before [] = Unit {0}
AreNext before (t ∷ rest) = IsNext before t × AreNext (before ++ t ∷ []) rest

-- ---- the clocks by rank

abbrev pub mark_told : Told → Mark
mark_told t = record { index = (id_told t).index; counts = t.stamp.counts }

abbrev pub marks_told : ℕ → List Told → List Mark
marks_told rank [] = []
marks_told rank (t ∷ rest) =
    if (id_told t).rank == rank then mark_told t ∷ marks_told rank rest else marks_told rank rest

-- so many entries of the run were replayed: the gains are those after them, and they have these clocks
pub record Replayed (script : Script) (run : Run) (count : ℕ) (gains : GainsByPlace) (clocks : List (List Mark))
    : Type 0 where
  pub told : List Told
  pub next : AreNext [] told
  pub events : map (λ (t : Told). t.stamp.entry) told ≡ take count (events_in script run)
  pub asked : map (λ (t : Told). t.stamp.entry.event) told ≡ events_of script.ranks (map (λ (t : Told). t.row) told)
  pub rows : map (λ (t : Told). t.row) told ≡ take count (rows_of script run)
  pub kept : KeepsInOrder script.ranks (map given_told told) gains
  pub marks : (rank : ℕ) → marks_of clocks rank ≡ marks_told rank told

-- ---- one entry more

-- An entry came to the gains and to the clocks of its rank: the numbers of its rank before it, with its own item, are
-- what its rank gave, and its clock is these with what it gained.
pub record IsPut (ranks : ℕ) (one : Placed) (call : Call) (entries : List Given) (clocks : List (List Mark))
    (gains : GainsByPlace) (later : List (List Mark)) : Type 0 where
  pub prev : List ℕ
  pub gained : Option (List ℕ)
  pub last : prev ≡ last_counts (marks_of clocks one.id.rank)
  pub wide : one.id.rank < length prev
  pub within : one.id.rank < length clocks
  pub gains_it : option_map Some gained ≡ gained_by ranks entries (row_placed one call)
  pub kept : KeepsInOrder ranks (entries ++ record {
    row = kept_row (row_placed one call);
    gift = Some (Some (raised prev one.id.rank one.id.index));
  } ∷ []) gains
  pub marks : later ≡ slice_set clocks one.id.rank (marks_of clocks one.id.rank
      ++ record { index = one.id.index; counts = counts_of gained (raised prev one.id.rank one.id.index) } ∷ [])
