-- That entries without the values of their calls are enough: for the board's answer to a next entry, for the numbers
-- and the parts of windows, for edges, and for what a next entry gains. This project's profile of MPI 3.1, sections
-- 11.5 and 11.7.
use Rattle.std.specs.Prelude.{◌≡◌, ℕ, List, map}
use Rattle.rma_types.specs.declared.scripts.Layout.{Layout}
use Rattle.board_rules.specs.Board.{decide}
use Rattle.board_rules.specs.Edges.{Event, events_of, is_edge}
use Rattle.board_rules.specs.Entries.{Row, Act, acts, window_of}
use Rattle.board_rules.specs.Shapes.{parts_of}
use Rattle.kept_rows.specs.Gifts.{Given, gained_by, next_event}
use Rattle.rma_types.specs.KeptCalls.{kept_call}
use Rattle.kept_rows.specs.KeptCalls.{kept_row}

abbrev pub kept_rows : List Row → List Row
kept_rows rows = map kept_row rows

-- an entry of a window, as it is kept
abbrev pub kept_act : Act → Act
kept_act act = record act { row = kept_row act.row }

abbrev pub kept_acts : List Act → List Act
kept_acts entries = map kept_act entries

-- an event of kept entries, whose own call is kept too
abbrev pub kept_event : Event → Event
kept_event event = record {
  place = event.place;
  step = event.step;
  asked = record event.asked { entries = kept_acts event.asked.entries; call = kept_call event.asked.call };
}

abbrev pub kept_given : Given → Given
kept_given one = record one { row = kept_row one.row }

-- the answer to a next entry, which is asked with its values
abbrev pub DecisionsNeedNoValues : Type 0
DecisionsNeedNoValues = (ranks : ℕ) (rows : List Row) (row : Row) →
    decide ranks (kept_rows rows) row ≡ decide ranks rows row

abbrev pub WindowsNeedNoValues : Type 0
WindowsNeedNoValues = (rows : List Row) (row : Row) → window_of (kept_rows rows) row ≡ window_of rows row

abbrev pub PartsNeedNoValues : Type 0
PartsNeedNoValues = (layout : Layout) (ranks : ℕ) (rows : List Row) (window : ℕ) →
    parts_of layout ranks (acts (kept_rows rows)) window ≡ parts_of layout ranks (acts rows) window

-- the events of kept rows are those of the rows, as they are kept
abbrev pub EventsAreKept : Type 0
EventsAreKept = (ranks : ℕ) (rows : List Row) → events_of ranks (kept_rows rows) ≡ map kept_event (events_of ranks rows)

-- an edge leads from one event to the other, whether one of them is kept, or both, or none
pub record EdgesNeedNoValues : Type 0 where
  pub from : (a b : Event) → is_edge (kept_event a) b ≡ is_edge a b
  pub to : (a b : Event) → is_edge a (kept_event b) ≡ is_edge a b
  pub next : (ranks : ℕ) (rows : List Row) (row : Row) (a : Event) →
      is_edge a (next_event ranks (kept_rows rows) row) ≡ is_edge a (next_event ranks rows row)

abbrev pub GainsNeedNoValues : Type 0
GainsNeedNoValues = (ranks : ℕ) (entries : List Given) (row : Row) →
    gained_by ranks (map kept_given entries) row ≡ gained_by ranks entries row
