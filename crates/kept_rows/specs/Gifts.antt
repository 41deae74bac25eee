-- The entries of the board with what their ranks gave with them, and what a next entry gains: MPI 3.1, section 11.7, in
-- this project's profile of order.
use Rattle.std.specs.Prelude.{ℕ, List, [], ◌∷◌, length, map, Option, Some, None, if◌then◌else◌}
use Rattle.std.specs.List.{flat_map, fold, zip}
use Rattle.std.specs.Option.{option_map_or}
use Rattle.board_rules.specs.Edges.{Event, events_of, is_edge}
use Rattle.board_rules.specs.Entries.{Row}
use Rattle.board_rules.specs.Questions.{question}
use Rattle.cell_face.specs.Fronts.{greater_front}

-- the front of a token, where it tells one: for each cell a lowest place
abbrev pub Front : Type 0
Front = Option (List ℕ)

-- an entry, and the front of the token that its rank gave with it, if it gave one
pub record Given : Type 0 where
  pub row : Row
  pub gift : Option Front

abbrev pub rows_given : List Given → List Row
rows_given entries = map (λ (one : Given). one.row) entries

-- a next entry after these
abbrev pub next_event : ℕ → List Row → Row → Event
next_event ranks before row = record { place = length before; step = row.step; asked = question ranks before row }

-- the gift of an entry, where an edge leads from it to the event
abbrev pub gift_to : Event → (Event × Given) → List Front
gift_to event (from, one) = if is_edge from event then option_map_or (λ front. front ∷ []) one.gift [] else []

-- the gifts of exactly those entries from which an edge leads to the next one, in the order of their places
abbrev pub gifts_to : ℕ → List Given → Row → List Front
gifts_to ranks entries row =
    let rows = rows_given entries in
    flat_map (gift_to (next_event ranks rows row)) (zip (events_of ranks rows) entries)

-- what tokens with these fronts carry together: for each cell the greatest of their places; none where there is no
-- token
abbrev pub gained_of : List Front → Option Front
gained_of [] = None
gained_of (front ∷ fronts) = Some (fold greater_front front fronts)

-- what the next entry gains
abbrev pub gained_by : ℕ → List Given → Row → Option Front
gained_by ranks entries row = gained_of (gifts_to ranks entries row)
