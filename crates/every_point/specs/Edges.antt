-- The entries of a run as they come one after the other, where one alone gives something: this project's record of a
-- run.
use Rattle.std.specs.Prelude.{ℕ, ◌≡◌, Bool, is_some, if◌then◌else◌, List, ◌∷◌, [], ◌++◌, map, replicate, take}
use Rattle.std.specs.Prelude.{Option, Some, None}
use Rattle.std.specs.List.{filter, list_any}
use Rattle.rma_types.specs.declared.accesses.Id.{Id}
use Rattle.rma_types.specs.declared.calls.Call.{Call}
use Rattle.rma_types.specs.declared.scripts.Script.{Script}
use Rattle.rma_record.specs.declared.runs.Run.{Run}
use Rattle.board_rules.specs.Edges.{events_of}
use Rattle.board_rules.specs.Entries.{Row}
use Rattle.kept_rows.specs.Gifts.{Front, Given, gained_by}
use Rattle.kept_rows.specs.KeptCalls.{kept_row}
use Rattle.entry_gains.specs.ByPlace.{KeepsInOrder}
use Rattle.entry_gains.specs.declared.by_place.GainsByPlace.{GainsByPlace}
use Rattle.lawful_runs.specs.Logs.{rows_of}
use Rattle.order_rules.specs.Before.{NamedEvent, events_in, events_named, is_edge_between, is_same_id}
use Rattle.vector_clocks.specs.Rows.{row_placed}
use Rattle.vector_clocks.specs.declared.places.Placed.{Placed}

-- ---- edges from one entry

-- an edge leads to the event from the entry of this name
abbrev pub is_led_from : List NamedEvent → Id → NamedEvent → Bool
is_led_from events from x = list_any (λ first. is_edge_between first x) (events_named events from)

-- the names of those of some events to which an edge leads from the entry of this name
abbrev pub led_among : List NamedEvent → Id → List NamedEvent → List Id
led_among events from some = map (λ (x : NamedEvent). x.id) (filter (is_led_from events from) some)

-- one of the names is this one
abbrev pub is_among : List Id → Id → Bool
is_among ids id = list_any (λ one. is_same_id one id) ids

-- ---- entries that come

-- what is given with an entry: something, where it is the one of this name
abbrev pub mark_of : Id → Id → Option Front
mark_of from id = if is_same_id id from then Some (Some (replicate 16 0)) else None

-- an entry that came: the entry as the order has it, and the board's row
pub record Seen : Type 0 where
  pub entry : NamedEvent
  pub row : Row

abbrev pub given_seen : Id → Seen → Given
given_seen from s = record { row = kept_row s.row; gift = mark_of from s.entry.id }

-- so many entries of the run came, and these are the names of those to which an edge leads from the one
pub record Replayed (script : Script) (run : Run) (from : Id) (count : ℕ) (gains : GainsByPlace) (led : List Id)
    : Type 0 where
  pub seen : List Seen
  pub events : map (λ (s : Seen). s.entry) seen ≡ take count (events_in script run)
  pub asked : map (λ (s : Seen). s.entry.event) seen ≡ events_of script.ranks (map (λ (s : Seen). s.row) seen)
  pub rows : map (λ (s : Seen). s.row) seen ≡ take count (rows_of script run)
  pub kept : KeepsInOrder script.ranks (map (given_seen from) seen) gains
  pub names : led ≡ led_among (events_in script run) from (take count (events_in script run))

-- an entry came to the gains, and it gained something or not
pub record IsPut (ranks : ℕ) (from : Id) (one : Placed) (call : Call) (entries : List Given) (does_gain : Bool)
    (gains : GainsByPlace) : Type 0 where
  pub gained : does_gain ≡ is_some (gained_by ranks entries (row_placed one call))
  pub kept : KeepsInOrder ranks
      (entries ++ record { row = kept_row (row_placed one call); gift = mark_of from one.id } ∷ []) gains
