-- The order of a run: MPI 3.1, section 11.7, in this project's profile. An item is before another where the order of
-- a log or an edge between two entries leads from the one to the other, directly or through others.
use Rattle.std.specs.Prelude.{◌≡◌, ◌<◌, ◌↔◌, Bool, ◌&&◌, ◌==◌, IsTrue, List, map}
use Rattle.std.specs.List.{filter, list_any, zip}
use Rattle.rma_types.specs.declared.accesses.Id.{Id}
use Rattle.rma_types.specs.declared.scripts.Script.{Script}
use Rattle.rma_record.specs.declared.runs.Run.{Run}
use Rattle.board_rules.specs.Edges.{Event, events_of, is_edge}
use Rattle.lawful_runs.specs.Logs.{Named, entries_of, rows_of}

-- ---- edges

-- an entry of a run: its name, and the event that it is
pub record NamedEvent : Type 0 where
  pub id : Id
  pub event : Event

abbrev pub named_event : (Named × Event) → NamedEvent
named_event (one, event) = record { id = one.id; event = event }

-- the entries of a run, in the order of their places
abbrev pub events_in : Script → Run → List NamedEvent
events_in script run = map named_event (zip (entries_of run) (events_of script.ranks (rows_of script run)))

abbrev pub is_same_id : Id → Id → Bool
is_same_id a b = a.rank == b.rank && a.index == b.index

-- the entry of this name, where the item of this name is one
abbrev pub events_named : List NamedEvent → Id → List NamedEvent
events_named events id = filter (λ (one : NamedEvent). is_same_id one.id id) events

abbrev pub is_edge_between : NamedEvent → NamedEvent → Bool
is_edge_between a b = is_edge a.event b.event

-- an edge leads from the entry of the first name to that of the second
abbrev pub leads_to : List NamedEvent → Id → Id → Bool
leads_to events a b =
    list_any (λ first. list_any (is_edge_between first) (events_named events b)) (events_named events a)

abbrev pub IsEdge : Script → Run → Id → Id → Type 0
IsEdge script run a b = IsTrue (leads_to (events_in script run) a b)

-- ---- the order

-- the first item stands before the second in one log
abbrev pub StandsBefore : Id → Id → Type 0
StandsBefore a b = (a.rank ≡ b.rank) × (a.index < b.index)

-- the transitive and reflexive closure of the order of the logs and of the edges
pub data Before (script : Script) (run : Run) (a : Id) : Id → Type 0 where
  Same : Before script run a a
  InLog : {b c : Id} → Before script run a b → StandsBefore b c → Before script run a c
  Across : {b c : Id} → Before script run a b → IsEdge script run b c → Before script run a c

-- the test says of each two names whether the first is before the second
abbrev pub IsOrder : Script → Run → (Id → Id → Bool) → Type 0
IsOrder script run before = (a b : Id) → IsTrue (before a b) ↔ Before script run a b
