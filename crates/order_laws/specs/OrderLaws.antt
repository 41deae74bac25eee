-- Laws of the order of a run: MPI 3.1, section 11.7, in this project's profile.
use Rattle.std.specs.Prelude.{◌≡◌, ◌≤◌, ◌<◌, ◌↔◌, IsTrue, Contains}
use Rattle.rma_types.specs.declared.accesses.Id.{Id}
use Rattle.rma_types.specs.declared.schedules.Delay.{Delay}
use Rattle.rma_types.specs.declared.schedules.Delay.TheVariants.{Seeded}
use Rattle.rma_types.specs.declared.scripts.Script.{Script}
use Rattle.rma_record.specs.declared.runs.Run.{Run}
use Rattle.lawful_runs.specs.LawfulRun.{IsLawful}
use Rattle.order_rules.specs.Before.{Before, NamedEvent, events_in, is_edge_between}

abbrev pub IsTransitive : Type 0
IsTransitive = (script : Script) (run : Run) (a b c : Id) →
    Before script run a b → Before script run b c → Before script run a c

-- of two items of one log, one is before the other exactly where it is the other or stands before it
abbrev pub AgreesWithLogs : Type 0
AgreesWithLogs = (script : Script) (delay : Delay) (run : Run) → IsLawful script delay run →
    (a b : Id) → a.rank ≡ b.rank → Before script run a b ↔ (a.index ≤ b.index)

-- an edge leads to an entry of a greater place
abbrev pub EdgesAscend : Type 0
EdgesAscend = (script : Script) (delay : Delay) (run : Run) → IsLawful script delay run →
    (a b : NamedEvent) → Contains (events_in script run) a → Contains (events_in script run) b →
    IsTrue (is_edge_between a b) → a.event.place < b.event.place

-- a run that is lawful with any delay is lawful where accesses may be touched at drawn moments
abbrev pub DelaysAreDrawn : Type 0
DelaysAreDrawn = (script : Script) (delay : Delay) (run : Run) → IsLawful script delay run → IsLawful script Seeded run
