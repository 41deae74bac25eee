-- That an access lies in the memory of its target: MPI 3.1, sections 11.2 and 11.3.
use Rattle.std.specs.Prelude.{ℕ, ◌≡◌, ◌+◌, ◌%◌, ◌<◌, ◌≤◌, ◌==◌, Bool, true, false, List, [], ◌∷◌, ◌++◌, Option, Some}
use Rattle.std.specs.Prelude.{None, slice_get}
use Rattle.std.specs.List.{count_by, AllByRecursion}
use Rattle.std.specs.Option.{option_map_or}
use Rattle.rma_types.specs.declared.accesses.Access.{Access}
use Rattle.rma_types.specs.declared.calls.Call.{Call}
use Rattle.rma_types.specs.declared.dtypes.Dtype.{Dtype}
use Rattle.rma_types.specs.declared.schedules.Delay.{Delay}
use Rattle.rma_types.specs.declared.schedules.Order.{Order}
use Rattle.rma_types.specs.declared.scripts.Layout.{Layout}
use Rattle.rma_types.specs.declared.scripts.MemoryPart.{MemoryPart}
use Rattle.rma_types.specs.declared.scripts.Script.{Script}
use Rattle.rma_types.specs.Datatypes.{size_of}
use Rattle.board_rules.specs.Entries.{creations}
use Rattle.call_rules.specs.declared.elements.Piece.{Piece}
use Rattle.rma_types.specs.declared.actions.Creation.{Creation}
use Rattle.rma_types.specs.declared.actions.Transfer.{Transfer}
use Rattle.rma_types.specs.Actions.{creation_of}
use Rattle.call_rules.specs.Layout.{layout, cells_of}
use Rattle.call_rules.specs.Pieces.{pieces}
use Rattle.call_rules.specs.WellFormed.{IsWellFormed}
use Rattle.lawful_runs.specs.Accesses.{transfer_at}
use Rattle.lawful_runs.specs.Logs.{calls_of}
use Rattle.lawful_runs.specs.Stages.{Stage, stage_of}
use Rattle.rank_rules.specs.declared.pending.PendingAccess.{PendingAccess}
use Rattle.step_runs.specs.Agents.{Agent, next_call, tries_entry}
use Rattle.step_runs.specs.DataSteps.{move_of}
use Rattle.step_runs.specs.StepRun.{World, agent_at, run_from, first_world}

-- the bytes of a rank's memory, and none where there is no such rank
abbrev pub bytes_at : Layout → ℕ → ℕ
bytes_at memory rank = option_map_or (λ (part : MemoryPart). part.bytes) (slice_get memory.parts rank) 0

-- each byte of the access lies in its target's memory, and its first element is aligned
pub record LiesInMemory (memory : Layout) (access : Access) (dtype : Dtype) : Type 0 where
  pub inside : (address : ℕ) → access.lo ≤ address → address < access.lo + access.len →
      address < bytes_at memory access.target
  pub aligned : access.lo % size_of dtype ≡ 0

-- ---- ranks

-- the transfer of a pending access of the rank lies in memory
abbrev pub IsPendingInside : Script → ℕ → PendingAccess → Type 0
IsPendingInside script rank one =
    (t : Transfer) × (transfer_at (calls_of script rank) one.number ≡ Some t)
    × LiesInMemory (layout script) one.access t.dtype

abbrev pub ArePendingInside : Script → ℕ → Agent → Type 0
ArePendingInside script rank agent = AllByRecursion (IsPendingInside script rank) agent.pending

-- The names of the windows that the rank has made, and of the one whose creation it has begun.
abbrev pub begun_names : Bool → Option Call → List ℕ
begun_names false call = []
begun_names true None = []
begun_names true (Some call) = option_map_or (λ (creation : Creation). creation.win ∷ []) (creation_of call) []

abbrev pub names_so_far : Stage → Agent → List ℕ
names_so_far stage agent = agent.known.windows.created ++ begun_names agent.entered (next_call stage agent)

-- the state after so many turns
abbrev pub world_after : Script → Order → Delay → ℕ → ℕ → World
world_after script order delay seed turns =
    let stage = stage_of script delay in run_from stage order turns (first_world stage order seed)

-- After any number of turns, what is pending lies in memory, and so does what a rank delivers in its next turn.
abbrev pub AccessesLieInMemory : Type 0
AccessesLieInMemory = (script : Script) (order : Order) (delay : Delay) (seed turns rank : ℕ) → IsWellFormed script →
    rank < script.ranks →
    let stage = stage_of script delay in
    let agent = agent_at stage (world_after script order delay seed turns) rank in
    ArePendingInside script rank agent
    × (tries_entry stage agent ≡ false → ArePendingInside script rank (move_of stage agent).agent)

-- The board and each rank agree how many windows of a name the rank has begun to make, and so on their numbers.
abbrev pub WindowNumbersAgree : Type 0
WindowNumbersAgree = (script : Script) (order : Order) (delay : Delay) (seed turns rank win : ℕ) → IsWellFormed script →
    rank < script.ranks →
    let stage = stage_of script delay in
    let world = world_after script order delay seed turns in
    creations world.rows rank win ≡ count_by (λ name. name == win) (names_so_far stage (agent_at stage world rank))

-- each element of an access that lies in memory is in a cell of the layout
abbrev pub PiecesLieInCells : Type 0
PiecesLieInCells = (script : Script) (access : Access) (dtype : Dtype) → LiesInMemory (layout script) access dtype →
    AllByRecursion (λ (piece : Piece). piece.cell < cells_of (layout script)) (pieces (layout script) access dtype)
