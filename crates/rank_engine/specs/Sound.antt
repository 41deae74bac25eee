-- What holds of a rank between any two of its steps: its script can be said by a text, what it knows and what is
-- pending lies in memory, and it has numbered its windows as the board does. MPI 3.1, sections 11.2, 11.3 and 11.7.
use Rattle.std.specs.Prelude.{ℕ, ◌≡◌, ◌≤◌, ◌<◌, ◌==◌, true, List, [], ◌∷◌, slice_get, is_some, Option, Some, None}
use Rattle.std.specs.Prelude.{IfSome}
use Rattle.std.specs.List.{AllByRecursion, count_by}
use Rattle.rma_types.specs.declared.calls.Call.{Call}
use Rattle.rma_types.specs.declared.schedules.Delay.TheVariants.{None as NoDelay}
use Rattle.rma_types.specs.declared.scripts.Layout.{Layout}
use Rattle.access_steps.specs.Plans.{element_count}
use Rattle.board_rules.specs.Entries.{creations}
use Rattle.rma_types.specs.declared.actions.Transfer.{Transfer}
use Rattle.rma_types.specs.Actions.{transfer_of}
use Rattle.call_rules.specs.Layout.{layout as memory_layout, cells_of}
use Rattle.call_rules.specs.WellFormed.{IsWellFormed}
use Rattle.delivery_queue.specs.Queues.{IsOfCall}
use Rattle.lawful_runs.specs.Stages.{Stage, calls_at}
use Rattle.rank_rules.specs.Courses.{Course, OneNull, OneIssue, LookUpAndIssue, OneFlush, OneRequest, ArriveAndLeave}
use Rattle.rank_rules.specs.Courses.{EntryOrTested, OneEntry, access_on, course_of}
use Rattle.rank_rules.specs.Knowledge.{Knowledge, own_class}
use Rattle.rank_rules.specs.declared.pending.PendingAccess.{PendingAccess}
use Rattle.rank_rules.specs.Windows.{Window, RankWindows, window_of_name}
use Rattle.step_laws.specs.Inside.{bytes_at, LiesInMemory, names_so_far}
use Rattle.step_laws.specs.Rooms.{AreRoomy}
use Rattle.step_runs.specs.Agents.{Agent, next_call}
use Rattle.rank_engine.specs.Moves.{IsFirst}
use Rattle.rank_engine.specs.RankStates.{RankState, others, own_rows}

-- the windows and ranges that the rank knows lie in memory
pub record AreSoundWindows (stage : Stage) (rank : ℕ) (known : RankWindows) : Type 0 where
  pub whose : known.rank ≡ rank
  pub ranks : known.ranks ≡ stage.script.ranks
  pub space : known.space ≤ bytes_at stage.layout rank
  pub roomy : AreRoomy stage.layout known

-- the access of a transfer that was looked up lies in memory
abbrev pub IsLookedUp : Layout → RankWindows → Transfer → Type 0
IsLookedUp layout known t = (window : Window) → window_of_name known t.win ≡ Some window →
    LiesInMemory layout (access_on known t window) t.dtype

-- a call of two parts: a collective call, or an RMA call on a dynamic window
abbrev pub IsTwofold : Course → Type 0
IsTwofold OneNull = ⊥
IsTwofold OneIssue = ⊥
IsTwofold LookUpAndIssue = Unit {0}
IsTwofold OneFlush = ⊥
IsTwofold OneRequest = ⊥
IsTwofold ArriveAndLeave = Unit {0}
IsTwofold EntryOrTested = ⊥
IsTwofold OneEntry = ⊥

-- the first entry of the call is put
pub record IsBegun (layout : Layout) (known : Knowledge) (call : Call) : Type 0 where
  pub passed : own_class known call ≡ None
  pub twofold : IsTwofold (course_of known.windows call)
  pub looks_up : is_some (transfer_of call) ≡ true → course_of known.windows call ≡ LookUpAndIssue
  pub looked_up : IfSome (transfer_of call) (IsLookedUp layout known.windows)

-- so many elements of the pending access are touched, and some are left; it is that of its call, and lies in memory
pub record IsPending (layout : Layout) (calls : List Call) (one : PendingAccess) (count : ℕ) : Type 0 where
  pub call : Call
  pub named : slice_get calls one.number ≡ Some call
  pub its : IsOfCall layout (cells_of layout) one call
  pub begun : count < element_count call

abbrev pub ArePending : Layout → List Call → List PendingAccess → List ℕ → Type 0
ArePending layout calls [] [] = Unit {0}
ArePending layout calls [] (count ∷ touched) = ⊥
ArePending layout calls (one ∷ pending) [] = ⊥
ArePending layout calls (one ∷ pending) (count ∷ touched) =
    IsPending layout calls one count × ArePending layout calls pending touched

-- Each pending access is that of its call. The one whose delivery is begun gives way to none, and no element of another
-- is touched; where nothing is delayed, no other is pending.
pub record AreQueued (stage : Stage) (rank : ℕ) (pending : List PendingAccess) (touched : List ℕ) (opened : Option ℕ)
    : Type 0 where
  pub each : ArePending stage.layout (calls_at stage rank) pending touched
  pub first : IfSome opened (IsFirst pending)
  pub untouched : AllByRecursion (λ count. count ≡ 0) (others opened touched)
  pub alone : stage.delay ≡ NoDelay → others opened pending ≡ []

-- how many windows of a name the rank has begun to make, by its entries and by what it knows
abbrev pub AreNumbered : Stage → Agent → Type 0
AreNumbered stage agent = (win : ℕ) →
    creations (own_rows stage agent) agent.rank win ≡ count_by (λ name. name == win) (names_so_far stage agent)

pub record IsSound (state : RankState) : Type 0 where
  pub formed : IsWellFormed state.stage.script
  pub layout : state.stage.layout ≡ memory_layout state.stage.script
  pub rank : state.agent.rank < state.stage.script.ranks
  pub windows : AreSoundWindows state.stage state.agent.rank state.agent.known.windows
  pub begun : state.agent.entered ≡ true →
      IfSome (next_call state.stage state.agent) (IsBegun state.stage.layout state.agent.known)
  pub queue : AreQueued state.stage state.agent.rank state.agent.pending state.touched state.opened
  pub numbers : AreNumbered state.stage state.agent
