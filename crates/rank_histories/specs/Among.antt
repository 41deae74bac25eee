-- The history of a rank among the entries that it knows, each as the board keeps it: this project's profile of MPI 3.1,
-- sections 11.5 and 11.7.
use Rattle.std.specs.Prelude.{ℕ, ◌≡◌, ◌≢◌, ◌<◌, ◌≤◌, Bool, true, false, ◌||◌, if◌then◌else◌, nat_lt}
use Rattle.std.specs.Prelude.{List, [], ◌++◌, map, drop, take, length, slice_get, slice_index, Option, Some, None}
use Rattle.std.specs.Prelude.{IfSome}
use Rattle.std.specs.List.{AllByRecursion}
use Rattle.std.specs.Option.{option_map_or}
use Rattle.rma_types.specs.declared.accesses.Step.{Step}
use Rattle.rma_types.specs.declared.calls.Call.{Call}
use Rattle.board_rules.specs.Entries.{Row, is_arrive}
use Rattle.rma_types.specs.declared.actions.Synchronisation.{Synchronisation}
use Rattle.rma_types.specs.declared.actions.Synchronisation.TheVariants.{Fences, Posts, Starts, Completes, Waits, Locks}
use Rattle.rma_types.specs.declared.actions.Synchronisation.TheVariants.{Unlocks, Flushes, Syncs}
use Rattle.rma_types.specs.Actions.{synchronisation_of}
use Rattle.call_rules.specs.Layout.{cells_of}
use Rattle.kept_rows.specs.Gifts.{Front, Given, rows_given, gained_by}
use Rattle.kept_rows.specs.KeptCalls.{kept_row}
use Rattle.lawful_runs.specs.Stages.{Stage}
use Rattle.rank_laws.specs.Fronts.{Lows, first_lows, Put, ArePut}
use Rattle.rank_laws.specs.Lives.{IsMade, Stops, Drains}
use Rattle.step_runs.specs.Agents.{Agent, new_agent, tries_entry}
use Rattle.step_runs.specs.BoardSteps.{board_step}
use Rattle.step_runs.specs.DataSteps.{move_of}

-- the places for the first cells, as many as the number says
abbrev pub lows_in : ℕ → List ℕ → Lows
lows_in cells places cell = if nat_lt cell cells then slice_index places cell else 0

-- the front of an entry with this gift; nothing is below that of an entry without one
abbrev pub front_of : ℕ → Option Front → Lows
front_of cells None = first_lows
front_of cells (Some None) = first_lows
front_of cells (Some (Some places)) = lows_in cells places

abbrev pub put_of : ℕ → Given → Put
put_of cells one = record { row = one.row; front = front_of cells one.gift }

abbrev pub puts_of : ℕ → List Given → List Put
puts_of cells entries = map (put_of cells) entries

-- none of the entries is the rank's
abbrev pub AreOfOthers : ℕ → List Given → Type 0
AreOfOthers rank entries = AllByRecursion (λ (one : Given). one.row.rank ≢ rank) entries

-- ---- histories

-- the rank tries an entry after these, and gives those that its step puts
pub record LooksAmong (stage : Stage) (agent : Agent) (before : List Given) (lows : Lows) (given : List Given)
    (after : Lows) : Type 0 where
  pub tries : tries_entry stage agent ≡ true
  pub rows : rows_given given ≡
      map kept_row (drop (length before) (board_step stage agent (rows_given before)).rows)
  pub fronts : ArePut stage.script.ranks (puts_of (cells_of stage.layout) before) lows
      (puts_of (cells_of stage.layout) given) after

-- A history of the rank, up to an agent: with the entries that it knows, its own among them, and its lows.
pub data LivesAmong (stage : Stage) (seed : ℕ) (rank : ℕ) : Agent → List Given → Lows → Type 0 where
  -- before its first step
  Begins : LivesAmong stage seed rank (new_agent stage seed rank) [] first_lows
  -- a step at the board, where others have put some entries since its last one
  Looks : (agent : Agent) (known others given : List Given) (lows after : Lows) →
      LivesAmong stage seed rank agent known lows →
      AreOfOthers rank others → LooksAmong stage agent (known ++ others) lows given after →
      LivesAmong stage seed rank (board_step stage agent (rows_given (known ++ others))).agent
      ((known ++ others) ++ given) after
  -- a step without the board
  Steps : (agent next : Agent) (known : List Given) (lows after : Lows) →
      LivesAmong stage seed rank agent known lows →
      tries_entry stage agent ≡ false → IsMade stage (move_of stage agent) lows next after →
      LivesAmong stage seed rank next known after

-- the rank has such a history among these entries: what follows those that it knows is not its own
pub record HasLife (stage : Stage) (seed : ℕ) (rank : ℕ) (entries : List Given) (agent : Agent) (lows : Lows)
    : Type 0 where
  pub known : List Given
  pub later : List Given
  pub life : LivesAmong stage seed rank agent known lows
  pub all : entries ≡ known ++ later
  pub apart : AreOfOthers rank later

-- The rank's whole history in a run with these entries: it stops after all, and then delivers what is pending.
pub record HasLivedAmong (stage : Stage) (seed : ℕ) (rank : ℕ) (entries : List Given) (agent : Agent) : Type 0 where
  pub stopped : Agent
  pub lows : Lows
  pub last : Lows
  pub life : HasLife stage seed rank entries stopped lows
  pub stops : Stops stage stopped (rows_given entries)
  pub drains : Drains stage stopped lows agent last
  pub nothing_pending : agent.pending ≡ []

-- ---- what a step at the board gives and gains

-- a synchronisation from which an edge leads to a later entry
abbrev pub hands_on : Synchronisation → Bool
hands_on (Fences asserts) = false
hands_on (Posts group asserts) = true
hands_on (Starts group asserts) = false
hands_on Completes = true
hands_on (Waits tests) = false
hands_on (Locks kind target asserts) = false
hands_on (Unlocks target) = true
hands_on (Flushes target local) = false
hands_on Syncs = false

-- a token is given with each Arrive, and with each post, complete and unlock
abbrev pub gives : Step → Call → Bool
gives step call = is_arrive step || option_map_or hands_on (synchronisation_of call) false

-- the entry was put with a token exactly where one is given, which tells these lowest places
abbrev pub GivesLows : List ℕ → Given → Type 0
GivesLows lows one = one.gift ≡ (if gives one.row.step one.row.call then Some (Some lows) else None)

-- no gift is a token that tells nothing
abbrev pub Tells : Given → Type 0
Tells one = one.gift ≢ Some None

-- what the front tells is at or below these lowest places, for so many cells
abbrev pub IsMetBy : ℕ → List ℕ → Front → Type 0
IsMetBy cells lows front = IfSome front (λ places. (cell : ℕ) → cell < cells →
    slice_index places cell ≤ slice_index lows cell)

-- what each of the rows from this place on gains of the entries before it is met
abbrev pub AreGainsMet : (ranks : ℕ) → (cells : ℕ) → (first : ℕ) → List Given → List Row → List ℕ → Type 0
AreGainsMet ranks cells first entries rows lows = (place : ℕ) → first ≤ place →
    IfSome (slice_get rows place) (λ row. IfSome (gained_by ranks (take place entries) row) (IsMetBy cells lows))

-- What a step at the board put after these entries, gave and gained: the lowest places before it and after it, the
-- entries that it gave, and those before them, whose gifts tell.
pub record PutsAmong (stage : Stage) (agent : Agent) (before given : List Given) (lows after : List ℕ) : Type 0 where
  pub tries : tries_entry stage agent ≡ true
  pub rows : rows_given given ≡
      map kept_row (drop (length before) (board_step stage agent (rows_given before)).rows)
  pub gifts : AllByRecursion (GivesLows lows) given
  pub tells : AllByRecursion Tells before
  pub gains : AreGainsMet stage.script.ranks (cells_of stage.layout) (length before) (before ++ given)
      (board_step stage agent (rows_given before)).rows after
  pub rise : (cell : ℕ) → cell < cells_of stage.layout → slice_index lows cell ≤ slice_index after cell
