-- The history of one rank in a run, whatever the others do: this project's profile of MPI 3.1, sections 11.5 and 11.7.
use Rattle.std.specs.Prelude.{ℕ, ◌≡◌, ◌⊎◌, true, false, List, [], ◌++◌, Some}
use Rattle.board_rules.specs.Entries.{Row}
use Rattle.lawful_runs.specs.Stages.{Stage}
use Rattle.rank_laws.specs.Deliveries.{Delivers}
use Rattle.rank_laws.specs.Fronts.{Lows, first_lows, Put, rows_put, AreOthers, ArePut}
use Rattle.step_runs.specs.Agents.{Agent, new_agent, tries_entry}
use Rattle.step_runs.specs.BoardSteps.{board_step, stay_waiting}
use Rattle.step_runs.specs.DataSteps.{Move, move_of}

-- the rank tries an entry after these entries, and puts those in one step
pub record LooksAfter (stage : Stage) (agent : Agent) (before : List Put) (lows : Lows) (puts : List Put)
    (after : Lows) : Type 0 where
  pub tries : tries_entry stage agent ≡ true
  pub rows : (board_step stage agent (rows_put before)).rows ≡ rows_put (before ++ puts)
  pub fronts : ArePut stage.script.ranks before lows puts after

-- what the rank does by itself, and then perhaps one delivery
abbrev pub IsMade : Stage → Move → Lows → Agent → Lows → Type 0
IsMade stage move lows next after = Delivers stage move.agent move.delivers lows next after

-- A history of the rank, up to an agent: with the entries that it knows, its own among them, and its lows.
pub data Lives (stage : Stage) (seed : ℕ) (rank : ℕ) : Agent → List Put → Lows → Type 0 where
  -- before its first step
  Begins : Lives stage seed rank (new_agent stage seed rank) [] first_lows
  -- a step at the board, where others have put some entries since its last one
  Looks : (agent : Agent) (known others puts : List Put) (lows after : Lows) →
      Lives stage seed rank agent known lows →
      AreOthers rank others → LooksAfter stage agent (known ++ others) lows puts after →
      Lives stage seed rank (board_step stage agent (rows_put (known ++ others))).agent
      ((known ++ others) ++ puts) after
  -- a step without the board
  Steps : (agent next : Agent) (known : List Put) (lows after : Lows) → Lives stage seed rank agent known lows →
      tries_entry stage agent ≡ false → IsMade stage (move_of stage agent) lows next after →
      Lives stage seed rank next known after

-- the rank has ended, or its next entry is not yet possible after the entries
abbrev pub Stops : Stage → Agent → List Row → Type 0
Stops stage agent rows =
    (agent.ended ≡ true) ⊎ ((tries_entry stage agent ≡ true) × (board_step stage agent rows ≡ stay_waiting agent rows))

-- first pending accesses are delivered, one after the other, by a rank that makes no other step any more
pub data Drains (stage : Stage) (agent : Agent) (lows : Lows) : Agent → Lows → Type 0 where
  Stays : Drains stage agent lows agent lows
  Drained : (now next : Agent) (low after : Lows) → Drains stage agent lows now low →
      Delivers stage now (Some 0) low next after → Drains stage agent lows next after

-- The rank's whole history in a run with these entries: it knows some of them, the others are not its own, it stops
-- after all, and then delivers what is pending.
pub record HasLived (stage : Stage) (seed : ℕ) (rank : ℕ) (puts : List Put) (agent : Agent) : Type 0 where
  pub stopped : Agent
  pub known : List Put
  pub later : List Put
  pub lows : Lows
  pub last : Lows
  pub life : Lives stage seed rank stopped known lows
  pub entries : puts ≡ known ++ later
  pub apart : AreOthers rank later
  pub stops : Stops stage stopped (rows_put puts)
  pub drains : Drains stage stopped lows agent last
  pub nothing_pending : agent.pending ≡ []
