-- A rank between two of its steps: this project's profile of a run's schedules and deliveries.
use Rattle.std.specs.Prelude.{ℕ, ◌+◌, Bool, true, false, not, ◌&&◌, ◌==◌, if◌then◌else◌, List, [], ◌∷◌, ◌++◌, length}
use Rattle.std.specs.Prelude.{slice_get, Option, is_none}
use Rattle.std.specs.Option.{option_map_or}
use Rattle.rma_types.specs.declared.calls.Call.{Call}
use Rattle.rma_types.specs.declared.schedules.Delay.{Delay}
use Rattle.rma_types.specs.declared.schedules.Delay.TheVariants.{None as NoDelay, End as EndDelay}
use Rattle.rma_types.specs.declared.schedules.Delay.TheVariants.{Seeded as SeededDelay}
use Rattle.rma_types.specs.declared.scripts.Part.{Part}
use Rattle.rma_record.specs.declared.items.Item.{Item}
use Rattle.rma_types.specs.Actions.{transfer_of}
use Rattle.lawful_runs.specs.Stages.{Stage, calls_at, first_knowledge}
use Rattle.rank_rules.specs.Courses.{course_of, has_entry}
use Rattle.rank_rules.specs.Knowledge.{Knowledge, learn, own_class}
use Rattle.rank_rules.specs.Pending.{awaited}
use Rattle.rank_rules.specs.declared.pending.PendingAccess.{PendingAccess}
use Rattle.step_runs.specs.Generator.{first_state, delivery_stream}

-- A rank: its number; its log; what it knows; the number of the first call that does not have all its items; whether
-- that call's first entry is put; whether a draw was made for it; the state of the generator of its deliveries; its
-- pending accesses, in the order of their Issues; and whether it has ended.
pub record Agent : Type 0 where
  pub rank : ℕ
  pub log : List Item
  pub known : Knowledge
  pub at : ℕ
  pub entered : Bool
  pub drawn : Bool
  pub draws : ℕ
  pub pending : List PendingAccess
  pub ended : Bool

abbrev pub new_agent : Stage → ℕ → ℕ → Agent
new_agent stage seed rank = record {
  rank = rank;
  log = [];
  known = first_knowledge stage rank;
  at = 0;
  entered = false;
  drawn = false;
  draws = first_state seed (delivery_stream rank);
  pending = [];
  ended = false;
}

-- the first call that does not have all its items
abbrev pub next_call : Stage → Agent → Option Call
next_call stage agent = slice_get (calls_at stage agent.rank) agent.at

-- the rank keeps an item; shapes gives the parts of a window by its number
abbrev pub keep_item : (ℕ → List Part) → Stage → Agent → Item → Agent
keep_item shapes stage agent item = record agent {
  log = agent.log ++ item ∷ [];
  known = learn shapes (calls_at stage agent.rank) agent.known item;
}

-- the call has all its items
abbrev pub end_call : Agent → Agent
end_call agent = record agent { at = agent.at + 1; entered = false; drawn = false }

-- the first entry of the call is put, and another item follows it
abbrev pub enter_call : Agent → Agent
enter_call agent = record agent { entered = true }

abbrev pub has_pending : Agent → Bool
has_pending agent = not (length agent.pending == 0)

abbrev pub is_seeded : Delay → Bool
is_seeded NoDelay = false
is_seeded EndDelay = false
is_seeded SeededDelay = true

-- a draw is made before a call begins, where something is pending
abbrev pub must_draw : Stage → Agent → Bool
must_draw stage agent = is_seeded stage.delay && not agent.drawn && has_pending agent

-- the place of the pending access that the call must wait for, if there is one
abbrev pub awaited_by : Agent → Call → Option ℕ
awaited_by agent call = awaited agent.known.requests call agent.pending

-- the call begins with an entry of the board: nothing is drawn, the rank does not refuse it, and it waits for no access
abbrev pub begins_with_entry : Stage → Agent → Call → Bool
begins_with_entry stage agent call =
    not (must_draw stage agent) && is_none (own_class agent.known call) && is_none (awaited_by agent call)
    && has_entry (course_of agent.known.windows call)

-- the next step of the rank tries an entry: the first of a call, or the Leave of a collective
abbrev pub tries_entry : Stage → Agent → Bool
tries_entry stage agent = option_map_or
    (λ call. if agent.entered then is_none (transfer_of call) else begins_with_entry stage agent call)
    (next_call stage agent) false
