-- How many updates a rank may still make.
use Rattle.std.specs.Prelude.{ℕ, ◌+◌, ◌-◌, List, [], ◌∷◌, drop, slice_get, if◌then◌else◌}
use Rattle.std.specs.List.{sum_by}
use Rattle.std.specs.Option.{option_map_or}
use Rattle.rma_types.specs.declared.calls.Call.{Call}
use Rattle.access_steps.specs.Plans.{element_count, is_update}
use Rattle.lawful_runs.specs.Stages.{calls_at}
use Rattle.rank_rules.specs.declared.pending.PendingAccess.{PendingAccess}
use Rattle.rank_engine.specs.RankStates.{RankState}

-- how many elements a call changes
abbrev pub updates_of : Call → ℕ
updates_of call = if is_update call then element_count call else 0

abbrev pub updates_by : List Call → PendingAccess → ℕ
updates_by calls one = option_map_or updates_of (slice_get calls one.number) 0

-- the updates of pending accesses whose elements are not yet touched; so many of each are
abbrev pub updates_left : List Call → List PendingAccess → List ℕ → ℕ
updates_left calls [] touched = 0
updates_left calls (one ∷ pending) [] = updates_by calls one + updates_left calls pending []
updates_left calls (one ∷ pending) (count ∷ touched) =
    (updates_by calls one - count) + updates_left calls pending touched

-- the updates of the calls that do not have all their items, and those of the pending accesses
abbrev pub updates_ahead : RankState → ℕ
updates_ahead state =
    let calls = calls_at state.stage state.agent.rank in
    sum_by updates_of (drop state.agent.at calls) + updates_left calls state.agent.pending state.touched
