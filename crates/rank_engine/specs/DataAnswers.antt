-- What a rank answers a step without the board, and a drain: MPI 3.1, section 11.7, in this project's profile.
use Rattle.std.specs.Prelude.{ℕ, ◌≡◌, ◌+◌, ◌<◌, ◌≤◌, ◌⊎◌, Bool, true, false, ◌&&◌, not, is_none, List, length, Option}
use Rattle.std.specs.Prelude.{Some, None, IfSome}
use Rattle.call_rules.specs.declared.cells.Cell.{Cell}
use Rattle.rma_types.specs.declared.schedules.Delay.{Delay}
use Rattle.rma_types.specs.declared.scripts.Script.{Script}
use Rattle.call_rules.specs.Layout.{cells_of, layout}
use Rattle.cell_face.specs.Faces.{Face, Rose, cell_count}
use Rattle.delivery_queue.specs.Queues.{Delivers}
use Rattle.lawful_runs.specs.Stages.{calls_at}
use Rattle.std.specs.Option.{unwrap_or}
use Rattle.step_runs.specs.Agents.{next_call, has_pending}
use Rattle.step_runs.specs.DataSteps.{OnMemory, data_step, deliver}
use Rattle.rank_engine.specs.RankStates.{RankState, IsBetween, new_state, queue_of, delivery_of, own_move, moved}
use Rattle.rank_engine.specs.Shares.{updates_ahead}
use Rattle.rank_engine.specs.declared.answers.Turned.{Turned}
use Rattle.rank_engine.specs.declared.answers.Turned.TheVariants.{Did, NotYet, Again, Full, Ended}

-- the memory has every cell of the layout, and so great a share that each update that is still to be made is one
pub record HasRoom (state : RankState) (face : Face) : Type 0 where
  pub cells : cells_of state.stage.layout ≤ cell_count face
  pub share : updates_ahead state ≤ face.share

-- a new rank of the script has room in a memory of every cell that has such a share
abbrev pub GivesRoom : Script → (rank share : ℕ) → Type 0
GivesRoom script rank share = (delay : Delay) (seed free : ℕ) (home : List ℕ) (face : Face) →
    cells_of (layout script) ≤ cell_count face → share ≤ face.share →
    HasRoom (new_state script delay seed rank free home) face

-- all calls have their items, and nothing is pending
abbrev pub is_over : RankState → Bool
is_over state = is_none (next_call state.stage state.agent) && not (has_pending state.agent)

-- a delivery that is done is begun no more
abbrev pub opened_after : (done : Bool) → ℕ → Option ℕ
opened_after true at = None
opened_after false at = Some at

-- the pending access at a place, if there is one, was delivered: wholly, or up to an element at which an attempt came
-- too late
abbrev pub IsDelivered : Option ℕ → RankState → RankState → (done : Bool) → Face → Face → (ℕ → Cell → Type 0) → Type 0
IsDelivered None before after done face face_after knows =
    (after ≡ record before { free = after.free }) × (done ≡ true) × (face_after ≡ face)
IsDelivered (Some at) before after done face face_after knows =
    (after ≡ record before {
      agent = record before.agent { log = after.agent.log; pending = after.agent.pending };
      touched = after.touched;
      opened = opened_after done at;
      free = after.free;
    })
    × Delivers (queue_of before) (queue_of after) at done before.stage.layout (calls_at before.stage before.agent.rank)
    face face_after knows before.agent.log after.agent.log

-- a step: what the rank does by itself, and then the delivery of an access, if there is one
pub record StepsOnMemory (before after : RankState) (done : Bool) (face face_after : Face) (knows : ℕ → Cell → Type 0)
    : Type 0 where
  pub delivered : IsDelivered (delivery_of (own_move before)) (moved before) after done face face_after knows
  pub few : length after.agent.log ≤ length before.agent.log + 260
  pub free : after.free ≤ before.free
  pub share : face.share + updates_ahead after ≤ face_after.share + updates_ahead before

-- an item was kept, or the one draw of a call was made
abbrev pub GetsOn : RankState → RankState → Type 0
GetsOn before after = (length before.agent.log < length after.agent.log)
    ⊎ ((before.agent.drawn ≡ false) × (after.agent.drawn ≡ true))

-- the answer to a step without the board, and the rank and the memory after it
abbrev pub IsDataAnswer : Turned → RankState → RankState → Face → Face → (ℕ → Cell → Type 0) → Type 0
IsDataAnswer Did before after face face_after knows =
    (300 ≤ before.free) × (is_over before ≡ false) × StepsOnMemory before after true face face_after knows
    × GetsOn before after × (face_after.moves ≡ face.moves)
IsDataAnswer NotYet before after face face_after knows = ⊥
IsDataAnswer Again before after face face_after knows =
    (300 ≤ before.free) × (is_over before ≡ false) × StepsOnMemory before after false face face_after knows
    × Rose face.moves face_after.moves
IsDataAnswer Full before after face face_after knows = (before.free < 300) × (after ≡ before) × (face_after ≡ face)
IsDataAnswer Ended before after face face_after knows =
    (300 ≤ before.free) × (is_over before ≡ true) × StepsOnMemory before after true face face_after knows

-- over a memory that tells its cells, the rank and the cells are those of the definition, and nothing is touched in
-- part
pub record IsWhole (step : OnMemory) (after : RankState) (told : Option (List Cell)) : Type 0 where
  pub rank : after.agent ≡ step.agent
  pub cells : told ≡ Some step.cells
  pub between : IsBetween after

abbrev pub IsWholeStep : RankState → RankState → Face → Face → Type 0
IsWholeStep before after face face_after = IfSome face.told (λ cells. IsBetween before →
    IsWhole (data_step before.stage before.agent cells) after face_after.told)

-- the answer never comes over a memory that tells its cells
abbrev pub is_again : Turned → Bool
is_again Did = false
is_again NotYet = false
is_again Again = true
is_again Full = false
is_again Ended = false

abbrev pub is_full : Turned → Bool
is_full Did = false
is_full NotYet = false
is_full Again = false
is_full Full = true
is_full Ended = false

-- ---- a drain

-- the access whose delivery is begun was delivered, else the first pending one
pub record Drains (before after : RankState) (done : Bool) (face face_after : Face) (knows : ℕ → Cell → Type 0)
    : Type 0 where
  pub delivered : IsDelivered (Some (unwrap_or before.opened 0)) before after done face face_after knows
  pub few : length after.agent.log ≤ length before.agent.log + 260
  pub free : after.free ≤ before.free
  pub share : face.share + updates_ahead after ≤ face_after.share + updates_ahead before

abbrev pub IsDrainAnswer : Turned → RankState → RankState → Face → Face → (ℕ → Cell → Type 0) → Type 0
IsDrainAnswer Did before after face face_after knows =
    (has_pending before.agent ≡ true) × Drains before after true face face_after knows
    × (face_after.moves ≡ face.moves)
IsDrainAnswer NotYet before after face face_after knows = ⊥
IsDrainAnswer Again before after face face_after knows =
    (has_pending before.agent ≡ true) × Drains before after false face face_after knows
    × Rose face.moves face_after.moves
IsDrainAnswer Full before after face face_after knows = ⊥
IsDrainAnswer Ended before after face face_after knows =
    (has_pending before.agent ≡ false) × (after ≡ before) × (face_after ≡ face)

abbrev pub IsWholeDrain : RankState → RankState → Face → Face → Type 0
IsWholeDrain before after face face_after = IfSome face.told (λ cells. IsBetween before →
    IsWhole (deliver before.stage before.agent cells 0) after face_after.told)
