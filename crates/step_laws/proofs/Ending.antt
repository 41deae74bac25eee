-- A run ends by itself, in any order and with any delay: each turn lowers what is left of all ranks.
use Rattle.std.proofs.Common.{◌≡◌, ℕ, zero, suc, ◌+◌, ◌*◌, ◌<◌, ◌≤◌, ◌⊎◌, inl, inr, Bool, true, false, cond, not, List}
use Rattle.std.proofs.Common.{[], ◌∷◌, length, get_or, Option, Some, None, refl, sym, ◌∙◌, ap, subst, arith}
use Rattle.std.specs.Prelude.{◌||◌, ◌==◌, map, nat_lt, slice_set, sum_by}
use Rattle.std.specs.Option.{option_map_or}
use Rattle.std.proofs.lemmas.Bool.{eq-eqb, le-ltb}
use Rattle.std.proofs.lemmas.Bool.Decides.{eqb_tells}
use Rattle.std.proofs.lemmas.List.Sums.{sum_by-cons, sum_by-set}
use Rattle.rma_types.specs.declared.schedules.Order.{Order}
use Rattle.call_rules.specs.Pieces.{numbers_from}
use Rattle.call_rules.specs.Ranks.{is_member}
use Rattle.lawful_runs.specs.Stages.{Stage, calls_at}
use Rattle.step_runs.specs.Agents.{Agent, new_agent, tries_entry}
use Rattle.step_runs.specs.BoardSteps.{AtBoard, board_step, stay_waiting}
use Rattle.step_runs.specs.DataSteps.{data_step}
use Rattle.step_runs.specs.Schedules.{Schedule, pick, after_board}
use Rattle.step_runs.specs.StepRun.{World, agent_at, turn_at_board, turn_on_memory, turn, is_ready, picked_turn}
use Rattle.step_runs.specs.StepRun.{run_from, first_world}
use Rattle.step_laws.proofs.BoardWeights.{board_step_falls}
use Rattle.step_laws.proofs.DataWeights.{data_step_falls}
use Rattle.step_laws.proofs.Picks.{pick_is}
use Rattle.step_laws.proofs.Turns.{MayTurn, with_schedule, picked_may_turn, not_ended, IsRegular, regular_picks}
use Rattle.step_laws.proofs.Turns.{regular_turns}
use Rattle.step_laws.proofs.Weights.{weight_of, FallsFar}

-- ---- the ranks that do not wait

-- how many of so many ranks from one on do not wait
abbrev pub awake : List ℕ → ℕ → ℕ → ℕ
awake waiting first zero = 0
awake waiting first (suc count) = cond (is_member first waiting) 0 1 + awake waiting (first + 1) count

one_at_most : (b : Bool) → cond b 0 1 ≤ 1
one_at_most true = omega arith
one_at_most false = omega arith

pub awake_few : (waiting : List ℕ) (first count : ℕ) → awake waiting first count ≤ count
awake_few waiting first zero = omega arith
awake_few waiting first (suc count) =
    let rest = awake_few waiting (first + 1) count in let one = one_at_most (is_member first waiting) in omega arith

-- one more that waits wakes none
not_woken : (a b : Bool) → cond (a || b) 0 1 ≤ cond b 0 1
not_woken true b = omega arith
not_woken false b = omega arith

awake_no_more : (rank : ℕ) (waiting : List ℕ) (first count : ℕ) →
    awake (rank ∷ waiting) first count ≤ awake waiting first count
awake_no_more rank waiting first zero = omega arith
awake_no_more rank waiting first (suc count) =
    let rest = awake_no_more rank waiting (first + 1) count in let here = not_woken (rank == first)
    (is_member first waiting) in omega arith

-- a rank that did not wait, and now does
awake_less : (rank : ℕ) (asleep : List ℕ) (first count : ℕ) → first ≤ rank → rank < first + count →
    is_member rank asleep ≡ false →
    awake (rank ∷ asleep) first count < awake asleep first count
awake_less rank asleep first zero low high new = absurd (omega arith)
awake_less rank asleep first (suc count) low high new =
    elim (eqb_tells rank first) [
      | inl same ↦
          here_less (rank == first) (is_member first asleep) (awake (rank ∷ asleep) (first + 1) count)
          (awake asleep (first + 1) count)
          (eq-eqb rank first same.1) (subst (λ n. is_member n asleep ≡ false) same.1 new)
          (awake_no_more rank asleep (first + 1) count)
      | inr other ↦
          let ne = other.1 in
          there_less (cond (rank == first || is_member first asleep) 0 1) (cond (is_member first asleep) 0 1)
          (awake (rank ∷ asleep) (first + 1) count) (awake asleep (first + 1) count)
          (not_woken (rank == first) (is_member first asleep))
          (awake_less rank asleep (first + 1) count (omega arith) (omega arith) new)
    ]
  where
    here_less : (a b : Bool) (x y : ℕ) → a ≡ true → b ≡ false → x ≤ y → cond (a || b) 0 1 + x < cond b 0 1 + y
    here_less true true x y e f h = absurd (cc f)
    here_less true false x y e f h = omega arith
    here_less false b x y e f h = absurd (cc e)

    there_less : (a b x y : ℕ) → a ≤ b → x < y → a + x < b + y
    there_less a b x y h k = omega arith

-- ---- what is left of all ranks

abbrev pub left_in : Stage → World → ℕ
left_in stage world = sum_by (weight_of stage) world.agents + awake world.schedule.waiting 0 stage.script.ranks

-- one rank changes
changed_sum : (stage : Stage) (world : World) (rank : ℕ) (agent : Agent) → rank < length world.agents →
    sum_by (weight_of stage) (slice_set world.agents rank agent) + weight_of stage (agent_at stage world rank) ≡
    sum_by (weight_of stage) world.agents + weight_of stage agent
changed_sum stage world rank agent inside = sum_by-set (weight_of stage) world.agents rank agent
    (new_agent stage 0 rank) inside

-- a rank waits, and nothing else changes
waits_lowers : (stage : Stage) (world : World) (rank : ℕ) → rank < length world.agents → rank < stage.script.ranks →
    is_member rank world.schedule.waiting ≡ false →
    left_in stage (turn_at_board world rank (stay_waiting (agent_at stage world rank) world.rows)) < left_in stage world
waits_lowers stage world rank inside few new =
    lower (sum_by (weight_of stage) (slice_set world.agents rank (agent_at stage world rank)))
    (sum_by (weight_of stage) world.agents) (weight_of stage (agent_at stage world rank))
    (awake (turn_at_board world rank (stay_waiting (agent_at stage world rank) world.rows)).schedule.waiting 0
    stage.script.ranks)
    (awake (rank ∷ world.schedule.waiting) 0 stage.script.ranks) (awake world.schedule.waiting 0 stage.script.ranks)
    (changed_sum stage world rank (agent_at stage world rank) inside)
    (ap (λ b. awake (rank ∷ cond b [] world.schedule.waiting) 0 stage.script.ranks)
    (le-ltb (length world.rows) (length world.rows) (omega arith)))
    (awake_less rank world.schedule.waiting 0 stage.script.ranks (omega arith) (omega arith) new)
  where
    lower : (s t w a b c : ℕ) → s + w ≡ t + w → a ≡ b → b < c → s + a < t + c
    lower s t w a b c e f h = omega arith

-- less is left of a rank, by more than there are ranks
far_lowers : (stage : Stage) (world : World) (rank : ℕ) (step : AtBoard) → rank < length world.agents →
    stage.script.ranks ≤ 16 →
    FallsFar stage (agent_at stage world rank) step.agent → left_in stage (turn_at_board world rank step) < left_in
    stage world
far_lowers stage world rank step inside few falls =
    lower (sum_by (weight_of stage) (slice_set world.agents rank step.agent)) (sum_by (weight_of stage) world.agents)
    (weight_of stage (agent_at stage world rank)) (weight_of stage step.agent) stage.script.ranks
    (awake (turn_at_board world rank step).schedule.waiting 0 stage.script.ranks)
    (awake world.schedule.waiting 0 stage.script.ranks)
    (changed_sum stage world rank step.agent inside) falls few
    (awake_few (turn_at_board world rank step).schedule.waiting 0 stage.script.ranks)
  where
    lower : (s t v w r a b : ℕ) → s + v ≡ t + w → w + 16 < v → r ≤ 16 → a ≤ r → s + a < t + b
    lower s t v w r a b e h k l = omega arith

board_lowers : (stage : Stage) (world : World) (rank : ℕ) → IsRegular stage world → stage.script.ranks ≤ 16 →
    MayTurn stage world rank →
    left_in stage (turn_at_board world rank (board_step stage (agent_at stage world rank) world.rows)) < left_in stage
    world
board_lowers stage world rank regular few may = by_step (board_step_falls stage agent world.rows)
  where
    agent : Agent
    agent = agent_at stage world rank

    inside : rank < length world.agents
    inside = subst (λ n. rank < n) (sym regular.ranks) may.0

    by_step : ((board_step stage agent world.rows ≡ stay_waiting agent world.rows) ⊎ FallsFar stage agent
        (board_step stage agent world.rows).agent) →
        left_in stage (turn_at_board world rank (board_step stage agent world.rows)) < left_in stage world
    by_step (inl waits) = subst
        (λ (step : AtBoard). left_in stage (turn_at_board world rank step) < left_in stage world) (sym waits)
        (waits_lowers stage world rank inside may.0 (not_ended stage world rank may.1).1)
    by_step (inr falls) = far_lowers stage world rank (board_step stage agent world.rows) inside few falls

memory_lowers : (stage : Stage) (world : World) (rank : ℕ) → IsRegular stage world → MayTurn stage world rank →
    tries_entry stage (agent_at stage world rank) ≡ false →
    left_in stage (turn_on_memory world rank (data_step stage (agent_at stage world rank) world.cells)) < left_in
    stage world
memory_lowers stage world rank regular may tries =
    lower (sum_by (weight_of stage) (slice_set world.agents rank next)) (sum_by (weight_of stage) world.agents)
    (weight_of stage (agent_at stage world rank)) (weight_of stage next)
    (awake world.schedule.waiting 0 stage.script.ranks)
    (changed_sum stage world rank next (subst (λ n. rank < n) (sym regular.ranks) may.0))
    (data_step_falls stage (agent_at stage world rank) world.cells (regular.begun rank)
    (not_ended stage world rank may.1).0 tries)
  where
    next : Agent
    next = (data_step stage (agent_at stage world rank) world.cells).agent

    lower : (s t v w a : ℕ) → s + v ≡ t + w → w < v → s + a < t + a
    lower s t v w a e h = omega arith

pub turn_lowers : (stage : Stage) (world : World) (rank : ℕ) → IsRegular stage world → stage.script.ranks ≤ 16 →
    MayTurn stage world rank →
    left_in stage (turn stage world rank) < left_in stage world
turn_lowers stage world rank regular few may = by_tries (tries_entry stage (agent_at stage world rank)) refl
  where
    by_tries : (b : Bool) → tries_entry stage (agent_at stage world rank) ≡ b →
        left_in stage (cond b (turn_at_board world rank (board_step stage (agent_at stage world rank) world.rows))
        (turn_on_memory world rank (data_step stage (agent_at stage world rank) world.cells))) < left_in stage world
    by_tries true e = board_lowers stage world rank regular few may
    by_tries false e = memory_lowers stage world rank regular may e

-- with as many turns as are left, no rank may have one after them
abbrev pub NoneIsPicked : Stage → Order → World → Type 0
NoneIsPicked stage order world = pick order (is_ready stage world) stage.script.ranks world.schedule ≡ None

pub run_ends : (stage : Stage) (order : Order) (turns : ℕ) (world : World) → IsRegular stage world →
    stage.script.ranks ≤ 16 → left_in stage world ≤ turns →
    NoneIsPicked stage order (run_from stage order turns world)
run_ends stage order zero world regular few enough =
    let go : (o : Option (ℕ × Schedule)) → pick order (is_ready stage world) stage.script.ranks world.schedule ≡ o →
    o ≡ None =
    λ o. elim o as (λ o. pick order (is_ready stage world) stage.script.ranks world.schedule ≡ o → o ≡ None) [
      | None ↦ λ e. refl
      | Some next ↦ λ e.
          let is = pick_is order (is_ready stage world) stage.script.ranks world.schedule next e in
          let lower = turn_lowers stage world next.0 regular few is.0 in absurd (omega arith)
    ] in
    go (pick order (is_ready stage world) stage.script.ranks world.schedule) refl
run_ends stage order (suc turns) world regular few enough =
    let Goal : Option (ℕ × Schedule) → Type 0 =
    λ o. NoneIsPicked stage order
    (option_map_or (λ picked. run_from stage order turns (picked_turn stage world picked)) o world) in
    let go : (o : Option (ℕ × Schedule)) → pick order (is_ready stage world) stage.script.ranks world.schedule ≡ o →
    Goal o =
    λ o. elim o as (λ o. pick order (is_ready stage world) stage.script.ranks world.schedule ≡ o → Goal o) [
      | None ↦ λ e. e
      | Some next ↦ λ e.
          let is = pick_is order (is_ready stage world) stage.script.ranks world.schedule next e in
          let there = with_schedule world next.1 in
          let may = picked_may_turn stage world next.1 next.0 is.1 is.0 in
          let regular_there = regular_picks stage world next.1 is.1 regular in
          let lower = turn_lowers stage there next.0 regular_there few may in
          let same : left_in stage there ≡ left_in stage world = ap
          (λ waiting. sum_by (weight_of stage) world.agents + awake waiting 0 stage.script.ranks) is.1 in
          run_ends stage order turns (turn stage there next.0) (regular_turns stage there next.0 may regular_there) few
          (less (left_in stage (turn stage there next.0)) (left_in stage there) (left_in stage world) lower same enough)
    ] in
    go (pick order (is_ready stage world) stage.script.ranks world.schedule) refl
  where
    less : (a b c : ℕ) → a < b → b ≡ c → c ≤ suc turns → a ≤ turns
    less a b c h e k = omega arith
