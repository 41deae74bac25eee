-- A turn of one rank, as the code takes it.
use Rattle.std.proofs.Common.{◌≡◌, ℕ, ◌<◌, ◌≤◌, Bool, List, length, map, get_or, set, refl, sym, ap, ◌∙◌, subst, arith}
use Rattle.std.proofs.Common.{ltb}
use Rattle.std.specs.Prelude.{sum_by}
use Rattle.std.proofs.lemmas.List.{get_or_default, length-map}
use Rattle.std.proofs.lemmas.List.Sums.{sum_by-take-drop, sum_by-drop_more}
use Rattle.call_rules.specs.declared.cells.Cell.{Cell}
use Rattle.call_rules.specs.Layout.{cells_of}
use Rattle.cell_face.specs.PlainCells.{PlainCells, plain_face}
use Rattle.kept_rows.specs.Gifts.{Given}
use Rattle.kept_rows.specs.KeptCalls.{kept_row}
use Rattle.lawful_runs.specs.Stages.{Stage}
use Rattle.rank_engine.specs.BoardAnswers.{IsBoardOf, StepsAtBoard}
use Rattle.rank_engine.specs.DataAnswers.{HasRoom}
use Rattle.rank_engine.specs.RankStates.{RankState, AreOwnRows, IsBetween, needs_entry}
use Rattle.rank_engine.specs.Shares.{updates_ahead}
use Rattle.rank_runners.specs.Marks.{IsKept}
use Rattle.rank_runners.specs.Runs.{no_state, state_at, IsRank, IsWorld, IsRun, HasTurn, at_board, on_memory}
use Rattle.rank_runners.specs.Steps.{IsStep, IsMade}
use Rattle.rank_runners.specs.declared.runners.Runner.{Runner}
use Rattle.rank_runners.specs.declared.schedules.Turns.{Turns}
use Rattle.rank_histories.proofs.KeptSteps.{Laws}
use Rattle.rank_runners.proofs.Onward.{PutsNone, data_puts_none, data_keeps_cells}
use Rattle.rank_runners.proofs.Turned.{same_agent, board_turned, data_turned, turn_is}
use Rattle.step_runs.specs.BoardSteps.{board_step}
use Rattle.step_runs.specs.DataSteps.{data_step}
use Rattle.step_runs.specs.Schedules.{Schedule, after_board}
use Rattle.step_runs.specs.StepRun.{World, agent_at}
use Rattle.sync_board.specs.Boards.{BoardState, rows_on, entry_row}

-- the element that the code has is that of the rank
pub here_is : (stage : Stage) (states : List RankState) (rank at : ℕ) (state : RankState) → rank < length states
    → at ≡ rank
    → state ≡ get_or states at state → state ≡ state_at stage states rank
here_is stage states rank at state h a e =
    e ∙ ap (λ k. get_or states k state) a ∙ get_or_default states rank state (no_state stage rank) h

pub needs_here : (runner : Runner) (rank at : ℕ) (flag : Bool) (state : RankState) → HasTurn runner rank flag
    → at ≡ rank
    → state ≡ get_or runner.agents.items at state → needs_entry state ≡ flag
needs_here runner rank at flag state t a e = ap needs_entry (e ∙ ap (λ k. get_or runner.agents.items k state) a)
    ∙ t.needs state

rank_here : (stage : Stage) (runner : Runner) (world : World) (rank at : ℕ) (state : RankState)
    → IsRun stage runner world → rank < length runner.agents.items
    → at ≡ rank → state ≡ get_or runner.agents.items at state → IsRank stage (rows_on runner.board) rank state
rank_here stage runner world rank at state run h a e =
    let count = run.in_world.count in
    subst (λ one. IsRank stage (rows_on runner.board) rank one)
    (sym (here_is stage runner.agents.items rank at state h a e)) (run.in_world.ranks rank (omega arith))

board_of : (stage : Stage) (runner : Runner) (world : World) (rank : ℕ) (state : RankState) → IsRun stage runner world
    → IsRank stage (rows_on runner.board) rank state → IsBoardOf state runner.board (plain_face runner.memory)
board_of stage runner world rank state run here =
    let of_run = run.in_world.of_run in
    record {
      ranks = of_run.ranks ∙ ap (λ (one : Stage). one.script.ranks) (sym here.same_stage);
      layout = of_run.layout ∙ ap (λ (one : Stage). one.layout) (sym here.same_stage);
      rows = subst (λ one. AreOwnRows one state.agent (rows_on runner.board)) (sym here.same_stage) here.own;
      name = of_run.name;
    }

pub board_here : (runner : Runner) (rank at : ℕ) (flag : Bool) (state : RankState) → HasTurn runner rank flag
    → at ≡ rank
    → state ≡ get_or runner.agents.items at state → IsBoardOf state runner.board (plain_face runner.memory)
board_here runner rank at flag state t a e =
    let stage = t.some.0 in let world = t.some.1 in let run = t.some.2 in
    board_of stage runner world rank state run (rank_here stage runner world rank at state run t.within a e)

one_in_sum : (f : RankState → ℕ) (xs : List RankState) (k : ℕ) (d : RankState) → k < length xs
    → f (get_or xs k d) ≤ sum_by f xs
one_in_sum f xs k d h = let parts = sum_by-take-drop f xs k in let first = sum_by-drop_more f xs k d h in omega arith

pub rank_in : (stage : Stage) (runner : Runner) (world : World) (rank : ℕ) (state : RankState)
    → IsWorld stage runner.agents.items runner.board runner.memory world
    → rank < length runner.agents.items → state ≡ state_at stage runner.agents.items rank
    → IsRank stage (rows_on runner.board) rank state
rank_in stage runner world rank state w h e =
    let count = w.count in subst (λ one. IsRank stage (rows_on runner.board) rank one) (sym e)
    (w.ranks rank (omega arith))

pub room_in : (stage : Stage) (runner : Runner) (world : World) (rank : ℕ) (state : RankState)
    → IsWorld stage runner.agents.items runner.board runner.memory world
    → rank < length runner.agents.items → state ≡ state_at stage runner.agents.items rank
    → IsRank stage (rows_on runner.board) rank state
    → HasRoom state (plain_face runner.memory)
room_in stage runner world rank state w h e here =
    let size = length-map runner.memory.cells (λ (cell : Cell). cell.place) in
    let all = w.all_cells in
    let same : cells_of state.stage.layout
    ≡ cells_of stage.layout = ap (λ (one : Stage). cells_of one.layout) here.same_stage in
    let mine : updates_ahead state ≡ updates_ahead (state_at stage runner.agents.items rank) = ap updates_ahead e in
    let part = one_in_sum updates_ahead runner.agents.items rank (no_state stage rank) h in
    let share = w.share in
    record { cells = omega arith; share = omega arith }

pub room_here : (runner : Runner) (rank at : ℕ) (flag : Bool) (state : RankState) → HasTurn runner rank flag → at ≡ rank
    → state ≡ get_or runner.agents.items at state → HasRoom state (plain_face runner.memory)
room_here runner rank at flag state t a e =
    let stage = t.some.0 in let world = t.some.1 in let run = t.some.2 in
    room_in stage runner world rank state run.in_world t.within
    (here_is stage runner.agents.items rank at state t.within a e)
    (rank_here stage runner world rank at state run t.within a e)

pub between_here : (runner : Runner) (rank at : ℕ) (flag : Bool) (state : RankState) → HasTurn runner rank flag
    → at ≡ rank
    → state ≡ get_or runner.agents.items at state → IsBetween state
between_here runner rank at flag state t a e =
    let stage = t.some.0 in let world = t.some.1 in let run = t.some.2 in
    let here = rank_here stage runner world rank at state run t.within a e in here.between

pub few_here : (runner : Runner) (rank : ℕ) (flag : Bool) → HasTurn runner rank flag → rank < 16
few_here runner rank flag t =
    let run = t.some.2 in
    let few = run.few in let count = run.in_world.count in let within = t.within in omega arith

-- ---- what a turn leaves

row_count : (stage : Stage) (states : List RankState) (board : BoardState) (memory : PlainCells) (world : World)
    → IsWorld stage states board memory world
    → length (map entry_row board.entries) ≡ length world.rows
row_count stage states board memory world w =
    length-map board.entries entry_row ∙ sym (length-map board.entries (λ (one : Given). one.row))
    ∙ ap length w.rows ∙ length-map world.rows kept_row

kept_last : (turns : Turns) (turns_after : Turns) (schedule next : Schedule) (ranks : ℕ) → IsKept turns schedule
    → IsKept turns_after next
    → next.last ≡ schedule.last → turns.last < ranks → turns_after.last < ranks
kept_last turns turns_after schedule next ranks k m same h = let a = k.last in let b = m.last in omega arith

pub board_left : Laws → (before : Runner) (rank at : ℕ) (state after : RankState) (waits : Bool)
    (board_after : BoardState) (memory_after : PlainCells)
    (turns_after : Turns) (rows rows_now : ℕ) → rank < length before.agents.items → at ≡ rank
    → state ≡ get_or before.agents.items at state
    → StepsAtBoard state after waits before.board board_after (plain_face before.memory) (plain_face memory_after)
    → rows ≡ length (map entry_row before.board.entries) → rows_now ≡ length (map entry_row board_after.entries)
    → ((schedule : Schedule) → IsKept before.turns schedule
    → IsKept turns_after (after_board (ltb rows rows_now) waits rank schedule))
    → (stage : Stage) (world : World) → IsRun stage before world
    → IsWorld stage (set before.agents.items at after) board_after memory_after (at_board rank stage world)
    × IsKept turns_after (at_board rank stage world).schedule × (turns_after.last < stage.script.ranks)
board_left l before rank at state after waits board_after memory_after turns_after rows rows_now h a e steps r n k
    stage world run =
    let w = run.in_world in
    let count = w.count in
    let within : rank < stage.script.ranks = omega arith in
    let is : state ≡ state_at stage before.agents.items rank = here_is stage before.agents.items rank at state h a e in
    let own : StepsAtBoard (state_at stage before.agents.items rank) after waits before.board board_after
    (plain_face before.memory) (plain_face memory_after) =
    subst (λ one. StepsAtBoard one after waits before.board board_after (plain_face before.memory)
    (plain_face memory_after)) is steps in
    let here = w.ranks rank within in
    let turn = turn_is l stage world rank
    (state_at stage before.agents.items rank) after waits before.board board_after before.memory memory_after
    here.same_stage (same_agent stage before.agents.items world rank h w.agents) w.rows own in
    let there = board_turned l stage before.agents.items before.board board_after before.memory memory_after world
    rank after waits w within own in
    let step = board_step stage (agent_at stage world rank) world.rows in
    let before_rows : rows ≡ length world.rows = r
    ∙ row_count stage before.agents.items before.board before.memory world w in
    let after_rows : rows_now ≡ length step.rows = n
    ∙ row_count stage (set before.agents.items rank after) board_after memory_after
    (at_board rank stage world) there in
    let kept : IsKept turns_after (at_board rank stage world).schedule =
    subst (λ one. IsKept turns_after
    (after_board (ltb (length world.rows) (length step.rows)) one rank world.schedule)) (sym turn.same_waits)
    (subst (λ one. IsKept turns_after
    (after_board (ltb (length world.rows) one) waits rank world.schedule)) after_rows
    (subst (λ one. IsKept turns_after (after_board (ltb one rows_now) waits rank world.schedule)) before_rows
    (k world.schedule run.kept))) in (
      subst (λ one. IsWorld stage (set before.agents.items one after) board_after memory_after
          (at_board rank stage world)) (sym a) there,
      kept,
      kept_last before.turns turns_after world.schedule
          (at_board rank stage world).schedule stage.script.ranks run.kept kept refl run.last,
    )

pub data_left : (before : Runner) (rank at : ℕ) (state after : RankState) (memory_after : PlainCells)
    → rank < length before.agents.items → at ≡ rank
    → state ≡ get_or before.agents.items at state → IsStep state after before.memory memory_after
    → (stage : Stage) (world : World) → IsRun stage before world
    → IsWorld stage (set before.agents.items at after) before.board memory_after (on_memory rank stage world)
    × IsKept before.turns (on_memory rank stage world).schedule × (before.turns.last < stage.script.ranks)
data_left before rank at state after memory_after h a e made stage world run =
    let w = run.in_world in
    let count = w.count in
    let within : rank < stage.script.ranks = omega arith in
    let is : state ≡ state_at stage before.agents.items rank = here_is stage before.agents.items rank at state h a e in
    let own : IsStep (state_at stage before.agents.items rank) after before.memory memory_after =
    subst (λ one. IsStep one after before.memory memory_after) is made in
    let here = w.ranks rank within in
    let agent = same_agent stage before.agents.items world rank h w.agents in
    let one = state_at stage before.agents.items rank in
    let mine : IsMade (data_step stage (agent_at stage world rank) world.cells) one after before.memory memory_after =
    subst (λ cells. IsMade (data_step stage
    (agent_at stage world rank) cells) one after before.memory memory_after) w.cells
    (subst (λ g. IsMade (data_step stage g before.memory.cells) one after before.memory memory_after) agent
    (subst (λ s. IsMade (data_step s one.agent before.memory.cells) one after before.memory memory_after)
    here.same_stage own)) in
    let size : length (data_step stage (agent_at stage world rank) world.cells).cells ≡ length before.memory.cells =
    data_keeps_cells stage (agent_at stage world rank) world.cells ∙ ap length (sym w.cells) in
    let there = data_turned stage before.agents.items before.board before.memory memory_after world rank after
    (data_step stage (agent_at stage world rank) world.cells) w within mine
    (subst (λ g. PutsNone stage.script g (data_step stage (agent_at stage world rank) world.cells).agent)
    (sym agent)
    (data_puts_none stage (agent_at stage world rank) world.cells)) size in (
      subst (λ k. IsWorld stage (set before.agents.items k after) before.board memory_after
          (on_memory rank stage world)) (sym a) there,
      run.kept,
      run.last,
    )
