-- The run that the last world is.
use Rattle.std.proofs.Common.{◌≡◌, ℕ, Bool, List, [], ◌∷◌, map, refl, ap, ◌∙◌}
use Rattle.std.specs.Prelude.{◌&&◌}
use Rattle.std.specs.List.{list_all}
use Rattle.rma_record.specs.declared.items.Item.{Item}
use Rattle.rma_record.specs.declared.runs.Run.{Run}
use Rattle.call_rules.specs.declared.cells.Cell.{Cell}
use Rattle.cell_face.specs.PlainCells.{PlainCells}
use Rattle.lawful_runs.specs.Stages.{Stage}
use Rattle.rank_engine.specs.RankStates.{RankState}
use Rattle.rank_runners.specs.Runs.{IsWorld}
use Rattle.step_runs.specs.Agents.{Agent}
use Rattle.step_runs.specs.StepRun.{World, run_of}
use Rattle.sync_board.specs.Boards.{BoardState}

logs_are : (states : List RankState) → map (λ (state : RankState). state.agent.log) states
    ≡ map (λ (agent : Agent). agent.log) (map (λ (state : RankState). state.agent) states)
logs_are [] = refl
logs_are (state ∷ states) = ap (λ rest. state.agent.log ∷ rest) (logs_are states)

ends_are : (states : List RankState) → list_all (λ (state : RankState). state.agent.ended) states
    ≡ list_all (λ (agent : Agent). agent.ended) (map (λ (state : RankState). state.agent) states)
ends_are [] = refl
ends_are (state ∷ states) = ap (λ rest. state.agent.ended && rest) (ends_are states)

pub run_is : (states : List RankState) (board : BoardState) (memory : PlainCells) (logs : List (List Item))
    (bits : List ℕ) (ended : Bool)
    → logs ≡ map (λ (state : RankState). state.agent.log) states → bits ≡ map (λ (cell : Cell). cell.bits) memory.cells
    → ended ≡ list_all (λ (state : RankState). state.agent.ended) states
    → (stage : Stage) (world : World) → IsWorld stage states board memory world
    → (let run : Run = record { logs = logs; memory = bits; ended = ended } in run ≡ run_of world)
run_is states board memory logs bits ended l b e stage world w =
    let all_logs : logs ≡ map (λ (agent : Agent). agent.log) world.agents =
    l ∙ logs_are states ∙ ap (λ (agents : List Agent). map (λ (agent : Agent). agent.log) agents) w.agents in
    let all_bits : bits ≡ map (λ (cell : Cell). cell.bits) world.cells = b
    ∙ ap (λ (cells : List Cell). map (λ (cell : Cell). cell.bits) cells) w.cells in
    let all_ended : ended ≡ list_all (λ (agent : Agent). agent.ended) world.agents =
    e ∙ ends_are states ∙ ap (λ (agents : List Agent). list_all (λ (agent : Agent). agent.ended) agents) w.agents in
    let first : (let a : Run = record { logs = logs; memory = bits; ended = ended } in
    let z : Run = record {
      logs = map
          (λ (agent : Agent). agent.log) world.agents;
      memory = bits;
      ended = ended;
    } in a ≡ z) =
    ap (λ xs. let run : Run = record { logs = xs; memory = bits; ended = ended } in run) all_logs in
    let second : (let a : Run = record {
      logs = map
          (λ (agent : Agent). agent.log) world.agents;
      memory = bits;
      ended = ended;
    } in
    let z : Run = record {
      logs = map (λ (agent : Agent). agent.log) world.agents;
      memory = map
          (λ (cell : Cell). cell.bits) world.cells;
      ended = ended;
    } in a ≡ z) =
    ap (λ xs. let run : Run = record {
      logs = map
          (λ (agent : Agent). agent.log) world.agents;
      memory = xs;
      ended = ended;
    } in run) all_bits in
    first ∙ second
    ∙ ap (λ x. let run : Run = record {
      logs = map (λ (agent : Agent). agent.log) world.agents;
      memory = map
          (λ (cell : Cell). cell.bits) world.cells;
      ended = x;
    } in run) all_ended
