-- The run on one thread is assembled.
use Rattle.std.proofs.Common.{◌≡◌, ℕ, zero, suc, ◌<◌, List, [], ◌∷◌, get_or, Some, refl, sym, ◌∙◌, ap, subst}
use Rattle.std.specs.Prelude.{slice_get, slice_index}
use Rattle.std.specs.List.{AllByRecursion}
use Rattle.std.proofs.lemmas.List.{length-map}
use Rattle.std.proofs.Math.ListN.{get_or-map}
use Rattle.std.proofs.lemmas.Option.{slice_get_within}
use Rattle.rma_types.specs.declared.schedules.Delay.{Delay}
use Rattle.rma_types.specs.declared.scripts.Script.{Script}
use Rattle.rma_record.specs.declared.items.Item.{Item}
use Rattle.call_rules.specs.declared.cells.Cell.{Cell}
use Rattle.call_rules.specs.Layout.{layout, cells_of}
use Rattle.call_rules.specs.Touches.{empty_cell, cell_at}
use Rattle.lawful_runs.specs.Accesses.{Touching, touches_among, touches_of, all_touches, on_cell}
use Rattle.lawful_runs.specs.Logs.{calls_of, named_in}
use Rattle.lawful_runs.specs.Stages.{Stage, stage_of}
use Rattle.rank_laws.specs.Assembled.{IsAssembled}
use Rattle.rank_laws.specs.CellHistories.{IsHistoryOf}
use Rattle.rank_laws.specs.Fronts.{Put}
use Rattle.rank_laws.specs.Lives.{HasLived}
use Rattle.step_histories.proofs.AllTouches.{touches_of_all, flat_same}
use Rattle.step_histories.proofs.CellGrowth.{kept_is_history}
use Rattle.step_histories.proofs.Draining.{AreStopped, all_drain, run_stops}
use Rattle.step_histories.proofs.LogGrowth.{touches_at}
use Rattle.step_histories.proofs.Turns.{run_is_lived}
use Rattle.step_histories.specs.Assembled.{StepRunIsAssembled, StepRunIsLawful}
use Rattle.rank_laws.specs.Lawful.{AssembledRunsAreLawful}
use Rattle.step_laws.proofs.Bound as bound
use Rattle.step_laws.proofs.Draining.{run_is_drained}
use Rattle.step_laws.specs.Ends.{last_world}
use Rattle.step_runs.specs.Agents.{Agent, new_agent}
use Rattle.step_runs.specs.StepRun.{World, agent_at, drain, run_of, most_turns, step_run}

-- an element that is there is found with any other in its place
pub found_is : {X : Type 0} (xs : List X) (at : ℕ) (x other : X) → slice_get xs at ≡ Some x → get_or xs at other ≡ x
found_is [] at x other e = absurd (cc e)
found_is (y ∷ xs) zero x other e = cc e
found_is (y ∷ xs) (suc at) x other e = found_is xs at x other e

-- the touches of the run are those of the ranks at its end
same_touches : (script : Script) (delay : Delay) (world : World) →
    all_touches script (run_of world) ≡ touches_of_all (stage_of script delay) world.agents
same_touches script delay world =
    flat_same (λ rank. touches_at stage rank (agent_at stage world rank)) (touches_of script (run_of world)) 0
    script.ranks
    (λ rank low high. ap (λ (log : List Item). touches_among (layout script) (calls_of script rank) log
    (named_in rank log)) (get_or-map (λ (a : Agent). a.log) world.agents rank (new_agent stage 0 rank)))
  where
    stage : Stage
    stage = stage_of script delay

-- ranks that have stopped and delivered all, and the histories of the cells, are a run
assemble : (script : Script) (delay : Delay) (seed : ℕ) (puts : List Put) (world : World) →
    AllByRecursion (λ (put : Put). put.row.rank < script.ranks) puts → AreStopped script delay seed puts world →
    ((rank : ℕ) → rank < script.ranks → (agent_at (stage_of script delay) world rank).pending ≡ []) →
    IsAssembled script delay seed (run_of world)
assemble script delay seed puts world owners stopped empty = record {
  puts = puts;
  agents = world.agents;
  ranks = stopped.ranks;
  owners = owners;
  lives = λ rank agent there. subst (HasLived stage seed rank puts)
      (found_is world.agents rank agent (new_agent stage 0 rank) there)
      (lived rank (subst (λ n. rank < n) stopped.ranks (slice_get_within world.agents rank agent there)));
  logs = refl;
  ended = refl;
  memory = length-map world.cells (λ (cell : Cell). cell.bits) ∙ stopped.memory;
  inside = subst (AllByRecursion (λ (touch : Touching). touch.cell < cells_of (layout script))) (sym touches)
      (subst (λ n. AllByRecursion (λ (touch : Touching). touch.cell < n) (touches_of_all stage world.agents))
      stopped.memory stopped.recorded.inside);
  values = λ cell. (stopped.recorded.each cell).0;
  histories = λ cell inside.
      let history = stopped.recorded.each cell in
      subst (λ (ts : List Touching). IsHistoryOf history.0 (on_cell cell ts) (slice_index (run_of world).memory cell))
      (sym touches)
      (subst (IsHistoryOf history.0 (on_cell cell (touches_of_all stage world.agents)))
      (sym (get_or-map (λ (c : Cell). c.bits) world.cells cell empty_cell))
      (kept_is_history history.0 (on_cell cell (touches_of_all stage world.agents)) (cell_at world.cells cell)
      history.1));
}
  where
    stage : Stage
    stage = stage_of script delay

    touches : all_touches script (run_of world) ≡ touches_of_all stage world.agents
    touches = same_touches script delay world

    lived : (rank : ℕ) → rank < script.ranks → HasLived stage seed rank puts (agent_at stage world rank)
    lived rank below =
        let one = stopped.each rank below in
        record {
          stopped = one.stopped;
          known = one.known;
          later = one.later;
          lows = one.lows;
          last = one.last;
          life = one.life;
          entries = one.entries;
          apart = one.apart;
          stops = one.stops;
          drains = one.drains;
          nothing_pending = empty rank below;
        }

pub step_run_is_assembled : StepRunIsAssembled
unfolding step_run
step_run_is_assembled script order delay seed formed =
    let stage = stage_of script delay in
    let world = last_world script order delay seed in
    let full = run_is_lived script order delay seed (most_turns script) formed in
    let stopped = run_stops script order delay seed world full (bound.step_run_ends script order delay seed formed) in
    assemble script delay seed full.lived.puts (drain stage world) full.lived.owners
    (all_drain script delay seed full.lived.puts world stopped) (run_is_drained script order delay seed formed)

-- where assembled runs are lawful, the run on one thread is
pub step_run_is_lawful : AssembledRunsAreLawful → StepRunIsLawful
step_run_is_lawful law script order delay seed formed =
    law script delay seed (step_run script order delay seed)
    (step_run_is_assembled script order delay seed formed)
