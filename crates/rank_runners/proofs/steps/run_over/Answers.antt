use Rattle.std.proofs.Common.{◌≡◌, ◌≤◌, ◌∙◌, Result, Ok, Err, ap, sym, subst}
use Rattle.std.specs.Prelude.{IfOk}
use Rattle.rma_types.specs.declared.scripts.Layout.{Layout}
use Rattle.rma_types.specs.declared.scripts.NoMemory.{NoMemory}
use Rattle.rma_record.specs.declared.runs.Run.{Run}
use Rattle.call_rules.specs.Layout.{cells_of}
use Rattle.lawful_runs.specs.Stages.{stage_of}
use Rattle.rank_runners.proofs.FirstWorlds.{few_cells}
use Rattle.rank_runners.proofs.steps.run_over.Goals as goal
use Rattle.step_runs.specs.StepRun.{drain, first_world, run_from, run_of, step_run}

-- what an Ok has, another statement that follows has too
if_ok : (P Q : Run → Type 0) (result : Result Run NoMemory) → ((run : Run) → P run → Q run) → IfOk result P
    → IfOk result Q
if_ok P Q (Ok run) f h = f run h
if_ok P Q (Err e) f h = tt

pub run-requires-clause-some : goal.run-requires-clause-some
run-requires-clause-some c =
    let stage = stage_of c.args.script.now c.args.delay in
    (stage, first_world stage c.args.order c.args.seed, c.in_ok-runner.ensures)

pub run-requires-clause-ranks : goal.run-requires-clause-ranks
run-requires-clause-ranks c = let run = c.in_ok-runner.ensures in run.in_world.count

pub drain-requires-clause-world : goal.drain-requires-clause-world
drain-requires-clause-world c =
    let stage = stage_of c.args.script.now c.args.delay in
    let first = first_world stage c.args.order c.args.seed in
    let run = c.in_ok-run.ensures stage first c.in_ok-runner.ensures in
    (stage, run_from stage c.args.order c.most_turns.result first, run.in_world)

pub drain-requires-clause-ranks : goal.drain-requires-clause-ranks
drain-requires-clause-ranks c =
    let stage = stage_of c.args.script.now c.args.delay in
    let run = c.in_ok-run.ensures stage
    (first_world stage c.args.order c.args.seed) c.in_ok-runner.ensures in run.in_world.count

pub cells_of-requires : goal.cells_of-requires
cells_of-requires c = subst (λ (l : Layout). cells_of l ≤ 16384) (sym c.requires.layout)
    (few_cells c.args.script.now c.requires.formed)

pub into_run-requires : goal.into_run-requires
into_run-requires c =
    let stage = stage_of c.args.script.now c.args.delay in
    let first = first_world stage c.args.order c.args.seed in
    let run = c.in_ok-run.ensures stage first c.in_ok-runner.ensures in
    let last = c.in_ok-drain.ensures stage (run_from stage c.args.order c.most_turns.result first) run.in_world in
    last.all_cells ∙ ap (λ (l : Layout). cells_of l) (sym c.requires.layout) ∙ sym c.cells_of.ensures

pub returns : goal.returns
unfolding step_run
returns c =
    let stage = stage_of c.args.script.now c.args.delay in
    let first = first_world stage c.args.order c.args.seed in
    let run = c.in_ok-run.ensures stage first c.in_ok-runner.ensures in
    let last = c.in_ok-drain.ensures stage (run_from stage c.args.order c.most_turns.result first) run.in_world in
    if_ok _ (λ one. one ≡ step_run c.args.script.now c.args.order c.args.delay c.args.seed) c.into_run.result
    (λ one is. is stage (drain stage (run_from stage c.args.order c.most_turns.result first)) last
    ∙ ap (λ turns. run_of (drain stage (run_from stage c.args.order turns first))) c.most_turns.ensures)
    c.into_run.ensures
