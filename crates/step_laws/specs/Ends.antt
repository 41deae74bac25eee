-- That the run on one thread ends by itself: the bound on its turns is never what stops it.
use Rattle.std.specs.Prelude.{ℕ, ◌≡◌, None}
use Rattle.rma_types.specs.declared.schedules.Delay.{Delay}
use Rattle.rma_types.specs.declared.schedules.Order.{Order}
use Rattle.rma_types.specs.declared.scripts.Script.{Script}
use Rattle.call_rules.specs.WellFormed.{IsWellFormed}
use Rattle.lawful_runs.specs.Stages.{stage_of}
use Rattle.step_runs.specs.Schedules.{pick}
use Rattle.step_runs.specs.StepRun.{World, is_ready, run_from, first_world, most_turns}

-- the state after the last turn
abbrev pub last_world : Script → Order → Delay → ℕ → World
last_world script order delay seed =
    let stage = stage_of script delay in run_from stage order (most_turns script) (first_world stage order seed)

-- after the last turn no rank may have one
abbrev pub RunEnds : Type 0
RunEnds = (script : Script) (order : Order) (delay : Delay) (seed : ℕ) → IsWellFormed script →
    let world = last_world script order delay seed in
    pick order (is_ready (stage_of script delay) world) script.ranks world.schedule ≡ None
