-- What is lawful with any delay is lawful with the delay that asks nothing.
use Rattle.std.proofs.Common.{ℕ, List}
use Rattle.rma_types.specs.declared.schedules.Delay.{Delay}
use Rattle.rma_types.specs.declared.schedules.Delay.TheVariants.{Seeded}
use Rattle.rma_types.specs.declared.scripts.Script.{Script}
use Rattle.rma_record.specs.declared.items.Item.{Item}
use Rattle.rma_record.specs.declared.runs.Run.{Run}
use Rattle.lawful_runs.specs.LawfulRun.{IsLawfulLog, rank_in}
use Rattle.order_laws.specs.OrderLaws.{DelaysAreDrawn}

log_drawn : (script : Script) (delay : Delay) (run : Run) (rank : ℕ) (log : List Item) →
    IsLawfulLog (rank_in script delay run rank) log → IsLawfulLog (rank_in script Seeded run rank) log
log_drawn script delay run rank log lawful = record {
  calls = lawful.calls;
  look_ups = lawful.look_ups;
  touches = lawful.touches;
  issues = lawful.issues;
  local_direct = lawful.local_direct;
  order = lawful.order;
  awaited = lawful.awaited;
  delay = tt;
}

pub drawn : DelaysAreDrawn
drawn script delay run lawful = record {
  ranks = lawful.ranks;
  cells = lawful.cells;
  board = lawful.board;
  logs = λ rank below. log_drawn script delay run rank _ (lawful.logs rank below);
  ended = lawful.ended;
}
