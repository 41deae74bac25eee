use Rattle.std.proofs.Common.{◌≡◌, drop}
use Rattle.std.specs.List.{list_all}
use Rattle.lawful_runs.specs.Items.{has_ended}
use Rattle.run_report.proofs.runs.every_rank_ended.Given as goal

-- the logs that are left decide
abbrev pub invariant-loop-rank : goal.invariant-loop-rank
invariant-loop-rank l = list_all has_ended (drop l.rank l.run.logs) ≡ list_all has_ended l.run.logs
