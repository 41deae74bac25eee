use Rattle.std.proofs.Common.{◌≡◌, drop}
use Rattle.std.specs.List.{list_any}
use Rattle.lawful_runs.specs.Items.{is_refused}
use Rattle.run_report.proofs.runs.any_refused.Given as goal

-- the logs that are left decide
abbrev pub invariant-loop-rank : goal.invariant-loop-rank
invariant-loop-rank l = list_any (list_any is_refused) (drop l.rank l.run.logs)
    ≡ list_any (list_any is_refused) l.run.logs
