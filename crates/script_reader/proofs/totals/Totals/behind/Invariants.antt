use Rattle.std.proofs.Common.{◌≡◌, ◌≤◌, drop}
use Rattle.script_reader.specs.Totals.{within_limits, totals_behind}
use Rattle.script_reader.proofs.totals.Totals.behind.Given as goal

-- the calls that are left give what all of them give
abbrev pub invariant-loop-call : goal.invariant-loop-call
invariant-loop-call l = record {
  few_calls : l.totals.calls ≤ 65536;
  few_bytes : l.totals.bytes ≤ 65536;
  left : within_limits (totals_behind l.totals l.ranks l.times (drop l.call-index l.calls)) ≡ within_limits
      (totals_behind l.fn.self l.ranks l.times l.calls);
}
