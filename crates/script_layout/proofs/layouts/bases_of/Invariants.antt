use Rattle.std.proofs.Common.{◌≡◌, ◌+◌, ◌++◌, drop, sum_by}
use Rattle.call_rules.specs.Layout.{round_up, call_bytes, memory_bytes, bases_from}
use Rattle.script_layout.proofs.layouts.bases_of.Given as goal

-- what stands so far, and what the calls that are left give, is the whole
abbrev pub invariant-loop-call : goal.invariant-loop-call
invariant-loop-call l = record {
  bases : l.bases ++ bases_from l.number l.base (drop l.call-index l.calls) ≡ bases_from 0 (round_up l.space) l.calls;
  bytes : l.base + sum_by call_bytes (drop l.call-index l.calls) ≡ memory_bytes l.space l.calls;
  number : l.number ≡ l.call-index;
}
