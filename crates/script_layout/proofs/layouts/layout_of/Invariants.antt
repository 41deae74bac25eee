use Rattle.std.proofs.Common.{◌≡◌, ◌+◌, ◌≤◌, ◌++◌, ℕ, List, map, sum_by, length}
use Rattle.std.specs.List.{zip}
use Rattle.std.specs.Iterator.Adapters.{zip_first, zip_second}
use Rattle.std.specs.Slice.Iter.{iter_rest}
use Rattle.rma_types.specs.declared.calls.Call.{Call}
use Rattle.call_rules.specs.Layout.{round_up, memory_bytes, bases_from, parts_from}
use Rattle.script_layout.proofs.layouts.layout_of.Given as goal

-- what stands so far, and what the ranks that are left give, is the whole
abbrev pub invariant-loop-space : goal.invariant-loop-space
invariant-loop-space l =
    let lists = iter_rest (zip_second l.space-iterator) in
    let left = zip (iter_rest (zip_first l.space-iterator)) lists in
    let bases = λ (ranks : List (ℕ × List Call)). map (λ rank. bases_from 0 (round_up rank.0) rank.1) ranks in
    let bytes = λ (ranks : List (ℕ × List Call)). sum_by (λ rank. memory_bytes rank.0 rank.1) ranks in
    let all = zip l.script.spaces l.script.calls in
    record {
      next : (goal.iterator-loop-space).can_next l.space-iterator;
      finite : (goal.iterator-loop-space).is_finite l.space-iterator;
      parts : l.parts ++ parts_from l.cell left ≡ parts_from 0 all;
      bases : l.bases ++ bases left ≡ bases all;
      bytes : l.cell + bytes left ≤ 65536;
      calls : sum_by length lists ≤ 65536;
    }
