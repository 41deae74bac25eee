use Rattle.std.proofs.Common.{rules, ◌≡◌, ap, ◌∙◌, sym, length, ◌*◌}
use Rattle.std.specs.Prelude.{sum}
use Rattle.thread_tests.proofs.PassLists.{held_by_all}
use Rattle.thread_tests.proofs.many.add_and_close.Goals as goal

pub close-requires-clause-whole : goal.close-requires-clause-whole
close-requires-clause-whole g c =
    let shares : sum c.in_ok-cells.cells.shares ≡ 1600000 = ap sum c.in_ok-cells.ensures.shares in
    let count : length c.in_ok-passes.passes.items ≡ 16 = search rules in
    held_by_all c.in_ok-cells.cells c.in_ok-passes.passes.items c.in_ok-passes.ensures.ready ∙ ap (λ n. n * 100000) count ∙ sym shares
