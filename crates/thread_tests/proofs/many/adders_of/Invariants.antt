use Rattle.std.proofs.Common.{◌≡◌, ◌+◌, length}
use Rattle.std.specs.Prelude.{All}
use Rattle.thread_tests.specs.Ready.{IsReady, IsReadyOption}
use Rattle.thread_tests.proofs.many.adders_of.Given as goal

abbrev pub invariant-loop-pass : goal.invariant-loop-pass
invariant-loop-pass l =
    All (IsReady l.fn.cells 100000 0) l.passes.items
    × All (λ adder. IsReadyOption l.fn.cells 100000 adder.pass) l.adders.items
    × (length l.adders.items + length l.passes.items ≡ length l.fn.passes.items)

abbrev pub decreases-loop-pass : goal.decreases-loop-pass
decreases-loop-pass l = length l.passes.items
