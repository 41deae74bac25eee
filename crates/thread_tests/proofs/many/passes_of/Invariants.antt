use Rattle.std.proofs.Common.{◌≡◌, ◌+◌, length}
use Rattle.std.specs.Prelude.{All}
use Rattle.thread_tests.specs.Ready.{IsReady, IsReadyOption}
use Rattle.thread_tests.proofs.many.passes_of.Given as goal

abbrev pub invariant-loop-adder : goal.invariant-loop-adder
invariant-loop-adder l =
    All (λ adder. IsReadyOption l.fn.cells 100000 adder.pass) l.adders.items
    × All (IsReady l.fn.cells 100000 0) l.passes.items
    × (length l.passes.items + length l.adders.items ≡ length l.fn.adders.items)

abbrev pub decreases-loop-adder : goal.decreases-loop-adder
decreases-loop-adder l = length l.adders.items
