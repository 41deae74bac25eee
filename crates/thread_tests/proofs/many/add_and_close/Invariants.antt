use Rattle.thread_tests.proofs.many.add_and_close.Given as goal

abbrev pub invariant-loop-adder : goal.invariant-loop-adder
invariant-loop-adder g l = Unit {0}
