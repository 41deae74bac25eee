use Rattle.std.proofs.Common.{take}
use Rattle.std.specs.List.{All}
use Rattle.delivery_queue.specs.declared.begun.Begun.{Begun}
use Rattle.delivery_queue.specs.Marked.{IsMarked}
use Rattle.delivery_queue.proofs.blocks.marks_of.Given as goal

abbrev pub invariant-loop-one : goal.invariant-loop-one
invariant-loop-one l = All (λ (one : Begun). IsMarked l.marks one.access) (take l.one-index l.ones)
