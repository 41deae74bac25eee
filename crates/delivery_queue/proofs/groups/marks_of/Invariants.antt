use Rattle.std.proofs.Common.{take}
use Rattle.std.specs.List.{All}
use Rattle.delivery_queue.specs.declared.begun.Begun.{Begun}
use Rattle.delivery_queue.specs.Blocks.{ones_in}
use Rattle.delivery_queue.specs.Marked.{IsMarked}
use Rattle.delivery_queue.proofs.groups.marks_of.Given as goal

abbrev pub invariant-loop-part : goal.invariant-loop-part
invariant-loop-part g l =
    All (λ (one : Begun). IsMarked l.marks one.access) (ones_in g.P.Part.ones (take l.part-index l.parts))
