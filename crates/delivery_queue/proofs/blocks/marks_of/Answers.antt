use Rattle.std.proofs.Common.{◌≡◌, take, arith, subst}
use Rattle.std.proofs.lemmas.List.{take_all, get_or_default}
use Rattle.delivery_queue.specs.declared.begun.Begun.{Begun}
use Rattle.delivery_queue.specs.Marked.{IsMarked}
use Rattle.delivery_queue.proofs.Joined.{marked_next}
use Rattle.delivery_queue.proofs.blocks.marks_of.Goals as goal

pub loop-one-preserved : goal.loop-one-preserved
loop-one-preserved c =
    marked_next c.loop-one.marks c.with-marks.result c.args.ones.now c.loop-one.one-index c.loop-one.invariant
    c.with-marks.ensures.kept
    (λ d l. subst (λ (one : Begun). IsMarked c.with-marks.result one.access)
    (get_or_default c.args.ones.now c.loop-one.one-index _ d l) c.with-marks.ensures.added)

pub returns : goal.returns
returns c =
    let all : take c.loop-one.one-index c.args.ones.now ≡ c.args.ones.now = take_all _ _ (omega arith) in
    rw all at c.loop-one.invariant
