use Rattle.std.proofs.Common.{◌≡◌, ◌+◌, take, arith, ◌++◌}
use Rattle.std.proofs.lemmas.List.{take_all}
use Rattle.delivery_queue.specs.Blocks.{ones_in}
use Rattle.delivery_queue.proofs.Joined.{marked_both, taken_next}
use Rattle.delivery_queue.proofs.groups.marks_of.Goals as goal

pub loop-part-preserved : goal.loop-part-preserved
loop-part-preserved g c =
    let f = g.P.Part.ones in
    let parts = c.args.parts.now in
    let at = c.loop-part.part-index in
    let part = c.part-item.result in
    let taken : ones_in f (take (at + 1) parts) ≡ ones_in f (take at parts) ++ f part =
    taken_next f parts at part (omega arith) c.part-item.is in
    rw taken (marked_both c.loop-part.marks c.marks.result c.both-marks.result (ones_in f (take at parts)) (f part)
    c.loop-part.invariant c.marks.ensures c.both-marks.ensures.these c.both-marks.ensures.others)

pub returns : goal.returns
returns g c =
    let all : take c.loop-part.part-index c.args.parts.now ≡ c.args.parts.now = take_all _ _ (omega arith) in
    rw all at c.loop-part.invariant
