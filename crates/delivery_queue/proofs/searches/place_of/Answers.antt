use Rattle.std.proofs.Common.{◌≡◌, ◌+◌, ◌∙◌, ap, List, ◌++◌, drop, take, length, arith, length-append}
use Rattle.delivery_queue.specs.declared.begun.Begun.{Begun}
use Rattle.delivery_queue.specs.Blocks.{ones_in}
use Rattle.delivery_queue.proofs.Joined.{parted_next, placed, taken_next}
use Rattle.delivery_queue.proofs.searches.place_of.Goals as goal

pub loop-part-preserved : goal.loop-part-preserved
loop-part-preserved g c =
    let at = c.loop-part.part in
    let f = g.P.Part.ones in
    let part = c.index-parts-part.result in
    let block : List Begun = f part in
    let rest = ones_in f (drop (at + 1) c.args.parts.now) in
    let parts : ones_in f (drop at c.args.parts.now) ≡ block ++ rest =
    parted_next f c.args.parts.now at part (omega arith) c.index-parts-part.is in
    let count : length (ones_in f (drop at c.args.parts.now)) ≡ length block + length rest =
    ap length parts ∙ length-append block rest in
    let taken : ones_in f (take (at + 1) c.args.parts.now) ≡ ones_in f (take at c.args.parts.now) ++ block =
    taken_next f c.args.parts.now at part (omega arith) c.index-parts-part.is in
    let passed : length (ones_in f (take (at + 1) c.args.parts.now)) ≡
    length (ones_in f (take at c.args.parts.now)) + length block =
    ap length taken ∙ length-append (ones_in f (take at c.args.parts.now)) block in
    let long : c.len-len.result ≡ length block = c.len-len.ensures in
    let begins = c.loop-part.invariant.begins in
    let within = c.loop-part.invariant.within in
    let past = c.if-offset-len.false in
    record { begins = omega arith; within = omega arith }

pub returns-then-offset-len : goal.returns-then-offset-len
returns-then-offset-len g c =
    let f = g.P.Part.ones in
    let long : c.len-len.result ≡ length (f c.index-parts-part.result) = c.len-len.ensures in
    let within = c.if-offset-len.true in
    placed f c.args.parts.now c.args.at c.loop-part.part c.loop-part.offset c.index-parts-part.result (omega arith)
    c.index-parts-part.is (omega arith) c.loop-part.invariant.begins
