use Rattle.std.proofs.Common.{◌≡◌, ◌+◌, ◌∙◌, sym, ap, List, ◌++◌, drop, length, arith}
use Rattle.std.proofs.Common.{length-append}
use Rattle.std.specs.List.{position_from}
use Rattle.std.proofs.lemmas.Iterator.Adapters.{position_from-zero}
use Rattle.delivery_queue.specs.declared.begun.Begun.{Begun}
use Rattle.delivery_queue.specs.Blocks.{ones_in, accesses_of}
use Rattle.delivery_queue.specs.Soughts.{is_sought}
use Rattle.delivery_queue.proofs.FirstFound.{found_in_block, not_in_block}
use Rattle.delivery_queue.proofs.Joined.{parted_next}
use Rattle.delivery_queue.proofs.searches.first.Goals as goal

pub loop-part-init : goal.loop-part-init
loop-part-init g c = record {
  rest = sym (position_from-zero (is_sought c.args.sought.now) (accesses_of (ones_in g.P.Part.ones c.args.parts.now)));
  count = omega arith;
}

pub returns-in-Some-clause-place : goal.returns-in-Some-clause-place
returns-in-Some-clause-place g c =
    let at = c.loop-part.part-index in
    let p = is_sought c.args.sought.now in
    let f = g.P.Part.ones in
    let part = c.part-item.result in
    let block : List Begun = f part in
    let rest = ones_in f (drop (at + 1) c.args.parts.now) in
    let parts : ones_in f (drop at c.args.parts.now) ≡ block ++ rest =
    parted_next f c.args.parts.now at part (omega arith) c.part-item.is in
    sym (found_in_block p c.loop-part.before c.in-Some.offset block rest (sym c.in-Some.ensures.place))
    ∙ ap (λ (ones : List Begun). position_from p c.loop-part.before (accesses_of ones)) (sym parts)
    ∙ c.loop-part.invariant.rest

pub loop-part-preserved : goal.loop-part-preserved
loop-part-preserved g c =
    let at = c.loop-part.part-index in
    let p = is_sought c.args.sought.now in
    let f = g.P.Part.ones in
    let part = c.part-item.result in
    let block : List Begun = f part in
    let rest = ones_in f (drop (at + 1) c.args.parts.now) in
    let parts : ones_in f (drop at c.args.parts.now) ≡ block ++ rest =
    parted_next f c.args.parts.now at part (omega arith) c.part-item.is in
    let count : length (ones_in f (drop at c.args.parts.now)) ≡ length block + length rest =
    ap length parts ∙ length-append block rest in
    let long : c.len-before.result ≡ length block = c.len-before.ensures in
    let whole = c.loop-part.invariant.count in
    record {
      rest = rw long
          (sym (not_in_block p c.loop-part.before block rest (sym c.in-None.ensures.place))
          ∙ ap (λ (ones : List Begun). position_from p c.loop-part.before (accesses_of ones)) (sym parts)
          ∙ c.loop-part.invariant.rest);
      count = omega arith;
    }
