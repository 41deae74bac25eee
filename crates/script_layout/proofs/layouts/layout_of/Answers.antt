use Rattle.std.proofs.Common.{◌≡◌, ◌∙◌, [], refl, sym}
use Rattle.std.specs.List.{zip}
use Rattle.std.specs.Iterator.Adapters.{zip_first, zip_second}
use Rattle.std.specs.Slice.Iter.{iter_rest}
use Rattle.std.proofs.lemmas.List.{append-nil}
use Rattle.std.proofs.lemmas.Slice.Zip.{either_empty_from_Zip}
use Rattle.call_rules.specs.Layout.{layout}
use Rattle.script_layout.proofs.Pairs.{zip-nil}
use Rattle.script_layout.proofs.layouts.layout_of.Goals as goal

pub returns : goal.returns
returns c =
    let it = c.loop-space.space-iterator in
    let none : zip (iter_rest (zip_first it)) (iter_rest (zip_second it))
    ≡ [] = zip-nil _ _ (either_empty_from_Zip it c.next.new.self c.next.result c.in-None.is c.next.ensures.steps)
    in
    let parts : c.loop-space.parts ≡ (layout c.args.script.now).parts = sym (append-nil _)
    ∙ (rw none at c.loop-space.invariant.parts) in
    let bases : c.loop-space.bases ≡ (layout c.args.script.now).bases = sym (append-nil _)
    ∙ (rw none at c.loop-space.invariant.bases) in
    rw (parts, bases) refl
