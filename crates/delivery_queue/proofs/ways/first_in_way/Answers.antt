use Rattle.std.proofs.Common.{◌≡◌, ◌∙◌, sym, ap, slice_get, Some}
use Rattle.std.specs.Option.{option_map}
use Rattle.std.proofs.lemmas.Option.{slice_get-map}
use Rattle.rank_rules.specs.declared.pending.PendingAccess.{PendingAccess}
use Rattle.delivery_queue.specs.declared.begun.Begun.{Begun}
use Rattle.delivery_queue.specs.Blocks.{accesses_of}
use Rattle.delivery_queue.specs.Soughts.{before, is_sought}
use Rattle.delivery_queue.proofs.FirstFound.{first_found}
use Rattle.delivery_queue.proofs.ways.first_in_way.Goals as goal

pub returns-clause-place : goal.returns-clause-place
returns-clause-place g c =
    let ones = g.P.Part.ones c.args.ones.now in
    let later : PendingAccess = c.at.result.access in
    let here : slice_get (accesses_of ones) c.args.at ≡ Some later =
    slice_get-map (λ (one : Begun). one.access) ones c.args.at
    ∙ ap (option_map (λ (one : Begun). one.access)) c.at.ensures in
    c.found_before.ensures.place ∙ ap (before c.args.at) c.first-found.ensures.place
    ∙ sym (first_found (accesses_of ones) c.args.at later (is_sought c.in_way_of.result) here c.in_way_of.ensures)
