use Rattle.std.proofs.Common.{◌<◌, List, length, sym, subst}
use Rattle.std.proofs.lemmas.List.{length-map}
use Rattle.delivery_queue.specs.declared.begun.Begun.{Begun}
use Rattle.delivery_queue.specs.Blocks.{accesses_of}
use Rattle.delivery_queue.proofs.Joined.{map_remove}
use Rattle.delivery_queue.proofs.walks.Walk.remove.Goals as goal

pub follow-requires : goal.follow-requires
follow-requires g c =
    let ones : List Begun = g.P.Part.ones c.args.ones.now in
    let within : c.args.at < length (accesses_of ones) =
    subst (λ n. c.args.at < n) (sym (length-map ones (λ (one : Begun). one.access))) c.requires.at in
    rw (c.remove.ensures, map_remove (λ (one : Begun). one.access) ones c.args.at)
    (c.pass.ensures (accesses_of ones) within c.requires.walked)
