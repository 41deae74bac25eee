use Rattle.std.proofs.Common.{◌<◌, ◌∙◌, ap, sym, arith, length, take, get_or, [], ◌∷◌, pos}
use Rattle.std.proofs.lemmas.List.{map-append, take_more}
use Rattle.call_rules.specs.Ranks.{is_member, members_of, natural}
use Rattle.entry_gains.proofs.deeds.named.Goals as goal

pub loop-member-preserved : goal.loop-member-preserved
loop-member-preserved c = λ rank below.
    let within : c.loop-member.member-index < length c.args.group.now = omega arith in
    c.add_member.ensures (members_of (take c.loop-member.member-index c.args.group.now)) c.loop-member.invariant rank
    below
    ∙ ap (is_member rank) (sym (ap members_of (take_more c.args.group.now c.loop-member.member-index (pos 0) within)
    ∙ map-append natural (take c.loop-member.member-index c.args.group.now)
    (get_or c.args.group.now c.loop-member.member-index (pos 0) ∷ [])))
