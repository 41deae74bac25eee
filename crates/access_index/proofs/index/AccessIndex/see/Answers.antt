-- One access more of a rank.
use Rattle.std.proofs.Common.{rules, ◌≡◌, ◌+◌, ◌<◌, length, refl}
use Rattle.std.specs.Prelude.{slice_index}
use Rattle.access_index.proofs.Blocks.{seen_more}
use Rattle.access_index.proofs.index.AccessIndex.see.Goals as goal

pub returns : goal.returns
returns c rows has =
    let rank = c.args.rank in
    let old = c.args.self.now in
    let next = c.put_access.new.self in
    let byte : rank < 256 = search rules in
    let wide : length next.counts ≡ 256 = search rules in
    let later : c.in_ok-next.next ≡ slice_index old.counts rank + 1 = search rules in
    seen_more rows rank c.args.access.now old next (slice_index old.counts rank) c.in_ok-next.next byte wide refl later
    c.put_access.ensures.counts has c.in_ok-put_access.ensures.sound c.in_ok-put_access.ensures.keeps
    c.in_ok-put_access.ensures.listed
