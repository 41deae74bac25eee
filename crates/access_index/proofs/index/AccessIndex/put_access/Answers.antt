-- The access is listed in its blocks and in its window.
use Rattle.access_index.specs.Indexes.{block_group}
use Rattle.access_index.proofs.Blocks.{listed_in}
use Rattle.access_index.proofs.index.AccessIndex.put_access.Goals as goal

pub returns-in_ok-put_window-clause-listed : goal.returns-in_ok-put_window-clause-listed
returns-in_ok-put_window-clause-listed c =
    let rank = c.args.rank in
    let a = c.args.access.now in
    listed_in c.put_window.new.self rank c.args.ordinal a
    (λ block begun inside. c.in_ok-put_window.ensures.keeps (block_group block rank a) c.args.ordinal
    (c.in_ok-put_blocks.ensures.listed block begun inside))
    c.in_ok-put_window.ensures.listed
