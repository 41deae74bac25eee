use Rattle.std.proofs.Common.{◌≤◌, ◌+◌, arith, length}
use Rattle.rma_streams.proofs.MoveLemmas.{drop-copied}
use Rattle.rma_streams.proofs.cursors.ByteCursor.take_into.Goals as goal

pub returns-clause-moved : goal.returns-clause-moved
returns-clause-moved c =
    let within : c.self.inside.at + c.min-count.result ≤ length c.self.inside.bytes.items = omega arith in
    drop-copied _ _ _ _ _ _ _ c.self.view_is c.deref.ensures.value within c.copy_from_slice.ensures.after
