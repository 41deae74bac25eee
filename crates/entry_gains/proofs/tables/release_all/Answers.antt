use Rattle.std.proofs.Common.{sym, ap, cond, Option, None}
use Rattle.rma_types.specs.declared.calls.Lock.{Lock}
use Rattle.entry_gains.specs.Tables.{held_at}
use Rattle.entry_gains.proofs.LockKeys.{reached_more, reached_none}
use Rattle.entry_gains.proofs.tables.release_all.Goals as goal

pub loop-target-init : goal.loop-target-init
loop-target-init c = λ other. sym (ap (λ b. cond b None (held_at c.args.held.now other))
    (reached_none c.args.side c.args.reach other))

pub loop-target-preserved : goal.loop-target-preserved
loop-target-preserved c = λ other. reached_more (λ (held : Option Lock). None) (held_at c.args.held.now other)
    (held_at c.loop-target.held other) (held_at c.release_at.new.held other)
    c.args.side c.args.reach c.loop-target.target other (c.loop-target.invariant other) (c.release_at.ensures other)
