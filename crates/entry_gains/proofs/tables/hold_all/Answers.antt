use Rattle.std.proofs.Common.{sym, ap, arith, cond, Option, Some}
use Rattle.rma_types.specs.declared.calls.Lock.{Lock}
use Rattle.entry_gains.specs.Tables.{held_at, stronger}
use Rattle.entry_gains.proofs.LockKeys.{reached_more, reached_none}
use Rattle.entry_gains.proofs.tables.hold_all.Goals as goal

pub loop-target-init : goal.loop-target-init
loop-target-init c = record {
  kinds = λ other. sym (ap (λ b. cond b (Some (stronger (held_at c.args.held.now other) c.args.kind))
      (held_at c.args.held.now other)) (reached_none c.args.side c.args.reach other));
  room = omega arith;
}

pub loop-target-preserved : goal.loop-target-preserved
loop-target-preserved c = record {
  kinds = λ other. reached_more (λ (held : Option Lock). Some (stronger held c.args.kind))
      (held_at c.args.held.now other) (held_at c.loop-target.held other) (held_at c.hold_at.new.held other)
      c.args.side c.args.reach c.loop-target.target other (c.loop-target.invariant.kinds other)
      (c.hold_at.ensures.kinds other);
  room = omega arith;
}
