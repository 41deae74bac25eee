use Rattle.std.proofs.Common.{◌∙◌, ap, sym}
use Rattle.std.specs.List.{list_any}
use Rattle.lock_table.specs.HeldLocks.{locks_at_target, is_holder}
use Rattle.lock_table.proofs.TargetLocks.{shared_by}
use Rattle.lock_table.proofs.targets.Target.is_held_by.Goals as goal

pub returns-in-Shared : goal.returns-in-Shared
returns-in-Shared c = λ window target.
    shared_by window target c.in-Shared.holders c.args.rank c.requires
    ∙ ap (λ one. list_any (is_holder c.args.rank) (locks_at_target window target one)) (sym c.in-Shared.is)
