use Rattle.std.proofs.Common.{◌∙◌, ap, sym, true, arith}
use Rattle.std.specs.List.{list_any}
use Rattle.board_rules.specs.Locks.{Held}
use Rattle.lock_table.specs.HeldLocks.{locks_at_target}
use Rattle.lock_table.proofs.TargetLocks.{shared_held}
use Rattle.lock_table.proofs.targets.Target.is_held.Goals as goal

pub returns-in-Shared : goal.returns-in-Shared
returns-in-Shared c = λ window target.
    shared_held window target c.in-Shared.holders (omega arith)
    ∙ ap (λ one. list_any (λ (_ : Held). true) (locks_at_target window target one)) (sym c.in-Shared.is)
