use Rattle.std.proofs.Common.{◌≡◌, ◌∙◌, sym, ap, true, false, refl, arith, get_or}
use Rattle.std.specs.List.{list_any}
use Rattle.std.proofs.lemmas.Bool.{not-true, not-false}
use Rattle.std.proofs.lemmas.List.{take_all}
use Rattle.board_rules.specs.Locks.{Held, is_exclusive}
use Rattle.lock_table.specs.declared.targets.Target.TheVariants.{Shared}
use Rattle.lock_table.specs.HeldLocks.{locks_at_target, locks_from}
use Rattle.lock_table.proofs.TableLocks.{none_more, some_at}
use Rattle.lock_table.proofs.tables.LockTable.may_grant_all.Goals as goal

pub loop-locks-preserved : goal.loop-locks-preserved
loop-locks-preserved c = λ window.
    let here : list_any (λ (one : Held). is_exclusive one.kind)
    (locks_at_target window c.loop-locks.locks-index
    (get_or c.self.inside.targets c.loop-locks.locks-index (Shared 0))) ≡ false =
    not-true _ (sym (c.may_grant.ensures window c.loop-locks.locks-index) ∙ c.if-not-may_grant.false) in
    none_more window c.loop-locks.locks-index c.self.inside.targets (Shared 0) (omega arith)
    (λ one. is_exclusive one.kind) (c.loop-locks.invariant window) here

pub returns-then-not-may_grant : goal.returns-then-not-may_grant
returns-then-not-may_grant c =
    let here : list_any (λ (one : Held). is_exclusive one.kind)
    (locks_at_target c.self.inside.window c.loop-locks.locks-index
    (get_or c.self.inside.targets c.loop-locks.locks-index (Shared 0))) ≡ true =
    not-false _ (sym (c.may_grant.ensures c.self.inside.window c.loop-locks.locks-index) ∙ c.if-not-may_grant.true) in
    rw (
      ← c.self.view_is,
      some_at c.self.inside.window c.loop-locks.locks-index c.self.inside.targets (Shared 0)
          (omega arith) (λ one. is_exclusive one.kind) here,
    ) refl

pub returns : goal.returns
returns c =
    let none : list_any (λ (one : Held). is_exclusive one.kind)
    (locks_from c.self.inside.window 0 c.self.inside.targets) ≡ false =
    sym (ap (λ targets. list_any (λ (one : Held). is_exclusive one.kind) (locks_from c.self.inside.window 0 targets))
    (take_all c.loop-locks.locks-index c.self.inside.targets (omega arith)))
    ∙ c.loop-locks.invariant c.self.inside.window in
    rw (← c.self.view_is, none) refl
