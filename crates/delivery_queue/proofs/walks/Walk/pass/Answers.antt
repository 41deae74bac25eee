use Rattle.std.proofs.Common.{◌+◌, ◌-◌, ◌<◌, ℕ, List, [], ◌∷◌, ◌++◌, arith, subst}
use Rattle.rank_rules.specs.declared.pending.PendingAccess.{PendingAccess}
use Rattle.std.specs.List.{remove}
use Rattle.delivery_queue.specs.Walked.{leads}
use Rattle.delivery_queue.proofs.LinksKept.{last_gap, led_without}
use Rattle.delivery_queue.proofs.walks.Walk.pass.Goals as goal

pub overflow_add-self : goal.overflow_add-self
overflow_add-self c =
    let walk = c.args.self.now in
    let along : List PendingAccess = c.requires.0 in
    let led : leads along walk.start (c.pop.new.self.items ++ c.in-Some.gap ∷ []) walk.end =
    subst (λ (gaps : List ℕ). leads along walk.start gaps walk.end) c.in-Some.ensures.items c.requires.1 in
    let last = (last_gap along walk.start c.pop.new.self.items c.in-Some.gap walk.end led).1 in
    let here = c.if-self-at.true in
    let small = c.fits-self in
    grind (arith, last, here, small)

pub overflow_sub-self : goal.overflow_sub-self
overflow_sub-self c =
    let walk = c.args.self.now in
    let along : List PendingAccess = c.requires.0 in
    let led : leads along walk.start (c.pop.new.self.items ++ c.in-Some.gap ∷ []) walk.end =
    subst (λ (gaps : List ℕ). leads along walk.start gaps walk.end) c.in-Some.ensures.items c.requires.1 in
    let back : 0 < c.in-Some.gap = (last_gap along walk.start c.pop.new.self.items c.in-Some.gap walk.end led).0 in
    omega arith

pub returns-in-Some : goal.returns-in-Some
returns-in-Some c = λ pending within walked.
    let walk = c.args.self.now in
    let led : leads pending walk.start (c.pop.new.self.items ++ c.in-Some.gap ∷ []) walk.end =
    subst (λ (gaps : List ℕ). leads pending walk.start gaps walk.end) c.in-Some.ensures.items walked in
    subst (λ (end : ℕ). leads (remove pending end) (walk.start - 1) c.pop.new.self.items (end + c.in-Some.gap - 1))
    c.if-self-at.true (led_without pending walk.start c.pop.new.self.items c.in-Some.gap walk.end led)
