-- The front moves on, and the first that may not stand beside the access is chosen.
use Rattle.std.proofs.Common.{◌≡◌, ◌<◌, ◌⊎◌, ◌≤◌, ℕ, Option, true, false, ap, length, sym, subst, ◌∙◌}
use Rattle.order_rules.specs.Ordered.{JudgedAccess}
use Rattle.first_points.specs.Alike.{judged_by}
use Rattle.access_sweeps.specs.Labels.{do_stand, label_of}
use Rattle.access_sweeps.specs.Sweeps.{first_at, is_passed}
use Rattle.access_sweeps.specs.declared.kinds.Label.{Label}
use Rattle.access_sweeps.proofs.Passings.{first_chosen, other_chosen}
use Rattle.access_sweeps.proofs.fronts.Passed.choice.Goals as goal

pub returns-then-may_stand-clause-choice : goal.returns-then-may_stand-clause-choice
returns-then-may_stand-clause-choice c =
    let s = c.args.self.now in
    let n = c.first_unordered-first.result in
    let y = judged_by c.args.b.now in
    let within : n < length s.places.now = c.may_stand.ensures.there c.if-may_stand.true in
    let label : c.label.result ≡ label_of s.by_operation (first_at s n).access =
    c.label.ensures ∙ ap (λ (x : JudgedAccess). label_of s.by_operation x.access) c.access.ensures in
    other_chosen s c.args.front n c.max-other.result y c.first_unordered-first.ensures.low
    c.first_unordered-first.ensures.bound c.requires.first c.requires.other c.max-other.ensures
    c.first_unordered-first.ensures.passed c.first_unordered-first.ensures.stops
    c.first_unlike-other.result c.first_unlike-other.ensures.low c.first_unlike-other.ensures.bound
    (sym (c.may_stand.ensures.stands within) ∙ c.if-may_stand.true)
    (subst (λ (l : Option Label). (k : ℕ) → c.max-other.result ≤ k → k < c.first_unlike-other.result →
    (is_passed s k y ≡ true) ⊎ (do_stand (label_of s.by_operation (first_at s k).access) l ≡ true)) label
    c.first_unlike-other.ensures.passed)
    c.first_unlike-other.ensures.unordered
    (subst (λ (l : Option Label). c.first_unlike-other.result < length s.places.now →
    do_stand (label_of s.by_operation (first_at s c.first_unlike-other.result).access) l ≡ false) label
    c.first_unlike-other.ensures.unlike)

pub returns-clause-choice : goal.returns-clause-choice
returns-clause-choice c =
    first_chosen c.args.self.now c.args.front c.first_unordered-first.result c.max-other.result
    (judged_by c.args.b.now) c.first_unordered-first.ensures.low
    c.first_unordered-first.ensures.bound c.requires.first c.requires.other c.max-other.ensures
    c.first_unordered-first.ensures.passed c.first_unordered-first.ensures.stops
    (λ within. sym (c.may_stand.ensures.stands within) ∙ c.if-may_stand.false)
