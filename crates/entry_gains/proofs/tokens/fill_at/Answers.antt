use Rattle.std.proofs.Common.{sym, ap, ◌∙◌, cond, Some}
use Rattle.entry_gains.specs.Slots.{front_at, joined, slot_eq}
use Rattle.entry_gains.proofs.PlanSteps.{filled_none, filled_some}
use Rattle.entry_gains.proofs.tokens.fill_at.Goals as goal

pub returns-in-Some-clause-filled : goal.returns-in-Some-clause-filled
returns-in-Some-clause-filled g c = λ before below.
    filled_some before (front_at g.N.Token.front c.args.tokens.now)
    (front_at g.N.Token.front c.fill.new.tokens) c.args.plan.now
    (g.N.Token.front c.args.gift.now) c.args.at c.in-Some.slot below
    (sym c.slot.ensures ∙ c.in-Some.is)
    (λ other. c.fill.ensures.filled other
    ∙ ap (λ f. cond (slot_eq c.in-Some.slot other) (joined (front_at g.N.Token.front c.args.tokens.now c.in-Some.slot)
    (Some f)) (front_at g.N.Token.front c.args.tokens.now other)) c.fork.ensures.front)

pub returns-in-None-clause-filled : goal.returns-in-None-clause-filled
returns-in-None-clause-filled g c = λ before below.
    filled_none before (front_at g.N.Token.front c.args.tokens.now) c.args.plan.now
    (g.N.Token.front c.args.gift.now) c.args.at below (sym c.slot.ensures ∙ c.in-None.is)
