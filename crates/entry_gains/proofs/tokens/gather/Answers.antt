use Rattle.std.proofs.Common.{◌≡◌, ◌∙◌, ap, sym, arith}
use Rattle.std.specs.Option.{option_map}
use Rattle.entry_gains.specs.Kept.{gained_at, gained_below, gained_from}
use Rattle.entry_gains.specs.Plans.{plan_slot}
use Rattle.entry_gains.specs.Slots.{front_at, joined}
use Rattle.entry_gains.proofs.PlanSteps.{gained_alike, gained_next, gained_whole}
use Rattle.entry_gains.proofs.tokens.gather.Goals as goal

pub loop-at-preserved : goal.loop-at-preserved
loop-at-preserved g c = record {
  gathered = c.gather_at-all.ensures.gathered
      ∙ (ap (joined (option_map g.N.Token.front c.loop-at.all))
      (gained_alike (front_at g.N.Token.front c.loop-at.tokens)
      (front_at g.N.Token.front c.args.tokens.now) c.loop-at.invariant.kept
      (plan_slot c.args.plan.now c.loop-at.at))
      ∙ (ap (λ all. joined all (gained_at (front_at g.N.Token.front c.args.tokens.now)
      (plan_slot c.args.plan.now c.loop-at.at))) c.loop-at.invariant.gathered
      ∙ sym (gained_next (front_at g.N.Token.front c.args.tokens.now) (plan_slot c.args.plan.now) c.loop-at.at)));
  origin = c.gather_at-all.ensures.origin;
  kept = λ slot. c.gather_at-all.ensures.kept slot ∙ c.loop-at.invariant.kept slot;
  from = c.gather_at-all.ensures.from;
  room = c.gather_at-all.ensures.room ∙ c.loop-at.invariant.room;
}

pub returns-clause-gathered : goal.returns-clause-gathered
unfolding gained_from
returns-clause-gathered g c =
    let end : c.loop-at.at ≡ c.end-end.result = omega arith in
    c.loop-at.invariant.gathered ∙ (ap (λ n. gained_below n (front_at g.N.Token.front c.args.tokens.now)
    (plan_slot c.args.plan.now)) end
    ∙ gained_whole (front_at g.N.Token.front c.args.tokens.now) (plan_slot c.args.plan.now) c.end-end.result
    c.end-end.ensures.most c.end-end.ensures.rest)
