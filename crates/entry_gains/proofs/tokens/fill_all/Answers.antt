use Rattle.std.proofs.Common.{◌≡◌, ◌∙◌, sym, refl, subst, arith}
use Rattle.entry_gains.specs.Kept.{has_slot_below, IsFilledBelow}
use Rattle.entry_gains.specs.Slots.{front_at}
use Rattle.entry_gains.proofs.Joined.{joined_none}
use Rattle.entry_gains.proofs.PlanSteps.{filled_whole}
use Rattle.entry_gains.proofs.tokens.fill_all.Goals as goal

pub loop-at-init : goal.loop-at-init
unfolding has_slot_below
loop-at-init g c = record {
  filled = λ slot. sym (joined_none (front_at g.N.Token.front c.args.tokens.now slot));
  front = refl;
  origin = refl;
  from = c.requires.from;
  room = omega arith;
}

pub loop-at-preserved : goal.loop-at-preserved
loop-at-preserved g c = record {
  filled = rw c.fill_at.ensures.front
      (c.fill_at.ensures.filled (front_at g.N.Token.front c.args.tokens.now) c.loop-at.invariant.filled);
  front = c.fill_at.ensures.front ∙ c.loop-at.invariant.front;
  origin = c.fill_at.ensures.origin ∙ c.loop-at.invariant.origin;
  from = rw c.fill_at.ensures.origin c.fill_at.ensures.from;
  room = omega arith;
}

pub returns-clause-filled : goal.returns-clause-filled
returns-clause-filled g c =
    let end : c.loop-at.at ≡ c.end-end.result = omega arith in
    filled_whole (front_at g.N.Token.front c.args.tokens.now) (front_at g.N.Token.front c.loop-at.tokens)
    c.args.plan.now (g.N.Token.front c.args.gift) c.end-end.result c.end-end.ensures.most c.end-end.ensures.rest
    (subst (λ n. IsFilledBelow n c.args.plan.now (g.N.Token.front c.args.gift)
    (front_at g.N.Token.front c.args.tokens.now) (front_at g.N.Token.front c.loop-at.tokens)) end
    (subst (λ front. IsFilledBelow c.loop-at.at c.args.plan.now front
    (front_at g.N.Token.front c.args.tokens.now) (front_at g.N.Token.front c.loop-at.tokens))
    c.loop-at.invariant.front c.loop-at.invariant.filled))
