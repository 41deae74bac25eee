use Rattle.std.proofs.Common.{◌≡◌, ◌≤◌, ◌+◌}
use Rattle.std.specs.HashMap.{spare}
use Rattle.entry_gains.specs.Slots.{front_at, AreFrom}
use Rattle.entry_gains.specs.Kept.{IsFilledBelow}
use Rattle.entry_gains.proofs.tokens.fill_all.Given as goal

abbrev pub invariant-loop-at : goal.invariant-loop-at
invariant-loop-at g l = record {
  filled : IsFilledBelow l.at l.plan (g.N.Token.front l.gift) (front_at g.N.Token.front l.initial.tokens)
      (front_at g.N.Token.front l.tokens);
  front : g.N.Token.front l.gift ≡ g.N.Token.front l.initial.gift;
  origin : g.N.Token.origin l.gift ≡ g.N.Token.origin l.initial.gift;
  from : AreFrom g.N.Token.origin (g.N.Token.origin l.gift) l.tokens;
  room : 32 ≤ spare l.tokens + l.at;
}
