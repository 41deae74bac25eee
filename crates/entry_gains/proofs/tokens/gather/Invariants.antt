use Rattle.std.proofs.Common.{◌≡◌, IfSome}
use Rattle.std.specs.HashMap.{spare}
use Rattle.std.specs.Option.{option_map}
use Rattle.entry_gains.specs.Kept.{gained_below}
use Rattle.entry_gains.specs.Plans.{plan_slot}
use Rattle.entry_gains.specs.Slots.{front_at, AreFrom}
use Rattle.entry_gains.specs.declared.slots.Slot.{Slot}
use Rattle.entry_gains.proofs.tokens.gather.Given as goal

abbrev pub invariant-loop-at : goal.invariant-loop-at
invariant-loop-at g l = record {
  gathered : option_map g.N.Token.front l.all
      ≡ gained_below l.at (front_at g.N.Token.front l.initial.tokens) (plan_slot l.plan);
  origin : IfSome l.all (λ token. g.N.Token.origin token ≡ g.N.Token.origin l.root);
  kept : (slot : Slot) → front_at g.N.Token.front l.tokens slot ≡ front_at g.N.Token.front l.initial.tokens slot;
  from : AreFrom g.N.Token.origin (g.N.Token.origin l.root) l.tokens;
  room : spare l.tokens ≡ spare l.initial.tokens;
}
