use Rattle.std.proofs.Common.{refl}
use Rattle.entry_gains.proofs.Putting.{keeps_none}
use Rattle.entry_gains.proofs.gains.Gains.new.Goals as goal

pub returns-clause-keeps : goal.returns-clause-keeps
returns-clause-keeps g c = keeps_none g.N.Token.front
    (record { ranks = c.args.ranks; count = 0; ledger = c.new.result; tokens = c.new-2.result; root = c.args.root })
    c.args.ranks refl c.requires refl (c.new.ensures c.args.ranks) c.new-2.ensures.empty
