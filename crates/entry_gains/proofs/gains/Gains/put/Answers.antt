use Rattle.std.proofs.Common.{refl, ◌+◌}
use Rattle.std.specs.Option.{option_map}
use Rattle.entry_gains.specs.Gains.{row_of}
use Rattle.entry_gains.proofs.Putting.{put_keeps}
use Rattle.entry_gains.proofs.gains.Gains.put.Goals as goal

pub returns-clause-keeps : goal.returns-clause-keeps
returns-clause-keeps g c = λ ranks entries number next keeps. put_keeps g.N.Token.front c.args.self.now
    (record {
      ranks = c.args.self.now.ranks;
      count = c.args.self.now.count + 1;
      ledger = c.add.new.self;
      tokens =
          c.fill_gift.new.tokens;
      root = c.args.self.now.root;
    })
    ranks c.args.window entries (row_of c.args.rank number c.args.call.now c.args.step)
    (option_map g.N.Token.front c.args.gift) c.given_plan-plan.result c.deed_of-deed.result
    next keeps c.requires.room.count c.deed_of-deed.ensures c.given_plan-plan.ensures c.fill_gift.ensures.filled
    c.add.ensures refl refl
