use Rattle.std.proofs.Common.{ap, refl}
use Rattle.std.specs.Option.{option_map}
use Rattle.entry_gains.proofs.Putting.{keeps_stay}
use Rattle.entry_gains.proofs.gains.Gains.reserve.Goals as goal

pub returns-in_err-reserve-clause-keeps : goal.returns-in_err-reserve-clause-keeps
returns-in_err-reserve-clause-keeps g c = λ ranks entries keeps. keeps_stay g.N.Token.front c.args.self.now
    (record {
      ranks = c.args.self.now.ranks;
      count = c.args.self.now.count;
      ledger = c.reserve.new.self;
      tokens =
          c.args.self.now.tokens;
      root = c.args.self.now.root;
    })
    ranks entries keeps refl refl c.reserve.ensures.stays (λ slot. refl)

pub returns-in-Ok-clause-keeps : goal.returns-in-Ok-clause-keeps
returns-in-Ok-clause-keeps g c = λ ranks entries keeps. keeps_stay g.N.Token.front c.args.self.now
    (record {
      ranks = c.args.self.now.ranks;
      count = c.args.self.now.count;
      ledger = c.reserve.new.self;
      tokens =
          c.reserve-2.new.self;
      root = c.args.self.now.root;
    })
    ranks entries keeps refl refl c.reserve.ensures.stays (λ slot. ap (option_map g.N.Token.front)
    (c.reserve-2.ensures.entries.2 slot))

pub returns-in-Err-clause-keeps : goal.returns-in-Err-clause-keeps
returns-in-Err-clause-keeps g c = λ ranks entries keeps. keeps_stay g.N.Token.front c.args.self.now
    (record {
      ranks = c.args.self.now.ranks;
      count = c.args.self.now.count;
      ledger = c.reserve.new.self;
      tokens =
          c.reserve-2.new.self;
      root = c.args.self.now.root;
    })
    ranks entries keeps refl refl c.reserve.ensures.stays (λ slot. ap (option_map g.N.Token.front)
    (c.reserve-2.ensures.entries.2 slot))
