use Rattle.std.specs.Option.{option_map}
use Rattle.entry_gains.specs.Gains.{row_of}
use Rattle.entry_gains.proofs.Putting.{gained_right}
use Rattle.entry_gains.proofs.gains.Gains.gained.Goals as goal

pub returns-clause-gains : goal.returns-clause-gains
returns-clause-gains g c = λ ranks entries number next keeps. gained_right g.N.Token.front c.args.self.now
    ranks c.args.window entries (row_of c.args.rank number c.args.call.now c.args.step)
    (option_map g.N.Token.front c.gather.result) c.gained_plan-plan.result c.deed_of-deed.result
    next keeps c.deed_of-deed.ensures c.gained_plan-plan.ensures c.gather.ensures.gathered
