-- Nothing was given, and no window begun.
use Rattle.std.proofs.Common.{◌+◌, ◌*◌}
use Rattle.list_laws.proofs.Lists.{zeros}
use Rattle.entry_gains.proofs.by_place.GainsByPlace.new.Goals as goal

pub returns : goal.returns
returns c = record {
  gains = c.new.ensures.keeps;
  begun = λ rank name high low. zeros 512 (32 * rank + name);
}
