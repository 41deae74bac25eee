use Rattle.entry_gains.proofs.EmptyTables.{tables_none}
use Rattle.entry_gains.proofs.ledger.Ledger.new.Goals as goal

pub returns : goal.returns
returns c = λ ranks. tables_none ranks (record {
  rounds = c.new.result;
  sides = c.new-2.result;
  started =
      c.new-3.result;
  held = c.new-4.result;
}) c.new.ensures.empty c.new-2.ensures.empty c.new-3.ensures.empty
    c.new-4.ensures.empty
