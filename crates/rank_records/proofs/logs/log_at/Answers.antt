use Rattle.std.proofs.Common.{List, [], ap, ◌∙◌}
use Rattle.std.specs.Prelude.{Option}
use Rattle.std.specs.Option.{unwrap_or}
use Rattle.std.proofs.lemmas.Option.{unwrap_or-slice_get}
use Rattle.rma_record.specs.declared.items.Item.{Item}
use Rattle.rank_records.proofs.logs.log_at.Goals as goal

pub returns-in-None : goal.returns-in-None
returns-in-None c =
    ap (λ (o : Option (List Item)). unwrap_or o []) c.in-None.ensures
    ∙ unwrap_or-slice_get c.args.run.now.logs c.args.rank []
