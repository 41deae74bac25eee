use Rattle.std.proofs.Common.{List, [], ap, ◌∙◌}
use Rattle.std.specs.Prelude.{Option}
use Rattle.std.specs.Option.{unwrap_or}
use Rattle.std.proofs.lemmas.Option.{unwrap_or-slice_get}
use Rattle.rma_types.specs.declared.calls.Call.{Call}
use Rattle.rank_records.proofs.logs.calls_at.Goals as goal

pub returns-in-None : goal.returns-in-None
returns-in-None c =
    ap (λ (o : Option (List Call)). unwrap_or o []) c.in-None.ensures.value
    ∙ unwrap_or-slice_get c.args.script.now.calls c.args.rank []
