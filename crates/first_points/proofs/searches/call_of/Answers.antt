-- A rank that is none has no calls.
use Rattle.std.proofs.Common.{List, [], ap, arith, sym, ◌∙◌}
use Rattle.std.specs.Prelude.{slice_get}
use Rattle.std.specs.Option.{unwrap_or}
use Rattle.std.proofs.lemmas.Option.{slice_get_past, unwrap_or-slice_get}
use Rattle.rma_types.specs.declared.calls.Call.{Call}
use Rattle.first_points.proofs.searches.call_of.Goals as goal

pub returns-in-None : goal.returns-in-None
returns-in-None c = sym
    (ap (λ (calls : List Call). slice_get calls c.args.step.now.call)
    (sym (unwrap_or-slice_get c.args.script.now.calls c.args.step.now.id.rank [])
    ∙ ap (λ o. unwrap_or o []) (sym c.in-None.ensures.value))
    ∙ slice_get_past [] c.args.step.now.call (omega arith))
