-- The calls of a rank are those of its script.
use Rattle.std.proofs.Common.{◌≡◌, ◌≤◌, List, [], length, sym, ◌∙◌, ap, subst}
use Rattle.std.specs.Prelude.{slice_index_or}
use Rattle.list_laws.proofs.Lists.{get_or_there}
use Rattle.rma_types.specs.declared.calls.Call.{Call}
use Rattle.lawful_runs.specs.Logs.{calls_of}
use Rattle.rank_engine.proofs.Scripts.{calls_are_few, none_of}
use Rattle.rank_engine.proofs.updates.calls_of.Goals as goal

pub returns-in-Some-clause-few : goal.returns-in-Some-clause-few
returns-in-Some-clause-few c =
    let found : slice_index_or c.args.script.now.calls c.from.result [] ≡ c.in-Some.list.now =
    get_or_there c.args.script.now.calls c.from.result c.in-Some.list.now [] (sym c.in-Some.ensures.value) in
    subst (λ (calls : List Call). length calls ≤ 65536) (found ∙ sym c.as_slice.ensures)
    (calls_are_few c.args.script.now c.from.result c.requires)

pub returns-in-None-clause-calls : goal.returns-in-None-clause-calls
returns-in-None-clause-calls c =
    let none : slice_index_or c.args.script.now.calls c.from.result [] ≡ [] =
    none_of c.args.script.now.calls c.from.result [] (sym c.in-None.ensures.value) in
    sym none ∙ ap (λ n. calls_of c.args.script.now n) c.from.ensures
