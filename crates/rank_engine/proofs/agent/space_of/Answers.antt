-- The space of a rank.
use Rattle.std.proofs.Common.{sym, ◌∙◌, ap}
use Rattle.std.specs.Prelude.{slice_index_or}
use Rattle.list_laws.proofs.Lists.{get_or_there}
use Rattle.rank_engine.proofs.Scripts.{none_of}
use Rattle.rank_engine.proofs.agent.space_of.Goals as goal

pub returns-in-Some : goal.returns-in-Some
returns-in-Some c =
    sym (get_or_there c.args.script.now.spaces c.from.result c.in-Some.space.now 0 (sym c.in-Some.ensures.value))
    ∙ ap (λ n. slice_index_or c.args.script.now.spaces n 0) c.from.ensures

pub returns-in-None : goal.returns-in-None
returns-in-None c =
    sym (none_of c.args.script.now.spaces c.from.result 0 (sym c.in-None.ensures.value))
    ∙ ap (λ n. slice_index_or c.args.script.now.spaces n 0) c.from.ensures
