-- What is found is one of the updates, which fit.
use Rattle.std.proofs.Common.{ap, sym, ◌∙◌}
use Rattle.std.specs.Prelude.{IfSome}
use Rattle.std.specs.Option.{option_map}
use Rattle.list_laws.proofs.Each.{found_has}
use Rattle.call_rules.specs.Elements.{Fits}
use Rattle.lawful_runs.specs.Accesses.{Touching}
use Rattle.lawful_runs.specs.Cells.{has_place}
use Rattle.cell_replay.specs.Kept.{touching_of, touchings_of}
use Rattle.cell_replay.proofs.states.state_of.Goals as goal

pub changed-bits-requires : goal.changed-bits-requires
changed-bits-requires c =
    (found_has (λ (touch : Touching). IfSome touch.change Fits) (has_place c.loop-place.place)
    (touchings_of c.args.updates.now) (touching_of c.in-Some.update) c.requires
    (sym c.update_at.ensures ∙ ap (option_map touching_of) c.in-Some.is)).0
