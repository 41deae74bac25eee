-- The updates of a cell fit it.
use Rattle.std.proofs.Common.{ap, sym, subst, ◌∙◌}
use Rattle.rma_types.specs.declared.schedules.Delay.TheVariants.{Seeded}
use Rattle.lawful_runs.specs.Accesses.{all_touches, on_cell, updates_in}
use Rattle.cell_replay.specs.Kept.{DoFit, touchings_of}
use Rattle.cell_replay.proofs.Fitting.{updates_fit}
use Rattle.cell_replay.proofs.states.state_at.Goals as goal

pub state_of-requires : goal.state_of-requires
state_of-requires c =
    subst DoFit (sym (ap touchings_of c.as_slice-2.ensures.value ∙ c.in_ok-updates.ensures
    ∙ ap (λ touches. updates_in (on_cell c.from.result (touchings_of touches))) c.as_slice.ensures.value
    ∙ ap (λ touches. updates_in (on_cell c.from.result touches)) c.in_ok-touches.ensures
    ∙ ap (λ cell. updates_in (on_cell cell (all_touches c.args.script.now c.args.run.now))) c.from.ensures))
    (updates_fit c.args.script.now Seeded c.args.run.now c.requires.formed c.requires.lawful c.args.cell)
