-- The change that is found is the one that the touch makes.
use Rattle.std.proofs.Common.{List, [], ◌∷◌, Option, ap, sym, ◌∙◌}
use Rattle.call_rules.specs.declared.elements.Change.{Change}
use Rattle.lawful_runs.specs.Accesses.{Touching, touching_by}
use Rattle.cell_replay.proofs.Making.{change_is_made}
use Rattle.cell_replay.proofs.touches.touch_of.Goals as goal

pub returns-in-Touch : goal.returns-in-Touch
returns-in-Touch c memory =
    let calls = c.args.calls.now in
    let log = c.args.log.now in
    let with_change : Option Change → List Touching = λ change. record {
      id = c.args.id;
      issue = c.in-Touch.issue;
      element = c.in-Touch.element;
      cell = c.in-Touch.cell;
      place = c.in-Touch.place;
      bits = c.in-Touch.bits;
      change = change;
    } ∷ [] in
    ap with_change (c.change_at.ensures ∙ change_is_made memory calls log c.in-Touch.issue c.in-Touch.element)
    ∙ ap (touching_by memory calls log c.args.id) (sym c.in-Touch.is)
