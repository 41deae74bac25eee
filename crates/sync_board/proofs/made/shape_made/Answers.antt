use Rattle.std.proofs.Common.{refl, sym, ◌∙◌, subst, Some, None}
use Rattle.rma_types.specs.declared.accesses.Step.{Step}
use Rattle.rma_types.specs.Actions.{creation_of}
use Rattle.sync_board.specs.Asked.{row_asked}
use Rattle.sync_board.specs.Boards.{IsMadeBy}
use Rattle.sync_board.proofs.MadeShapes.{none_made, one_made}
use Rattle.sync_board.proofs.made.shape_made.Goals as goal

pub returns-in-Arrive : goal.returns-in-Arrive
returns-in-Arrive c = λ board ranks layout at kept. rw c.in-Arrive.is refl

pub returns-in-One : goal.returns-in-One
returns-in-One c = λ board ranks layout at kept. rw c.in-One.is refl

pub returns-in-None : goal.returns-in-None
returns-in-None c = λ board ranks layout at kept.
    subst (λ (step : Step). IsMadeBy board (row_asked c.args.asked.now) step None) (sym c.in-Leave.is)
    (none_made board (row_asked c.args.asked.now) (creation_of c.args.asked.now.call.now)
    (sym c.flavor_of.ensures ∙ c.in-None.is))

pub returns-in-Ok : goal.returns-in-Ok
returns-in-Ok c = λ board ranks layout at kept.
    subst (λ (step : Step). IsMadeBy board (row_asked c.args.asked.now) step (Some c.in-Ok.shape)) (sym c.in-Leave.is)
    (one_made board (row_asked c.args.asked.now) (creation_of c.args.asked.now.call.now) c.in-Some.flavor c.in-Ok.shape
    (sym c.flavor_of.ensures ∙ c.in-Some.is)
    (λ creation flavor. c.in-Ok.ensures board (row_asked c.args.asked.now) creation ranks flavor layout at kept))
