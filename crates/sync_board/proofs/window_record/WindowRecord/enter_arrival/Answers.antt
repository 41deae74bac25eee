use Rattle.std.proofs.Common.{ap, refl, sym, ◌∙◌, subst}
use Rattle.std.specs.Option.{option_map_or}
use Rattle.std.proofs.lemmas.Result.{on_ok_weaker}
use Rattle.rank_rules.specs.Windows.{no_part}
use Rattle.rma_types.specs.Actions.{action_of, creation_in}
use Rattle.board_rules.specs.Shapes.{part_made}
use Rattle.sync_board.specs.Boards.{BringsInside}
use Rattle.rma_types.specs.declared.accesses.Step.TheVariants.{Arrive}
use Rattle.sync_board.specs.Nothing.{brings_nothing}
use Rattle.sync_board.proofs.window_record.WindowRecord.enter_arrival.Goals as goal

pub returns-in-Creates-clause-ok : goal.returns-in-Creates-clause-ok
returns-in-Creates-clause-ok c =
    let action = sym c.action.ensures ∙ c.in-Creates.is in
    let made = c.part-part.ensures ∙ ap
    (λ action. option_map_or (part_made c.args.layout.now c.args.asked.now.rank c.args.asked.now.number)
    (creation_in action) no_part) action in
    let inside = subst (λ action. BringsInside c.args.layout.now c.args.asked.now.rank c.args.asked.now.number
    action) action c.requires.asked.may.inside in
    on_ok_weaker c.create.result
    (λ more q is kept. more c.args.layout.now q c.args.asked.now.number _ is.rank
    (ap action_of is.call ∙ action) refl made (rw made inside) kept)
    c.create.ensures.ok

pub returns-in-Frees-clause-ok : goal.returns-in-Frees-clause-ok
returns-in-Frees-clause-ok c = on_ok_weaker c.free.result
    (λ more q is kept. more c.args.layout.now q c.args.asked.now.number _ is.rank
    (ap action_of is.call ∙ sym c.action.ensures ∙ c.in-Frees.is) kept)
    c.free.ensures.ok

pub returns-in-Synchronises-clause-ok : goal.returns-in-Synchronises-clause-ok
returns-in-Synchronises-clause-ok c = on_ok_weaker c.enter_meeting.result
    (λ more q is kept. more c.args.layout.now q _ is
    (ap action_of is.call ∙ sym c.action.ensures ∙ c.in-Synchronises.is) kept)
    c.enter_meeting.ensures.ok

pub returns-in-Meets-clause-ok : goal.returns-in-Meets-clause-ok
returns-in-Meets-clause-ok c = λ q is kept.
    c.pass.ensures c.args.layout.now q c.args.asked.now.number Arrive
    (ap (brings_nothing Arrive) (ap action_of is.call ∙ sym c.action.ensures ∙ c.in-Meets.is)) kept
