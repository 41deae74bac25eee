use Rattle.std.proofs.Common.{◌≡◌, true, is_some, ap, sym, ◌∙◌, subst}
use Rattle.rma_types.specs.declared.accesses.Step.TheVariants.{Leave}
use Rattle.rma_types.specs.Actions.{action_of}
use Rattle.board_rules.specs.Entries.{collective_in, collective_of}
use Rattle.sync_board.specs.Boards.{is_step_of}
use Rattle.sync_board.specs.Nothing.{brings_nothing}
use Rattle.sync_board.proofs.window_record.WindowRecord.enter_leave.Goals as goal

pub returns-in-Frees : goal.returns-in-Frees
returns-in-Frees c = λ q is kept. c.freed.ensures c.args.layout.now q c.args.asked.now.number _ is.rank
    (ap action_of is.call ∙ sym c.action.ensures ∙ c.in-Frees.is) kept

pub returns-in-Creates : goal.returns-in-Creates
returns-in-Creates c = λ q is kept. c.pass.ensures c.args.layout.now q c.args.asked.now.number Leave
    (ap (brings_nothing Leave) (ap action_of is.call ∙ sym c.action.ensures ∙ c.in-Creates.is)) kept

pub returns-in-Synchronises : goal.returns-in-Synchronises
returns-in-Synchronises c = λ q is kept.
    let action = sym c.action.ensures ∙ c.in-Synchronises.is in
    let fits : is_some (collective_of c.args.asked.now.call.now) ≡ true =
    subst (λ step. is_step_of step c.args.asked.now.call.now ≡ true) c.requires.step c.requires.asked.may.entry.fits in
    c.pass-in-Synchronises.ensures c.args.layout.now q c.args.asked.now.number Leave
    (ap (brings_nothing Leave) (ap action_of is.call ∙ action)
    ∙ (ap (λ a. is_some (collective_in a)) (sym action) ∙ fits)) kept

pub returns-in-Meets : goal.returns-in-Meets
returns-in-Meets c = λ q is kept. c.pass-in-Meets.ensures c.args.layout.now q c.args.asked.now.number Leave
    (ap (brings_nothing Leave) (ap action_of is.call ∙ sym c.action.ensures ∙ c.in-Meets.is)) kept
