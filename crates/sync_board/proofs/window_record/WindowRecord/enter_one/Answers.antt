use mir.Syntax.{w32}
use mir.Val.{SFits, of_z, to_z}
use Rattle.std.proofs.Common.{◌≡◌, ℕ, ℤ, ap, sym, ◌∙◌, subst, rules}
use Rattle.std.proofs.Math.Facts.{to_z-of_z}
use Rattle.std.proofs.lemmas.Result.{on_ok_weaker}
use Rattle.rma_types.specs.declared.accesses.Step.TheVariants.{One}
use Rattle.rma_types.specs.Actions.{action_of}
use Rattle.call_rules.specs.Ranks.{natural}
use Rattle.board_rules.specs.Board.{may_enter_now}
use Rattle.sync_board.specs.Boards.{BringsInside}
use Rattle.sync_board.specs.Nothing.{brings_nothing}
use Rattle.sync_board.proofs.window_record.WindowRecord.enter_one.Goals as goal

as_read : (z : ℤ) (r : ℕ) → SFits w32 z → r ≡ natural (to_z w32 (of_z w32 z)) → natural z ≡ r
as_read z r fits is = ap natural (sym (to_z-of_z fits)) ∙ sym is

pub returns-in-Synchronises-clause-ok : goal.returns-in-Synchronises-clause-ok
returns-in-Synchronises-clause-ok c = on_ok_weaker c.enter_synchronisation.result
    (λ more q is allowed kept.
    let action = ap action_of is.call ∙ sym c.action.ensures ∙ c.in-Synchronises.is in
    more c.args.layout.now q _ is action (sym (ap (may_enter_now q) action) ∙ allowed) kept)
    c.enter_synchronisation.ensures.ok

pub returns-in-Attaches-clause-ok : goal.returns-in-Attaches-clause-ok
returns-in-Attaches-clause-ok c =
    let action = sym c.action.ensures ∙ c.in-Attaches.is in
    let base : natural c.in-Attaches.base ≡ c.natural.result = as_read c.in-Attaches.base c.natural.result
    (search rules) c.natural.ensures in
    let bytes : natural c.in-Attaches.bytes ≡ c.natural-in-Attaches.result = as_read c.in-Attaches.bytes
    c.natural-in-Attaches.result (search rules) c.natural-in-Attaches.ensures in
    let inside = subst (λ action. BringsInside c.args.layout.now c.args.asked.now.rank c.args.asked.now.number
    action) action c.requires.asked.may.inside in
    on_ok_weaker c.attach.result
    (λ more q is allowed kept. more c.args.layout.now q c.args.asked.now.number One _ _ _ is.rank
    (ap action_of is.call ∙ action) base bytes (rw (← base, ← bytes) inside.1) kept)
    c.attach.ensures.ok

pub returns-in-Detaches-clause-ok : goal.returns-in-Detaches-clause-ok
returns-in-Detaches-clause-ok c = λ q is allowed kept.
    c.detach.ensures c.args.layout.now q c.args.asked.now.number One _ _ is.rank
    (ap action_of is.call ∙ sym c.action.ensures ∙ c.in-Detaches.is)
    (as_read c.in-Detaches.base c.natural-in-Detaches.result (search rules) c.natural-in-Detaches.ensures) kept

pub returns-in-Moves-clause-ok : goal.returns-in-Moves-clause-ok
returns-in-Moves-clause-ok c = λ q is allowed kept.
    c.pass.ensures c.args.layout.now q c.args.asked.now.number One
    (ap (brings_nothing One) (ap action_of is.call ∙ sym c.action.ensures ∙ c.in-Moves.is)) kept

pub returns-in-EndsRequest-clause-ok : goal.returns-in-EndsRequest-clause-ok
returns-in-EndsRequest-clause-ok c = λ q is allowed kept.
    c.pass-in-EndsRequest.ensures c.args.layout.now q c.args.asked.now.number One
    (ap (brings_nothing One) (ap action_of is.call ∙ sym c.action.ensures ∙ c.in-EndsRequest.is)) kept
