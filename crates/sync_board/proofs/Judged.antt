-- The three answers to an entry of step One, by what it is.
use Rattle.std.proofs.Common.{◌≡◌, ℕ, true, false, ap, sym, ◌∙◌, Some, None}
use Rattle.rma_types.specs.declared.accesses.Step.TheVariants.{One}
use Rattle.rma_types.specs.declared.classes.Class.{Class}
use Rattle.rma_types.specs.declared.actions.Action.{Action}
use Rattle.rma_types.specs.declared.actions.Transfer.{Transfer}
use Rattle.rma_types.specs.Actions.{action_of}
use Rattle.call_rules.specs.Ranks.{natural}
use Rattle.call_rules.specs.Transfers.{bytes_of, rank_reached}
use Rattle.rank_rules.specs.Ranges.{covers}
use Rattle.board_rules.specs.AttachedRanges.{ranges_attached}
use Rattle.board_rules.specs.Board.{Refuse, Allow, NotYet, decision, decision_by, may_enter_now, one_refusal}
use Rattle.board_rules.specs.Questions.{Question}
use Rattle.sync_board.specs.Sides.{done_at}
use Rattle.sync_board.proofs.RangesKept.{attached_is}

pub one_by : (q : Question) (action : Action) → action_of q.call ≡ action → decision q One ≡ decision_by
    (one_refusal q action) (may_enter_now q action)
one_by q action is = ap (λ a. decision_by (one_refusal q a) (may_enter_now q a)) is

pub refused : (q : Question) (action : Action) (class : Class) → action_of q.call ≡ action →
    one_refusal q action ≡ Some class → Refuse class ≡ decision q One
refused q action class is e = sym (one_by q action is ∙ ap (λ o. decision_by o (may_enter_now q action)) e)

pub allowed : (q : Question) (action : Action) → action_of q.call ≡ action → one_refusal q action ≡ None →
    may_enter_now q action ≡ true → Allow ≡ decision q One
allowed q action is e f = sym (one_by q action is
    ∙ (ap (λ o. decision_by o (may_enter_now q action)) e ∙ ap (λ b. decision_by None b) f))

pub waits : (q : Question) (action : Action) → action_of q.call ≡ action → one_refusal q action ≡ None →
    may_enter_now q action ≡ false → NotYet ≡ decision q One
waits q action is e f = sym (one_by q action is
    ∙ (ap (λ o. decision_by o (may_enter_now q action)) e ∙ ap (λ b. decision_by None b) f))

pub reaches_is : (q : Question) (t : Transfer) (target lo len : ℕ) → rank_reached q.rank t.target ≡ target →
    natural t.disp ≡ lo → bytes_of t ≡ len →
    covers (ranges_attached q.entries (rank_reached q.rank t.target) q.window) (natural t.disp) (bytes_of t) ≡ covers
    (done_at q target).ranges lo len
reaches_is q t target lo len r d b =
    ap (λ k. covers (ranges_attached q.entries k q.window) (natural t.disp) (bytes_of t)) r
    ∙ (ap (λ xs. covers xs (natural t.disp) (bytes_of t)) (attached_is q.entries target q.window)
    ∙ (ap (λ n. covers (done_at q target).ranges n (bytes_of t)) d ∙ ap (λ n. covers (done_at q target).ranges lo n) b))
