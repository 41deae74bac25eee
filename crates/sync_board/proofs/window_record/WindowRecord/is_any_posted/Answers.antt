use Rattle.std.proofs.Common.{◌≡◌, ℕ, ◌-◌, ltb, length, refl, ◌∙◌, ap, sym, arith, ⊎_elim, Option, Some, None, ℤ}
use Rattle.std.proofs.lemmas.Bool.{cases_lt}
use Rattle.std.specs.List.{list_any}
use Rattle.list_laws.proofs.Truths.{or_false}
use Rattle.call_rules.specs.Ranks.{natural}
use Rattle.call_rules.proofs.NumbersFrom.{no_number, some_number}
use Rattle.board_rules.specs.Board.{meets_post}
use Rattle.board_rules.specs.Locks.{targets_of}
use Rattle.board_rules.specs.Posts.{is_posted}
use Rattle.board_rules.specs.Questions.{Question}
use Rattle.sync_board.specs.Sides.{done, done_at}
use Rattle.sync_board.proofs.LocksKept.{in_order, numbers_reached}
use Rattle.sync_board.proofs.window_record.WindowRecord.is_any_posted.Goals as goal

posted_is : (q : Question) (rank : ℕ) → ltb (done_at q rank).waits (length (done_at q rank).posts) ≡ is_posted q rank
unfolding done
posted_is q rank = refl

meets_at : (q : Question) (target : Option ℤ) → list_any (is_posted q) (targets_of q.ranks target) ≡ meets_post q target
meets_at q None = refl
meets_at q (Some target) = or_false (is_posted q (natural target))

pub returns-then-is_posted : goal.returns-then-is_posted
returns-then-is_posted c = λ layout q target is kept.
    let reach = c.args.reach in
    sym (sym (ap (list_any (is_posted q)) (numbers_reached q.ranks target reach is) ∙ meets_at q target)
    ∙ some_number (is_posted q) reach.first (reach.end - reach.first) c.loop-rank.rank (omega arith) (omega arith)
    (sym (c.is_posted.ensures (done_at q) kept.sides ∙ posted_is q c.loop-rank.rank) ∙ c.if-is_posted.true))

pub loop-rank-preserved : goal.loop-rank-preserved
loop-rank-preserved c = λ layout q k kept from below. ⊎_elim
    (λ before. c.loop-rank.invariant layout q k kept from before)
    (λ past.
    let here : k ≡ c.loop-rank.rank = omega arith in
    ap (is_posted q) here
    ∙ (sym (c.is_posted.ensures (done_at q) kept.sides ∙ posted_is q c.loop-rank.rank) ∙ c.if-is_posted.false))
    (cases_lt k c.loop-rank.rank)

pub returns : goal.returns
returns c = λ layout q target is kept.
    let reach = c.args.reach in
    let order = in_order q.ranks target reach is in
    sym (sym (ap (list_any (is_posted q)) (numbers_reached q.ranks target reach is) ∙ meets_at q target)
    ∙ no_number (is_posted q) reach.first (reach.end - reach.first)
    (λ k low high. c.loop-rank.invariant layout q k kept low (omega arith)))
