use Rattle.std.proofs.Common.{◌≡◌, ℕ, ◌∙◌, ap, sym, subst, true, false, length, arith, ⊎_elim}
use Rattle.std.specs.List.{list_any}
use Rattle.std.proofs.lemmas.Bool.{cases_lt}
use Rattle.call_rules.proofs.NumbersFrom.{no_number, some_number}
use Rattle.board_rules.specs.Rounds.{is_differing_fence}
use Rattle.sync_board.specs.declared.rounds.Kind.TheVariants.{Fence}
use Rattle.sync_board.specs.Rounds.{arrival_in}
use Rattle.sync_board.specs.Sides.{done_at}
use Rattle.sync_board.proofs.RoundSteps.{round_is}
use Rattle.sync_board.proofs.round_table.RoundTable.has_other_fence.Goals as goal

pub returns-then-fence_differs : goal.returns-then-fence_differs
returns-then-fence_differs c = λ q asker all is kept.
    let round = c.begun-round.ensures (done_at q) kept in
    let found = sym (c.fence_differs.ensures (done_at q) kept) ∙ c.if-fence_differs.true in
    let Q : ℕ → Type 0 = λ n. list_any (is_differing_fence c.args.asserts)
    (arrival_in (done_at q c.loop-other.other).fences n) ≡ true in
    sym (round_is (is_differing_fence c.args.asserts) q Fence c.args.rank c.args.ranks asker all is
    ∙ some_number (λ j. list_any (is_differing_fence c.args.asserts)
    (arrival_in (done_at q j).fences (length (done_at q c.args.rank).fences))) 0 c.args.ranks
    c.loop-other.other (omega arith) (omega arith) (subst Q round found))

pub loop-other-preserved : goal.loop-other-preserved
loop-other-preserved c = λ done_of k kept below. ⊎_elim
    (λ before. c.loop-other.invariant done_of k kept before)
    (λ past.
    let here : k ≡ c.loop-other.other = omega arith in
    ap (λ j. list_any (is_differing_fence c.args.asserts) (arrival_in (done_of j).fences c.begun-round.result)) here
    ∙ (sym (c.fence_differs.ensures done_of kept) ∙ c.if-fence_differs.false))
    (cases_lt k c.loop-other.other)

pub returns : goal.returns
returns c = λ q asker all is kept.
    let round = c.begun-round.ensures (done_at q) kept in
    sym (round_is (is_differing_fence c.args.asserts) q Fence c.args.rank c.args.ranks asker all is
    ∙ no_number (λ j. list_any (is_differing_fence c.args.asserts)
    (arrival_in (done_at q j).fences (length (done_at q c.args.rank).fences))) 0 c.args.ranks
    (λ k low high.
    let Q : ℕ → Type 0 = λ n. list_any (is_differing_fence c.args.asserts) (arrival_in (done_at q k).fences n) ≡ false
    in
    subst Q round (c.loop-other.invariant (done_at q) k kept (omega arith))))
