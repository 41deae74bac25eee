use Rattle.std.proofs.Common.{◌≡◌, ℕ, ◌∙◌, ap, sym, subst, true, leb, length, arith, ⊎_elim}
use Rattle.std.proofs.lemmas.Bool.{cases_lt, le-leb, lt-leb}
use Rattle.call_rules.proofs.NumbersFrom.{all_numbers, not_all_numbers}
use Rattle.sync_board.specs.Rounds.{arrivals_by}
use Rattle.sync_board.specs.Sides.{done_at}
use Rattle.sync_board.proofs.RoundSteps.{arrived_is}
use Rattle.sync_board.proofs.round_table.RoundTable.have_all_arrived.Goals as goal

pub returns-then-arrived-begun : goal.returns-then-arrived-begun
returns-then-arrived-begun c = λ q asker all is kept.
    let begun = c.begun-begun.ensures (done_at q) kept in
    let arrived = c.begun-arrived.ensures (done_at q) kept in
    sym (arrived_is q c.args.kind c.args.rank c.args.ranks asker all is
    ∙ not_all_numbers (λ k. leb (length (arrivals_by c.args.kind (done_at q c.args.rank)))
    (length (arrivals_by c.args.kind (done_at q k)))) 0 c.args.ranks
    c.loop-other.other (omega arith) (omega arith)
    (lt-leb (length (arrivals_by c.args.kind (done_at q c.args.rank)))
    (length (arrivals_by c.args.kind (done_at q c.loop-other.other))) (omega (arith, begun, arrived))))

pub loop-other-preserved : goal.loop-other-preserved
loop-other-preserved c = λ done_of k kept below. ⊎_elim
    (λ before. c.loop-other.invariant done_of k kept before)
    (λ past.
    let here : k ≡ c.loop-other.other = omega arith in
    let arrived = c.begun-arrived.ensures done_of kept in
    ap (λ j. leb c.begun-begun.result (length (arrivals_by c.args.kind (done_of j)))) here
    ∙ le-leb c.begun-begun.result (length (arrivals_by c.args.kind (done_of c.loop-other.other)))
    (omega (arith, arrived)))
    (cases_lt k c.loop-other.other)

pub returns : goal.returns
returns c = λ q asker all is kept.
    let begun = c.begun-begun.ensures (done_at q) kept in
    sym (arrived_is q c.args.kind c.args.rank c.args.ranks asker all is
    ∙ all_numbers (λ k. leb (length (arrivals_by c.args.kind (done_at q c.args.rank)))
    (length (arrivals_by c.args.kind (done_at q k)))) 0 c.args.ranks
    (λ k low high.
    let Q : ℕ → Type 0 = λ n. leb n (length (arrivals_by c.args.kind (done_at q k))) ≡ true in
    subst Q begun (c.loop-other.invariant (done_at q) k kept (omega arith))))
