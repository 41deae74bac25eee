use Rattle.std.proofs.Common.{◌≡◌, ℕ, ◌∙◌, ap, sym, subst, true, leb, length, get_or, arith, ⊎_elim}
use Rattle.std.proofs.lemmas.Bool.{cases_lt, le-leb, lt-leb}
use Rattle.call_rules.proofs.NumbersFrom.{all_numbers, not_all_numbers}
use Rattle.board_rules.specs.Entries.{Barrier, acts, arrivals}
use Rattle.sync_board.proofs.Meetings.{all_met}
use Rattle.sync_board.proofs.state.State.have_all_met.Goals as goal

pub returns-then-arrived-begun : goal.returns-then-arrived-begun
returns-then-arrived-begun c = λ q rows asker all call window entries kept.
    let begun : c.count_at-begun.result ≡ length (arrivals (acts rows) Barrier c.args.rank 0) = c.count_at-begun.ensures
    ∙ (ap (λ xs. get_or xs c.args.rank 0) c.deref.ensures.value ∙ kept c.args.rank) in
    let arrived : c.count_at-arrived.result ≡ length (arrivals (acts rows) Barrier c.loop-other.other 0) =
    c.count_at-arrived.ensures ∙ (ap (λ xs. get_or xs c.loop-other.other 0) c.deref-in-loop-other.ensures.value
    ∙ kept c.loop-other.other) in
    sym (all_met q rows c.args.rank c.args.ranks asker all call window entries
    ∙ not_all_numbers (λ k. leb (length (arrivals (acts rows) Barrier c.args.rank 0))
    (length (arrivals (acts rows) Barrier k 0))) 0 c.args.ranks
    c.loop-other.other (omega arith) (omega arith)
    (lt-leb (length (arrivals (acts rows) Barrier c.args.rank 0))
    (length (arrivals (acts rows) Barrier c.loop-other.other 0)) (omega (arith, begun, arrived))))

pub loop-other-preserved : goal.loop-other-preserved
loop-other-preserved c = λ rows k kept below. ⊎_elim
    (λ before. c.loop-other.invariant rows k kept before)
    (λ past.
    let here : k ≡ c.loop-other.other = omega arith in
    let arrived : c.count_at-arrived.result ≡ length (arrivals (acts rows) Barrier c.loop-other.other 0) =
    c.count_at-arrived.ensures ∙ (ap (λ xs. get_or xs c.loop-other.other 0) c.deref-in-loop-other.ensures.value
    ∙ kept c.loop-other.other) in
    ap (λ j. leb c.count_at-begun.result (length (arrivals (acts rows) Barrier j 0))) here
    ∙ le-leb c.count_at-begun.result (length (arrivals (acts rows) Barrier c.loop-other.other 0))
    (omega (arith, arrived)))
    (cases_lt k c.loop-other.other)

pub returns : goal.returns
returns c = λ q rows asker all call window entries kept.
    let begun : c.count_at-begun.result ≡ length (arrivals (acts rows) Barrier c.args.rank 0) = c.count_at-begun.ensures
    ∙ (ap (λ xs. get_or xs c.args.rank 0) c.deref.ensures.value ∙ kept c.args.rank) in
    sym (all_met q rows c.args.rank c.args.ranks asker all call window entries
    ∙ all_numbers (λ k. leb (length (arrivals (acts rows) Barrier c.args.rank 0))
    (length (arrivals (acts rows) Barrier k 0))) 0 c.args.ranks
    (λ k low high.
    let Q : ℕ → Type 0 = λ n. leb n (length (arrivals (acts rows) Barrier k 0)) ≡ true in
    subst Q begun (c.loop-other.invariant rows k kept (omega arith))))
