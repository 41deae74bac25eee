-- All entries come to the gains, and the clocks that come out decide the order.
use Rattle.std.proofs.Common.{◌≡◌, ℕ, List, ◌++◌, length, take, drop, map, sym, subst, ap, ◌∙◌, arith}
use Rattle.std.proofs.Math.Seq.{take-append_seam}
use Rattle.order_rules.specs.Before.{IsOrder}
use Rattle.rma_types.specs.declared.schedules.Delay.TheVariants.{Seeded}
use Rattle.vector_clocks.specs.Marks.{AreSorted, before_in}
use Rattle.vector_clocks.specs.Places.{placed_item}
use Rattle.vector_clocks.proofs.Entered.{first_replayed, clocks_decide_order}
use Rattle.vector_clocks.proofs.Replaying.{sorted_clocks}
use Rattle.vector_clocks.proofs.clocks.clocks_by.Goals as goal

pub replay-requires-clause-order : goal.replay-requires-clause-order
replay-requires-clause-order c = ap (map placed_item) c.as_slice.ensures.value ∙ c.in_ok-order.ensures

pub replay-requires-clause-first : goal.replay-requires-clause-first
replay-requires-clause-first c =
    first_replayed c.args.recorded.now.script.now c.args.recorded.now.run.now c.new-gains.result
    c.as_mut_slice.result.now c.new-gains.ensures (c.as_mut_slice.ensures.value ∙ c.in_ok-clocks.ensures)

whole_is : {X : Type 0} (len : ℕ) (new items : List X) → length new ≡ len → take len (new ++ drop (length new) items)
    ≡ new
whole_is len new items same = ap (λ n. take n (new ++ drop (length new) items)) (sym same)
    ∙ take-append_seam new (drop (length new) items)

pub from_lists-requires : goal.from_lists-requires
from_lists-requires c =
    let long = c.as_mut_slice.ensures.len in
    let kept = c.replay.auto.clocks in
    let whole = whole_is c.in_ok-clocks.clocks.len c.replay.new.clocks c.in_ok-clocks.clocks.items (omega arith) in
    subst AreSorted (sym whole) (sorted_clocks c.args.recorded.now.script.now c.args.recorded.now.run.now _ c.replay.new.gains
    c.replay.new.clocks c.in_ok-replay.ensures)

pub returns : goal.returns
returns c =
    let long = c.as_mut_slice.ensures.len in
    let kept = c.replay.auto.clocks in
    let whole = whole_is c.in_ok-clocks.clocks.len c.replay.new.clocks c.in_ok-clocks.clocks.items (omega arith) in
    record {
      order = subst (λ l. IsOrder c.args.recorded.now.script.now c.args.recorded.now.run.now (before_in l)) (sym (c.from_lists.ensures ∙ whole))
          (clocks_decide_order c.args.recorded.now.script.now Seeded c.args.recorded.now.run.now
          c.requires.recorded.lawful c.as_slice.result.now
          (ap (map placed_item) c.as_slice.ensures.value ∙ c.in_ok-order.ensures)
          c.replay.new.gains c.replay.new.clocks c.in_ok-replay.ensures);
    }
