use Rattle.std.proofs.Common.{◌≡◌, ℕ, [], arith, ap, sym, ◌∙◌, subst}
use Rattle.std.proofs.lemmas.Result.{on_err_weaker, on_ok_weaker}
use Rattle.sync_board.specs.HeldHere.{KeepsRegions}
use Rattle.sync_board.specs.KeptRanges.{KeepsRanges}
use Rattle.sync_board.specs.Sides.{Done}
use Rattle.sync_board.proofs.GrownSteps.{HasGrown, at_grown, at_item, at_set}
use Rattle.sync_board.proofs.region_table.RegionTable.attach.Goals as goal

grown : (c : goal.After-self-1) (done_of : ℕ → Done) → KeepsRegions done_of c.args.self.now.regions.items →
    KeepsRegions done_of c.grow_to.new.items.items
grown c done_of kept =
    let has : HasGrown (KeepsRanges []) c.args.self.now.regions.items c.grow_to.new.items.items = record {
      longer = c.grow_to.ensures.longer;
      same = c.grow_to.ensures.same;
      idle = c.grow_to.ensures.idle;
    } in
    at_grown (KeepsRanges []) c.args.self.now.regions.items c.grow_to.new.items.items
    (λ rank. (done_of rank).ranges ≡ []) (λ rank. KeepsRanges (done_of rank).ranges) has
    (λ rank regions idle none. rw none idle) kept

pub returns-clause-ok : goal.returns-clause-ok
returns-clause-ok c = on_ok_weaker c.attach.result
    (λ more before after same is kept.
    let now = grown c before kept in
    at_set c.grow_to.new.items.items c.args.rank c.attach.new.self
    (λ rank. (before rank).ranges ≡ []) (λ rank. (after rank).ranges ≡ []) (λ rank. KeepsRanges (before rank).ranges)
    (λ rank. KeepsRanges (after rank).ranges)
    (omega (arith, c.in_ok-grow_to.ensures.long)) now
    (λ rank apart none. ap (λ (d : Done). d.ranges) (same rank apart) ∙ none)
    (λ rank regions apart has. subst (λ (d : Done). KeepsRanges d.ranges regions) (sym (same rank apart)) has)
    (rw is (more (before c.args.rank).ranges
    (rw c.index_mut-regions.ensures.value
    (at_item c.grow_to.new.items.items c.args.rank _ _ (KeepsRanges (before c.args.rank).ranges)
    (omega (arith, c.in_ok-grow_to.ensures.long)) (now c.args.rank))))))
    c.attach.ensures.ok

pub returns-clause-err : goal.returns-clause-err
returns-clause-err c = on_err_weaker c.attach.result
    (λ keeps done_of kept.
    let now = grown c done_of kept in
    at_set c.grow_to.new.items.items c.args.rank c.attach.new.self
    (λ rank. (done_of rank).ranges ≡ []) (λ rank. (done_of rank).ranges ≡ [])
    (λ rank. KeepsRanges (done_of rank).ranges) (λ rank. KeepsRanges (done_of rank).ranges)
    (omega (arith, c.in_ok-grow_to.ensures.long)) now
    (λ rank apart none. none) (λ rank regions apart has. has)
    (keeps (done_of c.args.rank).ranges
    (rw c.index_mut-regions.ensures.value
    (at_item c.grow_to.new.items.items c.args.rank _ _ (KeepsRanges (done_of c.args.rank).ranges)
    (omega (arith, c.in_ok-grow_to.ensures.long)) (now c.args.rank)))))
    c.attach.ensures.err
