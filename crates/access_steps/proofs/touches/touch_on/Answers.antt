-- The touches so far are those planned so far; one more is planned and made.
use Rattle.std.proofs.Common.{◌≡◌, ℕ, ◌+◌, ◌-◌, ◌*◌, ◌<◌, List, [], ◌∷◌, ◌++◌, refl, sym, ap, ◌∙◌, subst, arith}
use Rattle.std.proofs.Common.{Option, IsSome}
use Rattle.std.specs.Option.{ForSome}
use Rattle.rma_record.specs.declared.items.Item.TheVariants.{Touch}
use Rattle.call_rules.specs.declared.elements.Change.{Change}
use Rattle.call_rules.specs.declared.elements.Piece.{Piece}
use Rattle.call_rules.specs.Elements.{Fits}
use Rattle.access_steps.specs.Plans.{PlannedTouch, element_size, element_count, change_by, planned_touches}
use Rattle.access_steps.specs.TouchesMade.{TouchesKept}
use Rattle.access_steps.proofs.KeptTouches.{kept_none, kept_more, kept_moved, share_left}
use Rattle.access_steps.proofs.PlanSteps.{length-planned, planned_more, fits_by, multiple_of, count_by}
use Rattle.access_steps.proofs.PlanSteps.{update_by_change, piece_is, plan_by, plan_is}
use Rattle.access_steps.proofs.ToldTouches.{told_is}
use Rattle.access_steps.proofs.touches.touch_on.Goals as goal

pub loop-element-init : goal.loop-element-init
loop-element-init g c =
    let none : c.args.from - c.args.from ≡ 0 = omega arith in
    record {
      begin = omega arith;
      touches = rw none (kept_none _ _ _ _);
      moves = refl;
      known = λ cell seen k. k;
      spare = omega arith;
      free_above = omega arith;
      free_below = omega arith;
      home = refl;
    }

pub piece-piece-requires : goal.piece-piece-requires
piece-piece-requires g c =
    let count = count_by c.args.call.now c.args.access.now c.dtype_of-dtype.result c.size.result c.requires.access
    c.size.ensures c.dtype_of-dtype.ensures in
    let here : c.loop-element.element < element_count c.args.call.now = omega (arith, count) in
    rw c.dtype_of-dtype.ensures (c.requires.cells c.loop-element.element here).1

pub touch_cell-requires-clause-cell : goal.touch_cell-requires-clause-cell
touch_cell-requires-clause-cell g c =
    let count = count_by c.args.call.now c.args.access.now c.dtype_of-dtype.result c.size.result c.requires.access
    c.size.ensures c.dtype_of-dtype.ensures in
    let here : c.loop-element.element < element_count c.args.call.now = omega (arith, count) in
    let place = piece_is c.args.layout.now c.args.access.now c.args.call.now c.loop-element.element
    c.dtype_of-dtype.result c.piece-piece.result c.piece-piece.ensures c.dtype_of-dtype.ensures in
    omega (
      arith,
      (c.requires.cells c.loop-element.element here).0,
      ap (λ (p : Piece). p.cell) place,
      c.loop-element.invariant.touches.made.stays.cells,
    )

pub touch_cell-requires-clause-change : goal.touch_cell-requires-clause-change
touch_cell-requires-clause-change g c =
    let place = piece_is c.args.layout.now c.args.access.now c.args.call.now c.loop-element.element
    c.dtype_of-dtype.result c.piece-piece.result c.piece-piece.ensures c.dtype_of-dtype.ensures in
    let change = c.change_of-change.ensures
    ∙ ap (λ (p : Piece). change_by c.args.call.now c.loop-element.element p.first_byte) place in
    subst (λ (o : Option Change). ForSome o Fits) (sym change)
    (fits_by c.args.call.now c.loop-element.element
    (c.args.access.now.lo + c.loop-element.element * element_size c.args.call.now) c.requires.call
    (multiple_of c.args.call.now c.args.access.now c.loop-element.element c.requires.access))

pub touch_cell-requires-clause-share : goal.touch_cell-requires-clause-share
touch_cell-requires-clause-share g c = λ some.
    let count = count_by c.args.call.now c.args.access.now c.dtype_of-dtype.result c.size.result c.requires.access
    c.size.ensures c.dtype_of-dtype.ensures in
    let enough = c.requires.share (update_by_change c.args.call.now c.loop-element.element
    c.piece-piece.result.first_byte
    (subst (λ (o : Option Change). IsSome o) c.change_of-change.ensures some)) in
    omega (
      arith,
      count,
      enough,
      share_left _ _ _ _ _ _ _ c.loop-element.invariant.touches,
      length-planned c.args.layout.now c.args.access.now c.args.call.now c.args.from
          (c.loop-element.element - c.args.from),
    )

pub keep-requires : goal.keep-requires
keep-requires g c =
    let count = count_by c.args.call.now c.args.access.now c.dtype_of-dtype.result c.size.result c.requires.access
    c.size.ensures c.dtype_of-dtype.ensures in
    omega (arith, count, c.requires.room, c.loop-element.invariant.spare, c.loop-element.invariant.begin)

pub returns-in-Err-clause-end : goal.returns-in-Err-clause-end
returns-in-Err-clause-end g c =
    let count = count_by c.args.call.now c.args.access.now c.dtype_of-dtype.result c.size.result c.requires.access
    c.size.ensures c.dtype_of-dtype.ensures in
    omega (arith, count)

pub returns-in-Err-clause-left : goal.returns-in-Err-clause-left
returns-in-Err-clause-left g c =
    let count = count_by c.args.call.now c.args.access.now c.dtype_of-dtype.result c.size.result c.requires.access
    c.size.ensures c.dtype_of-dtype.ensures in
    omega (arith, count)

pub returns-in-Err-clause-touches : goal.returns-in-Err-clause-touches
returns-in-Err-clause-touches g c =
    kept_moved _ _ _ _ _ _ _ _ _ c.loop-element.invariant.touches c.in-Err.ensures.touch c.in-Err.ensures.known

pub loop-element-preserved : goal.loop-element-preserved
loop-element-preserved g c =
    let place = piece_is c.args.layout.now c.args.access.now c.args.call.now c.loop-element.element
    c.dtype_of-dtype.result c.piece-piece.result c.piece-piece.ensures c.dtype_of-dtype.ensures in
    let plan = plan_is c.args.layout.now c.args.access.now c.args.call.now c.loop-element.element
    c.piece-piece.result
    c.change_of-change.result place c.change_of-change.ensures in
    let before = planned_touches c.args.layout.now c.args.access.now c.args.call.now c.args.from
    (c.loop-element.element - c.args.from) in
    let items = c.keep.ensures.kept ∙ ap (λ (bits : ℕ). g.L.Keep.kept c.loop-element.log
    ++ Touch c.args.issue c.loop-element.element c.piece-piece.result.cell c.in-Ok.seen.place bits ∷ [])
    c.from.ensures in
    record {
      begin = omega (arith, c.loop-element.invariant.begin);
      touches = subst (λ (ps : List PlannedTouch). TouchesKept (g.M.Memory.face c.args.mem.now)
          (g.M.Memory.face c.touch_cell.new.mem)
          (g.M.Memory.knows c.touch_cell.new.mem) (g.L.Keep.kept c.args.log.now) (g.L.Keep.kept c.keep.new.self)
          c.args.issue ps)
          (ap (λ (p : PlannedTouch). before ++ p ∷ []) plan
          ∙ sym (planned_more c.args.layout.now c.args.access.now c.args.call.now c.args.from c.loop-element.element
          c.loop-element.invariant.begin))
          (kept_more _ _ _ _ _ _ _ _ _ before
          (plan_by c.loop-element.element c.piece-piece.result c.change_of-change.result) c.in-Ok.seen
          c.loop-element.invariant.touches c.in-Ok.ensures.touch items c.in-Ok.ensures.known c.in-Ok.ensures.found);
      moves = c.in-Ok.ensures.touch.moves ∙ c.loop-element.invariant.moves;
      known = λ cell seen k. c.in-Ok.ensures.known cell seen (c.loop-element.invariant.known cell seen k);
      spare = omega (arith, c.keep.ensures.spare, c.loop-element.invariant.spare, c.loop-element.invariant.begin);
      free_above = omega (
        arith,
        c.keep.ensures.free_above,
        c.loop-element.invariant.free_above,
        c.loop-element.invariant.begin,
      );
      free_below = omega (arith, c.keep.ensures.free_below, c.loop-element.invariant.free_below);
      home = c.keep.ensures.home ∙ c.loop-element.invariant.home;
    }

pub returns-clause-told : goal.returns-clause-told
returns-clause-told g c =
    let count = count_by c.args.call.now c.args.access.now c.dtype_of-dtype.result c.size.result c.requires.access
    c.size.ensures c.dtype_of-dtype.ensures in
    let end : c.loop-element.element - c.args.from ≡ element_count c.args.call.now - c.args.from = omega
    (arith, count, c.requires.from) in
    told_is c.args.layout.now c.args.access.now c.args.call.now c.args.issue c.args.from _ _ _ _ _ c.requires.access
    c.requires.from
    (subst (λ (n : ℕ). TouchesKept (g.M.Memory.face c.args.mem.now) (g.M.Memory.face c.loop-element.mem)
    (g.M.Memory.knows c.loop-element.mem)
    (g.L.Keep.kept c.args.log.now) (g.L.Keep.kept c.loop-element.log) c.args.issue
    (planned_touches c.args.layout.now c.args.access.now c.args.call.now c.args.from n)) end
    c.loop-element.invariant.touches)
