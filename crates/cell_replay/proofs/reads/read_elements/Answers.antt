-- The next element is added.
use Rattle.std.proofs.Common.{ℕ, ◌+◌, ◌-◌, ◌/◌, ◌<◌, ◌^◌, [], ◌∷◌, ap, map, subst, ◌∙◌, arith, rules}
use Rattle.rma_types.specs.Datatypes.{size_of}
use Rattle.call_rules.specs.Pieces.{element_address, numbers_from, piece_at}
use Rattle.call_rules.specs.declared.elements.Piece.{Piece}
use Rattle.vector_clocks.specs.Marks.{before_in}
use Rattle.cell_replay.specs.Kept.{element_left, touchings_of}
use Rattle.cell_replay.proofs.SmallCells.{begins_within}
use Rattle.cell_replay.proofs.Steps.{joined, values_step}
use Rattle.cell_replay.proofs.reads.read_elements.Goals as goal

pub read_element-requires-clause-cell : goal.read_element-requires-clause-cell
read_element-requires-clause-cell c =
    let access = c.args.access in
    let below : c.loop-element.element < access.len / size_of c.args.dtype =
    subst (λ size. c.loop-element.element < access.len / size) c.size.ensures c.loop-element-test.true in
    let within = begins_within c.args.dtype access.len c.loop-element.element below in
    let lo : access.lo < 2 ^ 32 = search rules in
    let len : access.len < 2 ^ 32 = search rules in
    omega (arith, within, lo, len, c.requires.cells)

pub loop-element-preserved : goal.loop-element-preserved
loop-element-preserved c =
    let element = c.loop-element.element in
    let access = c.args.access in
    let count = access.len / size_of c.args.dtype in
    let below : element < count = subst (λ size. element < access.len / size) c.size.ensures c.loop-element-test.true in
    let left : Piece → ℕ = element_left (touchings_of c.args.touches.now) (before_in c.args.clocks.now) c.args.id
    c.args.dtype in
    let at : ℕ → Piece = λ n. piece_at c.args.layout.now access.target (element_address access c.args.dtype n) in
    joined c.loop-element.values c.push.new.self (c.in_ok-value.value ∷ [])
    (map left (map at (numbers_from (element + 1) (count - (element + 1)))))
    (map left (map at (numbers_from element (count - element))))
    c.in-Ok.ensures.ok
    (ap (λ v. v ∷ map left (map at (numbers_from (element + 1) (count - (element + 1))))) c.in_ok-value.ensures
    ∙ ap (map left) (values_step at element count below))
    ∙ c.loop-element.invariant
