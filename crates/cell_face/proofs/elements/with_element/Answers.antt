-- The old pattern is taken out and the new one is put in.
use Rattle.std.proofs.Common.{arith}
use Rattle.cell_face.proofs.Patterns.{with_element_is}
use Rattle.cell_face.proofs.elements.with_element.Goals as goal

pub overflow_mul-new : goal.overflow_mul-new
overflow_mul-new c =
    let step = with_element_is c.args.bits c.args.first_byte c.args.dtype c.args.pattern (omega arith) c.requires.inside
    c.requires.pattern in
    rw (c.from-2.ensures, c.weight-weight.ensures) (omega (arith, step.small))

pub overflow_add-result : goal.overflow_add-result
overflow_add-result c =
    let step = with_element_is c.args.bits c.args.first_byte c.args.dtype c.args.pattern (omega arith) c.requires.inside
    c.requires.pattern in
    rw (c.from-3.ensures, c.from-2.ensures, c.from.ensures, c.element_in.ensures, c.weight-weight.ensures)
    (omega (arith, step.sum, step.fits))

pub overflow_cast-result : goal.overflow_cast-result
overflow_cast-result c =
    let step = with_element_is c.args.bits c.args.first_byte c.args.dtype c.args.pattern (omega arith) c.requires.inside
    c.requires.pattern in
    rw (c.from-3.ensures, c.from-2.ensures, c.from.ensures, c.element_in.ensures, c.weight-weight.ensures)
    (omega (arith, step.sum, step.fits))

pub returns : goal.returns
returns c =
    let step = with_element_is c.args.bits c.args.first_byte c.args.dtype c.args.pattern (omega arith) c.requires.inside
    c.requires.pattern in
    rw (c.from-3.ensures, c.from-2.ensures, c.from.ensures, c.element_in.ensures, c.weight-weight.ensures) step.sum
