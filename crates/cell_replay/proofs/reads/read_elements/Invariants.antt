use Rattle.std.proofs.Common.{◌≡◌, ◌++◌, ◌-◌, ◌/◌}
use Rattle.std.specs.Prelude.{map}
use Rattle.rma_types.specs.Datatypes.{size_of}
use Rattle.call_rules.specs.Pieces.{element_address, numbers_from, piece_at, pieces}
use Rattle.vector_clocks.specs.Marks.{before_in}
use Rattle.cell_replay.specs.Kept.{element_left, touchings_of}
use Rattle.cell_replay.proofs.reads.read_elements.Given as goal

-- the elements so far, and those that are left, are all
abbrev pub invariant-loop-element : goal.invariant-loop-element
invariant-loop-element l =
    l.values
    ++ map (element_left (touchings_of l.touches) (before_in l.clocks) l.id l.dtype)
    (map (λ element. piece_at l.layout l.access.target (element_address l.access l.dtype element))
    (numbers_from l.element (l.access.len / size_of l.dtype - l.element)))
    ≡ map (element_left (touchings_of l.touches) (before_in l.clocks) l.id l.dtype)
    (pieces l.layout l.access l.dtype)
