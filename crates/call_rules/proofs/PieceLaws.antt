-- Laws of the definitions.
use Rattle.std.proofs.Common.{Option, ℕ, ◌+◌, ◌*◌}
use Rattle.std.specs.Option.{option_map_or}
use Rattle.rma_types.specs.Datatypes.{size_of}
use Rattle.rma_types.specs.declared.accesses.Access.{Access}
use Rattle.rma_types.specs.declared.actions.Transfer.{Transfer}
use Rattle.rma_types.specs.declared.scripts.Layout.{Layout}
use Rattle.call_rules.specs.Pieces.{piece_at}
use Rattle.call_rules.specs.declared.elements.Piece.{Piece}

abbrev pub place_by : Option Transfer → Layout → Access → ℕ → Piece
place_by o layout access element = piece_at layout access.target
    (access.lo + element * option_map_or (λ (t : Transfer). size_of t.dtype) o 1)
