-- The call that the tests make.
use Rattle.std.specs.Prelude.{[], ◌∷◌, Some, None, pos}
use Rattle.rma_types.specs.declared.calls.Call.{Call}
use Rattle.rma_types.specs.declared.calls.Call.TheVariants.{Acc}
use Rattle.rma_types.specs.declared.dtypes.Dtype.TheVariants.{Uint16}
use Rattle.rma_types.specs.declared.ops.Op.TheVariants.{Prod}

-- four halves of cells are multiplied by 3
abbrev pub product : Call
product = Acc None 0 (Some (pos 0)) (pos 0) Uint16 Prod (3 ∷ 3 ∷ 3 ∷ 3 ∷ [])
