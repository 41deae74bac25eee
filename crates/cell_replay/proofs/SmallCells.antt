-- The numbers of a script's cells are small.
use Rattle.std.proofs.Common.{◌≡◌, ℕ, zero, suc, ◌+◌, ◌*◌, ◌/◌, ◌<◌, ◌≤◌, List, [], ◌∷◌, arith}
use Rattle.std.specs.Prelude.{sum_by}
use Rattle.std.proofs.lemmas.List.Sums.{sum_by-cons}
use Rattle.rma_types.specs.declared.calls.Call.{Call}
use Rattle.rma_types.specs.declared.dtypes.Dtype.{Dtype}
use Rattle.rma_types.specs.declared.dtypes.Dtype.TheVariants.{Int8, Int16, Int32, Uint8, Uint16, Uint32, Byte}
use Rattle.rma_types.specs.declared.scripts.Script.{Script}
use Rattle.rma_types.specs.Datatypes.{size_of}
use Rattle.rma_types.proofs.MemoryLaws.{first_in}
use Rattle.call_rules.specs.Layout.{layout, memory_bytes, parts_from, ranks_of, IsWithinLimits}
use Rattle.call_rules.specs.Pieces.{first_cell}

abbrev bytes_in : ℕ × List Call → ℕ
bytes_in rank = memory_bytes rank.0 rank.1

next : (cell here rest all limit : ℕ) → all ≡ here + rest → cell + all ≤ limit → cell + here / 4 + rest ≤ limit
next cell here rest all limit e le = omega arith

first_below : (cell limit : ℕ) (ranks : List (ℕ × List Call)) (rank : ℕ) → cell + sum_by bytes_in ranks ≤ limit →
    first_in (parts_from cell ranks) rank ≤ limit
first_below cell limit [] rank le = omega arith
first_below cell limit (one ∷ ranks) zero le = omega (arith, le)
first_below cell limit (one ∷ ranks) (suc rank) le = first_below (cell + bytes_in one / 4) limit ranks rank
    (next cell (bytes_in one) (sum_by bytes_in ranks) (sum_by bytes_in (one ∷ ranks)) limit
    (sum_by-cons bytes_in one ranks) le)

-- no more cells come before a rank's memory than the script asks for bytes
pub small_first : (script : Script) (rank : ℕ) → IsWithinLimits script → first_cell (layout script) rank ≤ 65536
small_first script rank limits = first_below 0 65536 (ranks_of script) rank (omega (arith, limits.memory))

-- an element of an access begins among the access's bytes
pub begins_within : (dtype : Dtype) (len element : ℕ) → element < len / size_of dtype → element * size_of dtype < len
begins_within Int8 len element h = omega arith
begins_within Int16 len element h = omega arith
begins_within Int32 len element h = omega arith
begins_within Uint8 len element h = omega arith
begins_within Uint16 len element h = omega arith
begins_within Uint32 len element h = omega arith
begins_within Byte len element h = omega arith
