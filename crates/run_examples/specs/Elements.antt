-- Elements of a cell, and operations on them: MPI 3.1, sections 5.9.2 and 11.3.
use Rattle.std.specs.Prelude.{ℕ, ◌≡◌, List, map, pos, [], ◌∷◌, None, codes}
use Rattle.rma_types.specs.declared.calls.Call.TheVariants.{Put, Sync, UnlockAll}
use Rattle.rma_types.specs.declared.calls.Lock.TheVariants.{Exclusive}
use Rattle.rma_types.specs.declared.dtypes.Dtype.{Dtype}
use Rattle.rma_types.specs.declared.dtypes.Dtype.TheVariants.{Byte, Int16, Int32, Int8, Uint16, Uint32, Uint8}
use Rattle.rma_types.specs.declared.ops.Op.{Op}
use Rattle.rma_types.specs.declared.ops.Op.TheVariants.{Band, Bor, Bxor, Land, Lor, Lxor, Max, Min, NoOp, Prod, Replace}
use Rattle.rma_types.specs.declared.ops.Op.TheVariants.{Sum}
use Rattle.rma_types.specs.declared.scripts.Script.{Script}
use Rattle.rma_record.specs.declared.items.Item.TheVariants.{Touch}
use Rattle.call_rules.specs.Elements.{combine}
use Rattle.run_examples.specs.Scripts.{Gives, HasItem, acc, allocate, cas, fence, flush, fop, load, lock, lock_all}
use Rattle.run_examples.specs.Scripts.{plain_run, put, script, store, unlock}

abbrev pub sum_of_a_byte : Script
sum_of_a_byte = script
    ((allocate 0 8 1
    ∷ store 0 0 Int8 (127 ∷ 1 ∷ 2 ∷ 3 ∷ [])
    ∷ fence 0
    ∷ fop 0 0 0 Int8 Sum 1
    ∷ fence 0
    ∷ load 0 0 Int8 4
    ∷ [])
    ∷ [])

-- 127 and 1 are -128, and the 3 bytes beside it stay
abbrev pub WrapsAndKeepsNeighbours : Type 0
WrapsAndKeepsNeighbours = Gives sum_of_a_byte (plain_run sum_of_a_byte) []
    (codes "ended"
    ∷ codes "0:3 value 127"
    ∷ codes "0:5 value -128 1 2 3"
    ∷ codes "memory 0 0 8001020300000000"
    ∷ codes "summary accesses 3 touches 9 entries 6 refused 0 findings 0"
    ∷ [])
    0

abbrev pub sums_in_a_lock : Script
sums_in_a_lock = script
    ((allocate 0 8 1
    ∷ lock 0 Exclusive 0
    ∷ store 0 0 Int8 (127 ∷ 1 ∷ 2 ∷ 3 ∷ [])
    ∷ store 0 4 Uint32 (4294967295 ∷ [])
    ∷ Sync 0
    ∷ fop 0 0 0 Int8 Sum 1
    ∷ fop 0 0 4 Uint32 Sum 1
    ∷ flush 0 0
    ∷ Sync 0
    ∷ load 0 0 Int8 4
    ∷ load 0 4 Uint32 1
    ∷ unlock 0 0
    ∷ [])
    ∷ [])

-- a signed byte and an unsigned cell wrap
abbrev pub WrapsInBothCells : Type 0
WrapsInBothCells = Gives sums_in_a_lock (plain_run sums_in_a_lock) []
    (codes "ended"
    ∷ codes "0:5 value 127"
    ∷ codes "0:6 value 4294967295"
    ∷ codes "0:9 value -128 1 2 3"
    ∷ codes "0:10 value 0"
    ∷ codes "memory 0 0 8001020300000000"
    ∷ codes "summary accesses 6 touches 12 entries 4 refused 0 findings 0"
    ∷ [])
    0

-- an operation on an element: the old bit pattern, that of the operand, and the new one
pub record Operation : Type 0 where
  pub op : Op
  pub dtype : Dtype
  pub old : ℕ
  pub operand : ℕ
  pub new : ℕ

abbrev pub example : Op → Dtype → ℕ → ℕ → ℕ → Operation
example op dtype old operand new = record { op = op; dtype = dtype; old = old; operand = operand; new = new }

-- signed numbers are two's complement, and 1 stands for true
abbrev pub operations : List Operation
operations =
    example Replace Int8 1 255 255
    ∷ example NoOp Int8 7 9 7
    ∷ example Max Int8 255 1 1
    ∷ example Max Uint8 255 1 255
    ∷ example Min Int8 1 255 255
    ∷ example Min Uint8 1 255 1
    ∷ example Max Int16 32768 32767 32767
    ∷ example Min Int16 32768 32767 32768
    ∷ example Max Uint16 32768 32767 32768
    ∷ example Max Int32 2147483648 0 0
    ∷ example Min Int32 2147483648 0 2147483648
    ∷ example Min Uint32 2147483648 0 0
    ∷ example Sum Int8 127 1 128
    ∷ example Sum Int8 255 255 254
    ∷ example Sum Uint8 255 1 0
    ∷ example Sum Int16 32767 1 32768
    ∷ example Sum Uint16 65535 2 1
    ∷ example Sum Int32 2147483647 1 2147483648
    ∷ example Sum Int32 4294967295 1 0
    ∷ example Sum Uint32 4294967295 1 0
    ∷ example Prod Int8 100 3 44
    ∷ example Prod Int8 255 128 128
    ∷ example Prod Uint8 16 17 16
    ∷ example Prod Int16 65535 2 65534
    ∷ example Prod Int32 65536 32768 2147483648
    ∷ example Prod Uint32 65536 65536 0
    ∷ example Land Int8 2 5 1
    ∷ example Land Int8 0 5 0
    ∷ example Lor Int8 0 5 1
    ∷ example Lor Int8 0 0 0
    ∷ example Lxor Int8 2 5 0
    ∷ example Lxor Int8 0 5 1
    ∷ example Lxor Int8 5 0 1
    ∷ example Lxor Int8 0 0 0
    ∷ example Band Byte 12 10 8
    ∷ example Bor Byte 12 10 14
    ∷ example Bxor Byte 12 10 6
    ∷ []

abbrev pub OperatesOnItsRange : Type 0
OperatesOnItsRange =
    map (λ (one : Operation). combine one.op one.dtype one.old one.operand) operations ≡ map
    (λ (one : Operation). one.new) operations

abbrev pub two_swaps : Script
two_swaps = script
    ((allocate 0 4 4
    ∷ lock_all 0
    ∷ cas 0 0 0 Int32 1 9
    ∷ cas 0 0 0 Int32 0 9
    ∷ UnlockAll 0
    ∷ [])
    ∷ [])

-- the first swap finds 0 and not 1, and the second swaps
abbrev pub SwapsWhatIsEqual : Type 0
SwapsWhatIsEqual = Gives two_swaps (plain_run two_swaps) []
    (codes "ended"
    ∷ codes "0:2 value 0"
    ∷ codes "0:3 value 0"
    ∷ codes "memory 0 0 0900000000000000"
    ∷ codes "summary accesses 2 touches 2 entries 4 refused 0 findings 0"
    ∷ [])
    0

-- the second swap is the second update of the cell, and finds what the first one left
abbrev pub HasPlaceOne : Type 0
HasPlaceOne = HasItem (plain_run two_swaps) 0 6 (Touch 5 0 0 1 0)

abbrev pub wrong_operations : Script
wrong_operations = script
    ((allocate 0 8 1
    ∷ fence 0
    ∷ acc 0 0 0 Byte Prod (2 ∷ [])
    ∷ acc 0 0 0 Int32 NoOp (2 ∷ [])
    ∷ Put None 0 None (pos 0) Int32 (2 ∷ [])
    ∷ put 0 0 2 Int32 (9 ∷ [])
    ∷ fence 0
    ∷ [])
    ∷ [])

-- no product of bytes, no no_op that does not fetch, and no address between two elements; a put to no rank does nothing
abbrev pub RefusesOperations : Type 0
RefusesOperations = Gives wrong_operations (plain_run wrong_operations) []
    (codes "ended"
    ∷ codes "0:2 refused MPI_ERR_OP"
    ∷ codes "0:3 refused MPI_ERR_OP"
    ∷ codes "0:5 refused MPI_ERR_DISP"
    ∷ codes "summary accesses 0 touches 0 entries 6 refused 3 findings 0"
    ∷ [])
    1
