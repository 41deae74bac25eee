-- Runs with fences: MPI 3.1, section 11.5.1.
use Rattle.std.specs.Prelude.{[], ◌∷◌, codes}
use Rattle.rma_types.specs.declared.dtypes.Dtype.TheVariants.{Byte, Int32, Int8}
use Rattle.rma_types.specs.declared.scripts.Script.{Script}
use Rattle.run_examples.specs.Scripts.{Gives, allocate, create, fence, load, plain_run, put, script, spaced_script}
use Rattle.run_examples.specs.Scripts.{store}

abbrev pub one_put : Script
one_put = script
    ((allocate 0 4 4
    ∷ fence 0
    ∷ put 0 1 0 Int32 (5 ∷ [])
    ∷ fence 0
    ∷ [])
    ∷ (allocate 0 4 4
    ∷ fence 0
    ∷ fence 0
    ∷ load 0 0 Int32 1
    ∷ [])
    ∷ [])

-- the target reads what was put, and the memory has it
abbrev pub IsReadAfterTheFence : Type 0
IsReadAfterTheFence = Gives one_put (plain_run one_put) []
    (codes "ended"
    ∷ codes "1:3 value 5"
    ∷ codes "memory 1 0 0500000000000000"
    ∷ codes "summary accesses 2 touches 2 entries 12 refused 0 findings 0"
    ∷ [])
    0

abbrev pub two_puts : Script
two_puts = script
    ((allocate 0 16 4
    ∷ fence 0
    ∷ put 0 0 3 Int32 (9 ∷ [])
    ∷ put 0 0 4 Int32 (9 ∷ [])
    ∷ fence 0
    ∷ [])
    ∷ [])

-- a put may end at the end of its target's part, and not pass it
abbrev pub IsRefusedAtTheEndOfThePart : Type 0
IsRefusedAtTheEndOfThePart = Gives two_puts (plain_run two_puts) []
    (codes "ended"
    ∷ codes "0:3 refused MPI_ERR_RMA_RANGE"
    ∷ codes "memory 0 0 00000000000000000000000009000000"
    ∷ codes "summary accesses 1 touches 1 entries 6 refused 1 findings 0"
    ∷ [])
    1

abbrev pub two_units : Script
two_units = script
    ((allocate 0 24 1
    ∷ fence 0
    ∷ put 0 0 2 Int8 (7 ∷ [])
    ∷ put 0 1 2 Int8 (7 ∷ [])
    ∷ fence 0
    ∷ [])
    ∷ (allocate 0 24 8
    ∷ fence 0
    ∷ fence 0
    ∷ [])
    ∷ [])

-- a displacement is counted in the unit of the target
abbrev pub CountsInUnitsOfTheTarget : Type 0
CountsInUnitsOfTheTarget = Gives two_units (plain_run two_units) []
    (codes "ended"
    ∷ codes "memory 0 0 000007000000000000000000000000000000000000000000"
    ∷ codes "memory 1 0 000000000000000000000000000000000700000000000000"
    ∷ codes "summary accesses 2 touches 2 entries 12 refused 0 findings 0"
    ∷ [])
    0

abbrev pub space_and_memory : Script
space_and_memory = spaced_script (0 ∷ 12 ∷ [])
    ((create 0 0 0 1
    ∷ allocate 1 4 4
    ∷ fence 0
    ∷ fence 1
    ∷ put 0 1 1 Int32 (5 ∷ [])
    ∷ put 1 1 0 Int32 (6 ∷ [])
    ∷ fence 0
    ∷ fence 1
    ∷ [])
    ∷ (create 0 4 8 4
    ∷ allocate 1 4 4
    ∷ fence 0
    ∷ fence 1
    ∷ fence 0
    ∷ fence 1
    ∷ [])
    ∷ [])

-- a created window lies in the space from its base on, and allocated memory follows the space, rounded up to 8 bytes
abbrev pub ReachesSpaceAndMemory : Type 0
ReachesSpaceAndMemory = Gives space_and_memory (plain_run space_and_memory) []
    (codes "ended"
    ∷ codes "memory 1 0 000000000000000005000000000000000600000000000000"
    ∷ codes "summary accesses 2 touches 2 entries 24 refused 0 findings 0"
    ∷ [])
    0

abbrev pub far_stores : Script
far_stores = script
    ((allocate 0 72 1
    ∷ store 0 33 Byte (255 ∷ [])
    ∷ store 0 71 Byte (1 ∷ [])
    ∷ [])
    ∷ [])

-- memory stands in pieces of 32 bytes, without those that are 0
abbrev pub HasALineForEach32Bytes : Type 0
HasALineForEach32Bytes = Gives far_stores (plain_run far_stores) []
    (codes "ended"
    ∷ codes "memory 0 32 00ff000000000000000000000000000000000000000000000000000000000000"
    ∷ codes "memory 0 64 0000000000000001"
    ∷ codes "summary accesses 2 touches 2 entries 2 refused 0 findings 0"
    ∷ [])
    0

abbrev pub no_calls : Script
no_calls = script ([] ∷ [])

-- a rank without calls ends
abbrev pub EndsWithoutCalls : Type 0
EndsWithoutCalls = Gives no_calls (plain_run no_calls) []
    (codes "ended"
    ∷ codes "summary accesses 0 touches 0 entries 0 refused 0 findings 0"
    ∷ [])
    0
