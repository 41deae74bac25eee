-- Windows to which memory is attached: MPI 3.1, section 11.2.4.
use Rattle.std.specs.Prelude.{pos, negsuc, [], ◌∷◌, codes}
use Rattle.rma_types.specs.declared.calls.Call.TheVariants.{Attach, Barrier, Dynamic, Free, Sync, UnlockAll}
use Rattle.rma_types.specs.declared.dtypes.Dtype.TheVariants.{Int16, Int32, Int8}
use Rattle.rma_types.specs.declared.scripts.Script.{Script}
use Rattle.run_examples.specs.Scripts.{Gives, attach, create, detach, fence, flush, get, load, lock_all, plain_run, put}
use Rattle.run_examples.specs.Scripts.{spaced_script, store}

abbrev pub between_barriers : Script
between_barriers = spaced_script (0 ∷ 32 ∷ [])
    ((Dynamic 0
    ∷ lock_all 0
    ∷ get 0 1 8 Int32 1
    ∷ Barrier
    ∷ Barrier
    ∷ get 0 1 8 Int32 1
    ∷ Barrier
    ∷ Barrier
    ∷ get 0 1 8 Int32 1
    ∷ UnlockAll 0
    ∷ [])
    ∷ (Dynamic 0
    ∷ Barrier
    ∷ attach 0 8 8
    ∷ attach 0 12 8
    ∷ detach 0 12
    ∷ Barrier
    ∷ Barrier
    ∷ detach 0 8
    ∷ Barrier
    ∷ [])
    ∷ [])

-- before the attach, after it, and after the detach
abbrev pub ReachesAttachedBytes : Type 0
ReachesAttachedBytes = Gives between_barriers (plain_run between_barriers) []
    (codes "ended"
    ∷ codes "0:2 refused MPI_ERR_RMA_RANGE"
    ∷ codes "0:5 value 0"
    ∷ codes "0:8 refused MPI_ERR_RMA_RANGE"
    ∷ codes "1:3 refused MPI_ERR_RMA_ATTACH"
    ∷ codes "1:4 refused MPI_ERR_BASE"
    ∷ codes "summary accesses 1 touches 1 entries 25 refused 4 findings 0"
    ∷ [])
    1

abbrev pub between_fences : Script
between_fences = spaced_script (0 ∷ 32 ∷ [])
    ((Dynamic 0
    ∷ fence 0
    ∷ get 0 1 8 Int32 1
    ∷ fence 0
    ∷ get 0 1 8 Int32 1
    ∷ fence 0
    ∷ [])
    ∷ (Dynamic 0
    ∷ fence 0
    ∷ attach 0 8 8
    ∷ attach 0 12 8
    ∷ detach 0 12
    ∷ fence 0
    ∷ fence 0
    ∷ [])
    ∷ [])

-- before the attach, and after it
abbrev pub ReachesAttachedBytesAfterAFence : Type 0
ReachesAttachedBytesAfterAFence = Gives between_fences (plain_run between_fences) []
    (codes "ended"
    ∷ codes "0:2 refused MPI_ERR_RMA_RANGE"
    ∷ codes "0:4 value 0"
    ∷ codes "1:3 refused MPI_ERR_RMA_ATTACH"
    ∷ codes "1:4 refused MPI_ERR_BASE"
    ∷ codes "summary accesses 1 touches 1 entries 18 refused 3 findings 0"
    ∷ [])
    1

abbrev pub regions_of_a_space : Script
regions_of_a_space = spaced_script (32 ∷ [])
    ((Dynamic 0
    ∷ create 1 0 8 4
    ∷ attach 0 4 8
    ∷ attach 0 8 8
    ∷ attach 0 16 8
    ∷ attach 0 20 4
    ∷ create 2 4 8 4
    ∷ create 2 20 8 4
    ∷ attach 0 24 9
    ∷ Attach 0 (negsuc 0) (pos 4)
    ∷ attach 0 24 0
    ∷ attach 1 24 8
    ∷ detach 0 12
    ∷ detach 0 16
    ∷ attach 0 16 16
    ∷ lock_all 0
    ∷ put 0 0 12 Int32 (5 ∷ [])
    ∷ flush 0 0
    ∷ get 0 0 14 Int16 2
    ∷ Sync 0
    ∷ load 0 12 Int32 1
    ∷ load 0 4 Int32 1
    ∷ put 0 0 6 Int16 (1 ∷ [])
    ∷ UnlockAll 0
    ∷ Free 0
    ∷ create 2 8 24 1
    ∷ store 2 0 Int8 (255 ∷ [])
    ∷ Free 1
    ∷ create 3 0 8 1
    ∷ store 3 7 Int8 (1 ∷ [])
    ∷ [])
    ∷ [])

-- regions and created windows side by side and over one another, an access over two regions, and frees
abbrev pub KeepsRegionsApart : Type 0
KeepsRegionsApart = Gives regions_of_a_space (plain_run regions_of_a_space) []
    (codes "ended"
    ∷ codes "0:2 refused MPI_ERR_RMA_ATTACH"
    ∷ codes "0:5 refused MPI_ERR_RMA_ATTACH"
    ∷ codes "0:6 refused MPI_ERR_BASE"
    ∷ codes "0:7 refused MPI_ERR_BASE"
    ∷ codes "0:8 refused MPI_ERR_BASE"
    ∷ codes "0:9 refused MPI_ERR_BASE"
    ∷ codes "0:10 refused MPI_ERR_SIZE"
    ∷ codes "0:11 refused MPI_ERR_RMA_FLAVOR"
    ∷ codes "0:12 refused MPI_ERR_BASE"
    ∷ codes "0:18 value 0 0"
    ∷ codes "0:20 value 5"
    ∷ codes "0:21 refused MPI_ERR_RMA_RANGE"
    ∷ codes "0:22 refused MPI_ERR_RMA_RANGE"
    ∷ codes "memory 0 0 0000000000000001ff0000000500000000000000000000000000000000000000"
    ∷ codes "summary accesses 5 touches 6 entries 20 refused 11 findings 0"
    ∷ [])
    1
