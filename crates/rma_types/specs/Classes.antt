-- The error classes of refused calls: MPI 3.1, sections 8.4 and 11.6.
use Rattle.std.specs.Prelude.{ℕ, List, codes}
use Rattle.rma_types.specs.declared.classes.Class.{Class}
use Rattle.rma_types.specs.declared.classes.Class.TheVariants.{Win, Flavor, Size, Base, Count, Datatype, Op, Rank}
use Rattle.rma_types.specs.declared.classes.Class.TheVariants.{Request, Assert, Sync, Disp, Range, Attach}

-- the standard's name of a class
abbrev pub class_text : Class → List ℕ
class_text Win = codes "MPI_ERR_WIN"
class_text Flavor = codes "MPI_ERR_RMA_FLAVOR"
class_text Size = codes "MPI_ERR_SIZE"
class_text Base = codes "MPI_ERR_BASE"
class_text Count = codes "MPI_ERR_COUNT"
class_text Datatype = codes "MPI_ERR_TYPE"
class_text Op = codes "MPI_ERR_OP"
class_text Rank = codes "MPI_ERR_RANK"
class_text Request = codes "MPI_ERR_REQUEST"
class_text Assert = codes "MPI_ERR_ASSERT"
class_text Sync = codes "MPI_ERR_RMA_SYNC"
class_text Disp = codes "MPI_ERR_DISP"
class_text Range = codes "MPI_ERR_RMA_RANGE"
class_text Attach = codes "MPI_ERR_RMA_ATTACH"

-- the place of a class in the order of the tests, from 1
abbrev pub class_number : Class → ℕ
class_number Win = 1
class_number Flavor = 2
class_number Size = 3
class_number Base = 4
class_number Count = 5
class_number Datatype = 6
class_number Op = 7
class_number Rank = 8
class_number Request = 9
class_number Assert = 10
class_number Sync = 11
class_number Disp = 12
class_number Range = 13
class_number Attach = 14
