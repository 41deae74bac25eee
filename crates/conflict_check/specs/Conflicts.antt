-- Classes of accesses that may form forbidden pairs: after MPI 3.1, section 11.7, in this project's profile.
use Rattle.std.specs.Prelude.{Bool, true, false, not, ◌&&◌, ◌||◌, ◌==◌, nat_lt}
use Rattle.rma_types.specs.declared.findings.Model.{Model}
use Rattle.rma_types.specs.declared.findings.Model.TheVariants.{Separate, Unified}
use Rattle.access_index.specs.declared.regions.Cast.{Cast}
use Rattle.access_index.specs.declared.regions.Cast.TheVariants.{Update, Swap, Read, Store, Load}
use Rattle.access_index.specs.declared.regions.Class.{Class}
use Rattle.access_index.specs.declared.regions.Region.{Region}
use Rattle.access_index.specs.declared.regions.Region.TheVariants.{Block, Window}

abbrev pub is_plain : Cast → Bool
is_plain Update = true
is_plain Swap = false
is_plain Read = false
is_plain Store = false
is_plain Load = false

abbrev pub is_rma_update : Cast → Bool
is_rma_update Update = true
is_rma_update Swap = true
is_rma_update Read = false
is_rma_update Store = false
is_rma_update Load = false

abbrev pub is_store : Cast → Bool
is_store Update = false
is_store Swap = false
is_store Read = false
is_store Store = true
is_store Load = false

abbrev pub is_read : Cast → Bool
is_read Update = false
is_read Swap = false
is_read Read = true
is_read Store = false
is_read Load = true

abbrev pub is_local : Cast → Bool
is_local Update = false
is_local Swap = false
is_local Read = false
is_local Store = true
is_local Load = true

-- two reads, or two accesses of a rank's own memory: no rule forbids them
abbrev pub are_quiet : Cast → Cast → Bool
are_quiet a b = (is_read a && is_read b) || (is_local a && is_local b)

-- a store and an RMA update
abbrev pub are_store_and_update : Cast → Cast → Bool
are_store_and_update a b = (is_store a && is_rma_update b) || (is_rma_update a && is_store b)

-- Accesses of the two classes that reach the region form a forbidden pair where they are not ordered, unless they are
-- accumulates that may overlap. In a block they reach a common byte, and one of them begins there.
abbrev pub do_conflict : Model → Region → Class → Class → Bool
do_conflict model (Block target block) a b = nat_lt a.from b.to && nat_lt b.from a.to && (a.begins || b.begins)
    && not (are_quiet a.cast b.cast)
do_conflict Separate (Window target window) a b = are_store_and_update a.cast b.cast
do_conflict Unified (Window target window) a b = false

-- between the two classes the operations of accumulates count: both are updates, of two ranks
abbrev pub by_operation : Class → Class → Bool
by_operation a b = is_plain a.cast && is_plain b.cast && not (a.rank == b.rank)
