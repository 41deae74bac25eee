-- The entries that leave what is kept of a window as it is.
use Rattle.std.specs.Prelude.{Bool, true, false, is_some}
use Rattle.rma_types.specs.declared.accesses.Step.{Step}
use Rattle.rma_types.specs.declared.accesses.Step.TheVariants.{Arrive, Leave, One}
use Rattle.rma_types.specs.declared.actions.Action.{Action}
use Rattle.rma_types.specs.declared.actions.Action.TheVariants.{Creates, Frees, Attaches, Detaches, Synchronises, Meets}
use Rattle.rma_types.specs.declared.actions.Action.TheVariants.{Moves, EndsRequest}
use Rattle.rma_types.specs.declared.actions.Synchronisation.{Synchronisation}
use Rattle.rma_types.specs.declared.actions.Synchronisation.TheVariants.{Fences, Posts, Starts, Completes, Waits, Locks}
use Rattle.rma_types.specs.declared.actions.Synchronisation.TheVariants.{Unlocks, Flushes, Syncs}
use Rattle.board_rules.specs.Entries.{fence_or_none}

-- a flush or a sync
abbrev pub is_flush : Synchronisation → Bool
is_flush (Fences asserts) = false
is_flush (Posts group asserts) = false
is_flush (Starts group asserts) = false
is_flush Completes = false
is_flush (Waits tests) = false
is_flush (Locks kind target asserts) = false
is_flush (Unlocks target) = false
is_flush (Flushes target local) = true
is_flush Syncs = true

-- the Arrive of a barrier; the Leave of a creation, a fence or a barrier; a look-up, a flush, a sync, and the end of a
-- request
abbrev pub brings_nothing : Step → Action → Bool
brings_nothing Arrive (Creates creation) = false
brings_nothing Arrive (Frees win) = false
brings_nothing Arrive (Attaches win base bytes) = false
brings_nothing Arrive (Detaches win base) = false
brings_nothing Arrive (Synchronises win s) = false
brings_nothing Arrive Meets = true
brings_nothing Arrive (Moves transfer) = false
brings_nothing Arrive (EndsRequest req) = false
brings_nothing Leave (Creates creation) = true
brings_nothing Leave (Frees win) = false
brings_nothing Leave (Attaches win base bytes) = false
brings_nothing Leave (Detaches win base) = false
brings_nothing Leave (Synchronises win s) = is_some (fence_or_none s)
brings_nothing Leave Meets = true
brings_nothing Leave (Moves transfer) = false
brings_nothing Leave (EndsRequest req) = false
brings_nothing One (Creates creation) = false
brings_nothing One (Frees win) = false
brings_nothing One (Attaches win base bytes) = false
brings_nothing One (Detaches win base) = false
brings_nothing One (Synchronises win s) = is_flush s
brings_nothing One Meets = false
brings_nothing One (Moves transfer) = true
brings_nothing One (EndsRequest req) = true
