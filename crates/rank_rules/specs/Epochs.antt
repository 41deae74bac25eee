-- The epochs of a rank on its windows: MPI 3.1, section 11.5.
use Rattle.std.specs.Prelude.{ℕ, Bool, true, false, not, ◌&&◌, ◌||◌, ◌==◌, if◌then◌else◌, List, [], ◌∷◌, ◌++◌, is_some}
use Rattle.std.specs.Prelude.{Option, Some, None, replicate, slice_index_or, slice_set, ℤ}
use Rattle.std.specs.List.{filter}
use Rattle.rma_types.specs.declared.actions.Action.{Action}
use Rattle.rma_types.specs.declared.actions.Action.TheVariants.{Creates, Frees, Attaches, Detaches, Synchronises, Meets}
use Rattle.rma_types.specs.declared.actions.Action.TheVariants.{Moves, EndsRequest}
use Rattle.rma_types.specs.declared.actions.Synchronisation.{Synchronisation}
use Rattle.rma_types.specs.declared.actions.Synchronisation.TheVariants.{Fences, Posts, Starts, Completes, Waits, Locks}
use Rattle.rma_types.specs.declared.actions.Synchronisation.TheVariants.{Unlocks, Flushes, Syncs}
use Rattle.rma_types.specs.declared.actions.Target.{Target}
use Rattle.rma_types.specs.declared.actions.Transfer.{Transfer}
use Rattle.rma_types.specs.declared.actions.Target.TheVariants.{Own, Null, Named}
use Rattle.call_rules.specs.Ranks.{natural, members_of, is_member}

-- the access epoch in which a rank is: none; that of a fence, before and after its first RMA call; that of a start,
-- with its group; that of locks, with their targets; or that of a lock_all
pub data AccessEpoch : Type 0 where
  Idle : AccessEpoch
  FenceUnused : AccessEpoch
  FenceUsed : AccessEpoch
  StartTo : List ℕ → AccessEpoch
  LocksAt : List ℕ → AccessEpoch
  LockAll : AccessEpoch

-- the exposure epoch in which a rank is: none, or that of a post, with its group
pub data ExposureEpoch : Type 0 where
  Unexposed : ExposureEpoch
  PostTo : List ℕ → ExposureEpoch

pub record Epochs : Type 0 where
  pub access : AccessEpoch
  pub exposure : ExposureEpoch

abbrev pub no_epochs : Epochs
no_epochs = record { access = Idle; exposure = Unexposed }

-- a rank's epochs on the windows w0 to w31, before its first call
abbrev pub first_epochs : List Epochs
first_epochs = replicate 32 no_epochs

abbrev pub epochs_at : List Epochs → ℕ → Epochs
epochs_at epochs win = slice_index_or epochs win no_epochs

-- No access epoch, or a fence epoch without an RMA call. That a start, a lock or a post may follow such a fence epoch
-- is this project's profile.
abbrev pub may_begin : AccessEpoch → Bool
may_begin Idle = true
may_begin FenceUnused = true
may_begin FenceUsed = false
may_begin (StartTo group) = false
may_begin (LocksAt targets) = false
may_begin LockAll = false

abbrev pub is_fence_unused : AccessEpoch → Bool
is_fence_unused Idle = false
is_fence_unused FenceUnused = true
is_fence_unused FenceUsed = false
is_fence_unused (StartTo group) = false
is_fence_unused (LocksAt targets) = false
is_fence_unused LockAll = false

abbrev pub is_fence_used : AccessEpoch → Bool
is_fence_used Idle = false
is_fence_used FenceUnused = false
is_fence_used FenceUsed = true
is_fence_used (StartTo group) = false
is_fence_used (LocksAt targets) = false
is_fence_used LockAll = false

abbrev pub is_start_epoch : AccessEpoch → Bool
is_start_epoch Idle = false
is_start_epoch FenceUnused = false
is_start_epoch FenceUsed = false
is_start_epoch (StartTo group) = true
is_start_epoch (LocksAt targets) = false
is_start_epoch LockAll = false

-- the targets that are locked one by one
abbrev pub targets_locked : AccessEpoch → List ℕ
targets_locked Idle = []
targets_locked FenceUnused = []
targets_locked FenceUsed = []
targets_locked (StartTo group) = []
targets_locked (LocksAt targets) = targets
targets_locked LockAll = []

-- a passive target epoch towards some rank (11.5.3)
abbrev pub is_passive : AccessEpoch → Bool
is_passive Idle = false
is_passive FenceUnused = false
is_passive FenceUsed = false
is_passive (StartTo group) = false
is_passive (LocksAt targets) = true
is_passive LockAll = true

abbrev pub is_lock_all : AccessEpoch → Bool
is_lock_all Idle = false
is_lock_all FenceUnused = false
is_lock_all FenceUsed = false
is_lock_all (StartTo group) = false
is_lock_all (LocksAt targets) = false
is_lock_all LockAll = true

-- a passive target epoch towards this rank
abbrev pub is_passive_at : AccessEpoch → ℕ → Bool
is_passive_at access rank = is_lock_all access || is_member rank (targets_locked access)

-- an RMA call without a request may reach the rank
abbrev pub may_reach : AccessEpoch → ℕ → Bool
may_reach Idle rank = false
may_reach FenceUnused rank = true
may_reach FenceUsed rank = true
may_reach (StartTo group) rank = is_member rank group
may_reach (LocksAt targets) rank = is_member rank targets
may_reach LockAll rank = true

abbrev pub is_exposed : ExposureEpoch → Bool
is_exposed Unexposed = false
is_exposed (PostTo group) = true

-- a request form is for passive targets alone (11.3.5)
abbrev pub may_move : AccessEpoch → Transfer → Bool
may_move access t = reaches t.target
  where
    reaches : Target → Bool
    reaches Own = true
    reaches Null = true
    reaches (Named rank) = if is_some t.request then is_passive_at access (natural rank) else may_reach access
        (natural rank)

-- a lock of all ranks wants that nothing is locked; a lock of one, that this one is not
abbrev pub may_lock : AccessEpoch → Option ℤ → Bool
may_lock access None = may_begin access
may_lock access (Some target) =
    may_begin access || (is_passive access && not (is_passive_at access (natural target)))

-- an unlock ends a lock of the same form
abbrev pub may_unlock : AccessEpoch → Option ℤ → Bool
may_unlock access None = is_lock_all access
may_unlock access (Some target) = is_member (natural target) (targets_locked access)

abbrev pub may_flush : AccessEpoch → Option ℤ → Bool
may_flush access None = is_passive access
may_flush access (Some target) = is_passive_at access (natural target)

-- the synchronisation is allowed in the epochs
abbrev pub may_synchronise : Epochs → Synchronisation → Bool
may_synchronise epochs (Fences asserts) =
    (may_begin epochs.access || is_fence_used epochs.access) && not (is_exposed epochs.exposure)
may_synchronise epochs (Posts group asserts) = not (is_fence_used epochs.access) && not (is_exposed epochs.exposure)
may_synchronise epochs (Starts group asserts) = may_begin epochs.access
may_synchronise epochs Completes = is_start_epoch epochs.access
may_synchronise epochs (Waits tests) = is_exposed epochs.exposure
may_synchronise epochs (Locks kind target asserts) = may_lock epochs.access target
may_synchronise epochs (Unlocks target) = may_unlock epochs.access target
may_synchronise epochs (Flushes target local) = may_flush epochs.access target
may_synchronise epochs Syncs = is_passive epochs.access

abbrev pub may_free : Epochs → Bool
may_free epochs = may_begin epochs.access && not (is_exposed epochs.exposure)

-- ---- the epochs after an accepted call

-- an RMA call in a fence epoch uses it
abbrev pub after_use : AccessEpoch → AccessEpoch
after_use Idle = Idle
after_use FenceUnused = FenceUsed
after_use FenceUsed = FenceUsed
after_use (StartTo group) = StartTo group
after_use (LocksAt targets) = LocksAt targets
after_use LockAll = LockAll

abbrev pub after_transfer : AccessEpoch → Transfer → AccessEpoch
after_transfer access t = reached t.target
  where
    reached : Target → AccessEpoch
    reached Own = access
    reached Null = access
    reached (Named rank) = if is_some t.request then access else after_use access

abbrev pub after_lock : AccessEpoch → Option ℤ → AccessEpoch
after_lock access None = LockAll
after_lock access (Some target) = LocksAt (targets_locked access ++ natural target ∷ [])

-- no lock at all is no epoch
abbrev pub epoch_of_locks : List ℕ → AccessEpoch
epoch_of_locks [] = Idle
epoch_of_locks (target ∷ targets) = LocksAt (target ∷ targets)

abbrev pub after_unlock : AccessEpoch → Option ℤ → AccessEpoch
after_unlock access None = Idle
after_unlock access (Some target) = epoch_of_locks (filter (λ one. not (one == natural target)) (targets_locked access))

abbrev pub access_after : AccessEpoch → Synchronisation → AccessEpoch
access_after access (Fences asserts) = if asserts.nosucceed then Idle else FenceUnused
access_after access (Posts group asserts) = if is_fence_unused access then Idle else access
access_after access (Starts group asserts) = StartTo (members_of group)
access_after access Completes = Idle
access_after access (Waits tests) = access
access_after access (Locks kind target asserts) = after_lock access target
access_after access (Unlocks target) = after_unlock access target
access_after access (Flushes target local) = access
access_after access Syncs = access

-- a testwin that was false is no accepted call here
abbrev pub exposure_after : ExposureEpoch → Synchronisation → ExposureEpoch
exposure_after exposure (Fences asserts) = exposure
exposure_after exposure (Posts group asserts) = PostTo (members_of group)
exposure_after exposure (Starts group asserts) = exposure
exposure_after exposure Completes = exposure
exposure_after exposure (Waits tests) = Unexposed
exposure_after exposure (Locks kind target asserts) = exposure
exposure_after exposure (Unlocks target) = exposure
exposure_after exposure (Flushes target local) = exposure
exposure_after exposure Syncs = exposure

abbrev pub after_synchronisation : Epochs → Synchronisation → Epochs
after_synchronisation epochs s =
    record { access = access_after epochs.access s; exposure = exposure_after epochs.exposure s }

-- the epochs on all windows after the accepted call; a window that is made or freed has none
abbrev pub epochs_after : List Epochs → Action → List Epochs
epochs_after epochs (Creates creation) = slice_set epochs creation.win no_epochs
epochs_after epochs (Frees win) = slice_set epochs win no_epochs
epochs_after epochs (Attaches win base bytes) = epochs
epochs_after epochs (Detaches win base) = epochs
epochs_after epochs (Synchronises win s) = slice_set epochs win (after_synchronisation (epochs_at epochs win) s)
epochs_after epochs Meets = epochs
epochs_after epochs (Moves t) =
    let here = epochs_at epochs t.win in
    slice_set epochs t.win (record here { access = after_transfer here.access t })
epochs_after epochs (EndsRequest req) = epochs
