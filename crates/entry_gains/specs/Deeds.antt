-- What a call does to the tables, by what it is: MPI 3.1, section 11.5.
use Rattle.std.specs.Prelude.{◌≡◌, ℕ, ◌<◌, Bool, false, List, Option, ℤ, slice_index_or}
use Rattle.rma_types.specs.declared.calls.Lock.{Lock}
use Rattle.rma_types.specs.declared.actions.Action.{Action}
use Rattle.rma_types.specs.declared.actions.Action.TheVariants.{Creates, Frees, Attaches, Detaches, Synchronises}
use Rattle.rma_types.specs.declared.actions.Action.TheVariants.{Meets as MeetsAll, Moves, EndsRequest}
use Rattle.rma_types.specs.declared.actions.Synchronisation.{Synchronisation}
use Rattle.rma_types.specs.declared.actions.Synchronisation.TheVariants.{Fences, Posts as PostsTo, Starts as StartsTo}
use Rattle.rma_types.specs.declared.actions.Synchronisation.TheVariants.{Completes as CompletesOne, Waits as WaitsFor}
use Rattle.rma_types.specs.declared.actions.Synchronisation.TheVariants.{Locks as LocksWith, Unlocks as UnlocksOf}
use Rattle.rma_types.specs.declared.actions.Synchronisation.TheVariants.{Flushes, Syncs}
use Rattle.call_rules.specs.Ranks.{is_member, members_of}
use Rattle.entry_gains.specs.Given.{is_reached}
use Rattle.entry_gains.specs.Tables.{is_within}
use Rattle.entry_gains.specs.declared.deeds.Deed.{Deed}
use Rattle.entry_gains.specs.declared.deeds.Deed.TheVariants.{Nothing, Meets, Posts, Starts, Completes, Waits, Locks}
use Rattle.entry_gains.specs.declared.deeds.Deed.TheVariants.{Unlocks}
use Rattle.entry_gains.specs.declared.deeds.Reach.{Reach}
use Rattle.entry_gains.specs.declared.slots.Meeting.TheVariants.{Creation, Freeing, Fence, Barrier}

-- one truth for each of 16 ranks: whether the group has it
abbrev pub IsGroup : List Bool → List ℕ → Type 0
IsGroup named group = (rank : ℕ) → rank < 16 → slice_index_or named rank false ≡ is_member rank group

-- the targets below 32 that a lock or an unlock is for
abbrev pub IsReach : ℕ → Option ℤ → Reach → Type 0
IsReach ranks target reach = (at : ℕ) → at < 32 → is_within reach at ≡ is_reached ranks target at

abbrev pub IsPosts : List ℕ → Deed → Type 0
IsPosts group Nothing = ⊥
IsPosts group (Meets meeting) = ⊥
IsPosts group (Posts named) = IsGroup named group
IsPosts group (Starts named) = ⊥
IsPosts group Completes = ⊥
IsPosts group Waits = ⊥
IsPosts group (Locks kind reach) = ⊥
IsPosts group (Unlocks reach) = ⊥

abbrev pub IsStarts : List ℕ → Deed → Type 0
IsStarts group Nothing = ⊥
IsStarts group (Meets meeting) = ⊥
IsStarts group (Posts named) = ⊥
IsStarts group (Starts named) = IsGroup named group
IsStarts group Completes = ⊥
IsStarts group Waits = ⊥
IsStarts group (Locks kind reach) = ⊥
IsStarts group (Unlocks reach) = ⊥

abbrev pub IsLocks : ℕ → Lock → Option ℤ → Deed → Type 0
IsLocks ranks kind target Nothing = ⊥
IsLocks ranks kind target (Meets meeting) = ⊥
IsLocks ranks kind target (Posts named) = ⊥
IsLocks ranks kind target (Starts named) = ⊥
IsLocks ranks kind target Completes = ⊥
IsLocks ranks kind target Waits = ⊥
IsLocks ranks kind target (Locks one reach) = (one ≡ kind) × IsReach ranks target reach
IsLocks ranks kind target (Unlocks reach) = ⊥

abbrev pub IsUnlocks : ℕ → Option ℤ → Deed → Type 0
IsUnlocks ranks target Nothing = ⊥
IsUnlocks ranks target (Meets meeting) = ⊥
IsUnlocks ranks target (Posts named) = ⊥
IsUnlocks ranks target (Starts named) = ⊥
IsUnlocks ranks target Completes = ⊥
IsUnlocks ranks target Waits = ⊥
IsUnlocks ranks target (Locks kind reach) = ⊥
IsUnlocks ranks target (Unlocks reach) = IsReach ranks target reach

abbrev pub IsSynchronisationDeed : ℕ → Synchronisation → Deed → Type 0
IsSynchronisationDeed ranks (Fences asserts) deed = deed ≡ Meets Fence
IsSynchronisationDeed ranks (PostsTo group asserts) deed = IsPosts (members_of group) deed
IsSynchronisationDeed ranks (StartsTo group asserts) deed = IsStarts (members_of group) deed
IsSynchronisationDeed ranks CompletesOne deed = deed ≡ Completes
IsSynchronisationDeed ranks (WaitsFor tests) deed = deed ≡ Waits
IsSynchronisationDeed ranks (LocksWith kind target asserts) deed = IsLocks ranks kind target deed
IsSynchronisationDeed ranks (UnlocksOf target) deed = IsUnlocks ranks target deed
IsSynchronisationDeed ranks (Flushes target local) deed = deed ≡ Nothing
IsSynchronisationDeed ranks Syncs deed = deed ≡ Nothing

-- what a call does, by what it is
abbrev pub IsDeed : ℕ → Action → Deed → Type 0
IsDeed ranks (Creates creation) deed = deed ≡ Meets Creation
IsDeed ranks (Frees win) deed = deed ≡ Meets Freeing
IsDeed ranks (Attaches win base bytes) deed = deed ≡ Nothing
IsDeed ranks (Detaches win base) deed = deed ≡ Nothing
IsDeed ranks (Synchronises win s) deed = IsSynchronisationDeed ranks s deed
IsDeed ranks MeetsAll deed = deed ≡ Meets Barrier
IsDeed ranks (Moves transfer) deed = deed ≡ Nothing
IsDeed ranks (EndsRequest req) deed = deed ≡ Nothing
