-- What a deed of a kind is.
use Rattle.std.proofs.Common.{◌≡◌, ℕ, Bool, List, Option, ℤ}
use Rattle.rma_types.specs.declared.calls.Lock.{Lock}
use Rattle.entry_gains.specs.Deeds.{IsGroup, IsLocks, IsPosts, IsReach, IsStarts, IsUnlocks}
use Rattle.entry_gains.specs.declared.deeds.Deed.{Deed}
use Rattle.entry_gains.specs.declared.deeds.Deed.TheVariants.{Posts, Starts, Locks, Unlocks}
use Rattle.entry_gains.specs.declared.deeds.Reach.{Reach}

pub posts_case : (P : Deed → Type 0) (group : List ℕ) (deed : Deed) →
    ((named : List Bool) → IsGroup named group → P (Posts named)) → IsPosts group deed → P deed
posts_case P group (Posts named) case is = case named is
posts_case P group deed case is = absurd is

pub starts_case : (P : Deed → Type 0) (group : List ℕ) (deed : Deed) →
    ((named : List Bool) → IsGroup named group → P (Starts named)) → IsStarts group deed → P deed
starts_case P group (Starts named) case is = case named is
starts_case P group deed case is = absurd is

pub locks_case : (P : Deed → Type 0) (ranks : ℕ) (kind : Lock) (target : Option ℤ) (deed : Deed) →
    ((one : Lock) (reach : Reach) → one ≡ kind → IsReach ranks target reach → P (Locks one reach)) →
    IsLocks ranks kind target deed → P deed
locks_case P ranks kind target (Locks one reach) case is = case one reach is.0 is.1
locks_case P ranks kind target deed case is = absurd is

pub unlocks_case : (P : Deed → Type 0) (ranks : ℕ) (target : Option ℤ) (deed : Deed) →
    ((reach : Reach) → IsReach ranks target reach → P (Unlocks reach)) → IsUnlocks ranks target deed → P deed
unlocks_case P ranks target (Unlocks reach) case is = case reach is
unlocks_case P ranks target deed case is = absurd is
