-- The ranks that an accepted synchronisation names are ranks.
use Rattle.std.proofs.Common.{◌≡◌, ℕ, ◌<◌, ◌≤◌, Bool, true, false, not, List, [], ◌∷◌, refl}
use Rattle.std.proofs.Common.{arith}
use Rattle.std.specs.Prelude.{ℤ, pos, negsuc, Option, Some, None}
use Rattle.std.specs.List.{list_all}
use Rattle.std.proofs.lemmas.Bool.{and_parts, and_from, or_parts, or_from, not-false}
use Rattle.std.proofs.lemmas.Bool.{not_from_true, ltb-true, lt-ltb}
use Rattle.rma_types.specs.declared.classes.Class.{Class}
use Rattle.rma_types.specs.declared.classes.Class.TheVariants.{Rank, Assert, Sync}
use Rattle.rma_types.specs.declared.actions.Synchronisation.{Synchronisation}
use Rattle.rma_types.specs.declared.actions.Action.TheVariants.{Synchronises}
use Rattle.rma_types.specs.declared.actions.Synchronisation.TheVariants.{Fences, Posts, Starts, Completes, Waits, Locks}
use Rattle.rma_types.specs.declared.actions.Synchronisation.TheVariants.{Unlocks, Flushes, Syncs}
use Rattle.call_rules.specs.Ranks.{is_rank}
use Rattle.rank_rules.specs.Classes.{Test, first_class}
use Rattle.rank_rules.specs.Epochs.{Epochs, epochs_at, may_synchronise}
use Rattle.rank_rules.specs.EpochTests.{is_wrong_rank, is_wrong_group, names_wrong_rank, has_wrong_assert}
use Rattle.rank_epochs.specs.Accepted.{IsAccepted}

-- where no class is given, the first test does not apply
first_class-None : (applies : Bool) (class : Class) (rest : List Test) → first_class ((applies, class) ∷ rest) ≡ None
    → applies ≡ false
first_class-None true class rest h = absurd cc
first_class-None false class rest h = refl

-- a rank of a run of fewer ranks is one of a run of 16
is_rank-16 : (ranks : ℕ) (z : ℤ) → ranks ≤ 16 → is_rank ranks z ≡ true → is_rank 16 z ≡ true
is_rank-16 ranks (pos n) few h =
    let low : n < ranks = ltb-true n ranks h in
    lt-ltb n 16 (omega arith)
is_rank-16 ranks (negsuc n) few h = h

list_all-is_rank : (ranks : ℕ) (group : List ℤ) → ranks ≤ 16 → list_all (is_rank ranks) group ≡ true
    → list_all (is_rank 16) group ≡ true
list_all-is_rank ranks [] few h = refl
list_all-is_rank ranks (z ∷ zs) few h =
    let parts = and_parts _ _ h in
    and_from _ _ (is_rank-16 ranks z few parts.0) (list_all-is_rank ranks zs few parts.1)

is_wrong_rank-16 : (ranks : ℕ) (target : Option ℤ) → ranks ≤ 16 → is_wrong_rank ranks target ≡ false
    → is_wrong_rank 16 target ≡ false
is_wrong_rank-16 ranks None few h = refl
is_wrong_rank-16 ranks (Some z) few h = not_from_true _ (is_rank-16 ranks z few (not-false _ h))

-- the members of a group that is not wrong are ranks
pub are_ranks : (ranks : ℕ) (group : List ℤ) → is_wrong_group ranks group ≡ false → list_all (is_rank ranks) group ≡ true
are_ranks ranks group h = not-false _ (or_parts _ _ h).0

is_wrong_group-16 : (ranks : ℕ) (group : List ℤ) → ranks ≤ 16 → is_wrong_group ranks group ≡ false
    → is_wrong_group 16 group ≡ false
is_wrong_group-16 ranks group few h =
    or_from _ _ (not_from_true _ (list_all-is_rank ranks group few (are_ranks ranks group h))) (or_parts _ _ h).1

names_wrong_rank-16 : (ranks : ℕ) (s : Synchronisation) → ranks ≤ 16 → names_wrong_rank ranks s ≡ false
    → names_wrong_rank 16 s ≡ false
names_wrong_rank-16 ranks (Fences asserts) few h = refl
names_wrong_rank-16 ranks (Posts group asserts) few h = is_wrong_group-16 ranks group few h
names_wrong_rank-16 ranks (Starts group asserts) few h = is_wrong_group-16 ranks group few h
names_wrong_rank-16 ranks Completes few h = refl
names_wrong_rank-16 ranks (Waits tests) few h = refl
names_wrong_rank-16 ranks (Locks kind target asserts) few h = is_wrong_rank-16 ranks target few h
names_wrong_rank-16 ranks (Unlocks target) few h = is_wrong_rank-16 ranks target few h
names_wrong_rank-16 ranks (Flushes target local) few h = is_wrong_rank-16 ranks target few h
names_wrong_rank-16 ranks Syncs few h = refl

-- an accepted synchronisation names no wrong rank
pub ranks_of_accepted : (epochs : List Epochs) (win : ℕ) (s : Synchronisation)
    → IsAccepted epochs (Synchronises win s) → names_wrong_rank 16 s ≡ false
ranks_of_accepted epochs win s accepted =
    let here = epochs_at epochs win in
    let right = first_class-None (names_wrong_rank accepted.ranks s) Rank
    ((has_wrong_assert here s, Assert) ∷ (not (may_synchronise here s), Sync) ∷ [])
    accepted.passes in
    names_wrong_rank-16 accepted.ranks s accepted.few right
