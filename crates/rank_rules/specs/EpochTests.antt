-- The class that a rank gives a call by its arguments and its epochs: MPI 3.1, sections 5.9.2, 11.3, 11.5 and 11.6, in
-- this project's order.
use Rattle.std.specs.Prelude.{ℕ, Bool, false, not, ◌&&◌, ◌||◌, List, [], ◌∷◌, Option, Some, None, ℤ, pos, int_lt}
use Rattle.std.specs.List.{list_all}
use Rattle.rma_types.specs.declared.accesses.Kind.{Kind}
use Rattle.rma_types.specs.declared.accesses.Kind.TheVariants.{Get, Put, Acc, Cas, Load, Store}
use Rattle.rma_types.specs.declared.calls.Asserts.{Asserts}
use Rattle.rma_types.specs.declared.classes.Class.{Class}
use Rattle.rma_types.specs.declared.classes.Class.TheVariants.{Count, Op, Rank, Assert, Sync}
use Rattle.rma_types.specs.Datatypes.{is_allowed}
use Rattle.rma_types.specs.declared.actions.Action.{Action}
use Rattle.rma_types.specs.declared.actions.Action.TheVariants.{Creates, Frees, Attaches, Detaches, Synchronises, Meets}
use Rattle.rma_types.specs.declared.actions.Action.TheVariants.{Moves, EndsRequest}
use Rattle.rma_types.specs.declared.actions.Synchronisation.{Synchronisation}
use Rattle.rma_types.specs.declared.actions.Synchronisation.TheVariants.{Fences, Posts, Starts, Completes, Waits, Locks}
use Rattle.rma_types.specs.declared.actions.Synchronisation.TheVariants.{Unlocks, Flushes, Syncs}
use Rattle.rma_types.specs.declared.actions.Target.{Target}
use Rattle.rma_types.specs.declared.actions.Target.TheVariants.{Own, Null, Named}
use Rattle.call_rules.specs.Ranks.{is_rank, names_twice}
use Rattle.rank_rules.specs.Classes.{Test, first_class}
use Rattle.rank_rules.specs.Epochs.{Epochs, epochs_at, is_fence_used, may_synchronise, may_free, may_move}

-- the operation of an accumulate is not allowed on its datatype
abbrev pub has_wrong_operation : Kind → Bool → Bool
has_wrong_operation Get fetches = false
has_wrong_operation Put fetches = false
has_wrong_operation (Acc op dtype) fetches = not (is_allowed op dtype fetches)
has_wrong_operation (Cas dtype) fetches = false
has_wrong_operation Load fetches = false
has_wrong_operation Store fetches = false

abbrev pub is_wrong_target : ℕ → Target → Bool
is_wrong_target ranks Own = false
is_wrong_target ranks Null = false
is_wrong_target ranks (Named rank) = not (is_rank ranks rank)

abbrev pub is_wrong_rank : ℕ → Option ℤ → Bool
is_wrong_rank ranks None = false
is_wrong_rank ranks (Some rank) = not (is_rank ranks rank)

-- a member of a group is no rank, or stands there twice
abbrev pub is_wrong_group : ℕ → List ℤ → Bool
is_wrong_group ranks group = not (list_all (is_rank ranks) group) || names_twice group

abbrev pub names_wrong_rank : ℕ → Synchronisation → Bool
names_wrong_rank ranks (Fences asserts) = false
names_wrong_rank ranks (Posts group asserts) = is_wrong_group ranks group
names_wrong_rank ranks (Starts group asserts) = is_wrong_group ranks group
names_wrong_rank ranks Completes = false
names_wrong_rank ranks (Waits tests) = false
names_wrong_rank ranks (Locks kind target asserts) = is_wrong_rank ranks target
names_wrong_rank ranks (Unlocks target) = is_wrong_rank ranks target
names_wrong_rank ranks (Flushes target local) = is_wrong_rank ranks target
names_wrong_rank ranks Syncs = false

-- an assertion other than nocheck, which alone is for a start, a lock and a lock_all
abbrev pub has_more_than_nocheck : Asserts → Bool
has_more_than_nocheck a = a.nostore || a.noput || a.noprecede || a.nosucceed

-- The call has an assertion that is not for it, or says that its fence epoch had no RMA call where it had one (11.5.5).
abbrev pub has_wrong_assert : Epochs → Synchronisation → Bool
has_wrong_assert epochs (Fences asserts) = asserts.nocheck || (asserts.noprecede && is_fence_used epochs.access)
has_wrong_assert epochs (Posts group asserts) = asserts.noprecede || asserts.nosucceed
has_wrong_assert epochs (Starts group asserts) = has_more_than_nocheck asserts
has_wrong_assert epochs Completes = false
has_wrong_assert epochs (Waits tests) = false
has_wrong_assert epochs (Locks kind target asserts) = has_more_than_nocheck asserts
has_wrong_assert epochs (Unlocks target) = false
has_wrong_assert epochs (Flushes target local) = false
has_wrong_assert epochs Syncs = false

-- the tests of a call, each with its class
abbrev pub epoch_tests : ℕ → List Epochs → Action → List Test
epoch_tests ranks epochs (Creates creation) = []
epoch_tests ranks epochs (Frees win) = (not (may_free (epochs_at epochs win)), Sync) ∷ []
epoch_tests ranks epochs (Attaches win base bytes) = []
epoch_tests ranks epochs (Detaches win base) = []
epoch_tests ranks epochs (Synchronises win s) =
    (names_wrong_rank ranks s, Rank)
    ∷ (has_wrong_assert (epochs_at epochs win) s, Assert)
    ∷ (not (may_synchronise (epochs_at epochs win) s), Sync)
    ∷ []
epoch_tests ranks epochs Meets = []
epoch_tests ranks epochs (Moves t) =
    (int_lt t.count (pos 0), Count)
    ∷ (has_wrong_operation t.kind t.fetches, Op)
    ∷ (is_wrong_target ranks t.target, Rank)
    ∷ (not (may_move (epochs_at epochs t.win).access t), Sync)
    ∷ []
epoch_tests ranks epochs (EndsRequest req) = []

-- the first class by which the rank refuses the call for its arguments and its epochs, or none
abbrev pub epoch_class : ℕ → List Epochs → Action → Option Class
epoch_class ranks epochs action = first_class (epoch_tests ranks epochs action)
