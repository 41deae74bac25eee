-- Posts and waits.
use Rattle.std.proofs.Common.{◌≡◌, true, Bool, refl, ℕ, List, ◌++◌, ◌∷◌, [], ◌+◌, cond, ◌∙◌, ap, zero-add}
use Rattle.list_laws.proofs.Tests.{count_append}
use Rattle.rma_types.specs.declared.actions.Synchronisation.{Synchronisation}
use Rattle.rma_types.specs.declared.actions.Synchronisation.TheVariants.{Waits, Fences, Posts, Starts, Completes, Locks}
use Rattle.rma_types.specs.declared.actions.Synchronisation.TheVariants.{Unlocks, Flushes, Syncs}
use Rattle.call_rules.specs.Ranks.{is_member}
use Rattle.board_rules.specs.Posts.{is_wait, naming}

pub may_wait : (s : Synchronisation) → is_wait s ≡ true → (tests : Bool) × (s ≡ Waits tests)
may_wait (Fences asserts) h = absurd (cc h)
may_wait (Posts group asserts) h = absurd (cc h)
may_wait (Starts group asserts) h = absurd (cc h)
may_wait Completes h = absurd (cc h)
may_wait (Waits tests) h = (tests, refl)
may_wait (Locks kind target asserts) h = absurd (cc h)
may_wait (Unlocks target) h = absurd (cc h)
may_wait (Flushes target local) h = absurd (cc h)
may_wait Syncs h = absurd (cc h)

pub naming_more : (rank : ℕ) (groups : List (List ℕ)) (group : List ℕ) →
    naming rank (groups ++ group ∷ []) ≡ naming rank groups + cond (is_member rank group) 1 0
naming_more rank groups group = count_append (is_member rank) groups (group ∷ []) ∙ ap (λ n. naming rank groups + n)
    (zero-add (cond (is_member rank group) 1 0))
