-- What an entry leaves of the locks and of the attached ranges of its window.
use Rattle.std.proofs.Common.{◌≡◌, ◌≢◌, ℕ, ℤ, ◌+◌, ◌≤◌, Bool, true, false, cond, List, [], ◌∷◌, ◌++◌, ap, sym, ◌∙◌}
use Rattle.std.proofs.Common.{subst, Option, Some, None, is_some, eqb, ⊎_elim}
use Rattle.std.specs.Prelude.{slice_get}
use Rattle.std.specs.List.{AllByRecursion, filter}
use Rattle.std.specs.Option.{MatchOption, option_map_or}
use Rattle.std.proofs.lemmas.Bool.{and_right, cases_eq}
use Rattle.rma_types.specs.declared.accesses.Step.{Step}
use Rattle.rma_types.specs.declared.calls.Call.{Call}
use Rattle.rma_types.specs.declared.calls.Lock.{Lock}
use Rattle.rma_types.specs.declared.scripts.Layout.{Layout}
use Rattle.rma_types.specs.declared.scripts.Part.{Part}
use Rattle.rma_types.specs.declared.actions.Action.{Action}
use Rattle.rma_types.specs.Actions.{action_of, creation_in, creation_of, synchronisation_in}
use Rattle.rank_rules.specs.Ranges.{Range}
use Rattle.board_rules.specs.Entries.{Act, begins_window, is_arrive}
use Rattle.board_rules.specs.Locks.{lock_of, unlock_of}
use Rattle.board_rules.specs.Questions.{Question}
use Rattle.rma_types.specs.KeptCalls.{kept_call}
use Rattle.kept_rows.proofs.KeptActs.{creation_kept, synchronisation_kept}
use Rattle.lock_table.specs.HeldLocks.{WindowLocks}
use Rattle.sync_board.specs.Boards.{bytes_at}
use Rattle.sync_board.specs.HeldHere.{KeepsHeld, KeepsRegions}
use Rattle.sync_board.specs.KeptLocks.{lock_in, unlock_in}
use Rattle.sync_board.specs.KeptParts.{KeepsParts}
use Rattle.sync_board.specs.Sides.{Done}
use Rattle.sync_board.specs.Tables.{IsSameFor}
use Rattle.sync_board.specs.Windows.{AttachedInside, entered, entries_after}
use Rattle.sync_board.specs.declared.regions.Regions.{Regions}
use Rattle.sync_board.proofs.LockSteps.{held_elsewhere, held_with_other}
use Rattle.sync_board.proofs.PartsKept.{parts_keep}
use Rattle.sync_board.proofs.LocksKept.{keeps_elsewhere, keeps_with_other}

-- the lock that an action asks for, and the one that it gives back
abbrev pub lock_by : Action → Option (Lock × Option ℤ)
lock_by action = option_map_or lock_of (synchronisation_in action) None

abbrev pub unlock_by : Action → Option (Option ℤ)
unlock_by action = option_map_or unlock_of (synchronisation_in action) None

pub lock_kept : (call : Call) → lock_in (kept_call call) ≡ lock_in call
lock_kept call = ap (λ o. option_map_or lock_of o None) (synchronisation_kept call)

pub unlock_kept : (call : Call) → unlock_in (kept_call call) ≡ unlock_in call
unlock_kept call = ap (λ o. option_map_or unlock_of o None) (synchronisation_kept call)

pub lock_is : (call : Call) (action : Action) → action_of call ≡ action → lock_in (kept_call call) ≡ lock_by action
lock_is call action is = lock_kept call ∙ ap lock_by is

pub unlock_is : (call : Call) (action : Action) → action_of call ≡ action →
    unlock_in (kept_call call) ≡ unlock_by action
unlock_is call action is = unlock_kept call ∙ ap unlock_by is

at_weaker : {X : Type 0} (o : Option X) {P P' : Type 0} {Q Q' : X → Type 0} → (P → P') → ((x : X) → Q x → Q' x) →
    MatchOption o P Q → MatchOption o P' Q'
at_weaker None absent kind found = absent found
at_weaker (Some x) absent kind found = kind x found

pub held_by_asking : (q : Question) (number : ℕ) (step : Step) (table : Option WindowLocks) →
    lock_in (kept_call q.call) ≡ None → unlock_in (kept_call q.call) ≡ None →
    KeepsHeld q.ranks q.window q.entries table → KeepsHeld q.ranks q.window (entries_after q number step) table
held_by_asking q number step table asks gives kept =
    at_weaker table
    (λ none. held_with_other q.ranks q.window q.entries (entered q number step) asks gives ∙ none)
    (λ locks. keeps_with_other q.ranks q.window q.entries (entered q number step) locks asks gives)
    kept

pub held_unless : (q : Question) (number : ℕ) (step : Step) (table : Option WindowLocks) (action : Action) →
    action_of q.call ≡ action → lock_by action ≡ None → unlock_by action ≡ None →
    KeepsHeld q.ranks q.window q.entries table → KeepsHeld q.ranks q.window (entries_after q number step) table
held_unless q number step table action is a b kept =
    held_by_asking q number step table (lock_is q.call action is ∙ a) (unlock_is q.call action is ∙ b) kept

pub held_on_others : (ranks window : ℕ) (entries : List Act) (act : Act) (table : Option WindowLocks) →
    act.window ≢ window →
    KeepsHeld ranks window entries table → KeepsHeld ranks window (entries ++ act ∷ []) table
held_on_others ranks window entries act table apart kept =
    at_weaker table
    (λ none. held_elsewhere ranks window entries act apart ∙ none)
    (λ locks. keeps_elsewhere ranks window entries act locks apart)
    kept

-- ---- ranges

pub regions_each : (before after : ℕ → Done) (regions : List Regions) →
    ((rank : ℕ) → (after rank).ranges ≡ (before rank).ranges) → KeepsRegions before regions → KeepsRegions after regions
regions_each before after regions same kept rank =
    at_weaker (slice_get regions rank) (λ none. same rank ∙ none) (λ one has. rw (same rank) has) (kept rank)

pub inside_each : (layout : Layout) (before after : ℕ → Done) →
    ((rank : ℕ) → (after rank).ranges ≡ (before rank).ranges) → AttachedInside layout before →
    AttachedInside layout after
inside_each layout before after same kept rank = rw (same rank) (kept rank)

pub ranges_by : (rank : ℕ) (before after : ℕ → Done) (new : Done) → IsSameFor rank before after → after rank ≡ new →
    new.ranges ≡ (before rank).ranges →
    (other : ℕ) → (after other).ranges ≡ (before other).ranges
ranges_by rank before after new same is here other = ⊎_elim
    (λ e. subst (λ k. (after k).ranges ≡ (before k).ranges) (sym e) (ap (λ (d : Done). d.ranges) is ∙ here))
    (λ apart. ap (λ (d : Done). d.ranges) (same other apart))
    (cases_eq other rank)

-- the ranges of one rank are others now
pub inside_by : (layout : Layout) (rank : ℕ) (before after : ℕ → Done) → IsSameFor rank before after →
    AllByRecursion (λ (range : Range). range.base + range.bytes ≤ bytes_at layout rank) (after rank).ranges →
    AttachedInside layout before → AttachedInside layout after
inside_by layout rank before after same here kept other = ⊎_elim
    (λ e. subst (λ k. AllByRecursion (λ (range : Range). range.base + range.bytes ≤ bytes_at layout k) (after k).ranges)
    (sym e) here)
    (λ apart. rw (same other apart) (kept other))
    (cases_eq other rank)

pub all_more : (P : Range → Type 0) (ranges : List Range) (range : Range) → AllByRecursion P ranges → P range →
    AllByRecursion P (ranges ++ range ∷ [])
all_more P [] range all here = (here, tt)
all_more P (one ∷ ranges) range all here = (all.0, all_more P ranges range all.1 here)

split : (P : Range → Type 0) (one : Range) (ranges : List Range) (b : Bool) → P one → AllByRecursion P ranges →
    AllByRecursion P (cond b (one ∷ ranges) ranges)
split P one ranges true here all = (here, all)
split P one ranges false here all = all

pub all_kept : (P : Range → Type 0) (test : Range → Bool) (ranges : List Range) → AllByRecursion P ranges →
    AllByRecursion P (filter test ranges)
all_kept P test [] all = tt
all_kept P test (one ∷ ranges) all = split P one (filter test ranges) (test one) all.0 (all_kept P test ranges all.1)

-- ---- parts

pub begins_not : (q : Question) (number : ℕ) (step : Step) (action : Action) → action_of q.call ≡ action →
    creation_in action ≡ None → begins_window (entered q number step).row ≡ false
begins_not q number step action is none =
    and_right (is_arrive step) (is_some (creation_of (kept_call q.call)))
    (ap is_some (creation_kept q.call ∙ (ap creation_in is ∙ none)))

pub parts_unless : (layout : Layout) (q : Question) (number : ℕ) (step : Step) (parts : List (Option Part))
    (action : Action) → action_of q.call ≡ action → creation_in action ≡ None →
    KeepsParts layout q.window q.entries parts → KeepsParts layout q.window (entries_after q number step) parts
parts_unless layout q number step parts action is none kept =
    parts_keep layout q.window q.entries (entered q number step) parts
    (and_right (eqb q.window q.window) (begins_window (entered q number step).row)
    (begins_not q number step action is none)) kept
