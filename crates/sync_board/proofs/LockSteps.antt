-- What an entry adds to the locks that are held on a window, and takes from them.
use Rattle.std.proofs.Common.{◌≡◌, ◌≢◌, ℕ, Bool, true, false, not, ◌&&◌, eqb, List, [], ◌∷◌, ◌++◌, refl, ap, sym, ◌∙◌}
use Rattle.std.proofs.Common.{append-nil, Option, Some, None, ℤ}
use Rattle.std.specs.Option.{option_map_or}
use Rattle.std.proofs.lemmas.Bool.{eq-eqb, eqb-true, ne_eqb}
use Rattle.std.proofs.lemmas.List.Elements.{filter-append}
use Rattle.rma_types.specs.declared.calls.Lock.{Lock}
use Rattle.rma_types.specs.declared.actions.Synchronisation.{Synchronisation}
use Rattle.rma_types.specs.declared.actions.Synchronisation.TheVariants.{Fences, Posts, Starts, Completes, Waits}
use Rattle.rma_types.specs.declared.actions.Synchronisation.TheVariants.{Locks as LocksWith, Unlocks, Flushes, Syncs}
use Rattle.rma_types.specs.Actions.{synchronisation_of}
use Rattle.board_rules.specs.Entries.{Act}
use Rattle.board_rules.specs.Locks.{Held, held_after, held_locks, is_given_back, lock_of, locks_at}
use Rattle.board_rules.specs.Locks.{targets_of, unlock_of}
use Rattle.board_rules.proofs.LockLaws.{held_more}
use Rattle.lock_table.specs.HeldLocks.{lock}
use Rattle.sync_board.specs.KeptLocks.{held_on, left_by, lock_in, on_window, unlock_in}
use Rattle.sync_board.proofs.AnyOf.{filter_keeps, filter_swap}

-- ---- one synchronisation

locks_by : (ranks rank window : ℕ) (held : List Held) (o : Option Synchronisation) (kind : Lock) (target : Option ℤ) →
    option_map_or lock_of o None ≡ Some (kind, target) →
    option_map_or (held_after ranks rank window held) o held ≡ held ++ locks_at rank window kind
    (targets_of ranks target)
locks_by ranks rank window held None kind target e = cc
locks_by ranks rank window held (Some (Fences asserts)) kind target e = cc
locks_by ranks rank window held (Some (Posts group asserts)) kind target e = cc
locks_by ranks rank window held (Some (Starts group asserts)) kind target e = cc
locks_by ranks rank window held (Some Completes) kind target e = cc
locks_by ranks rank window held (Some (Waits tests)) kind target e = cc
locks_by ranks rank window held (Some (LocksWith other at asserts)) kind target e =
    ap (λ o. held ++ option_map_or (λ (asked : Lock × Option ℤ). locks_at rank window asked.0
    (targets_of ranks asked.1)) o []) e
locks_by ranks rank window held (Some (Unlocks at)) kind target e = cc
locks_by ranks rank window held (Some (Flushes at local)) kind target e = cc
locks_by ranks rank window held (Some Syncs) kind target e = cc

unlocks_by : (ranks rank window : ℕ) (held : List Held) (o : Option Synchronisation) (target : Option ℤ) →
    option_map_or unlock_of o None ≡ Some target →
    option_map_or (held_after ranks rank window held) o held ≡ left_by rank window target held
unlocks_by ranks rank window held None target e = cc
unlocks_by ranks rank window held (Some (Fences asserts)) target e = cc
unlocks_by ranks rank window held (Some (Posts group asserts)) target e = cc
unlocks_by ranks rank window held (Some (Starts group asserts)) target e = cc
unlocks_by ranks rank window held (Some Completes) target e = cc
unlocks_by ranks rank window held (Some (Waits tests)) target e = cc
unlocks_by ranks rank window held (Some (LocksWith other at asserts)) target e = cc
unlocks_by ranks rank window held (Some (Unlocks at)) target e = ap
    (λ o. option_map_or (λ t. left_by rank window t held) o []) e
unlocks_by ranks rank window held (Some (Flushes at local)) target e = cc
unlocks_by ranks rank window held (Some Syncs) target e = cc

others_by : (ranks rank window : ℕ) (held : List Held) (o : Option Synchronisation) →
    option_map_or lock_of o None ≡ None → option_map_or unlock_of o None ≡ None →
    option_map_or (held_after ranks rank window held) o held ≡ held
others_by ranks rank window held None e f = refl
others_by ranks rank window held (Some (Fences asserts)) e f = refl
others_by ranks rank window held (Some (Posts group asserts)) e f = refl
others_by ranks rank window held (Some (Starts group asserts)) e f = refl
others_by ranks rank window held (Some Completes) e f = refl
others_by ranks rank window held (Some (Waits tests)) e f = refl
others_by ranks rank window held (Some (LocksWith other at asserts)) e f = cc
others_by ranks rank window held (Some (Unlocks at)) e f = cc
others_by ranks rank window held (Some (Flushes at local)) e f = refl
others_by ranks rank window held (Some Syncs) e f = refl

-- ---- the locks on a window

here : (rank window : ℕ) (kind : Lock) (targets : List ℕ) → on_window window (locks_at rank window kind targets) ≡
    locks_at rank window kind targets
here rank window kind [] = refl
here rank window kind (target ∷ targets) = rw (eq-eqb window window refl)
    (ap (λ xs. lock window target kind rank ∷ xs) (here rank window kind targets))

elsewhere : (rank other window : ℕ) (kind : Lock) (targets : List ℕ) → other ≢ window →
    on_window window (locks_at rank other kind targets) ≡ []
elsewhere rank other window kind [] ne = refl
elsewhere rank other window kind (target ∷ targets) ne = rw (ne_eqb other window ne)
    (elsewhere rank other window kind targets ne)

not_given_back : (rank other window : ℕ) (target : Option ℤ) (one : Held) → other ≢ window →
    eqb one.window window ≡ true →
    not (is_given_back rank other target one) ≡ true
not_given_back rank other window target one ne on =
    let away : eqb one.window other ≡ false = ne_eqb one.window other (λ e. ne (sym e ∙ eqb-true one.window window on))
    in
    rw away (gone (eqb one.holder rank) _)
  where
    gone : (a c : Bool) → not ((a && false) && c) ≡ true
    gone true c = refl
    gone false c = refl

-- the locks after an entry of another window
after_elsewhere : (ranks rank other window : ℕ) (held : List Held) (o : Option Synchronisation) → other ≢ window →
    on_window window (option_map_or (held_after ranks rank other held) o held) ≡ on_window window held
after_elsewhere ranks rank other window held None ne = refl
after_elsewhere ranks rank other window held (Some (Fences asserts)) ne = refl
after_elsewhere ranks rank other window held (Some (Posts group asserts)) ne = refl
after_elsewhere ranks rank other window held (Some (Starts group asserts)) ne = refl
after_elsewhere ranks rank other window held (Some Completes) ne = refl
after_elsewhere ranks rank other window held (Some (Waits tests)) ne = refl
after_elsewhere ranks rank other window held (Some (LocksWith kind target asserts)) ne =
    filter-append (λ (one : Held). eqb one.window window) held (locks_at rank other kind (targets_of ranks target))
    ∙ rw (elsewhere rank other window kind (targets_of ranks target) ne) (append-nil (on_window window held))
after_elsewhere ranks rank other window held (Some (Unlocks target)) ne =
    filter_keeps (λ (one : Held). eqb one.window window) (λ (one : Held). not (is_given_back rank other target one))
    (λ one on. not_given_back rank other window target one ne on) held
after_elsewhere ranks rank other window held (Some (Flushes target local)) ne = refl
after_elsewhere ranks rank other window held (Some Syncs) ne = refl

-- ---- one entry more

pub held_with_lock : (ranks : ℕ) (entries : List Act) (act : Act) (kind : Lock) (target : Option ℤ) →
    lock_in act.row.call ≡ Some (kind, target) →
    held_on ranks act.window (entries ++ act ∷ []) ≡ held_on ranks act.window entries ++ locks_at act.row.rank
    act.window kind (targets_of ranks target)
held_with_lock ranks entries act kind target e =
    let held = held_locks ranks entries in
    let new = locks_at act.row.rank act.window kind (targets_of ranks target) in
    ap (on_window act.window) (held_more ranks entries act ∙ locks_by ranks act.row.rank act.window held
    (synchronisation_of act.row.call) kind target e)
    ∙ (filter-append (λ (one : Held). eqb one.window act.window) held new
    ∙ ap (λ xs. on_window act.window held ++ xs) (here act.row.rank act.window kind (targets_of ranks target)))

pub held_with_unlock : (ranks : ℕ) (entries : List Act) (act : Act) (target : Option ℤ) →
    unlock_in act.row.call ≡ Some target →
    held_on ranks act.window (entries ++ act ∷ []) ≡ left_by act.row.rank act.window target
    (held_on ranks act.window entries)
held_with_unlock ranks entries act target e =
    let held = held_locks ranks entries in
    ap (on_window act.window) (held_more ranks entries act ∙ unlocks_by ranks act.row.rank act.window held
    (synchronisation_of act.row.call) target e)
    ∙ filter_swap (λ (one : Held). eqb one.window act.window)
    (λ (one : Held). not (is_given_back act.row.rank act.window target one)) held

-- an entry that takes no lock and gives none back
pub held_with_other : (ranks window : ℕ) (entries : List Act) (act : Act) → lock_in act.row.call ≡ None →
    unlock_in act.row.call ≡ None →
    held_on ranks window (entries ++ act ∷ []) ≡ held_on ranks window entries
held_with_other ranks window entries act e f =
    ap (on_window window) (held_more ranks entries act
    ∙ others_by ranks act.row.rank act.window (held_locks ranks entries)
    (synchronisation_of act.row.call) e f)

-- an entry on another window
pub held_elsewhere : (ranks window : ℕ) (entries : List Act) (act : Act) → act.window ≢ window →
    held_on ranks window (entries ++ act ∷ []) ≡ held_on ranks window entries
held_elsewhere ranks window entries act ne =
    ap (on_window window) (held_more ranks entries act)
    ∙ after_elsewhere ranks act.row.rank act.window window (held_locks ranks entries) (synchronisation_of act.row.call)
    ne
