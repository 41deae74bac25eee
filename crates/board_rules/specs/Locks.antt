-- The locks that are held: MPI 3.1, section 11.5.3.
use Rattle.std.specs.Prelude.{ℕ, Bool, true, false, not, ◌&&◌, ◌||◌, ◌==◌, List, [], ◌∷◌, ◌++◌, map, Option, Some, None}
use Rattle.std.specs.Prelude.{ℤ}
use Rattle.std.specs.List.{filter, fold, list_any}
use Rattle.std.specs.Option.{option_map_or}
use Rattle.rma_types.specs.declared.calls.Lock.{Lock}
use Rattle.rma_types.specs.declared.calls.Lock.TheVariants.{Shared, Exclusive}
use Rattle.rma_types.specs.declared.actions.Synchronisation.{Synchronisation}
use Rattle.rma_types.specs.declared.actions.Synchronisation.TheVariants.{Fences, Posts, Starts, Completes, Waits}
use Rattle.rma_types.specs.declared.actions.Synchronisation.TheVariants.{Locks as LocksWith, Unlocks, Flushes, Syncs}
use Rattle.rma_types.specs.Actions.{synchronisation_of}
use Rattle.call_rules.specs.Pieces.{numbers_from}
use Rattle.call_rules.specs.Ranks.{natural}
use Rattle.board_rules.specs.Entries.{Act}
use Rattle.board_rules.specs.Questions.{Question}

-- a held lock: its holder, its window, its target and its kind
pub record Held : Type 0 where
  pub holder : ℕ
  pub window : ℕ
  pub target : ℕ
  pub kind : Lock

abbrev pub is_exclusive : Lock → Bool
is_exclusive Shared = false
is_exclusive Exclusive = true

-- two locks exclude each other where at least one is exclusive
abbrev pub excludes : Lock → Lock → Bool
excludes a b = is_exclusive a || is_exclusive b

-- the ranks that a lock or an unlock is for: the one that it names, or all
abbrev pub targets_of : ℕ → Option ℤ → List ℕ
targets_of ranks None = numbers_from 0 ranks
targets_of ranks (Some target) = natural target ∷ []

-- the locks that a holder takes on a window, at the targets
abbrev pub locks_at : ℕ → ℕ → Lock → List ℕ → List Held
locks_at holder window kind targets =
    map (λ target. record { holder = holder; window = window; target = target; kind = kind }) targets

-- the lock is the holder's on the window, at one of the ranks that an unlock is for
abbrev pub is_given_back : ℕ → ℕ → Option ℤ → Held → Bool
is_given_back holder window target one = one.holder == holder && one.window == window && is_at target
  where
    is_at : Option ℤ → Bool
    is_at None = true
    is_at (Some rank) = one.target == natural rank

-- the lock that a lock or a lock_all asks for: its kind, and its target, or all ranks
abbrev pub lock_of : Synchronisation → Option (Lock × Option ℤ)
lock_of (Fences asserts) = None
lock_of (Posts group asserts) = None
lock_of (Starts group asserts) = None
lock_of Completes = None
lock_of (Waits tests) = None
lock_of (LocksWith kind target asserts) = Some (kind, target)
lock_of (Unlocks target) = None
lock_of (Flushes target local) = None
lock_of Syncs = None

-- the target of an unlock, or all ranks
abbrev pub unlock_of : Synchronisation → Option (Option ℤ)
unlock_of (Fences asserts) = None
unlock_of (Posts group asserts) = None
unlock_of (Starts group asserts) = None
unlock_of Completes = None
unlock_of (Waits tests) = None
unlock_of (LocksWith kind target asserts) = None
unlock_of (Unlocks target) = Some target
unlock_of (Flushes target local) = None
unlock_of Syncs = None

-- the held locks after one more synchronisation of a rank on a window
abbrev pub held_after : ℕ → ℕ → ℕ → List Held → Synchronisation → List Held
held_after ranks rank window held (Fences asserts) = held
held_after ranks rank window held (Posts group asserts) = held
held_after ranks rank window held (Starts group asserts) = held
held_after ranks rank window held Completes = held
held_after ranks rank window held (Waits tests) = held
held_after ranks rank window held (LocksWith kind target asserts) = held ++ locks_at rank window kind
    (targets_of ranks target)
held_after ranks rank window held (Unlocks target) =
    filter (λ (one : Held). not (is_given_back rank window target one)) held
held_after ranks rank window held (Flushes target local) = held
held_after ranks rank window held Syncs = held

abbrev pub held_after_entry : ℕ → List Held → Act → List Held
held_after_entry ranks held act =
    option_map_or (held_after ranks act.row.rank act.window held) (synchronisation_of act.row.call) held

-- the locks that are held after the entries, in the order in which they were granted
abbrev pub held_locks : ℕ → List Act → List Held
held_locks ranks entries = fold (held_after_entry ranks) [] entries

-- the locks that are held on the window of the question
abbrev pub held_here : Question → List Held
held_here q = filter (λ (one : Held). one.window == q.window) (held_locks q.ranks q.entries)

-- the two locks are on one window and target, and exclude each other
abbrev pub do_clash : Held → Held → Bool
do_clash a b = a.window == b.window && a.target == b.target && excludes a.kind b.kind

-- the locks that a lock or a lock_all asks for
abbrev pub locks_asked : Question → Lock → Option ℤ → List Held
locks_asked q kind target = locks_at q.rank q.window kind (targets_of q.ranks target)

-- no held lock excludes one of those that are asked for
abbrev pub are_free : Question → List Held → Bool
are_free q asked = not (list_any (λ one. list_any (do_clash one) (held_here q)) asked)

-- a lock is held at the rank, on the window of the question
abbrev pub is_locked : Question → ℕ → Bool
is_locked q rank = list_any (λ (one : Held). one.target == rank) (held_here q)
