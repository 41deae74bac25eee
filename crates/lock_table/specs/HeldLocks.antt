-- The held locks of one window, as a table keeps them: MPI 3.1, section 11.5.3.
use Rattle.std.specs.Prelude.{◌≡◌, ℕ, ◌+◌, Bool, false, ◌&&◌, ◌==◌, List, [], ◌∷◌, ◌++◌, map, pos, not, Some}
use Rattle.std.specs.List.{filter, list_any}
use Rattle.std.specs.Int.{bit_at}
use Rattle.rma_types.specs.declared.calls.Lock.{Lock}
use Rattle.rma_types.specs.declared.calls.Lock.TheVariants.{Shared as SharedLock, Exclusive as ExclusiveLock}
use Rattle.call_rules.specs.Pieces.{numbers_from}
use Rattle.board_rules.specs.Locks.{Held, do_clash, is_given_back}
use Rattle.lock_table.specs.declared.targets.Target.{Target}
use Rattle.lock_table.specs.declared.targets.Target.TheVariants.{Shared, Exclusive}

-- the number of the window, and the locks that are held on it, by target and then by holder
pub record WindowLocks : Type 0 where
  pub window : ℕ
  pub held : List Held

-- a lock on a window
abbrev pub lock : ℕ → ℕ → Lock → ℕ → Held
lock window target kind holder = record { holder = holder; window = window; target = target; kind = kind }

-- a rank holds the lock
abbrev pub is_holder : ℕ → Held → Bool
is_holder rank one = one.holder == rank

-- a rank holds the lock, at the target
abbrev pub is_held_by : ℕ → ℕ → Held → Bool
is_held_by rank target one = one.holder == rank && one.target == target

-- the two lists have the same locks: no test tells them apart
abbrev pub HasSameLocks : List Held → List Held → Type 0
HasSameLocks a b = (test : Held → Bool) → list_any test a ≡ list_any test b

-- no two locks of the list exclude each other: none is excluded by an earlier one
abbrev pub NoTwoClash : List Held → Type 0
NoTwoClash [] = Unit {0}
NoTwoClash (one ∷ others) = (list_any (do_clash one) others ≡ false) × NoTwoClash others

-- the locks of a list that a rank does not give back at a target
abbrev pub kept : ℕ → ℕ → ℕ → List Held → List Held
kept rank window target held = filter (λ (one : Held). not (is_given_back rank window (Some (pos target)) one)) held

-- the ranks below a number whose bits are set
unfoldable pub ranks_in : ℕ → ℕ → List ℕ
ranks_in ranks mask = filter (λ rank. bit_at mask rank == 1) (numbers_from 0 ranks)

-- the locks at a target
abbrev pub locks_at_target : ℕ → ℕ → Target → List Held
locks_at_target window target (Shared holders) = map (lock window target SharedLock) (ranks_in 16 holders)
locks_at_target window target (Exclusive holder) = lock window target ExclusiveLock holder ∷ []

-- the locks at the targets from one on
abbrev pub locks_from : ℕ → ℕ → List Target → List Held
locks_from window target [] = []
locks_from window target (one ∷ others) = locks_at_target window target one ++ locks_from window (target + 1) others
