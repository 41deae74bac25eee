-- The locks of one window, by what its entries have done: MPI 3.1, section 11.5.3.
use Rattle.std.specs.Prelude.{◌≡◌, ℕ, Bool, false, not, ◌&&◌, ◌==◌, nat_le, nat_lt, List, Option, None, ℤ}
use Rattle.std.specs.List.{filter, list_any}
use Rattle.std.specs.Option.{option_map_or}
use Rattle.rma_types.specs.declared.calls.Call.{Call}
use Rattle.rma_types.specs.declared.calls.Lock.{Lock}
use Rattle.rma_types.specs.Actions.{synchronisation_of}
use Rattle.call_rules.specs.Pieces.{numbers_from}
use Rattle.board_rules.specs.Entries.{Act}
use Rattle.board_rules.specs.Locks.{Held, held_locks, is_given_back, do_clash, lock_of, locks_at, unlock_of}
use Rattle.lock_table.specs.HeldLocks.{HasSameLocks, WindowLocks}

-- the lock that a call asks for: its kind, and its target, or all ranks
abbrev pub lock_in : Call → Option (Lock × Option ℤ)
lock_in call = option_map_or lock_of (synchronisation_of call) None

-- the target of a call that gives locks back, or all ranks
abbrev pub unlock_in : Call → Option (Option ℤ)
unlock_in call = option_map_or unlock_of (synchronisation_of call) None

-- the locks of a list that are held on a window
abbrev pub on_window : ℕ → List Held → List Held
on_window window held = filter (λ (one : Held). one.window == window) held

-- the locks that are held on a window after the entries
abbrev pub held_on : ℕ → ℕ → List Act → List Held
held_on ranks window entries = on_window window (held_locks ranks entries)

-- the locks of a list that are left, once a rank has given back those that an unlock names
abbrev pub left_by : ℕ → ℕ → Option ℤ → List Held → List Held
left_by rank window target held = filter (λ (one : Held). not (is_given_back rank window target one)) held

-- no lock of the list is on another window
abbrev pub AllOn : ℕ → List Held → Type 0
AllOn window held = list_any (λ (one : Held). not (one.window == window)) held ≡ false

-- no lock of the list is at a target past the last of so many ranks
abbrev pub AtRanks : ℕ → List Held → Type 0
AtRanks ranks held = list_any (λ (one : Held). nat_le ranks one.target) held ≡ false

-- no lock of one list excludes one of the others
abbrev pub clashes : List Held → List Held → Bool
clashes held asked = list_any (λ one. list_any (do_clash one) held) asked

-- the locks of a kind that a rank asks for at the targets from one on
abbrev pub asked_from : ℕ → ℕ → Lock → ℕ → ℕ → List Held
asked_from rank window kind first count = locks_at rank window kind (numbers_from first count)

-- the locks of a list without those of a rank at the targets from one up to, but without, another
abbrev pub left_within : ℕ → ℕ → ℕ → ℕ → List Held → List Held
left_within rank window first end held =
    filter (λ (one : Held). not (one.holder == rank && one.window == window && is_within one.target)) held
  where
    is_within : ℕ → Bool
    is_within target = nat_le first target && nat_lt target end

-- the table is the window's, and has the locks that are held there after the entries, at ranks of the run
pub record KeepsLocks (ranks window : ℕ) (entries : List Act) (table : WindowLocks) : Type 0 where
  pub number : table.window ≡ window
  pub held : HasSameLocks table.held (held_on ranks window entries)
  pub targets : AtRanks ranks table.held
