-- The tables of what a rank knows, and what accepted calls make of them: MPI 3.1, sections 11.2, 11.3.5 and 11.5.
use Rattle.std.specs.Prelude.{ℕ, ◌≡◌, ◌+◌, ◌-◌, false, nat_lt, if◌then◌else◌, List, [], ◌∷◌, map, length}
use Rattle.std.specs.Prelude.{slice_index_or, slice_set, Option, Some, None}
use Rattle.std.specs.Option.{option_map_or}
use Rattle.rank_rules.specs.Epochs.{AccessEpoch, Epochs, targets_locked}
use Rattle.rank_rules.specs.Epochs as epochs
use Rattle.rank_rules.specs.Knowledge.{Knowledge}
use Rattle.call_rules.specs.Ranks.{is_member}
use Rattle.rma_rules.specs.WindowNumbers.{AreNumbers, with_freed, with_made}
use Rattle.rank_records.specs.Deeds.{ended_in, window_in}
use Rattle.rank_records.specs.declared.deeds.Deed.{Deed}
use Rattle.rank_records.specs.declared.deeds.Deed.TheVariants as deed
use Rattle.rank_records.specs.declared.deeds.Turn.{Turn}
use Rattle.rank_records.specs.declared.deeds.Turn.TheVariants as turn
use Rattle.rank_records.specs.declared.kept.EpochKind.{EpochKind}
use Rattle.rank_records.specs.declared.kept.EpochKind.TheVariants as kind
use Rattle.rank_records.specs.declared.tables.Epoch.{Epoch}
use Rattle.rank_records.specs.declared.tables.Epoch.TheVariants.{Idle, Fence, Start, Locks, LockAll}
use Rattle.rank_records.specs.declared.tables.Known.{Known}

abbrev pub kind_in : Epoch → EpochKind
kind_in Idle = kind.NoEpoch
kind_in Fence = kind.Fence
kind_in Start = kind.Start
kind_in (Locks count) = kind.Passive
kind_in LockAll = kind.Passive

abbrev pub locks_in : Epoch → ℕ
locks_in Idle = 0
locks_in Fence = 0
locks_in Start = 0
locks_in (Locks count) = count
locks_in LockAll = 0

-- the epoch after an unlock, where so many targets were locked
abbrev pub one_less : ℕ → Epoch
one_less count = if nat_lt 1 count then Locks (count - 1) else Idle

-- a post ends the epoch of a fence
abbrev pub after_post : Epoch → Epoch
after_post Idle = Idle
after_post Fence = Idle
after_post Start = Start
after_post (Locks count) = Locks count
after_post LockAll = LockAll

-- the epoch after a synchronisation
abbrev pub turned : Epoch → Turn → Epoch
turned epoch turn.Stay = epoch
turned epoch turn.End = Idle
turned epoch turn.Fence = Fence
turned epoch turn.Start = Start
turned epoch turn.Post = after_post epoch
turned epoch turn.Lock = Locks (locks_in epoch + 1)
turned epoch turn.Unlock = one_less (locks_in epoch)
turned epoch turn.LockAll = LockAll

abbrev pub epoch_in : Known → ℕ → Epoch
epoch_in tables win = slice_index_or tables.epochs win Idle

-- the number of the live window that the call names
abbrev pub number_in : Known → Deed → Option ℕ
number_in tables d = option_map_or (λ win. slice_index_or tables.numbers.numbers win None) (window_in d) None

-- the number of the call that made the live request which the call ends
abbrev pub maker_in : Known → Deed → Option ℕ
maker_in tables d = option_map_or (λ req. slice_index_or tables.makers req None) (ended_in d) None

-- the tables after the accepted call of this number
abbrev pub taught : Known → ℕ → Deed → Known
taught tables number (deed.Makes win) =
    record tables { numbers = with_made tables.numbers win; epochs = slice_set tables.epochs win Idle }
taught tables number (deed.Frees win) =
    record tables { numbers = with_freed tables.numbers win; epochs = slice_set tables.epochs win Idle }
taught tables number (deed.Turns win turn) =
    record tables { epochs = slice_set tables.epochs win (turned (epoch_in tables win) turn) }
taught tables number deed.Meets = tables
taught tables number (deed.Moves win request) = record tables {
  makers = option_map_or (λ req. slice_set tables.makers req (Some number)) request tables.makers;
}
taught tables number (deed.Ends request) = record tables { makers = slice_set tables.makers request None }

-- ---- the tables stand for what is known

-- the epoch as the tables have it
abbrev pub epoch_by : AccessEpoch → Epoch
epoch_by epochs.Idle = Idle
epoch_by epochs.FenceUnused = Fence
epoch_by epochs.FenceUsed = Fence
epoch_by (epochs.StartTo group) = Start
epoch_by (epochs.LocksAt targets) = Locks (length targets)
epoch_by epochs.LockAll = LockAll

-- no rank stands twice in the list
abbrev pub AreApart : List ℕ → Type 0
AreApart [] = Unit {0}
AreApart (rank ∷ ranks) = (is_member rank ranks ≡ false) × AreApart ranks

-- no target is locked twice on any window
abbrev pub AreLockedOnce : List Epochs → Type 0
AreLockedOnce [] = Unit {0}
AreLockedOnce (one ∷ rest) = AreApart (targets_locked one.access) × AreLockedOnce rest

-- the tables have the numbers, the epochs and the requests that are known
pub record StandsFor (known : Knowledge) (tables : Known) : Type 0 where
  pub numbers : AreNumbers known.windows tables.numbers
  pub epochs : tables.epochs ≡ map (λ (one : Epochs). epoch_by one.access) known.epochs
  pub once : AreLockedOnce known.epochs
  pub makers : tables.makers ≡ known.requests
