-- What the tables of ranks say: MPI 3.1, sections 11.5.2 and 11.5.3.
use Rattle.std.specs.Prelude.{◌≡◌, ℕ, ◌+◌, ◌<◌, Bool, false, ◌&&◌, ◌==◌, nat_le, nat_lt, cond, min, List, replicate}
use Rattle.std.specs.Prelude.{Option, Some, None, slice_index, slice_index_or, unwrap_or}
use Rattle.std.specs.HashMap.{HashMap, get}
use Rattle.std.specs.declared.hash.BuildHasherDefault.{BuildHasherDefault}
use Rattle.std.specs.declared.hash.FoldHasher.{FoldHasher}
use Rattle.rma_types.specs.declared.calls.Lock.{Lock}
use Rattle.rma_types.specs.declared.calls.Lock.TheVariants.{Shared, Exclusive}
use Rattle.entry_gains.specs.declared.deeds.Reach.{Reach}
use Rattle.entry_gains.specs.declared.tables.LockKey.{LockKey}
use Rattle.entry_gains.specs.declared.tables.RoundKey.{RoundKey}
use Rattle.entry_gains.specs.declared.tables.Side.{Side}
use Rattle.entry_gains.specs.declared.tables.SideKey.{SideKey}
use Rattle.entry_gains.specs.declared.tables.StartKey.{StartKey}
use Rattle.entry_gains.specs.contracts.tables.RoundKeyPartialEq.TheImpl as round_impl
use Rattle.entry_gains.specs.contracts.tables.SideKeyPartialEq.TheImpl as side_impl
use Rattle.entry_gains.specs.contracts.tables.StartKeyPartialEq.TheImpl as start_impl
use Rattle.entry_gains.specs.contracts.tables.LockKeyPartialEq.TheImpl as lock_impl

abbrev pub Table : Type 0 → Type 0 → Type 0
Table K X = HashMap K X (BuildHasherDefault FoldHasher)

abbrev pub round_eq : RoundKey → RoundKey → Bool
round_eq = (round_impl.ghosts).eq

abbrev pub side_eq : SideKey → SideKey → Bool
side_eq = (side_impl.ghosts).eq

abbrev pub start_eq : StartKey → StartKey → Bool
start_eq = (start_impl.ghosts).eq

abbrev pub lock_eq : LockKey → LockKey → Bool
lock_eq = (lock_impl.ghosts).eq

-- the side of a rank that has done nothing
abbrev pub idle : Side
idle = record {
  posted_to = replicate 16 0;
  started_to = replicate 16 0;
  last_post = replicate 16 false;
  starts = 0;
  completes = 0;
}

abbrev pub begun_at : Table RoundKey ℕ → RoundKey → ℕ
begun_at rounds key = unwrap_or (get round_eq rounds key) 0

abbrev pub side_at : Table SideKey Side → SideKey → Side
side_at sides key = unwrap_or (get side_eq sides key) idle

abbrev pub ordinals_at : Table StartKey (List ℕ) → StartKey → List ℕ
ordinals_at started key = unwrap_or (get start_eq started key) (replicate 16 0)

abbrev pub held_at : Table LockKey Lock → LockKey → Option Lock
held_at held key = get lock_eq held key

-- the stronger of a lock that is held and one more
abbrev pub stronger : Option Lock → Lock → Lock
stronger None kind = kind
stronger (Some Shared) kind = kind
stronger (Some Exclusive) kind = Exclusive

-- one more, up to the end of the type
abbrev pub counted : ℕ → ℕ
counted n = min (n + 1) 4294967295

-- for each of 16 ranks one more where it is named
abbrev pub IsRaised : List ℕ → List Bool → List ℕ → Type 0
IsRaised counts named raised = (rank : ℕ) → rank < 16 →
    slice_index raised rank ≡ cond (slice_index_or named rank false) (counted (slice_index counts rank))
    (slice_index counts rank)

-- for each of 16 ranks its count and one more where it is named, else 0
abbrev pub ArePut : List ℕ → List Bool → List ℕ → Type 0
ArePut counts named ordinals = (rank : ℕ) → rank < 16 →
    slice_index ordinals rank ≡ cond (slice_index_or named rank false) (counted (slice_index counts rank)) 0

-- the locks of a rank on a window at a target
abbrev pub lock_key : SideKey → ℕ → LockKey
lock_key side target = record { window = side.window; rank = side.rank; target = target }

-- the target lies from the first up to the end
abbrev pub is_within : Reach → ℕ → Bool
is_within reach target = nat_le reach.first target && nat_lt target reach.end

-- the locks are those of the rank on the window, at a target below the number that is reached
unfoldable pub is_reached_below : ℕ → SideKey → Reach → LockKey → Bool
is_reached_below count side reach key =
    side.window == key.window && side.rank == key.rank && is_within reach key.target && nat_lt key.target count
