-- The windows and ranges that a rank knows lie in memory: MPI 3.1, section 11.2.
use Rattle.std.specs.Prelude.{ℕ, ◌≡◌, ◌+◌, ◌≤◌, true}
use Rattle.std.specs.List.{AllByRecursion}
use Rattle.rma_types.specs.declared.calls.Flavor.TheVariants.{Dynamic}
use Rattle.rma_types.specs.declared.scripts.Layout.{Layout}
use Rattle.rma_types.specs.declared.scripts.Part.{Part}
use Rattle.rank_rules.specs.Windows.{Window, OwnRange, RankWindows, is_same_flavor, part_at}
use Rattle.step_laws.specs.Inside.{bytes_at}

-- the part of a rank in a window lies in the rank's memory
abbrev pub FitsMemory : Layout → ℕ → Part → Type 0
FitsMemory memory rank part = part.base + part.bytes ≤ bytes_at memory rank

-- a displacement is an address
abbrev pub IsByAddress : Part → Type 0
IsByAddress part = (part.base ≡ 0) × (part.unit ≡ 1)

-- each rank's part of the window lies in the rank's memory; in a dynamic window a displacement is an address
pub record IsRoomyWindow (memory : Layout) (window : Window) : Type 0 where
  pub parts : (rank : ℕ) → FitsMemory memory rank (part_at window.parts rank)
  pub addresses : is_same_flavor window.flavor Dynamic ≡ true → (rank : ℕ) → IsByAddress (part_at window.parts rank)

-- the range lies in the rank's memory
abbrev pub EndsInMemory : Layout → ℕ → OwnRange → Type 0
EndsInMemory memory rank own = own.range.base + own.range.bytes ≤ bytes_at memory rank

-- the windows and ranges that a rank knows lie in memory
pub record AreRoomy (memory : Layout) (known : RankWindows) : Type 0 where
  pub windows : AllByRecursion (IsRoomyWindow memory) known.windows
  pub ranges : AllByRecursion (EndsInMemory memory known.rank) known.ranges
