-- Tables of accesses that grow with a run: each access is listed in each group to which it belongs.
use Rattle.std.specs.Prelude.{ℕ, ◌≡◌, ◌<◌, ◌≤◌, ◌==◌, Contains, List, [], ◌∷◌, ◌++◌, ◌+◌, length, if◌then◌else◌}
use Rattle.std.specs.Prelude.{slice_index, slice_index_or}
use Rattle.rma_types.specs.declared.accesses.Access.{Access}
use Rattle.rma_types.specs.declared.accesses.Kind.TheVariants.{Get}
use Rattle.access_index.specs.declared.index.AccessIndex.{AccessIndex}
use Rattle.access_index.specs.declared.regions.Class.{Class}
use Rattle.access_index.specs.declared.regions.Group.{Group}
use Rattle.access_index.specs.declared.regions.Region.{Region}
use Rattle.access_index.specs.Lists.{classes_in, ordinals_in}
use Rattle.access_index.specs.declared.regions.Region.TheVariants.{Block, Window}
use Rattle.access_index.specs.Regions.{IsIn, block_class, window_class}

-- what stands for an access that is not there
abbrev pub no_access : Access
no_access = record { window = 0; target = 0; lo = 0; len = 0; kind = Get }

-- the access of this ordinal among those of a rank
abbrev pub access_at : (ℕ → List Access) → ℕ → ℕ → Access
access_at rows rank ordinal = slice_index_or (rows rank) ordinal no_access

-- one more access of a rank
abbrev pub with_access : (ℕ → List Access) → ℕ → Access → ℕ → List Access
with_access rows rank access other = if other == rank then rows other ++ access ∷ [] else rows other

-- the accesses of these ordinals stand in the order of the log
abbrev pub IsRising : List ℕ → Type 0
IsRising xs = (i j : ℕ) → i ≤ j → j < length xs → slice_index xs i ≤ slice_index xs j

-- the ordinal is that of an access which belongs to the group
pub record BelongsTo (rows : ℕ → List Access) (group : Group) (ordinal : ℕ) : Type 0 where
  pub there : ordinal < length (rows group.class.rank)
  pub placed : IsIn group.region group.class group.class.rank (access_at rows group.class.rank ordinal)

-- the regions of all classes can be found
abbrev pub AreFound : AccessIndex → Type 0
AreFound index = (region : Region) (class : Class) → Contains (classes_in index.classes region) class →
    Contains index.regions region

-- whatever is listed belongs where it is, and its region and its class can be found
pub record IsSound (index : AccessIndex) (rows : ℕ → List Access) : Type 0 where
  pub belongs : (group : Group) (ordinal : ℕ) → Contains (ordinals_in index.ordinals group) ordinal →
      BelongsTo rows group ordinal
  pub rises : (group : Group) → IsRising (ordinals_in index.ordinals group)
  pub classes : (group : Group) (ordinal : ℕ) → Contains (ordinals_in index.ordinals group) ordinal →
      Contains (classes_in index.classes group.region) group.class
  pub regions : AreFound index

-- each of the accesses is listed wherever it belongs
abbrev pub IsComplete : AccessIndex → (ℕ → List Access) → Type 0
IsComplete index rows = (group : Group) (ordinal : ℕ) → BelongsTo rows group ordinal →
    Contains (ordinals_in index.ordinals group) ordinal

-- whatever was listed is listed still
abbrev pub KeepsListed : AccessIndex → AccessIndex → Type 0
KeepsListed old index = (group : Group) (ordinal : ℕ) → Contains (ordinals_in old.ordinals group) ordinal →
    Contains (ordinals_in index.ordinals group) ordinal

-- the ordinal is that of the last access of the rank of the group
abbrev pub IsLast : (ℕ → List Access) → Group → ℕ → Type 0
IsLast rows group ordinal = length (rows group.class.rank) ≡ ordinal + 1

-- the group of an access of this rank in a block, and in its window
abbrev pub block_group : ℕ → ℕ → Access → Group
block_group block rank a = record { region = Block a.target block; class = block_class block rank a }

abbrev pub window_group : ℕ → Access → Group
window_group rank a = record { region = Window a.target a.window; class = window_class rank a }

-- the index has these accesses, by their ranks
pub record HasAccesses (index : AccessIndex) (rows : ℕ → List Access) : Type 0 where
  pub counted : (rank : ℕ) → rank < 256 → slice_index index.counts rank ≡ length (rows rank)
  pub sound : IsSound index rows
  pub complete : IsComplete index rows
