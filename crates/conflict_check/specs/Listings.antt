-- The accesses of a run by the regions that they reach, and which of them have their partners: MPI 3.1, section 11.7,
-- in this project's profile.
use Rattle.std.specs.Prelude.{ℕ, ◌≡◌, ◌<◌, ◌≤◌, ◌==◌, true, Contains, List, length, map, slice_index}
use Rattle.std.specs.List.{filter}
use Rattle.rma_types.specs.declared.accesses.Access.{Access}
use Rattle.order_rules.specs.Ordered.{JudgedAccess}
use Rattle.order_laws.specs.FindingLaws.{IsSmaller}
use Rattle.vector_clocks.specs.Marks.{before_in}
use Rattle.first_points.specs.Alike.{judged_by}
use Rattle.access_index.specs.Indexes.{IsRising}
use Rattle.access_index.specs.Regions.{IsIn}
use Rattle.access_index.specs.declared.regions.Class.{Class}
use Rattle.access_index.specs.declared.regions.Region.{Region}
use Rattle.access_sweeps.specs.Places.{AreLeastOf, is_pair, judged_at}
use Rattle.conflict_check.specs.Conflicts.{do_conflict}
use Rattle.conflict_check.specs.declared.judged.Judged.{Judged}
use Rattle.conflict_check.specs.declared.listings.Listing.{Listing}

-- the accesses stand in the order of their names
abbrev pub IsAscending : List JudgedAccess → Type 0
IsAscending xs = (i j : ℕ) → i < j → j < length xs → IsSmaller (judged_at xs i).id (judged_at xs j).id

-- the accesses of each rank
abbrev pub rows_of : List JudgedAccess → ℕ → List Access
rows_of xs rank =
    map (λ (a : JudgedAccess). a.access) (filter (λ (a : JudgedAccess). a.id.rank == rank) xs)

abbrev pub judged_of : Judged → List JudgedAccess
judged_of s = map judged_by s.accesses.now

-- the access at a place reaches the region, and has this class there
abbrev pub IsAt : List JudgedAccess → Region → Class → ℕ → Type 0
IsAt xs region class place = IsIn region class (judged_at xs place).id.rank (judged_at xs place).access

-- the places are those of the accesses of this class that reach the region, in their order
pub record IsListing (xs : List JudgedAccess) (region : Region) (class : Class) (places : List ℕ) : Type 0 where
  pub rising : IsRising places
  pub within : (k : ℕ) → k < length places → slice_index places k < length xs
  pub inside : (k : ℕ) → k < length places → IsAt xs region class (slice_index places k)
  pub all : (place : ℕ) → place < length xs → IsAt xs region class place → Contains places place

-- the accesses of the second listing have their least partners of the first
abbrev pub AreDone : Judged → Region → List ℕ → Listing → Listing → Type 0
AreDone s region best a b = do_conflict s.model region a.class b.class ≡ true → a.class.rank ≤ b.class.rank →
    AreLeastOf s.model (before_in s.clocks.now) (judged_of s) a.places b.places best

-- the accesses that reach a region have their least partners there
abbrev pub IsDone : Judged → List ℕ → Region → Type 0
IsDone s best region = (first second : Class) (a b : ℕ) → a < b → b < length (judged_of s) →
    IsAt (judged_of s) region first a → IsAt (judged_of s) region second b →
    do_conflict s.model region first second ≡ true →
    is_pair s.model (before_in s.clocks.now) (judged_of s) a b ≡ true → slice_index best b ≤ a

-- each access has its least partner
abbrev pub AreLeast : Judged → List ℕ → Type 0
AreLeast s best = (a b : ℕ) → a < b → b < length (judged_of s) →
    is_pair s.model (before_in s.clocks.now) (judged_of s) a b ≡ true → slice_index best b ≤ a
