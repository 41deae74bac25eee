-- Sweeps of two lists of accesses: MPI 3.1, section 11.7, in this project's profile.
use Rattle.std.specs.Prelude.{ℕ, ◌≡◌, ◌<◌, ◌≤◌, ◌⊎◌, Bool, true, false, not, ◌&&◌, List, length, map, slice_index}
use Rattle.std.specs.Prelude.{slice_set, nat_lt, if◌then◌else◌, Option}
use Rattle.std.specs.Option.{is_some}
use Rattle.rma_types.specs.declared.accesses.Id.{Id}
use Rattle.rma_types.specs.declared.findings.Model.{Model}
use Rattle.order_rules.specs.Ordered.{JudgedAccess, is_ordered}
use Rattle.order_rules.specs.Rules.{forbidden_kind}
use Rattle.vector_clocks.specs.Marks.{before_in}
use Rattle.first_points.specs.Alike.{judged_by}
use Rattle.access_sweeps.specs.Labels.{do_stand, label_of}
use Rattle.access_sweeps.specs.Places.{judged_at}
use Rattle.access_sweeps.specs.declared.kinds.Label.{Label}
use Rattle.access_sweeps.specs.declared.fronts.Choice.{Choice}
use Rattle.access_sweeps.specs.declared.fronts.Front.{Front}
use Rattle.access_sweeps.specs.declared.fronts.Passed.{Passed}
use Rattle.access_sweeps.specs.declared.sweeps.Sweep.{Sweep}

-- each of the places is below a count
abbrev pub IsWithin : ℕ → List ℕ → Type 0
IsWithin count places = (k : ℕ) → k < length places → slice_index places k < count

-- ---- one list, and an access that passes it

-- the access at a place of the list
abbrev pub first_at : Passed → ℕ → JudgedAccess
first_at s k = judged_at (map judged_by s.accesses.now) (slice_index s.places.now k)

-- that access is ordered before this one
abbrev pub is_passed : Passed → ℕ → JudgedAccess → Bool
is_passed s k y = is_ordered (before_in s.clocks.now) (first_at s k) y

-- the two have one label
abbrev pub do_both_stand : Passed → JudgedAccess → JudgedAccess → Bool
do_both_stand s x y = do_stand (label_of s.by_operation x.access) (label_of s.by_operation y.access)

-- so far the list is passed by this access
pub record IsFront (s : Passed) (front : Front) (y : JudgedAccess) : Type 0 where
  pub passed : (k : ℕ) → k < front.first → is_passed s k y ≡ true
  pub alike : (k : ℕ) → front.first ≤ k → k < front.other →
      (is_passed s k y ≡ true) ⊎ (do_both_stand s (first_at s k) (first_at s front.first) ≡ true)

-- what is ordered before the one access is ordered before the other
abbrev pub IsLater : Passed → JudgedAccess → JudgedAccess → Type 0
IsLater s y z = (k : ℕ) → k < length s.places.now → is_passed s k y ≡ true → is_passed s k z ≡ true

-- the first of the list that is not ordered before the access and may not stand beside it
pub record IsChosen (s : Passed) (at : ℕ) (y : JudgedAccess) : Type 0 where
  pub unordered : at < length s.places.now → is_passed s at y ≡ false
  pub apart : at < length s.places.now → do_both_stand s (first_at s at) y ≡ false
  pub least : (k : ℕ) → k < length s.places.now → is_passed s k y ≡ false →
      do_both_stand s (first_at s k) y ≡ false → at ≤ k

-- from a front at an access it is found, and the front moves on, also for each access that comes later
abbrev pub IsChoice : Passed → Front → Choice → JudgedAccess → Type 0
IsChoice s front choice y = IsFront s front y → IsChosen s choice.at y
    × ((z : JudgedAccess) → IsLater s y z → IsFront s front z → IsFront s choice.front z)

-- ---- two lists

-- the partners with one that may be better: it has a smaller place, and the access is not ordered before it
abbrev pub improved : (Id → Id → Bool) → List JudgedAccess → List ℕ → ℕ → ℕ → List ℕ
improved before xs best a b =
    if nat_lt a b && nat_lt a (slice_index best b) && not (is_ordered before (judged_at xs b) (judged_at xs a))
    then slice_set best b a
    else best

-- The lists may be swept: the first rises; what is ordered before an access of the second is so before the later ones;
-- before what an access of the second is ordered, it is before the later ones of the first; and a rule forbids two of
-- them, where neither is ordered before the other, unless they have one label.
pub record MaySweep (model : Model) (before : Id → Id → Bool) (xs : List JudgedAccess) (by_operation : Bool)
    (first second : List ℕ) : Type 0 where
  pub rising : (k i : ℕ) → k ≤ i → i < length first → slice_index first k ≤ slice_index first i
  pub forward : (k j i : ℕ) → k < length first → j ≤ i → i < length second →
      is_ordered before (judged_at xs (slice_index first k)) (judged_at xs (slice_index second j)) ≡ true →
      is_ordered before (judged_at xs (slice_index first k)) (judged_at xs (slice_index second i)) ≡ true
  pub backward : (j k i : ℕ) → j < length second → k ≤ i → i < length first →
      is_ordered before (judged_at xs (slice_index second j)) (judged_at xs (slice_index first k)) ≡ true →
      is_ordered before (judged_at xs (slice_index second j)) (judged_at xs (slice_index first i)) ≡ true
  pub decides : (k j : ℕ) → k < length first → j < length second →
      let a = judged_at xs (slice_index first k) in
      let b = judged_at xs (slice_index second j) in
      is_some (forbidden_kind a.access a.id.rank b.access b.id.rank model)
      ≡ not (do_stand (label_of by_operation a.access) (label_of by_operation b.access))

abbrev pub accesses_of : Sweep → List JudgedAccess
accesses_of s = map judged_by s.accesses.now

-- the two lists of a sweep may be swept
abbrev pub IsSwept : Model → Sweep → Type 0
IsSwept model s =
    MaySweep model (before_in s.clocks.now) (accesses_of s) s.by_operation s.first.now s.second.now

-- the first list, as the accesses of the second pass it
abbrev pub passed_of : Sweep → Passed
passed_of s = record {
  clocks = s.clocks;
  accesses = s.accesses;
  places = s.first;
  by_operation = s.by_operation;
}

-- so far the first list is passed by each access of the second from a place on
abbrev pub IsFrontFrom : Sweep → Front → ℕ → Type 0
IsFrontFrom s front at = (j : ℕ) → at ≤ j → j < length s.second.now →
    IsFront (passed_of s) front (judged_at (accesses_of s) (slice_index s.second.now j))

-- the partners where the access at a place of the first list, if there is one, is taken where it is better
abbrev pub improved_at : Sweep → List ℕ → ℕ → ℕ → List ℕ
improved_at s best at b =
    if nat_lt at (length s.first.now)
    then improved (before_in s.clocks.now) (accesses_of s) best (slice_index s.first.now at) b
    else best

-- ---- accesses that may all stand beside each other

-- the accesses at the places all have this label
abbrev pub HaveLabel : Sweep → List ℕ → Option Label → Type 0
HaveLabel s places label = (k : ℕ) → k < length places →
    do_stand (label_of s.by_operation (judged_at (accesses_of s) (slice_index places k)).access) label ≡ true

-- each access of the first list may stand beside each of the second
abbrev pub DoAllStand : Sweep → Type 0
DoAllStand s = (k j : ℕ) → k < length s.first.now → j < length s.second.now →
    do_stand (label_of s.by_operation (judged_at (accesses_of s) (slice_index s.first.now k)).access)
    (label_of s.by_operation (judged_at (accesses_of s) (slice_index s.second.now j)).access) ≡ true
