-- Least partners.
use Rattle.std.proofs.Common.{◌≡◌, ℕ, zero, suc, ◌<◌, ◌≤◌, ◌⊎◌, inl, inr, Bool, true, List, [], ◌∷◌, length}
use Rattle.std.proofs.Common.{refl, ap, sym, subst, ◌∙◌, arith, Option, None, Some}
use Rattle.std.specs.Prelude.{◌||◌, if◌then◌else◌, Contains, map, slice_index, slice_index_or, take}
use Rattle.std.specs.List.{All, AllByRecursion}
use Rattle.std.specs.Option.{is_some, option_map_or}
use Rattle.std.proofs.lemmas.Bool.{cases_lt}
use Rattle.rma_types.specs.declared.accesses.Id.{Id}
use Rattle.rma_types.specs.declared.findings.Finding.{Finding}
use Rattle.rma_types.specs.declared.findings.Model.{Model}
use Rattle.rma_types.specs.declared.findings.Rule.{Rule}
use Rattle.order_rules.specs.Findings.{first_finding, pair_rule, unless_ordered}
use Rattle.order_rules.specs.Rules.{forbidden_kind}
use Rattle.lawful_runs.specs.Accesses.{EachPair}
use Rattle.order_laws.specs.FindingLaws.{IsSmaller}
use Rattle.first_points.specs.Alike.{AreAlike}
use Rattle.order_rules.specs.Ordered.{JudgedAccess, is_ordered, role_in}
use Rattle.vector_clocks.specs.Marks.{before_in}
use Rattle.vector_clocks.specs.declared.marks.Mark.{Mark}
use Rattle.access_index.specs.Indexes.{HasAccesses}
use Rattle.access_index.specs.Lists.{classes_in}
use Rattle.access_index.specs.Regions.{IsIn}
use Rattle.access_index.specs.declared.index.AccessIndex.{AccessIndex}
use Rattle.access_index.specs.declared.regions.Class.{Class}
use Rattle.access_index.specs.declared.regions.Region.{Region}
use Rattle.access_index.proofs.Rises.{place_of}
use Rattle.access_sweeps.specs.Places.{NoneRises, is_pair, judged_at}
use Rattle.access_sweeps.specs.Sweeps.{MaySweep}
use Rattle.access_sweeps.proofs.Partners.{pair_parts}
use Rattle.conflict_check.specs.Conflicts.{by_operation, do_conflict}
use Rattle.conflict_check.specs.Listings.{AreDone, AreLeast, IsAscending, IsAt, IsDone, IsListing, judged_of, rows_of}
use Rattle.conflict_check.specs.declared.judged.Judged.{Judged}
use Rattle.conflict_check.specs.declared.listings.Listing.{Listing}
use Rattle.conflict_check.proofs.Classes.{role_by, role_cast}
use Rattle.conflict_check.proofs.Common.{cast_in, common, decides, rank_in}
use Rattle.conflict_check.proofs.Growth.{ordered_later}
use Rattle.conflict_check.proofs.Ordinals.{place_row, ranks_rise}

-- ---- two listings may be swept

module _ (xs : List JudgedAccess) (ascending : IsAscending xs) (region : Region) (class : Class) where
  role_at : (p : ℕ) → IsAt xs region class p → role_in (judged_at xs p) ≡ role_by class.cast
  role_at p at = role_cast (judged_at xs p).access.kind
      ∙ ap role_by (sym (cast_in region class (judged_at xs p).id.rank (judged_at xs p).access at))

  rank_at : (p : ℕ) → IsAt xs region class p → class.rank ≡ (judged_at xs p).id.rank
  rank_at p at = rank_in region class (judged_at xs p).id.rank (judged_at xs p).access at

  later : (clocks : List (List Mark)) (a : JudgedAccess) (p q : ℕ) → p ≤ q → q < length xs →
      IsAt xs region class p → IsAt xs region class q →
      is_ordered (before_in clocks) a (judged_at xs p) ≡ true →
      is_ordered (before_in clocks) a (judged_at xs q) ≡ true
  later clocks a p q order within first second =
      ordered_later clocks a (judged_at xs p) (judged_at xs q) (role_at p first ∙ sym (role_at q second))
      same_rank (by_order (cases_lt p q))
    where
      same_rank : (judged_at xs p).id.rank ≡ (judged_at xs q).id.rank
      same_rank = sym (rank_at p first) ∙ rank_at q second

      by_order : (p < q) ⊎ (q ≤ p) → (judged_at xs p).id.index ≤ (judged_at xs q).id.index
      by_order (inl less) = elim (ascending p q less within) [
        | inl smaller ↦ let same = same_rank in absurd (omega (arith, smaller, same))
        | inr equal ↦ let low = equal.1 in omega (arith, low)
      ]
      by_order (inr most) =
          let same : p ≡ q = omega (arith, order, most) in
          let index : (judged_at xs p).id.index ≡ (judged_at xs q).id.index =
          ap (λ k. (judged_at xs k).id.index) same in
          omega (arith, index)

pub may_sweep : (model : Model) (clocks : List (List Mark)) (xs : List JudgedAccess) → IsAscending xs →
    (region : Region) (c d : Class) (ps qs : List ℕ) → IsListing xs region c ps → IsListing xs region d qs →
    do_conflict model region c d ≡ true → MaySweep model (before_in clocks) xs (by_operation c d) ps qs
may_sweep model clocks xs ascending region c d ps qs first second conflict = record {
  rising = first.rising;
  forward = λ k j i low order within. later xs ascending region d clocks (judged_at xs (slice_index ps k))
      (slice_index qs j) (slice_index qs i) (second.rising j i order within) (second.within i within)
      (second.inside j (omega (arith, order, within))) (second.inside i within);
  backward = λ j k i low order within. later xs ascending region c clocks (judged_at xs (slice_index qs j))
      (slice_index ps k) (slice_index ps i) (first.rising k i order within) (first.within i within)
      (first.inside k (omega (arith, order, within))) (first.inside i within);
  decides = λ k j low within.
      let a = judged_at xs (slice_index ps k) in
      let b = judged_at xs (slice_index qs j) in
      decides model region c d a.id.rank b.id.rank a.access b.access (first.inside k low) (second.inside j within)
      conflict;
}

-- ---- what is done stays done

pub done_still : (s : Judged) (region : Region) (a b : Listing) (best less : List ℕ) → NoneRises best less →
    AreDone s region best a b → AreDone s region less a b
done_still s region a b best less falls done conflict order j within k low smaller pair =
    let old = done conflict order j within k low smaller pair in
    let now = falls (slice_index b.places j) in
    omega (arith, old, now)

pub region_still : (s : Judged) (region : Region) (best less : List ℕ) → NoneRises best less →
    IsDone s best region → IsDone s less region
region_still s region best less falls done first second a b smaller within at_a at_b conflict pair =
    let old = done first second a b smaller within at_a at_b conflict pair in
    let now = falls b in
    omega (arith, old, now)

-- ---- a region

-- the classes of accesses can be found, and so can the region
module _ (xs : List JudgedAccess) (index : AccessIndex) (has : HasAccesses index (rows_of xs)) (region : Region)
    (class : Class) (p : ℕ) (within : p < length xs) (at : IsAt xs region class p) where
  pub class_found : Contains (classes_in index.classes region) class
  class_found =
      let of_rank : (judged_at xs p).id.rank ≡ class.rank =
      sym (rank_in region class (judged_at xs p).id.rank (judged_at xs p).access at) in
      let row = place_row xs class.rank p within of_rank in
      has.sound.classes (record { region = region; class = class }) row.0
      (has.complete (record { region = region; class = class }) row.0 (record {
        there = row.1;
        placed = subst (λ a. IsIn region class class.rank a) (sym row.2)
            (subst (λ r. IsIn region class r (judged_at xs p).access) of_rank at);
      }))

  pub region_found : Contains index.regions region
  region_found = has.sound.regions region class class_found

-- the listing of a class
class_listed : (listings : List Listing) (class : Class) (d : Listing) →
    Contains (map (λ (l : Listing). l.class) listings) class →
    (i : ℕ) × (i < length listings) × ((slice_index_or listings i d).class ≡ class)
class_listed [] class d has = absurd (omega (arith, has.1))
class_listed (l ∷ listings) class d (zero, within, is) = (0, omega arith, is)
class_listed (l ∷ listings) class d (suc i, within, is) =
    let rest = class_listed listings class d (i, omega (arith, within), is) in
    let low = rest.1 in
    (suc rest.0, omega (arith, low), rest.2)

pub region_done : (s : Judged) (index : AccessIndex) (region : Region) (best : List ℕ) (listings : List Listing) →
    IsAscending (judged_of s) → HasAccesses index (rows_of (judged_of s)) →
    map (λ (l : Listing). l.class) listings ≡ classes_in index.classes region →
    All (λ (l : Listing). IsListing (judged_of s) region l.class l.places) listings →
    All (λ (a : Listing). All (λ (b : Listing). AreDone s region best a b) listings) listings →
    IsDone s best region
region_done s index region best listings ascending has classes all done first second a b smaller within at_a at_b
    conflict pair =
    let xs = judged_of s in
    let d : Listing = record { class = first; places = [] } in
    let low : a < length xs = omega (arith, smaller, within) in
    let one = class_listed listings first d (subst (λ l. Contains l first) (sym classes)
    (class_found xs index has region first a low at_a)) in
    let two = class_listed listings second d (subst (λ l. Contains l second) (sym classes)
    (class_found xs index has region second b within at_b)) in
    let l = slice_index_or listings one.0 d in
    let m = slice_index_or listings two.0 d in
    let here = place_of l.places a ((all one.0 d one.1).all a low
    (subst (λ c. IsAt xs region c a) (sym one.2) at_a)) in
    let there = place_of m.places b ((all two.0 d two.1).all b within
    (subst (λ c. IsAt xs region c b) (sym two.2) at_b)) in
    let clash : do_conflict s.model region l.class m.class ≡ true =
    (λ i. do_conflict s.model region (one.2 i) (two.2 i)) ∙ conflict in
    let rank_a : l.class.rank ≡ (judged_at xs a).id.rank =
    ap (λ (c : Class). c.rank) one.2 ∙ rank_in region first (judged_at xs a).id.rank (judged_at xs a).access at_a in
    let rank_b : m.class.rank ≡ (judged_at xs b).id.rank =
    ap (λ (c : Class). c.rank) two.2 ∙ rank_in region second (judged_at xs b).id.rank (judged_at xs b).access at_b in
    let rises : (judged_at xs a).id.rank ≤ (judged_at xs b).id.rank =
    ranks_rise xs ascending a b (omega (arith, smaller)) within in
    let ranks : l.class.rank ≤ m.class.rank = omega (arith, rank_a, rank_b, rises) in
    let place_a : slice_index l.places here.0 ≡ a = here.2 in
    let place_b : slice_index m.places there.0 ≡ b = there.2 in
    let least = done one.0 d one.1 two.0 d two.1 clash ranks there.0 there.1 here.0 here.1
    (omega (arith, place_a, place_b, smaller))
    (subst (λ p. is_pair s.model (before_in s.clocks.now) xs p (slice_index m.places there.0) ≡ true) (sym place_a)
    (subst (λ p. is_pair s.model (before_in s.clocks.now) xs a p ≡ true) (sym place_b) pair)) in
    subst (λ p. slice_index best b ≤ p) place_a
    (subst (λ p. slice_index best p ≤ slice_index l.places here.0) place_b least)

-- where all regions are done, each access has its least partner
pub all_least : (s : Judged) (index : AccessIndex) (best : List ℕ) → HasAccesses index (rows_of (judged_of s)) →
    ((region : Region) → Contains index.regions region → IsDone s best region) → AreLeast s best
all_least s index best has done a b smaller within pair =
    let xs = judged_of s in
    let x = judged_at xs a in
    let y = judged_at xs b in
    let low : a < length xs = omega (arith, smaller, within) in
    let meet = common s.model x.id.rank y.id.rank x.access y.access
    (pair_parts s.model (before_in s.clocks.now) x y pair).0 in
    done meet.region (region_found xs index has meet.region meet.first a low meet.of_first) meet.first meet.second a b
    smaller within meet.of_first meet.of_second meet.conflict pair

-- ---- the first finding

module _ (model : Model) (before : Id → Id → Bool) (y : JudgedAccess) where
  pub no_finding : (xs : List JudgedAccess) (n : ℕ) →
      ((k : ℕ) → k < n → k < length xs → is_some (pair_rule model before (judged_at xs k) y) ≡ true → ⊥) →
      first_finding model before (take n xs) y ≡ None
  no_finding [] zero none = refl
  no_finding [] (suc n) none = refl
  no_finding (x ∷ xs) zero none = refl
  no_finding (x ∷ xs) (suc n) none =
      passed (pair_rule model before x y) (none 0 (omega arith) (omega arith))
      (no_finding xs n (λ k low within. none (suc k) (omega (arith, low)) (omega (arith, within))))
    where
      passed : (o : Option Rule) → (is_some o ≡ true → ⊥) → {rest : Option Finding} → rest ≡ None →
          option_map_or (λ rule. Some (record { first = x.id; second = y.id; rule = rule })) o rest ≡ None
      passed None fails is = is
      passed (Some rule) fails is = absurd (fails refl)

  pub least_finding : (xs : List JudgedAccess) (n p : ℕ) (rule : Rule) → p < n → p < length xs →
      pair_rule model before (judged_at xs p) y ≡ Some rule →
      ((k : ℕ) → k < p → is_some (pair_rule model before (judged_at xs k) y) ≡ true → ⊥) →
      first_finding model before (take n xs) y
      ≡ Some (record { first = (judged_at xs p).id; second = y.id; rule = rule })
  least_finding [] n p rule low within is least = absurd (omega (arith, within))
  least_finding (x ∷ xs) zero p rule low within is least = absurd (omega (arith, low))
  least_finding (x ∷ xs) (suc n) zero rule low within is least =
      ap (λ o. option_map_or (λ r. Some (record { first = x.id; second = y.id; rule = r })) o
      (first_finding model before (take n xs) y)) is
  least_finding (x ∷ xs) (suc n) (suc p) rule low within is least =
      passed (pair_rule model before x y) (least 0 (omega arith))
      (least_finding xs n p rule (omega (arith, low)) (omega (arith, within)) is
      (λ k less. least (suc k) (omega (arith, less))))
    where
      passed : (o : Option Rule) → (is_some o ≡ true → ⊥) → {rest found : Option Finding} → rest ≡ found →
          option_map_or (λ r. Some (record { first = x.id; second = y.id; rule = r })) o rest ≡ found
      passed None fails is = is
      passed (Some r) fails is = absurd (fails refl)

-- so they may with what the code has of them
pub may_sweep_as : (model : Model) (clocks : List (List Mark)) (xs : List JudgedAccess) → IsAscending xs →
    (region : Region) (c d : Class) (ps qs : List ℕ) → IsListing xs region c ps → IsListing xs region d qs →
    do_conflict model region c d ≡ true → (by : Bool) (first second : List ℕ) → by ≡ by_operation c d → first ≡ ps →
    second ≡ qs → MaySweep model (before_in clocks) xs by first second
may_sweep_as model clocks xs ascending region c d ps qs one two conflict by first second by_is first_is second_is =
    subst (λ b. MaySweep model (before_in clocks) xs b first second) (sym by_is)
    (subst (λ l. MaySweep model (before_in clocks) xs (by_operation c d) l second) (sym first_is)
    (subst (λ l. MaySweep model (before_in clocks) xs (by_operation c d) ps l) (sym second_is)
    (may_sweep model clocks xs ascending region c d ps qs one two conflict)))

-- ---- the rule of a pair, and the order of accesses with points that stand for all

pub pair_is : (model : Model) (before : Id → Id → Bool) (a b : JudgedAccess) (rule : Rule) →
    is_some (pair_rule model before a b) ≡ true →
    forbidden_kind a.access a.id.rank b.access b.id.rank model ≡ Some rule → pair_rule model before a b ≡ Some rule
pair_is model before a b rule some is =
    let free = pair_parts model before a b some in
    ap (λ o. option_map_or (unless_ordered before a b) o None) is
    ∙ (λ i. if free.1 i || free.2 i then None else Some rule)

module _ (before : Id → Id → Bool) (ids : List Id) where
  first_smaller : (y : JudgedAccess) (xs ys : List JudgedAccess) → AreAlike before ids xs ys →
      AllByRecursion (λ (b : JudgedAccess). IsSmaller y.id b.id) ys → (j : ℕ) → j < length xs →
      IsSmaller y.id (judged_at xs j).id
  first_smaller y [] [] alike all j within = absurd (omega (arith, within))
  first_smaller y [] (z ∷ ys) alike all j within = absurd alike
  first_smaller y (x ∷ xs) [] alike all j within = absurd alike
  first_smaller y (x ∷ xs) (z ∷ ys) alike all zero within = subst (IsSmaller y.id) (sym alike.0.named) all.0
  first_smaller y (x ∷ xs) (z ∷ ys) alike all (suc j) within =
      first_smaller y xs ys alike.1 all.1 j (omega (arith, within))

  -- accesses that are alike others which ascend do so too
  pub ascending_alike : (xs ys : List JudgedAccess) → AreAlike before ids xs ys →
      EachPair (λ (a b : JudgedAccess). IsSmaller a.id b.id) ys → IsAscending xs
  ascending_alike [] [] alike each i j less within = absurd (omega (arith, within))
  ascending_alike [] (y ∷ ys) alike each i j less within = absurd alike
  ascending_alike (x ∷ xs) [] alike each i j less within = absurd alike
  ascending_alike (x ∷ xs) (y ∷ ys) alike each i zero less within = absurd (omega (arith, less))
  ascending_alike (x ∷ xs) (y ∷ ys) alike each zero (suc j) less within =
      subst (λ n. IsSmaller n (judged_at xs j).id) (sym alike.0.named)
      (first_smaller y xs ys alike.1 each.0 j (omega (arith, within)))
  ascending_alike (x ∷ xs) (y ∷ ys) alike each (suc i) (suc j) less within =
      ascending_alike xs ys alike.1 each.1 i j (omega (arith, less)) (omega (arith, within))
