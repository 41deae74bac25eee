-- Accesses that are read at their places, and parted by their ranks.
use Rattle.std.proofs.Common.{◌≡◌, ℕ, zero, suc, ◌<◌, true, false, List, [], ◌∷◌, length, get_or, refl, ap}
use Rattle.std.proofs.Common.{arith}
use Rattle.std.specs.Prelude.{map, nat_lt}
use Rattle.std.specs.List.Sorted.{IsPartitionPoint, IsPartitionedBy}
use Rattle.std.proofs.lemmas.Bool.{lt-ltb, ltb-false, ltb-true}
use Rattle.order_rules.specs.Ordered.{JudgedAccess}
use Rattle.first_points.specs.Alike.{judged_by}
use Rattle.first_points.specs.declared.accesses.JudgedPoints.{JudgedPoints}
use Rattle.access_index.specs.Indexes.{no_access}
use Rattle.access_sweeps.specs.Places.{judged_at}
use Rattle.access_sweeps.proofs.Partners.{judged_read}
use Rattle.conflict_check.specs.Listings.{IsAscending}
use Rattle.conflict_check.proofs.Ordinals.{AreBelow, ranks_rise}

-- an element that is there, whatever stands for one that is not
pub default_free : {X : Type 0} (xs : List X) (k : ℕ) (d e : X) → k < length xs → get_or xs k d ≡ get_or xs k e
default_free [] k d e within = absurd (omega (arith, within))
default_free (x ∷ xs) zero d e within = refl
default_free (x ∷ xs) (suc k) d e within = default_free xs k d e (omega (arith, within))

pub long_judged : (xs : List JudgedPoints) → length (map judged_by xs) ≡ length xs
long_judged [] = refl
long_judged (x ∷ xs) = ap suc_of (long_judged xs)
  where
    suc_of : ℕ → ℕ
    suc_of k = suc k

rank_read : (xs : List JudgedPoints) (k : ℕ) (d : JudgedPoints) → k < length xs →
    (get_or xs k d).id.rank ≡ (judged_at (map judged_by xs) k).id.rank
rank_read xs k d within = ap (λ (a : JudgedAccess). a.id.rank) (judged_read xs k d within)

pub parted_by_rank : (xs : List JudgedPoints) (r : ℕ) → IsAscending (map judged_by xs) →
    IsPartitionedBy (λ (a : JudgedPoints). nat_lt a.id.rank r) xs
parted_by_rank xs r ascending i j d order within below =
    let long = long_judged xs in
    let rise = ranks_rise (map judged_by xs) ascending i j order (omega (arith, within, long)) in
    let first = rank_read xs i d (omega (arith, order, within)) in
    let second = rank_read xs j d within in
    let low = ltb-true (get_or xs j d).id.rank r below in
    lt-ltb (get_or xs i d).id.rank r (omega (arith, rise, first, second, low))

nothing : JudgedPoints
nothing = record { id = record { rank = 0; index = 0 }; access = no_access; done = []; visible = [] }

pub below_from : (xs : List JudgedPoints) (r n : ℕ) →
    IsPartitionPoint (λ (a : JudgedPoints). nat_lt a.id.rank r ≡ true)
    (λ (a : JudgedPoints). nat_lt a.id.rank r ≡ false) xs n → AreBelow (map judged_by xs) r n
below_from xs r n point = record {
  low = λ k less within.
      let long = long_judged xs in
      let there : k < length xs = omega (arith, within, long) in
      let low = ltb-true (get_or xs k nothing).id.rank r (point.0 k nothing (omega arith) less) in
      let read = rank_read xs k nothing there in
      omega (arith, low, read);
  high = λ k more within.
      let long = long_judged xs in
      let there : k < length xs = omega (arith, within, long) in
      let high = ltb-false (get_or xs k nothing).id.rank r (point.1 k nothing more there) in
      let read = rank_read xs k nothing there in
      omega (arith, high, read);
}
