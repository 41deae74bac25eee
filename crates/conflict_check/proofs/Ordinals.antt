-- The accesses of a rank, as they stand among all.
use Rattle.std.proofs.Common.{◌≡◌, ℕ, zero, suc, ◌+◌, ◌<◌, ◌≤◌, inl, inr, List, [], ◌∷◌, ◌++◌, length}
use Rattle.std.proofs.Common.{refl, ap, sym, subst, ◌∙◌, arith, get_or}
use Rattle.std.specs.Prelude.{Contains, ◌==◌, cond, if◌then◌else◌, map}
use Rattle.std.specs.List.{filter}
use Rattle.std.proofs.lemmas.Bool.{cases_eq, cases_lt, eq-eqb, ne_eqb}
use Rattle.std.proofs.lemmas.List.{map-append, append-nil}
use Rattle.std.proofs.lemmas.List.Elements.{filter-append}
use Rattle.rma_types.specs.declared.accesses.Access.{Access}
use Rattle.order_rules.specs.Ordered.{JudgedAccess}
use Rattle.access_index.specs.Indexes.{BelongsTo, HasAccesses, access_at, no_access, with_access}
use Rattle.access_index.specs.Lists.{ordinals_in}
use Rattle.access_index.specs.Regions.{IsIn}
use Rattle.access_index.specs.declared.index.AccessIndex.{AccessIndex}
use Rattle.access_index.specs.declared.regions.Class.{Class}
use Rattle.access_index.specs.declared.regions.Region.{Region}
use Rattle.access_index.proofs.Rises.{place_of, there_at}
use Rattle.access_sweeps.specs.Places.{judged_at}
use Rattle.conflict_check.specs.Listings.{IsAscending, IsAt, IsListing, rows_of}
use Rattle.conflict_check.proofs.Common.{rank_in}

-- ---- the rows of a rank

row_same : (x : JudgedAccess) (xs : List JudgedAccess) (r : ℕ) → x.id.rank ≡ r →
    rows_of (x ∷ xs) r ≡ x.access ∷ rows_of xs r
row_same x xs r same = ap (λ t. map (λ (a : JudgedAccess). a.access)
    (cond t (x ∷ filter (λ (a : JudgedAccess). a.id.rank == r) xs) (filter (λ (a : JudgedAccess). a.id.rank == r) xs)))
    (eq-eqb x.id.rank r same)

row_other : (x : JudgedAccess) (xs : List JudgedAccess) (r : ℕ) → (x.id.rank ≡ r → ⊥) →
    rows_of (x ∷ xs) r ≡ rows_of xs r
row_other x xs r other = ap (λ t. map (λ (a : JudgedAccess). a.access)
    (cond t (x ∷ filter (λ (a : JudgedAccess). a.id.rank == r) xs) (filter (λ (a : JudgedAccess). a.id.rank == r) xs)))
    (ne_eqb x.id.rank r other)

-- an access at a place is among those of its rank
pub place_row : (xs : List JudgedAccess) (r p : ℕ) → p < length xs → (judged_at xs p).id.rank ≡ r →
    (o : ℕ) × (o < length (rows_of xs r)) × (access_at (rows_of xs) r o ≡ (judged_at xs p).access)
place_row [] r p within of_rank = absurd (omega (arith, within))
place_row (x ∷ xs) r zero within of_rank =
    let rows = row_same x xs r of_rank in
    let long = ap length rows in
    (0, omega (arith, long), ap (λ l. get_or l 0 no_access) rows)
place_row (x ∷ xs) r (suc p) within of_rank =
    let rest = place_row xs r p (omega (arith, within)) of_rank in
    elim (cases_eq x.id.rank r) [
      | inl same ↦
          let rows = row_same x xs r same in
          let long = ap length rows in
          let low = rest.1 in
          (suc rest.0, omega (arith, long, low), ap (λ l. get_or l (suc rest.0) no_access) rows ∙ rest.2)
      | inr other ↦
          let rows = row_other x xs r other in (
            rest.0,
            subst (λ (l : List Access). rest.0 < length l) (sym rows) rest.1,
            ap (λ l. get_or l rest.0 no_access) rows ∙ rest.2,
          )
    ]

-- the ranks of the accesses rise
abbrev pub RanksRise : List JudgedAccess → Type 0
RanksRise xs = (i j : ℕ) → i ≤ j → j < length xs → (judged_at xs i).id.rank ≤ (judged_at xs j).id.rank

tail_rises : (x : JudgedAccess) (xs : List JudgedAccess) → RanksRise (x ∷ xs) → RanksRise xs
tail_rises x xs rise i j order within = rise (suc i) (suc j) (omega (arith, order)) (omega (arith, within))

-- so many accesses are of a smaller rank
pub record AreBelow (xs : List JudgedAccess) (r n : ℕ) : Type 0 where
  pub low : (k : ℕ) → k < n → k < length xs → (judged_at xs k).id.rank < r
  pub high : (k : ℕ) → n ≤ k → k < length xs → r ≤ (judged_at xs k).id.rank

tail_below : (x : JudgedAccess) (xs : List JudgedAccess) (r n : ℕ) → AreBelow (x ∷ xs) r (suc n) → AreBelow xs r n
tail_below x xs r n below = record {
  low = λ k less within. below.low (suc k) (omega (arith, less)) (omega (arith, within));
  high = λ k more within. below.high (suc k) (omega (arith, more)) (omega (arith, within));
}

tail_first : (x : JudgedAccess) (xs : List JudgedAccess) (r : ℕ) → AreBelow (x ∷ xs) r 0 → AreBelow xs r 0
tail_first x xs r below = record {
  low = λ k less within. absurd (omega (arith, less));
  high = λ k more within. below.high (suc k) (omega arith) (omega (arith, within));
}

abbrev StandsAt : List JudgedAccess → ℕ → ℕ → ℕ → Type 0
StandsAt xs r n o = (n + o < length xs) × ((judged_at xs (n + o)).id.rank ≡ r)
    × (access_at (rows_of xs) r o ≡ (judged_at xs (n + o)).access)

first_here : (x : JudgedAccess) (xs : List JudgedAccess) (r : ℕ) → x.id.rank ≡ r →
    ((o : ℕ) → o < length (rows_of xs r) → StandsAt xs r 0 o) → (o : ℕ) → o < length (rows_of (x ∷ xs) r) →
    StandsAt (x ∷ xs) r 0 o
first_here x xs r same rest zero within =
    (omega arith, same, ap (λ l. get_or l 0 no_access) (row_same x xs r same))
first_here x xs r same rest (suc p) within =
    let rows = row_same x xs r same in
    let long = ap length rows in
    let one = rest p (omega (arith, within, long)) in
    let next : suc (0 + p) ≡ 0 + suc p = omega arith in
    let low = one.0 in (
      omega (arith, low),
      subst (λ m. (judged_at (x ∷ xs) m).id.rank ≡ r) next one.1,
      ap (λ l. get_or l (suc p) no_access) rows ∙ one.2 ∙ ap (λ m. (judged_at (x ∷ xs) m).access) next,
    )

-- the access of an ordinal stands so many places after the first of its rank
pub ordinal_at : (xs : List JudgedAccess) (r n : ℕ) → RanksRise xs → AreBelow xs r n → (o : ℕ) →
    o < length (rows_of xs r) →
    (n + o < length xs) × ((judged_at xs (n + o)).id.rank ≡ r)
    × (access_at (rows_of xs) r o ≡ (judged_at xs (n + o)).access)
ordinal_at [] r n rise below o within = absurd (omega (arith, within))
ordinal_at (x ∷ xs) r (suc n) rise below o within =
    let less = below.low 0 (omega arith) (omega arith) in
    let rows = row_other x xs r (λ e. absurd (omega (arith, e, less))) in
    let rest = ordinal_at xs r n (tail_rises x xs rise) (tail_below x xs r n below) o
    (subst (λ (l : List Access). o < length l) rows within) in
    let next : suc (n + o) ≡ suc n + o = omega arith in
    let low = rest.0 in (
      omega (arith, low),
      subst (λ m. (judged_at (x ∷ xs) m).id.rank ≡ r) next rest.1,
      ap (λ l. get_or l o no_access) rows ∙ rest.2 ∙ ap (λ m. (judged_at (x ∷ xs) m).access) next,
    )
ordinal_at (x ∷ xs) r zero rise below o within = elim (cases_eq x.id.rank r) [
  | inl same ↦ first_here x xs r same
      (ordinal_at xs r 0 (tail_rises x xs rise) (tail_first x xs r below)) o within
  | inr other ↦
      let rows = row_other x xs r other in
      let rest = ordinal_at xs r 0 (tail_rises x xs rise) (tail_first x xs r below) o
      (subst (λ (l : List Access). o < length l) rows within) in
      let bound = rest.0 in
      let more = below.high 0 (omega arith) (omega arith) in
      let rises = rise 0 (suc (0 + o)) (omega arith) (omega (arith, bound)) in
      let equal = rest.1 in
      absurd (other (omega (arith, more, rises, equal)))
]

-- an access at a place is among those of its rank, and its ordinal stands there
ordinal_there : (xs : List JudgedAccess) (r n : ℕ) → RanksRise xs → AreBelow xs r n → (p : ℕ) → p < length xs →
    (judged_at xs p).id.rank ≡ r → (o : ℕ) × (o < length (rows_of xs r)) × (n + o ≡ p)
ordinal_there [] r n rise below p within of_rank = absurd (omega (arith, within))
ordinal_there (x ∷ xs) r (suc n) rise below zero within of_rank =
    let less = below.low 0 (omega arith) (omega arith) in
    absurd (omega (arith, less, of_rank))
ordinal_there (x ∷ xs) r (suc n) rise below (suc p) within of_rank =
    let less = below.low 0 (omega arith) (omega arith) in
    let rows = row_other x xs r (λ e. absurd (omega (arith, e, less))) in
    let rest = ordinal_there xs r n (tail_rises x xs rise) (tail_below x xs r n below) p (omega (arith, within)) of_rank in
    let stand = rest.2 in
    (rest.0, subst (λ (l : List Access). rest.0 < length l) (sym rows) rest.1, omega (arith, stand))
ordinal_there (x ∷ xs) r zero rise below zero within of_rank =
    let long = ap length (row_same x xs r of_rank) in
    (0, omega (arith, long), omega arith)
ordinal_there (x ∷ xs) r zero rise below (suc p) within of_rank =
    let rest = ordinal_there xs r 0 (tail_rises x xs rise) (tail_first x xs r below) p (omega (arith, within)) of_rank in
    let more = below.high 0 (omega arith) (omega arith) in
    let rises = rise 0 (suc p) (omega arith) within in
    let same : x.id.rank ≡ r = omega (arith, more, rises, of_rank) in
    let long = ap length (row_same x xs r same) in
    let low = rest.1 in
    let stand = rest.2 in
    (suc rest.0, omega (arith, long, low), omega (arith, stand))

-- ---- the listing of a class

pub ranks_rise : (xs : List JudgedAccess) → IsAscending xs → RanksRise xs
ranks_rise xs ascending i j order within = elim (cases_lt i j) [
  | inl less ↦ elim (ascending i j less within) [
    | inl smaller ↦ omega (arith, smaller)
    | inr equal ↦ let same = equal.0 in omega (arith, same)
  ]
  | inr most ↦
      let same : i ≡ j = omega (arith, order, most) in
      let equal : (judged_at xs i).id.rank ≡ (judged_at xs j).id.rank = ap (λ k. (judged_at xs k).id.rank) same in
      omega (arith, equal)
]

abbrev pub moved : ℕ → List ℕ → List ℕ
moved n os = map (λ o. n + o) os

moved_long : (n : ℕ) (os : List ℕ) → length (moved n os) ≡ length os
moved_long n [] = refl
moved_long n (o ∷ os) = ap suc_of (moved_long n os)
  where
    suc_of : ℕ → ℕ
    suc_of k = suc k

moved_at : (n : ℕ) (os : List ℕ) (k : ℕ) → k < length os → get_or (moved n os) k 0 ≡ n + get_or os k 0
moved_at n [] k within = absurd (omega (arith, within))
moved_at n (o ∷ os) zero within = refl
moved_at n (o ∷ os) (suc k) within = moved_at n os k (omega (arith, within))

moved_there : (n : ℕ) (os : List ℕ) (o : ℕ) → Contains os o → Contains (moved n os) (n + o)
moved_there n os o has =
    let place = place_of os o has in
    let long = moved_long n os in
    let low = place.1 in
    let within : place.0 < length (moved n os) = omega (arith, long, low) in
    subst (λ m. Contains (moved n os) m) (moved_at n os place.0 place.1 ∙ ap (λ m. n + m) place.2)
    (there_at (moved n os) place.0 within)

module _ (xs : List JudgedAccess) (ascending : IsAscending xs) (index : AccessIndex)
    (has : HasAccesses index (rows_of xs)) (region : Region) (class : Class) (n : ℕ)
    (below : AreBelow xs class.rank n) where
  abbrev listed : List ℕ
  listed = ordinals_in index.ordinals (record { region = region; class = class })

  belongs : (k : ℕ) → k < length listed →
      BelongsTo (rows_of xs) (record { region = region; class = class }) (get_or listed k 0)
  belongs k within = has.sound.belongs (record { region = region; class = class }) (get_or listed k 0)
      (there_at listed k within)

  stands : (k : ℕ) → k < length listed → StandsAt xs class.rank n (get_or listed k 0)
  stands k within = ordinal_at xs class.rank n (ranks_rise xs ascending) below (get_or listed k 0)
      (belongs k within).there

  inside : (k : ℕ) → k < length listed → IsAt xs region class (n + get_or listed k 0)
  inside k within =
      let one = stands k within in
      subst (λ (a : Access). IsIn region class (judged_at xs (n + get_or listed k 0)).id.rank a) one.2
      (subst (λ r. IsIn region class r (access_at (rows_of xs) class.rank (get_or listed k 0))) (sym one.1)
      (belongs k within).placed)

  -- the access at a place is in its rank's row, at an ordinal that stands there
  ordinal_of : (p : ℕ) → p < length xs → (judged_at xs p).id.rank ≡ class.rank →
      (o : ℕ) × (o < length (rows_of xs class.rank)) × (n + o ≡ p)
  ordinal_of p within of_rank = ordinal_there xs class.rank n (ranks_rise xs ascending) below p within of_rank

  pub listing : IsListing xs region class (moved n listed)
  listing = record {
    rising = λ i j order within.
        let long = moved_long n listed in
        let low : j < length listed = omega (arith, within, long) in
        let first = moved_at n listed i (omega (arith, order, low)) in
        let second = moved_at n listed j low in
        let rises : get_or listed i 0 ≤ get_or listed j 0 =
        has.sound.rises (record { region = region; class = class }) i j order low in
        omega (arith, first, second, rises);
    within = λ k within.
        let long = moved_long n listed in
        let low : k < length listed = omega (arith, within, long) in
        subst (λ p. p < length xs) (sym (moved_at n listed k low)) (stands k low).0;
    inside = λ k within.
        let long = moved_long n listed in
        let low : k < length listed = omega (arith, within, long) in
        subst (IsAt xs region class) (sym (moved_at n listed k low)) (inside k low);
    all = λ p within at.
        let of_rank : (judged_at xs p).id.rank ≡ class.rank =
        sym (rank_in region class (judged_at xs p).id.rank (judged_at xs p).access at) in
        let one = ordinal_of p within of_rank in
        let stand = ordinal_at xs class.rank n (ranks_rise xs ascending) below one.0 one.1 in
        subst (λ m. Contains (moved n listed) m) one.2
        (moved_there n listed one.0 (has.complete (record { region = region; class = class }) one.0 (record {
          there = one.1;
          placed = subst (λ (a : Access). IsIn region class class.rank a)
              (sym (stand.2 ∙ ap (λ m. (judged_at xs m).access) one.2))
              (subst (λ r. IsIn region class r (judged_at xs p).access) of_rank at);
        })));
  }

-- ---- one access more

pub rows_more : (xs : List JudgedAccess) (x : JudgedAccess) →
    rows_of (xs ++ x ∷ []) ≡ with_access (rows_of xs) x.id.rank x.access
rows_more xs x = λ i r. each r i
  where
    each : (r : ℕ) → rows_of (xs ++ x ∷ []) r ≡ with_access (rows_of xs) x.id.rank x.access r
    each r =
        ap (map (λ (a : JudgedAccess). a.access)) (filter-append (λ (a : JudgedAccess). a.id.rank == r) xs (x ∷ []))
        ∙ map-append (λ (a : JudgedAccess). a.access) (filter (λ (a : JudgedAccess). a.id.rank == r) xs)
        (filter (λ (a : JudgedAccess). a.id.rank == r) (x ∷ []))
        ∙ elim (cases_eq x.id.rank r) [
          | inl same ↦
              ap (λ l. rows_of xs r ++ l) (row_same x [] r same)
              ∙ sym (ap (λ t. if t then rows_of xs r ++ x.access ∷ [] else rows_of xs r)
              (eq-eqb r x.id.rank (sym same)))
          | inr other ↦
              ap (λ l. rows_of xs r ++ l) (row_other x [] r other)
              ∙ append-nil (rows_of xs r)
              ∙ sym (ap (λ t. if t then rows_of xs r ++ x.access ∷ [] else rows_of xs r)
              (ne_eqb r x.id.rank (λ e. other (sym e))))
        ]
