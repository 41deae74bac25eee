-- Partners that are found by a sweep.
use Rattle.std.proofs.Common.{◌≡◌, ℕ, ◌<◌, ◌≤◌, ◌⊎◌, inl, inr, Bool, true, false, not, List, [], ◌∷◌, length, Option}
use Rattle.std.proofs.Common.{Some, None}
use Rattle.std.proofs.Common.{zero, suc, get_or, map}
use Rattle.first_points.specs.Alike.{judged_by}
use Rattle.first_points.specs.declared.accesses.JudgedPoints.{JudgedPoints}
use Rattle.std.proofs.Common.{refl, ap, sym, subst, ◌∙◌, arith}
use Rattle.std.specs.Prelude.{◌||◌, ◌&&◌, if◌then◌else◌, nat_lt, slice_index, slice_set}
use Rattle.std.specs.Option.{is_some, option_map_or}
use Rattle.std.proofs.lemmas.Bool.{and_from, and_parts, both_ways, cases_Bool, cases_eq, cases_lt, false≢true}
use Rattle.std.proofs.lemmas.Bool.{lt-ltb, le-ltb, ltb-true, not-true, not_from_false, false_from_ne_true}
use Rattle.std.proofs.lemmas.List.{get_or-set_other, get_or-set_same, length-set}
use Rattle.rma_types.specs.declared.accesses.Id.{Id}
use Rattle.rma_types.specs.declared.findings.Model.{Model}
use Rattle.rma_types.specs.declared.findings.Rule.{Rule}
use Rattle.order_rules.specs.Findings.{pair_rule}
use Rattle.order_rules.specs.Ordered.{JudgedAccess, is_ordered}
use Rattle.order_rules.specs.Rules.{forbidden_kind}
use Rattle.vector_clocks.specs.Marks.{before_in}
use Rattle.access_sweeps.specs.Labels.{do_stand, label_of}
use Rattle.access_sweeps.specs.Places.{AreLeastOf, ArePartners, IsLeastOf, NoneRises, is_pair, judged_at}
use Rattle.access_sweeps.specs.Sweeps.{DoAllStand, HaveLabel, IsChosen, IsLater, IsSwept, accesses_of}
use Rattle.access_sweeps.specs.Sweeps.{improved, improved_at, passed_of}
use Rattle.access_sweeps.specs.declared.kinds.Label.{Label}
use Rattle.access_sweeps.specs.declared.sweeps.Sweep.{Sweep}
use Rattle.access_sweeps.proofs.Stands.{stand_through, stand_turned}

-- ---- forbidden pairs

parts : (o : Option Rule) (p q : Bool) →
    is_some (option_map_or (λ rule. if p || q then None else Some rule) o None) ≡ true →
    (is_some o ≡ true) × (p ≡ false) × (q ≡ false)
parts None p q some = absurd (false≢true some)
parts (Some rule) true q some = absurd (false≢true some)
parts (Some rule) false true some = absurd (false≢true some)
parts (Some rule) false false some = (refl, refl, refl)

from_parts : (o : Option Rule) (p q : Bool) → is_some o ≡ true → p ≡ false → q ≡ false →
    is_some (option_map_or (λ rule. if p || q then None else Some rule) o None) ≡ true
from_parts None p q some one two = absurd (false≢true some)
from_parts (Some rule) true q some one two = absurd (false≢true (sym one))
from_parts (Some rule) false true some one two = absurd (false≢true (sym two))
from_parts (Some rule) false false some one two = refl

module _ (model : Model) (before : Id → Id → Bool) (a b : JudgedAccess) where
  pub pair_parts : is_some (pair_rule model before a b) ≡ true →
      (is_some (forbidden_kind a.access a.id.rank b.access b.id.rank model) ≡ true)
      × (is_ordered before a b ≡ false) × (is_ordered before b a ≡ false)
  pair_parts = parts (forbidden_kind a.access a.id.rank b.access b.id.rank model) (is_ordered before a b)
      (is_ordered before b a)

  pub pair_from : is_some (forbidden_kind a.access a.id.rank b.access b.id.rank model) ≡ true →
      is_ordered before a b ≡ false → is_ordered before b a ≡ false → is_some (pair_rule model before a b) ≡ true
  pair_from = from_parts (forbidden_kind a.access a.id.rank b.access b.id.rank model) (is_ordered before a b)
      (is_ordered before b a)

-- ---- a partner that may be better

module _ (before : Id → Id → Bool) (xs : List JudgedAccess) (best : List ℕ) (a b : ℕ) (within : b < length best) where
  abbrev is_better : Bool
  is_better = nat_lt a b && nat_lt a (slice_index best b) && not (is_ordered before (judged_at xs b) (judged_at xs a))

  -- either nothing changes, or the access is the new partner
  pub taken_or_not : ((is_better ≡ true) × (improved before xs best a b ≡ slice_set best b a))
      ⊎ ((is_better ≡ false) × (improved before xs best a b ≡ best))
  taken_or_not = elim (cases_Bool is_better) [
    | inl one ↦ inl (one, ap (λ t. if t then slice_set best b a else best) one)
    | inr two ↦ inr (two, ap (λ t. if t then slice_set best b a else best) two)
  ]

  better_parts : is_better ≡ true →
      (a < b) × (a < slice_index best b) × (is_ordered before (judged_at xs b) (judged_at xs a) ≡ false)
  better_parts is =
      let outer = and_parts (nat_lt a b && nat_lt a (slice_index best b))
      (not (is_ordered before (judged_at xs b) (judged_at xs a))) is in
      let inner = and_parts (nat_lt a b) (nat_lt a (slice_index best b)) outer.0 in (
        ltb-true a b inner.0,
        ltb-true a (slice_index best b) inner.1,
        not-true (is_ordered before (judged_at xs b) (judged_at xs a)) outer.1,
      )

  pub improved_long : length (improved before xs best a b) ≡ length best
  improved_long = elim taken_or_not [
    | inl one ↦ ap length one.1 ∙ length-set best b a
    | inr two ↦ ap length two.1
  ]

  pub improved_falls : NoneRises best (improved before xs best a b)
  improved_falls c = elim taken_or_not [
    | inl one ↦ subst (λ (l : List ℕ). slice_index l c ≤ slice_index best c) (sym one.1)
        (elim (cases_eq c b) [
          | inl same ↦
              let here : slice_index (slice_set best b a) c ≡ a =
              subst (λ n. slice_index (slice_set best b a) n ≡ a) (sym same) (get_or-set_same best b a 0 within) in
              let less = (better_parts one.0).1 in
              let equal = ap (slice_index best) same in
              omega (arith, here, less, equal)
          | inr other ↦
              let here : slice_index (slice_set best b a) c ≡ slice_index best c =
              get_or-set_other best b c a 0 other in
              omega (arith, here)
        ])
    | inr two ↦ subst (λ (l : List ℕ). slice_index l c ≤ slice_index best c) (sym two.1) (omega arith)
  ]

  -- it is at most the access, where that may be a partner
  pub improved_least : a < b → is_ordered before (judged_at xs b) (judged_at xs a) ≡ false →
      slice_index (improved before xs best a b) b ≤ a
  improved_least low free = elim taken_or_not [
    | inl one ↦
        let here = ap (λ l. slice_index l b) one.1 ∙ get_or-set_same best b a 0 within in
        omega (arith, here)
    | inr two ↦
        let here = ap (λ l. slice_index l b) two.1 in
        elim (cases_lt a (slice_index best b)) [
          | inl less ↦ absurd (both_ways is_better two.0
              (and_from (nat_lt a b && nat_lt a (slice_index best b))
              (not (is_ordered before (judged_at xs b) (judged_at xs a)))
              (and_from (nat_lt a b) (nat_lt a (slice_index best b)) (lt-ltb a b low)
              (lt-ltb a (slice_index best b) less))
              (not_from_false (is_ordered before (judged_at xs b) (judged_at xs a)) free)))
          | inr most ↦ omega (arith, here, most)
        ]
  ]

  pub improved_partners : (model : Model) → ArePartners model before xs best →
      (is_ordered before (judged_at xs b) (judged_at xs a) ≡ false → is_pair model before xs a b ≡ true) →
      ArePartners model before xs (improved before xs best a b)
  improved_partners model are pair = elim taken_or_not [
    | inl one ↦
        let better = better_parts one.0 in
        subst (ArePartners model before xs) (sym one.1) (record {
          within = λ c low. elim (cases_eq c b) [
            | inl same ↦
                let here : slice_index (slice_set best b a) c ≡ a =
                subst (λ n. slice_index (slice_set best b a) n ≡ a) (sym same) (get_or-set_same best b a 0 within) in
                omega (arith, here, same, better.0)
            | inr other ↦
                let here : slice_index (slice_set best b a) c ≡ slice_index best c =
                get_or-set_other best b c a 0 other in
                let old = are.within c low in
                omega (arith, here, old)
          ];
          pair = λ c low less. elim (cases_eq c b) [
            | inl same ↦
                let here : slice_index (slice_set best b a) c ≡ a =
                subst (λ n. slice_index (slice_set best b a) n ≡ a) (sym same) (get_or-set_same best b a 0 within) in
                subst (λ n. is_pair model before xs n c ≡ true) (sym here)
                (subst (λ n. is_pair model before xs a n ≡ true) (sym same) (pair better.2))
            | inr other ↦
                let here : slice_index (slice_set best b a) c ≡ slice_index best c =
                get_or-set_other best b c a 0 other in
                subst (λ n. is_pair model before xs n c ≡ true) (sym here)
                (are.pair c low (subst (λ n. n < c) here less))
          ];
        })
    | inr two ↦ subst (ArePartners model before xs) (sym two.1) are
  ]

-- ---- one access of the second list

module _ (s : Sweep) (best : List ℕ) (at b : ℕ) (within : b < length best) where
  -- the partner of the choice, where there is one
  pub chosen_or_not : ((at < length s.first.now)
      × (improved_at s best at b ≡ improved (before_in s.clocks.now) (accesses_of s) best (slice_index s.first.now at) b))
      ⊎ ((length s.first.now ≤ at) × (improved_at s best at b ≡ best))
  chosen_or_not = elim (cases_lt at (length s.first.now)) [
    | inl low ↦ inl (
      low,
      ap (λ t. if t then improved (before_in s.clocks.now) (accesses_of s) best
          (slice_index s.first.now at) b else best) (lt-ltb at (length s.first.now) low),
    )
    | inr high ↦ inr (
      high,
      ap (λ t. if t then improved (before_in s.clocks.now) (accesses_of s) best
          (slice_index s.first.now at) b else best) (le-ltb at (length s.first.now) high),
    )
  ]

  pub chosen_long : length (improved_at s best at b) ≡ length best
  chosen_long = elim chosen_or_not [
    | inl one ↦ ap length one.1
        ∙ improved_long (before_in s.clocks.now) (accesses_of s) best (slice_index s.first.now at) b within
    | inr two ↦ ap length two.1
  ]

  pub chosen_falls : NoneRises best (improved_at s best at b)
  chosen_falls = elim chosen_or_not [
    | inl one ↦ subst (NoneRises best) (sym one.1)
        (improved_falls (before_in s.clocks.now) (accesses_of s) best (slice_index s.first.now at) b within)
    | inr two ↦ subst (NoneRises best) (sym two.1) (λ c. omega arith)
  ]

-- the access at hand of the second list
module _ (model : Model) (s : Sweep) (swept : IsSwept model s) (best : List ℕ) (j at b : ℕ)
    (there : j < length s.second.now) (is : b ≡ slice_index s.second.now j) (within : b < length best)
    (chosen : IsChosen (passed_of s) at (judged_at (accesses_of s) b)) where
  abbrev the_order : Id → Id → Bool
  the_order = before_in s.clocks.now

  decided : (k : ℕ) → k < length s.first.now →
      let a = judged_at (accesses_of s) (slice_index s.first.now k) in
      let y = judged_at (accesses_of s) b in
      is_some (forbidden_kind a.access a.id.rank y.access y.id.rank model)
      ≡ not (do_stand (label_of s.by_operation a.access) (label_of s.by_operation y.access))
  decided k low = subst (λ n.
      is_some (forbidden_kind (judged_at (accesses_of s) (slice_index s.first.now k)).access
      (judged_at (accesses_of s) (slice_index s.first.now k)).id.rank (judged_at (accesses_of s) n).access
      (judged_at (accesses_of s) n).id.rank model)
      ≡ not (do_stand (label_of s.by_operation (judged_at (accesses_of s) (slice_index s.first.now k)).access)
      (label_of s.by_operation (judged_at (accesses_of s) n).access))) (sym is) (swept.decides k j low there)

  pub chosen_partners : ArePartners model the_order (accesses_of s) best →
      ArePartners model the_order (accesses_of s) (improved_at s best at b)
  chosen_partners are = elim (chosen_or_not s best at b within) [
    | inl one ↦
        let x = judged_at (accesses_of s) (slice_index s.first.now at) in
        let y = judged_at (accesses_of s) b in
        subst (ArePartners model the_order (accesses_of s)) (sym one.1)
        (improved_partners the_order (accesses_of s) best (slice_index s.first.now at) b within model are
        (λ free. pair_from model the_order x y
        (decided at one.0 ∙ ap not (chosen.apart one.0)) (chosen.unordered one.0) free))
    | inr two ↦ subst (ArePartners model the_order (accesses_of s)) (sym two.1) are
  ]

  pub chosen_least : IsLeastOf model the_order (accesses_of s) s.first.now b (improved_at s best at b)
  chosen_least k low less pair =
      let x = judged_at (accesses_of s) (slice_index s.first.now k) in
      let y = judged_at (accesses_of s) b in
      let free = pair_parts model the_order x y pair in
      let apart : do_stand (label_of s.by_operation x.access) (label_of s.by_operation y.access) ≡ false =
      not-true (do_stand (label_of s.by_operation x.access) (label_of s.by_operation y.access))
      (sym (decided k low) ∙ free.0) in
      let first : at ≤ k = chosen.least k low free.1 apart in
      let have : at < length s.first.now = omega (arith, first, low) in
      let below : slice_index s.first.now at ≤ slice_index s.first.now k = swept.rising at k first low in
      let back : is_ordered the_order y (judged_at (accesses_of s) (slice_index s.first.now at)) ≡ false =
      false_from_ne_true (is_ordered the_order y (judged_at (accesses_of s) (slice_index s.first.now at)))
      (λ ordered. both_ways (is_ordered the_order y x) free.2
      (subst (λ n. is_ordered the_order (judged_at (accesses_of s) n) x ≡ true) (sym is)
      (swept.backward j at k there first low
      (subst (λ n. is_ordered the_order (judged_at (accesses_of s) n)
      (judged_at (accesses_of s) (slice_index s.first.now at)) ≡ true) is ordered)))) in
      elim (chosen_or_not s best at b within) [
        | inl one ↦
            let least : slice_index (improved the_order (accesses_of s) best (slice_index s.first.now at) b) b
            ≤ slice_index s.first.now at =
            improved_least the_order (accesses_of s) best (slice_index s.first.now at) b within
            (omega (arith, below, less)) back in
            subst (λ (l : List ℕ). slice_index l b ≤ slice_index s.first.now k) (sym one.1)
            (omega (arith, least, below))
        | inr two ↦ absurd (omega (arith, two.0, have))
      ]

-- the front that moved on is one for each later access of the second list
pub front_from : (model : Model) (s : Sweep) → IsSwept model s → (b j : ℕ) → j < length s.second.now →
    b ≡ slice_index s.second.now j → (i : ℕ) → j ≤ i → i < length s.second.now →
    IsLater (passed_of s) (judged_at (accesses_of s) b) (judged_at (accesses_of s) (slice_index s.second.now i))
front_from model s swept b j there is i order within k low passed =
    swept.forward k j i low order within
    (subst (λ n. is_ordered (before_in s.clocks.now) (judged_at (accesses_of s) (slice_index s.first.now k))
    (judged_at (accesses_of s) n) ≡ true) is passed)

-- no access of the first list is smaller than the partner so far
pub settled_least : (model : Model) (s : Sweep) → IsSwept model s → (best : List ℕ) (b : ℕ) →
    (length s.first.now ≡ 0) ⊎ (slice_index best b ≤ slice_index s.first.now 0) →
    IsLeastOf model (before_in s.clocks.now) (accesses_of s) s.first.now b best
settled_least model s swept best b (inl none) k low less pair = absurd (omega (arith, none, low))
settled_least model s swept best b (inr most) k low less pair =
    let rises : slice_index s.first.now 0 ≤ slice_index s.first.now k = swept.rising 0 k (omega arith) low in
    omega (arith, most, rises)

-- an access that is read at its place, whatever stands for one that is not there
pub judged_read : (xs : List JudgedPoints) (b : ℕ) (d : JudgedPoints) → b < length xs →
    judged_by (get_or xs b d) ≡ judged_at (map judged_by xs) b
judged_read [] b d within = absurd (omega (arith, within))
judged_read (y ∷ xs) zero d within = refl
judged_read (y ∷ xs) (suc b) d within = judged_read xs b d (omega (arith, within))

-- accesses that may all stand beside each other form no pairs
pub standing_least : (model : Model) (s : Sweep) → IsSwept model s → DoAllStand s → (best : List ℕ) →
    AreLeastOf model (before_in s.clocks.now) (accesses_of s) s.first.now s.second.now best
standing_least model s swept stand best j within k low less pair =
    let x = judged_at (accesses_of s) (slice_index s.first.now k) in
    let y = judged_at (accesses_of s) (slice_index s.second.now j) in
    absurd (false≢true (sym (swept.decides k j low within ∙ ap not (stand k j low within))
    ∙ (pair_parts model (before_in s.clocks.now) x y pair).0))

-- both lists have the label of the first access
pub labelled_stand : (s : Sweep) (label : Option Label) → HaveLabel s s.first.now label →
    HaveLabel s s.second.now label → DoAllStand s
labelled_stand s label first second k j low within =
    let a = label_of s.by_operation (judged_at (accesses_of s) (slice_index s.first.now k)).access in
    let b = label_of s.by_operation (judged_at (accesses_of s) (slice_index s.second.now j)).access in
    stand_through a label b (first k low) (stand_turned b label (second j within))
