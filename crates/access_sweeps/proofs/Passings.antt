-- A front that moves on, and the access that is chosen at it.
use Rattle.std.proofs.Common.{◌≡◌, ℕ, ◌<◌, ◌≤◌, ◌⊎◌, inl, inr, true, false, length, arith}
use Rattle.std.specs.Prelude.{max}
use Rattle.std.proofs.lemmas.Bool.{both_ways, cases_Bool, cases_lt}
use Rattle.order_rules.specs.Ordered.{JudgedAccess}
use Rattle.access_sweeps.specs.Labels.{label_of}
use Rattle.access_sweeps.specs.Sweeps.{IsChoice, IsFront, IsLater, do_both_stand, first_at, is_passed}
use Rattle.access_sweeps.specs.declared.fronts.Front.{Front}
use Rattle.access_sweeps.specs.declared.fronts.Passed.{Passed}
use Rattle.access_sweeps.proofs.Stands.{stand_through, stand_turned}

module _ (s : Passed) where
  turned : (x y : JudgedAccess) → do_both_stand s x y ≡ true → do_both_stand s y x ≡ true
  turned x y = stand_turned (label_of s.by_operation x.access) (label_of s.by_operation y.access)

  through : (x y z : JudgedAccess) → do_both_stand s x y ≡ true → do_both_stand s y z ≡ true →
      do_both_stand s x z ≡ true
  through x y z = stand_through (label_of s.by_operation x.access) (label_of s.by_operation y.access)
      (label_of s.by_operation z.access)

  module _ (front : Front) (n other : ℕ) (y : JudgedAccess) (above : front.first ≤ n)
      (bound : n ≤ length s.places.now) (begin : front.first ≤ front.other) (top : front.other ≤ length s.places.now)
      (is : other ≡ max front.other n)
      (gone : (k : ℕ) → front.first ≤ k → k < n → is_passed s k y ≡ true)
      (stops : n < length s.places.now → is_passed s n y ≡ false) where
    -- one that is not passed, between the first and the other, has the label of the first
    like_first : IsFront s front y → n < front.other → do_both_stand s (first_at s n) (first_at s front.first) ≡ true
    like_first old low = elim (old.alike n above low) [
      | inl passed ↦ absurd (both_ways (is_passed s n y) (stops (omega (arith, low, top))) passed)
      | inr alike ↦ alike
    ]

    pub moved : IsFront s front y → (z : JudgedAccess) → IsLater s y z → IsFront s front z →
        IsFront s (record { first = n; other = other }) z
    moved old z later here = record {
      passed = λ k below. elim (cases_lt k front.first) [
        | inl before ↦ here.passed k before
        | inr from ↦ later k (omega (arith, below, bound)) (gone k from below)
      ];
      alike = λ k from below.
          let low : n < front.other = omega (arith, is, from, below) in
          let there : k < front.other = omega (arith, is, from, below) in
          elim (here.alike k (omega (arith, above, from)) there) [
            | inl passed ↦ inl passed
            | inr alike ↦ inr (through (first_at s k) (first_at s front.first) (first_at s n) alike
                (turned (first_at s n) (first_at s front.first) (like_first old low)))
          ];
    }

    self_later : IsLater s y y
    self_later k within passed = passed

    unpassed : IsFront s front y → (k : ℕ) → is_passed s k y ≡ false → n ≤ k
    unpassed old k fails = elim (cases_lt k n) [
      | inl below ↦ absurd (both_ways (is_passed s k y) fails ((moved old y self_later old).passed k below))
      | inr from ↦ from
    ]

    -- the first that is not passed is chosen where it may not stand beside the access
    pub first_chosen : (n < length s.places.now → do_both_stand s (first_at s n) y ≡ false) →
        IsChoice s front (record { front = record { first = n; other = other }; at = n }) y
    first_chosen apart old = (
      record { unordered = stops; apart = apart; least = λ k within fails other_label. unpassed old k fails },
      λ z later here. moved old z later here,
    )

    module _ (m : ℕ) (low : other ≤ m) (high : m ≤ length s.places.now)
        (stands : do_both_stand s (first_at s n) y ≡ true)
        (skips : (k : ℕ) → other ≤ k → k < m →
        (is_passed s k y ≡ true) ⊎ (do_both_stand s (first_at s k) (first_at s n) ≡ true))
        (unordered : m < length s.places.now → is_passed s m y ≡ false)
        (unlike : m < length s.places.now → do_both_stand s (first_at s m) (first_at s n) ≡ false) where
      widened : IsFront s front y → (z : JudgedAccess) → IsLater s y z → IsFront s front z →
          IsFront s (record { first = n; other = m }) z
      widened old z later here =
          let one = moved old z later here in record {
            passed = one.passed;
            alike = λ k from below. elim (cases_lt k other) [
              | inl before ↦ one.alike k from before
              | inr after ↦ elim (skips k after below) [
                | inl passed ↦ inl (later k (omega (arith, below, high)) passed)
                | inr alike ↦ inr alike
              ]
            ];
          }

      apart_other : m < length s.places.now → do_both_stand s (first_at s m) y ≡ false
      apart_other within = elim (cases_Bool (do_both_stand s (first_at s m) y)) [
        | inl one ↦ absurd (both_ways (do_both_stand s (first_at s m) (first_at s n)) (unlike within)
            (through (first_at s m) y (first_at s n) one (turned (first_at s n) y stands)))
        | inr two ↦ two
      ]

      above_other : IsFront s front y → (k : ℕ) → is_passed s k y ≡ false → do_both_stand s (first_at s k) y ≡ false →
          m ≤ k
      above_other old k fails label = elim (cases_lt k m) [
        | inl below ↦ elim ((widened old y self_later old).alike k (unpassed old k fails) below) [
          | inl passed ↦ absurd (both_ways (is_passed s k y) fails passed)
          | inr alike ↦ absurd (both_ways (do_both_stand s (first_at s k) y) label
              (through (first_at s k) (first_at s n) y alike stands))
        ]
        | inr from ↦ from
      ]

      -- where the first may stand beside the access, the next with another label is chosen
      pub other_chosen : IsChoice s front (record { front = record { first = n; other = m }; at = m }) y
      other_chosen old = (
        record {
          unordered = unordered;
          apart = apart_other;
          least = λ k within fails label. above_other old k fails label;
        },
        λ z later here. widened old z later here,
      )
