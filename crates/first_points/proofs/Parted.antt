-- The steps of a rank, parted by their places and by what is before them.
use Rattle.std.proofs.Common.{◌≡◌, ℕ, zero, suc, ◌<◌, ◌≤◌, inl, inr, Bool, true, false, List, [], ◌∷◌, length}
use Rattle.std.proofs.Common.{refl, ap, sym, subst, ◌∙◌, arith}
use Rattle.std.specs.Prelude.{◌==◌, ◌&&◌, drop, not, nat_le, nat_lt, slice_index, slice_index_or}
use Rattle.std.specs.List.{find, list_any}
use Rattle.std.specs.List.Sorted.{IsPartitionedBy, IsPartitionPoint}
use Rattle.std.proofs.lemmas.Bool.{cases_Bool, cases_lt, false≢true, and_parts, and_from, eqb-true, eq-eqb, leb-true}
use Rattle.std.proofs.lemmas.Bool.{le-leb}
use Rattle.std.proofs.lemmas.Bool.{lt-ltb, ltb-true, or_cases, or_left, or_right}
use Rattle.list_laws.proofs.Members.{In, here, there, any_in, in_any, in_contains}
use Rattle.rma_types.specs.declared.accesses.Id.{Id}
use Rattle.order_rules.specs.Before.{StandsBefore}
use Rattle.vector_clocks.specs.Marks.{before_in, is_marked, marks_of}
use Rattle.vector_clocks.specs.declared.marks.Mark.{Mark}
use Rattle.rank_records.specs.declared.kept.KeptStep.{KeptStep}
use Rattle.first_points.specs.Alike.{reaches}
use Rattle.first_points.specs.KeptPoints.{AreAscending}
use Rattle.first_points.proofs.Finds.{found_from}

element_in : (steps : List KeptStep) (k : ℕ) (d : KeptStep) → k < length steps → In (slice_index_or steps k d) steps
element_in [] k d within = absurd (omega arith)
element_in (step ∷ rest) zero d within = here
element_in (step ∷ rest) (suc k) d within = there (element_in rest k d (omega (arith, within)))

-- of two steps of a rank, the earlier one stands before the later one
ordered : (steps : List KeptStep) → AreAscending steps → (i j : ℕ) (d : KeptStep) → i < j → j < length steps →
    StandsBefore (slice_index_or steps i d).id (slice_index_or steps j d).id
ordered [] ascending i j d up within = absurd (omega arith)
ordered (step ∷ rest) ascending i zero d up within = absurd (omega arith)
ordered (step ∷ rest) ascending zero (suc j) d up within =
    ascending.0 (slice_index_or rest j d) (in_contains (element_in rest j d (omega (arith, within))))
ordered (step ∷ rest) ascending (suc i) (suc j) d up within =
    ordered rest ascending.1 i j d (omega (arith, up)) (omega (arith, within))

-- a test that no earlier step fails where a later one passes parts the steps
parted_by : (p : KeptStep → Bool) (steps : List KeptStep) → AreAscending steps →
    ((k later : KeptStep) → StandsBefore k.id later.id → p later ≡ true → p k ≡ true) → IsPartitionedBy p steps
parted_by p steps ascending falls i j d up within passes = elim (cases_lt i j) [
  | inl below ↦ falls (slice_index_or steps i d) (slice_index_or steps j d) (ordered steps ascending i j d below within)
      passes
  | inr above ↦
      let same : j ≡ i = omega (arith, up, above) in
      subst (λ k. p (slice_index_or steps k d) ≡ true) same passes
]

pub parted_within : (steps : List KeptStep) (index : ℕ) → AreAscending steps →
    IsPartitionedBy (λ (k : KeptStep). nat_le k.id.index index) steps
parted_within steps index ascending = parted_by (λ (k : KeptStep). nat_le k.id.index index) steps ascending
    (λ k later stands passes.
    let top = leb-true later.id.index index passes in
    le-leb k.id.index index (omega (arith, stands.1, top)))

-- ---- what comes before a step comes before the later ones

module _ (clocks : List (List Mark)) where
  marked_later : (a : Id) (first second : ℕ) (mark : Mark) → first ≤ second → is_marked a first mark ≡ true →
      is_marked a second mark ≡ true
  marked_later a first second mark up e =
      let parts = and_parts (nat_le mark.index first) (nat_lt a.index (slice_index mark.counts a.rank)) e in
      let top = leb-true mark.index first parts.0 in
      and_from (nat_le mark.index second) (nat_lt a.index (slice_index mark.counts a.rank))
      (le-leb mark.index second (omega (arith, top, up))) parts.1

  before_later_in : (a b c : Id) → StandsBefore b c → before_in clocks a b ≡ true → before_in clocks a c ≡ true
  before_later_in a b c stands e =
      elim (or_cases (a.rank == b.rank && nat_le a.index b.index) (list_any (is_marked a b.index) (marks_of clocks
      b.rank))
      e) [
        | inl own ↦
            let parts = and_parts (a.rank == b.rank) (nat_le a.index b.index) own in
            let rank = eqb-true a.rank b.rank parts.0 in
            let top = leb-true a.index b.index parts.1 in
            or_left (a.rank == c.rank && nat_le a.index c.index) (list_any (is_marked a c.index) (marks_of clocks
            c.rank))
            (and_from (a.rank == c.rank) (nat_le a.index c.index) (eq-eqb a.rank c.rank (rank ∙ stands.0))
            (le-leb a.index c.index (omega (arith, top, stands.1))))
        | inr marked ↦
            let one = any_in (is_marked a b.index) (marks_of clocks b.rank) marked in
            let counts = marked_later a b.index c.index one.0 (omega (arith, stands.1)) one.2 in
            or_right (a.rank == c.rank && nat_le a.index c.index) (list_any (is_marked a c.index) (marks_of clocks
            c.rank))
            (in_any (is_marked a c.index)
            (subst (λ r. In one.0 (marks_of clocks r)) stands.0 one.1) counts)
      ]

  reaches_later : (points : List Id) (b c : Id) → StandsBefore b c → reaches (before_in clocks) points b ≡ true →
      reaches (before_in clocks) points c ≡ true
  reaches_later points b c stands e =
      let one = any_in (λ point. before_in clocks point b) points e in
      in_any (λ point. before_in clocks point c) one.1 (before_later_in one.0 b c stands one.2)

  pub parted_unreached : (points : List Id) (steps : List KeptStep) → AreAscending steps →
      IsPartitionedBy (λ (k : KeptStep). not (reaches (before_in clocks) points k.id)) steps
  parted_unreached points steps ascending =
      parted_by (λ (k : KeptStep). not (reaches (before_in clocks) points k.id)) steps ascending
      (λ k later stands passes. elim (cases_Bool (reaches (before_in clocks) points k.id)) [
        | inr none ↦ ap not none
        | inl some ↦ absurd (false≢true
            (ap not (sym (reaches_later points k.id later.id stands some)) ∙ passes))
      ])

-- ---- searches that start late

lt_not : (a b : ℕ) → nat_lt a b ≡ not (nat_le b a)
lt_not a b = elim (cases_Bool (nat_le b a)) [
  | inl within ↦ elim (cases_Bool (nat_lt a b)) [
    | inl below ↦ absurd (omega (arith, ltb-true a b below, leb-true b a within))
    | inr above ↦ above ∙ sym (ap not within)
  ]
  | inr past ↦ elim (cases_lt a b) [
    | inl below ↦ lt-ltb a b below ∙ sym (ap not past)
    | inr above ↦ absurd (false≢true (sym past ∙ le-leb b a above))
  ]
]

not_not : (b : Bool) → b ≡ not (not b)
not_not true = refl
not_not false = refl

-- a search among the steps after an index
pub found_after : (t : KeptStep → Bool) (steps : List KeptStep) (index from : ℕ) →
    IsPartitionPoint (λ (k : KeptStep). nat_le k.id.index index ≡ true)
    (λ (k : KeptStep). nat_le k.id.index index ≡ false) steps from → from ≤ length steps →
    find (λ (k : KeptStep). nat_lt index k.id.index && t k) steps ≡ find t (drop from steps)
found_after t steps index from point bound =
    found_from (λ (k : KeptStep). nat_le k.id.index index) (λ (k : KeptStep). nat_lt index k.id.index) t steps from
    (λ k. lt_not index k.id.index) point bound

-- a search among the steps which some point is before
pub found_reached : (before : Id → Id → Bool) (points : List Id) (t : KeptStep → Bool) (steps : List KeptStep)
    (from : ℕ) →
    IsPartitionPoint (λ (k : KeptStep). not (reaches before points k.id) ≡ true)
    (λ (k : KeptStep). not (reaches before points k.id) ≡ false) steps from → from ≤ length steps →
    find (λ (k : KeptStep). reaches before points k.id && t k) steps ≡ find t (drop from steps)
found_reached before points t steps from point bound =
    found_from (λ (k : KeptStep). not (reaches before points k.id)) (λ (k : KeptStep). reaches before points k.id) t
    steps
    from (λ k. not_not (reaches before points k.id)) point bound
