-- A search of the marks of a rank.
use Rattle.std.proofs.Common.{◌≡◌, ℕ, zero, suc, ◌+◌, ◌-◌, ◌<◌, ◌≤◌, inl, inr, true, false, List, [], ◌∷◌, length, refl}
use Rattle.std.proofs.Common.{ap, sym, subst, ◌∙◌, arith}
use Rattle.std.specs.Prelude.{nat_le, nat_lt, slice_index, slice_index_or}
use Rattle.std.specs.List.{list_any}
use Rattle.std.specs.List.Sorted.{IsPartitionedBy, IsPartitionPoint}
use Rattle.std.proofs.lemmas.Bool.{false≢true, cases_Bool, cases_lt, and_parts, and_from, leb-true, le-leb, lt-ltb}
use Rattle.std.proofs.lemmas.Bool.{ltb-true}
use Rattle.list_laws.proofs.Members.{In, here, there, any_in, in_any, in_contains}
use Rattle.rma_types.specs.declared.accesses.Id.{Id}
use Rattle.vector_clocks.specs.Marks.{IsBelow, IsSorted, is_marked}
use Rattle.vector_clocks.specs.declared.marks.Mark.{Mark}

pub element_in : (marks : List Mark) (k : ℕ) (d : Mark) → k < length marks → In (slice_index_or marks k d) marks
element_in [] k d within = absurd (omega arith)
element_in (mark ∷ rest) zero d within = here
element_in (mark ∷ rest) (suc k) d within = there (element_in rest k d (omega (arith, within)))

-- of two marks, the earlier one is below the later one
pub ordered : (marks : List Mark) → IsSorted marks → (i j : ℕ) (d : Mark) → i < j → j < length marks →
    IsBelow (slice_index_or marks i d) (slice_index_or marks j d)
ordered [] sorted i j d up within = absurd (omega arith)
ordered (mark ∷ rest) sorted i zero d up within = absurd (omega arith)
ordered (mark ∷ rest) sorted zero (suc j) d up within =
    sorted.0 (slice_index_or rest j d) (in_contains (element_in rest j d (omega (arith, within))))
ordered (mark ∷ rest) sorted (suc i) (suc j) d up within =
    ordered rest sorted.1 i j d (omega (arith, up)) (omega (arith, within))

pub parted : (marks : List Mark) (index : ℕ) → IsSorted marks →
    IsPartitionedBy (λ (mark : Mark). nat_le mark.index index) marks
parted marks index sorted i j d up within passes = elim (cases_lt i j) [
  | inl below ↦
      let step = (ordered marks sorted i j d below within).stands in
      let top = leb-true (slice_index_or marks j d).index index passes in
      le-leb (slice_index_or marks i d).index index (omega (arith, step, top))
  | inr above ↦
      let same : j ≡ i = omega (arith, up, above) in
      subst (λ k. nat_le (slice_index_or marks k d).index index ≡ true) same passes
]

-- where a member stands
pub position_of : {mark : Mark} {marks : List Mark} → In mark marks →
    (k : ℕ) × (k < length marks) × ((d : Mark) → slice_index_or marks k d ≡ mark)
position_of here = (0, omega arith, λ d. refl)
position_of (there m) = let rest = position_of m in (suc rest.0, omega (arith, rest.1), λ d. rest.2 d)

module _ (marks : List Mark) (sorted : IsSorted marks) (a : Id) (index within : ℕ)
    (point : IsPartitionPoint (λ (mark : Mark). nat_le mark.index index ≡ true)
    (λ (mark : Mark). nat_le mark.index index ≡ false) marks within) where
  -- a mark that passes stands below the point
  passes_below : {mark : Mark} (m : In mark marks) → nat_le mark.index index ≡ true → (position_of m).0 < within
  passes_below {mark} m passes =
      let one = position_of m in
      elim (cases_lt one.0 within) [
        | inl below ↦ below
        | inr above ↦ absurd (false≢true (sym (point.1 one.0 mark above one.1)
            ∙ subst (λ (k : Mark). nat_le k.index index ≡ true) (sym (one.2 mark)) passes))
      ]

  pub none_within : within ≡ 0 → list_any (is_marked a index) marks ≡ false
  none_within nothing = elim (cases_Bool (list_any (is_marked a index) marks)) [
    | inr none ↦ none
    | inl some ↦
        let one = any_in (is_marked a index) marks some in
        let parts = and_parts (nat_le one.0.index index) (nat_lt a.index (slice_index one.0.counts a.rank)) one.2 in
        absurd (omega (arith, passes_below one.1 parts.0, nothing))
  ]

  pub last_within : (last : Mark) (k : ℕ) → k + 1 ≡ within → within ≤ length marks → slice_index_or marks k last
      ≡ last →
      list_any (is_marked a index) marks ≡ nat_lt a.index (slice_index last.counts a.rank)
  last_within last k next bound is = elim (cases_Bool (nat_lt a.index (slice_index last.counts a.rank))) [
    | inl counts ↦
        let m : In last marks = subst (λ (x : Mark). In x marks) is
        (element_in marks k last (omega (arith, next, bound))) in
        let low : nat_le last.index index ≡ true =
        subst (λ (x : Mark). nat_le x.index index ≡ true) is (point.0 k last (omega arith) (omega (arith, next))) in
        in_any (is_marked a index) m (and_from (nat_le last.index index)
        (nat_lt a.index (slice_index last.counts a.rank)) low counts) ∙ sym counts
    | inr none ↦ elim (cases_Bool (list_any (is_marked a index) marks)) [
      | inr nothing ↦ nothing ∙ sym none
      | inl some ↦
          let one = any_in (is_marked a index) marks some in
          let parts = and_parts (nat_le one.0.index index) (nat_lt a.index (slice_index one.0.counts a.rank)) one.2 in
          let at = position_of one.1 in
          let below : at.0 < within = passes_below one.1 parts.0 in
          let counted = ltb-true a.index (slice_index one.0.counts a.rank) parts.1 in
          let more : slice_index one.0.counts a.rank ≤ slice_index last.counts a.rank =
          reach at.0 one.0 (at.2 last) (omega (arith, below, next)) in
          absurd (false≢true (sym none ∙ lt-ltb a.index (slice_index last.counts a.rank)
          (omega (arith, counted, more))))
    ]
  ]
    where
      reach : (j : ℕ) (mark : Mark) → slice_index_or marks j last ≡ mark → j ≤ k →
          slice_index mark.counts a.rank ≤ slice_index last.counts a.rank
      reach j mark at up = elim (cases_lt j k) [
        | inl below ↦
            let step = (ordered marks sorted j k last below (omega (arith, next, bound))).counts a.rank in
            subst (λ (x : Mark). slice_index x.counts a.rank ≤ slice_index last.counts a.rank) at
            (subst (λ (x : Mark). slice_index (slice_index_or marks j last).counts a.rank ≤ slice_index x.counts
            a.rank) is step)
        | inr above ↦
            let same : j ≡ k = omega (arith, up, above) in
            let one : mark ≡ last = sym at ∙ ap (λ i. slice_index_or marks i last) same ∙ is in
            subst (λ (x : Mark). slice_index x.counts a.rank ≤ slice_index last.counts a.rank) (sym one) (omega arith)
      ]

any_default : (marks : List Mark) (k : ℕ) (d e : Mark) → k < length marks →
    slice_index_or marks k d ≡ slice_index_or marks k e
any_default [] k d e within = absurd (omega arith)
any_default (mark ∷ rest) zero d e within = refl
any_default (mark ∷ rest) (suc k) d e within = any_default rest k d e (omega (arith, within))

pub last_at : (marks : List Mark) → IsSorted marks → (a : Id) (index within : ℕ) →
    IsPartitionPoint (λ (mark : Mark). nat_le mark.index index ≡ true)
    (λ (mark : Mark). nat_le mark.index index ≡ false) marks within →
    within ≤ length marks → (within ≡ 0 → ⊥) → (d : Mark) →
    list_any (is_marked a index) marks ≡ nat_lt a.index
    (slice_index (slice_index_or marks (within - 1) d).counts a.rank)
last_at marks sorted a index zero point bound some d = absurd (some refl)
last_at marks sorted a index (suc k) point bound some d =
    let back : suc k - 1 ≡ k = omega arith in
    let last : Mark = slice_index_or marks k d in
    last_within marks sorted a index (suc k) point last k (omega arith) bound
    (any_default marks k last d (omega (arith, bound)))
    ∙ ap (λ i. nat_lt a.index (slice_index (slice_index_or marks i d).counts a.rank)) (sym back)
