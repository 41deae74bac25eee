-- The marks of a rank are in order, and what the last of them counts.
use Rattle.std.proofs.Common.{◌≡◌, ℕ, ◌<◌, ◌≤◌, inl, inr, true, List, [], ◌∷◌, ◌++◌, refl, sym, subst, ◌∙◌}
use Rattle.std.proofs.Common.{arith}
use Rattle.std.specs.Prelude.{Contains, slice_index, ◌==◌}
use Rattle.std.proofs.lemmas.Bool.{cases_Bool, eqb-true, eq-eqb}
use Rattle.list_laws.proofs.Lists.{zeros}
use Rattle.list_laws.proofs.Members.{In, here, there, in_append_left, in_append_right, contains_in, in_contains}
use Rattle.rma_types.specs.declared.accesses.Id.{Id}
use Rattle.clock_rules.specs.Clocks.{count_in}
use Rattle.vector_clocks.specs.Marks.{IsBelow, IsSorted, last_counts}
use Rattle.vector_clocks.specs.Replays.{Told, id_told, mark_told, marks_told, AreNext}
use Rattle.vector_clocks.specs.declared.marks.Mark.{Mark}
use Rattle.vector_clocks.proofs.Nexts.{next_of, IsLast}

first_of : (rank : ℕ) (t : Told) (rest : List Told) {mark : Mark} → ((id_told t).rank == rank) ≡ true →
    (In mark (marks_told rank rest) → (u : Told) × In u rest × ((id_told u).rank ≡ rank) × (mark_told u ≡ mark)) →
    In mark (mark_told t ∷ marks_told rank rest) →
    (u : Told) × In u (t ∷ rest) × ((id_told u).rank ≡ rank) × (mark_told u ≡ mark)
first_of rank t rest same later here = (t, here, eqb-true (id_told t).rank rank same, refl)
first_of rank t rest same later (there m) = let one = later m in (one.0, there one.1, one.2, one.3)

marks_in : (rank : ℕ) (told : List Told) {mark : Mark} → In mark (marks_told rank told) →
    (t : Told) × In t told × ((id_told t).rank ≡ rank) × (mark_told t ≡ mark)
marks_in rank [] m = elim m [ ]
marks_in rank (t ∷ rest) {mark} m = elim (cases_Bool ((id_told t).rank == rank)) [
  | inr other ↦ let one = marks_in rank rest (rw other at m) in (one.0, there one.1, one.2, one.3)
  | inl same ↦ first_of rank t rest same (λ n. marks_in rank rest n) (rw same at m)
]

in_marks : (rank : ℕ) {t : Told} {told : List Told} → In t told → (id_told t).rank ≡ rank →
    In (mark_told t) (marks_told rank told)
in_marks rank {t} here same = rw (eq-eqb (id_told t).rank rank same) here
in_marks rank (there {y = u} {xs = told} m) same = elim (cases_Bool ((id_told u).rank == rank)) [
  | inl first ↦ rw first (there (in_marks rank m same))
  | inr other ↦ rw other (in_marks rank m same)
]

pub sorted_marks : (rank : ℕ) (before rest : List Told) → AreNext before rest → IsSorted (marks_told rank rest)
sorted_marks rank before [] all = tt
sorted_marks rank before (t ∷ rest) all = elim (cases_Bool ((id_told t).rank == rank)) [
  | inr other ↦ rw other (sorted_marks rank (before ++ t ∷ []) rest all.1)
  | inl same ↦ rw same (below (eqb-true (id_told t).rank rank same), sorted_marks rank (before ++ t ∷ []) rest all.1)
]
  where
    below : (id_told t).rank ≡ rank → (later : Mark) → Contains (marks_told rank rest) later →
        IsBelow (mark_told t) later
    below of_rank later c =
        let one = marks_in rank rest (contains_in (marks_told rank rest) later c) in
        let next = next_of (before ++ t ∷ []) rest all.1 one.1 in
        let m : Contains ((before ++ t ∷ []) ++ next.0) t =
        in_contains (in_append_left next.0 (in_append_right before here)) in
        subst (IsBelow (mark_told t)) one.3 (record {
          stands = next.3.up t m (of_rank ∙ sym one.2);
          counts =
              next.3.log t m (of_rank ∙ sym one.2);
        })

-- ---- the last mark

last_above : (marks : List Mark) → IsSorted marks → {mark : Mark} → In mark marks → (rank : ℕ) →
    slice_index mark.counts rank ≤ slice_index (last_counts marks) rank
last_above [] sorted m rank = elim m [ ]
last_above (x ∷ []) sorted here rank = omega arith
last_above (x ∷ []) sorted (there m) rank = elim m [ ]
last_above (x ∷ y ∷ rest) sorted here rank =
    let more = last_above (y ∷ rest) sorted.1 here rank in
    let step = (sorted.0 y (in_contains here)).counts rank in
    omega (arith, more, step)
last_above (x ∷ y ∷ rest) sorted (there m) rank = last_above (y ∷ rest) sorted.1 m rank

last_from : (marks : List Mark) (rank n : ℕ) → n < slice_index (last_counts marks) rank →
    (mark : Mark) × In mark marks × (n < slice_index mark.counts rank)
last_from [] rank n below = let none = zeros 16 rank in absurd (omega (arith, below, none))
last_from (x ∷ []) rank n below = (x, here, below)
last_from (x ∷ y ∷ rest) rank n below = let one = last_from (y ∷ rest) rank n below in (one.0, there one.1, one.2)

-- the numbers before an entry are those of the last mark of its rank
pub last_is : (told : List Told) (id : Id) → AreNext [] told →
    ((s : Told) → In s told → (id_told s).rank ≡ id.rank → (id_told s).index < id.index) →
    IsLast told id (last_counts (marks_told id.rank told))
last_is told id all up = record {
  up = λ {s} m same. up s m same;
  log = λ {s} m same rank. last_above (marks_told id.rank told) (sorted_marks id.rank [] told all)
      (in_marks id.rank m same) rank;
  from = from;
}
  where
    from : (rank n : ℕ) → n < slice_index (last_counts (marks_told id.rank told)) rank →
        (s : Told) × In s told × ((id_told s).rank ≡ id.rank) × (n < count_in s.stamp rank)
    from rank n below =
        let mark = last_from (marks_told id.rank told) rank n below in
        let one = marks_in id.rank told mark.1 in
        (one.0, one.1, one.2, subst (λ (k : Mark). n < slice_index k.counts rank) (sym one.3) mark.2)
