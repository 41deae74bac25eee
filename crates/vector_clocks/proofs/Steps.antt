-- An earlier entry of a rank, and the marks of each rank.
use Rattle.std.proofs.Common.{◌≡◌, ℕ, zero, suc, ◌<◌, inl, inr, true, List, [], ◌∷◌, ◌++◌, length, refl, ap, sym}
use Rattle.std.proofs.Common.{subst, ◌∙◌, arith}
use Rattle.std.specs.Prelude.{slice_set, ◌==◌}
use Rattle.std.proofs.lemmas.Bool.{cases_Bool, cases_eq, cases_lt, eqb-true, eq-eqb}
use Rattle.std.proofs.lemmas.List.{append-nil}
use Rattle.list_laws.proofs.Members.{In}
use Rattle.rma_types.specs.declared.schedules.Delay.{Delay}
use Rattle.rma_types.specs.declared.scripts.Script.{Script}
use Rattle.rma_record.specs.declared.runs.Run.{Run}
use Rattle.lawful_runs.specs.LawfulRun.{IsLawful}
use Rattle.order_rules.specs.Before.{NamedEvent, events_in}
use Rattle.order_laws.proofs.Order.{log_ascends, same_place}
use Rattle.vector_clocks.specs.Marks.{marks_of}
use Rattle.vector_clocks.specs.Replays.{Told, id_told, mark_told, marks_told}
use Rattle.vector_clocks.specs.declared.marks.Mark.{Mark}

module _ (script : Script) (delay : Delay) (run : Run) (lawful : IsLawful script delay run) where
  pub stands_earlier : (a b : NamedEvent) → In a (events_in script run) → In b (events_in script run) →
      a.id.rank ≡ b.id.rank → a.event.place < b.event.place → a.id.index < b.id.index
  stands_earlier a b of_a of_b rank below = elim (cases_lt a.id.index b.id.index) [
    | inl early ↦ early
    | inr late ↦ elim (cases_lt b.id.index a.id.index) [
      | inl down ↦ let up = log_ascends script delay run lawful b a of_b of_a (sym rank) down in
          absurd (omega (arith, up, below))
      | inr level ↦ let one = same_place script delay run lawful a b of_a of_b rank (omega (arith, late, level)) in
          absurd (omega (arith, one, below))
    ]
  ]

-- ---- marks by rank

marks_append : (rank : ℕ) (xs ys : List Told) → marks_told rank (xs ++ ys) ≡ marks_told rank xs ++ marks_told rank ys
marks_append rank [] ys = refl
marks_append rank (t ∷ xs) ys = elim (cases_Bool ((id_told t).rank == rank)) [
  | inl same ↦ rw same (ap (λ l. mark_told t ∷ l) (marks_append rank xs ys))
  | inr other ↦ rw other (marks_append rank xs ys)
]

lists_here : (clocks : List (List Mark)) (rank : ℕ) (marks : List Mark) → rank < length clocks →
    marks_of (slice_set clocks rank marks) rank ≡ marks
lists_here [] rank marks within = absurd (omega arith)
lists_here (x ∷ clocks) zero marks within = refl
lists_here (x ∷ clocks) (suc rank) marks within = lists_here clocks rank marks (omega (arith, within))

lists_apart : (clocks : List (List Mark)) (rank other : ℕ) (marks : List Mark) → (rank ≡ other → ⊥) →
    marks_of (slice_set clocks rank marks) other ≡ marks_of clocks other
lists_apart [] rank other marks apart = refl
lists_apart (x ∷ clocks) zero zero marks apart = absurd (apart refl)
lists_apart (x ∷ clocks) zero (suc other) marks apart = refl
lists_apart (x ∷ clocks) (suc rank) zero marks apart = refl
lists_apart (x ∷ clocks) (suc rank) (suc other) marks apart =
    lists_apart clocks rank other marks (λ same. apart (ap suc same))

pub marks_more : (clocks : List (List Mark)) (told : List Told) (u : Told) →
    ((rank : ℕ) → marks_of clocks rank ≡ marks_told rank told) → (id_told u).rank < length clocks → (rank : ℕ) →
    marks_of (slice_set clocks (id_told u).rank (marks_of clocks (id_told u).rank ++ mark_told u ∷ [])) rank
    ≡ marks_told rank (told ++ u ∷ [])
marks_more clocks told u marks within rank = elim (cases_eq (id_told u).rank rank) [
  | inl same ↦
      let at : ((id_told u).rank == rank) ≡ true = eq-eqb (id_told u).rank rank same in
      let last : marks_told rank (u ∷ []) ≡ mark_told u ∷ [] = rw at refl in
      subst (λ r. marks_of (slice_set clocks (id_told u).rank (marks_of clocks (id_told u).rank ++ mark_told u ∷ []))
      r ≡ marks_of clocks r ++ mark_told u ∷ []) same
      (lists_here clocks (id_told u).rank (marks_of clocks (id_told u).rank ++ mark_told u ∷ []) within)
      ∙ (λ i. marks rank i ++ sym last i) ∙ sym (marks_append rank told (u ∷ []))
  | inr apart ↦
      let none : marks_told rank (u ∷ []) ≡ [] = other_rank u rank apart in
      lists_apart clocks (id_told u).rank rank (marks_of clocks (id_told u).rank ++ mark_told u ∷ []) apart
      ∙ marks rank ∙ sym (append-nil (marks_told rank told)) ∙ ap (λ l. marks_told rank told ++ l) (sym none)
      ∙ sym (marks_append rank told (u ∷ []))
]
  where
    other_rank : (u : Told) (rank : ℕ) → ((id_told u).rank ≡ rank → ⊥) → marks_told rank (u ∷ []) ≡ []
    other_rank u rank apart = elim (cases_Bool ((id_told u).rank == rank)) [
      | inl same ↦ absurd (apart (eqb-true (id_told u).rank rank same))
      | inr other ↦ rw other refl
    ]
