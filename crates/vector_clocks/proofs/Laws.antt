-- The clocks of all entries keep their laws, and the test by rank is that of the stamps.
use Rattle.std.proofs.Common.{◌≡◌, ℕ, ◌<◌, ◌≤◌, inl, inr, true, List, [], ◌∷◌, ◌++◌, refl, ap, sym, subst, ◌∙◌}
use Rattle.std.proofs.Common.{arith}
use Rattle.std.specs.Prelude.{◌↔◌, IsTrue, map, ◌&&◌, ◌||◌, ◌==◌, nat_le, nat_lt}
use Rattle.std.specs.List.{list_any}
use Rattle.std.proofs.lemmas.Bool.{cases_Bool, and_parts, or_cases, eqb-true}
use Rattle.std.proofs.lemmas.List.{map-append}
use Rattle.list_laws.proofs.Each.{AllFrom}
use Rattle.list_laws.proofs.Members.{In, here, there, append_in, in_append_left, in_map, map_in, contains_in}
use Rattle.list_laws.proofs.Members.{in_contains}
use Rattle.rma_types.specs.declared.accesses.Id.{Id}
use Rattle.rma_types.specs.declared.schedules.Delay.{Delay}
use Rattle.rma_types.specs.declared.scripts.Script.{Script}
use Rattle.rma_record.specs.declared.runs.Run.{Run}
use Rattle.lawful_runs.specs.LawfulRun.{IsLawful}
use Rattle.lawful_runs.specs.Logs.{rows_of}
use Rattle.order_rules.proofs.EventLaws.{later_place, IsEventAt}
use Rattle.clock_rules.specs.Clocks.{Stamp, count_in, stands_before, precedes, is_counted, is_counted_by, IsCountedFrom}
use Rattle.clock_rules.specs.Clocks.{KeepClockLaws}
use Rattle.order_rules.specs.Before.{Before, NamedEvent, IsOrder, events_in, is_edge_between}
use Rattle.order_laws.proofs.Decide.{precedes_ascends, clocks_decide}
use Rattle.order_laws.proofs.Events.{events_placed}
use Rattle.vector_clocks.specs.Marks.{marks_of, is_marked, before_in}
use Rattle.vector_clocks.specs.Replays.{Told, id_told, stamps_told, marks_told, AreNext}
use Rattle.vector_clocks.specs.declared.marks.Mark.{Mark}
use Rattle.vector_clocks.proofs.Nexts.{next_of}

entry_told : Told → NamedEvent
entry_told t = t.stamp.entry

module _ (script : Script) (delay : Delay) (run : Run) (lawful : IsLawful script delay run) (told : List Told)
    (all : AreNext [] told)
    (entries : map (λ (t : Told). t.stamp.entry) told ≡ events_in script run) where
  entry_in : {t : Told} → In t told → In t.stamp.entry (events_in script run)
  entry_in {t} m = subst (λ l. In t.stamp.entry l) entries (in_map (λ (u : Told). u.stamp.entry) m)

  told_of : (stamp : Stamp) → In stamp (stamps_told told) → (t : Told) × In t told × (t.stamp ≡ stamp)
  told_of stamp m = map_in (λ (t : Told). t.stamp) told m

  -- what precedes an entry stands before it
  earlier : (s t : Told) → In s told → (of_t : In t told) → precedes s.stamp.entry t.stamp.entry ≡ true →
      In s (next_of [] told all of_t).0
  earlier s t of_s of_t h =
      let one = next_of [] told all of_t in
      let up = precedes_ascends script delay run lawful s.stamp.entry t.stamp.entry (entry_in of_s) (entry_in of_t) h in
      elim (append_in one.0 (subst (λ l. In s l) one.2 of_s)) [
        | inl early ↦ early
        | inr late ↦
            let split : events_in script run ≡ map (λ (u : Told). u.stamp.entry) one.0
            ++ t.stamp.entry ∷ map (λ (u : Told). u.stamp.entry) one.1 =
            sym entries ∙ ap (map (λ (u : Told). u.stamp.entry)) one.2
            ∙ map-append (λ (u : Told). u.stamp.entry) one.0 (t ∷ one.1) in
            absurd (not_late one.0 one.1 s t split up late)
      ]
    where
      not_late : (front back : List Told) (s t : Told) → events_in
          script run ≡ map (λ (u : Told). u.stamp.entry) front ++ t.stamp.entry ∷ map (λ (u : Told). u.stamp.entry)
          back →
          s.stamp.entry.event.place < t.stamp.entry.event.place → In s (t ∷ back) → ⊥
      not_late front back s t split up here = omega arith
      not_late front back s t split up (there m) =
          let down = later_place script run 0 (map (λ (u : Told). u.stamp.entry) front) t.stamp.entry
          (map (λ (u : Told). u.stamp.entry) back) s.stamp.entry
          (subst (AllFrom (IsEventAt script run (rows_of script run)) 0) split
          (events_placed script delay run lawful)) (in_map (λ (u : Told). u.stamp.entry) m) in
          omega arith

  joins : (s t : Told) → In s told → In t told → precedes s.stamp.entry t.stamp.entry ≡ true → (rank : ℕ) → count_in
      s.stamp rank ≤ count_in t.stamp rank
  joins s t of_s of_t h rank =
      let one = next_of [] told all of_t in
      let m = earlier s t of_s of_t h in
      elim (or_cases (stands_before (id_told s) (id_told t)) (is_edge_between s.stamp.entry t.stamp.entry) h) [
        | inl log ↦ one.3.log s (in_contains m) (eqb-true (id_told s).rank (id_told t).rank
            (and_parts ((id_told s).rank == (id_told t).rank) (nat_lt (id_told s).index (id_told t).index) log).0) rank
        | inr edge ↦ one.3.edge s (in_contains m) edge rank
      ]

  cause : (t : Told) → In t told → (a : Id) → a.index < count_in t.stamp a.rank →
      IsCountedFrom (stamps_told told) t.stamp.entry a
  cause t of_t a below =
      let one = next_of [] told all of_t in
      elim (one.3.cause a below) [
        | inl near ↦ inl near
        | inr far ↦
            let s = map_in (λ (u : Told). u.stamp) one.0 (contains_in (stamps_told one.0) far.0 far.1) in
            let whole : In s.0 told = subst (λ l. In s.0 l) (sym one.2) (in_append_left (t ∷ one.1) s.1) in
            inr (
              far.0,
              in_contains (subst (λ u. In u (stamps_told told)) s.2
                  (in_map (λ (u : Told). u.stamp) whole)),
              far.2,
              far.3,
            )
      ]

  own : (t : Told) → In t told → (id_told t).index < count_in t.stamp (id_told t).rank
  own t of_t = (next_of [] told all of_t).3.own

  entries_are : (list : List Told) → map (λ (s : Stamp). s.entry) (stamps_told list)
      ≡ map (λ (t : Told). t.stamp.entry) list
  entries_are [] = refl
  entries_are (t ∷ rest) = ap (λ l. t.stamp.entry ∷ l) (entries_are rest)

  laws : KeepClockLaws script run (stamps_told told)
  laws = record {
    entries = entries_are told ∙ entries;
    own = λ s m. let t = told_of s (contains_in (stamps_told told) s m) in
        subst (λ (u : Stamp). u.entry.id.index < count_in u u.entry.id.rank) t.2 (own t.0 t.1);
    joins = λ s u of_s of_u h rank.
        let a = told_of s (contains_in (stamps_told told) s of_s) in
        let b = told_of u (contains_in (stamps_told told) u of_u) in
        join_by a.0 b.0 a.1 b.1 s u a.2 b.2 h rank;
    cause = λ s m a below.
        let t = told_of s (contains_in (stamps_told told) s m) in
        cause_by t.0 t.1 s t.2 a below;
  }
    where
      join_by : (a b : Told) → In a told → In b told → (s u : Stamp) → a.stamp ≡ s → b.stamp ≡ u →
          precedes s.entry u.entry ≡ true → (rank : ℕ) → count_in s rank ≤ count_in u rank
      join_by a b of_a of_b s u is_s is_u h rank =
          let from : precedes a.stamp.entry b.stamp.entry ≡ true =
          subst (λ (x : Stamp). precedes a.stamp.entry x.entry ≡ true) (sym is_u)
          (subst (λ (x : Stamp). precedes x.entry u.entry ≡ true) (sym is_s) h) in
          subst (λ x. count_in s rank ≤ count_in x rank) is_u
          (subst (λ x. count_in x rank ≤ count_in b.stamp rank) is_s (joins a b of_a of_b from rank))

      cause_by : (t : Told) → In t told → (s : Stamp) → t.stamp ≡ s → (a : Id) → a.index < count_in s a.rank →
          IsCountedFrom (stamps_told told) s.entry a
      cause_by t of_t s is a below =
          subst (λ (x : Stamp). IsCountedFrom (stamps_told told) x.entry a) is
          (cause t of_t a (subst (λ x. a.index < count_in x a.rank) (sym is) below))

-- ---- the test by rank

marked : (a b : Id) (list : List Told) → list_any (is_counted_by a b) (stamps_told list)
    ≡ list_any (is_marked a b.index) (marks_told b.rank list)
marked a b [] = refl
marked a b (t ∷ rest) = elim (cases_Bool ((id_told t).rank == b.rank)) [
  | inl same ↦ rw same (ap (λ any. (nat_le (id_told t).index b.index && nat_lt a.index (count_in t.stamp a.rank))
      || any) (marked a b rest))
  | inr other ↦ rw other (marked a b rest)
]

pub order_of_marks : (script : Script) (delay : Delay) (run : Run) → IsLawful script delay run → (told : List Told) →
    AreNext [] told →
    map (λ (t : Told). t.stamp.entry) told ≡ events_in script run →
    (clocks : List (List Mark)) → ((rank : ℕ) → marks_of clocks rank ≡ marks_told rank told) →
    IsOrder script run (before_in clocks)
order_of_marks script delay run lawful told all entries clocks marks a b =
    let decided = clocks_decide script delay run lawful (stamps_told told)
    (laws script delay run lawful told all entries) a b in
    let same : before_in clocks a b ≡ is_counted (stamps_told told) a b =
    ap (λ list. (a.rank == b.rank && nat_le a.index b.index) || list_any (is_marked a b.index) list) (marks b.rank)
    ∙ sym (ap (λ any. (a.rank == b.rank && nat_le a.index b.index) || any) (marked a b told)) in
    subst (λ test. IsTrue test ↔ Before script run a b) (sym same) decided
