-- Clocks that keep their laws decide the order of a lawful run.
use Rattle.std.proofs.Common.{◌≡◌, ℕ, zero, suc, ◌<◌, ◌≤◌, ◌⊎◌, inl, inr, true, List, refl, ap, sym, subst, ◌∙◌, arith}
use Rattle.std.specs.Prelude.{◌&&◌, ◌==◌, nat_lt, nat_le}
use Rattle.std.specs.List.{list_any}
use Rattle.std.proofs.lemmas.Bool.{and_parts, and_from, or_cases, or_left, or_right, cases_lt, eqb-true, eq-eqb}
use Rattle.std.proofs.lemmas.Bool.{ltb-true, lt-ltb, leb-true, le-leb}
use Rattle.list_laws.proofs.Members.{In, any_in, in_any, in_map, map_in, contains_in, in_contains}
use Rattle.rma_types.specs.declared.accesses.Id.{Id}
use Rattle.rma_types.specs.declared.schedules.Delay.{Delay}
use Rattle.rma_types.specs.declared.scripts.Script.{Script}
use Rattle.rma_record.specs.declared.runs.Run.{Run}
use Rattle.lawful_runs.specs.LawfulRun.{IsLawful}
use Rattle.order_rules.specs.Before.{NamedEvent, events_in, is_edge_between, StandsBefore, Before, Same, InLog, Across}
use Rattle.clock_rules.specs.Clocks.{Stamp, count_in, stands_before, precedes, is_counted_by, is_counted, KeepClockLaws}
use Rattle.order_laws.specs.ClockLaws.{ClocksDecide}
use Rattle.order_laws.proofs.Order.{edge_between, edge_from, edge_ascends, log_ascends, log_before, same_event}
use Rattle.order_laws.proofs.Order.{same_place}

-- an item that stands before another in its log
stands : (a b : Id) → stands_before a b ≡ true → StandsBefore a b
stands a b h =
    let two = and_parts (a.rank == b.rank) (nat_lt a.index b.index) h in
    (eqb-true a.rank b.rank two.0, ltb-true a.index b.index two.1)

is_standing : (a b : Id) → a.rank ≡ b.rank → a.index < b.index → stands_before a b ≡ true
is_standing a b rank below = and_from (a.rank == b.rank) (nat_lt a.index b.index) (eq-eqb a.rank b.rank rank)
    (lt-ltb a.index b.index below)

module _ (script : Script) (delay : Delay) (run : Run) (lawful : IsLawful script delay run) where
  -- what directly precedes an entry has a smaller place
  pub precedes_ascends : (x y : NamedEvent) → In x (events_in script run) → In y (events_in script run) →
      precedes x y ≡ true → x.event.place < y.event.place
  precedes_ascends x y of_x of_y h = elim (or_cases (stands_before x.id y.id) (is_edge_between x y) h) [
    | inl log ↦ let s = stands x.id y.id log in log_ascends script delay run lawful x y of_x of_y s.0 s.1
    | inr edge ↦ edge_ascends script delay run lawful x y of_x of_y edge
  ]

module _ (script : Script) (delay : Delay) (run : Run) (lawful : IsLawful script delay run) (stamps : List Stamp)
    (laws : KeepClockLaws script run stamps) where
  entry_in : (t : Stamp) → In t stamps → In t.entry (events_in script run)
  entry_in t m = subst (λ l. In t.entry l) laws.entries (in_map (λ (s : Stamp). s.entry) m)

  stamp_of : (x : NamedEvent) → In x (events_in script run) → (t : Stamp) × In t stamps × (t.entry ≡ x)
  stamp_of x m = map_in (λ (s : Stamp). s.entry) stamps (subst (λ l. In x l) (sym laws.entries) m)

  -- ---- what is counted is before

  counted_before : (n : ℕ) (t : Stamp) → In t stamps → t.entry.event.place < n → (a : Id) →
      a.index < count_in t a.rank → Before script run a t.entry.id
  counted_before zero t m below a counts = absurd (omega arith)
  counted_before (suc n) t m below a counts = elim (laws.cause t (in_contains m) a counts) [
    | inl near ↦ log_before script delay run lawful a t.entry.id near.0 near.1
    | inr far ↦
        let of_s = contains_in stamps far.0 far.1 in
        let up = precedes_ascends script delay run lawful far.0.entry t.entry (entry_in far.0 of_s)
        (entry_in t m) far.2 in
        let earlier = counted_before n far.0 of_s (omega (arith, below, up)) a far.3 in
        elim (or_cases (stands_before far.0.entry.id t.entry.id) (is_edge_between far.0.entry t.entry) far.2) [
          | inl log ↦ InLog earlier (stands far.0.entry.id t.entry.id log)
          | inr edge ↦ Across earlier (edge_from (events_in script run) far.0.entry t.entry (entry_in far.0 of_s)
              (entry_in t m) edge)
        ]
  ]

  -- ---- what is before is counted

  -- b is a, or stands after it; or an entry of b's log, not after b, counts a
  Counted : Id → Id → Type 0
  Counted a b =
      ((a.rank ≡ b.rank) × (a.index ≤ b.index))
      ⊎ ((t : Stamp) × In t stamps × (t.entry.id.rank ≡ b.rank) × (t.entry.id.index ≤ b.index)
      × (a.index < count_in t a.rank))

  across : (a b c : Id) → Counted a b → (x y : NamedEvent) → In x (events_in script run) → In y (events_in script run) →
      x.id ≡ b → y.id ≡ c → is_edge_between x y ≡ true → Counted a c
  unfolding Counted
  across a b c counted x y of_x of_y x_is y_is edge =
      let s = stamp_of x of_x in
      let t = stamp_of y of_y in
      let y_rank : t.0.entry.id.rank ≡ c.rank = ap (λ (e : NamedEvent). e.id.rank) t.2 ∙ ap (λ (i : Id). i.rank) y_is in
      let y_index : t.0.entry.id.index ≡ c.index = ap (λ (e : NamedEvent). e.id.index) t.2
      ∙ ap (λ (i : Id). i.index) y_is in
      let x_rank : s.0.entry.id.rank ≡ b.rank = ap (λ (e : NamedEvent). e.id.rank) s.2 ∙ ap (λ (i : Id). i.rank) x_is in
      let x_index : s.0.entry.id.index ≡ b.index = ap (λ (e : NamedEvent). e.id.index) s.2
      ∙ ap (λ (i : Id). i.index) x_is in
      let direct : (u : Stamp) → u.entry ≡ x → precedes u.entry t.0.entry ≡ true =
      λ u is. or_right (stands_before u.entry.id t.0.entry.id) (is_edge_between u.entry t.0.entry)
      (subst (λ e. is_edge_between u.entry e ≡ true) (sym t.2) (subst (λ e. is_edge_between e y ≡ true) (sym is) edge))
      in
      let join = laws.joins s.0 t.0 (in_contains s.1) (in_contains t.1) (direct s.0 s.2) a.rank in
      elim counted [
        | inl near ↦
            let own = laws.own s.0 (in_contains s.1) in
            let here : s.0.entry.id.index < count_in s.0 a.rank = subst (λ r. s.0.entry.id.index < count_in s.0 r)
            (x_rank ∙ sym near.0) own in
            inr (t.0, t.1, y_rank, omega (arith, y_index), omega (arith, near.1, x_index, here, join))
        | inr far ↦ elim (cases_lt far.0.entry.id.index s.0.entry.id.index) [
          | inl earlier ↦
              let log = or_left (stands_before far.0.entry.id s.0.entry.id) (is_edge_between far.0.entry s.0.entry)
              (is_standing far.0.entry.id s.0.entry.id (far.2 ∙ sym x_rank) earlier) in
              let more = laws.joins far.0 s.0 (in_contains far.1) (in_contains s.1) log a.rank in
              inr (t.0, t.1, y_rank, omega (arith, y_index), omega (arith, far.4, more, join))
          | inr later ↦
              let u_rank : far.0.entry.id.rank ≡ x.id.rank = far.2 ∙ sym (ap (λ (i : Id). i.rank) x_is) in
              let u_index : far.0.entry.id.index ≡ x.id.index =
              let at : x.id.index ≡ b.index = ap (λ (i : Id). i.index) x_is in omega (arith, far.3, later, x_index, at)
              in
              let of_u = entry_in far.0 far.1 in
              let place = same_place script delay run lawful far.0.entry x of_u of_x u_rank u_index in
              let is = same_event script delay run lawful far.0.entry x of_u of_x place in
              let more = laws.joins far.0 t.0 (in_contains far.1) (in_contains t.1) (direct far.0 is) a.rank in
              inr (t.0, t.1, y_rank, omega (arith, y_index), omega (arith, far.4, more))
        ]
      ]

  counts_all : (a b : Id) → Before script run a b → Counted a b
  unfolding Counted
  counts_all a b Same = inl (refl, omega arith)
  counts_all a c (InLog {b} rest log) = elim (counts_all a b rest) [
    | inl near ↦ inl (near.0 ∙ log.0, omega (arith, near.1, log.1))
    | inr far ↦ inr (far.0, far.1, far.2 ∙ log.0, omega (arith, far.3, log.1), far.4)
  ]
  counts_all a c (Across {b} rest edge) =
      let ends = edge_between (events_in script run) b c edge in
      across a b c (counts_all a b rest) ends.0 ends.1 ends.2 ends.3 ends.4 ends.5 ends.6

  -- ---- the test

  to_test : (a b : Id) → Counted a b → is_counted stamps a b ≡ true
  unfolding Counted
  to_test a b counted = elim counted [
    | inl near ↦ or_left (a.rank == b.rank && nat_le a.index b.index) (list_any (is_counted_by a b) stamps)
        (and_from (a.rank == b.rank) (nat_le a.index b.index) (eq-eqb a.rank b.rank near.0)
        (le-leb a.index b.index near.1))
    | inr far ↦ or_right (a.rank == b.rank && nat_le a.index b.index) (list_any (is_counted_by a b) stamps)
        (in_any (is_counted_by a b) far.1
        (and_from (far.0.entry.id.rank == b.rank && nat_le far.0.entry.id.index b.index)
        (nat_lt a.index (count_in far.0 a.rank))
        (and_from (far.0.entry.id.rank == b.rank) (nat_le far.0.entry.id.index b.index)
        (eq-eqb far.0.entry.id.rank b.rank far.2) (le-leb far.0.entry.id.index b.index far.3))
        (lt-ltb a.index (count_in far.0 a.rank) far.4)))
  ]

  from_test : (a b : Id) → is_counted stamps a b ≡ true → Before script run a b
  from_test a b h =
      let counted = list_any (is_counted_by a b) stamps in
      elim (or_cases (a.rank == b.rank && nat_le a.index b.index) counted h) [
        | inl near ↦
            let two = and_parts (a.rank == b.rank) (nat_le a.index b.index) near in
            log_before script delay run lawful a b (eqb-true a.rank b.rank two.0) (leb-true a.index b.index two.1)
        | inr far ↦
            let one = any_in (is_counted_by a b) stamps far in
            let t = one.0 in
            let parts = and_parts (t.entry.id.rank == b.rank && nat_le t.entry.id.index b.index)
            (nat_lt a.index (count_in t a.rank)) one.2 in
            let two = and_parts (t.entry.id.rank == b.rank) (nat_le t.entry.id.index b.index) parts.0 in
            let first = counted_before (suc t.entry.event.place) t one.1 (omega arith) a
            (ltb-true a.index (count_in t a.rank) parts.1) in
            onwards t first (eqb-true t.entry.id.rank b.rank two.0) (leb-true t.entry.id.index b.index two.1)
      ]
    where
      onwards : (t : Stamp) → Before script run a t.entry.id → t.entry.id.rank ≡ b.rank → t.entry.id.index ≤ b.index →
          Before script run a b
      onwards t first rank below = elim (cases_lt t.entry.id.index b.index) [
        | inl earlier ↦ InLog first (rank, earlier)
        | inr later ↦ subst (Before script run a) (λ k. record { rank = rank k; index = same later k }) first
      ]
        where
          same : b.index ≤ t.entry.id.index → t.entry.id.index ≡ b.index
          same later = omega (arith, below, later)

  pub decide_order : (a b : Id) → (is_counted stamps a b ≡ true → Before script run a b)
      × (Before script run a b → is_counted stamps a b ≡ true)
  decide_order a b = (from_test a b, λ order. to_test a b (counts_all a b order))

pub clocks_decide : ClocksDecide
clocks_decide script delay run lawful stamps laws a b = decide_order script delay run lawful stamps laws a b
