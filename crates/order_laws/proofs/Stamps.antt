-- The clocks that are computed keep their laws.
use Rattle.std.proofs.Common.{◌≡◌, ℕ, zero, suc, ◌+◌, ◌<◌, ◌≤◌, ◌⊎◌, inl, inr, Bool, true, false, List, [], ◌∷◌, ◌++◌}
use Rattle.std.proofs.Common.{length, refl, ap, sym, subst, ◌∙◌, arith, append_assoc}
use Rattle.std.specs.Prelude.{max, map, replicate, slice_index, if◌then◌else◌}
use Rattle.std.proofs.lemmas.Bool.{cases_eq, cases_lt}
use Rattle.std.proofs.lemmas.List.{append-nil, map-append, get_or-set_same, get_or-set_other, length-replicate}
use Rattle.list_laws.proofs.Each.{AllFrom}
use Rattle.list_laws.proofs.Lists.{zeros}
use Rattle.list_laws.proofs.Members.{In, here, there, append_in, in_append_left, in_map, contains_in, in_contains}
use Rattle.rma_types.specs.declared.accesses.Id.{Id}
use Rattle.rma_types.specs.declared.schedules.Delay.{Delay}
use Rattle.rma_types.specs.declared.scripts.Script.{Script}
use Rattle.rma_record.specs.declared.runs.Run.{Run}
use Rattle.lawful_runs.specs.LawfulRun.{IsLawful}
use Rattle.lawful_runs.specs.Logs.{rows_of}
use Rattle.order_rules.specs.Before.{NamedEvent, events_in}
use Rattle.order_rules.proofs.EventLaws.{later_place, IsEventAt}
use Rattle.clock_rules.specs.Clocks.{Stamp, count_in, precedes, join_counts, own_counts, joined_with, stamp_after}
use Rattle.clock_rules.specs.Clocks.{stamps_after, stamps_in, IsCountedFrom}
use Rattle.order_laws.specs.ClockLaws.{StampsKeepLaws}
use Rattle.order_laws.proofs.Decide.{precedes_ascends}
use Rattle.order_laws.proofs.Events.{events_placed}
use Rattle.order_laws.proofs.Order.{event_at}

-- ---- joins

joined_at : (xs ys : List ℕ) (rank : ℕ) → slice_index (join_counts xs ys) rank ≡ max (slice_index xs rank)
    (slice_index ys rank)
joined_at [] ys rank = omega arith
joined_at (x ∷ xs) [] rank = omega arith
joined_at (x ∷ xs) (y ∷ ys) zero = refl
joined_at (x ∷ xs) (y ∷ ys) (suc rank) = joined_at xs ys rank

step_rest : (counts rest : List ℕ) (test : Bool) (rank : ℕ) → slice_index rest rank ≤ slice_index
    (if test then join_counts counts rest else rest) rank
step_rest counts rest true rank = let at = joined_at counts rest rank in omega arith
step_rest counts rest false rank = omega arith

step_counts : (counts rest : List ℕ) (test : Bool) (rank : ℕ) → test ≡ true → slice_index counts rank ≤ slice_index
    (if test then join_counts counts rest else rest) rank
step_counts counts rest true rank passes = let at = joined_at counts rest rank in omega arith
step_counts counts rest false rank passes = absurd (cc passes)

step_from : (counts rest : List ℕ) (test : Bool) (rank n : ℕ) →
    n < slice_index (if test then join_counts counts rest else rest) rank → (n < slice_index rest rank)
    ⊎ ((test ≡ true) × (n < slice_index counts rank))
step_from counts rest true rank n below =
    let at = joined_at counts rest rank in
    elim (cases_lt n (slice_index rest rank)) [ inl low ↦ inl low | inr high ↦ inr (refl, omega arith) ]
step_from counts rest false rank n below = inl below

with_own : (stamps : List Stamp) (entry : NamedEvent) (counts : List ℕ) (rank : ℕ) →
    slice_index counts rank ≤ slice_index (joined_with stamps entry counts) rank
with_own [] entry counts rank = omega arith
with_own (s ∷ stamps) entry counts rank =
    let rest = with_own stamps entry counts rank in
    let more = step_rest s.counts (joined_with stamps entry counts) (precedes s.entry entry) rank in
    omega arith

with_stamp : (stamps : List Stamp) (entry : NamedEvent) (counts : List ℕ) (rank : ℕ) {s : Stamp} → In s stamps →
    precedes s.entry entry ≡ true → count_in s rank ≤ slice_index (joined_with stamps entry counts) rank
with_stamp [] entry counts rank m h = elim m [ ]
with_stamp (s ∷ stamps) entry counts rank here h = step_counts s.counts (joined_with stamps entry counts)
    (precedes s.entry entry) rank h
with_stamp (u ∷ stamps) entry counts rank (there m) h =
    let rest = with_stamp stamps entry counts rank m h in
    let more = step_rest u.counts (joined_with stamps entry counts) (precedes u.entry entry) rank in
    omega arith

with_from : (stamps : List Stamp) (entry : NamedEvent) (counts : List ℕ) (rank n : ℕ) →
    n < slice_index (joined_with stamps entry counts) rank →
    (n < slice_index counts rank) ⊎ ((s : Stamp) × In s stamps × (precedes s.entry entry ≡ true)
    × (n < count_in s rank))
with_from [] entry counts rank n below = inl below
with_from (s ∷ stamps) entry counts rank n below = elim
    (step_from s.counts (joined_with stamps entry counts) (precedes s.entry entry) rank n below) [
      | inr one ↦ inr (s, here, one.0, one.1)
      | inl rest ↦ elim (with_from stamps entry counts rank n rest)
          [ inl own ↦ inl own | inr far ↦ inr (far.0, there far.1, far.2, far.3) ]
    ]

own_at : (ranks : ℕ) (id : Id) → id.rank < ranks → slice_index (own_counts ranks id) id.rank ≡ id.index + 1
own_at ranks id within =
    let long : length (replicate {A = ℕ} ranks 0) ≡ ranks = length-replicate {A = ℕ} ranks 0 in
    get_or-set_same (replicate {A = ℕ} ranks 0) id.rank (id.index + 1) 0 (omega (arith, long, within))

own_from : (ranks : ℕ) (id : Id) (rank n : ℕ) → id.rank < ranks → n < slice_index (own_counts ranks id) rank →
    (rank ≡ id.rank) × (n ≤ id.index)
own_from ranks id rank n within below = elim (cases_eq rank id.rank) [
  | inl same ↦
      let at : slice_index (own_counts ranks id) rank ≡ id.index + 1 = ap (slice_index (own_counts ranks id)) same
      ∙ own_at ranks id within in
      (same, omega arith)
  | inr other ↦
      let at : slice_index (own_counts ranks id) rank ≡ 0 = get_or-set_other (replicate ranks 0) id.rank rank
      (id.index + 1) 0 other ∙ zeros ranks rank in
      absurd (omega arith)
]

-- ---- the stamps of a list of entries

stamps_grow : (ranks : ℕ) (stamps : List Stamp) (entries : List NamedEvent) → (more : List Stamp)
    × (stamps_after ranks stamps entries ≡ stamps ++ more)
stamps_grow ranks stamps [] = ([], sym (append-nil stamps))
stamps_grow ranks stamps (entry ∷ entries) =
    let one = stamp_after ranks stamps entry in
    let rest = stamps_grow ranks (stamps ++ one ∷ []) entries in
    (one ∷ rest.0, rest.1 ∙ append_assoc stamps (one ∷ []) rest.0)

stamps_of : (ranks : ℕ) (stamps : List Stamp) (entries : List NamedEvent) → map (λ (s : Stamp). s.entry)
    (stamps_after ranks stamps entries) ≡ map (λ (s : Stamp). s.entry) stamps ++ entries
stamps_of ranks stamps [] = sym (append-nil (map (λ (s : Stamp). s.entry) stamps))
stamps_of ranks stamps (entry ∷ entries) =
    let one = stamp_after ranks stamps entry in
    stamps_of ranks (stamps ++ one ∷ []) entries
    ∙ ap (λ l. l ++ entries) (map-append (λ (s : Stamp). s.entry) stamps (one ∷ []))
    ∙ append_assoc (map (λ (s : Stamp). s.entry) stamps) (entry ∷ []) entries

-- the stamp was made after those before it
record IsStamped (ranks : ℕ) (whole : List Stamp) (t : Stamp) : Type 0 where
  before : List Stamp
  after : List Stamp
  split : whole ≡ before ++ t ∷ after
  is : t ≡ stamp_after ranks before t.entry

only : {X : Type 0} {x y : X} → In x (y ∷ []) → y ≡ x
only here = refl
only (there m) = elim m [ ]

each_stamped : (ranks : ℕ) (stamps : List Stamp) (entries : List NamedEvent) (t : Stamp) →
    In t (stamps_after ranks stamps entries) → In t stamps ⊎ IsStamped ranks (stamps_after ranks stamps entries) t
each_stamped ranks stamps [] t m = inl m
each_stamped ranks stamps (entry ∷ entries) t m =
    let one = stamp_after ranks stamps entry in
    elim (each_stamped ranks (stamps ++ one ∷ []) entries t m) [
      | inr made ↦ inr made
      | inl early ↦ elim (append_in stamps early) [
        | inl old ↦ inl old
        | inr new ↦
            let same : one ≡ t = only new in
            let rest = stamps_grow ranks (stamps ++ one ∷ []) entries in
            let split : stamps_after ranks (stamps ++ one ∷ []) entries ≡ stamps ++ one ∷ rest.0 = rest.1
            ∙ append_assoc stamps (one ∷ []) rest.0 in
            inr (record {
              before = stamps;
              after = rest.0;
              split = split ∙ ap (λ s. stamps ++ s ∷ rest.0) same;
              is = sym same ∙ ap (λ (s : Stamp). stamp_after ranks stamps s.entry) same;
            })
      ]
    ]

-- ---- places

module _ (script : Script) (delay : Delay) (run : Run) (lawful : IsLawful script delay run) where
  stamps : List Stamp
  stamps = stamps_in script run

  entries : map (λ (s : Stamp). s.entry) (stamps_in script run) ≡ events_in script run
  entries = stamps_of script.ranks [] (events_in script run)

  stamped : (t : Stamp) → In t (stamps_in script run) → IsStamped script.ranks (stamps_in script run) t
  stamped t m = elim (each_stamped script.ranks [] (events_in script run) t m)
      [ inl none ↦ elim none [ ] | inr made ↦ made ]

  entry_in : (t : Stamp) → In t (stamps_in script run) → In t.entry (events_in script run)
  entry_in t m = subst (λ l. In t.entry l) entries (in_map (λ (s : Stamp). s.entry) m)

  -- what precedes an entry was stamped before it
  stamped_before : (s t : Stamp) → In s (stamps_in script run) → (of_t : In t (stamps_in script run)) →
      precedes s.entry t.entry ≡ true → In s (stamped t of_t).before
  stamped_before s t of_s of_t h =
      let made = stamped t of_t in
      let up = precedes_ascends script delay run lawful s.entry t.entry (entry_in s of_s) (entry_in t of_t) h in
      elim (append_in made.before (subst (λ l. In s l) made.split of_s)) [
        | inl early ↦ early
        | inr late ↦ absurd (not_late s t made up late)
      ]
    where
      not_late : (s t : Stamp) (made : IsStamped script.ranks (stamps_in script run) t) →
          s.entry.event.place < t.entry.event.place → In s (t ∷ made.after) → ⊥
      not_late s t made up here = omega arith
      not_late s t made up (there m) =
          let whole : events_in script run ≡ map (λ (u : Stamp). u.entry) made.before ++ t.entry
          ∷ map (λ (u : Stamp). u.entry) made.after =
          sym entries ∙ ap (map (λ (u : Stamp). u.entry)) made.split ∙ map-append (λ (u : Stamp). u.entry) made.before
          (t ∷ made.after) in
          let down = later_place script run 0 (map (λ (u : Stamp). u.entry) made.before) t.entry
          (map (λ (u : Stamp). u.entry) made.after) s.entry
          (subst (AllFrom (IsEventAt script run (rows_of script run)) 0) whole (events_placed script delay run lawful))
          (in_map (λ (u : Stamp). u.entry) m) in
          omega arith

  counts_of : (t : Stamp) (of_t : In t (stamps_in script run)) (rank : ℕ) → count_in t rank ≡ slice_index
      (joined_with (stamped t of_t).before t.entry (own_counts script.ranks t.entry.id)) rank
  counts_of t of_t rank = ap (λ (s : Stamp). count_in s rank) (stamped t of_t).is

  own : (t : Stamp) → In t (stamps_in script run) → t.entry.id.index < count_in t t.entry.id.rank
  own t m =
      let within = (event_at script delay run lawful t.entry (entry_in t m)).within in
      let counts = counts_of t m t.entry.id.rank in
      let first = own_at script.ranks t.entry.id within in
      let more = with_own (stamped t m).before t.entry (own_counts script.ranks t.entry.id) t.entry.id.rank in
      omega arith

  joins : (s t : Stamp) → In s (stamps_in script run) → In t (stamps_in script run) → precedes s.entry t.entry ≡ true →
      (rank : ℕ) → count_in s rank ≤ count_in t rank
  joins s t of_s of_t h rank =
      let counts = counts_of t of_t rank in
      let more = with_stamp (stamped t of_t).before t.entry (own_counts script.ranks t.entry.id) rank
      (stamped_before s t of_s of_t h) h in
      omega arith

  cause : (t : Stamp) → In t (stamps_in script run) → (a : Id) → a.index < count_in t a.rank →
      IsCountedFrom (stamps_in script run) t.entry a
  cause t m a below =
      let made = stamped t m in
      let within = (event_at script delay run lawful t.entry (entry_in t m)).within in
      let counts = counts_of t m a.rank in
      elim (with_from made.before t.entry (own_counts script.ranks t.entry.id) a.rank a.index
      (omega (arith, below, counts))) [
        | inl near ↦ inl (own_from script.ranks t.entry.id a.rank a.index within near)
        | inr far ↦ inr (
          far.0,
          in_contains
              (subst (λ l. In far.0 l) (sym made.split) (in_append_left (t ∷ made.after) far.1)),
          far.2,
          far.3,
        )
      ]

pub keep_laws : StampsKeepLaws
keep_laws script delay run lawful = record {
  entries = entries script delay run lawful;
  own = λ t of_t. own script delay run lawful t (contains_in (stamps_in script run) t of_t);
  joins = λ s t of_s of_t h rank. joins script delay run lawful s t (contains_in (stamps_in script run) s of_s)
      (contains_in (stamps_in script run) t of_t) h rank;
  cause = λ t of_t a below. cause script delay run lawful t (contains_in (stamps_in script run) t of_t) a below;
}
