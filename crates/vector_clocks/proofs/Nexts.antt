-- One entry more keeps the laws of clocks.
use Rattle.std.proofs.Common.{◌≡◌, ℕ, ◌<◌, ◌≤◌, ◌⊎◌, inl, inr, true, false, List, [], ◌∷◌, ◌++◌, Option, Some, None}
use Rattle.std.proofs.Common.{length, refl, ap, sym, subst, ◌∙◌, arith, append_assoc}
use Rattle.std.specs.Prelude.{Contains, map, slice_index, ◌==◌, nat_lt}
use Rattle.std.specs.Option.{option_map}
use Rattle.std.proofs.lemmas.Bool.{or_left, or_right, and_from, cases_lt, eq-eqb, lt-ltb}
use Rattle.std.proofs.lemmas.List.{append-nil}
use Rattle.list_laws.proofs.Members.{In, here, there, contains_in, in_contains, in_map}
use Rattle.rma_types.specs.declared.accesses.Id.{Id}
use Rattle.board_rules.specs.Edges.{Event, events_of, is_edge}
use Rattle.board_rules.specs.Entries.{Row}
use Rattle.cell_face.specs.Fronts.{greater}
use Rattle.clock_rules.specs.Clocks.{count_in, stands_before, IsCountedFrom}
use Rattle.kept_rows.specs.Gifts.{gained_by, next_event}
use Rattle.vector_clocks.specs.Numbers.{raised, counts_of}
use Rattle.vector_clocks.specs.Replays.{Told, id_told, stamps_told, given_told, IsNext, AreNext}
use Rattle.vector_clocks.proofs.Chains.{no_chain}
use Rattle.vector_clocks.proofs.Gains.{gifts_from, joined_gifts, gained_is, in_gifts, gifts_in, gained_above}
use Rattle.vector_clocks.proofs.Gains.{gained_from, nothing_gained}
use Rattle.vector_clocks.proofs.Greater.{greater_at, raised_above, raised_own, raised_from}

-- ---- each is the next after those before it

pub next_of : (before rest : List Told) → AreNext before rest → {s : Told} → In s rest →
    (front : List Told) × (back : List Told) × (rest ≡ front ++ s ∷ back) × IsNext (before ++ front) s
next_of before [] all m = elim m [ ]
next_of before (t ∷ rest) all here = ([], rest, refl, subst (λ l. IsNext l t) (sym (append-nil before)) all.0)
next_of before (t ∷ rest) all {s} (there m) =
    let one = next_of (before ++ t ∷ []) rest all.1 m in
    (t ∷ one.0, one.1, ap (λ l. t ∷ l) one.2, subst (λ l. IsNext l s) (append_assoc before (t ∷ []) one.0) one.3)

pub next_snoc : (before rest : List Told) (t : Told) → AreNext before rest → IsNext (before ++ rest) t →
    AreNext before (rest ++ t ∷ [])
next_snoc before [] t all one = (subst (λ l. IsNext l t) (append-nil before) one, tt)
next_snoc before (s ∷ rest) t all one = (
  all.0,
  next_snoc (before ++ s ∷ []) rest t all.1
      (subst (λ l. IsNext l t) (sym (append_assoc before (s ∷ []) rest)) one),
)

-- what leads on gave its clock
settled : (told : List Told) → AreNext [] told → (next : Event) {s : Told} → In s told →
    is_edge s.stamp.entry.event next ≡ true → s.gift ≡ s.stamp.counts
settled told all next {s} m leads =
    let one = next_of [] told all m in
    one.3.given (λ u of_u. no_chain s.stamp.entry.event next u.stamp.entry.event leads)

-- ---- the clock that is made

above_gift : (gained : Option (List ℕ)) (gift : List ℕ) (rank : ℕ) →
    slice_index gift rank ≤ slice_index (counts_of gained gift) rank
unfolding counts_of
above_gift None gift rank = omega arith
above_gift (Some all) gift rank = let at = greater_at gift all rank in omega (arith, at)

above_gained : (gained : Option (List ℕ)) (gift all : List ℕ) (rank : ℕ) → gained ≡ Some all →
    slice_index all rank ≤ slice_index (counts_of gained gift) rank
unfolding counts_of
above_gained None gift all rank is = absurd (cc is)
above_gained (Some other) gift all rank is =
    let same : other ≡ all = cc is in
    let at = greater_at gift other rank in
    subst (λ l. slice_index l rank ≤ slice_index (greater gift other) rank) same (omega (arith, at))

made_from : (gained : Option (List ℕ)) (gift : List ℕ) (rank n : ℕ) → n < slice_index (counts_of gained gift) rank →
    (n < slice_index gift rank) ⊎ ((all : List ℕ) × (gained ≡ Some all) × (n < slice_index all rank))
unfolding counts_of
made_from None gift rank n below = inl below
made_from (Some all) gift rank n below =
    let at = greater_at gift all rank in
    elim (cases_lt n (slice_index gift rank))
    [ inl low ↦ inl low | inr high ↦ inr (all, refl, omega (arith, at, below, high)) ]

same_gained : (a b : Option (List ℕ)) → option_map Some a ≡ option_map Some b → a ≡ b
same_gained None None e = refl
same_gained None (Some b) e = absurd (cc e)
same_gained (Some a) None e = absurd (cc e)
same_gained (Some a) (Some b) e = cc e

-- the next entry that is replayed
unfoldable pub told_next : ℕ → List Told → Id → Row → List ℕ → Option (List ℕ) → Told
told_next ranks told id row prev gained = record {
  row = row;
  stamp = record {
    entry = record { id = id; event = next_event ranks (map (λ (t : Told). t.row) told) row };
    counts = counts_of gained (raised prev id.rank id.index);
  };
  gift = raised prev id.rank id.index;
}

-- the numbers before an entry are those of the last entry of its log
pub record IsLast (told : List Told) (id : Id) (prev : List ℕ) : Type 0 where
  pub up : {s : Told} → In s told → (id_told s).rank ≡ id.rank → (id_told s).index < id.index
  pub log : {s : Told} → In s told → (id_told s).rank ≡ id.rank → (rank : ℕ) → count_in
      s.stamp rank ≤ slice_index prev rank
  pub from : (rank n : ℕ) → n < slice_index prev rank →
      (s : Told) × In s told × ((id_told s).rank ≡ id.rank) × (n < count_in s.stamp rank)

module _ (ranks : ℕ) (told : List Told) (id : Id) (row : Row) (prev : List ℕ) (gained : Option (List ℕ))
    (all : AreNext [] told)
    (events : map (λ (t : Told). t.stamp.entry.event) told ≡ events_of ranks (map (λ (t : Told). t.row) told))
    (within : id.rank < length prev) (last : IsLast told id prev)
    (gains : option_map Some gained ≡ gained_by ranks (map given_told told) row) where
  event : Event
  event = next_event ranks (map (λ (t : Told). t.row) told) row

  gained_are : gained ≡ joined_gifts (gifts_from event told)
  unfolding event
  gained_are = same_gained gained (joined_gifts
      (gifts_from (next_event ranks (map (λ (t : Told). t.row) told) row) told))
      (gains ∙ gained_is ranks told row events)

  gift : List ℕ
  gift = raised prev id.rank id.index

  edge : (s : Told) → In s told → is_edge s.stamp.entry.event event ≡ true → (rank : ℕ) → count_in
      s.stamp rank ≤ slice_index (counts_of gained gift) rank
  edge s m leads rank =
      let one = gained_above (gifts_from event told) (in_gifts event m leads) in
      let gave : slice_index s.gift rank ≡ count_in s.stamp rank =
      ap (λ l. slice_index l rank) (settled told all event m leads) in
      let below = one.2 rank in
      let above = above_gained gained gift one.0 rank (gained_are ∙ one.1) in
      omega (arith, gave, below, above)

  log : (s : Told) → In s told → (id_told s).rank ≡ id.rank → (rank : ℕ) → count_in
      s.stamp rank ≤ slice_index (counts_of gained gift) rank
  unfolding gift
  log s m same rank =
      let below = last.log m same rank in
      let more = raised_above prev id.rank id.index rank within in
      let above = above_gift gained (raised prev id.rank id.index) rank in
      omega (arith, below, more, above)

  own : id.index < slice_index (counts_of gained gift) id.rank
  unfolding gift
  own =
      let first = raised_own prev id.rank id.index within in
      let above = above_gift gained (raised prev id.rank id.index) id.rank in
      omega (arith, first, above)

  cause : (a : Id) → a.index < slice_index (counts_of gained gift) a.rank →
      IsCountedFrom (stamps_told told) (record { id = id; event = event }) a
  unfolding gift
  cause a below = elim (made_from gained (raised prev id.rank id.index) a.rank a.index below) [
    | inl near ↦ elim (raised_from prev id.rank id.index a.rank a.index within near) [
      | inr own_item ↦ inl (own_item.0, own_item.1)
      | inl low ↦
          let s = last.from a.rank a.index low in
          let before : stands_before (id_told s.0) id ≡ true =
          and_from ((id_told s.0).rank == id.rank) (nat_lt (id_told s.0).index id.index)
          (eq-eqb (id_told s.0).rank id.rank s.2) (lt-ltb (id_told s.0).index id.index (last.up s.1 s.2)) in
          inr (
            s.0.stamp,
            in_contains (in_map (λ (t : Told). t.stamp) s.1),
            or_left (stands_before (id_told s.0) id) (is_edge s.0.stamp.entry.event event) before,
            s.3,
          )
    ]
    | inr far ↦
        let one = gained_from (gifts_from event told) far.0 (sym gained_are ∙ far.1) a.rank a.index far.2 in
        let s = gifts_in event told one.1 in
        let gave : s.0.stamp.counts ≡ one.0 = sym (settled told all event s.1 s.2) ∙ s.3 in
        inr (
          s.0.stamp,
          in_contains (in_map (λ (t : Told). t.stamp) s.1),
          or_right (stands_before (id_told s.0) id) (is_edge s.0.stamp.entry.event event) s.2,
          subst (λ l. a.index < slice_index l a.rank) (sym gave) one.2,
        )
  ]

  given : ((s : Told) → Contains told s → is_edge s.stamp.entry.event event ≡ false) → gift ≡ counts_of gained gift
  unfolding counts_of joined_gifts
  given none =
      let nothing : gifts_from event told ≡ [] = nothing_gained event told (λ t m. none t (in_contains m)) in
      let is : gained ≡ None = gained_are ∙ ap joined_gifts nothing in
      sym (ap (λ o. counts_of o gift) is)

  pub one_next : IsNext told (told_next ranks told id row prev gained)
  unfolding told_next event gift
  one_next = record {
    own = own;
    up = λ s m same. last.up (contains_in told s m) same;
    log = λ s m same rank. log s (contains_in told s m) same rank;
    edge = λ s m leads rank. edge s (contains_in told s m) leads rank;
    cause = cause;
    given = given;
  }
