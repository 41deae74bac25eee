-- The entries of a lawful run between two entries of one log, and the two as events.
use Rattle.std.proofs.Common.{◌≡◌, ℕ, zero, suc, ◌+◌, ◌<◌, ◌≤◌, inl, inr, Bool, true, false, List, [], ◌∷◌, ◌++◌}
use Rattle.std.proofs.Common.{length, Some, refl, ap, sym, ◌∙◌, subst, arith, append_assoc, append-nil, length-append}
use Rattle.std.specs.Prelude.{if◌then◌else◌, map, nat_lt, slice_get}
use Rattle.std.specs.List.{count_by, flat_map, zip}
use Rattle.std.specs.Option.{option_map_or}
use Rattle.std.proofs.lemmas.Bool.{cases_eq, cases_lt, eq-eqb, ltb-true}
use Rattle.std.proofs.lemmas.Grind.{flat_map-append}
use Rattle.std.proofs.lemmas.Option.{slice_get_within}
use Rattle.list_laws.proofs.Each.{AllFrom}
use Rattle.list_laws.proofs.Members.{from_in, In, here, there, flat_map_in}
use Rattle.rma_types.specs.declared.accesses.Id.{Id}
use Rattle.rma_types.specs.declared.accesses.Step.{Step}
use Rattle.rma_types.specs.declared.calls.Call.{Call}
use Rattle.rma_types.specs.declared.schedules.Delay.{Delay}
use Rattle.rma_types.specs.declared.scripts.Script.{Script}
use Rattle.rma_record.specs.declared.items.Item.TheVariants.{Entry}
use Rattle.rma_record.specs.declared.runs.Run.{Run}
use Rattle.call_rules.proofs.NumbersFrom.{in_numbers}
use Rattle.board_rules.specs.Edges.{events_after}
use Rattle.board_rules.specs.Entries.{Row}
use Rattle.board_rules.specs.Questions.{question}
use Rattle.lawful_runs.specs.Accesses.{EachPair}
use Rattle.lawful_runs.specs.BoardLaw.{IsBefore, moments_in}
use Rattle.lawful_runs.specs.LawfulRun.{IsLawful}
use Rattle.lawful_runs.specs.Logs.{Named, named_items, log_of, calls_of, entries_of, entry_at, is_entry_at}
use Rattle.lawful_runs.specs.Logs.{is_named_entry_at, is_some_entry, row_by, row_of}
use Rattle.lawful_runs.proofs.LogLaws.{IsEntryOf}
use Rattle.order_rules.specs.Before.{NamedEvent, named_event, events_in}
use Rattle.order_laws.proofs.Events.{entries_placed, places_ascend}
use Rattle.read_laws.proofs.Begun.{item_member}
use Rattle.read_laws.proofs.Counts.{in_counts, alone, found_where}
use Rattle.read_laws.proofs.Touches.{in_flat_map}
use Rattle.first_point_laws.proofs.FenceEdges.{AreOfOthers}

-- ---- lists

-- a list around two of its elements
pub record HasTwo {X : Type 0} (xs : List X) (first second : ℕ) (x y : X) : Type 0 where
  pub front : List X
  pub back : List X
  pub rest : List X
  pub split : xs ≡ front ++ x ∷ (back ++ y ∷ rest)
  pub long : length front ≡ first
  pub apart : first + suc (length back) ≡ second

one_at : {X : Type 0} (xs : List X) (k : ℕ) (y : X) → slice_get xs k ≡ Some y →
    (back rest : List X) × (xs ≡ back ++ y ∷ rest) × (length back ≡ k)
one_at [] k y e = absurd (cc e)
one_at (x ∷ xs) zero y e = let same : x ≡ y = cc e in ([], xs, ap (λ z. z ∷ xs) same, refl)
one_at (x ∷ xs) (suc k) y e =
    let more = one_at xs k y e in (x ∷ more.0, more.1, ap (λ l. x ∷ l) more.2, ap suc more.3)

two_at : {X : Type 0} (xs : List X) (first second : ℕ) (x y : X) → slice_get xs first ≡ Some x →
    slice_get xs second ≡ Some y → first < second → HasTwo xs first second x y
two_at [] first second x y e f below = absurd (cc e)
two_at (z ∷ xs) first zero x y e f below = absurd (omega (arith, below))
two_at (z ∷ xs) zero (suc second) x y e f below =
    let same : z ≡ x = cc e in
    let one = one_at xs second y f in
    record {
      front = [];
      back = one.0;
      rest = one.1;
      split = λ i. same i ∷ one.2 i;
      long = refl;
      apart = omega (arith, one.3);
    }
two_at (z ∷ xs) (suc first) (suc second) x y e f below =
    let two = two_at xs first second x y e f (omega (arith, below)) in
    record {
      front = z ∷ two.front;
      back = two.back;
      rest = two.rest;
      split = ap (λ l. z ∷ l) two.split;
      long = ap suc two.long;
      apart = omega (arith, two.apart);
    }

from_back : {X : Type 0} (P : ℕ → X → Type 0) (at : ℕ) (xs ys : List X) → AllFrom P at (xs ++ ys) →
    AllFrom P (at + length xs) ys
unfolding AllFrom
from_back P at [] ys all = let same : at ≡ at + 0 = omega arith in subst (λ n. AllFrom P n ys) same all
from_back P at (x ∷ xs) ys all =
    let same : at + 1 + length xs ≡ at + suc (length xs) = omega arith in
    subst (λ n. AllFrom P n ys) same (from_back P (at + 1) xs ys all.1)

from_front : {X : Type 0} (P : ℕ → X → Type 0) (at : ℕ) (xs ys : List X) → AllFrom P at (xs ++ ys) →
    AllFrom P at xs
unfolding AllFrom
from_front P at [] ys all = tt
from_front P at (x ∷ xs) ys all = (all.0, from_front P (at + 1) xs ys all.1)

from_rest : {X : Type 0} (P : ℕ → X → Type 0) (at : ℕ) (x : X) (xs : List X) → AllFrom P at (x ∷ xs) →
    AllFrom P (at + 1) xs
unfolding AllFrom
from_rest P at x xs all = all.1

-- ---- rows and events

-- the entry has this row
abbrev HasRow : Script → Named → Row → Type 0
HasRow script x row = row_of script x ≡ row ∷ []

-- the row of an entry
abbrev pub row_in : ℕ → ℕ → Step → Call → Row
row_in rank number step call = record { rank = rank; number = number; call = call; step = step }

-- the event that an entry is, with its row after the rows of the entries before it
abbrev pub event_with : ℕ → Id → ℕ → List Row → Row → NamedEvent
event_with ranks id place before row =
    record { id = id; event = record { place = place; step = row.step; asked = question ranks before row } }

-- the events of entries of these places, after these rows
abbrev events_among : Script → ℕ → List Row → List Named → List Row → List NamedEvent
events_among script first before entries rows =
    map named_event (zip entries (events_after script.ranks first before rows))

-- an entry is an event of the board, which asks after the rows of the entries before it
event_among : (script : Script) (xs : List Named) (x : Named) (rest : List Named) (row : Row)
    (before front : List Row) (first place : ℕ) → ((y : Named) → In y xs → (r : Row) × HasRow script y r) →
    HasRow script x row → front ≡ before ++ flat_map (row_of script) xs → place ≡ first + length xs →
    In (event_with script.ranks x.id place front row)
    (events_among script first before (xs ++ x ∷ rest) (flat_map (row_of script) (xs ++ x ∷ rest)))
event_among script [] x rest row before front first place each of is at =
    let same_front : before ≡ front = sym (is ∙ append-nil before) in
    let same_place : first ≡ place = omega (arith, at) in
    subst (λ rows. In (event_with script.ranks x.id place front row)
    (events_among script first before (x ∷ rest) (rows ++ flat_map (row_of script) rest))) (sym of)
    (subst (λ e. In e (events_among script first before (x ∷ rest) (row ∷ flat_map (row_of script) rest)))
    (λ i. event_with script.ranks x.id (same_place i) (same_front i) row) here)
event_among script (y ∷ xs) x rest row before front first place each of is at =
    let one = each y here in
    let later : front ≡ (before ++ one.0 ∷ []) ++ flat_map (row_of script) xs =
    is ∙ ap (λ l. before ++ (l ++ flat_map (row_of script) xs)) one.1
    ∙ sym (append_assoc before (one.0 ∷ []) (flat_map (row_of script) xs)) in
    subst (λ rows. In (event_with script.ranks x.id place front row)
    (events_among script first before (y ∷ (xs ++ x ∷ rest)) (rows ++ flat_map (row_of script) (xs ++ x ∷ rest))))
    (sym one.1)
    (there (event_among script xs x rest row (before ++ one.0 ∷ []) front (first + 1) place
    (λ z m. each z (there m)) of later (omega (arith, at))))

-- an entry of a run has a row of its rank
entry_row : (script : Script) (run : Run) (place : ℕ) (x : Named) → IsEntryOf script run place x →
    (row : Row) × HasRow script x row × (row.rank ≡ x.id.rank)
entry_row script run place x e = (
  record { rank = x.id.rank; number = e.number; call = e.call; step = e.step },
  ap (row_by script x.id.rank) e.is ∙ ap (λ o. option_map_or
      (λ call. record { rank = x.id.rank; number = e.number; call = call; step = e.step } ∷ []) o []) e.of_rank,
  refl,
)

module _ (script : Script) (delay : Delay) (run : Run) (lawful : IsLawful script delay run) where
  -- ---- entries

  placed : AllFrom (IsEntryOf script run) 0 (entries_of run)
  placed = entries_placed script run lawful.ranks lawful.board.entries

  -- an entry of a log is one of the run
  in_entries : (x : Named) (number place : ℕ) (step : Step) → In x (named_items run) →
      x.item ≡ Entry number place step → In x (entries_of run)
  in_entries x number place step m is =
      let most : ℕ = count_by is_some_entry (named_items run) in
      let passes : is_named_entry_at place x ≡ true = ap (is_entry_at place) is ∙ eq-eqb place place refl in
      let once = if_one (nat_lt place most) (count_by (is_named_entry_at place) (named_items run))
      (lawful.board.entries.places place) (in_counts (is_named_entry_at place) m passes) in
      let one = found_where (is_named_entry_at place) (named_items run) (omega (arith, once.1)) in
      let few : count_by (is_named_entry_at place) (named_items run) ≤ 1 = omega (arith, once.1) in
      let same : one.0 ≡ x = alone (is_named_entry_at place) (named_items run) one.0 x few one.1 m passes in
      let at : entry_at (named_items run) place ≡ x ∷ [] =
      ap (λ o. option_map_or (λ y. y ∷ []) o []) (one.1 ∙ ap Some same) in
      let below : place < most = ltb-true place most once.0 in
      in_flat_map (entry_at (named_items run)) (in_numbers 0 most place (omega arith) (omega (arith, below)))
      (subst (λ l. In x l) (sym at) here)
    where
      if_one : (b : Bool) (n : ℕ) → n ≡ (if b then 1 else 0) → 1 ≤ n → (b ≡ true) × (n ≡ 1)
      if_one true n e some = (refl, e)
      if_one false n e some = absurd (omega (arith, e, some))

  -- an entry of a log, with its call
  pub record IsEntryIn (rank index number place : ℕ) (step : Step) (call : Call) : Type 0 where
    pub logged : slice_get (log_of run rank) index ≡ Some (Entry number place step)
    pub of_rank : slice_get (calls_of script rank) number ≡ Some call

  -- an entry of a log among those of the run, at its place
  pub listed : (rank index number place : ℕ) (step : Step) (call : Call) → rank < script.ranks →
      IsEntryIn rank index number place step call →
      slice_get (entries_of run) place ≡ Some (record {
        id = record { rank = rank; index = index };
        item = Entry number place step;
      })
  listed rank index number place step call within entry =
      let x : Named = record { id = record { rank = rank; index = index }; item = Entry number place step } in
      let m = item_member run rank index (Entry number place step) (omega (arith, within, lawful.ranks))
      entry.logged in
      let one = from_in (IsEntryOf script run) 0 (entries_of run) placed (in_entries x number place step m refl) in
      let item : Entry number place step ≡ Entry one.1.number (0 + one.0) one.1.step = one.1.is in
      let at : place ≡ 0 + one.0 = cc item in
      let same : one.0 ≡ place = omega (arith, at) in
      subst (λ k. slice_get (entries_of run) k ≡ Some x) same one.2

  -- ---- two entries of one log, with only other items between them

  -- the two as events, with the rows of other ranks between them
  pub record AreTwo (rank first second number : ℕ) (s t : Step) (call : Call) (arrived left : ℕ) : Type 0 where
    pub before : List Row
    pub between : List Row
    pub others : AreOfOthers rank between
    pub of_first : In (event_with script.ranks (record { rank = rank; index = first }) arrived before
        (row_in rank number s call)) (events_in script run)
    pub of_second : In (event_with script.ranks (record { rank = rank; index = second }) left
        (before ++ row_in rank number s call ∷ between) (row_in rank number t call)) (events_in script run)

  pub are_two : (rank first second number : ℕ) (s t : Step) (call : Call) (arrived left : ℕ) →
      rank < script.ranks → first < second → IsEntryIn rank first number arrived s call →
      IsEntryIn rank second number left t call →
      ((k n p : ℕ) (u : Step) → first < k → k < second → slice_get (log_of run rank) k ≡ Some (Entry n p u) → ⊥) →
      AreTwo rank first second number s t call arrived left
  are_two rank first second number s t call arrived left within below one two none = record {
    before = flat_map (row_of script) split.front;
    between = flat_map (row_of script) split.back;
    others = others;
    of_first = of_first;
    of_second = of_second;
  }
    where
      x : Named
      x = record { id = record { rank = rank; index = first }; item = Entry number arrived s }

      y : Named
      y = record { id = record { rank = rank; index = second }; item = Entry number left t }

      moments : EachPair IsBefore (moments_in (log_of run rank))
      moments = (lawful.board.looks rank within).moments

      up : arrived < left
      up = places_ascend (log_of run rank) first second number number arrived left s t moments one.logged two.logged
          below

      split : HasTwo (entries_of run) arrived left x y
      split = two_at (entries_of run) arrived left x y (listed rank first number arrived s call within one)
          (listed rank second number left t call within two) up

      split_later : entries_of run ≡ (split.front ++ x ∷ split.back) ++ y ∷ split.rest
      split_later = split.split ∙ sym (append_assoc split.front (x ∷ split.back) (y ∷ split.rest))

      placed_front : AllFrom (IsEntryOf script run) 0 (split.front ++ x ∷ split.back)
      placed_front = from_front (IsEntryOf script run) 0 (split.front ++ x ∷ split.back) (y ∷ split.rest)
          (subst (AllFrom (IsEntryOf script run) 0) split_later placed)

      placed_between : AllFrom (IsEntryOf script run) (0 + length split.front + 1) split.back
      placed_between = from_rest (IsEntryOf script run) (0 + length split.front) x split.back
          (from_back (IsEntryOf script run) 0 split.front (x ∷ split.back) placed_front)

      each_row : (at : ℕ) (xs : List Named) → AllFrom (IsEntryOf script run) at xs → (z : Named) → In z xs →
          (row : Row) × HasRow script z row
      each_row at xs all z m =
          let one = from_in (IsEntryOf script run) at xs all m in
          let row = entry_row script run (at + one.0) z one.1 in (row.0, row.1)

      row_of_x : HasRow script x (row_in rank number s call)
      row_of_x = ap (λ o. option_map_or (λ c. row_in rank number s c ∷ []) o []) one.of_rank

      row_of_y : HasRow script y (row_in rank number t call)
      row_of_y = ap (λ o. option_map_or (λ c. row_in rank number t c ∷ []) o []) two.of_rank

      index_ascends : (i j a b p q : ℕ) (u v : Step) → slice_get (log_of run rank) i ≡ Some (Entry a p u) →
          slice_get (log_of run rank) j ≡ Some (Entry b q v) → p < q → i < j
      index_ascends i j a b p q u v first second low = elim (cases_lt i j) [
        | inl earlier ↦ earlier
        | inr late ↦ elim (cases_eq i j) [
          | inl same ↦
              let both : Some (Entry a p u) ≡ Some (Entry b q v) =
              sym first ∙ ap (slice_get (log_of run rank)) same ∙ second in
              let at : p ≡ q = cc both in absurd (omega (arith, at, low))
          | inr other ↦
              let down = places_ascend (log_of run rank) j i b a q p v u moments second first
              (omega (arith, late, other)) in
              absurd (omega (arith, down, low))
        ]
      ]

      others : AreOfOthers rank (flat_map (row_of script) split.back)
      others row m same =
          let from = flat_map_in (row_of script) split.back m in
          let at = from_in (IsEntryOf script run) (0 + length split.front + 1) split.back placed_between from.1 in
          let place : ℕ = 0 + length split.front + 1 + at.0 in
          let own = entry_row script run place from.0 at.1 in
          let is : row ≡ own.0 = only (subst (λ l. In row l) own.1 from.2) in
          let of_rank : from.0.id.rank ≡ rank = sym own.2 ∙ sym (ap (λ (r : Row). r.rank) is) ∙ same in
          let logged : slice_get (log_of run rank) from.0.id.index ≡ Some (Entry at.1.number place at.1.step) =
          subst (λ r. slice_get (log_of run r) from.0.id.index ≡ Some (Entry at.1.number place at.1.step)) of_rank
          (at.1.logged ∙ ap Some at.1.is) in
          let within_back = slice_get_within split.back at.0 from.0 at.2 in
          let above : arrived < place = omega (arith, split.long) in
          let under : place < left = omega (arith, split.long, split.apart, within_back) in
          none from.0.id.index at.1.number place at.1.step
          (index_ascends first from.0.id.index number at.1.number arrived place s at.1.step one.logged logged above)
          (index_ascends from.0.id.index second at.1.number number place left at.1.step t logged two.logged under)
          logged
        where
          only : {r : Row} → In row (r ∷ []) → row ≡ r
          only here = refl
          only (there n) = elim n [ ]

      of_first : In (event_with script.ranks x.id arrived (flat_map (row_of script) split.front)
          (row_in rank number s call)) (events_in script run)
      of_first = subst (λ es. In (event_with script.ranks x.id arrived (flat_map (row_of script) split.front)
          (row_in rank number s call)) (events_among script 0 [] es (flat_map (row_of script) es)))
          (sym split.split)
          (event_among script split.front x (split.back ++ y ∷ split.rest) (row_in rank number s call) []
          (flat_map (row_of script) split.front) 0 arrived
          (each_row 0 split.front (from_front (IsEntryOf script run) 0 split.front (x ∷ split.back) placed_front))
          row_of_x refl (omega (arith, split.long)))

      rows_before : List Row
      rows_before = flat_map (row_of script) split.front ++ row_in rank number s call
          ∷ flat_map (row_of script) split.back

      are_before : rows_before ≡ flat_map (row_of script) (split.front ++ x ∷ split.back)
      are_before = ap (λ l. flat_map (row_of script) split.front ++ (l ++ flat_map (row_of script) split.back))
          (sym row_of_x) ∙ sym (flat_map-append (row_of script) split.front (x ∷ split.back))

      of_second : In (event_with script.ranks y.id left rows_before (row_in rank number t call)) (events_in script run)
      of_second =
          let long = length-append split.front (x ∷ split.back) in
          subst (λ es. In (event_with script.ranks y.id left rows_before (row_in rank number t call))
          (events_among script 0 [] es (flat_map (row_of script) es))) (sym split_later)
          (event_among script (split.front ++ x ∷ split.back) y split.rest (row_in rank number t call) [] rows_before
          0 left (each_row 0 (split.front ++ x ∷ split.back) placed_front) row_of_y are_before
          (omega (arith, long, split.long, split.apart)))
