-- The entries of a rank before one of its entries are those of its log before it, in their order.
use Rattle.std.proofs.Common.{◌≡◌, ℕ, suc, ◌+◌, ◌<◌, inl, inr, Bool, true, false, cond, List, [], ◌∷◌, ◌++◌}
use Rattle.std.proofs.Common.{length, take, drop, Option, Some, None, refl, ap, sym, ◌∙◌, subst, arith, append_assoc}
use Rattle.std.specs.Prelude.{◌==◌, slice_get}
use Rattle.std.specs.List.{count_by, filter}
use Rattle.std.specs.Option.{option_map_or}
use Rattle.std.proofs.lemmas.Bool.{cases_order, eq-eqb, ne_eqb, false≢true}
use Rattle.std.proofs.lemmas.Grind.{flat_map-append}
use Rattle.std.proofs.lemmas.List.{append-nil}
use Rattle.std.proofs.lemmas.List.Sums.{sum_by-cons}
use Rattle.list_laws.proofs.Lists.{get_taken}
use Rattle.list_laws.proofs.Members.{in_any}
use Rattle.rma_types.specs.declared.accesses.Step.{Step}
use Rattle.rma_types.specs.declared.accesses.Step.TheVariants.{One}
use Rattle.rma_types.specs.declared.calls.Call.{Call}
use Rattle.rma_types.specs.declared.schedules.Delay.{Delay}
use Rattle.rma_types.specs.declared.scripts.Script.{Script}
use Rattle.rma_record.specs.declared.items.Item.{Item}
use Rattle.rma_record.specs.declared.items.Item.TheVariants.{Issue, Null, Touch, Flush, Request, Entry, Tested, Refused}
use Rattle.rma_record.specs.declared.items.Item.TheVariants.{Ended}
use Rattle.rma_record.specs.declared.runs.Run.{Run}
use Rattle.board_rules.specs.Entries.{Row}
use Rattle.lawful_runs.specs.CallItems.{other_items, HasItemsOfCalls}
use Rattle.lawful_runs.specs.Items.{belongs_to}
use Rattle.lawful_runs.specs.LawfulRun.{IsLawful, rank_in}
use Rattle.lawful_runs.specs.Logs.{log_of, calls_of, row_by, rows_of}
use Rattle.lawful_runs.specs.Stages.{RankOfRun}
use Rattle.order_laws.proofs.Events.{get_in}
use Rattle.order_laws.proofs.Order.{same_id}
use Rattle.read_laws.proofs.Begun.{IsEntered, entered, rows_in}
use Rattle.read_laws.proofs.Firsts.{is_first}
use Rattle.read_laws.proofs.Lessons.{one_row}
use Rattle.first_point_laws.proofs.Placed.{IsPlaced, placed_row}
use Rattle.first_point_laws.proofs.Positions.{split_get}
use Rattle.first_point_laws.proofs.Splits.{own, own_joined, count_kept}

-- ---- lists

module _ {X : Type 0} (p : X → Bool) where
  counted : (x : X) (xs : List X) → count_by p (x ∷ xs) ≡ cond (p x) 1 0 + count_by p xs
  counted x xs = sum_by-cons (λ y. cond (p y) 1 0) x xs

  none_kept : (xs : List X) → count_by p xs ≡ 0 → filter p xs ≡ []
  none_kept [] none = refl
  none_kept (x ∷ xs) none = by_test (p x) (counted x xs) refl (none_kept xs)
    where
      by_test : (b : Bool) → count_by p (x ∷ xs) ≡ cond (p x) 1 0 + count_by p xs → p x ≡ b →
          (count_by p xs ≡ 0 → filter p xs ≡ []) → cond b (x ∷ filter p xs) (filter p xs) ≡ []
      by_test true split is rest =
          let one : ◌≡◌ {A = ℕ} (cond (p x) 1 0) 1 = ap (λ b. cond b 1 0) is in absurd (omega (arith, split, one, none))
      by_test false split is rest =
          let zero_here : ◌≡◌ {A = ℕ} (cond (p x) 1 0) 0 = ap (λ b. cond b 1 0) is in
          rest (omega (arith, split, zero_here, none))

  -- two fronts of a list with as many that pass, where the first ends before one that passes
  same_kept : (before pre rest post : List X) (x : X) → before ++ x ∷ rest ≡ pre ++ post → p x ≡ true →
      count_by p before ≡ count_by p pre → filter p before ≡ filter p pre
  same_kept before [] rest post x e passes counts = none_kept before counts
  same_kept [] (y ∷ pre) rest post x e passes counts =
      let same : x ≡ y = cc e in
      let one : ◌≡◌ {A = ℕ} (cond (p y) 1 0) 1 = ap (λ b. cond b 1 0) (sym (ap p same) ∙ passes) in
      let split = counted y pre in absurd (omega (arith, counts, one, split))
  same_kept (z ∷ before) (y ∷ pre) rest post x e passes counts =
      let same : z ≡ y = cc e in
      let first = counted z before in
      let second = counted y pre in
      let heads : ◌≡◌ {A = ℕ} (cond (p z) 1 0) (cond (p y) 1 0) = ap (λ w. cond (p w) 1 0) same in
      let tails = same_kept before pre rest post x (cc e) passes (omega (arith, counts, first, second, heads)) in
      λ i. cond (p (same i)) (same i ∷ tails i) (tails i)

-- ---- the entries of a rank

module _ (script : Script) (delay : Delay) (run : Run) (lawful : IsLawful script delay run) (rank : ℕ)
    (within : rank < script.ranks) where
  abbrev log : List Item
  log = log_of run rank

  abbrev rows_before : List Item → List Row
  rows_before items = rows_in script rank items

  rows_more : (xs : List Item) (x : Item) → rows_before (xs ++ x ∷ []) ≡ rows_before xs ++ row_by script rank x
  rows_more xs x = flat_map-append (row_by script rank) xs (x ∷ [])
      ∙ ap (λ l. rows_before xs ++ l) (append-nil (row_by script rank x))

  counts_own : (number place : ℕ) (step : Step) (call : Call) (xs : List Item)
      (e : IsEntered script delay run lawful rank number place step call xs) →
      count_by (λ (row : Row). row.rank == rank) e.before ≡ count_by (λ (row : Row). row.rank == rank) (rows_before xs)
  counts_own number place step call xs e = e.counts (λ row. row.rank == rank) (λ row apart. ne_eqb row.rank rank apart)

  -- the rank's rows before one of its rows, of which there are as many as in its log
  own_before : (done : List Item) (before rest pre post : List Row) (row : Row) →
      rows_of script run ≡ before ++ row ∷ rest → row.rank ≡ rank → rows_of script run ≡ pre ++ post →
      own rank pre ≡ rows_before done →
      count_by (λ (row : Row). row.rank == rank) before ≡ count_by (λ (row : Row). row.rank == rank)
      (rows_before done) → own rank before ≡ rows_before done
  own_before done before rest pre post row split is front owned counts =
      same_kept (λ (row : Row). row.rank == rank) before pre rest post row (sym split ∙ front)
      (eq-eqb row.rank rank is)
      (counts ∙ sym (ap (count_by (λ (row : Row). row.rank == rank)) owned)
      ∙ count_kept (λ (row : Row). row.rank == rank) (λ (row : Row). row.rank == rank) (λ row e. e) pre) ∙ owned

  abbrev Wanted : List Item → Type 0
  Wanted items = (before rest : List Row) (row : Row) → rows_of script run ≡ before ++ row ∷ rest → row.rank ≡ rank →
      count_by (λ (row : Row). row.rank == rank) before ≡ count_by (λ (row : Row). row.rank == rank)
      (rows_before items) → own rank before ≡ rows_before items

  own_rows : (done items later : List Item) → log ≡ done ++ (items ++ later) → (pre post : List Row) →
      rows_of script run ≡ pre ++ post → own rank pre ≡ rows_before done → Wanted (done ++ items)
  own_rows done [] later e pre post front owned =
      subst Wanted (sym (append-nil done))
      (λ before rest row split is counts. own_before done before rest pre post row split is front owned counts)
  own_rows done (item ∷ items) later e pre post front owned =
      subst Wanted (append_assoc done (item ∷ []) items)
      (by_item item refl
      (λ pre post front owned. own_rows (done ++ item ∷ []) items later
      (e ∙ sym (append_assoc done (item ∷ []) (items ++ later))) pre post front owned))
    where
      no_row : row_by script rank item ≡ [] →
          ((pre post : List Row) → rows_of script run ≡ pre ++ post → own rank pre ≡ rows_before (done ++ item ∷ []) →
          Wanted ((done ++ item ∷ []) ++ items)) → Wanted ((done ++ item ∷ []) ++ items)
      no_row none next = next pre post front
          (owned ∙ sym (rows_more done item ∙ ap (λ l. rows_before done ++ l) none ∙ append-nil (rows_before done)))

      one_row_more : (number place : ℕ) (step : Step) → Entry number place step ≡ item →
          (o : Option Call) → slice_get (calls_of script rank) number ≡ o →
          ((pre post : List Row) → rows_of script run ≡ pre ++ post → own rank pre ≡ rows_before (done ++ item ∷ []) →
          Wanted ((done ++ item ∷ []) ++ items)) → Wanted ((done ++ item ∷ []) ++ items)
      one_row_more number place step is None of next = no_row (ap (row_by script rank) (sym is)
          ∙ ap (λ o. option_map_or (λ c. record { rank = rank; number = number; call = c; step = step } ∷ []) o []) of)
          next
      one_row_more number place step is (Some call) of next =
          let row : Row = record { rank = rank; number = number; call = call; step = step } in
          let at = entered script delay run lawful rank number place step call done (items ++ later) within
          (e ∙ ap (λ x. done ++ x ∷ (items ++ later)) (sym is)) of in
          let earlier = own_before done at.before at.rest pre post row at.split refl front owned
          (counts_own number place step call done at) in
          next (at.before ++ row ∷ []) at.rest (at.split ∙ sym (append_assoc at.before (row ∷ []) at.rest))
          (own_joined rank at.before (row ∷ [])
          ∙ (λ i. earlier i ++ cond (eq-eqb rank rank refl i) (row ∷ []) [])
          ∙ sym (rows_more done item ∙ ap (λ l. rows_before done ++ l)
          (ap (row_by script rank) (sym is) ∙ one_row script rank number place step call of)))

      by_item : (x : Item) → x ≡ item →
          ((pre post : List Row) → rows_of script run ≡ pre ++ post → own rank pre ≡ rows_before (done ++ item ∷ []) →
          Wanted ((done ++ item ∷ []) ++ items)) → Wanted ((done ++ item ∷ []) ++ items)
      by_item (Issue number access) is next = no_row (ap (row_by script rank) (sym is)) next
      by_item (Null number) is next = no_row (ap (row_by script rank) (sym is)) next
      by_item (Touch issue element cell place bits) is next = no_row (ap (row_by script rank) (sym is)) next
      by_item (Flush number) is next = no_row (ap (row_by script rank) (sym is)) next
      by_item (Request number) is next = no_row (ap (row_by script rank) (sym is)) next
      by_item (Entry number place step) is next =
          one_row_more number place step is (slice_get (calls_of script rank) number) refl next
      by_item (Tested number seen) is next = no_row (ap (row_by script rank) (sym is)) next
      by_item (Refused number class seen) is next = no_row (ap (row_by script rank) (sym is)) next
      by_item Ended is next = no_row (ap (row_by script rank) (sym is)) next

module _ (here : RankOfRun) (log : List Item) (has : HasItemsOfCalls here (other_items log)) where
  -- a call has one entry of step One
  one_before : (number i j p q : ℕ) → slice_get log i ≡ Some (Entry number p One) →
      slice_get log j ≡ Some (Entry number q One) → i < j → ⊥
  one_before number i j p q first second below =
      false≢true (sym (is_first here log j (Entry number q One) number has second refl refl)
      ∙ in_any (belongs_to number) (get_in (take j log) i (Entry number p One) (get_taken j i log below ∙ first))
      (eq-eqb number number refl))

  one_index : (number i j p q : ℕ) → slice_get log i ≡ Some (Entry number p One) →
      slice_get log j ≡ Some (Entry number q One) → i ≡ j
  one_index number i j p q first second = elim (cases_order i j) [
    | inl same ↦ same
    | inr other ↦ elim other [
      | inl below ↦ absurd (one_before number i j p q first second below)
      | inr above ↦ absurd (one_before number j i q p second first above)
    ]
  ]

-- ---- an entry of a log at its place

-- the entry of step One at an index of a log, at its place, after the entries of its log
pub record IsOwned (script : Script) (run : Run) (rank index number : ℕ) (call : Call) : Type 0 where
  pub earlier : List Row
  pub later : List Row
  pub placed : IsPlaced script run earlier (record { rank = rank; number = number; call = call; step = One }) later
      (record { rank = rank; index = index })
  pub owned : own rank earlier ≡ rows_in script rank (take index (log_of run rank))

pub owned_entry : (script : Script) (delay : Delay) (run : Run) → IsLawful script delay run →
    (rank index number place : ℕ) (call : Call) → rank < script.ranks →
    slice_get (log_of run rank) index ≡ Some (Entry number place One) →
    slice_get (calls_of script rank) number ≡ Some call → IsOwned script run rank index number call
owned_entry script delay run lawful rank index number place call within logged of =
    let row : Row = record { rank = rank; number = number; call = call; step = One } in
    let split = split_get (log_of run rank) index (Entry number place One) logged in
    let front = take index (log_of run rank) in
    let back = drop (suc index) (log_of run rank) in
    let at = entered script delay run lawful rank number place One call front back within split of in
    let one = placed_row script delay run lawful at.before row at.rest at.split in
    let same_rank : rank ≡ one.0.rank = one.1.rank_is in
    let same_index = one_index (rank_in script delay run rank) (log_of run rank) (lawful.logs rank within).calls number
    one.0.index index (length at.before) place
    (subst (λ r. slice_get (log_of run r) one.0.index ≡ Some (Entry number (length at.before) One)) (sym same_rank)
    one.1.logged) logged in
    record {
      earlier = at.before;
      later = at.rest;
      placed = subst (IsPlaced script run at.before row at.rest)
          (same_id one.0 (record { rank = rank; index = index }) (sym same_rank) same_index) one.1;
      owned = own_rows script delay run lawful rank within [] front (Entry number place One ∷ back) split []
          (rows_of script run) refl refl at.before at.rest row at.split refl
          (counts_own script delay run lawful rank within number place One call front at);
    }
