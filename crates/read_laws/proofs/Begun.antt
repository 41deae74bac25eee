-- The entry with which a rank begins to create a window, as the board sees it: on the number that the rank counts.
use Rattle.std.proofs.Common.{◌≡◌, ℕ, zero, suc, ◌+◌, ◌-◌, ◌<◌, ◌≤◌, Bool, true, false, cond, not, List, [], ◌∷◌, ◌++◌}
use Rattle.std.proofs.Common.{length, Option, Some, None, refl, ap, sym, ◌∙◌, subst, arith, append_assoc}
use Rattle.std.specs.Prelude.{nat_lt, slice_get, slice_index_or, if◌then◌else◌}
use Rattle.std.specs.List.{find, flat_map, count_by, AllByRecursion}
use Rattle.std.specs.Option.{option_map_or}
use Rattle.std.proofs.lemmas.Bool.{eq-eqb, lt-ltb, le-ltb, ltb-true, ltb-false, cond-true}
use Rattle.std.proofs.lemmas.List.{append-nil}
use Rattle.std.proofs.lemmas.List.Sums.{sum_by-cons, sum_by-append}
use Rattle.std.proofs.lemmas.Option.{slice_get_within}
use Rattle.list_laws.proofs.Lists.{get_append}
use Rattle.list_laws.proofs.Members.{In, here, there, in_append_left, in_append_right}
use Rattle.rma_types.specs.declared.accesses.Step.{Step}
use Rattle.rma_types.specs.declared.calls.Call.{Call}
use Rattle.rma_types.specs.declared.schedules.Delay.{Delay}
use Rattle.rma_types.specs.declared.scripts.Script.{Script}
use Rattle.rma_record.specs.declared.items.Item.{Item}
use Rattle.rma_record.specs.declared.items.Item.TheVariants.{Issue, Null, Touch, Flush, Request, Entry, Tested, Refused}
use Rattle.rma_record.specs.declared.items.Item.TheVariants.{Ended}
use Rattle.rma_record.specs.declared.runs.Run.{Run}
use Rattle.board_rules.specs.Entries.{Row, acts_after, window_of}
use Rattle.call_rules.specs.Pieces.{numbers_from}
use Rattle.lawful_runs.specs.Accesses.{EachPair}
use Rattle.lawful_runs.specs.BoardLaw.{IsBefore, moments_in}
use Rattle.lawful_runs.specs.CallItems.{other_items}
use Rattle.lawful_runs.specs.Items.{is_touch}
use Rattle.lawful_runs.specs.LawfulRun.{IsLawful}
use Rattle.lawful_runs.specs.Logs.{Named, named_from, named_in, named_logs, named_items, log_of, calls_of}
use Rattle.lawful_runs.specs.Logs.{is_named_entry_at, is_some_entry, entry_at, row_by, row_of, rows_of}
use Rattle.lawful_runs.proofs.LogLaws.{named_joined}
use Rattle.order_laws.proofs.Events.{places_ascend}
use Rattle.read_laws.proofs.Counts.{total, total_joined, total_of_all, in_counts, alone, numbers_split, first_entries}
use Rattle.read_laws.proofs.Counts.{found_where, of_rank_total, rows_total, is_below, front_total}
use Rattle.read_laws.proofs.Touches.{named_at}

-- ---- members

named_member : (rank first k : ℕ) (log : List Item) (item : Item) → slice_get log k ≡ Some item →
    In (record { id = record { rank = rank; index = first + k }; item = item }) (named_from rank first log)
named_member rank first k [] item e = absurd (cc e)
named_member rank first zero (x ∷ log) item e =
    let same : x ≡ item = cc e in
    let at : first ≡ first + 0 = omega arith in
    subst (λ (y : Named). In y (named_from rank first (x ∷ log)))
    (λ i. record { id = record { rank = rank; index = at i }; item = same i }) here
named_member rank first (suc k) (x ∷ log) item e =
    let at : first + 1 + k ≡ first + suc k = omega arith in
    there (subst (λ n. In (record { id = record { rank = rank; index = n }; item = item })
    (named_from rank (first + 1) log)) at
    (named_member rank (first + 1) k log item e))

logs_member : (first k rank : ℕ) (logs : List (List Item)) {x : Named} → rank ≡ first + k → k < length logs →
    In x (named_in rank (slice_index_or logs k [])) → In x (named_logs first logs)
logs_member first k rank [] is below m = absurd (omega (arith, below))
logs_member first zero rank (log ∷ logs) {x} is below m =
    let same : rank ≡ first = omega (arith, is) in
    in_append_left (named_logs (first + 1) logs) (subst (λ r. In x (named_in r log)) same m)
logs_member first (suc k) rank (log ∷ logs) is below m =
    in_append_right (named_in first log)
    (logs_member (first + 1) k rank logs (omega (arith, is)) (omega (arith, below)) m)

-- an item of a log, with its name
pub item_member : (run : Run) (rank k : ℕ) (item : Item) → rank < length run.logs →
    slice_get (log_of run rank) k ≡ Some item →
    In (record { id = record { rank = rank; index = k }; item = item }) (named_items run)
item_member run rank k item below e =
    let at : 0 + k ≡ k = omega arith in
    logs_member 0 rank rank run.logs (omega arith) below
    (subst (λ n. In (record { id = record { rank = rank; index = n }; item = item })
    (named_in rank (log_of run rank))) at
    (named_member rank 0 k (log_of run rank) item e))

-- ---- the rows before an entry

-- an act of a row among others
pub act_among : (acc before : List Row) (row : Row) (rest : List Row) →
    In (record { row = row; window = window_of (acc ++ before) row }) (acts_after acc (before ++ row ∷ rest))
act_among acc [] row rest = let same : acc ++ [] ≡ acc = append-nil acc in
    subst (λ l. In (record { row = row; window = window_of l row }) (acts_after acc (row ∷ rest))) (sym same) here
act_among acc (x ∷ before) row rest =
    there (subst (λ l. In (record { row = row; window = window_of l row })
    (acts_after (acc ++ x ∷ []) (before ++ row ∷ rest)))
    (append_assoc acc (x ∷ []) before) (act_among (acc ++ x ∷ []) before row rest))

flat_joined : {X Y : Type 0} (f : X → List Y) (xs ys : List X) → flat_map f (xs ++ ys) ≡ flat_map f xs ++ flat_map f ys
flat_joined f [] ys = refl
flat_joined f (x ∷ xs) ys = ap (λ l. f x ++ l) (flat_joined f xs ys)
    ∙ sym (append_assoc (f x) (flat_map f xs) (flat_map f ys))

-- the rows of entries of a rank's log
abbrev pub rows_in : Script → ℕ → List Item → List Row
rows_in script rank items = flat_map (row_by script rank) items

touch_has_none : (script : Script) (rank : ℕ) (x : Item) → is_touch x ≡ true → row_by script rank x ≡ []
touch_has_none script rank (Issue number access) h = refl
touch_has_none script rank (Null number) h = refl
touch_has_none script rank (Touch issue element cell place bits) h = refl
touch_has_none script rank (Flush number) h = refl
touch_has_none script rank (Request number) h = refl
touch_has_none script rank (Entry number place step) h = absurd (cc h)
touch_has_none script rank (Tested number seen) h = refl
touch_has_none script rank (Refused number class seen) h = refl
touch_has_none script rank Ended h = refl

-- they are the same without touches
pub rows_untouched : (script : Script) (rank : ℕ) (log : List Item) →
    rows_in script rank log ≡ rows_in script rank (other_items log)
rows_untouched script rank [] = refl
rows_untouched script rank (x ∷ log) = by_test (is_touch x) refl (rows_untouched script rank log)
  where
    by_test : (b : Bool) → is_touch x ≡ b → rows_in script rank log ≡ rows_in script rank (other_items log) →
        row_by script rank x ++ rows_in script rank log ≡ rows_in script rank
        (cond (not b) (x ∷ other_items log) (other_items log))
    by_test true is rest = ap (λ l. l ++ rows_in script rank log) (touch_has_none script rank x is) ∙ rest
    by_test false is rest = ap (λ l. row_by script rank x ++ l) rest

count_rows : (script : Script) (rank first : ℕ) (p : Row → Bool) (items : List Item) →
    total (λ (x : Named). count_by p (row_of script x)) (named_from rank first items) ≡ count_by p
    (rows_in script rank items)
count_rows script rank first p [] = refl
count_rows script rank first p (item ∷ items) =
    let rest = count_rows script rank (first + 1) p items in
    let joined = sum_by-append (λ y. cond (p y) 1 0) (row_by script rank item) (rows_in script rank items) in
    omega (arith, rest, joined)

no_entry_no_row : (script : Script) (most : ℕ) (rank : ℕ) (item : Item) → is_below most item ≡ false →
    ((number place : ℕ) (step : Step) → item ≡ Entry number place step → place < most) → row_by script rank item ≡ []
no_entry_no_row script most rank (Issue number access) h k = refl
no_entry_no_row script most rank (Null number) h k = refl
no_entry_no_row script most rank (Touch issue element cell place bits) h k = refl
no_entry_no_row script most rank (Flush number) h k = refl
no_entry_no_row script most rank (Request number) h k = refl
no_entry_no_row script most rank (Entry number place step) h k =
    let low = k number place step refl in let high = ltb-false place most h in absurd (omega (arith, low, high))
no_entry_no_row script most rank (Tested number seen) h k = refl
no_entry_no_row script most rank (Refused number class seen) h k = refl
no_entry_no_row script most rank Ended h k = refl

not_below : (most : ℕ) (item : Item) → ((number place : ℕ) (step : Step) → item ≡ Entry number place step →
    most ≤ place) → is_below most item ≡ false
not_below most (Issue number access) k = refl
not_below most (Null number) k = refl
not_below most (Touch issue element cell place bits) k = refl
not_below most (Flush number) k = refl
not_below most (Request number) k = refl
not_below most (Entry number place step) k = le-ltb place most (k number place step refl)
not_below most (Tested number seen) k = refl
not_below most (Refused number class seen) k = refl
not_below most Ended k = refl

get_back : {X : Type 0} (xs ys : List X) (k : ℕ) → slice_get (xs ++ ys) (length xs + k) ≡ slice_get ys k
get_back [] ys k = let same : 0 + k ≡ k = omega arith in ap (slice_get ys) same
get_back (x ∷ xs) ys k = let same : suc (length xs) + k ≡ suc (length xs + k) = omega arith in
    ap (slice_get (x ∷ (xs ++ ys))) same ∙ get_back xs ys k

module _ (script : Script) (delay : Delay) (run : Run) (lawful : IsLawful script delay run) where
  -- an entry of a log, as the board sees it
  pub record IsEntered (rank number place : ℕ) (step : Step) (call : Call) (xs : List Item) : Type 0 where
    pub before : List Row
    pub rest : List Row
    pub split : rows_of script run ≡ before ++ record { rank = rank; number = number; call = call; step = step } ∷ rest
    pub counts : (p : Row → Bool) → ((row : Row) → (row.rank ≡ rank → ⊥) → p row ≡ false) →
        count_by p before ≡ count_by p (rows_in script rank xs)

  pub entered : (rank number place : ℕ) (step : Step) (call : Call) (xs ys : List Item) → rank < script.ranks →
      log_of run rank ≡ xs ++ Entry number place step ∷ ys → slice_get (calls_of script rank) number ≡ Some call →
      IsEntered rank number place step call xs
  entered rank number place step call xs ys within log of =
      record { before = before; rest = rest; split = whole; counts = same_counts }
    where
      items : List Named
      items = named_items run

      entry : Named
      entry = record { id = record { rank = rank; index = length xs }; item = Entry number place step }

      at : slice_get (log_of run rank) (length xs) ≡ Some (Entry number place step)
      at = let plus : length xs ≡ length xs + 0 = omega arith in
          ap (λ l. slice_get l (length xs)) log ∙ ap (slice_get (xs ++ Entry number place step ∷ ys)) plus
          ∙ get_back xs (Entry number place step ∷ ys) 0

      member : In entry (named_items run)
      member = item_member run rank (length xs) (Entry number place step) (omega (arith, within, lawful.ranks)) at

      passes : is_named_entry_at place entry ≡ true
      passes = eq-eqb place place refl

      most : ℕ
      most = count_by is_some_entry (named_items run)

      if_one : (b : Bool) (n : ℕ) → n ≡ (if b then 1 else 0) → 1 ≤ n → (b ≡ true) × (n ≡ 1)
      if_one true n e some = (refl, e)
      if_one false n e some = absurd (omega (arith, e, some))

      counted_once : (nat_lt place (count_by is_some_entry (named_items run)) ≡ true)
          × (count_by (is_named_entry_at place) (named_items run) ≡ 1)
      counted_once = if_one (nat_lt place (count_by is_some_entry (named_items run)))
          (count_by (is_named_entry_at place) (named_items run))
          (lawful.board.entries.places place) (in_counts (is_named_entry_at place) member passes)

      within_places : place < count_by is_some_entry (named_items run)
      within_places = ltb-true place (count_by is_some_entry (named_items run)) counted_once.0

      once : (p : ℕ) → p < place → count_by (is_named_entry_at p) (named_items run) ≡ 1
      once p below = lawful.board.entries.places p
          ∙ cond-true (nat_lt p (count_by is_some_entry (named_items run))) 1 0
          (lt-ltb p (count_by is_some_entry (named_items run)) (omega (arith, below, within_places)))

      found : find (is_named_entry_at place) (named_items run) ≡ Some entry
      found = let one = found_where (is_named_entry_at place) (named_items run) (omega (arith, counted_once.1)) in
          let few : count_by (is_named_entry_at place) (named_items run) ≤ 1 = omega (arith, counted_once.1) in
          let same : one.0 ≡ entry = alone (is_named_entry_at place)
          (named_items run) one.0 entry few one.1 member passes in
          one.1 ∙ ap Some same

      before : List Row
      before = flat_map (row_of script) (first_entries (named_items run) place)

      rest : List Row
      rest = flat_map (row_of script) (flat_map (entry_at (named_items run))
          (numbers_from (0 + place + 1) (count_by is_some_entry (named_items run) - place - 1)))

      whole : rows_of script run ≡ flat_map (row_of script) (first_entries (named_items run) place)
          ++ record { rank = rank; number = number; call = call; step = step } ∷ flat_map (row_of script)
          (flat_map (entry_at (named_items run))
          (numbers_from (0 + place + 1) (count_by is_some_entry (named_items run) - place - 1)))
      whole =
          let plus : 0 + place ≡ place = omega arith in
          let later : List ℕ = numbers_from (0 + place + 1) (count_by is_some_entry (named_items run) - place - 1) in
          let place_here : entry_at (named_items run) (0 + place) ≡ entry ∷ [] =
          ap (entry_at (named_items run)) plus ∙ ap (λ o. option_map_or (λ one. one ∷ []) o []) found in
          let row : row_of script entry ≡ record { rank = rank; number = number; call = call; step = step } ∷ [] =
          ap (λ o. option_map_or (λ c. record { rank = rank; number = number; call = c; step = step } ∷ []) o []) of in
          ap (λ l. flat_map (row_of script) (flat_map (entry_at (named_items run)) l))
          (numbers_split 0 (count_by is_some_entry (named_items run)) place within_places)
          ∙ ap (flat_map (row_of script)) (flat_joined (entry_at (named_items run)) (numbers_from 0 place)
          ((0 + place) ∷ later))
          ∙ flat_joined (row_of script) (first_entries (named_items run) place)
          (entry_at (named_items run) (0 + place) ++ flat_map (entry_at (named_items run)) later)
          ∙ ap (λ l. flat_map (row_of script) (first_entries (named_items run) place) ++ flat_map (row_of script)
          (l ++ flat_map (entry_at (named_items run)) later)) place_here
          ∙ ap (λ l. flat_map (row_of script) (first_entries (named_items run) place) ++
          (l ++ flat_map (row_of script) (flat_map (entry_at (named_items run)) later))) row

      moments : EachPair IsBefore (moments_in (log_of run rank))
      moments = (lawful.board.looks rank within).moments

      earlier : (k : ℕ) (n q : ℕ) (s : Step) → slice_get xs k ≡ Some (Entry n q s) → q < place
      earlier k n q s e = places_ascend (log_of run rank) k (length xs) n number q place s step moments
          (ap (λ l. slice_get l k) log ∙ get_append xs (Entry number place step ∷ ys) k (Entry n q s) e) at
          (slice_get_within xs k (Entry n q s) e)

      later_place : (k : ℕ) (n q : ℕ) (s : Step) → slice_get (Entry number place step ∷ ys) k ≡ Some (Entry n q s) →
          place ≤ q
      later_place zero n q s e = let same : place ≡ q = place_of (cc e) in omega (arith, same)
        where
          place_of : Entry number place step ≡ Entry n q s → place ≡ q
          place_of e = cc e
      later_place (suc k) n q s e =
          let up = places_ascend (log_of run rank) (length xs) (length xs + suc k) number n place q step s moments at
          (ap (λ l. slice_get l (length xs + suc k)) log ∙ get_back xs (Entry number place step ∷ ys) (suc k)
          ∙ e) (omega arith) in omega (arith, up)

      same_counts : (p : Row → Bool) → ((row : Row) → (row.rank ≡ rank → ⊥) → p row ≡ false) →
          count_by p (flat_map (row_of script) (first_entries (named_items run) place)) ≡ count_by p
          (rows_in script rank xs)
      same_counts p others =
          rows_total script p run place once
          ∙ of_rank_total h run rank other_ranks
          ∙ ap (λ l. total h (named_in rank l)) log
          ∙ ap (total h) (named_joined rank 0 xs (Entry number place step ∷ ys))
          ∙ total_joined h (named_from rank 0 xs) (named_from rank (0 + length xs) (Entry number place step ∷ ys))
          ∙ sums _ _ _ front back
        where
          h : Named → ℕ
          h x = cond (is_below place x.item) (count_by p (row_of script x)) 0

          none_of : (rows : List Row) → AllByRecursion (λ (row : Row). p row ≡ false) rows → count_by p rows ≡ 0
          none_of [] all = refl
          none_of (row ∷ rows) all =
              let split = sum_by-cons (λ y. cond (p y) 1 0) row rows in
              let fails : ◌≡◌ {A = ℕ} (cond (p row) 1 0) 0 = ap (λ b. cond b 1 0) all.0 in
              let rest = none_of rows all.1 in omega (arith, split, fails, rest)

          of_rank : (x : Named) → (x.id.rank ≡ rank → ⊥) →
              AllByRecursion (λ (row : Row). p row ≡ false) (row_of script x)
          of_rank x apart = by_item x.item
            where
              by_item : (item : Item) → AllByRecursion (λ (row : Row). p row ≡ false) (row_by script x.id.rank item)
              by_item (Entry n q s) = by_call (slice_get (calls_of script x.id.rank) n)
                where
                  by_call : (o : Option Call) → AllByRecursion (λ (row : Row). p row ≡ false)
                      (option_map_or (λ c. record { rank = x.id.rank; number = n; call = c; step = s } ∷ []) o [])
                  by_call None = tt
                  by_call (Some c) = (others (record { rank = x.id.rank; number = n; call = c; step = s }) apart, tt)
              by_item (Issue n access) = tt
              by_item (Null n) = tt
              by_item (Touch issue element cell q bits) = tt
              by_item (Flush n) = tt
              by_item (Request n) = tt
              by_item (Tested n seen) = tt
              by_item (Refused n class seen) = tt
              by_item Ended = tt

          zero_if : (b : Bool) (n : ℕ) → n ≡ 0 → cond b n 0 ≡ 0
          zero_if true n e = e
          zero_if false n e = refl

          other_ranks : (x : Named) → (x.id.rank ≡ rank → ⊥) → h x ≡ 0
          other_ranks x apart = zero_if (is_below place x.item) (count_by p (row_of script x))
              (none_of (row_of script x) (of_rank x apart))

          front : total h (named_from rank 0 xs) ≡ count_by p (rows_in script rank xs)
          front = front_total (λ (x : Named). count_by p (row_of script x)) rank 0 place xs (λ x m fails.
              let one = named_at rank 0 xs m in
              let no_row = no_entry_no_row script place x.id.rank x.item fails
              (λ n q s is. earlier one.0 n q s (one.3 ∙ ap Some is)) in ap (count_by p) no_row)
              ∙ count_rows script rank 0 p xs

          back : total h (named_from rank (0 + length xs) (Entry number place step ∷ ys)) ≡ 0
          back = total_of_all h (named_from rank (0 + length xs) (Entry number place step ∷ ys)) (λ x m.
              let one = named_at rank (0 + length xs) (Entry number place step ∷ ys) m in
              ap (λ b. cond b (count_by p (row_of script x)) 0)
              (not_below place x.item (λ n q s is. later_place one.0 n q s (one.3 ∙ ap Some is))))

          sums : (a b c : ℕ) → a ≡ c → b ≡ 0 → a + b ≡ c
          sums a b c e f = omega arith
