-- The start that the complete of an access ends is the last one before the access: no complete stands between them.
use Rattle.std.proofs.Common.{◌≡◌, ℕ, zero, suc, ◌+◌, ◌<◌, ◌≤◌, ◌⊎◌, inl, inr, Bool, true, false, cond, List, []}
use Rattle.std.proofs.Common.{◌∷◌, ◌++◌, length, take, drop, Option, Some, None, refl, ap, sym, ◌∙◌, subst, arith}
use Rattle.std.proofs.Common.{append_assoc, length-append}
use Rattle.std.specs.Prelude.{◌&&◌, ◌==◌, slice_get, nat_lt}
use Rattle.std.specs.List.{count_by, flat_map}
use Rattle.std.specs.Option.{option_map_or}
use Rattle.std.proofs.lemmas.Bool.{and_parts, and_from, eqb-true, eq-eqb, ltb-true, lt-ltb, cases_eq}
use Rattle.std.proofs.lemmas.Grind.{flat_map-append}
use Rattle.std.proofs.lemmas.List.{take-append-drop, take-take, take_at, length-take-le}
use Rattle.std.proofs.lemmas.List.Sums.{sum_by-append}
use Rattle.std.proofs.lemmas.Option.{slice_get_within}
use Rattle.list_laws.proofs.Members.{contains_in}
use Rattle.list_laws.proofs.Tests.{count_cons}
use Rattle.rma_types.specs.declared.accesses.Step.{Step}
use Rattle.rma_types.specs.declared.accesses.Step.TheVariants.{One}
use Rattle.rma_types.specs.declared.calls.Call.{Call}
use Rattle.rma_types.specs.declared.schedules.Delay.TheVariants.{Seeded}
use Rattle.rma_types.specs.declared.scripts.Script.{Script}
use Rattle.rma_record.specs.declared.items.Item.{Item}
use Rattle.rma_record.specs.declared.items.Item.TheVariants.{Issue, Null, Touch, Flush, Request, Entry, Tested, Refused}
use Rattle.rma_record.specs.declared.items.Item.TheVariants.{Ended}
use Rattle.rma_record.specs.declared.runs.Run.{Run}
use Rattle.board_rules.specs.Entries.{Row, window_of}
use Rattle.board_rules.specs.Posts.{group_of_start, is_complete}
use Rattle.rma_types.specs.declared.actions.Synchronisation.{Synchronisation}
use Rattle.rma_types.specs.declared.actions.Synchronisation.TheVariants.{Completes}
use Rattle.rma_types.specs.Actions.{synchronisation_of}
use Rattle.call_rules.specs.Ranks.{is_member}
use Rattle.call_rules.specs.WellFormed.{IsWellFormed}
use Rattle.lawful_runs.specs.LawfulRun.{IsLawful}
use Rattle.lawful_runs.specs.Logs.{log_of, calls_of, row_by}
use Rattle.order_rules.specs.CallSteps.{CallStep, IssuedAccess, known_before, step_by, is_later_at_origin}
use Rattle.order_rules.specs.CallSteps.{is_later_on_window, is_step_on}
use Rattle.order_rules.specs.DonePoints.{completes_start}
use Rattle.read_laws.proofs.Begun.{rows_in}
use Rattle.read_laws.proofs.Steps.{IsStep}
use Rattle.first_point_laws.specs.PointLaws.{EndsStartOf}
use Rattle.first_point_laws.proofs.Completes.{IsEnd, complete_is}
use Rattle.first_point_laws.proofs.FirstSteps.{first_step, listed_entry}
use Rattle.first_point_laws.proofs.Issues.{IsStarted, started}
use Rattle.first_point_laws.proofs.Splits.{own, made, made_after, made_joined, made_by_own, stands_after}
use Rattle.first_point_laws.proofs.Splits.{window_own}
use Rattle.first_point_laws.proofs.Waiting.{IsSynchronised, one_row, within_logs, synchronised_at, number_on}

-- ---- lists

-- the element that passes after so many others that do
pub count_split : {X : Type 0} (p : X → Bool) (k : ℕ) (xs : List X) → k < count_by p xs →
    (front : List X) × (x : X) × (back : List X) × (xs ≡ front ++ x ∷ back) × (count_by p front ≡ k) × (p x ≡ true)
count_split p k [] below = absurd (omega arith)
count_split {X} p k (x ∷ xs) below =
    by_test (p x) (count_cons p x xs) refl k below (λ k low. count_split p k xs low)
  where
    later : (k n : ℕ) → cond (p x) 1 0 + n ≡ k →
        ((front : List X) × (y : X) × (back : List X) × (xs ≡ front ++ y ∷ back) × (count_by p front ≡ n)
        × (p y ≡ true)) →
        (front : List X) × (y : X) × (back : List X) × (x ∷ xs ≡ front ++ y ∷ back) × (count_by p front ≡ k)
        × (p y ≡ true)
    later k n e (front, y, back, is, few, passes) =
        let split = count_cons p x front in
        (x ∷ front, y, back, ap (λ l. x ∷ l) is, omega (arith, split, few, e), passes)

    by_test : (b : Bool) → count_by p (x ∷ xs) ≡ cond (p x) 1 0 + count_by p xs → p x ≡ b → (k : ℕ) →
        k < count_by p (x ∷ xs) →
        ((k : ℕ) → k < count_by p xs → (front : List X) × (y : X) × (back : List X) × (xs ≡ front ++ y ∷ back)
        × (count_by p front ≡ k) × (p y ≡ true)) →
        (front : List X) × (y : X) × (back : List X) × (x ∷ xs ≡ front ++ y ∷ back) × (count_by p front ≡ k)
        × (p y ≡ true)
    by_test true split is zero below rest = ([], x, xs, refl, refl, is)
    by_test true split is (suc k) below rest =
        let one : ◌≡◌ {A = ℕ} (cond (p x) 1 0) 1 = ap (λ b. cond b 1 0) is in
        later (suc k) k (omega (arith, one)) (rest k (omega (arith, below, split, one)))
    by_test false split is k below rest =
        let none : ◌≡◌ {A = ℕ} (cond (p x) 1 0) 0 = ap (λ b. cond b 1 0) is in
        later k k (omega (arith, none)) (rest k (omega (arith, below, split, none)))

get_at : {X : Type 0} (xs ys : List X) (x : X) → slice_get (xs ++ x ∷ ys) (length xs) ≡ Some x
get_at [] ys x = refl
get_at (y ∷ xs) ys x = get_at xs ys x

-- ---- the rows of items

module _ (script : Script) (rank : ℕ) where
  -- the item of a row
  record IsItemOfRow (items : List Item) (before : List Row) (row : Row) : Type 0 where
    front : List Item
    back : List Item
    number : ℕ
    place : ℕ
    step : Step
    call : Call
    split : items ≡ front ++ Entry number place step ∷ back
    rows : rows_in script rank front ≡ before
    of_rank : slice_get (calls_of script rank) number ≡ Some call
    row_is : row ≡ record { rank = rank; number = number; call = call; step = step }

  row_or_none : (x : Item) → (row_by script rank x ≡ [])
      ⊎ ((number place : ℕ) × (step : Step) × (call : Call) × (x ≡ Entry number place step)
      × (slice_get (calls_of script rank) number ≡ Some call)
      × (row_by script rank x ≡ record { rank = rank; number = number; call = call; step = step } ∷ []))
  row_or_none (Issue number access) = inl refl
  row_or_none (Null number) = inl refl
  row_or_none (Touch issue element cell place bits) = inl refl
  row_or_none (Flush number) = inl refl
  row_or_none (Request number) = inl refl
  row_or_none (Entry number place step) = by_call (slice_get (calls_of script rank) number) refl
    where
      by_call : (o : Option Call) → slice_get (calls_of script rank) number ≡ o →
          (row_by script rank (Entry number place step) ≡ [])
          ⊎ ((n p : ℕ) × (s : Step) × (call : Call) × (Entry number place step ≡ Entry n p s)
          × (slice_get (calls_of script rank) n ≡ Some call)
          × (row_by script rank (Entry number place step) ≡ record { rank = rank; number = n; call = call; step = s }
          ∷ []))
      by_call None e = inl (ap (λ o. option_map_or
          (λ c. record { rank = rank; number = number; call = c; step = step } ∷ []) o []) e)
      by_call (Some call) e = inr (
        number,
        place,
        step,
        call,
        refl,
        e,
        ap (λ o. option_map_or
            (λ c. record { rank = rank; number = number; call = c; step = step } ∷ []) o []) e,
      )
  row_or_none (Tested number seen) = inl refl
  row_or_none (Refused number class seen) = inl refl
  row_or_none Ended = inl refl

  item_of_row : (items : List Item) (before : List Row) (row : Row) (later : List Row) →
      rows_in script rank items ≡ before ++ row ∷ later → IsItemOfRow items before row
  item_of_row [] [] row later e = absurd (cc e)
  item_of_row [] (r ∷ before) row later e = absurd (cc e)
  item_of_row (x ∷ items) before row later e =
      by_row (row_or_none x) before e (λ before e. item_of_row items before row later e)
    where
      after : (before rest : List Row) → row_by script rank x ++ rest ≡ before → IsItemOfRow items rest row →
          IsItemOfRow (x ∷ items) before row
      after before rest is one = record {
        front = x ∷ one.front;
        back = one.back;
        number = one.number;
        place = one.place;
        step = one.step;
        call = one.call;
        split = ap (λ l. x ∷ l) one.split;
        rows = ap (λ l. row_by script rank x ++ l) one.rows ∙ is;
        of_rank = one.of_rank;
        row_is = one.row_is;
      }

      by_row : ((row_by script rank x ≡ [])
          ⊎ ((number place : ℕ) × (step : Step) × (call : Call) × (x ≡ Entry number place step)
          × (slice_get (calls_of script rank) number ≡ Some call)
          × (row_by script rank x ≡ record { rank = rank; number = number; call = call; step = step } ∷ []))) →
          (before : List Row) → row_by script rank x ++ rows_in script rank items ≡ before ++ row ∷ later →
          ((before : List Row) → rows_in script rank items ≡ before ++ row ∷ later → IsItemOfRow items before row) →
          IsItemOfRow (x ∷ items) before row
      by_row (inl none) before e rest =
          after before before (ap (λ l. l ++ before) none)
          (rest before (sym (ap (λ l. l ++ rows_in script rank items) none) ∙ e))
      by_row (inr one) [] e rest =
          let whole = sym (ap (λ l. l ++ rows_in script rank items) one.6) ∙ e in
          record {
            front = [];
            back = items;
            number = one.0;
            place = one.1;
            step = one.2;
            call = one.3;
            split = ap (λ i. i ∷ items) one.4;
            rows = refl;
            of_rank = one.5;
            row_is = sym (head_of whole);
          }
        where
          head_of : {r d : Row} {rs ds : List Row} → r ∷ rs ≡ d ∷ ds → r ≡ d
          head_of e = cc e
      by_row (inr one) (r ∷ before) e rest =
          let whole = sym (ap (λ l. l ++ rows_in script rank items) one.6) ∙ e in
          after (r ∷ before) before (ap (λ l. l ++ before) one.6 ∙ ap (λ d. d ∷ before) (head_of whole))
          (rest before (tail_of whole))
        where
          head_of : {r d : Row} {rs ds : List Row} → r ∷ rs ≡ d ∷ ds → r ≡ d
          head_of e = cc e

          tail_of : {r d : Row} {rs ds : List Row} → r ∷ rs ≡ d ∷ ds → rs ≡ ds
          tail_of e = cc e

-- ---- between the access and its complete

-- what the complete of an access ends: the group has the target, and so many starts are completed before
pub record IsGroupEnded (rank : ℕ) (target window : ℕ) (earlier : List Row) : Type 0 where
  pub group : List ℕ
  pub member : is_member target group ≡ true
  pub ended : List (List ℕ)
  pub more : List (List ℕ)
  pub begun : flat_map group_of_start (made rank window earlier) ≡ ended ++ group ∷ more
  pub completed : count_by is_complete (made rank window earlier) ≡ length ended

module _ (script : Script) (run : Run) (formed : IsWellFormed script) (lawful : IsLawful script Seeded run)
    (a : IssuedAccess) (y : CallStep) (ends : EndsStartOf script run a y) (end : IsEnd script run formed lawful a y)
  where
    abbrev rank : ℕ
    rank = y.id.rank

    abbrev window : ℕ
    window = a.issued.access.window

    abbrev log : List Item
    log = log_of run y.id.rank

    abbrev until_access : List Item
    until_access = take a.id.index (log_of run y.id.rank)

    abbrev between : List Item
    between = drop a.id.index (take y.id.index (log_of run y.id.rank))

    parts : (y.id.rank ≡ a.id.rank) × (a.id.index < y.id.index)
    parts =
        let two = and_parts (y.id.rank == a.id.rank) (nat_lt a.id.index y.id.index) end.later in
        (eqb-true y.id.rank a.id.rank two.0, ltb-true a.id.index y.id.index two.1)

    begun : IsStarted script run a y.id.rank
    begun = subst (IsStarted script run a) (sym parts.0)
        (started script run formed lawful a (contains_in _ a ends.access) ends.rma ends.epoch)

    until_end : take y.id.index log ≡ until_access ++ between
    until_end = let low = parts.1 in
        sym (take-append-drop a.id.index (take y.id.index log))
        ∙ ap (λ l. l ++ between) (take-take a.id.index y.id.index log (omega (arith, low)))

    long : length until_access ≡ a.id.index
    long = let low = slice_get_within log a.id.index (Issue begun.number begun.access) begun.logged in
        length-take-le a.id.index log (omega (arith, low))

    abbrev before : List Row
    before = rows_in script y.id.rank until_access

    abbrev later : List Row
    later = rows_in script y.id.rank between

    owned : own rank end.one.earlier ≡ before ++ later
    owned = end.one.owned ∙ ap (rows_in script rank) until_end
        ∙ flat_map-append (row_by script rank) until_access between

    made_split : made rank window end.one.earlier ≡ made rank window before ++ made_after rank window before later
    made_split = sym (made_by_own rank window [] end.one.earlier) ∙ ap (made rank window) owned
        ∙ made_joined rank window [] before later

    -- the step of a complete between them would be the next one
    no_step : (z number : ℕ) (item : Item) (call : Call) → a.id.index < z → z < y.id.index →
        slice_get log z ≡ Some item → step_by item ≡ Some (number, One) →
        slice_get (calls_of script rank) number ≡ Some call → synchronisation_of call ≡ Some Completes →
        (one : IsSynchronised script run rank z call Completes) → one.live.number ≡ window → ⊥
    no_step z number item call low high logged step_is of sync one window_is =
        let within = within_logs run.logs rank z item logged in
        let step : CallStep = record {
          id = record { rank = rank; index = z };
          call = call;
          step = One;
          known = known_before script run (record { rank = rank; index = z });
        } in
        let is : IsStep script run step = record {
          item = item;
          number = number;
          logged = logged;
          step_is = step_is;
          call_is = of;
          known_is = refl;
        } in
        let later_at : is_later_at_origin a step ≡ true = and_from (rank == a.id.rank) (nat_lt a.id.index z)
        (eq-eqb rank a.id.rank parts.0) (lt-ltb a.id.index z low) in
        let on = number_on script run formed lawful step Completes window is one window_is in
        let completes : completes_start step ≡ true = ap (λ o. option_map_or is_complete o false) sync in
        let least = first_step script run (λ x. is_later_on_window a x && completes_start x) y step ends.next
        (listed_entry script run rank z number One item call within logged step_is of)
        (and_from (is_later_on_window a step) (completes_start step)
        (and_from (is_later_at_origin a step) (is_step_on window step) later_at on) completes) refl in
        omega (arith, least, high)

    no_entry : (front back : List Item) (number place : ℕ) (step : Step) (call : Call) (s : Synchronisation) →
        between ≡ front ++ Entry number place step ∷ back → slice_get (calls_of script rank) number ≡ Some call →
        synchronisation_of call ≡ Some s → is_complete s ≡ true →
        window_of (before ++ rows_in script rank front)
        (record { rank = rank; number = number; call = call; step = step }) ≡ window → ⊥
    no_entry front back number place step call s split of sync completes window_is =
        let item = Entry number place step in
        let whole : log ≡ (until_access ++ front) ++ item ∷ (back ++ drop y.id.index log) =
        sym (take-append-drop y.id.index log)
        ∙ ap (λ l. l ++ drop y.id.index log) (until_end ∙ ap (λ l. until_access ++ l) split
        ∙ sym (append_assoc until_access front (item ∷ back)))
        ∙ append_assoc (until_access ++ front) (item ∷ back) (drop y.id.index log) in
        let z = length (until_access ++ front) in
        let logged : slice_get log (length (until_access ++ front)) ≡ Some item =
        ap (λ l. slice_get l (length (until_access ++ front))) whole
        ∙ get_at (until_access ++ front) (back ++ drop y.id.index log) item in
        let taken : take (length (until_access ++ front)) log ≡ until_access ++ front =
        ap (take (length (until_access ++ front))) whole
        ∙ take_at (until_access ++ front) (item ∷ (back ++ drop y.id.index log)) (length (until_access ++ front))
        refl in
        let sync_is : synchronisation_of call ≡ Some Completes = sync ∙ ap Some (complete_is s completes) in
        let within = within_logs run.logs rank z item logged in
        let one = synchronised_at script run formed lawful rank z number call Completes
        (omega (arith, within, lawful.ranks)) of sync_is item step logged refl refl in
        let same : Entry one.number (length one.earlier) One ≡ item = cc (sym one.placed.logged ∙ logged) in
        let step_same : One ≡ step = step_of same in
        let number_same : one.number ≡ number = number_of same in
        let rows : own rank one.earlier ≡ before ++ rows_in script rank front =
        one.owned ∙ ap (rows_in script rank) taken ∙ flat_map-append (row_by script rank) until_access front in
        let number_is : one.live.number ≡ window =
        sym one.at ∙ sym (window_own rank one.earlier (one_row rank one.number call) refl)
        ∙ (λ i. window_of (rows i)
        (record { rank = rank; number = number_same i; call = call; step = step_same i })) ∙ window_is in
        let sum = length-append until_access front in
        let apart : z ≡ a.id.index → ⊥ = λ at. other (sym begun.logged ∙ ap (slice_get log) (sym at) ∙ logged) in
        let low = long in
        let total : length (take y.id.index log) ≡ z + length (item ∷ back) =
        ap length (until_end ∙ ap (λ l. until_access ++ l) split ∙ sym (append_assoc until_access front (item ∷ back)))
        ∙ length-append (until_access ++ front) (item ∷ back) in
        let most = length_taken y.id.index log in
        no_step z number item call (above z apart sum low) (below z (length back) total most) logged
        (ap (λ s. Some (number, s)) (sym step_same)) of sync_is one number_is
      where
        step_of : {n m p q : ℕ} {s t : Step} → Entry n p s ≡ Entry m q t → s ≡ t
        step_of e = cc e

        number_of : {n m p q : ℕ} {s t : Step} → Entry n p s ≡ Entry m q t → n ≡ m
        number_of e = cc e

        other : Some (Issue begun.number begun.access) ≡ Some (Entry number place step) → ⊥
        other e = cc e

        length_taken : {X : Type 0} (n : ℕ) (xs : List X) → length (take n xs) ≤ n
        length_taken zero xs = omega arith
        length_taken (suc n) [] = omega arith
        length_taken (suc n) (x ∷ xs) = let rest = length_taken n xs in omega (arith, rest)

        above : (z : ℕ) → (z ≡ a.id.index → ⊥) → z ≡ length until_access + length front →
            length until_access ≡ a.id.index → a.id.index < z
        above z apart sum low = elim (cases_eq z a.id.index) [
          | inl same ↦ absurd (apart same)
          | inr differ ↦ omega (arith, differ, sum, low)
        ]

        below : (z n : ℕ) → length (take y.id.index log) ≡ z + suc n → length (take y.id.index log) ≤ y.id.index →
            z < y.id.index
        below z n total most = omega (arith, total, most)

    none_between : count_by is_complete (made_after rank window before later) ≡ 0
    none_between = by_count (count_by is_complete (made_after rank window before later)) refl
      where
        by_count : (n : ℕ) → count_by is_complete (made_after rank window before later) ≡ n →
            count_by is_complete (made_after rank window before later) ≡ 0
        by_count zero e = e
        by_count (suc n) e =
            let one = count_split is_complete 0 (made_after rank window before later) (omega (arith, e)) in
            let stands = stands_after rank window before later one.0 one.1 one.2 one.3 in
            let item = item_of_row script rank between stands.earlier stands.row stands.later stands.split in
            absurd (no_entry item.front item.back item.number item.place item.step item.call one.1 item.split
            item.of_rank (sym (ap (λ (r : Row). synchronisation_of r.call) item.row_is) ∙ stands.call_is) one.5
            ((λ i. window_of (before ++ item.rows i) (sym item.row_is i)) ∙ stands.window_is))

    pub group_ended : IsGroupEnded y.id.rank a.issued.access.target a.issued.access.window end.one.earlier
    group_ended = record {
      group = begun.group;
      member = begun.member;
      ended = begun.ended;
      more = flat_map group_of_start (made_after rank window before later);
      begun = ap (flat_map group_of_start) made_split
          ∙ flat_map-append group_of_start (made rank window before) (made_after rank window before later)
          ∙ ap (λ l. l ++ flat_map group_of_start (made_after rank window before later)) begun.begun
          ∙ append_assoc begun.ended (begun.group ∷ [])
          (flat_map group_of_start (made_after rank window before later));
      completed =
          let joined = ap (count_by is_complete) made_split
          ∙ sum_by-append (λ s. cond (is_complete s) 1 0) (made rank window before)
          (made_after rank window before later) in
          let none = none_between in
          let first = begun.completed in omega (arith, joined, none, first);
    }
