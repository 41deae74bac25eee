-- The synchronisations of a rank on a window: where each stands among the entries, and that they are those of the
-- rank's own entries.
use Rattle.std.proofs.Common.{◌≡◌, ℕ, ◌+◌, ◌-◌, Bool, true, false, cond, List, []}
use Rattle.std.proofs.Common.{◌∷◌, ◌++◌, Option, Some, None, refl, ap, sym, ◌∙◌, subst, arith, append_assoc}
use Rattle.std.specs.Prelude.{◌*◌, ◌==◌, ◌&&◌, if◌then◌else◌}
use Rattle.std.specs.List.{count_by, flat_map, filter}
use Rattle.std.specs.Option.{option_map_or}
use Rattle.std.proofs.lemmas.Bool.{and_parts, and_left, eqb-true}
use Rattle.std.proofs.lemmas.List.{append-nil}
use Rattle.std.proofs.lemmas.List.Elements.{filter-append}
use Rattle.std.proofs.lemmas.List.Sums.{sum_by-cons}
use Rattle.rma_types.specs.declared.calls.Call.{Call}
use Rattle.board_rules.specs.Entries.{Row, Act, acts_after, window_of, round_of, is_by_on, synchronisations}
use Rattle.board_rules.specs.Entries.{begins_window, names_window, creations}
use Rattle.rma_types.specs.declared.actions.Synchronisation.{Synchronisation}
use Rattle.rma_types.specs.Actions.{synchronisation_of, window_of_call}

-- ---- one entry more

-- the synchronisation that a call is, if it is one
abbrev pub in_call : Call → List Synchronisation
in_call call = option_map_or (λ s. s ∷ []) (synchronisation_of call) []

-- the synchronisation of the rank on the window that an entry is, if it is one
abbrev pub in_row : ℕ → ℕ → List Row → Row → List Synchronisation
in_row rank window before row =
    if row.rank == rank && window_of before row == window then in_call row.call else []

-- the synchronisations of the rank on the window among entries that come after others
abbrev pub made_after : ℕ → ℕ → List Row → List Row → List Synchronisation
made_after rank window before [] = []
made_after rank window before (row ∷ rows) =
    in_row rank window before row ++ made_after rank window (before ++ row ∷ []) rows

abbrev pub made : ℕ → ℕ → List Row → List Synchronisation
made rank window rows = made_after rank window [] rows

pub made_is : (rank window : ℕ) (before rows : List Row) →
    synchronisations (acts_after before rows) rank window ≡ made_after rank window before rows
made_is rank window before [] = refl
made_is rank window before (row ∷ rows) =
    by_test (row.rank == rank && window_of before row == window) (made_is rank window (before ++ row ∷ []) rows)
  where
    rest : List Act
    rest = acts_after (before ++ row ∷ []) rows

    act : Act
    act = record { row = row; window = window_of before row }

    by_test : (b : Bool) →
        synchronisations (acts_after (before ++ row ∷ []) rows) rank window ≡ made_after rank window
        (before ++ row ∷ []) rows →
        flat_map (λ (act : Act). option_map_or (λ s. s ∷ []) (synchronisation_of act.row.call) [])
        (cond b (record { row = row; window = window_of before row }
        ∷ filter (is_by_on rank window) (acts_after (before ++ row ∷ []) rows))
        (filter (is_by_on rank window) (acts_after (before ++ row ∷ []) rows)))
        ≡ (cond b (in_call row.call) []) ++ made_after rank window (before ++ row ∷ []) rows
    by_test true same = ap (λ l. in_call row.call ++ l) same
    by_test false same = same

pub made_joined : (rank window : ℕ) (before xs ys : List Row) →
    made_after rank window before (xs ++ ys)
    ≡ made_after rank window before xs ++ made_after rank window (before ++ xs) ys
made_joined rank window before [] ys = ap (λ l. made_after rank window l ys) (sym (append-nil before))
made_joined rank window before (x ∷ xs) ys =
    ap (λ l. in_row rank window before x ++ l)
    (made_joined rank window (before ++ x ∷ []) xs ys
    ∙ ap (λ l. made_after rank window (before ++ x ∷ []) xs ++ made_after rank window l ys)
    (append_assoc before (x ∷ []) xs))
    ∙ sym (append_assoc (in_row rank window before x) (made_after rank window (before ++ x ∷ []) xs)
    (made_after rank window (before ++ x ∷ xs) ys))

pub made_pushed : (rank window : ℕ) (rows : List Row) (row : Row) →
    made rank window (rows ++ row ∷ []) ≡ made rank window rows ++ in_row rank window rows row
made_pushed rank window rows row =
    made_joined rank window [] rows (row ∷ [])
    ∙ ap (λ l. made rank window rows ++ l) (append-nil (in_row rank window rows row))

-- ---- where a synchronisation stands

-- the synchronisation of the rank on the window that comes after so many others
pub record StandsAfter (rank window : ℕ) (before rows : List Row) (front : List Synchronisation) (s : Synchronisation) :
    Type 0 where
  pub earlier : List Row
  pub row : Row
  pub later : List Row
  pub split : rows ≡ earlier ++ row ∷ later
  pub rank_is : row.rank ≡ rank
  pub window_is : window_of (before ++ earlier) row ≡ window
  pub call_is : synchronisation_of row.call ≡ Some s
  pub made_before : made_after rank window before earlier ≡ front

pub stands_after : (rank window : ℕ) (before rows : List Row) (front : List Synchronisation) (s : Synchronisation)
    (back : List Synchronisation) → made_after rank window before rows ≡ front ++ s ∷ back →
    StandsAfter rank window before rows front s
stands_after rank window before [] [] s back e = absurd (cc e)
stands_after rank window before [] (f ∷ front) s back e = absurd (cc e)
stands_after rank window before (row ∷ rows) front s back e =
    by_test (row.rank == rank && window_of before row == window) refl (synchronisation_of row.call) refl front e
    (λ front h. stands_after rank window (before ++ row ∷ []) rows front s back h)
  where
    later : (front front' : List Synchronisation) → in_row rank window before row ++ front' ≡ front →
        StandsAfter rank window (before ++ row ∷ []) rows front' s → StandsAfter rank window before (row ∷ rows) front s
    later front front' e rest = record {
      earlier = row ∷ rest.earlier;
      row = rest.row;
      later = rest.later;
      split = ap (λ l. row ∷ l) rest.split;
      rank_is = rest.rank_is;
      window_is = ap (λ l. window_of l rest.row) (sym (append_assoc before (row ∷ []) rest.earlier)) ∙ rest.window_is;
      call_is = rest.call_is;
      made_before = ap (λ l. in_row rank window before row ++ l) rest.made_before ∙ e;
    }

    next : List Row
    next = before ++ row ∷ []

    by_test : (b : Bool) → (row.rank == rank && window_of before row == window) ≡ b →
        (o : Option Synchronisation) → synchronisation_of row.call ≡ o → (front : List Synchronisation) →
        in_row rank window before row ++ made_after rank window (before ++ row ∷ []) rows ≡ front ++ s ∷ back →
        ((front : List Synchronisation) → made_after rank window (before ++ row ∷ []) rows ≡ front ++ s ∷ back →
        StandsAfter rank window (before ++ row ∷ []) rows front s) →
        StandsAfter rank window before (row ∷ rows) front s
    by_test false is o of front e rest =
        let none : in_row rank window before row ≡ [] = ap (λ b. cond b (in_call row.call) []) is in
        later front front (ap (λ l. l ++ front) none)
        (rest front (sym (ap (λ l. l ++ made_after rank window (before ++ row ∷ []) rows) none) ∙ e))
    by_test true is None of front e rest =
        let none : in_row rank window before row ≡ [] = ap (λ b. cond b (in_call row.call) []) is
        ∙ ap (λ o. option_map_or (λ s. s ∷ []) o []) of in
        later front front (ap (λ l. l ++ front) none)
        (rest front (sym (ap (λ l. l ++ made_after rank window (before ++ row ∷ []) rows) none) ∙ e))
    by_test true is (Some x) of front e rest =
        let one : in_row rank window before row ≡ x ∷ [] = ap (λ b. cond b (in_call row.call) []) is
        ∙ ap (λ o. option_map_or (λ s. s ∷ []) o []) of in
        by_front front (sym (ap (λ l. l ++ made_after rank window (before ++ row ∷ []) rows) one) ∙ e) one rest
      where
        by_front : (front : List Synchronisation) →
            x ∷ made_after rank window (before ++ row ∷ []) rows ≡ front ++ s ∷ back →
            in_row rank window before row ≡ x ∷ [] →
            ((front : List Synchronisation) → made_after rank window (before ++ row ∷ []) rows ≡ front ++ s ∷ back →
            StandsAfter rank window (before ++ row ∷ []) rows front s) →
            StandsAfter rank window before (row ∷ rows) front s
        by_front [] e one rest =
            let same : x ≡ s = cc e in
            let parts = and_parts (row.rank == rank) (window_of before row == window) is in
            record {
              earlier = [];
              row = row;
              later = rows;
              split = refl;
              rank_is = eqb-true row.rank rank parts.0;
              window_is = ap (λ l. window_of l row) (append-nil before)
                  ∙ eqb-true (window_of before row) window parts.1;
              call_is = of ∙ ap Some same;
              made_before = refl;
            }
        by_front (f ∷ front) e one rest =
            let same : x ≡ f = cc e in
            let tail : made_after rank window (before ++ row ∷ []) rows ≡ front ++ s ∷ back = cc e in
            later (f ∷ front) front (ap (λ l. l ++ front) one ∙ ap (λ y. y ∷ front) same) (rest front tail)

-- ---- a rank's own entries

abbrev pub own : ℕ → List Row → List Row
own rank rows = filter (λ (row : Row). row.rank == rank) rows

pub count_kept : {X : Type 0} (p q : X → Bool) → ((x : X) → q x ≡ false → p x ≡ false) → (xs : List X) →
    count_by p (filter q xs) ≡ count_by p xs
count_kept p q apart [] = refl
count_kept {X} p q apart (x ∷ xs) = by_test (q x) refl (count_kept p q apart xs)
  where
    by_test : (b : Bool) → q x ≡ b → count_by p (filter q xs) ≡ count_by p xs →
        count_by p (cond b (x ∷ filter q xs) (filter q xs)) ≡ count_by p (x ∷ xs)
    by_test true is rest =
        sum_by-cons (λ y. cond (p y) 1 0) x (filter q xs) ∙ ap (λ n. cond (p x) 1 0 + n) rest
        ∙ sym (sum_by-cons (λ y. cond (p y) 1 0) x xs)
    by_test false is rest =
        let none : ◌≡◌ {A = ℕ} (cond (p x) 1 0) 0 = ap (λ b. cond b 1 0) (apart x is) in
        let more = sum_by-cons (λ y. cond (p y) 1 0) x xs in omega (arith, none, more, rest)

creations_own : (rank win : ℕ) (rows : List Row) → creations (own rank rows) rank win ≡ creations rows rank win
creations_own rank win rows = count_kept
    (λ (row : Row). row.rank == rank && begins_window row && names_window win row.call)
    (λ (row : Row). row.rank == rank)
    (λ row other. and_left (row.rank == rank && begins_window row) (names_window win row.call)
    (and_left (row.rank == rank) (begins_window row) other)) rows

pub window_own : (rank : ℕ) (rows : List Row) (row : Row) → row.rank ≡ rank → window_of (own rank rows) row ≡ window_of
    rows row
window_own rank rows row is = by_name (window_of_call row.call)
  where
    count : (win : ℕ) → creations (own rank rows) row.rank win ≡ creations rows row.rank win
    count win = subst (λ r. creations (own r rows) row.rank win ≡ creations rows row.rank win) is
        (creations_own row.rank win rows)

    by_name : (o : Option ℕ) → option_map_or (λ win. 32 * round_of (own rank rows) row win + win) o 0 ≡ option_map_or
        (λ win. 32 * round_of rows row win + win) o 0
    by_name None = refl
    by_name (Some win) = ap (λ n. 32 * cond (begins_window row) n (n - 1) + win) (count win)

pub own_joined : (rank : ℕ) (xs ys : List Row) → own rank (xs ++ ys) ≡ own rank xs ++ own rank ys
own_joined rank xs ys = filter-append (λ (row : Row). row.rank == rank) xs ys

pub made_by_own : (rank window : ℕ) (before rows : List Row) →
    made_after rank window (own rank before) (own rank rows) ≡ made_after rank window before rows
made_by_own rank window before [] = refl
made_by_own rank window before (row ∷ rows) =
    by_test (row.rank == rank) refl (made_by_own rank window (before ++ row ∷ []) rows)
  where
    by_test : (b : Bool) → (row.rank == rank) ≡ b →
        made_after rank window (own rank (before ++ row ∷ [])) (own rank rows)
        ≡ made_after rank window (before ++ row ∷ []) rows →
        made_after rank window (own rank before) (cond b (row ∷ own rank rows) (own rank rows))
        ≡ in_row rank window before row ++ made_after rank window (before ++ row ∷ []) rows
    by_test true is rest =
        let one : own rank (before ++ row ∷ []) ≡ own rank before ++ row ∷ [] = own_joined rank before (row ∷ [])
        ∙ ap (λ b. own rank before ++ cond b (row ∷ []) []) is in
        let same = window_own rank before row (eqb-true row.rank rank is) in
        (λ i. cond (row.rank == rank && same i == window) (in_call row.call) []
        ++ made_after rank window (sym one i) (own rank rows))
        ∙ ap (λ l. in_row rank window before row ++ l) rest
    by_test false is rest =
        let one : own rank (before ++ row ∷ []) ≡ own rank before = own_joined rank before (row ∷ [])
        ∙ ap (λ b. own rank before ++ cond b (row ∷ []) []) is ∙ append-nil (own rank before) in
        let none : in_row rank window before row ≡ [] = ap
        (λ b. cond (b && window_of before row == window) (in_call row.call) []) is in
        ap (λ l. made_after rank window l (own rank rows)) (sym one) ∙ rest
        ∙ ap (λ l. l ++ made_after rank window (before ++ row ∷ []) rows) (sym none)
