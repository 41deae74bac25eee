-- The cells that are closed have one history each, which the touches of all ranks read and make.
use Rattle.std.proofs.Common.{◌≡◌, ℕ, zero, suc, ◌+◌, ◌<◌, ◌≤◌, Bool, true, false, cond, List, [], ◌∷◌}
use Rattle.std.proofs.Common.{length, map, Option, Some, None, refl, sym, ◌∙◌, ap, subst, arith}
use Rattle.std.specs.Prelude.{◌&&◌, sum_by, is_some, slice_index}
use Rattle.std.specs.List.{count_by, filter, flat_map, AllByRecursion}
use Rattle.std.proofs.lemmas.Bool.{eqb-true}
use Rattle.std.proofs.lemmas.List.Sums.{sum_by-append, sum_by-cons}
use Rattle.list_laws.proofs.Each.{each_append, each_front, each_back}
use Rattle.access_steps.specs.TouchesMade.{update_by}
use Rattle.call_rules.specs.declared.elements.Change.{Change}
use Rattle.call_rules.specs.Elements.{next}
use Rattle.call_rules.specs.Pieces.{numbers_from}
use Rattle.cell_face.specs.Faces.{Update}
use Rattle.cell_words.specs.Histories.{cell_bits, IsUpdate, IsState, is_of, is_at, once_below}
use Rattle.lawful_runs.specs.Accesses.{Touching, is_on_cell, is_update, on_cell, updates_in}
use Rattle.lawful_runs.specs.Cells.{bits_after, has_place}
use Rattle.rank_laws.specs.CellHistories.{ReadsValue, LeavesNext, IsHistoryOf}
use Rattle.rank_histories.proofs.Recording.{joined_updates}
use Rattle.rank_histories.specs.Ends.{AreClosed}
use Rattle.rank_histories.specs.Recorded.{IsFound, seen_by, updates_by}

-- ---- counts of updates

-- the updates of one cell among touches that pass a test, as the test of their updates counts them
module _ (cell : ℕ) (test : Touching → Bool) (counts : Update → Bool)
    (same : (touch : Touching) (change : Change) → counts (record {
      cell = touch.cell;
      place = touch.place;
      before = touch.bits;
      after = next touch.bits change;
    }) ≡ (is_on_cell cell touch && test touch)) where
  counted_one : (touch : Touching) (o : Option Change) → touch.change ≡ o → (rest : List Touching) (n : ℕ) →
      count_by test (updates_in (on_cell cell rest)) ≡ n →
      count_by test (updates_in (on_cell cell (touch ∷ rest)))
      ≡ count_by counts (update_by touch.cell (seen_by touch) o) + n
  counted_one touch None e rest n is = by (is_on_cell cell touch)
    where
      not_one : is_update touch ≡ false
      not_one = ap is_some e

      plus : n ≡ 0 + n
      plus = omega arith

      by : (b : Bool) → count_by test (updates_in (cond b (touch ∷ on_cell cell rest) (on_cell cell rest))) ≡ 0 + n
      by true = ap (λ u. count_by test (cond u (touch ∷ updates_in (on_cell cell rest))
          (updates_in (on_cell cell rest)))) not_one ∙ is ∙ plus
      by false = is ∙ plus
  counted_one touch (Some change) e rest n is = by (is_on_cell cell touch) refl
    where
      update : Update
      update = record {
        cell = touch.cell;
        place = touch.place;
        before = touch.bits;
        after = next touch.bits change;
      }

      one : is_update touch ≡ true
      one = ap is_some e

      single : count_by counts (update ∷ []) ≡ cond (is_on_cell cell touch && test touch) 1 0
      single = sum_by-cons (λ (u : Update). cond (counts u) 1 0) update []
          ∙ (let zeroth = ap (λ b. cond b 1 0) (same touch change) in more zeroth)
        where
          more : {a b : ℕ} → a ≡ b → a + 0 ≡ b
          more e = omega (arith, e)

      by : (b : Bool) → is_on_cell cell touch ≡ b →
          count_by test (updates_in (cond b (touch ∷ on_cell cell rest) (on_cell cell rest)))
          ≡ count_by counts (update ∷ []) + n
      by true here =
          let counted = sum_by-cons (λ (t : Touching). cond (test t) 1 0) touch (updates_in (on_cell cell rest)) in
          let alone : count_by counts (update ∷ []) ≡ cond (test touch) 1 0 =
          single ∙ ap (λ b. cond (b && test touch) 1 0) here in
          ap (λ u. count_by test (cond u (touch ∷ updates_in (on_cell cell rest)) (updates_in (on_cell cell rest)))) one
          ∙ omega (arith, counted, alone, is)
      by false here =
          let alone : count_by counts (update ∷ []) ≡ 0 = single ∙ ap (λ b. cond (b && test touch) 1 0) here in
          omega (arith, alone, is)

  pub counted : (touches : List Touching) →
      count_by test (updates_in (on_cell cell touches)) ≡ count_by counts (updates_by touches)
  counted [] = refl
  counted (touch ∷ touches) =
      counted_one touch touch.change refl touches (count_by counts (updates_by touches)) (counted touches)
      ∙ sym (sum_by-append (λ (u : Update). cond (counts u) 1 0)
      (update_by touch.cell (seen_by touch) touch.change) (updates_by touches))

-- what is counted among the updates of all ranks is the sum of what is counted among those of each
pub counted_all : (counts : Update → Bool) (touches : ℕ → List Touching) (first count : ℕ) →
    count_by counts (updates_by (flat_map touches (numbers_from first count)))
    ≡ sum_by (λ (updates : List Update). count_by counts updates)
    (map (λ n. updates_by (touches n)) (numbers_from first count))
counted_all counts touches first zero = refl
counted_all counts touches first (suc count) =
    ap (count_by counts) (joined_updates (touches first) (flat_map touches (numbers_from (first + 1) count)))
    ∙ sum_by-append (λ (u : Update). cond (counts u) 1 0) (updates_by (touches first))
    (updates_by (flat_map touches (numbers_from (first + 1) count)))
    ∙ ap (λ n. count_by counts (updates_by (touches first)) + n) (counted_all counts touches (first + 1) count)
    ∙ sym (sum_by-cons (λ (updates : List Update). count_by counts updates) (updates_by (touches first))
    (map (λ n. updates_by (touches n)) (numbers_from (first + 1) count)))

-- ---- histories

each_kept : {X : Type 0} (P Q : X → Type 0) (test : X → Bool) → ((x : X) → P x → test x ≡ true → Q x) →
    (xs : List X) → AllByRecursion P xs → AllByRecursion Q (filter test xs)
each_kept P Q test f [] all = tt
each_kept {X} P Q test f (x ∷ xs) all =
    elim (test x) as (λ b. test x ≡ b → AllByRecursion Q (cond b (x ∷ filter test xs) (filter test xs))) [
      | true ↦ λ e. (f x all.0 e, each_kept P Q test f xs all.1)
      | false ↦ λ e. each_kept P Q test f xs all.1
    ] refl

-- each update of the touches is so in the histories
updates_each : (init : List ℕ) (left : ℕ → List ℕ) (touches : List Touching) →
    AllByRecursion (IsUpdate init left) (updates_by touches) →
    AllByRecursion (λ (touch : Touching). AllByRecursion (IsUpdate init left)
    (update_by touch.cell (seen_by touch) touch.change)) touches
updates_each init left [] all = tt
updates_each init left (touch ∷ touches) all =
    let mine = update_by touch.cell (seen_by touch) touch.change in (
      each_front (IsUpdate init left) mine (updates_by touches) all,
      updates_each init left touches (each_back (IsUpdate init left) mine (updates_by touches) all),
    )

-- what holds of the updates of each rank holds of those of all
pub updates_all : (P : Update → Type 0) (touches : ℕ → List Touching) (first count : ℕ) →
    AllByRecursion (λ (updates : List Update). AllByRecursion P updates)
    (map (λ n. updates_by (touches n)) (numbers_from first count)) →
    AllByRecursion P (updates_by (flat_map touches (numbers_from first count)))
updates_all P touches first zero all = tt
updates_all P touches first (suc count) all =
    subst (AllByRecursion P)
    (sym (joined_updates (touches first) (flat_map touches (numbers_from (first + 1) count))))
    (each_append P (updates_by (touches first)) (updates_by (flat_map touches (numbers_from (first + 1) count))) all.0
    (updates_all P touches (first + 1) count all.1))

-- the history of a cell, from what the closed cells tell of all touches
pub history_of : (cells : ℕ) (finals : List ℕ) (made : List (List Update)) (touches : List Touching)
    (closed : AreClosed cells finals made) →
    ((counts : Update → Bool) → count_by counts (updates_by touches)
    ≡ sum_by (λ (updates : List Update). count_by counts updates) made) →
    AllByRecursion (IsUpdate closed.init closed.left) (updates_by touches) →
    AllByRecursion (IsFound cells (IsState closed.init closed.left)) touches → (cell : ℕ) → cell < cells →
    IsHistoryOf (cell_bits closed.init closed.left cell) (on_cell cell touches) (slice_index finals cell)
history_of cells finals made touches closed sums updates founds cell inside = record {
  first = closed.empty cell;
  places = λ place.
      counted cell (has_place place) (is_at cell place) (λ touch change. refl) touches ∙ sums (is_at cell place)
      ∙ closed.places cell place ∙ ap (once_below place) (sym many);
  reads = each_kept (IsFound cells (IsState closed.init closed.left))
      (ReadsValue values (length (updates_in (on_cell cell touches))))
      (is_on_cell cell)
      (λ touch is here. (let at = eqb-true touch.cell cell here in
      let state = is.1 in record {
        within = subst (λ n. touch.place ≤ n) (ap (λ c. length (closed.left c)) at ∙ sym many) state.place;
        reads = state.bits ∙ ap (λ c. cell_bits closed.init closed.left c touch.place) at;
      })) touches founds;
  changes = each_kept (λ (touch : Touching). (touch.cell ≡ cell) × AllByRecursion (IsUpdate closed.init closed.left)
      (update_by touch.cell (seen_by touch) touch.change)) (LeavesNext values) is_update
      (λ touch is one. leaves touch touch.change refl is.0 is.1 one) (on_cell cell touches)
      (each_kept (λ (touch : Touching). AllByRecursion (IsUpdate closed.init closed.left)
      (update_by touch.cell (seen_by touch) touch.change)) (λ (touch : Touching). (touch.cell ≡ cell)
      × AllByRecursion (IsUpdate closed.init closed.left) (update_by touch.cell (seen_by touch) touch.change))
      (is_on_cell cell) (λ touch is here. (eqb-true touch.cell cell here, is)) touches
      (updates_each closed.init closed.left touches updates));
  last = closed.final cell inside ∙ ap values (sym many);
}
  where
    values : ℕ → ℕ
    values = cell_bits closed.init closed.left cell

    long : (xs : List Touching) → length xs ≡ count_by (λ (_ : Touching). true) xs
    long [] = refl
    long (x ∷ xs) = (let rest = long xs in let one = sum_by-cons (λ (_ : Touching). 1) x xs in omega (arith, rest, one))

    many : length (updates_in (on_cell cell touches)) ≡ length (closed.left cell)
    many = long (updates_in (on_cell cell touches))
        ∙ counted cell (λ _. true) (is_of cell) (λ touch change. and_true (is_on_cell cell touch)) touches
        ∙ sums (is_of cell) ∙ closed.counts cell
      where
        and_true : (b : Bool) → b ≡ (b && true)
        and_true true = refl
        and_true false = refl

    leaves : (touch : Touching) (o : Option Change) → touch.change ≡ o → touch.cell ≡ cell →
        AllByRecursion (IsUpdate closed.init closed.left) (update_by touch.cell (seen_by touch) touch.change) →
        is_update touch ≡ true → LeavesNext values touch
    leaves touch None e at is one = absurd (cc (sym one ∙ ap is_some e))
    leaves touch (Some change) e at is one =
        let update = (subst (λ o. AllByRecursion (IsUpdate closed.init closed.left)
        (update_by touch.cell (seen_by touch) o)) e is).0 in
        let plus : touch.place + 1 ≡ suc touch.place = omega arith in
        ap values (sym plus) ∙ ap (λ c. cell_bits closed.init closed.left c (touch.place + 1)) (sym at)
        ∙ sym update.after ∙ ap (bits_after touch.bits) (sym e)
