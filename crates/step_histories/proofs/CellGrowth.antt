-- The history of each cell goes on with each touch that finds its cell as it is at the moment.
use Rattle.std.proofs.Common.{◌≡◌, ℕ, zero, suc, ◌+◌, ◌<◌, ◌≤◌, inl, inr, Bool, true, false, cond, List, [], ◌∷◌, ◌++◌}
use Rattle.std.proofs.Common.{length, Option, Some, None, refl, sym, ◌∙◌, ap, subst, arith, append_assoc, length-set}
use Rattle.std.proofs.Common.{get_or-set_same, get_or-set_other}
use Rattle.std.specs.Prelude.{◌==◌, nat_lt, is_some, replicate, slice_set, if◌then◌else◌}
use Rattle.std.specs.List.{count_by, AllByRecursion}
use Rattle.std.proofs.lemmas.Bool.{eq-eqb, ne_eqb, lt-ltb, le-ltb, ltb-true, ltb-false}
use Rattle.std.proofs.lemmas.Bool.Decides.{eqb_tells}
use Rattle.std.proofs.lemmas.List.Elements.{filter-append}
use Rattle.std.proofs.lemmas.List.Sums.{sum_by-append, sum_by-cons}
use Rattle.list_laws.proofs.Each.{each_weaker, each_append, each_front, each_back}
use Rattle.call_rules.specs.declared.cells.Cell.{Cell}
use Rattle.call_rules.specs.declared.elements.Change.{Change}
use Rattle.call_rules.specs.Elements.{next}
use Rattle.call_rules.specs.Touches.{empty_cell, cell_at, update_cell, cells_after}
use Rattle.lawful_runs.specs.Accesses.{Touching, is_on_cell, is_update, on_cell, updates_in}
use Rattle.lawful_runs.specs.Cells.{has_place, bits_after}
use Rattle.rank_laws.specs.CellHistories.{ReadsValue, LeavesNext, IsHistoryOf}
use Rattle.rank_laws.specs.Fronts.{Lows, AreAtMost}

-- ---- one element more, within a list

pub each_within : {X : Type 0} (P : X → Type 0) (xs : List X) (x : X) (ys : List X) → AllByRecursion P (xs ++ ys) →
    P x → AllByRecursion P (xs ++ x ∷ ys)
each_within P xs x ys all one = each_append P xs (x ∷ ys) (each_front P xs ys all) (one, each_back P xs ys all)

length_within : {X : Type 0} (xs : List X) (x : X) (ys : List X) → length (xs ++ x ∷ ys) ≡ suc (length (xs ++ ys))
length_within [] x ys = refl
length_within (y ∷ xs) x ys = ap suc (length_within xs x ys)

count_within : {X : Type 0} (test : X → Bool) (xs : List X) (x : X) (ys : List X) →
    count_by test (xs ++ x ∷ ys) ≡ cond (test x) 1 0 + count_by test (xs ++ ys)
count_within {X} test xs x ys =
    let f : X → ℕ = λ y. cond (test y) 1 0 in
    let long = sum_by-append f xs (x ∷ ys) in
    let one = sum_by-cons f x ys in
    let short = sum_by-append f xs ys in
    omega arith

-- ---- one cell

-- the values of a cell so far, with its touches and its updates, as it is at the moment
pub record IsKept (values : ℕ → ℕ) (touches updates : List Touching) (cell : Cell) : Type 0 where
  pub first : values 0 ≡ 0
  pub places : (place : ℕ) →
      count_by (has_place place) updates ≡ (if nat_lt place (length updates) then 1 else 0)
  pub below : AllByRecursion (λ (update : Touching). update.place < length updates) updates
  pub reads : AllByRecursion (ReadsValue values (length updates)) touches
  pub changes : AllByRecursion (LeavesNext values) updates
  pub last : cell.bits ≡ values (length updates)
  pub place : cell.place ≡ length updates

-- a touch finds the cell as it is
pub record Finds (touch : Touching) (cell : Cell) : Type 0 where
  pub place : touch.place ≡ cell.place
  pub bits : touch.bits ≡ cell.bits

read_more : (values : ℕ → ℕ) (xs ys updates : List Touching) (touch : Touching) (cell : Cell) →
    IsKept values (xs ++ ys) updates cell → Finds touch cell → IsKept values (xs ++ touch ∷ ys) updates cell
read_more values xs ys updates touch cell kept finds = record {
  first = kept.first;
  places = kept.places;
  below = kept.below;
  reads = each_within (ReadsValue values (length updates)) xs touch ys kept.reads (record {
    within = let e = finds.place ∙ kept.place in omega arith;
    reads = finds.bits ∙ kept.last ∙ ap values (sym (finds.place ∙ kept.place));
  });
  changes = kept.changes;
  last = kept.last;
  place = kept.place;
}

-- the values with one more at this place
abbrev pub values_with : (ℕ → ℕ) → ℕ → ℕ → ℕ → ℕ
values_with values at value place = cond (place == at) value (values place)

values_there : (values : ℕ → ℕ) (at value : ℕ) → values_with values at value at ≡ value
values_there values at value = ap (λ b. cond b value (values at)) (eq-eqb at at refl)

values_before : (values : ℕ → ℕ) (at value place : ℕ) → place < at → values_with values at value place ≡ values place
values_before values at value place less =
    ap (λ b. cond b value (values place)) (ne_eqb place at (λ e. absurd (omega arith)))

-- a place below one more
one_more_place : (place count : ℕ) →
    cond (count == place) 1 0 + (if nat_lt place count then 1 else 0) ≡ (if nat_lt place (suc count) then 1 else 0)
one_more_place place count = elim (eqb_tells count place) [
  | inl same ↦ let e = same.1 in rw (same.0, le-ltb place count (omega arith), lt-ltb place (suc count) (omega arith))
      refl
  | inr apart ↦ let ne = apart.1 in
      elim (nat_lt place count) as (λ b. nat_lt place count ≡ b →
      cond (count == place) 1 0 + (if b then 1 else 0) ≡ (if nat_lt place (suc count) then 1 else 0)) [
        | true ↦ λ e. let less = ltb-true place count e in rw (apart.0, lt-ltb place (suc count) (omega arith)) refl
        | false ↦ λ e. let past = ltb-false place count e in rw (apart.0, le-ltb place (suc count) (omega arith)) refl
      ] refl
]

update_more : (values : ℕ → ℕ) (touches us vs : List Touching) (update : Touching) (cell : Cell) (change : Change) →
    IsKept values touches (us ++ vs) cell → Finds update cell → update.change ≡ Some change →
    IsKept (values_with values (suc (length (us ++ vs))) (next cell.bits change)) touches (us ++ update ∷ vs)
    (update_cell cell change)
update_more values touches us vs update cell change kept finds makes = record {
  first = values_before values (suc count) value 0 (omega arith) ∙ kept.first;
  places = λ place. count_within (has_place place) us update vs
      ∙ ap (λ n. cond (update.place == place) 1 0 + n) (kept.places place)
      ∙ ap (λ n. cond (n == place) 1 0 + (if nat_lt place count then 1 else 0)) at
      ∙ one_more_place place count
      ∙ ap (λ n. if nat_lt place n then 1 else 0) (sym many);
  below = each_within (λ (u : Touching). u.place < length (us ++ update ∷ vs)) us update vs
      (each_weaker (λ (u : Touching). u.place < count) (λ (u : Touching). u.place < length (us ++ update ∷ vs))
      (λ u less. omega (arith, many)) (us ++ vs) kept.below)
      (omega (arith, many));
  reads = each_weaker (ReadsValue values count) (ReadsValue more (length (us ++ update ∷ vs)))
      (λ touch reads. record {
        within = let low = reads.within in omega (arith, many);
        reads = reads.reads ∙ sym (values_before values (suc count) value touch.place (let low = reads.within in omega
            arith));
      }) touches kept.reads;
  changes = each_within (LeavesNext more) us update vs (old_changes (us ++ vs) kept.below kept.changes)
      (ap more (ap suc at) ∙ values_there values (suc count) value
      ∙ sym (ap (bits_after update.bits) makes ∙ ap (λ b. next b change) finds.bits));
  last = sym (ap more many ∙ values_there values (suc count) value);
  place = let same = kept.place in omega (arith, many);
}
  where
    count : ℕ
    count = length (us ++ vs)

    value : ℕ
    value = next cell.bits change

    more : ℕ → ℕ
    more = values_with values (suc count) value

    many : length (us ++ update ∷ vs) ≡ suc count
    many = length_within us update vs

    at : update.place ≡ count
    at = finds.place ∙ kept.place

    old_changes : (all : List Touching) → AllByRecursion (λ (u : Touching). u.place < count) all →
        AllByRecursion (LeavesNext values) all → AllByRecursion (LeavesNext more) all
    old_changes [] below changes = tt
    old_changes (u ∷ rest) below changes = (
      values_before values (suc count) value (suc u.place) (let less = below.0 in omega arith) ∙ changes.0,
      old_changes rest below.1 changes.1,
    )

-- the cell after a touch
abbrev pub after_change : Cell → Option Change → Cell
after_change cell None = cell
after_change cell (Some change) = update_cell cell change

-- the cell of a touch goes on
cell_more : (values : ℕ → ℕ) (xs ys : List Touching) (touch : Touching) (cell : Cell) →
    IsKept values (xs ++ ys) (updates_in (xs ++ ys)) cell → Finds touch cell →
    (o : Option Change) → touch.change ≡ o →
    (more : ℕ → ℕ) × IsKept more (xs ++ touch ∷ ys) (updates_in (xs ++ touch ∷ ys)) (after_change cell o)
cell_more values xs ys touch cell kept finds None e = (
  values,
  subst (λ us. IsKept values (xs ++ touch ∷ ys) us cell)
      (filter-append is_update xs ys
      ∙ ap (λ b. updates_in xs ++ cond b (touch ∷ updates_in ys) (updates_in ys)) (sym (ap is_some e))
      ∙ sym (filter-append is_update xs (touch ∷ ys)))
      (read_more values xs ys (updates_in (xs ++ ys)) touch cell kept finds),
)
cell_more values xs ys touch cell kept finds (Some change) e = (
  values_with values (suc (length (updates_in xs ++ updates_in ys))) (next cell.bits change),
  subst (λ us. IsKept (values_with values (suc (length (updates_in xs ++ updates_in ys))) (next cell.bits change))
      (xs ++ touch ∷ ys) us (update_cell cell change))
      (ap (λ b. updates_in xs ++ cond b (touch ∷ updates_in ys) (updates_in ys)) (sym (ap is_some e))
      ∙ sym (filter-append is_update xs (touch ∷ ys)))
      (update_more values (xs ++ touch ∷ ys) (updates_in xs) (updates_in ys) touch cell change
      (subst (λ us. IsKept values (xs ++ touch ∷ ys) us cell) (filter-append is_update xs ys)
      (read_more values xs ys (updates_in (xs ++ ys)) touch cell kept finds)) finds e),
)

-- ---- all cells

-- a touch finds its cell, one of these, as it is
pub record IsMadeOn (touch : Touching) (cells : List Cell) : Type 0 where
  pub inside : touch.cell < length cells
  pub finds : Finds touch (cell_at cells touch.cell)

-- touches one after the other, each on the cells that those before it left
abbrev pub AreMade : List Touching → List Cell → List Cell → Type 0
AreMade [] cells now = now ≡ cells
AreMade (touch ∷ touches) cells now =
    IsMadeOn touch cells × AreMade touches (cells_after cells touch.cell touch.change) now

abbrev pub HasHistory : List Touching → Cell → Type 0
HasHistory touches cell = (values : ℕ → ℕ) × IsKept values touches (updates_in touches) cell

-- all touches lie in the cells, and each cell has a history
pub record AreRecorded (touches : List Touching) (cells : List Cell) : Type 0 where
  pub inside : AllByRecursion (λ (touch : Touching). touch.cell < length cells) touches
  pub each : (cell : ℕ) → HasHistory (on_cell cell touches) (cell_at cells cell)

pub length_after : (cells : List Cell) (cell : ℕ) (o : Option Change) →
    length (cells_after cells cell o) ≡ length cells
length_after cells cell None = refl
length_after cells cell (Some change) = length-set cells cell (update_cell (cell_at cells cell) change)

pub cell_after : (cells : List Cell) (cell : ℕ) (o : Option Change) → cell < length cells →
    cell_at (cells_after cells cell o) cell ≡ after_change (cell_at cells cell) o
cell_after cells cell None inside = refl
cell_after cells cell (Some change) inside =
    get_or-set_same cells cell (update_cell (cell_at cells cell) change) empty_cell
    inside

pub other_after : (cells : List Cell) (cell other : ℕ) (o : Option Change) → (other ≡ cell → ⊥) →
    cell_at (cells_after cells cell o) other ≡ cell_at cells other
other_after cells cell other None apart = refl
other_after cells cell other (Some change) apart =
    get_or-set_other cells cell other (update_cell (cell_at cells cell) change) empty_cell apart

recorded_one : (xs ys : List Touching) (touch : Touching) (cells : List Cell) → AreRecorded (xs ++ ys) cells →
    IsMadeOn touch cells → AreRecorded (xs ++ touch ∷ ys) (cells_after cells touch.cell touch.change)
recorded_one xs ys touch cells old made = record {
  inside = subst (λ n. AllByRecursion (λ (t : Touching). t.cell < n) (xs ++ touch ∷ ys))
      (sym (length_after cells touch.cell touch.change))
      (each_within (λ (t : Touching). t.cell < length cells) xs touch ys old.inside made.inside);
  each = λ cell. elim (eqb_tells touch.cell cell) [
    | inl same ↦ here cell same.0 same.1
    | inr apart ↦ there cell apart.0 (λ e. apart.1 (sym e))
  ];
}
  where
    now : List Cell
    now = cells_after cells touch.cell touch.change

    all : List Touching
    all = xs ++ touch ∷ ys

    here : (cell : ℕ) → (touch.cell == cell) ≡ true → touch.cell ≡ cell → HasHistory (on_cell cell all)
        (cell_at now cell)
    here cell is same =
        let history = old.each cell in
        let went = cell_more history.0 (on_cell cell xs) (on_cell cell ys) touch (cell_at cells cell)
        (subst (λ ts. IsKept history.0 ts (updates_in ts) (cell_at cells cell))
        (filter-append (is_on_cell cell) xs ys) history.1)
        (subst (λ c. Finds touch (cell_at cells c)) same made.finds) touch.change refl in
        subst (λ ts. HasHistory ts (cell_at now cell))
        (ap (λ b. on_cell cell xs ++ cond b (touch ∷ on_cell cell ys) (on_cell cell ys)) (sym is)
        ∙ sym (filter-append (is_on_cell cell) xs (touch ∷ ys)))
        (subst (HasHistory (on_cell cell xs ++ touch ∷ on_cell cell ys))
        (sym (subst (λ c. cell_at now c ≡ after_change (cell_at cells c) touch.change) same
        (cell_after cells touch.cell touch.change made.inside))) went)

    there : (cell : ℕ) → (touch.cell == cell) ≡ false → (cell ≡ touch.cell → ⊥) → HasHistory (on_cell cell all)
        (cell_at now cell)
    there cell is apart =
        subst (λ ts. HasHistory ts (cell_at now cell))
        (filter-append (is_on_cell cell) xs ys
        ∙ ap (λ b. on_cell cell xs ++ cond b (touch ∷ on_cell cell ys) (on_cell cell ys)) (sym is)
        ∙ sym (filter-append (is_on_cell cell) xs (touch ∷ ys)))
        (subst (HasHistory (on_cell cell (xs ++ ys))) (sym (other_after cells touch.cell cell touch.change apart))
        (old.each cell))

-- touches more, among those of others
pub recorded_more : (xs new ys : List Touching) (cells now : List Cell) → AreRecorded (xs ++ ys) cells →
    AreMade new cells now → AreRecorded (xs ++ (new ++ ys)) now
recorded_more xs [] ys cells now old made = subst (AreRecorded (xs ++ ys)) (sym made) old
recorded_more xs (touch ∷ rest) ys cells now old made =
    subst (λ ts. AreRecorded ts now) (append_assoc xs (touch ∷ []) (rest ++ ys))
    (recorded_more (xs ++ touch ∷ []) rest ys (cells_after cells touch.cell touch.change) now
    (subst (λ ts. AreRecorded ts (cells_after cells touch.cell touch.change)) (sym (append_assoc xs (touch ∷ []) ys))
    (recorded_one xs ys touch cells old made.0)) made.1)

pub length_made : (new : List Touching) (cells now : List Cell) → AreMade new cells now → length now ≡ length cells
length_made [] cells now made = ap length made
length_made (touch ∷ rest) cells now made =
    length_made rest (cells_after cells touch.cell touch.change) now made.1 ∙ length_after cells touch.cell touch.change

-- some touches, and then others
pub made_joined : (xs ys : List Touching) (cells middle now : List Cell) → AreMade xs cells middle →
    AreMade ys middle now → AreMade (xs ++ ys) cells now
made_joined [] ys cells middle now first second = subst (λ cs. AreMade ys cs now) first second
made_joined (touch ∷ xs) ys cells middle now first second =
    (first.0, made_joined xs ys (cells_after cells touch.cell touch.change) middle now first.1 second)

-- ---- the history of a cell

all_empty : (count cell : ℕ) → cell_at (replicate count empty_cell) cell ≡ empty_cell
all_empty zero cell = refl
all_empty (suc count) zero = refl
all_empty (suc count) (suc cell) = all_empty count cell

-- before any touch
pub none_recorded : (count : ℕ) → AreRecorded [] (replicate count empty_cell)
none_recorded count = record {
  inside = tt;
  each = λ cell. subst (HasHistory []) (sym (all_empty count cell)) (
    λ _. 0,
    record {
      first = refl;
      places = λ place. ap (λ b. if b then 1 else 0) (sym (le-ltb place 0 (omega arith)));
      below = tt;
      reads = tt;
      changes = tt;
      last = refl;
      place = refl;
    },
  );
}

-- what is kept of a cell is its history
pub kept_is_history : (values : ℕ → ℕ) (touches : List Touching) (cell : Cell) →
    IsKept values touches (updates_in touches) cell → IsHistoryOf values touches cell.bits
kept_is_history values touches cell kept = record {
  first = kept.first;
  places = kept.places;
  reads = kept.reads;
  changes = kept.changes;
  last = kept.last;
}

-- ---- places

-- the place of each cell at the moment
abbrev pub places_of : List Cell → Lows
places_of cells cell = (cell_at cells cell).place

-- a cell of a greater place in the place of one
set_rises : (cells : List Cell) (at : ℕ) (cell : Cell) → (cell_at cells at).place ≤ cell.place →
    AreAtMost (places_of cells) (places_of (slice_set cells at cell))
set_rises [] at cell h other = omega arith
set_rises (one ∷ cells) zero cell h zero = h
set_rises (one ∷ cells) zero cell h (suc other) = omega arith
set_rises (one ∷ cells) (suc at) cell h zero = omega arith
set_rises (one ∷ cells) (suc at) cell h (suc other) = set_rises cells at cell h other

pub places_rise : (cells : List Cell) (cell : ℕ) (o : Option Change) →
    AreAtMost (places_of cells) (places_of (cells_after cells cell o))
places_rise cells cell None other = omega arith
places_rise cells cell (Some change) other =
    set_rises cells cell (update_cell (cell_at cells cell) change) (omega arith)
    other

pub made_rise : (new : List Touching) (cells now : List Cell) → AreMade new cells now →
    AreAtMost (places_of cells) (places_of now)
made_rise [] cells now made cell = let same = ap (λ cs. places_of cs cell) made in omega arith
made_rise (touch ∷ rest) cells now made cell =
    let first = places_rise cells touch.cell touch.change cell in
    let later = made_rise rest (cells_after cells touch.cell touch.change) now made.1 cell in omega arith
