-- The rule is kept where an update of a cell is made.
use Rattle.std.proofs.Common.{◌≡◌, inl, inr, ℕ, ◌+◌, ◌<◌, ◌≤◌, Bool, ◌&&◌, cond}
use Rattle.std.proofs.Common.{List, [], ◌∷◌, length, get_or, set, refl, sym, ap, ◌∙◌, subst, arith}
use Rattle.std.proofs.Common.{sum_by}
use Rattle.std.proofs.Math.Dec.{eqb}
use Rattle.std.proofs.lemmas.Bool.{cases_eq, cases_lt, eq-eqb, ne_eqb, lt-ltb, le-ltb}
use Rattle.std.proofs.lemmas.List.Sums.{sum_by_push, count_by-le-length}
use Rattle.std.proofs.lemmas.List.Elements.{Contains-append_cases}
use Rattle.std.proofs.lemmas.List.{length-append, length-set, get_or-set_same, get_or-set_other}
use mathlib.Core.Option.{some}
use lib.ListN.{get_elem?}
use Rattle.call_rules.specs.declared.cells.Cell.{Cell}
use Rattle.cell_face.specs.Faces.{Update}
use Rattle.cell_words.specs.declared.views.Look.{Look}
use Rattle.cell_words.specs.declared.views.View.{View}
use Rattle.cell_words.specs.Words.{word_of}
use Rattle.cell_words.specs.Histories.{cell_bits, IsUpdate, IsState, is_of, is_at, once_below}
use Rattle.cell_words.specs.Views.{look, grant_of, with_update}
use Rattle.cell_words.specs.Rule.{Fits, IsKept}
use Rattle.cell_words.proofs.Totals.{total_set, total_same, total_part, total_below, total_both}
use Rattle.cell_words.proofs.Elements.{only, low_set}
use Rattle.cell_words.proofs.Growth.{Grows, grown, grows, longer, longer_here, new_bits, same_bits}
use Rattle.cell_words.proofs.Growth.{update_stays, state_stays}
use Rattle.cell_words.proofs.Keeping.{of_cell, at_place, fits_set}

-- what fits, fits the longer histories
grown_fits : (init : List ℕ) (left more : ℕ → List ℕ) (cell bits : ℕ) → Grows left more cell bits → (v : View) →
    Fits init left v → Fits init more v
grown_fits init left more cell bits g v fits = record {
  lows = λ other inside. omega (arith, fits.lows other inside, longer left more cell bits g other);
  made = λ update has. update_stays left more cell bits g init update (fits.made update has);
  known = λ one has. state_stays left more cell bits g init one.cell one.seen (fits.known one has);
}

-- 1 where the test holds
abbrev one_if : Bool → ℕ
one_if test = cond test 1 0

own : (cell other : ℕ) (same : other ≡ cell) → one_if (eqb cell other) ≡ 1
own cell other same = rw (eq-eqb cell other (sym same)) refl

foreign : (cell other : ℕ) (differ : other ≡ cell → ⊥) → one_if (eqb cell other) ≡ 0
foreign cell other differ = rw (ne_eqb cell other (λ e. differ (sym e))) refl

-- one place more stands once
next_place : (count place : ℕ) → once_below place (count + 1) ≡ once_below place count + one_if (eqb count place)
next_place count place = elim (cases_lt place count) [
  | inl below ↦ rw (lt-ltb place (count + 1) (omega arith))
      (rw (lt-ltb place count below) (rw (ne_eqb count place (λ e. omega arith)) refl))
  | inr above ↦ elim (cases_eq place count) [
    | inl same ↦ rw (lt-ltb place (count + 1) (omega arith))
        (rw (le-ltb place count above) (rw (eq-eqb count place (sym same)) refl))
    | inr differ ↦ rw (le-ltb place (count + 1) (omega arith))
        (rw (le-ltb place count above) (rw (ne_eqb count place (λ e. differ (sym e))) refl))
  ]
]

module _ (init shares words : List ℕ) (views : List View) (k : IsKept init shares words views) (id : ℕ) (v : View)
    (at : get_elem? views id ≡ some v) (cell : ℕ) (share : 1 ≤ v.share) where
  abbrev count : ℕ
  count = length (k.left cell)

  -- there is room for one more
  pub room : length (k.left cell) + 1 < 4294967296
  room =
      let below = total_below (λ (u : View). of_cell cell u + u.share) grant_of
      (λ u. omega (arith, count_by-le-length (is_of cell) u.made)) views in
      let both = total_both (of_cell cell) (λ (u : View). u.share) views in
      let part = total_part (λ (u : View). u.share) views id v at in
      omega (arith, below, both, part, k.counts cell, k.grants, k.small, share)

  module _ (inside : cell < length init) (bits : ℕ) where
    abbrev before : Cell
    before = record { bits = cell_bits init k.left cell (length (k.left cell)); place = length (k.left cell) }

    abbrev update : Update
    update = record { cell = cell; place = before.place; before = before.bits; after = bits }

    abbrev w : View
    w = with_update v cell before bits

    abbrev more : ℕ → List ℕ
    more = grown k.left cell bits

    g : Grows k.left more cell bits
    g = grows k.left cell bits

    is_update : IsUpdate init more update
    is_update = record {
      cell = inside;
      place = omega (arith, longer_here k.left more cell bits g);
      before = sym (same_bits k.left more cell bits g init cell count (omega arith));
      after = sym (new_bits k.left more cell bits g init);
    }

    is_state : IsState init more cell before
    is_state = record {
      place = longer k.left more cell bits g cell;
      bits = sym (same_bits k.left more cell bits g init cell count (omega arith));
    }

    fits : Fits init more w
    fits = let old = grown_fits init k.left more cell bits g v (k.fits id v at) in record {
      lows = λ other within. low_set v.lows cell (count + 1) other (length (more other))
          (λ same. rw same (omega (arith, longer_here k.left more cell bits g))) (old.lows other within);
      made = λ one has. elim (Contains-append_cases v.made (update ∷ []) one has) [
        | inl mine ↦ old.made one mine
        | inr new ↦ subst (IsUpdate init more) (only update one new) is_update
      ];
      known = λ one has. elim (Contains-append_cases v.known (look cell before ∷ []) one has) [
        | inl mine ↦ old.known one mine
        | inr new ↦ subst (λ (l : Look). IsState init more l.cell l.seen) (only (look cell before) one new) is_state
      ];
    }

    grant : grant_of w ≡ grant_of v
    grant = omega (arith, length-append v.made (update ∷ []), share)

    counts : (other : ℕ) → sum_by (of_cell other) (set views id w) ≡ length (more other)
    counts other =
        let total = total_set (of_cell other) views id v w at in
        let one = sum_by_push (λ u. one_if (is_of other u)) v.made update in
        let old = k.counts other in
        elim (cases_eq other cell) [
          | inl same ↦ let len : length (more other) ≡ length (k.left other) + 1 =
              rw same (longer_here k.left more cell bits g) in omega (arith, total, one, old, own cell other same, len)
          | inr differ ↦ let len : length (more other) ≡ length (k.left other) =
              ap length (g.others other differ) in omega (arith, total, one, old, foreign cell other differ, len)
        ]

    places : (other place : ℕ) →
        sum_by (at_place other place) (set views id w) ≡ once_below place (length (more other))
    places other place =
        let total = total_set (at_place other place) views id v w at in
        let one = sum_by_push (λ u. one_if (is_at other place u)) v.made update in
        let old = k.places other place in
        elim (cases_eq other cell) [
          | inl same ↦
              let len : length (more other) ≡ length (k.left other) + 1 =
              rw same (longer_here k.left more cell bits g) in
              let mine : one_if (eqb cell other && eqb count place) ≡ one_if (eqb (length (k.left other)) place) =
              rw same (rw (eq-eqb cell cell refl) refl) in
              rw len (omega (arith, total, one, old, mine, next_place (length (k.left other)) place))
          | inr differ ↦
              let len : length (more other) ≡ length (k.left other) = ap length (g.others other differ) in
              let none : one_if (eqb cell other && eqb count place) ≡ 0 =
              rw (ne_eqb cell other (λ e. differ (sym e))) refl in
              rw len (omega (arith, total, one, old, none))
        ]

    abbrev word : ℕ
    word = word_of bits (count + 1)

    stored : (other : ℕ) → other < length init → get_or (set words (cell + 1) word) (other + 1) 0 ≡
        word_of (cell_bits init more other (length (more other))) (length (more other))
    stored other within = elim (cases_eq other cell) [
      | inl same ↦ rw same (rw (longer_here k.left more cell bits g) (rw (new_bits k.left more cell bits g init)
          (get_or-set_same words (cell + 1) word 0 (omega (arith, k.count)))))
      | inr differ ↦ get_or-set_other words (cell + 1) (other + 1) word 0 (λ e. differ (omega arith))
          ∙ (k.stored other within
          ∙ sym (ap (λ (xs : List ℕ). word_of (get_or (get_or init other 0 ∷ xs) (length xs) 0) (length xs))
          (g.others other differ)))
    ]

    -- the histories with one update more
    pub updated : IsKept init shares (set words (cell + 1) word) (set views id w)
    updated = record {
      left = more;
      count = length-set words (cell + 1) word ∙ k.count;
      spare = get_or-set_other words (cell + 1) 0 word 0 (λ e. omega arith) ∙ k.spare;
      stored = stored;
      counts = counts;
      places = places;
      grants = total_same grant_of views id v w at grant ∙ k.grants;
      small = k.small;
      fits = fits_set init shares words more views id w
          (λ other u there. grown_fits init k.left more cell bits g u (k.fits other u there)) fits;
    }
