-- The rule is kept where views change and no update is made.
use Rattle.std.proofs.Common.{◌≡◌, inl, inr, ℕ, ◌+◌, ◌<◌, ◌≤◌, List, [], ◌∷◌, ◌++◌, length}
use Rattle.std.proofs.Common.{get_or, set, refl, sym, ap, ◌∙◌, subst, arith, sum, sum_by, count_by}
use Rattle.std.proofs.lemmas.List.Sums.{sum_by_push, sum_by-append, sum_by-cons}
use Rattle.std.proofs.lemmas.List.Elements.{Contains-append_cases}
use Rattle.std.proofs.lemmas.List.{length-append}
use mathlib.Core.Option.{some}
use lib.ListN.{get_elem?}
use Rattle.atomic_table.proofs.Lists.{at_set, at_snoc}
use Rattle.call_rules.specs.declared.cells.Cell.{Cell}
use Rattle.cell_words.specs.declared.views.Look.{Look}
use Rattle.cell_words.specs.declared.views.View.{View}
use Rattle.cell_words.specs.Histories.{IsState, is_of, is_at}
use Rattle.cell_words.specs.Views.{look, grant_of, fresh, bare, spent, head, tail, without_next, next_dealt, joined}
use Rattle.cell_words.specs.Views.{with_look}
use Rattle.cell_words.specs.Rule.{Fits, IsKept}
use Rattle.cell_words.proofs.Totals.{total_set, total_same}
use Rattle.cell_words.proofs.Elements.{only, of_nothing, low_set, low_greater}

-- the numbers by which the rule weighs views
abbrev pub of_cell : ℕ → View → ℕ
of_cell cell view = count_by (is_of cell) view.made

abbrev pub at_place : ℕ → ℕ → View → ℕ
at_place cell place view = count_by (is_at cell place) view.made

module _ (init shares words : List ℕ) where
  -- views that weigh as much in all, and fit, keep the rule
  pub rearranged : (before after : List View) (k : IsKept init shares words before) →
      ((cell : ℕ) → sum_by (of_cell cell) after ≡ sum_by (of_cell cell) before) →
      ((cell place : ℕ) → sum_by (at_place cell place) after ≡ sum_by (at_place cell place) before) →
      sum_by grant_of after ≡ sum_by grant_of before →
      ((id : ℕ) (v : View) → get_elem? after id ≡ some v → Fits init k.left v) → IsKept init shares words after
  rearranged before after k of at grant fits = record {
    left = k.left;
    count = k.count;
    spare = k.spare;
    stored = k.stored;
    counts = λ cell. of cell ∙ k.counts cell;
    places = λ cell place. at cell place ∙ k.places cell place;
    grants = grant ∙ k.grants;
    small = k.small;
    fits = fits;
  }

  -- all views but one fit as before
  pub fits_set : (left : ℕ → List ℕ) (views : List View) (id : ℕ) (w : View) →
      ((other : ℕ) (v : View) → get_elem? views other ≡ some v → Fits init left v) → Fits init left w →
      (other : ℕ) (v : View) → get_elem? (set views id w) other ≡ some v → Fits init left v
  fits_set left views id w old new other v at = elim (at_set views id other w v at) [
    | inl here ↦ subst (Fits init left) here.1 new
    | inr there ↦ old other v there.1
  ]

  pub fits_push : (left : ℕ → List ℕ) (views : List View) (w : View) →
      ((other : ℕ) (v : View) → get_elem? views other ≡ some v → Fits init left v) → Fits init left w →
      (other : ℕ) (v : View) → get_elem? (views ++ w ∷ []) other ≡ some v → Fits init left v
  fits_push left views w old new other v at = elim (at_snoc views w v other at) [
    | inl there ↦ old other v there
    | inr here ↦ subst (Fits init left) here new
  ]

  -- a view with the same updates and as much held takes the place of another
  pub reviewed : (views : List View) (k : IsKept init shares words views) (id : ℕ) (v w : View) →
      get_elem? views id ≡ some v → w.made ≡ v.made → grant_of w ≡ grant_of v → Fits init k.left w →
      IsKept init shares words (set views id w)
  reviewed views k id v w at made grant fits = rearranged views (set views id w) k
      (λ cell. total_same (of_cell cell) views id v w at (ap (count_by (is_of cell)) made))
      (λ cell place. total_same (at_place cell place) views id v w at (ap (count_by (is_at cell place)) made))
      (total_same grant_of views id v w at grant)
      (fits_set k.left views id w k.fits fits)

-- a fresh view fits where its lowest places do
pub fresh_fits : (init : List ℕ) (left : ℕ → List ℕ) (lows : List ℕ) (share : ℕ) (deal : List ℕ) →
    ((cell : ℕ) → cell < length init → get_or lows cell 0 ≤ length (left cell)) →
    Fits init left (fresh lows share deal)
fresh_fits init left lows share deal low = record {
  lows = low;
  made = λ update has. absurd (of_nothing update has);
  known = λ one has. absurd (of_nothing one has);
}

sum_head : (deal : List ℕ) → head deal + sum (tail deal) ≡ sum deal
sum_head [] = refl
sum_head (share ∷ deal) = sym (sum_by-cons (λ x. x) share deal)

-- what fits, fits with less still to deal
relaxed : (init : List ℕ) (left : ℕ → List ℕ) (v : View) → Fits init left v → Fits init left (without_next v)
relaxed init left v fits = record { lows = fits.lows; made = fits.made; known = fits.known }

-- a view fits that also saw a state
pub look_fits : (init : List ℕ) (left : ℕ → List ℕ) (v : View) (cell : ℕ) (seen : Cell) → Fits init left v →
    IsState init left cell seen → Fits init left (with_look v cell seen)
look_fits init left v cell seen fits is = record {
  lows = λ other inside. low_set v.lows cell seen.place other (length (left other))
      (λ same. rw same is.place) (fits.lows other inside);
  made = fits.made;
  known = λ one has. elim (Contains-append_cases v.known (look cell seen ∷ []) one has) [
    | inl old ↦ fits.known one old
    | inr new ↦ subst (λ (l : Look). IsState init left l.cell l.seen) (only (look cell seen) one new) is
  ];
}

-- two views that fit are one that fits
join_fits : (init : List ℕ) (left : ℕ → List ℕ) (v w : View) → Fits init left v → Fits init left w →
    Fits init left (joined v w)
join_fits init left v w one two = record {
  lows = λ cell inside. rw (low_greater v.lows w.lows cell)
      (omega (arith, one.lows cell inside, two.lows cell inside));
  made = λ update has. elim (Contains-append_cases v.made w.made update has) [
    | inl mine ↦ one.made update mine
    | inr theirs ↦ two.made update theirs
  ];
  known = λ look has. elim (Contains-append_cases v.known w.known look has) [
    | inl mine ↦ one.known look mine
    | inr theirs ↦ two.known look theirs
  ];
}

-- a view is cut in two
module _ (init shares words : List ℕ) (views : List View) (k : IsKept init shares words views) (id : ℕ) (v : View)
    (at : get_elem? views id ≡ some v) where
  pub cut : (w new : View) → w.made ≡ v.made → new.made ≡ [] → grant_of w + grant_of new ≡ grant_of v →
      Fits init k.left w → Fits init k.left new → IsKept init shares words (set views id w ++ new ∷ [])
  cut w new made none grant fits fits_new = rearranged init shares words views (set views id w ++ new ∷ []) k
      (λ cell. omega (
        arith,
        sum_by_push (of_cell cell) (set views id w) new,
        total_same (of_cell cell) views id v w at (ap (count_by (is_of cell)) made),
        ap (count_by (is_of cell)) none,
      ))
      (λ cell place. omega (
        arith,
        sum_by_push (at_place cell place) (set views id w) new,
        total_same (at_place cell place) views id v w at (ap (count_by (is_at cell place)) made),
        ap (count_by (is_at cell place)) none,
      ))
      (omega (arith, sum_by_push grant_of (set views id w) new, total_set grant_of views id v w at, grant))
      (fits_push init shares words k.left (set views id w) new
      (fits_set init shares words k.left views id w k.fits fits) fits_new)

  -- a note is taken
  pub noted : IsKept init shares words (set views id v ++ bare v.lows ∷ [])
  noted = cut v (bare v.lows) refl refl (omega arith) (k.fits id v at)
      (fresh_fits init k.left v.lows 0 [] (k.fits id v at).lows)

  -- the next share is dealt
  pub dealt : IsKept init shares words (set views id (without_next v) ++ next_dealt v ∷ [])
  dealt = cut (without_next v) (next_dealt v) refl refl (omega (arith, sum_head v.deal))
      (relaxed init k.left v (k.fits id v at))
      (fresh_fits init k.left v.lows (head v.deal) [] (k.fits id v at).lows)

  -- a state is seen
  pub looked : (cell : ℕ) (seen : Cell) → IsState init k.left cell seen →
      IsKept init shares words (set views id (with_look v cell seen))
  looked cell seen is = reviewed init shares words views k id v (with_look v cell seen) at refl refl
      (look_fits init k.left v cell seen (k.fits id v at) is)

  -- a seat is taken in
  module _ (other : ℕ) (w : View) (apart : other ≡ id → ⊥)
      (there : get_elem? (set views id (joined v w)) other ≡ some w) where
    weighs : (f : View → ℕ) → f (joined v w) ≡ f v + f w → f spent ≡ 0 →
        sum_by f (set (set views id (joined v w)) other spent) ≡ sum_by f views
    weighs f both none = omega (
      arith,
      both,
      none,
      total_set f views id v (joined v w) at,
      total_set f (set views id (joined v w)) other w spent there,
    )

    their_fit : Fits init k.left w
    their_fit = elim (at_set views id other (joined v w) w there) [
      | inl here ↦ absurd (apart here.0)
      | inr else ↦ k.fits other w else.1
    ]

    pub taken_in : IsKept init shares words (set (set views id (joined v w)) other spent)
    taken_in = rearranged init shares words views (set (set views id (joined v w)) other spent) k
        (λ cell. weighs (of_cell cell) (sum_by-append _ v.made w.made) refl)
        (λ cell place. weighs (at_place cell place) (sum_by-append _ v.made w.made) refl)
        (weighs grant_of (omega (arith, length-append v.made w.made, sum_by-append (λ x. x) v.deal w.deal)) refl)
        (fits_set init shares words k.left (set views id (joined v w)) other spent
        (fits_set init shares words k.left views id (joined v w) k.fits
        (join_fits init k.left v w (k.fits id v at) their_fit))
        (fresh_fits init k.left [] 0 [] (λ cell inside. omega arith)))
