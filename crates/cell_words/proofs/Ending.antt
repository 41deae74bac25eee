-- What the rule says once one view has all that was given out, or nothing was.
use Rattle.std.proofs.Common.{◌≡◌, inl, inr, ℕ, ◌<◌, ◌≤◌, List, [], ◌∷◌, ◌++◌, length, get_or}
use Rattle.std.proofs.Common.{sum, sum_by, Contains, sym, ap, ◌∙◌, subst, arith, cond}
use Rattle.std.proofs.lemmas.List.Sums.{sum_by-cons, sum_by-append, count_by-le-length}
use mathlib.Core.Option.{some}
use lib.ListN.{get_elem?}
use Rattle.call_rules.specs.declared.cells.Cell.{Cell}
use Rattle.cell_face.specs.Faces.{Update}
use Rattle.cell_words.specs.declared.views.Look.{Look}
use Rattle.cell_words.specs.declared.views.View.{View}
use Rattle.cell_words.specs.Words.{seen_in}
use Rattle.cell_words.specs.Histories.{cell_bits, IsUpdate, IsState, is_of, is_at}
use Rattle.cell_words.specs.Views.{held, grant_of, joined}
use Rattle.cell_words.specs.Rule.{IsKept}
use Rattle.std.proofs.Common.{All, append_assoc}
use Rattle.std.proofs.lemmas.List.{map-append}
use Rattle.std.proofs.Math.ListN.{get_or-append}
use Rattle.std.proofs.Math.Seq.{get_or-append_seam}
use Rattle.atomic_table.specs.Seated.{TableId}
use Rattle.cell_words.specs.Holders.{Passed, views_of}
use Rattle.cell_words.specs.Closings.{IsHistory, AreBitsOf, Gathers}
use Rattle.std.proofs.lemmas.List.Elements.{Contains-append_cases, Contains-append_left, Contains-append_right}
use Rattle.std.proofs.lemmas.List.{length-append}
use Rattle.cell_words.proofs.Elements.{only, of_nothing}
use Rattle.cell_words.proofs.WordParts.{seen_again}
use Rattle.cell_words.proofs.Totals.{total_below, total_alone}
use Rattle.cell_words.proofs.Keeping.{of_cell, at_place}

-- a cell has at most as many updates as were given out
pub few : (init shares words : List ℕ) (views : List View) (k : IsKept init shares words views) (cell : ℕ) →
    length (k.left cell) ≤ sum shares
few init shares words views k cell =
    let below = total_below (of_cell cell) grant_of
    (λ u. omega (arith, count_by-le-length (is_of cell) u.made)) views in
    omega (arith, below, k.counts cell, k.grants)

module _ (init shares words : List ℕ) (views : List View) (k : IsKept init shares words views) (passes : List View)
    (of : (cell : ℕ) → sum_by (of_cell cell) views ≡ sum_by (of_cell cell) passes)
    (at : (cell place : ℕ) → sum_by (at_place cell place) views ≡ sum_by (at_place cell place) passes)
    (made : (v : View) → Contains passes v → (update : Update) → Contains v.made update → IsUpdate init k.left update)
    (known : (v : View) → Contains passes v → (look : Look) → Contains v.known look →
    IsState init k.left look.cell look.seen)
    (finals : List ℕ) (are : AreBitsOf words finals) where
  final : (cell : ℕ) → cell < length init → get_or finals cell 0 ≡ cell_bits init k.left cell (length (k.left cell))
  final cell inside =
      let n = length (k.left cell) in
      let small : length (k.left cell) < 4294967296 =
      omega (arith, few init shares words views k cell, k.small) in
      are.bits cell (omega (arith, are.cells, k.count))
      ∙ (ap (λ (word : ℕ). (seen_in word).bits) (k.stored cell inside)
      ∙ ap (λ (seen : Cell). seen.bits) (seen_again (cell_bits init k.left cell n) n small))

  pub history : IsHistory init finals passes
  history = record {
    left = k.left;
    cells = omega (arith, are.cells, k.count);
    final = final;
    counts = λ cell. sym (of cell) ∙ k.counts cell;
    places = λ cell place. sym (at cell place) ∙ k.places cell place;
    made = made;
    known = known;
  }

-- one view has gathered all that was given out
pub ended : (init shares words : List ℕ) (views : List View) (k : IsKept init shares words views) (id : ℕ) (all : View)
    (at : get_elem? views id ≡ some all) (passes : List View) → Gathers passes all → sum_by held passes ≡ sum shares →
    (finals : List ℕ) → AreBitsOf words finals → IsHistory init finals passes
ended init shares words views k id all at passes g whole finals are =
    let none : sum all.deal ≡ 0 = ap sum g.deal in
    let most : sum_by grant_of views ≤ grant_of all = omega (arith, k.grants, g.held, whole, none) in
    let fits = k.fits id all at in
    history init shares words views k passes
    (λ cell. total_alone (of_cell cell) grant_of (λ u. omega (arith, count_by-le-length (is_of cell) u.made)) views id
    all at most ∙ sym (g.weights (λ u. cond (is_of cell u) 1 0)))
    (λ cell place. total_alone (at_place cell place) grant_of
    (λ u. omega (arith, count_by-le-length (is_at cell place) u.made)) views id all at most
    ∙ sym (g.weights (λ u. cond (is_at cell place u) 1 0)))
    (λ v has update is. fits.made update (g.made v has update is))
    (λ v has look is. fits.known look (g.known v has look is)) finals are

-- nothing was given out, and there is no pass
pub ended_empty : (init shares words : List ℕ) (views : List View) (k : IsKept init shares words views) →
    sum shares ≡ 0 → (finals : List ℕ) → AreBitsOf words finals → IsHistory init finals []
ended_empty init shares words views k none finals are =
    history init shares words views k []
    (λ cell. let below = total_below (of_cell cell) grant_of
    (λ u. omega (arith, count_by-le-length (is_of cell) u.made)) views in omega (arith, below, k.grants, none))
    (λ cell place. let below = total_below (at_place cell place) grant_of
    (λ u. omega (arith, count_by-le-length (is_at cell place) u.made)) views in
    omega (arith, below, k.grants, none))
    (λ v has. absurd (of_nothing v has)) (λ v has. absurd (of_nothing v has)) finals are

-- one view, and one more
pub gathers_one : (v : View) → v.deal ≡ [] → Gathers (v ∷ []) v
gathers_one v deal = record {
  weights = λ weight. omega (arith, sum_by-cons (λ (u : View). sum_by weight u.made) v []);
  held = omega (arith, sum_by-cons held v []);
  deal = deal;
  made = λ u has update is. subst (λ (x : View). Contains x.made update) (sym (only v u has)) is;
  known = λ u has look is. subst (λ (x : View). Contains x.known look) (sym (only v u has)) is;
}

pub gathers_more : (views : List View) (all v : View) → Gathers views all → v.deal ≡ [] →
    Gathers (v ∷ views) (joined all v)
gathers_more views all v g deal = record {
  weights = λ weight. omega (
    arith,
    sum_by-cons (λ (u : View). sum_by weight u.made) v views,
    g.weights weight,
    sum_by-append weight all.made v.made,
  );
  held = omega (arith, sum_by-cons held v views, g.held, length-append all.made v.made);
  deal = rw g.deal deal;
  made = λ u has update is. elim (Contains-append_cases (v ∷ []) views u has) [
    | inl mine ↦ Contains-append_right all.made v.made update
        (subst (λ (x : View). Contains x.made update) (sym (only v u mine)) is)
    | inr rest ↦ Contains-append_left all.made v.made update (g.made u rest update is)
  ];
  known = λ u has look is. elim (Contains-append_cases (v ∷ []) views u has) [
    | inl mine ↦ Contains-append_right all.known v.known look
        (subst (λ (x : View). Contains x.known look) (sym (only v u mine)) is)
    | inr rest ↦ Contains-append_left all.known v.known look (g.known u rest look is)
  ];
}

-- of passes to one table, those before the last, and the last
module _ (table : TableId) (rest : List Passed) (pass : Passed) (all : List Passed) (is : all ≡ rest ++ pass ∷ [])
    (own : All (λ (p : Passed). p.table ≡ table) all) where
  pub own_rest : All (λ (p : Passed). p.table ≡ table) rest
  own_rest k d lt =
      let same = ap (λ (xs : List Passed). get_or xs k d) is ∙ get_or-append rest (pass ∷ []) d k lt in
      sym (ap (λ (p : Passed). p.table) same)
      ∙ own k d (omega (arith, lt, ap length is, length-append rest (pass ∷ [])))

  pub own_last : pass.table ≡ table
  own_last =
      let same = ap (λ (xs : List Passed). get_or xs (length rest) pass) is
      ∙ get_or-append_seam rest pass [] pass in
      sym (ap (λ (p : Passed). p.table) same)
      ∙ own (length rest) pass (omega (arith, ap length is, length-append rest (pass ∷ [])))

  pub views_last : (done : List View) → views_of rest ++ pass.view ∷ done ≡ views_of all ++ done
  views_last done = sym (ap (λ (vs : List View). vs ++ done)
      (ap views_of is ∙ map-append (λ (p : Passed). p.view) rest (pass ∷ []))
      ∙ append_assoc (views_of rest) (pass.view ∷ []) done)
