-- The histories of the cells with one update more.
use Rattle.std.proofs.Common.{◌≡◌, inl, inr, ℕ, zero, suc, ◌+◌, ◌≤◌, List, [], ◌∷◌, ◌++◌, length, cond}
use Rattle.std.proofs.Common.{get_or, refl, sym, ap, ◌∙◌, arith}
use Rattle.std.proofs.Math.ListN.{get_or-append}
use Rattle.std.proofs.Math.Seq.{get_or-append_seam}
use Rattle.std.proofs.lemmas.List.{length-append}
use Rattle.std.proofs.lemmas.Bool.{cases_eq, eq-eqb, ne_eqb, cond-true, cond-false}
use Rattle.std.proofs.Math.Dec.{eqb}
use Rattle.call_rules.specs.declared.cells.Cell.{Cell}
use Rattle.cell_face.specs.Faces.{Update}
use Rattle.cell_words.specs.Histories.{bits_at, cell_bits, IsUpdate, IsState}

-- one cell has an update more, which left these bits
pub record Grows (left grown : ℕ → List ℕ) (cell bits : ℕ) : Type 0 where
  pub here : grown cell ≡ left cell ++ bits ∷ []
  pub others : (other : ℕ) → (other ≡ cell → ⊥) → grown other ≡ left other

abbrev pub grown : (ℕ → List ℕ) → ℕ → ℕ → ℕ → List ℕ
grown left cell bits other = cond (eqb other cell) (left other ++ bits ∷ []) (left other)

pub grows : (left : ℕ → List ℕ) (cell bits : ℕ) → Grows left (grown left cell bits) cell bits
grows left cell bits = record {
  here = cond-true (eqb cell cell) (left cell ++ bits ∷ []) (left cell) (eq-eqb cell cell refl);
  others = λ other ne. cond-false (eqb other cell) (left other ++ bits ∷ []) (left other) (ne_eqb other cell ne);
}

module _ (left more : ℕ → List ℕ) (cell bits : ℕ) (g : Grows left more cell bits) where
  pub longer_here : length (more cell) ≡ length (left cell) + 1
  longer_here = ap length g.here ∙ length-append (left cell) (bits ∷ [])

  pub longer : (other : ℕ) → length (left other) ≤ length (more other)
  longer other = elim (cases_eq other cell) [
    | inl same ↦ rw same (omega (arith, longer_here))
    | inr differ ↦ omega (arith, ap length (g.others other differ))
  ]

  module _ (init : List ℕ) where
    bits_before : (first : ℕ) (xs : List ℕ) (place : ℕ) → place ≤ length xs →
        bits_at first (xs ++ bits ∷ []) place ≡ bits_at first xs place
    bits_before first xs zero le = refl
    bits_before first xs (suc place) le = get_or-append xs (bits ∷ []) 0 place (omega arith)

    -- what was at a place is there still
    pub same_bits : (other place : ℕ) → place ≤ length (left other) →
        cell_bits init more other place ≡ cell_bits init left other place
    same_bits other place le = elim (cases_eq other cell) [
      | inl same ↦ let here : more other ≡ left other ++ bits ∷ [] = rw same g.here in
          ap (λ (xs : List ℕ). bits_at (get_or init other 0) xs place) here
          ∙ bits_before (get_or init other 0) (left other) place le
      | inr differ ↦ ap (λ (xs : List ℕ). bits_at (get_or init other 0) xs place) (g.others other differ)
    ]

    -- the bits that the new update left
    pub new_bits : cell_bits init more cell (length (left cell) + 1) ≡ bits
    new_bits =
        let next : length (left cell) + 1 ≡ suc (length (left cell)) = omega arith in
        ap (λ (xs : List ℕ). bits_at (get_or init cell 0) xs (length (left cell) + 1)) g.here
        ∙ ap (λ (k : ℕ). get_or (get_or init cell 0 ∷ (left cell ++ bits ∷ [])) k 0) next
        ∙ get_or-append_seam (left cell) bits [] 0

    pub update_stays : (update : Update) → IsUpdate init left update → IsUpdate init more update
    update_stays update is = record {
      cell = is.cell;
      place = omega (arith, is.place, longer update.cell);
      before = is.before ∙ sym (same_bits update.cell update.place (omega (arith, is.place)));
      after = is.after ∙ sym (same_bits update.cell (update.place + 1) (omega (arith, is.place)));
    }

    pub state_stays : (other : ℕ) (seen : Cell) → IsState init left other seen → IsState init more other seen
    state_stays other seen is = record {
      place = omega (arith, is.place, longer other);
      bits = is.bits ∙ sym (same_bits other seen.place is.place);
    }
