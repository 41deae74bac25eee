-- An update of a memory that one thread uses alone.
use Rattle.std.proofs.Common.{◌≡◌, inl, inr, ℕ, ◌+◌, ◌<◌, ◌≤◌, List, length, refl, sym, ap, ◌∙◌, arith, Some}
use Rattle.std.proofs.Math.ListN.{set}
use Rattle.std.proofs.Math.ListN as lists
use Rattle.std.proofs.lemmas.List.{get_or-set_same, get_or-set_other, length-map, length-set}
use Rattle.std.proofs.lemmas.Bool.{cases_eq}
use Rattle.call_rules.specs.declared.cells.Cell.{Cell}
use Rattle.call_rules.specs.Touches.{cell_at, empty_cell}
use Rattle.cell_face.specs.Faces.{cell_count, low_at, Updates, state_after}
use Rattle.cell_face.specs.PlainCells.{PlainCells, plain_face}

-- the lowest place of a cell is its place
pub low_at-plain : (memory : PlainCells) (cell : ℕ) → low_at (plain_face memory) cell ≡
    (cell_at memory.cells cell).place
low_at-plain memory cell = lists.get_or-map (λ (c : Cell). c.place) memory.cells cell empty_cell

low_after : (before after : PlainCells) (cell other : ℕ) (state : Cell) → cell < length before.cells →
    after.cells ≡ set before.cells cell state → (cell_at before.cells cell).place ≤ state.place →
    (cell_at before.cells other).place ≤ (cell_at after.cells other).place
low_after before after cell other state inside e le = elim (cases_eq other cell) [
  | inl same ↦ rw e (rw same (rw get_or-set_same le))
  | inr differ ↦ rw e (rw get_or-set_other (omega arith))
]

-- the cell has the state that the update leaves it in, and all else stays
pub plain_updates : (before after : PlainCells) (cell : ℕ) (seen : Cell) (bits : ℕ) →
    cell < cell_count (plain_face before) →
    after.cells ≡ set before.cells cell (state_after bits (cell_at before.cells cell)) →
    seen.place ≡ (cell_at before.cells cell).place → after.share + 1 ≡ before.share → after.moves ≡ before.moves →
    Updates (plain_face before) (plain_face after) cell seen bits
plain_updates before after cell seen bits within cells place share moves =
    let inside : cell < length before.cells = omega (arith, length-map before.cells (λ (c : Cell). c.place)) in
    let state = state_after bits (cell_at before.cells cell) in
    record {
      stays = record {
        cells = length-map after.cells (λ (c : Cell). c.place)
            ∙ (ap length cells ∙ (length-set before.cells cell state
            ∙ sym (length-map before.cells (λ (c : Cell). c.place))));
        lows = λ other. let le = low_after before after cell other state inside cells (omega arith) in
            omega (arith, le, low_at-plain before other, low_at-plain after other);
        grant = refl;
        name = refl;
      };
      share = omega arith;
      moves = moves;
      updates = refl;
      told = ap (λ (cs : List Cell). Some cs)
          (cells ∙ ap (λ n. set before.cells cell (record { bits = bits; place = n + 1 })) (sym place));
      told_place = place;
      not_below = omega (arith, low_at-plain before cell);
      raised =
          let same : (cell_at after.cells cell).place ≡ seen.place + 1 = rw cells (rw get_or-set_same (omega arith)) in
          omega (arith, low_at-plain after cell, same);
    }
