-- What a note does to the face of the seat that takes it in.
use Rattle.std.proofs.Common.{◌≡◌, ℕ, List, [], ◌∷◌, length}
use Rattle.std.proofs.Common.{refl, ap, arith, Some}
use Rattle.std.proofs.lemmas.List.{append-nil, length-append}
use Rattle.cell_face.specs.Faces.{Takes}
use Rattle.atomic_table.specs.Seated.{TableId}
use Rattle.cell_face.proofs.GreaterFronts.{length-greater}
use Rattle.cell_words.specs.declared.views.View.{View}
use Rattle.cell_words.specs.Views.{bare, joined}
use Rattle.cell_words.specs.Holders.{Seated, face_of}
use Rattle.cell_words.proofs.Elements.{low_greater}

abbrev pub seated : TableId → View → ℕ → Seated
seated table view moves = record { table = table; view = view; moves = moves }

-- a note is taken in: the lowest places rise
pub seat_takes : (table : TableId) (view : View) (lows : List ℕ) (moves : ℕ) → length view.lows ≡ length lows →
    Takes (face_of (seated table view moves)) (face_of (seated table (joined view (bare lows)) moves)) (Some lows)
seat_takes table view lows moves same = record {
  unwritten = record {
    stays = record {
      cells = length-greater view.lows lows same;
      lows = λ cell. omega (arith, low_greater view.lows lows cell);
      grant = ap (λ (n : ℕ). n ∷ []) (omega (arith, length-append view.made []));
      name = refl;
    };
    share = omega arith;
    updates = ap (λ (made : List _). Some made) (append-nil view.made);
    told = refl;
  };
  moves = refl;
  raised = λ cell inside. omega (arith, low_greater view.lows lows cell);
}
