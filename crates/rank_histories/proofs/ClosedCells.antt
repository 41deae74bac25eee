-- Cells that were closed tell one history of each cell.
use Rattle.std.proofs.Common.{◌≡◌, ℕ, suc, ◌+◌, List, [], ◌∷◌, length, map, refl, sym, ◌∙◌, ap, arith}
use Rattle.std.specs.Prelude.{slice_index, sum_by, Contains}
use Rattle.std.specs.List.{count_by, AllByRecursion}
use Rattle.std.proofs.lemmas.List.Sums.{sum_by-cons}
use Rattle.cell_face.specs.Faces.{Keeps, Update}
use Rattle.cell_words.specs.Closings.{IsHistory}
use Rattle.cell_words.specs.Histories.{IsUpdate, IsState, is_of, is_at}
use Rattle.cell_words.specs.Views.{look}
use Rattle.cell_words.specs.declared.views.View.{View}
use Rattle.rank_histories.specs.Ends.{AreClosed}

summed_map : {X Y : Type 0} (f : Y → ℕ) (g : X → Y) (xs : List X) → sum_by f (map g xs) ≡ sum_by (λ x. f (g x)) xs
summed_map f g [] = refl
summed_map f g (x ∷ xs) = sum_by-cons f (g x) (map g xs) ∙ ap (λ n. f (g x) + n) (summed_map f g xs)
    ∙ sym (sum_by-cons (λ x. f (g x)) x xs)

contained_each : {X : Type 0} (P : X → Type 0) (xs : List X) → ((x : X) → Contains xs x → P x) → AllByRecursion P xs
contained_each P [] each = tt
contained_each P (x ∷ xs) each = (
  each x (0, omega arith, refl),
  contained_each P xs (λ y has. (let within = has.1 in each y (suc has.0, omega (arith, within), has.2))),
)

made_each : (P : Update → Type 0) (views : List View) →
    AllByRecursion (λ (v : View). AllByRecursion P v.made) views →
    AllByRecursion (λ (updates : List Update). AllByRecursion P updates) (map (λ (v : View). v.made) views)
made_each P [] all = tt
made_each P (v ∷ views) all = (all.0, made_each P views all.1)

-- the updates of the ranks are those that their views made
pub closed_cells : (init finals : List ℕ) (views : List View) → IsHistory init finals views →
    ((cell : ℕ) → slice_index init cell ≡ 0) →
    AreClosed (length init) finals (map (λ (v : View). v.made) views)
closed_cells init finals views history empty = record {
  init = init;
  left = history.left;
  count = history.cells;
  empty = empty;
  final = history.final;
  counts = λ cell. summed_map (λ (updates : List Update). count_by (is_of cell) updates) (λ (v : View). v.made) views
      ∙ history.counts cell;
  places = λ cell place. summed_map (λ (updates : List Update). count_by (is_at cell place) updates)
      (λ (v : View). v.made) views ∙ history.places cell place;
  updates = made_each (IsUpdate init history.left) views
      (contained_each (λ (v : View). AllByRecursion (IsUpdate init history.left) v.made) views
      (λ v has. contained_each (IsUpdate init history.left) v.made (λ update is. history.made v has update is)));
}

-- what a view knows is so in the histories
pub known_states : (init finals : List ℕ) (views : List View) (history : IsHistory init finals views) (v : View) →
    Contains views v →
    Keeps (λ cell seen. Contains v.known (look cell seen)) (IsState init history.left)
known_states init finals views history v has cell seen is = history.known v has (look cell seen) is
