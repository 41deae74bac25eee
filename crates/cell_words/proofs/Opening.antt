-- The table at the start keeps the rule.
use Rattle.std.proofs.Common.{◌≡◌, ℕ, zero, suc, ◌+◌, ◌<◌, List, [], ◌∷◌, get_or, sum}
use Rattle.std.proofs.Common.{refl, sym, ap, ◌∙◌, subst, arith}
use Rattle.std.proofs.lemmas.List.{length-map, get_or-map}
use mathlib.Core.Option.{some, some-injective, some-ne-none}
use lib.ListN.{get_elem?}
use Rattle.cell_words.specs.declared.views.View.{View}
use Rattle.cell_words.specs.Words.{word_of, words_of}
use Rattle.cell_words.specs.Histories.{once_below}
use Rattle.cell_words.specs.Views.{zeros, first_view}
use Rattle.cell_words.specs.Rule.{Fits, IsKept}
use Rattle.cell_words.proofs.Keeping.{fresh_fits}
use Rattle.std.proofs.lemmas.Bool.{le-ltb}

low_zero : (init : List ℕ) (cell : ℕ) → get_or (zeros init) cell 0 ≡ 0
low_zero [] cell = refl
low_zero (bits ∷ init) zero = refl
low_zero (bits ∷ init) (suc cell) = low_zero init cell

nothing_below : (place : ℕ) → 0 ≡ once_below place 0
nothing_below place = rw (le-ltb place 0 (omega arith)) refl

one_view : (P : View → Type 0) (v : View) → P v → (id : ℕ) (u : View) → get_elem? (v ∷ []) id ≡ some u → P u
one_view P v p zero u at = subst P (some-injective v u at) p
one_view P v p (suc id) u at = absurd (some-ne-none u (sym at))

pub opened : (init shares : List ℕ) → sum shares < 4294967296 →
    IsKept init shares (words_of init) (first_view init shares ∷ [])
opened init shares small = record {
  left = λ _. [];
  count = omega (arith, length-map init (λ (bits : ℕ). word_of bits 0));
  spare = refl;
  stored = λ cell inside.
      let next : cell + 1 ≡ suc cell = omega arith in
      ap (λ (k : ℕ). get_or (words_of init) k 0) next
      ∙ get_or-map (λ (bits : ℕ). word_of bits 0) init cell 0 0 inside;
  counts = λ cell. refl;
  places = λ cell place. nothing_below place;
  grants = omega arith;
  small = small;
  fits = one_view (Fits init (λ _. [])) (first_view init shares)
      (fresh_fits init (λ _. []) (zeros init) 0 shares (λ cell inside. omega (arith, low_zero init cell)));
}
