-- A word is among the words that begin with its first byte.
use Rattle.std.proofs.Common.{◌≡◌, ℕ, Bool, true, false, cond, List, [], ◌∷◌, filter, Some, refl, subst, sym, arith}
use Rattle.std.proofs.Common.{◌≤◌, length}
use Rattle.std.specs.Prelude.{slice_index}
use Rattle.std.specs.List.{find}
use Rattle.std.specs.Str.{bytes_eq}
use Rattle.std.proofs.lemmas.Grind.{common_steps}
use Rattle.std.proofs.lemmas.Slice.Eq.{bytes_eq-Decides}
use Rattle.script_language.specs.Forms.{word_of_form, all_forms}
use Rattle.script_language.specs.Words.{form_named}
use Rattle.script_reader.specs.Beginnings.{begins_with, forms_with}

-- the first that passes is among those that pass a weaker test
find_among : {X : Type 0} (p q : X → Bool) → ((x : X) → p x ≡ true → q x ≡ true) → (xs : List X) →
    find p (filter q xs) ≡ find p xs
find_among p q sure [] = refl
find_among p q sure (x ∷ xs) =
    let rest = find_among p q sure xs in
    let surely = sure x in
    elim (q x) as (λ b. q x ≡ b → find p (cond b (x ∷ filter q xs) (filter q xs)) ≡ cond (p x) (Some x) (find p xs)) [
      | true ↦ λ e. rw rest refl
      | false ↦ λ e. elim (p x) as (λ t. p x ≡ t → find p (filter q xs) ≡ cond t (Some x) (find p xs)) [
        | true ↦ λ t. let other : q x ≡ true = surely t in cc
        | false ↦ λ t. rest
      ] refl
    ] refl

same_byte : (byte : ℕ) (rest : List ℕ) → begins_with byte (byte ∷ rest) ≡ true
same_byte byte rest = grind (arith, common_steps)

begins_so : (byte : ℕ) (rest text : List ℕ) → bytes_eq text (byte ∷ rest) ≡ true → begins_with byte text ≡ true
begins_so byte rest text e =
    let same : text ≡ byte ∷ rest = (bytes_eq-Decides text (byte ∷ rest)).0 e in
    subst (λ t. begins_with byte t ≡ true) (sym same) (same_byte byte rest)

named_so : (byte : ℕ) (rest : List ℕ) →
    find (λ form. bytes_eq (word_of_form form) (byte ∷ rest)) (forms_with byte) ≡ form_named (byte ∷ rest)
named_so byte rest = find_among (λ form. bytes_eq (word_of_form form) (byte ∷ rest))
    (λ form. begins_with byte (word_of_form form)) (λ form e. begins_so byte rest (word_of_form form) e) all_forms

pub form_among : (token : List ℕ) → 1 ≤ length token →
    find (λ form. bytes_eq (word_of_form form) token) (forms_with (slice_index token 0)) ≡ form_named token
form_among [] some = absurd (omega arith)
form_among (byte ∷ rest) some = named_so byte rest
