-- Plain tokens, with one space between any two, are split into the tokens that were printed.
use Rattle.std.proofs.Common.{◌≡◌, ℕ, suc, ◌+◌, ◌<◌, ◌≤◌, Bool, true, false, ◌&&◌, not, leb, eqb, List, [], ◌∷◌, ◌++◌}
use Rattle.std.proofs.Common.{take, refl, ap, ◌∙◌, arith}
use Rattle.std.specs.Prelude.{filter}
use Rattle.std.specs.List.{AllByRecursion, list_all, slice_split, prefix_len}
use Rattle.std.proofs.lemmas.Bool.{leb-true}
use Rattle.std.proofs.lemmas.Grind.{common_steps}
use Rattle.list_laws.proofs.Each.{each_append}
use Rattle.list_laws.proofs.Truths.{both_true}
use Rattle.call_rules.specs.Text.{join_by_spaces}
use Rattle.script_language.specs.Lines.{is_blank, has_bytes, tokens_of}

-- a byte that is printed in a token: no blank, no line feed, no `#`
abbrev pub is_plain_byte : ℕ → Bool
is_plain_byte byte = leb 45 byte && leb byte 122

-- a token that is printed
pub record IsPlain (token : List ℕ) : Type 0 where
  pub some : has_bytes token ≡ true
  pub bytes : list_all is_plain_byte token ≡ true

plain_range : (b : ℕ) → is_plain_byte b ≡ true → (45 ≤ b) × (b ≤ 122)
plain_range b h = let t = both_true (leb 45 b) (leb b 122) h in (leb-true 45 b t.0, leb-true b 122 t.1)

pub other_byte : (q b : ℕ) → q < 45 → is_plain_byte b ≡ true → eqb b q ≡ false
other_byte q b low h = let r = plain_range b h in let more : q < b = omega arith in grind (arith, common_steps)

no_blank : (b : ℕ) → is_plain_byte b ≡ true → is_blank b ≡ false
no_blank b h = rw (other_byte 32 b (omega arith) h, other_byte 9 b (omega arith) h, other_byte 13 b (omega arith) h)
    refl

pub all_from : (p : ℕ → Bool) (P : ℕ → Type 0) → ((b : ℕ) → p b ≡ true → P b) → (bs : List ℕ) → list_all p bs ≡ true →
    AllByRecursion P bs
all_from p P gives [] all = tt
all_from p P gives (b ∷ bs) all = let t = both_true (p b) (list_all p bs) all in
    (gives b t.0, all_from p P gives bs t.1)

-- ---- splits

split_none : (p : ℕ → Bool) (xs : List ℕ) → AllByRecursion (λ x. p x ≡ false) xs → slice_split p xs ≡ xs ∷ []
split_none p [] all = refl
split_none p (x ∷ xs) all = rw (all.0, split_none p xs all.1) refl

pub split_at : (p : ℕ → Bool) (xs : List ℕ) (y : ℕ) (ys : List ℕ) → AllByRecursion (λ x. p x ≡ false) xs → p y ≡ true →
    slice_split p (xs ++ y ∷ ys) ≡ xs ∷ slice_split p ys
split_at p [] y ys all here = rw here refl
split_at p (x ∷ xs) y ys all here = rw (all.0, split_at p xs y ys all.1 here) refl

whole_taken : (p : ℕ → Bool) (xs : List ℕ) → AllByRecursion (λ x. p x ≡ false) xs →
    take (prefix_len (λ x. not (p x)) xs) xs ≡ xs
whole_taken p [] all = refl
whole_taken p (x ∷ xs) all =
    let next : 1 + prefix_len (λ y. not (p y)) xs ≡ suc (prefix_len (λ y. not (p y)) xs) = omega arith in
    rw (all.0, next) (ap (λ (ys : List ℕ). x ∷ ys) (whole_taken p xs all.1))

-- ---- the tokens of a line

-- a byte other than those of tokens and the space between them stands nowhere in the line
pub nowhere : (q : ℕ) → q < 45 → eqb 32 q ≡ false → (tokens : List (List ℕ)) → AllByRecursion IsPlain tokens →
    AllByRecursion (λ b. eqb b q ≡ false) (join_by_spaces tokens)
nowhere q low space [] plain = tt
nowhere q low space (x ∷ []) plain = all_from is_plain_byte (λ b. eqb b q ≡ false) (λ b h. other_byte q b low h) x
    plain.0.bytes
nowhere q low space (x ∷ y ∷ xs) plain =
    each_append (λ b. eqb b q ≡ false) x (32 ∷ join_by_spaces (y ∷ xs))
    (all_from is_plain_byte (λ b. eqb b q ≡ false) (λ b h. other_byte q b low h) x plain.0.bytes)
    (space, nowhere q low space (y ∷ xs) plain.1)

kept : (token : List ℕ) (rest : List (List ℕ)) → has_bytes token ≡ true → filter has_bytes (token ∷ rest) ≡ token
    ∷ filter has_bytes rest
kept token rest some = rw some refl

pub parted : (tokens : List (List ℕ)) → AllByRecursion IsPlain tokens →
    filter has_bytes (slice_split is_blank (join_by_spaces tokens)) ≡ tokens
parted [] plain = refl
parted (x ∷ []) plain =
    ap (filter has_bytes) (split_none is_blank x
    (all_from is_plain_byte (λ b. is_blank b ≡ false) no_blank x plain.0.bytes)) ∙ kept x [] plain.0.some
parted (x ∷ y ∷ xs) plain =
    ap (filter has_bytes) (split_at is_blank x 32 (join_by_spaces (y ∷ xs))
    (all_from is_plain_byte (λ b. is_blank b ≡ false) no_blank x plain.0.bytes) refl)
    ∙ kept x (slice_split is_blank (join_by_spaces (y ∷ xs))) plain.0.some
    ∙ ap (λ (ts : List (List ℕ)). x ∷ ts) (parted (y ∷ xs) plain.1)

pub tokens_back : (tokens : List (List ℕ)) → AllByRecursion IsPlain tokens → tokens_of (join_by_spaces tokens) ≡ tokens
tokens_back tokens plain =
    ap (λ (bytes : List ℕ). filter has_bytes (slice_split is_blank bytes))
    (whole_taken (λ b. eqb b 35) (join_by_spaces tokens) (nowhere 35 (omega arith) refl tokens plain))
    ∙ parted tokens plain
