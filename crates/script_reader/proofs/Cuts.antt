-- A list cut at its first element of a kind: lines and tokens.
use Rattle.std.proofs.Common.{◌≡◌, ℕ, suc, ◌+◌, ◌<◌, ◌≤◌, Bool, true, false, not, cond, List, [], ◌∷◌, length, take}
use Rattle.std.proofs.Common.{drop, filter, unwrap_or, position, refl, ap, sym, ◌∙◌, arith}
use Rattle.std.specs.List.{slice_split, position_or_len, onto_first}
use Rattle.std.proofs.lemmas.Grind.{common_steps}
use Rattle.std.proofs.lemmas.List.Recursion.{is_position_or_len}
use Rattle.script_language.specs.Lines.{is_blank, has_bytes}
use Rattle.script_reader.specs.Lexing.{tokens_in}

-- where the first element of a kind stands, or the length
abbrev pub place : {X : Type 0} → (X → Bool) → List X → ℕ
place p [] = 0
place p (x ∷ xs) = cond (p x) 0 (suc (place p xs))

pub place_is : {X : Type 0} (p : X → Bool) (xs : List X) → place p xs ≡ position_or_len p xs
place_is p xs = is_position_or_len (place p) p refl
    (λ x xs. let same : suc (place p xs) ≡ 1 + place p xs = omega arith in ap (λ n. cond (p x) 0 n) same) xs

place_most : {X : Type 0} (p : X → Bool) (xs : List X) → place p xs ≤ length xs
place_most p [] = omega arith
place_most p (x ∷ xs) =
    let rest = place_most p xs in
    elim (p x) as (λ b. cond b 0 (suc (place p xs)) ≤ length (x ∷ xs)) [ true ↦ omega arith | false ↦ omega arith ]

pub position_at_most : {X : Type 0} (p : X → Bool) (xs : List X) → position_or_len p xs ≤ length xs
position_at_most p xs = rw (← place_is p xs) (place_most p xs)

pub position_else_length : {X : Type 0} (p : X → Bool) (xs : List X) → unwrap_or (position p xs)
    (length xs) ≡ position_or_len p xs
position_else_length p xs = let most = position_at_most p xs in grind (arith, common_steps)

pub position_within : {X : Type 0} (p : X → Bool) (xs : List X) → unwrap_or (position p xs) (length xs) ≤ length xs
position_within p xs = let most = position_at_most p xs in let same = position_else_length p xs in omega arith

-- what stands behind the first piece
abbrev pub pieces_behind : (ℕ → Bool) → List ℕ → List (List ℕ)
pieces_behind p [] = []
pieces_behind p (x ∷ xs) = slice_split p xs

pub split_place : (p : ℕ → Bool) (xs : List ℕ) → slice_split p xs ≡ take (place p xs) xs
    ∷ pieces_behind p (drop (place p xs) xs)
split_place p [] = refl
split_place p (x ∷ xs) =
    let rest = split_place p xs in
    elim (p x) as (λ b. cond b ([] ∷ slice_split p xs) (onto_first x (slice_split p xs)) ≡ take
    (cond b 0 (suc (place p xs))) (x ∷ xs) ∷ pieces_behind p (drop (cond b 0 (suc (place p xs))) (x ∷ xs))) [
      | true ↦ refl
      | false ↦ ap (onto_first x) rest
    ]

pub split_front : (p : ℕ → Bool) (xs : List ℕ) → slice_split p xs ≡ take (position_or_len p xs) xs
    ∷ pieces_behind p (drop (position_or_len p xs) xs)
split_front p xs = rw (← place_is p xs) (split_place p xs)

-- the place of the first byte that is no blank, and of the first blank
abbrev first_byte : List ℕ → ℕ
first_byte line = place (λ byte. not (is_blank byte)) line

abbrev first_blank : List ℕ → ℕ
first_blank line = place is_blank line

-- blanks before the first token say nothing
tokens_skip : (line : List ℕ) → tokens_in line ≡ tokens_in (drop (first_byte line) line)
tokens_skip [] = refl
tokens_skip (b ∷ line) =
    let rest = tokens_skip line in
    elim (is_blank b) as (λ t. is_blank b ≡ t → tokens_in (b ∷ line) ≡ tokens_in
    (drop (first_byte (b ∷ line)) (b ∷ line))) [
      | true ↦ λ e. rw e rest
      | false ↦ λ e. rw e (rw e refl)
    ] refl

-- a blank before the rest of a line says nothing
behind_tokens : (line : List ℕ) → filter has_bytes (pieces_behind is_blank (drop (first_blank line) line)) ≡ tokens_in
    (drop (first_blank line) line)
behind_tokens [] = refl
behind_tokens (b ∷ line) =
    let rest = behind_tokens line in
    elim (is_blank b) as (λ t. is_blank b ≡ t →
    filter has_bytes (pieces_behind is_blank (drop (first_blank (b ∷ line)) (b ∷ line))) ≡ tokens_in
    (drop (first_blank (b ∷ line)) (b ∷ line))) [
      | true ↦ λ e. rw e (rw e refl)
      | false ↦ λ e. rw e rest
    ] refl

first_kept : (line : List ℕ) (b : ℕ) (r : List ℕ) → drop (first_byte line) line ≡ b ∷ r → is_blank b ≡ false
first_kept [] b r h = cc
first_kept (x ∷ line) b r h =
    elim (is_blank x) as (λ t. is_blank x ≡ t → is_blank b ≡ false) [
      | true ↦ λ e. first_kept line b r (rw e at h)
      | false ↦ λ e. let same : x ∷ line ≡ b ∷ r = rw e at h in let first : x ≡ b = cc in rw (← first) e
    ] refl

tokens_front : (b : ℕ) (r : List ℕ) → is_blank b ≡ false → tokens_in (b ∷ r) ≡ take (first_blank (b ∷ r)) (b ∷ r)
    ∷ tokens_in (drop (first_blank (b ∷ r)) (b ∷ r))
tokens_front b r e =
    rw (e, split_place is_blank r) (ap (λ (ts : List (List ℕ)). (b ∷ take (first_blank r) r) ∷ ts) (behind_tokens r))

first_token : (line rest : List ℕ) → rest ≡ drop (first_byte line) line → 0 < length rest →
    tokens_in line ≡ take (first_blank rest) rest ∷ tokens_in (drop (first_blank rest) rest)
first_token line [] e some = absurd (omega arith)
first_token line (b ∷ r) e some =
    tokens_skip line ∙ (ap tokens_in (sym e) ∙ tokens_front b r (first_kept line b r (sym e)))

blank_later : (line rest : List ℕ) → rest ≡ drop (first_byte line) line → 0 < length rest → 0 < first_blank rest
blank_later line [] e some = absurd (omega arith)
blank_later line (b ∷ r) e some = let kept = first_kept line b r (sym e) in rw kept (omega arith)

abbrev start_of : List ℕ → ℕ
start_of line = position_or_len (λ byte. not (is_blank byte)) line

from_start : (line rest : List ℕ) → rest ≡ drop (start_of line) line → rest ≡ drop (first_byte line) line
from_start line rest e = rw (place_is (λ byte. not (is_blank byte)) line) e

-- the first token of a line, and the line behind it
pub token_first : (line rest : List ℕ) → rest ≡ drop (position_or_len (λ byte. not (is_blank byte)) line) line →
    0 < length rest → tokens_in line ≡ take (position_or_len is_blank rest) rest
    ∷ tokens_in (drop (position_or_len is_blank rest) rest)
token_first line rest e some = rw (← place_is is_blank rest) (first_token line rest (from_start line rest e) some)

-- the first token has a byte
pub first_blank_later : (line rest : List ℕ) → rest ≡ drop (position_or_len (λ byte. not (is_blank byte)) line) line →
    0 < length rest → 0 < position_or_len is_blank rest
first_blank_later line rest e some = rw (← place_is is_blank rest) (blank_later line rest (from_start line rest e) some)

pub no_token : (line rest : List ℕ) → rest ≡ drop (position_or_len (λ byte. not (is_blank byte)) line) line →
    rest ≡ [] → tokens_in line ≡ []
no_token line rest e none = tokens_skip line ∙ ap tokens_in (sym (from_start line rest e) ∙ none)
