-- A line is its word with the tokens behind it.
use Rattle.std.proofs.Common.{◌≡◌, ℕ, zero, suc, ◌+◌, List, [], ◌∷◌, ◌++◌, refl, ap, sym, ◌∙◌, append_assoc}
use Rattle.std.specs.Prelude.{Result, Ok, Err, OnOk}
use Rattle.std.specs.List.{flat_map}
use Rattle.std.proofs.lemmas.List.{append-nil}
use Rattle.rma_types.specs.declared.calls.Call.{Call}
use Rattle.call_rules.specs.Text.{join_by_spaces, line}
use Rattle.script_language.specs.Calls.{no_fields}
use Rattle.script_language.specs.declared.forms.Form.TheVariants.{Space, Rank}
use Rattle.script_language.specs.Canon.{form_line, call_line, space_lines, rank_lines}
use Rattle.script_printer.specs.Printing.{behind_spaces}

-- a word and the tokens behind it
pub spaced_is : (word : List ℕ) (tokens : List (List ℕ)) → join_by_spaces (word ∷ tokens) ≡ word ++ behind_spaces tokens
spaced_is word [] = sym (append-nil word)
spaced_is word (token ∷ tokens) = ap (λ (rest : List ℕ). word ++ (32 ∷ rest)) (spaced_is token tokens)

-- the line of one space, and those behind it
pub spaces_next : (rank bytes : ℕ) (spaces : List ℕ) → space_lines rank (bytes ∷ spaces) ≡ space_lines rank
    (bytes ∷ []) ++ space_lines (rank + 1) spaces
spaces_next rank zero spaces = refl
spaces_next rank (suc bytes) spaces =
    let here : List ℕ = form_line Space (record no_fields { owner = rank; room = suc bytes }) in
    ap (λ (first : List ℕ). first ++ space_lines (rank + 1) spaces) (sym (append-nil here))

-- the block of one rank, and those behind it
pub ranks_next : (rank : ℕ) (calls : List Call) (lists : List (List Call)) →
    rank_lines rank (calls ∷ lists) ≡ rank_lines rank (calls ∷ []) ++ rank_lines (rank + 1) lists
ranks_next rank [] lists = refl
ranks_next rank (call ∷ calls) lists =
    let here : List ℕ = form_line Rank (record no_fields { members = rank ∷ [] }) ++ flat_map call_line
    (call ∷ calls) in
    ap (λ (first : List ℕ). first ++ rank_lines (rank + 1) lists) (sym (append-nil here))

-- a line that is written piece by piece
pub line_written : (old word : List ℕ) (tokens : List (List ℕ)) (first second third : List ℕ) → first ≡ old ++ word →
    second ≡ first ++ behind_spaces tokens → third ≡ second ++ 10 ∷ [] → third ≡ old
    ++ line (join_by_spaces (word ∷ tokens))
line_written old word tokens first second third one two three =
    three
    ∙ ap (λ (bytes : List ℕ). bytes ++ 10 ∷ []) (two ∙ ap (λ (bytes : List ℕ). bytes ++ behind_spaces tokens) one)
    ∙ ap (λ (bytes : List ℕ). bytes ++ 10 ∷ []) (append_assoc old word (behind_spaces tokens))
    ∙ append_assoc old (word ++ behind_spaces tokens) (10 ∷ [])
    ∙ ap (λ (bytes : List ℕ). old ++ (bytes ++ 10 ∷ [])) (sym (spaced_is word tokens))

-- three parts that are written one after the other
pub parts_written : {E : Type 0} (r : Result (Unit {0}) E) (old a b c first second third : List ℕ) → first ≡ old ++ a →
    second ≡ first ++ b → OnOk r (third ≡ second ++ c) → OnOk r (third ≡ old ++ (a ++ b ++ c))
parts_written (Ok x) old a b c first second third one two three =
    three
    ∙ ap (λ (bytes : List ℕ). bytes ++ c) (two ∙ ap (λ (bytes : List ℕ). bytes ++ b) one ∙ append_assoc old a b)
    ∙ append_assoc old (a ++ b) c
parts_written (Err e) old a b c first second third one two three = tt
