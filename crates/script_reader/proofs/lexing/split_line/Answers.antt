use Rattle.std.proofs.Common.{◌≡◌, ◌≤◌, ◌<◌, ◌-◌, ◌==◌, ℕ, List, [], ◌∷◌, length, take, drop, arith}
use Rattle.std.specs.List.{position_or_len}
use Rattle.std.proofs.lemmas.Grind.{common_steps}
use Rattle.script_language.specs.Lines.{lines_of}
use Rattle.script_reader.proofs.Cuts.{split_front, pieces_behind}
use Rattle.script_reader.proofs.lexing.split_line.Goals as goal

-- the first line, and what stands behind it
cut : (text line rest : List ℕ) → line ≡ take (position_or_len (λ byte. byte == 10) text) text →
    rest ≡ drop (position_or_len (λ byte. byte == 10) text) text → lines_of text ≡ line
    ∷ pieces_behind (λ byte. byte == 10) rest
cut text line rest first last = rw (first, last) (split_front (λ byte. byte == 10) text)

ends : (text line rest : List ℕ) → length rest < 1 → lines_of text ≡ line ∷ pieces_behind (λ byte. byte == 10) rest →
    lines_of text ≡ line ∷ []
ends text line [] none e = e
ends text line (b ∷ rest) none e = absurd (omega arith)

goes_on : (text line rest : List ℕ) → 1 ≤ length rest → lines_of text ≡ line ∷ pieces_behind (λ byte. byte == 10) rest →
    lines_of text ≡ line ∷ lines_of (take (length rest - 1) (drop 1 rest))
goes_on text line [] some e = absurd (omega arith)
goes_on text line (b ∷ rest) some e =
    let whole : take (length (b ∷ rest) - 1) (drop 1 (b ∷ rest)) ≡ rest = grind (arith, common_steps) in rw whole e

pub returns-in-empty-clause-lines : goal.returns-in-empty-clause-lines
returns-in-empty-clause-lines c =
    let n = c.line_end.ensures.value in
    let first = rw n at c.split_at.ensures.front in
    let last = rw n at c.split_at.ensures.back in
    ends c.args.text.now c.split_at.result.0.now c.split_at.result.1.now (omega arith)
    (cut c.args.text.now c.split_at.result.0.now c.split_at.result.1.now first last)

pub returns-in-len1-up-clause-lines : goal.returns-in-len1-up-clause-lines
returns-in-len1-up-clause-lines c =
    let n = c.line_end.ensures.value in
    let first = rw n at c.split_at.ensures.front in
    let last = rw n at c.split_at.ensures.back in
    goes_on c.args.text.now c.split_at.result.0.now c.split_at.result.1.now (omega arith)
    (cut c.args.text.now c.split_at.result.0.now c.split_at.result.1.now first last)
