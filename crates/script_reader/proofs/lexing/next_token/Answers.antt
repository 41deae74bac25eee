use Rattle.std.proofs.Common.{◌≡◌, ◌<◌, ℕ, List, [], ◌∷◌, length, refl, arith}
use Rattle.std.proofs.lemmas.Grind.{common_steps}
use Rattle.script_reader.proofs.Cuts.{token_first, first_blank_later, no_token}
use Rattle.script_reader.proofs.lexing.next_token.Goals as goal

empty : (rest : List ℕ) → length rest ≡ 0 → rest ≡ []
empty [] e = refl
empty (b ∷ rest) e = absurd (omega arith)

pub returns-then-is_empty-clause-tokens : goal.returns-then-is_empty-clause-tokens
returns-then-is_empty-clause-tokens c =
    let rest = rw c.token_start.ensures.value at c.split_at.ensures.back in
    no_token c.args.line.now c.split_at.result.1.now rest (empty c.split_at.result.1.now (grind (arith, common_steps)))

pub returns-clause-tokens : goal.returns-clause-tokens
returns-clause-tokens c =
    let rest = rw c.token_start.ensures.value at c.split_at.ensures.back in
    let some : 0 < length c.split_at.result.1.now = grind (arith, common_steps) in
    let n = c.token_end.ensures.value in
    let front = rw n at c.split_at-2.ensures.front in
    let back = rw n at c.split_at-2.ensures.back in
    rw (front, back) (token_first c.args.line.now c.split_at.result.1.now rest some)

pub returns-clause-shorter : goal.returns-clause-shorter
returns-clause-shorter c =
    let rest = rw c.token_start.ensures.value at c.split_at.ensures.back in
    let some : 0 < length c.split_at.result.1.now = grind (arith, common_steps) in
    let later = first_blank_later c.args.line.now c.split_at.result.1.now rest some in
    let n = c.token_end.ensures.value in
    omega (arith, c.split_at.ensures.back_len, c.split_at-2.ensures.back_len)
