-- No other number than the one that is tried can follow the letter.
use Rattle.std.proofs.Common.{◌≡◌, ℕ, ◌∷◌, ◌<◌, ◌≤◌, List, Bool, true, drop, sym, ◌∙◌}
use Rattle.std.specs.Fmt.{decimal}
use Rattle.std.specs.Str.{bytes_eq}
use Rattle.script_reader.proofs.Numbered.{only_one, none_past, none_passes, only_numbered}
use Rattle.script_reader.proofs.words.numbered.Goals as goal
use Rattle.script_reader.proofs.words.numbered.Goals.{else-number-limit-via-then-number-limit+else-is_name}
use Rattle.script_reader.proofs.words.numbered.Goals.{else-number-limit-via-else-number-limit}

only : (letter : ℕ) (token rest : List ℕ) (c : ℕ) → rest ≡ drop 1 token →
    ((n : ℕ) → n < 100 → decimal n ≡ rest → c ≡ n) → (limit : ℕ) → limit ≤ 100 →
    (k : ℕ) → k < limit → bytes_eq (letter ∷ decimal k) token ≡ true → k ≡ c
only letter token rest c same number limit few k within e =
    only_numbered letter token c (λ n below text. number n below (text ∙ sym same)) limit few k within e

pub returns-then-is_name : goal.returns-then-is_name
returns-then-is_name c = sym (only_one (λ n. bytes_eq (c.args.letter ∷ decimal n) c.args.token.now) c.args.limit
    c.short_number-number.result c.if-number-limit.true (sym c.is_name.ensures ∙ c.if-is_name.true)
    (only c.args.letter c.args.token.now c.behind_first.result.now c.short_number-number.result c.behind_first.ensures
    c.short_number-number.ensures.number c.args.limit c.requires))

pub returns-else-number-limit : goal.returns-else-number-limit
returns-else-number-limit c =
    let one = only c.args.letter c.args.token.now c.behind_first.result.now c.short_number-number.result
    c.behind_first.ensures c.short_number-number.ensures.number c.args.limit c.requires in
    let test : ℕ → Bool = λ n. bytes_eq (c.args.letter ∷ decimal n) c.args.token.now in
    elim c.else-number-limit.branch [
      | else-number-limit-via-then-number-limit+else-is_name w ↦ sym (none_passes test c.args.limit
          c.short_number-number.result (sym w.is_name.ensures ∙ w.if-is_name.false) one)
      | else-number-limit-via-else-number-limit w ↦ sym (none_past test c.args.limit c.short_number-number.result
          w.if-number-limit.false one)
    ]
