use Rattle.std.proofs.Common.{◌≡◌, None, Ok, unwrap_or, get_or, refl, sym, ap, ◌∙◌}
use Rattle.std.specs.Prelude.{slice_get}
use Rattle.std.proofs.lemmas.Option.{unwrap_or-slice_get}
use Rattle.script_language.specs.Tokens.{rank_read}
use Rattle.script_reader.proofs.numerals.owner.Goals as goal

-- a rank that has no space yet, also where the list ends before it
pub returns-in-None : goal.returns-in-None
returns-in-None c =
    let got : slice_get c.args.draft.now.spaces c.in_ok-rank.rank ≡ None = sym c.in-None.ensures.value in
    let none : get_or c.args.draft.now.spaces c.in_ok-rank.rank None ≡ None = sym
    (unwrap_or-slice_get c.args.draft.now.spaces c.in_ok-rank.rank None) ∙ ap (λ o. unwrap_or o None) got in
    let said : rank_read c.args.draft.now c.args.token.now ≡ Ok c.in_ok-rank.rank = sym c.in_ok-rank.ensures in
    rw (said, none) refl
