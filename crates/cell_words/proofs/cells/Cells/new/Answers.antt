use Rattle.std.proofs.Common.{rules, ◌≡◌, ◌∙◌}
use Rattle.cell_words.proofs.Opening.{opened}
use Rattle.cell_words.proofs.cells.Cells.new.Goals as goal

pub of_words-requires : goal.of_words-requires
of_words-requires c =
    let init : c.in_ok-map_err.field-0.items ≡ c.args.init.now = search rules in
    let shares : c.in_ok-map_err-2.field-0.items ≡ c.args.shares.now = search rules in
    let words = c.as_slice.ensures.value ∙ c.in_ok-words.ensures in
    rw (init, shares, words) (opened c.args.init.now c.args.shares.now c.requires)
