-- Each window has no epochs, and so has the list of all.
use Rattle.std.proofs.Common.{rules, arith, ◌≡◌, ◌<◌, ◌∙◌, sym, length, slice_index_or}
use Rattle.std.proofs.lemmas.List.{same_lists, get_or-replicate, length-replicate}
use Rattle.rank_rules.specs.Epochs.{no_epochs}
use Rattle.rank_epochs.proofs.state.EpochState.new.Goals as goal

pub returns : goal.returns
returns c =
    let long : length c.from_fn.result ≡ 32 = c.from_fn.ensures.items.long in
    same_lists _ _ (long ∙ sym (length-replicate 32 no_epochs)) (λ k d lt.
    let within : k < 32 = omega arith in
    let called = (c.from_fn.ensures.items.at k d within).2 in
    let is_none : slice_index_or c.from_fn.result k d ≡ no_epochs = search (rules, called) in
    is_none ∙ sym (get_or-replicate 32 k no_epochs d within))
