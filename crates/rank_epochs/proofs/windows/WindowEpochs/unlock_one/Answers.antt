-- The targets that are left are distinct.
use Rattle.std.proofs.Common.{◌≡◌, ◌==◌, not, ℕ, List, filter, ◌∙◌, ap, subst, sym, true}
use Rattle.rank_rules.specs.Epochs.{targets_locked}
use Rattle.rank_epochs.specs.Distinct.{are_distinct_ranks}
use Rattle.rank_epochs.specs.Views.{access_of}
use Rattle.rank_epochs.proofs.DistinctRanks.{distinct_after_unlock}
use Rattle.rank_epochs.proofs.windows.WindowEpochs.unlock_one.Goals as goal

pub invariant_of-self : goal.invariant_of-self
invariant_of-self c =
    let access = access_of c.self.inside.access in
    let target = c.natural.result in
    let same : c.into_targets-targets.result.items ≡ targets_locked access =
    c.into_targets-targets.ensures ∙ ap (λ a. targets_locked (access_of a)) c.replace.ensures.value in
    let left = c.others-targets.ensures ∙ ap (filter (λ (one : ℕ). not (one == target))) same in
    subst (λ (items : List ℕ). are_distinct_ranks items ≡ true) (sym left)
    (distinct_after_unlock access target c.self.invariant)
