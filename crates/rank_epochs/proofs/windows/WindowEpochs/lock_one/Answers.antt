-- A target that may be locked finds room among the others, and is none of them.
use Rattle.std.proofs.Common.{rules, ◌≡◌, ◌<◌, ℕ, List, ◌∷◌, [], ◌++◌, ◌∙◌, ap, subst, sym, length, true, lit<}
use Rattle.std.specs.Prelude.{Some}
use Rattle.call_rules.specs.Ranks.{natural}
use Rattle.rank_rules.specs.Epochs.{Epochs, may_lock, targets_locked}
use Rattle.rank_epochs.specs.Distinct.{are_distinct_ranks}
use Rattle.rank_epochs.specs.Views.{access_of}
use Rattle.rank_epochs.proofs.DistinctRanks.{room_for_lock, distinct_after_lock}
use Rattle.rank_epochs.proofs.windows.WindowEpochs.lock_one.Goals as goal

pub push-requires : goal.push-requires
push-requires c =
    let access = access_of c.self.inside.access in
    let may : may_lock access (Some c.args.target) ≡ true =
    subst (λ (e : Epochs). may_lock e.access (Some c.args.target) ≡ true) (sym c.self.view_is) c.requires.free in
    let same : c.into_targets-targets.result.items ≡ targets_locked access =
    c.into_targets-targets.ensures ∙ ap (λ a. targets_locked (access_of a)) c.replace.ensures.value in
    let room : length (targets_locked access) < 16 =
    room_for_lock access c.args.target c.self.invariant may c.requires.rank in
    (lit< tt, subst (λ (items : List ℕ). length items < 16) (sym same) room)

pub invariant_of-self : goal.invariant_of-self
invariant_of-self c =
    let access = access_of c.self.inside.access in
    let may : may_lock access (Some c.args.target) ≡ true =
    subst (λ (e : Epochs). may_lock e.access (Some c.args.target) ≡ true) (sym c.self.view_is) c.requires.free in
    let same : c.into_targets-targets.result.items ≡ targets_locked access =
    c.into_targets-targets.ensures ∙ ap (λ a. targets_locked (access_of a)) c.replace.ensures.value in
    let distinct : are_distinct_ranks (targets_locked access ++ natural c.args.target ∷ []) ≡ true =
    distinct_after_lock access c.args.target c.self.invariant may c.requires.rank in
    let pushed : c.push.new.self.items ≡ targets_locked access ++ natural c.args.target ∷ [] = search rules in
    subst (λ (items : List ℕ). are_distinct_ranks items ≡ true) (sym pushed) distinct
