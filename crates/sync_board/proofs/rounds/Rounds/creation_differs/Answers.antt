use Rattle.std.proofs.Common.{◌≡◌, ◌∙◌, ap, sym, false, not, Some, None}
use Rattle.std.specs.Prelude.{slice_get}
use Rattle.std.specs.Option.{option_map_or}
use Rattle.list_laws.proofs.Lists.{past_end}
use Rattle.rank_rules.specs.Windows.{is_same_flavor}
use Rattle.board_rules.specs.Rounds.{is_differing_creation}
use Rattle.sync_board.specs.Rounds.{flavor_in}
use Rattle.sync_board.proofs.Differs.{any_arrival, creation_by_flavor, slice_get_at}
use Rattle.sync_board.proofs.rounds.Rounds.creation_differs.Goals as goal

pub returns-in-Some : goal.returns-in-Some
returns-in-Some c = λ d kept.
    let found : Some c.in-Some.other.now ≡ slice_get c.args.self.now.created.items c.args.round =
    ap Some (c.in-Some.ensures.lookup.3.1 c.in-Some.other.now)
    ∙ (sym (slice_get_at c.deref.result.now c.args.round c.in-Some.other.now c.in-Some.ensures.lookup.3.0)
    ∙ ap (λ xs. slice_get xs c.args.round) c.deref.ensures.value) in
    c.is_other.ensures
    ∙ (ap (λ o. option_map_or (λ f. not (is_same_flavor c.args.flavor f)) o false) found
    ∙ any_arrival flavor_in (λ f. not (is_same_flavor c.args.flavor f)) (is_differing_creation c.args.flavor)
    (creation_by_flavor c.args.flavor) c.args.self.now.created.items d.creations kept.created c.args.round)

pub returns-in-None : goal.returns-in-None
returns-in-None c = λ d kept.
    let missing : None ≡ slice_get c.args.self.now.created.items c.args.round =
    sym (past_end c.deref.result.now c.args.round c.in-None.ensures.lookup.3)
    ∙ ap (λ xs. slice_get xs c.args.round) c.deref.ensures.value in
    ap (λ o. option_map_or (λ f. not (is_same_flavor c.args.flavor f)) o false) missing
    ∙ any_arrival flavor_in (λ f. not (is_same_flavor c.args.flavor f)) (is_differing_creation c.args.flavor)
    (creation_by_flavor c.args.flavor) c.args.self.now.created.items d.creations kept.created c.args.round
