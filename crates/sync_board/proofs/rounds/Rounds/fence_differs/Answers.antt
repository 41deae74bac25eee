use Rattle.std.proofs.Common.{◌≡◌, ◌∙◌, ap, sym, false, Some, None}
use Rattle.std.specs.Prelude.{slice_get}
use Rattle.std.specs.Option.{option_map_or}
use Rattle.list_laws.proofs.Lists.{past_end}
use Rattle.board_rules.specs.Rounds.{do_asserts_differ, is_differing_fence}
use Rattle.sync_board.specs.Rounds.{asserts_in}
use Rattle.sync_board.proofs.Differs.{any_arrival, fence_by_asserts, slice_get_at}
use Rattle.sync_board.proofs.rounds.Rounds.fence_differs.Goals as goal

pub returns-in-Some : goal.returns-in-Some
returns-in-Some c = λ d kept.
    let found : Some c.in-Some.other.now ≡ slice_get c.args.self.now.fences.items c.args.round =
    ap Some (c.in-Some.ensures.lookup.3.1 c.in-Some.other.now)
    ∙ (sym (slice_get_at c.deref.result.now c.args.round c.in-Some.other.now c.in-Some.ensures.lookup.3.0)
    ∙ ap (λ xs. slice_get xs c.args.round) c.deref.ensures.value) in
    c.do_differ.ensures
    ∙ (ap (λ o. option_map_or (do_asserts_differ c.args.asserts) o false) found
    ∙ any_arrival asserts_in (do_asserts_differ c.args.asserts) (is_differing_fence c.args.asserts)
    (fence_by_asserts c.args.asserts) c.args.self.now.fences.items d.fences kept.fences c.args.round)

pub returns-in-None : goal.returns-in-None
returns-in-None c = λ d kept.
    let missing : None ≡ slice_get c.args.self.now.fences.items c.args.round =
    sym (past_end c.deref.result.now c.args.round c.in-None.ensures.lookup.3)
    ∙ ap (λ xs. slice_get xs c.args.round) c.deref.ensures.value in
    ap (λ o. option_map_or (do_asserts_differ c.args.asserts) o false) missing
    ∙ any_arrival asserts_in (do_asserts_differ c.args.asserts) (is_differing_fence c.args.asserts)
    (fence_by_asserts c.args.asserts) c.args.self.now.fences.items d.fences kept.fences c.args.round
