use Rattle.std.proofs.Common.{◌≡◌, ◌+◌, ◌*◌, ◌-◌, cond, refl, ap, sym, ◌∙◌, Some}
use Rattle.std.specs.Option.{option_map_or}
use Rattle.rma_types.specs.Actions.{window_of_call}
use Rattle.rank_rules.specs.Windows.{window_number}
use Rattle.board_rules.specs.Entries.{Row, creations, round_of}
use Rattle.sync_board.proofs.state.State.ask.Goals as goal

pub returns-in-Some-clause-after : goal.returns-in-Some-clause-after
returns-in-Some-clause-after c = λ rows kept.
    let row : Row = record { rank = c.args.rank; number = c.args.number; call = c.args.call.now; step = c.args.step } in
    let named : window_of_call c.args.call.now ≡ Some c.in-Some.name = sym c.window_named.ensures.name ∙ c.in-Some.is in
    record {
      window = ap (λ o. option_map_or (λ win. window_number (round_of rows row win) win) o 0) named
          ∙ ap (λ r. 32 * r + c.in-Some.name) (sym (c.round-round.ensures.value rows kept
          ∙ ap (λ b. cond b (creations rows c.args.rank c.in-Some.name) (creations rows c.args.rank c.in-Some.name - 1))
          (c.begins_window-begins.ensures c.args.rank c.args.number)));
      number = refl;
      below = rw c.in-Some.is at c.window_named.ensures.below;
      named = rw named refl;
    }
