use Rattle.std.proofs.Common.{◌≡◌, [], List, refl, sym, subst, arith}
use Rattle.kept_rows.specs.Gifts.{Given, rows_given}
use Rattle.entry_gains.specs.Gains.{Keeps}
use Rattle.sync_board.specs.Counted.{KeepsState}
use Rattle.sync_board.specs.Lists.{entries_in}
use Rattle.sync_board.proofs.board.Board.new.Goals as goal

pub invariant_of-result : goal.invariant_of-result
invariant_of-result g c =
    let none : entries_in g.N.Token.front c.new-list.result ≡ [] = rw c.new-list.ensures.rows refl in
    record {
      few = c.requires.few;
      layout_of = rw c.in-Ok.ensures c.requires.layout;
      sizes = rw (c.new-list.ensures.rows, c.new-list.ensures.kept) refl;
      short = rw c.new-list.ensures.rows (omega arith);
      done = subst (λ (es : List Given). KeepsState c.in-Ok.layout c.args.ranks (rows_given es) c.new-state.result)
          (sym none) (c.new-state.ensures c.in-Ok.layout c.args.ranks);
      given = subst (λ (es : List Given). Keeps g.N.Token.front c.args.ranks es c.new-gains.result)
          (sym none) c.new-gains.ensures.keeps;
      sound = rw (c.fork-copy.ensures.origin_stays, ← c.fork-copy.ensures.origin) c.new-gains.ensures.sound;
    }
