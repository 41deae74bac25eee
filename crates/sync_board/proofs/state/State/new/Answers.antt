use Rattle.std.proofs.Common.{ℕ, [], refl, arith}
use Rattle.sync_board.specs.Sides.{done}
use Rattle.sync_board.specs.Windows.{IsUntouched}
use Rattle.rank_rules.specs.Windows.{window_number}
use Rattle.sync_board.proofs.state.State.new.Goals as goal

untouched : (ranks window : ℕ) → IsUntouched ranks window []
unfolding done
untouched ranks window = record {
  sides = λ rank. record { posts = refl; starts = refl; completes = refl; waits = refl };
  rounds = λ rank. record { creations = refl; frees = refl; fences = refl };
  held = refl;
  ranges = λ rank. refl;
  arrivals = λ rank. refl;
}

pub returns : goal.returns
returns c = λ layout ranks. record {
  begun = record {
    counted = λ rank name below. rw c.new-creations.ensures.items refl;
    small = λ index. rw c.new-creations.ensures.items (omega arith);
  };
  met = λ rank. rw c.new-barriers.ensures.items refl;
  windows = c.new-windows.ensures layout ranks [] (λ name round. untouched ranks (window_number round name));
}
