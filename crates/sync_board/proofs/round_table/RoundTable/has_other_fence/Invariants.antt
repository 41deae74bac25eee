use Rattle.std.proofs.Common.{◌≡◌, ℕ, ◌<◌, false}
use Rattle.std.specs.List.{list_any}
use Rattle.board_rules.specs.Rounds.{is_differing_fence}
use Rattle.sync_board.specs.Sides.{Done}
use Rattle.sync_board.specs.Rounds.{arrival_in}
use Rattle.sync_board.specs.Tables.{KeepsRounds}
use Rattle.sync_board.proofs.round_table.RoundTable.has_other_fence.Given as goal

abbrev pub invariant-loop-other : goal.invariant-loop-other
invariant-loop-other l = (done_of : ℕ → Done) (k : ℕ) → KeepsRounds done_of l.self.rounds.items → k < l.other →
    list_any (is_differing_fence l.asserts) (arrival_in (done_of k).fences l.round) ≡ false
