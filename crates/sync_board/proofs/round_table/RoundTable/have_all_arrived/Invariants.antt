use Rattle.std.proofs.Common.{◌≡◌, ℕ, ◌<◌, leb, length, true}
use Rattle.sync_board.specs.Sides.{Done}
use Rattle.sync_board.specs.Rounds.{arrivals_by}
use Rattle.sync_board.specs.Tables.{KeepsRounds}
use Rattle.sync_board.proofs.round_table.RoundTable.have_all_arrived.Given as goal

abbrev pub invariant-loop-other : goal.invariant-loop-other
invariant-loop-other l = (done_of : ℕ → Done) (k : ℕ) → KeepsRounds done_of l.self.rounds.items → k < l.other →
    leb l.begun (length (arrivals_by l.kind (done_of k))) ≡ true
