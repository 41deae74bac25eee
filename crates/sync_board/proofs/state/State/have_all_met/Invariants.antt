use Rattle.std.proofs.Common.{◌≡◌, ℕ, ◌<◌, leb, length, true, List}
use Rattle.board_rules.specs.Entries.{Barrier, Row, acts, arrivals}
use Rattle.sync_board.specs.Counted.{KeepsBarriers}
use Rattle.sync_board.proofs.state.State.have_all_met.Given as goal

abbrev pub invariant-loop-other : goal.invariant-loop-other
invariant-loop-other l = (rows : List Row) (k : ℕ) → KeepsBarriers rows l.self.barriers.items → k < l.other →
    leb l.begun (length (arrivals (acts rows) Barrier k 0)) ≡ true
