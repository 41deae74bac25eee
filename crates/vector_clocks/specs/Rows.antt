-- The row that the board has of an entry: this project's record of a run.
use Rattle.rma_types.specs.declared.calls.Call.{Call}
use Rattle.board_rules.specs.Entries.{Row}
use Rattle.vector_clocks.specs.declared.places.Placed.{Placed}

-- the board's row of an entry
abbrev pub row_placed : Placed → Call → Row
row_placed one call = record { rank = one.id.rank; number = one.call; call = call; step = one.step }
