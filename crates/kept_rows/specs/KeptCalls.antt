-- An entry as the board keeps it: its call without its values. This project's profile of MPI 3.1, section 11.5.
use Rattle.rma_types.specs.KeptCalls.{kept_call}
use Rattle.board_rules.specs.Entries.{Row}

-- an entry as the board keeps it
abbrev pub kept_row : Row → Row
kept_row row = record row { call = kept_call row.call }
