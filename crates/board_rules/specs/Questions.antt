-- What an entry asks the board: this project's profile of MPI 3.1, section 11.5.
use Rattle.std.specs.Prelude.{ℕ, List}
use Rattle.rma_types.specs.declared.calls.Call.{Call}
use Rattle.board_rules.specs.Entries.{Row, Act, acts, window_of}

-- the number of ranks, the entries before this one, its rank, its call, and the number of its window
pub record Question : Type 0 where
  pub ranks : ℕ
  pub entries : List Act
  pub rank : ℕ
  pub call : Call
  pub window : ℕ

-- the question that an entry is, after the entries before it
abbrev pub question : ℕ → List Row → Row → Question
question ranks before row = record {
  ranks = ranks;
  entries = acts before;
  rank = row.rank;
  call = row.call;
  window = window_of before row;
}
