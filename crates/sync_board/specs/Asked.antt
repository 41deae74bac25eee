-- A next entry, and what it is answered.
use Rattle.std.specs.Prelude.{◌≡◌, ℕ, ◌<◌, ◌≤◌, List, IfSome}
use Rattle.rma_types.specs.declared.scripts.Layout.{Layout}
use Rattle.rma_types.specs.declared.calls.Call.{Call}
use Rattle.rma_types.specs.Actions.{window_of_call}
use Rattle.rank_rules.specs.Windows.{window_number}
use Rattle.board_rules.specs.Board.{Decision, Refuse, Allow, NotYet}
use Rattle.board_rules.specs.Entries.{Row, window_of}
use Rattle.board_rules.specs.Questions.{Question}
use Rattle.sync_board.specs.Boards.{MayAsk, MayJudge}
use Rattle.sync_board.specs.declared.asked.Asked.{Asked}
use Rattle.sync_board.specs.declared.asked.Judged.{Judged}
use Rattle.sync_board.specs.declared.asked.Judged.TheVariants.{Refused, Allowed, NotYet as NotYetJudged}

-- the entry as a row
abbrev pub row_asked : Asked → Row
row_asked asked = record { rank = asked.rank; number = asked.number; call = asked.call.now; step = asked.step }

-- at most 16 ranks, and what is asked of an entry that is only judged
pub record MayBeJudged (asked : Asked) : Type 0 where
  pub few : asked.ranks ≤ 16
  pub may : MayJudge asked.ranks asked.rank asked.call.now asked.step

-- at most 16 ranks, and what is asked of a next entry
pub record MayBeAsked (layout : Layout) (asked : Asked) : Type 0 where
  pub few : asked.ranks ≤ 16
  pub may : MayAsk asked.ranks layout (row_asked asked)

-- the question is the one that the entry is
pub record IsQuestion (q : Question) (asked : Asked) : Type 0 where
  pub ranks : q.ranks ≡ asked.ranks
  pub rank : q.rank ≡ asked.rank
  pub call : q.call ≡ asked.call.now
  pub window : q.window ≡ asked.window

-- the name is that of the window that the call names, if it names one
abbrev pub names_its_window : ℕ → Call → Type 0
names_its_window name call = IfSome (window_of_call call) (λ named. named ≡ name)

-- the window is the one that the entry is on after the rows
pub record IsAfter (rows : List Row) (asked : Asked) : Type 0 where
  pub window : window_of rows (row_asked asked) ≡ asked.window
  pub number : asked.window ≡ window_number asked.round asked.name
  pub below : asked.name < 32
  pub named : names_its_window asked.name asked.call.now

abbrev pub decision_of : Judged → Decision
decision_of (Refused class) = Refuse class
decision_of Allowed = Allow
decision_of NotYetJudged = NotYet
