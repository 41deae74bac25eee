-- A rank that takes steps at a board, over a memory: what it needs of both, and what its steps leave of them.
use Rattle.std.specs.Prelude.{ℕ, ◌≡◌, ◌≢◌, List, [], length}
use Rattle.rma_types.specs.declared.scripts.Script.{Script}
use Rattle.call_rules.specs.Layout.{layout}
use Rattle.cell_face.specs.Faces.{Face}
use Rattle.cell_words.specs.Holders.{SharedCells, Passed, new_pass}
use Rattle.step_runs.specs.BoardSteps.{board_step}
use Rattle.sync_board.specs.Boards.{BoardState, rows_on}
use Rattle.rank_engine.specs.BoardAnswers.{AreGainsMet, IsBoardOf}
use Rattle.rank_engine.specs.DataAnswers.{HasRoom}
use Rattle.rank_engine.specs.RankStates.{RankState}

-- the pass has its share, and nothing was done or seen by it
abbrev pub IsNewPass : SharedCells → Passed → Type 0
IsNewPass cells pass = pass ≡ new_pass cells.table cells.init pass.view.share

-- a board of a script's run before its first entry
abbrev pub first_board : Script → (name : List ℕ) → BoardState
first_board script name = record { ranks = script.ranks; layout = layout script; name = name; entries = [] }

-- the board is one of the rank's run, and the memory has room for all that the rank still updates
pub record IsSeated (state : RankState) (board : BoardState) (face : Face) : Type 0 where
  pub of_run : IsBoardOf state board face
  pub room : HasRoom state face

-- each rank but this one has its board still
abbrev pub KeepsOthers : (rank : ℕ) → BoardState → BoardState → Type 0
KeepsOthers rank before after = (other : RankState) (face : Face) → other.agent.rank ≢ rank →
    IsBoardOf other before face → IsBoardOf other after face

-- the rank took steps, and both it and the others may take more
pub record GoesOn (before after : RankState) (board board_after : BoardState) (face_after : Face) : Type 0 where
  pub number : after.agent.rank ≡ before.agent.rank
  pub seated : IsSeated after board_after face_after
  pub others : KeepsOthers before.agent.rank board board_after

-- the rank took steps without the board, whichever board it has
abbrev pub GoesOnAlone : RankState → RankState → Face → Face → Type 0
GoesOnAlone before after face face_after = (board : BoardState) → IsSeated before board face →
    GoesOn before after board board face_after

-- what each entry that the rank's step puts gains of those before it is met
abbrev pub MeetsGains : RankState → BoardState → BoardState → Face → Type 0
MeetsGains before board board_after face_after = AreGainsMet (length board.entries) board_after
    (board_step before.stage before.agent (rows_on board)).rows face_after
