-- How a rank that has stopped delivers what is pending: this project's profile of MPI 3.1, section 11.7.
use Rattle.std.specs.Prelude.{ℕ, ◌≡◌}
use Rattle.call_rules.specs.declared.cells.Cell.{Cell}
use Rattle.call_rules.specs.Layout.{cells_of}
use Rattle.cell_face.specs.Faces.{Face, cell_count}
use Rattle.rank_engine.specs.RankStates.{RankState}
use Rattle.rank_histories.specs.Partly.{IsDrained, lows_of}
use Rattle.rank_histories.specs.Recorded.{IsRecorded}
use Rattle.shared_ranks.specs.Ranks.{RankNow, RunRank}

-- The rank stopped in this state, over a memory that had this face. Since then it delivers pending accesses, and does
-- nothing else; its memory tells what it touched.
pub record DeliversSince (run : RunRank) (stopped : RankState) (since : Face) (state : RankState) (face : Face)
    (knows : ℕ → Cell → Type 0) : Type 0 where
  pub stage : state.stage ≡ stopped.stage
  pub cells : cell_count face ≡ cells_of stopped.stage.layout
  pub drained : IsDrained state.opened stopped.stage stopped.agent (lows_of stopped.stage since) state.agent
      state.touched face knows
  pub recorded : IsRecorded stopped.stage run.number state.agent face knows

-- a rank that so delivers still does
abbrev pub KeepsDelivering : {X : Type 0} → (X → Face) → (X → ℕ → Cell → Type 0) → RankNow X → RankNow X → Type 0
KeepsDelivering face_of knows_of before after = (run : RunRank) (stopped : RankState) (since : Face) →
    DeliversSince run stopped since before.state (face_of before.memory) (knows_of before.memory) →
    DeliversSince run stopped since after.state (face_of after.memory) (knows_of after.memory)
