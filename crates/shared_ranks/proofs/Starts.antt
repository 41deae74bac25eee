-- A new rank is one of its run.
use Rattle.std.proofs.Common.{◌≡◌, ℕ, [], refl, sym, ap, subst}
use Rattle.board_turns.specs.Places.{Place}
use Rattle.call_rules.specs.declared.cells.Cell.{Cell}
use Rattle.cell_face.specs.Faces.{Face}
use Rattle.rank_engine.specs.DataAnswers.{HasRoom}
use Rattle.rank_engine.specs.RankStates.{RankState}
use Rattle.rank_histories.proofs.Going.{between_first}
use Rattle.rank_histories.proofs.Recording.{recorded_first}
use Rattle.shared_ranks.specs.declared.standings.Standing.TheVariants.{Going}
use Rattle.shared_ranks.specs.Ranks.{BeginsAsRank, IsGoing, IsStanding, RankNow, stage_in}

pub begins_as_rank : {X : Type 0} (face_of : X → Face) (knows_of : X → ℕ → Cell → Type 0) (now : RankNow X) →
    now.standing ≡ Going → BeginsAsRank face_of knows_of now
begins_as_rank face_of knows_of now going run new =
    let face = face_of now.memory in
    let knows = knows_of now.memory in
    record {
      seated = record {
        at_rest = record {
          at_turn = ap (λ (p : Place). p.turn) new.seat;
          rests = ap (λ (p : Place). p.holds) new.seat;
        };
        its = ap (λ (p : Place). p.number) new.seat;
      };
      board = new.board;
      stands = subst (λ s. IsStanding s run now.state now.seat.known face knows) (sym going)
          (subst (λ (p : Place). IsGoing run now.state p.known face knows) (sym new.seat)
          (subst (λ (s : RankState). IsGoing run s [] face knows) (sym new.state) (record {
            stage = refl;
            cells = new.cells;
            room = subst (λ (s : RankState). HasRoom s face) new.state new.room;
            own = refl;
            among = between_first (stage_in run) run.seed run.number face new.lows;
            recorded = recorded_first (stage_in run) run.seed run.number face knows new.updates;
          })));
    }
