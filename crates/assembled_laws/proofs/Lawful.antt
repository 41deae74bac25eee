-- An assembled run is lawful.
use Rattle.assembled_laws.proofs.DelayLaws.{delays_are_kept}
use Rattle.call_laws.proofs.CallLaws.{calls_are_lawful}
use Rattle.rank_laws.proofs.BoardLaws.{logs_of_ranks, board_is_lawful}
use Rattle.rank_laws.proofs.CellLaws.{cells_are_lawful}
use Rattle.rank_laws.proofs.EndMoves.{runs_end_alike}
use Rattle.rank_laws.proofs.Lawful.{touches_are_lawful, look_ups_are_followed}
use Rattle.rank_laws.specs.Lawful.{AssembledRunsAreLawful}

pub runs_are_lawful : AssembledRunsAreLawful
runs_are_lawful script delay seed run is = record {
  ranks = logs_of_ranks script delay seed run is;
  cells = cells_are_lawful script delay seed run is;
  board = board_is_lawful script delay seed run is;
  logs = λ rank inside.
      let touches = touches_are_lawful script delay seed run is rank inside in record {
        calls = calls_are_lawful script delay seed run is rank inside;
        look_ups = look_ups_are_followed script delay seed run is rank inside;
        touches = touches.touches;
        issues = touches.issues;
        local_direct = touches.local_direct;
        order = touches.order;
        awaited = touches.awaited;
        delay = delays_are_kept script delay seed run is rank inside;
      };
  ended = runs_end_alike script delay seed run is;
}
