-- Each clause is a theorem.
use Rattle.rank_laws.proofs.BoardLaws.{board_is_lawful}
use Rattle.rank_laws.proofs.CellLaws.{cells_are_lawful}
use Rattle.rank_laws.proofs.EndMoves.{runs_end_alike}
use Rattle.rank_laws.proofs.Lawful as theorems
use Rattle.rank_laws.proofs.assembled_runs_are_lawful_by_parts.Goals as goal

pub returns : goal.returns
returns c = record {
  boards = board_is_lawful;
  cells = cells_are_lawful;
  ends = runs_end_alike;
  look_ups = theorems.look_ups_are_followed;
  touches = theorems.touches_are_lawful;
  undelayed = theorems.undelayed_is_direct;
}
