-- Each clause is a theorem.
use Rattle.kept_rows.proofs.KeptActs.{parts_kept, window_kept}
use Rattle.kept_rows.proofs.KeptAnswers.{decide_kept}
use Rattle.kept_rows.proofs.KeptEdges.{edge_from, edge_to}
use Rattle.kept_rows.proofs.KeptGains.{edge_next, events_kept, gains_kept}
use Rattle.kept_rows.proofs.kept_rows_are_enough.Goals as goal

pub returns : goal.returns
returns c = record {
  decisions = decide_kept;
  windows = window_kept;
  parts = parts_kept;
  events = events_kept;
  edges = record { from = edge_from; to = edge_to; next = edge_next };
  gains = gains_kept;
}
