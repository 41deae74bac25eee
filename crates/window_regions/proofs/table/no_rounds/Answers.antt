use Rattle.window_regions.proofs.RoundsMade.{none_made}
use Rattle.window_regions.proofs.table.no_rounds.Goals as goal

pub returns : goal.returns
returns c = none_made
