-- The clause is a theorem.
use Rattle.read_laws.proofs.InMemory.{of_transfers}
use Rattle.read_laws.proofs.Orderly.{reads_in_order}
use Rattle.read_laws.proofs.reads_are_ordered.Goals as goal

pub returns : goal.returns
returns c script delay run formed lawful agree model before order none =
    reads_in_order script delay run formed lawful agree model before order none
    (of_transfers script delay run formed lawful)
