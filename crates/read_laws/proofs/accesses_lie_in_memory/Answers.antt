-- The clause is a theorem.
use Rattle.list_laws.proofs.Members.{contains_in}
use Rattle.order_rules.specs.CallSteps.{accesses_in}
use Rattle.read_laws.proofs.InMemory.{of_transfers}
use Rattle.read_laws.proofs.accesses_lie_in_memory.Goals as goal

pub returns : goal.returns
returns c script delay run formed lawful a listed =
    let one = of_transfers script delay run formed lawful a (contains_in (accesses_in script run) a listed) in
    (one.0, one.1.moves, one.1.lies)
