-- The clauses are theorems.
use Rattle.first_point_laws.proofs.Completes.{lead_to_waits}
use Rattle.first_point_laws.proofs.Leading.{led_to_first}
use Rattle.first_point_laws.proofs.completes_lead_to_first_waits.Goals as goal

pub returns-clause-waits : goal.returns-clause-waits
returns-clause-waits c = λ script run formed lawful a y x ends listed rank led.
    lead_to_waits script run formed lawful a y x ends listed rank led

pub returns-clause-first : goal.returns-clause-first
returns-clause-first c = λ script run formed lawful a y late ends waits order.
    led_to_first script run formed lawful a y late ends waits order
