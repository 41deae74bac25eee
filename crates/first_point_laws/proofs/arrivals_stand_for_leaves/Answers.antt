-- The clause is a theorem.
use Rattle.list_laws.proofs.Members.{contains_in, in_contains}
use Rattle.rma_types.specs.declared.schedules.Delay.TheVariants.{Seeded}
use Rattle.order_rules.specs.CallSteps.{steps_in}
use Rattle.read_laws.proofs.Steps.{step_is}
use Rattle.first_point_laws.proofs.Arrivals.{stands}
use Rattle.first_point_laws.specs.PointLaws.{ArrivalsStandForLeaves}
use Rattle.first_point_laws.proofs.arrivals_stand_for_leaves.Goals as goal

stand : ArrivalsStandForLeaves
stand script run formed lawful y of_run arrives id named other order =
    let member = contains_in (steps_in script run) y of_run in
    let one = stands script Seeded run lawful y (step_is script run member) arrives id named other order in
    (one.0, in_contains one.1, one.2, one.3)

pub returns : goal.returns
returns c = record { stand = stand }
