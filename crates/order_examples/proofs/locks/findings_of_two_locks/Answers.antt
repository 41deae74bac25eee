-- Each run and its order are computed.
use Rattle.std.specs.Prelude.{refl}
use Rattle.step_runs.specs.StepRun.{step_run}
use Rattle.order_rules.specs.Findings.{findings}
use Rattle.order_examples.specs.Locks.{FindsNoneAfterASharedUnlock, FindsPutsUnderSharedLocks}
use Rattle.order_examples.proofs.locks.findings_of_two_locks.Goals as goal

exclusive : FindsNoneAfterASharedUnlock
unfolding step_run findings
exclusive = refl

shared : FindsPutsUnderSharedLocks
unfolding step_run findings
shared = refl

pub returns : goal.returns
returns c = record { exclusive = exclusive; shared = shared }
