-- What is said of the reads of a run that was judged: MPI 3.1, section 11.7, in this project's profile.
use Rattle.std.specs.Prelude.{◌≡◌, Bool, List, []}
use Rattle.rma_types.specs.declared.accesses.Id.{Id}
use Rattle.rma_types.specs.declared.findings.Finding.{Finding}
use Rattle.rma_types.specs.declared.scripts.Script.{Script}
use Rattle.rma_record.specs.declared.runs.Run.{Run}
use Rattle.order_rules.specs.Before.{IsOrder}
use Rattle.order_rules.specs.OrderedReads.{ReadsInOrder}

-- each get and each load reads what the updates that the order of the run puts before it leave
abbrev pub AreReadsOrdered : Script → Run → Type 0
AreReadsOrdered script run = (before : Id → Id → Bool) × IsOrder script run before × ReadsInOrder script run before

-- so it is where these findings are none
abbrev pub AreReadsOrderedIfNone : Script → Run → List Finding → Type 0
AreReadsOrderedIfNone script run found = found ≡ [] → AreReadsOrdered script run
