-- What is said of the order of a small run, which is computed by clocks.
use Rattle.std.specs.Prelude.{ℕ, ◌≡◌, Bool, List}
use Rattle.rma_types.specs.declared.accesses.Id.{Id}
use Rattle.rma_types.specs.declared.findings.Finding.{Finding}
use Rattle.rma_types.specs.declared.findings.Model.TheVariants.{Separate}
use Rattle.rma_types.specs.declared.scripts.Script.{Script}
use Rattle.rma_record.specs.declared.runs.Run.{Run}
use Rattle.order_rules.specs.DonePoints.{done_points_of}
use Rattle.order_rules.specs.Findings.{findings}
use Rattle.order_rules.specs.OrderedReads.{ordered_read_of}
use Rattle.order_rules.specs.VisiblePoints.{visible_points_of}
use Rattle.clock_rules.specs.Clocks.{stamps_in, is_counted}

-- the item at an index of a rank's log
abbrev pub item : ℕ → ℕ → Id
item rank index = record { rank = rank; index = index }

-- the order of a run, by its clocks
abbrev pub order_of : Script → Run → Id → Id → Bool
order_of script run = is_counted (stamps_in script run)

-- these are the findings in the separate model
abbrev pub Finds : Script → Run → List Finding → Type 0
Finds script run found = findings script run Separate (order_of script run) ≡ found

-- the access is done at these items
abbrev pub IsDoneAt : Script → Run → Id → List Id → Type 0
IsDoneAt script run id points = done_points_of script run id ≡ points

-- the update is visible at these items, in the separate model
abbrev pub IsVisibleAt : Script → Run → Id → List Id → Type 0
IsVisibleAt script run id points = visible_points_of script run Separate (order_of script run) id ≡ points

-- the elements of the ordered read
abbrev pub ReadsOrdered : Script → Run → Id → List ℕ → Type 0
ReadsOrdered script run id elements = ordered_read_of script run (order_of script run) id ≡ elements
