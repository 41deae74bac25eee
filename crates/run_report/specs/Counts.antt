-- What is counted of a run.
use Rattle.std.specs.Prelude.{Bool}
use Rattle.rma_record.specs.declared.items.Item.{Item}
use Rattle.lawful_runs.specs.Items.{is_issue, is_touch, is_entry, is_refused}
use Rattle.run_report.specs.declared.counts.Counted.{Counted}
use Rattle.run_report.specs.declared.counts.Counted.TheVariants.{Accesses, Touches, Entries, Refusals}

-- the items that are counted
abbrev pub test_of : Counted → Item → Bool
test_of Accesses = is_issue
test_of Touches = is_touch
test_of Entries = is_entry
test_of Refusals = is_refused
