-- The steps of all ranks in tables.
use Rattle.std.specs.Prelude.{List, map}
use Rattle.std.specs.List.{All}
use Rattle.rma_types.specs.declared.scripts.Script.{Script}
use Rattle.rank_records.specs.declared.kept.RankRecord.{RankRecord}
use Rattle.first_points.specs.KeptPoints.{AreAscending}
use Rattle.first_points.specs.Keys.{AreListed, StepTable}
use Rattle.first_points.specs.declared.keys.Aim.{Aim}
use Rattle.first_points.specs.declared.keys.Aim.TheVariants.{Window, Request}
use Rattle.first_points.specs.declared.searches.Sought.TheVariants.{FenceArrival, Complete, Wait, AtTarget, AtOrigin}
use Rattle.first_points.specs.declared.searches.Sought.TheVariants.{TakingIn, GivingOut}
use Rattle.first_points.specs.declared.step_searches.RankTables.{RankTables}
use Rattle.first_points.specs.declared.step_searches.StepSearches.{StepSearches}

-- the table of the steps at which an access may aim
abbrev pub table_for : RankTables → Aim → StepTable
table_for r (Window FenceArrival) = r.fence_arrivals
table_for r (Window Complete) = r.completes
table_for r (Window Wait) = r.waits
table_for r (Window AtTarget) = r.done_at_target
table_for r (Window AtOrigin) = r.done_at_origin
table_for r (Window TakingIn) = r.taking_in
table_for r (Window GivingOut) = r.giving_out
table_for r Request = r.request_ends

-- the tables have the steps of the rank, which stand in the order of its log
pub record HasItsSteps (script : Script) (r : RankTables) : Type 0 where
  pub order : AreAscending r.kept.now.steps
  pub steps : (aim : Aim) → AreListed script aim r.kept.now.steps (table_for r aim)

-- what is kept of the ranks that are searched
abbrev pub searched : StepSearches → List RankRecord
searched s = map (λ (r : RankTables). r.kept.now) s.ranks.items

-- the tables of each rank have its steps
abbrev pub HaveTheirSteps : StepSearches → Type 0
HaveTheirSteps s = All (HasItsSteps s.script.now) s.ranks.items
