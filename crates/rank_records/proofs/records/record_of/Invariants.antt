use Rattle.std.proofs.Common.{◌≡◌, map}
use Rattle.std.specs.Prelude.{take}
use Rattle.std.specs.List.{filter, flat_map}
use Rattle.rma_types.specs.declared.schedules.Delay.TheVariants.{Seeded}
use Rattle.lawful_runs.specs.Accesses.{issued_from}
use Rattle.lawful_runs.specs.LawfulRun.{rank_in}
use Rattle.lawful_runs.specs.Logs.{calls_of, is_some_entry, log_of, named_in}
use Rattle.lawful_runs.specs.Stages.{known_at}
use Rattle.order_rules.specs.CallSteps.{issued_access, steps_of_item}
use Rattle.rank_records.specs.Kept.{EachKept, IsKeptAccess, IsKeptStep, entry_kept}
use Rattle.rank_records.specs.Tables.{StandsFor}
use Rattle.rank_records.proofs.records.record_of.Given as goal

-- the tables stand for what is known before the item, and what was before it is kept
abbrev pub invariant-loop-at : goal.invariant-loop-at
invariant-loop-at l = record {
  stands : StandsFor (known_at (rank_in l.script Seeded l.run l.rank) (take l.at (log_of l.run l.rank))) l.known;
  steps : EachKept (IsKeptStep l.script) l.steps
      (flat_map (steps_of_item l.script l.run) (named_in l.rank (take l.at (log_of l.run l.rank))));
  entries : flat_map entry_kept l.steps ≡ filter is_some_entry (named_in l.rank (take l.at (log_of l.run l.rank)));
  accesses : EachKept IsKeptAccess l.accesses
      (map (issued_access l.script l.run l.rank)
      (issued_from (calls_of l.script l.rank) 0 (take l.at (log_of l.run l.rank))));
}
