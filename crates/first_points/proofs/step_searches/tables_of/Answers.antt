-- Each table has the steps at which its accesses aim.
use Rattle.first_points.specs.declared.step_searches.RankTables.{RankTables}
use Rattle.first_points.proofs.TableSteps.{all_listed}
use Rattle.first_points.proofs.step_searches.tables_of.Goals as goal

pub returns-clause-steps : goal.returns-clause-steps
returns-clause-steps c =
    let tables : RankTables = record {
      kept = c.args.kept;
      fence_arrivals = c.in_ok-table_of.field-0;
      completes = c.in_ok-table_of-2.field-0;
      waits = c.in_ok-table_of-3.field-0;
      done_at_target = c.in_ok-table_of-4.field-0;
      done_at_origin = c.in_ok-table_of-5.field-0;
      taking_in = c.in_ok-table_of-6.field-0;
      giving_out = c.in_ok-table_of-7.field-0;
      request_ends = c.in_ok-table_of-8.field-0;
    } in
    record {
      order = c.requires;
      steps = all_listed c.args.script.now c.as_slice-steps.result.now tables c.as_slice-steps.ensures
          c.in_ok-table_of.ensures c.in_ok-table_of-2.ensures c.in_ok-table_of-3.ensures c.in_ok-table_of-4.ensures
          c.in_ok-table_of-5.ensures c.in_ok-table_of-6.ensures c.in_ok-table_of-7.ensures
          c.in_ok-table_of-8.ensures;
    }
