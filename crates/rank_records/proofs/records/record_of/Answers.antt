-- Each item is kept with what the tables stand for, and teaches them.
use Rattle.std.proofs.Common.{◌≡◌, ◌≤◌, Some, ap, get_or, arith, length, rules, subst, sym, ◌∙◌}
use Rattle.std.specs.Prelude.{slice_get, slice_index_or}
use Rattle.std.specs.List.{flat_map}
use Rattle.std.proofs.lemmas.Option.{slice_get-get_or}
use Rattle.rma_record.proofs.ItemLaws.{no_item}
use Rattle.lawful_runs.specs.Logs.{log_of}
use Rattle.rank_records.specs.Kept.{IsKeptAccess, IsKeptStep, entry_kept}
use Rattle.rank_records.proofs.KeptEntries.{entries_at}
use Rattle.rank_records.proofs.WholeLogs.{accesses_at, all_kept, none_kept, stands_at, steps_at}
use Rattle.rank_records.proofs.Taught.{first_stands}
use Rattle.rank_records.proofs.records.record_of.Goals as goal

pub loop-at-init : goal.loop-at-init
loop-at-init c = record {
  stands = first_stands c.args.rank c.args.script.now.ranks (slice_index_or c.args.script.now.spaces c.args.rank 0)
      c.new-known.result c.new-known.ensures.numbers c.new-known.ensures.epochs c.new-known.ensures.makers;
  steps = none_kept (IsKeptStep c.args.script.now) c.new-steps.result c.new-steps.ensures;
  entries = ap (flat_map entry_kept) c.new-steps.ensures;
  accesses = none_kept IsKeptAccess c.new-accesses.result c.new-accesses.ensures;
}

pub loop-at-preserved : goal.loop-at-preserved
loop-at-preserved c =
    let items = c.log_at-items.result.now in
    let item = get_or items c.loop-at.at no_item in
    let e : slice_get (log_of c.args.run.now c.args.rank) c.loop-at.at ≡ Some item =
    ap (λ l. slice_get l c.loop-at.at) (sym c.log_at-items.ensures)
    ∙ slice_get-get_or items c.loop-at.at no_item c.loop-at-test.true in
    let index : c.in-Ok.index ≡ c.loop-at.at = first_of (search rules, grind (arith, c.in-Ok.ensures)) in
    record {
      stands = stands_at c.args.script.now c.args.run.now c.requires.formed c.args.rank c.loop-at.at item e
          c.loop-at.known c.loop-at.invariant.stands c.requires.lawful c.requires.within
          c.calls_at-calls.result.now c.calls_at-calls.ensures c.learn.new.known c.in_ok-learn.ensures;
      steps = steps_at c.args.script.now c.args.run.now c.requires.formed c.args.rank c.loop-at.at item e
          c.loop-at.known c.loop-at.invariant.stands c.loop-at.steps c.loop-at.invariant.steps
          c.calls_at-calls.result.now c.calls_at-calls.ensures c.in-Ok.index index
          c.step_of.result c.step_of.ensures c.push_step.new.steps c.in_ok-push_step.ensures;
      entries = entries_at c.args.script.now c.args.run.now c.requires.lawful c.args.rank c.loop-at.at item e
          c.loop-at.known c.loop-at.steps c.loop-at.invariant.entries
          c.calls_at-calls.result.now c.calls_at-calls.ensures c.in-Ok.index index
          c.step_of.result c.step_of.ensures c.push_step.new.steps c.in_ok-push_step.ensures;
      accesses = accesses_at c.args.script.now c.args.run.now c.requires.formed c.args.rank c.loop-at.at item e
          c.loop-at.known c.loop-at.invariant.stands c.loop-at.accesses c.loop-at.invariant.accesses
          c.calls_at-calls.result.now c.calls_at-calls.ensures c.in-Ok.index index
          c.access_of.result c.access_of.ensures c.push_access.new.accesses c.in_ok-push_access.ensures;
    }

pub returns : goal.returns
returns c =
    let past = subst (λ l. length l ≤ c.loop-at.at) c.log_at-items.ensures c.loop-at-test.false in
    all_kept c.args.script.now c.args.run.now c.args.rank c.loop-at.at
    (record { steps = c.loop-at.steps; accesses = c.loop-at.accesses }) past c.loop-at.invariant.steps
    c.loop-at.invariant.entries c.loop-at.invariant.accesses
