-- The points of what is kept stand for all.
use Rattle.std.proofs.Common.{◌≡◌, List, sym, subst, ◌∙◌}
use Rattle.std.specs.Prelude.{IfOk, map}
use Rattle.std.proofs.lemmas.Result.{IfOk-weaker}
use Rattle.rma_types.specs.declared.scripts.Script.{Script}
use Rattle.order_rules.specs.Findings.{judged_accesses}
use Rattle.vector_clocks.specs.Marks.{before_in}
use Rattle.rank_records.specs.declared.kept.RankRecord.{RankRecord}
use Rattle.first_points.specs.Alike.{AreAlike, judged_by, names_of}
use Rattle.first_points.specs.KeptPoints.{AllAscending, kept_accesses, with_points}
use Rattle.first_points.proofs.DoneParts.{IsJudgedRun}
use Rattle.first_points.proofs.KeptParts.{accesses_kept, records_ascend, steps_kept}
use Rattle.first_points.proofs.VisibleParts.{all_alike}
use Rattle.first_points.proofs.run_points.judged_points.Goals as goal

pub searches_of-requires : goal.searches_of-requires
searches_of-requires c = subst (λ (records : List RankRecord). AllAscending records) (sym c.as_slice.ensures.value)
    (records_ascend c.args.recorded.now.script.now c.args.recorded.now.run.now c.args.recorded.now.ranks.items c.requires.recorded.ranks
    c.requires.recorded.lawful.ranks c.requires.recorded.each)

pub returns : goal.returns
returns c =
    let judged : IsJudgedRun c.args.recorded.now.script.now c.args.recorded.now.run.now (before_in c.args.clocks.now) = record {
      formed = c.requires.recorded.formed;
      lawful = c.requires.recorded.lawful;
      order = c.requires.order;
      arrivals = c.arrivals_stand_for_leaves.ensures.stand;
      completes = c.completes_lead_to_first_waits.ensures.waits;
      waits = c.completes_lead_to_first_waits.ensures.first;
    } in
    let alike = all_alike c.args.recorded.now.script.now c.args.recorded.now.run.now (before_in c.args.clocks.now) judged
    c.args.recorded.now.ranks.items
    (steps_kept c.args.recorded.now.script.now c.args.recorded.now.run.now c.args.recorded.now.ranks.items c.requires.recorded.ranks
    c.requires.recorded.lawful.ranks c.requires.recorded.each) c.args.model
    (kept_accesses c.args.recorded.now.ranks.items)
    (accesses_kept c.args.recorded.now.script.now c.args.recorded.now.run.now c.args.recorded.now.ranks.items c.requires.recorded.ranks
    c.requires.recorded.each) in
    IfOk-weaker c.all_points.result
    (λ list. map judged_by list.items
    ≡ map (with_points c.args.recorded.now.script.now c.args.recorded.now.ranks.items (before_in c.args.clocks.now) c.args.model)
    (kept_accesses c.args.recorded.now.ranks.items))
    (λ list. AreAlike (before_in c.args.clocks.now) (names_of (map judged_by list.items)) (map judged_by list.items)
    (judged_accesses c.args.recorded.now.script.now c.args.recorded.now.run.now c.args.model (before_in c.args.clocks.now)))
    (λ list same. subst (λ accesses. AreAlike (before_in c.args.clocks.now) (names_of accesses) accesses
    (judged_accesses c.args.recorded.now.script.now c.args.recorded.now.run.now c.args.model (before_in c.args.clocks.now))) (sym same) alike)
    (subst (λ (script : Script). IfOk c.all_points.result (λ list. map judged_by list.items
    ≡ map (with_points script c.args.recorded.now.ranks.items (before_in c.args.clocks.now) c.args.model)
    (kept_accesses c.args.recorded.now.ranks.items))) c.in_ok-searches.ensures.script
    (subst (λ (records : List RankRecord). IfOk c.all_points.result (λ list. map judged_by list.items
    ≡ map (with_points c.in_ok-searches.searches.script.now records (before_in c.args.clocks.now) c.args.model)
    (kept_accesses records))) (c.in_ok-searches.ensures.records ∙ c.as_slice.ensures.value) c.all_points.ensures))
