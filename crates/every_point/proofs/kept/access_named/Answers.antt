-- The access is one of the first rank that has one of its name.
use Rattle.std.proofs.Common.{◌≡◌, Some, None, ap, sym, ◌∙◌}
use Rattle.std.specs.Prelude.{slice_index_or}
use Rattle.std.specs.List.{find}
use Rattle.rank_records.specs.declared.kept.RankRecord.{RankRecord}
use Rattle.every_point.specs.Points.{is_named}
use Rattle.every_point.proofs.Named.{named_here, named_later}
use Rattle.every_point.proofs.kept.access_named.Goals as goal

pub returns-in-Some : goal.returns-in-Some
returns-in-Some c =
    let records = c.args.records.now in
    let at = c.loop-record.record-index in
    let one = c.record-item.result in
    let found : find (is_named c.args.id) (slice_index_or records at one).accesses ≡ Some c.in-Some.access =
    ap (λ (r : RankRecord). find (is_named c.args.id) r.accesses) (sym c.record-item.is)
    ∙ ap (find (is_named c.args.id)) (sym c.as_slice.ensures) ∙ sym c.access_among.ensures ∙ c.in-Some.is in
    sym (named_here c.args.id records at one c.in-Some.access c.loop-record-test.true found)
    ∙ c.loop-record.invariant

pub loop-record-preserved : goal.loop-record-preserved
loop-record-preserved c =
    let records = c.args.records.now in
    let at = c.loop-record.record-index in
    let one = c.record-item.result in
    let none : find (is_named c.args.id) (slice_index_or records at one).accesses ≡ None =
    ap (λ (r : RankRecord). find (is_named c.args.id) r.accesses) (sym c.record-item.is)
    ∙ ap (find (is_named c.args.id)) (sym c.as_slice.ensures) ∙ sym c.access_among.ensures ∙ c.in-None.is in
    sym (named_later c.args.id records at one c.loop-record-test.true none) ∙ c.loop-record.invariant
