use Rattle.std.proofs.Common.{◌≡◌, set, Some, Ok, Err}
use Rattle.std.proofs.lemmas.Result.{err_from_is_err_and}
use Rattle.call_rules.specs.Layout.{round_up}
use Rattle.script_reader.specs.Totals.{within_limits, totals_with}
use Rattle.script_reader.proofs.Adding.{space_ok, space_err}
use Rattle.script_reader.proofs.readers.Reader.add_space.Goals as goal

pub returns-in_err-totals-clause-draft : goal.returns-in_err-totals-clause-draft
returns-in_err-totals-clause-draft c =
    let past : Err c.in_err-totals.field-0.0 ≡ within_limits
    (totals_with c.args.self.now.totals 1 0 (round_up c.args.fields.room)) = rw (← c.space_size.ensures)
    c.in_err-totals.ensures in
    let p = err_from_is_err_and c.from_residual.result c.from_residual.ensures.1 in
    rw (p.1, p.2) (space_err c.args.self.now.draft c.args.fields c.args.self.now.totals c.in_err-totals.field-0.0
    c.requires.counted.sound c.requires.space c.requires.counted.totals past)

pub returns-clause-draft : goal.returns-clause-draft
returns-clause-draft c =
    let within : Ok c.in_ok-totals.totals ≡ within_limits
    (totals_with c.args.self.now.totals 1 0 (round_up c.args.fields.room)) = rw (← c.space_size.ensures)
    c.in_ok-totals.ensures in
    let spaces : c.from_vec.result ≡ set c.args.self.now.draft.spaces c.args.fields.owner (Some c.args.fields.room) = cc
    in
    (space_ok c.args.self.now.draft c.args.fields c.from_vec.result c.args.self.now.totals c.in_ok-totals.totals
    c.requires.counted.sound c.requires.space c.requires.counted.totals within spaces).0

pub returns-clause-totals : goal.returns-clause-totals
returns-clause-totals c =
    let within : Ok c.in_ok-totals.totals ≡ within_limits
    (totals_with c.args.self.now.totals 1 0 (round_up c.args.fields.room)) = rw (← c.space_size.ensures)
    c.in_ok-totals.ensures in
    let spaces : c.from_vec.result ≡ set c.args.self.now.draft.spaces c.args.fields.owner (Some c.args.fields.room) = cc
    in
    (space_ok c.args.self.now.draft c.args.fields c.from_vec.result c.args.self.now.totals c.in_ok-totals.totals
    c.requires.counted.sound c.requires.space c.requires.counted.totals within spaces).1
