use Rattle.std.proofs.Common.{◌≡◌, [], length, unwrap_or, Ok, Err, sym}
use Rattle.std.proofs.lemmas.Result.{err_from_is_err_and}
use Rattle.script_language.specs.Drafts.{added_to, repeat_calls}
use Rattle.script_reader.specs.Totals.{within_limits, totals_behind}
use Rattle.script_reader.proofs.Adding.{end_ok, end_err}
use Rattle.script_reader.proofs.Growing.{kept_below}
use Rattle.script_reader.proofs.readers.Reader.add_end.Goals as goal

pub returns-in_err-totals-clause-draft : goal.returns-in_err-totals-clause-draft
returns-in_err-totals-clause-draft c =
    let past : Err c.in_err-totals.field-0.0 ≡ within_limits
    (totals_behind c.args.self.now.totals (length c.args.self.now.draft.block)
    (unwrap_or c.args.self.now.draft.times 0) c.args.self.now.draft.inside) = rw
    (← c.len-ranks.ensures, ← c.unwrap_or-times.ensures, ← c.replace-inside.ensures.value, ← c.as_slice.ensures)
    c.in_err-totals.ensures in
    let p = err_from_is_err_and c.from_residual.result c.from_residual.ensures.1 in
    rw (p.1, p.2) (end_err c.args.self.now.draft c.args.fields c.args.self.now.totals c.in_err-totals.field-0.0
    c.requires.sound c.requires.totals past)

pub expand-requires : goal.expand-requires
expand-requires c =
    rw (c.as_slice-2.ensures, c.into_vec-lists.ensures, c.replace-lists.ensures.value)
    (kept_below c.args.self.now.draft.block c.args.self.now.draft.ranks (length c.args.self.now.draft.calls)
    (sym c.requires.sound.lists) c.requires.sound.block)

pub returns-clause-draft : goal.returns-clause-draft
returns-clause-draft c =
    let within : Ok c.in_ok-totals.totals ≡ within_limits
    (totals_behind c.args.self.now.totals (length c.args.self.now.draft.block)
    (unwrap_or c.args.self.now.draft.times 0) c.args.self.now.draft.inside) = rw
    (← c.len-ranks.ensures, ← c.unwrap_or-times.ensures, ← c.replace-inside.ensures.value, ← c.as_slice.ensures)
    c.in_ok-totals.ensures in
    let lists : c.from_vec.result ≡ added_to c.args.self.now.draft.block
    (repeat_calls (unwrap_or c.args.self.now.draft.times 0) c.args.self.now.draft.inside) c.args.self.now.draft.calls =
    cc c.in_ok-expand.ensures in
    let none : c.replace-inside.new.dest ≡ [] = cc in
    rw none (end_ok c.args.self.now.draft c.args.fields c.from_vec.result c.args.self.now.totals c.in_ok-totals.totals
    c.requires.sound c.requires.totals within lists).0

pub returns-clause-totals : goal.returns-clause-totals
returns-clause-totals c =
    let within : Ok c.in_ok-totals.totals ≡ within_limits
    (totals_behind c.args.self.now.totals (length c.args.self.now.draft.block)
    (unwrap_or c.args.self.now.draft.times 0) c.args.self.now.draft.inside) = rw
    (← c.len-ranks.ensures, ← c.unwrap_or-times.ensures, ← c.replace-inside.ensures.value, ← c.as_slice.ensures)
    c.in_ok-totals.ensures in
    let lists : c.from_vec.result ≡ added_to c.args.self.now.draft.block
    (repeat_calls (unwrap_or c.args.self.now.draft.times 0) c.args.self.now.draft.inside) c.args.self.now.draft.calls =
    cc c.in_ok-expand.ensures in
    (end_ok c.args.self.now.draft c.args.fields c.from_vec.result c.args.self.now.totals c.in_ok-totals.totals
    c.requires.sound c.requires.totals within lists).1
