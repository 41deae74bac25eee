use Rattle.std.proofs.Common.{◌≡◌, [], ◌∷◌, length, false, Ok, Err, sym}
use Rattle.std.specs.Prelude.{is_some}
use Rattle.std.proofs.lemmas.Result.{err_from_is_err_and}
use Rattle.call_rules.specs.Layout.{call_bytes}
use Rattle.script_language.specs.Drafts.{added_to}
use Rattle.script_reader.specs.Totals.{within_limits, totals_with}
use Rattle.script_reader.proofs.Adding.{call_ok, call_err}
use Rattle.script_reader.proofs.Growing.{kept_below}
use Rattle.script_reader.proofs.readers.Reader.add_call.Goals as goal

pub returns-in_err-totals-clause-draft : goal.returns-in_err-totals-clause-draft
returns-in_err-totals-clause-draft c =
    let out : is_some c.args.self.now.draft.times ≡ false = cc in
    let past : Err c.in_err-totals.field-0.0 ≡ within_limits
    (totals_with c.args.self.now.totals (length c.args.self.now.draft.block) 1 (call_bytes c.args.call)) = rw
    (← c.len-ranks.ensures, ← c.call_size.ensures) c.in_err-totals.ensures in
    let p = err_from_is_err_and c.from_residual-in_err-totals.result c.from_residual-in_err-totals.ensures.1 in
    rw (p.1, p.2) (call_err c.args.self.now.draft c.args.call c.args.self.now.totals c.in_err-totals.field-0.0
    c.requires.sound out c.requires.totals past)

pub append-requires : goal.append-requires
append-requires c =
    rw (c.as_slice.ensures, c.into_vec-lists.ensures, c.replace-lists.ensures.value)
    (kept_below c.args.self.now.draft.block c.args.self.now.draft.ranks (length c.args.self.now.draft.calls)
    (sym c.requires.sound.lists) c.requires.sound.block)

pub returns-clause-draft : goal.returns-clause-draft
returns-clause-draft c =
    let out : is_some c.args.self.now.draft.times ≡ false = cc in
    let within : Ok c.in_ok-totals.totals ≡ within_limits
    (totals_with c.args.self.now.totals (length c.args.self.now.draft.block) 1 (call_bytes c.args.call)) = rw
    (← c.len-ranks.ensures, ← c.call_size.ensures) c.in_ok-totals.ensures in
    let lists : c.from_vec.result ≡ added_to c.args.self.now.draft.block (c.args.call ∷ []) c.args.self.now.draft.calls
    = cc c.in_ok-append.ensures in
    (call_ok c.args.self.now.draft c.args.call c.from_vec.result c.args.self.now.totals c.in_ok-totals.totals
    c.requires.sound out c.requires.totals within lists).0

pub returns-clause-totals : goal.returns-clause-totals
returns-clause-totals c =
    let out : is_some c.args.self.now.draft.times ≡ false = cc in
    let within : Ok c.in_ok-totals.totals ≡ within_limits
    (totals_with c.args.self.now.totals (length c.args.self.now.draft.block) 1 (call_bytes c.args.call)) = rw
    (← c.len-ranks.ensures, ← c.call_size.ensures) c.in_ok-totals.ensures in
    let lists : c.from_vec.result ≡ added_to c.args.self.now.draft.block (c.args.call ∷ []) c.args.self.now.draft.calls
    = cc c.in_ok-append.ensures in
    (call_ok c.args.self.now.draft c.args.call c.from_vec.result c.args.self.now.totals c.in_ok-totals.totals
    c.requires.sound out c.requires.totals within lists).1
