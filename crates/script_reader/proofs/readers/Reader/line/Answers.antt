use Rattle.std.proofs.Common.{◌≡◌, true, not, Result, Ok, Err, arith}
use Rattle.std.specs.Prelude.{OnOk}
use Rattle.std.proofs.lemmas.Bool.{leb-true}
use Rattle.std.proofs.lemmas.Grind.{common_steps}
use Rattle.list_laws.proofs.Truths.{both_true}
use Rattle.script_language.specs.declared.drafts.Draft.{Draft}
use Rattle.script_language.specs.declared.faults.FaultKind.{FaultKind}
use Rattle.script_language.specs.declared.forms.Form.TheVariants.{Space}
use Rattle.script_language.specs.Calls.{no_fields}
use Rattle.script_language.specs.Drafts.{is_begun, is_in_block, is_in_place, draft_within_limits, with_line}
use Rattle.script_language.specs.Forms.{places_of}
use Rattle.script_language.specs.Tokens.{tokens_read}
use Rattle.script_reader.specs.declared.errors.ReadError.{ReadError}
use Rattle.script_reader.specs.declared.readers.Reader.{Reader}
use Rattle.script_reader.specs.Answers.{Does}
use Rattle.script_reader.specs.Counted.{IsCounted, HasTotals}
use Rattle.script_reader.specs.Lexing.{tokens_in}
use Rattle.script_reader.specs.Sound.{IsSoundDraft}
use Rattle.script_reader.proofs.Keeping.{line_kept}
use Rattle.script_reader.proofs.LineRanges.{line_sound, space_new}
use Rattle.script_reader.proofs.readers.Reader.line.Goals as goal

counted_from : {T : Type 0} (r : Result T ReadError) (new : Reader) (said : Result Draft FaultKind) →
    Does r new.draft said → OnOk r (HasTotals new) → (said ≡ Ok new.draft → IsSoundDraft new.draft) →
    OnOk r (IsCounted new)
counted_from (Ok done) new said does totals kept = record { sound = kept does; totals = totals }
counted_from (Err error) new said does totals kept = tt

pub add-requires-clause-space : goal.add-requires-clause-space
add-requires-clause-space c = λ is.
    let stands : is_in_place c.args.self.now.draft c.in_ok-form.form ≡ true = grind (arith, common_steps) in
    let here : is_in_place c.args.self.now.draft Space ≡ true = rw is at stands in
    let begun = leb-true 1 c.args.self.now.draft.ranks
    (both_true (is_begun c.args.self.now.draft) (not (is_in_block c.args.self.now.draft)) here).0 in
    let told : tokens_read c.args.self.now.draft no_fields (places_of c.in_ok-form.form) (tokens_in c.in-Some.rest.now)
    ≡ Ok c.in_ok-fields.fields = rw (← c.form_places.ensures) c.in_ok-fields.ensures in
    space_new c.args.self.now.draft (tokens_in c.in-Some.rest.now) c.in_ok-fields.fields begun (rw is at told)

pub returns-clause-counted : goal.returns-clause-counted
returns-clause-counted c =
    let stands : is_in_place c.args.self.now.draft c.in_ok-form.form ≡ true = grind (arith, common_steps) in
    let told : tokens_read c.args.self.now.draft no_fields (places_of c.in_ok-form.form) (tokens_in c.in-Some.rest.now)
    ≡ Ok c.in_ok-fields.fields = rw (← c.form_places.ensures) c.in_ok-fields.ensures in
    let fields = line_sound c.args.self.now.draft c.in_ok-form.form (tokens_in c.in-Some.rest.now) c.in_ok-fields.fields
    told in
    counted_from c.add.result c.add.new.self
    (draft_within_limits (with_line c.args.self.now.draft c.in_ok-form.form c.in_ok-fields.fields)) c.add.ensures.draft
    c.add.ensures.totals
    (λ h. line_kept c.args.self.now.draft c.add.new.self.draft c.in_ok-form.form c.in_ok-fields.fields c.requires.sound
    stands fields h)
