use Rattle.std.proofs.Common.{◌≡◌, ℕ, ◌<◌, ◌≤◌, List, length, Ok, Err, Result, inl, inr, refl, sym, ◌∙◌}
use Rattle.std.proofs.lemmas.Bool.{le-leb, lt-leb}
use Rattle.rma_types.specs.declared.scripts.Script.{Script}
use Rattle.script_language.specs.declared.faults.Fault.{Fault}
use Rattle.script_language.specs.declared.faults.FaultKind.TheVariants.{Limit}
use Rattle.script_language.specs.Lines.{lines_of}
use Rattle.script_language.specs.Reading.{Reads, read, text_read}
use Rattle.script_reader.specs.declared.errors.ReadError.{ReadError}
use Rattle.script_reader.specs.declared.errors.ReadError.TheVariants.{Memory, Refused}
use Rattle.script_reader.specs.Parsing.{IsFaultOf, StopsAt, fault_at, memory_fault}
use Rattle.script_reader.proofs.TokenParts.{ok_same}
use Rattle.script_reader.proofs.parses.parse.Goals as goal

too_long : (text : List ℕ) → 1048576 < length text → read text ≡ Err (record { line = 0; kind = Limit })
unfolding read
too_long text long = rw (lt-leb (length text) 1048576 long) refl

not_too_long : (text : List ℕ) → length text ≤ 1048576 → read text ≡ text_read (lines_of text)
unfolding read
not_too_long text short = rw (le-leb (length text) 1048576 short) refl

never_both : (fault : Fault) (script : Script) (said : Result Script Fault) → said ≡ Err fault → said ≡ Ok script → ⊥
never_both fault script said err ok = cc

-- reading stopped
stopped : (text : List ℕ) (line : ℕ) (error : ReadError) → read text ≡ text_read (lines_of text) →
    StopsAt line error (text_read (lines_of text)) → IsFaultOf text (fault_at line error)
stopped text line Memory same stops = inl refl
stopped text line (Refused kind) same stops = inr (same ∙ stops)

stopped_only : (text : List ℕ) (line : ℕ) (error : ReadError) → read text ≡ text_read (lines_of text) →
    StopsAt line error (text_read (lines_of text)) → (script : Script) → Reads text script →
    fault_at line error ≡ memory_fault
stopped_only text line Memory same stops script reads = refl
stopped_only text line (Refused kind) same stops script reads =
    absurd (never_both (record { line = line; kind = kind }) script (read text) (same ∙ stops) reads)

pub returns-then-text-gt-MOST_BYTES-clause-fault : goal.returns-then-text-gt-MOST_BYTES-clause-fault
returns-then-text-gt-MOST_BYTES-clause-fault c = inr (too_long c.args.text.now c.if-text-gt-MOST_BYTES.true)

pub returns-then-text-gt-MOST_BYTES-clause-only : goal.returns-then-text-gt-MOST_BYTES-clause-only
returns-then-text-gt-MOST_BYTES-clause-only c = λ script reads.
    absurd (never_both (record { line = 0; kind = Limit }) script (read c.args.text.now)
    (too_long c.args.text.now c.if-text-gt-MOST_BYTES.true) reads)

pub returns-in-Ok-clause-ok : goal.returns-in-Ok-clause-ok
returns-in-Ok-clause-ok c = not_too_long c.args.text.now c.if-text-gt-MOST_BYTES.false ∙ c.in-Ok.ensures.script

pub returns-in-Ok-clause-only : goal.returns-in-Ok-clause-only
returns-in-Ok-clause-only c = λ script reads.
    ok_same (sym (not_too_long c.args.text.now c.if-text-gt-MOST_BYTES.false ∙ c.in-Ok.ensures.script) ∙ reads)

pub returns-in-Err-clause-fault : goal.returns-in-Err-clause-fault
returns-in-Err-clause-fault c =
    rw c.fault.ensures (stopped c.args.text.now c.in-Err.stop.line c.in-Err.stop.error
    (not_too_long c.args.text.now c.if-text-gt-MOST_BYTES.false) c.in-Err.ensures.stop)

pub returns-in-Err-clause-only : goal.returns-in-Err-clause-only
returns-in-Err-clause-only c = λ script reads.
    rw c.fault.ensures (stopped_only c.args.text.now c.in-Err.stop.line c.in-Err.stop.error
    (not_too_long c.args.text.now c.if-text-gt-MOST_BYTES.false) c.in-Err.ensures.stop script reads)
