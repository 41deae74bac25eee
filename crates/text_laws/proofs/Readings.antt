-- The lines of a text one after the other, from the script so far to the script behind them.
use Rattle.std.proofs.Common.{◌≡◌, ℕ, ◌+◌, ◌≤◌, Bool, cond, eqb, List, [], ◌∷◌, ◌++◌, length, Ok, Err, Result, refl, ap}
use Rattle.std.proofs.Common.{sym, ◌∙◌, arith, append_assoc}
use Rattle.std.specs.List.{AllByRecursion}
use Rattle.std.proofs.lemmas.Bool.{le-leb}
use Rattle.std.proofs.lemmas.List.{append-nil}
use Rattle.rma_types.specs.declared.scripts.Script.{Script}
use Rattle.call_rules.specs.Text.{line, join_by_spaces}
use Rattle.script_language.specs.declared.drafts.Draft.{Draft}
use Rattle.script_language.specs.declared.faults.Fault.{Fault}
use Rattle.script_language.specs.declared.faults.FaultKind.{FaultKind}
use Rattle.script_language.specs.declared.faults.FaultKind.TheVariants.{Limit}
use Rattle.script_language.specs.Answers.{◌>>=◌}
use Rattle.script_language.specs.Drafts.{no_lines, script_at_end}
use Rattle.script_language.specs.Lines.{lines_of}
use Rattle.script_language.specs.Reading.{line_read, at_line, lines_read, text_read, read}
use Rattle.text_laws.proofs.Lines.{IsPlain, split_at, nowhere, tokens_back}

-- from whatever line on, and whatever follows, the lines of the text lead from one script so far to the other
abbrev pub Leads : Draft → List ℕ → Draft → Type 0
Leads draft text next = (n : ℕ) (rest : List ℕ) → (m : ℕ)
    × (lines_read n draft (lines_of (text ++ rest)) ≡ lines_read m next (lines_of rest))

pub leads_nowhere : (draft : Draft) → Leads draft [] draft
leads_nowhere draft n rest = (n, refl)

pub leads_on : (draft middle next : Draft) (first second : List ℕ) → Leads draft first middle →
    Leads middle second next → Leads draft (first ++ second) next
leads_on draft middle next first second one other n rest =
    let a = one n (second ++ rest) in
    let b = other a.0 rest in
    (b.0, ap (λ (text : List ℕ). lines_read n draft (lines_of text)) (append_assoc first second rest) ∙ a.1 ∙ b.1)

-- one line of plain tokens
pub line_leads : (draft next : Draft) (tokens : List (List ℕ)) → AllByRecursion IsPlain tokens →
    line_read draft tokens ≡ Ok next → Leads draft (line (join_by_spaces tokens)) next
line_leads draft next tokens plain reads n rest =
    let then : Result Draft FaultKind → Result Draft Fault = λ r. at_line n r >>= λ (d : Draft). lines_read (n + 1) d
    (lines_of rest) in (
      n + 1,
      ap (λ (text : List ℕ). lines_read n draft (lines_of text)) (append_assoc (join_by_spaces tokens) (10 ∷ []) rest)
          ∙ ap (lines_read n draft) (split_at (λ byte. eqb byte 10) (join_by_spaces tokens) 10 rest
          (nowhere 10 (omega arith) refl tokens plain) refl)
          ∙ ap (λ (said : List (List ℕ)). then (line_read draft said)) (tokens_back tokens plain)
          ∙ ap then reads,
    )

-- a text that is not too long, whose lines lead to a script
pub text_says : (text : List ℕ) (draft : Draft) (script : Script) → Leads no_lines text draft →
    script_at_end draft ≡ Ok script → length text ≤ 1048576 → read text ≡ Ok script
unfolding read
text_says text draft script leads ends few =
    let reached = leads 1 [] in
    let all : lines_read 1 no_lines (lines_of text) ≡ Ok draft = ap
    (λ (bytes : List ℕ). lines_read 1 no_lines (lines_of bytes)) (sym (append-nil text)) ∙ reached.1 in
    let last = length (lines_of text) in
    ap (λ (b : Bool). cond b (text_read (lines_of text)) (Err (record { line = 0; kind = Limit })))
    (le-leb (length text) 1048576 few)
    ∙ ap (λ (r : Result Draft Fault). r >>= λ (d : Draft). at_line last (script_at_end d)) all
    ∙ ap (at_line last) ends
