-- The canonical text line by line: the number of ranks, and the spaces.
use Rattle.std.proofs.Common.{◌≡◌, ℕ, zero, suc, ◌+◌, ◌-◌, ◌<◌, ◌≤◌, true, cond, List, [], ◌∷◌, ◌++◌, length, map, set}
use Rattle.std.proofs.Common.{get_or, replicate, Option, Some, None, Ok, Err, Result, refl, ap, sym, ◌∙◌, subst, arith}
use Rattle.std.proofs.Common.{append_assoc, length-append}
use Rattle.std.specs.Prelude.{is_some}
use Rattle.std.specs.List.{AllByRecursion, flat_map}
use Rattle.std.proofs.Math.Seq.{set-append_seam, get_or-append_seam}
use Rattle.std.proofs.lemmas.Bool.{le-leb}
use Rattle.rma_types.specs.declared.calls.Call.{Call as MpiCall}
use Rattle.rma_types.specs.declared.scripts.Script.{Script}
use Rattle.call_rules.specs.Layout.{IsWithinLimits}
use Rattle.call_rules.specs.Text.{number}
use Rattle.script_language.specs.declared.drafts.Draft.{Draft}
use Rattle.script_language.specs.declared.faults.FaultKind.{FaultKind}
use Rattle.script_language.specs.declared.faults.FaultKind.TheVariants.{Shape}
use Rattle.script_language.specs.declared.fields.Fields.{Fields}
use Rattle.script_language.specs.declared.forms.Form.{Form}
use Rattle.script_language.specs.declared.forms.Form.TheVariants.{Space}
use Rattle.script_language.specs.declared.places.Place.TheVariants.{Ranks as RankCount, Owner, Room}
use Rattle.script_language.specs.Answers.{◌>>=◌}
use Rattle.script_language.specs.Calls.{no_fields}
use Rattle.script_language.specs.Canon.{form_line, space_lines}
use Rattle.script_language.specs.Drafts.{no_lines, with_line, is_in_place, draft_within_limits}
use Rattle.script_language.specs.Forms.{word_of_form, places_of}
use Rattle.script_language.specs.Spelling.{spelling_of}
use Rattle.script_language.specs.Tokens.{rank_read, owner_read, tokens_read}
use Rattle.text_laws.proofs.CallLines.{line_said, word_plain}
use Rattle.text_laws.proofs.Lines.{IsPlain}
use Rattle.text_laws.proofs.Numbers.{number_plain, natural_within_back}
use Rattle.text_laws.proofs.Tokens.{next_token}
use Rattle.text_laws.proofs.Readings.{Leads, leads_nowhere, leads_on, line_leads}
use Rattle.text_laws.proofs.Totals.{blanks, space_of, AreBelow, AreFronts, part_limited, fewer_spaces_behind}

-- the lines so far, outside of a repeat
abbrev pub lines_say : ℕ → List (Option ℕ) → List (List MpiCall) → List ℕ → Draft
lines_say ranks spaces calls block = record {
  ranks = ranks;
  spaces = spaces;
  calls = calls;
  block = block;
  times =
      None;
  inside = [];
}

-- the line of a directive where it may stand, whose tokens can be read
pub directive_leads : (draft next : Draft) (form : Form) (fields told : Fields) → is_in_place draft form ≡ true →
    AllByRecursion IsPlain (flat_map (spelling_of fields) (places_of form)) →
    tokens_read draft no_fields (places_of form)
    (flat_map (spelling_of fields) (places_of form)) ≡ Ok told → draft_within_limits (with_line draft form told)
    ≡ Ok next →
    Leads draft (form_line form fields) next
directive_leads draft next form fields told stands plain reads within =
    line_leads draft next (word_of_form form ∷ flat_map (spelling_of fields) (places_of form)) (word_plain form, plain)
    (line_said draft form fields told stands reads ∙ within)

-- ---- the number of ranks

pub ranks_read : (ranks : ℕ) → 1 ≤ ranks → ranks ≤ 16 → tokens_read no_lines no_fields (RankCount ∷ [])
    (number ranks ∷ []) ≡ Ok (record no_fields { ranks = ranks })
ranks_read ranks some few =
    next_token no_lines no_fields (record no_fields { ranks = ranks }) RankCount [] (number ranks) []
    (number_plain ranks (omega arith)) refl
    (ap (λ (r : Result ℕ FaultKind). r >>= λ (n : ℕ). Ok (record no_fields { ranks = n }))
    (natural_within_back 1 16 ranks (omega arith) some few))

pub repeated_blanks : {A B : Type 0} (b : B) (xs : List A) → replicate (length xs) b ≡ blanks b xs
repeated_blanks b [] = refl
repeated_blanks b (x ∷ xs) = ap (λ (bs : List _). b ∷ bs) (repeated_blanks b xs)

-- ---- the spaces

-- what the lines say of a space
abbrev pub entry : ℕ → Option ℕ
entry zero = None
entry (suc bytes) = Some (suc bytes)

pub entries_back : (spaces : List ℕ) → map space_of (map entry spaces) ≡ spaces
entries_back [] = refl
entries_back (zero ∷ spaces) = ap (λ (xs : List ℕ). 0 ∷ xs) (entries_back spaces)
entries_back (suc bytes ∷ spaces) = ap (λ (xs : List ℕ). suc bytes ∷ xs) (entries_back spaces)

blank_entries : (spaces : List ℕ) → blanks {B = Option ℕ} None (map entry spaces) ≡ blanks None spaces
blank_entries [] = refl
blank_entries (x ∷ spaces) = ap (λ (xs : List (Option ℕ)). None ∷ xs) (blank_entries spaces)

space_read : (ranks : ℕ) (done after : List (Option ℕ)) (calls : List (List MpiCall)) (bytes : ℕ) → ranks ≤ 16 →
    length done < ranks → bytes ≤ 65536 → tokens_read (lines_say ranks (done ++ None ∷ after) calls []) no_fields
    (Owner ∷ Room ∷ []) (number (length done) ∷ number bytes ∷ []) ≡ Ok
    (record no_fields { owner = length done; room = bytes })
space_read ranks done after calls bytes few below small =
    let draft = lines_say ranks (done ++ None ∷ after) calls [] in
    let rank : rank_read draft (number (length done)) ≡ Ok (length done) = natural_within_back 0 (ranks - 1)
    (length done) (omega arith) (omega arith) (omega arith) in
    let owner : owner_read draft (number (length done)) ≡ Ok (length done) =
    ap (λ (r : Result ℕ FaultKind). r >>= λ (n : ℕ). cond (is_some (get_or (done ++ None ∷ after) n None)) (Err Shape)
    (Ok n)) rank
    ∙ ap (λ (o : Option ℕ). cond (is_some o) (Err Shape) (Ok (length done))) (get_or-append_seam done None after None)
    in
    next_token draft no_fields (record no_fields { owner = length done }) Owner (Room ∷ []) (number (length done))
    (number bytes ∷ []) (number_plain (length done) (omega arith)) refl
    (ap (λ (r : Result ℕ FaultKind). r >>= λ (n : ℕ). Ok (record no_fields { owner = n })) owner)
    ∙ next_token draft (record no_fields { owner = length done })
    (record no_fields { owner = length done; room = bytes }) Room [] (number bytes) []
    (number_plain bytes (omega arith)) refl
    (ap (λ (r : Result ℕ FaultKind). r >>= λ (n : ℕ). Ok (record no_fields { owner = length done; room = n }))
    (natural_within_back 0 65536 bytes (omega arith) (omega arith) small))

space_leads : (script : Script) (done : List (Option ℕ)) (bytes : ℕ) (rest : List ℕ) (calls : List (List MpiCall)) →
    IsWithinLimits script → 1 ≤ script.ranks → script.ranks ≤ 16 → length done < script.ranks → bytes ≤ 65536 →
    AreBelow (map space_of ((done ++ Some bytes ∷ []) ++ map entry rest)) script.spaces → AreFronts calls script.calls →
    Leads (lines_say script.ranks (done ++ None ∷ blanks None rest) calls [])
    (form_line Space (record no_fields { owner = length done; room = bytes }))
    (lines_say script.ranks ((done ++ Some bytes ∷ []) ++ blanks None rest) calls [])
space_leads script done bytes rest calls limits some few below small spaces fronts =
    let draft = lines_say script.ranks (done ++ None ∷ blanks None rest) calls [] in
    let next = lines_say script.ranks ((done ++ Some bytes ∷ []) ++ blanks None rest) calls [] in
    let fields : Fields = record no_fields { owner = length done; room = bytes } in
    let stands : is_in_place draft Space ≡ true = rw (le-leb 1 script.ranks some) refl in
    let plain : AllByRecursion IsPlain (flat_map (spelling_of fields) (places_of Space)) =
    (number_plain (length done) (omega arith), (number_plain bytes (omega arith), tt)) in
    let seam : set (done ++ None ∷ blanks None rest) (length done) (Some bytes) ≡ (done ++ Some bytes ∷ []) ++ blanks
    None rest =
    set-append_seam done None (blanks None rest) (Some bytes)
    ∙ sym (append_assoc done (Some bytes ∷ []) (blanks None rest)) in
    let part : AreBelow (map space_of ((done ++ Some bytes ∷ []) ++ blanks None rest)) script.spaces =
    subst (λ (blank : List (Option ℕ)). AreBelow (map space_of ((done ++ Some bytes ∷ []) ++ blank)) script.spaces)
    (blank_entries rest)
    (fewer_spaces_behind (done ++ Some bytes ∷ []) (map entry rest) script.spaces spaces) in
    let within : draft_within_limits (with_line draft Space fields) ≡ Ok next =
    ap (λ (xs : List (Option ℕ)). draft_within_limits (lines_say script.ranks xs calls [])) seam
    ∙ part_limited next script limits part fronts in
    directive_leads draft next Space fields fields stands plain
    (space_read script.ranks done (blanks None rest) calls bytes few below small) within

-- the spaces that are left
pub spaces_lead : (script : Script) (done : List (Option ℕ)) (rest : List ℕ) (rank : ℕ) (calls : List (List MpiCall)) →
    IsWithinLimits script → 1 ≤ script.ranks → script.ranks ≤ 16 → rank ≡ length done →
    rank + length rest ≤ script.ranks → AllByRecursion (λ bytes. bytes ≤ 65536) rest →
    AreBelow (map space_of (done ++ map entry rest)) script.spaces → AreFronts calls script.calls →
    Leads (lines_say script.ranks (done ++ blanks None rest) calls []) (space_lines rank rest)
    (lines_say script.ranks (done ++ map entry rest) calls [])
spaces_lead script done [] rank calls limits some few is left small spaces fronts = leads_nowhere
    (lines_say script.ranks (done ++ []) calls [])
spaces_lead script done (zero ∷ rest) rank calls limits some few is left small spaces fronts =
    let more = append_assoc done (None ∷ []) in
    let next : rank + 1 ≡ length (done ++ None ∷ []) = rw (length-append done (None ∷ [])) (omega arith) in
    let below = subst (λ (xs : List (Option ℕ)). AreBelow (map space_of xs) script.spaces) (sym (more (map entry rest)))
    spaces in
    let leads = spaces_lead script (done ++ None ∷ []) rest (rank + 1) calls limits some few next
    (omega arith) small.1 below fronts in
    let first = subst (λ (xs : List (Option ℕ)). Leads (lines_say script.ranks xs calls [])
    (space_lines (rank + 1) rest) (lines_say script.ranks ((done ++ None ∷ []) ++ map entry rest) calls []))
    (more (blanks None rest)) leads in
    subst (λ (xs : List (Option ℕ)). Leads (lines_say script.ranks (done ++ None ∷ blanks None rest) calls [])
    (space_lines (rank + 1) rest) (lines_say script.ranks xs calls [])) (more (map entry rest)) first
spaces_lead script done (suc bytes ∷ rest) rank calls limits some few is left small spaces fronts =
    let more = append_assoc done (Some (suc bytes) ∷ []) in
    let next : rank + 1 ≡ length (done ++ Some (suc bytes) ∷ []) = rw (length-append done (Some (suc bytes) ∷ []))
    (omega arith) in
    let below = subst (λ (xs : List (Option ℕ)). AreBelow (map space_of xs) script.spaces) (sym (more (map entry rest)))
    spaces in
    let here = space_leads script done (suc bytes) rest calls limits some few (omega arith) small.0 below fronts in
    let line = subst (λ (r : ℕ). Leads (lines_say script.ranks (done ++ None ∷ blanks None rest) calls [])
    (form_line Space (record no_fields { owner = r; room = suc bytes }))
    (lines_say script.ranks ((done ++ Some (suc bytes) ∷ []) ++ blanks None rest) calls [])) (sym is) here in
    let leads = spaces_lead script (done ++ Some (suc bytes) ∷ []) rest (rank + 1) calls limits some few next
    (omega arith) small.1 below fronts in
    let all = leads_on (lines_say script.ranks (done ++ None ∷ blanks None rest) calls [])
    (lines_say script.ranks ((done ++ Some (suc bytes) ∷ []) ++ blanks None rest) calls [])
    (lines_say script.ranks ((done ++ Some (suc bytes) ∷ []) ++ map entry rest) calls [])
    (form_line Space (record no_fields { owner = rank; room = suc bytes })) (space_lines (rank + 1) rest) line leads in
    subst (λ (xs : List (Option ℕ)). Leads (lines_say script.ranks (done ++ None ∷ blanks None rest) calls [])
    (space_lines rank (suc bytes ∷ rest)) (lines_say script.ranks xs calls [])) (more (map entry rest)) all
