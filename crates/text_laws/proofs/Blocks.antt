-- The canonical text line by line: the calls of each rank, and the whole text.
use Rattle.std.proofs.Common.{◌≡◌, ℕ, ◌+◌, ◌-◌, ◌<◌, ◌≤◌, Bool, true, ◌&&◌, cond, List, [], ◌∷◌, ◌++◌, length, map, set}
use Rattle.std.proofs.Common.{get_or, replicate, Option, None, Ok, Err, Result, refl, ap, sym, ◌∙◌, subst, arith}
use Rattle.std.proofs.Common.{append_assoc, length-append}
use Rattle.std.specs.List.{AllByRecursion, flat_map}
use Rattle.std.proofs.Math.Seq.{set-append_seam, get_or-append_seam}
use Rattle.std.proofs.lemmas.Bool.{le-leb}
use Rattle.std.proofs.lemmas.List.{append-nil}
use Rattle.rma_types.specs.declared.calls.Call.{Call as MpiCall}
use Rattle.rma_types.specs.declared.scripts.Script.{Script}
use Rattle.call_rules.specs.Layout.{IsWithinLimits}
use Rattle.call_rules.specs.Text.{number}
use Rattle.call_rules.specs.WellFormed.{IsWellFormed, IsWrittenCall}
use Rattle.script_language.specs.declared.drafts.Draft.{Draft}
use Rattle.script_language.specs.declared.faults.FaultKind.{FaultKind}
use Rattle.script_language.specs.declared.faults.FaultKind.TheVariants.{Shape}
use Rattle.script_language.specs.declared.fields.Fields.{Fields}
use Rattle.script_language.specs.declared.forms.Form.TheVariants.{Ranks, Rank}
use Rattle.script_language.specs.declared.places.Place.TheVariants.{Member, Members}
use Rattle.script_language.specs.Answers.{◌>>=◌}
use Rattle.script_language.specs.Calls.{no_fields}
use Rattle.script_language.specs.Canon.{form_line, call_line, space_lines, rank_lines, canon}
use Rattle.script_language.specs.Drafts.{no_lines, with_line, with_call, is_in_place, draft_within_limits, script_of}
use Rattle.script_language.specs.Drafts.{script_at_end}
use Rattle.script_language.specs.Forms.{places_of}
use Rattle.script_language.specs.Reading.{Reads}
use Rattle.script_language.specs.Spelling.{spelling_of}
use Rattle.script_language.specs.Tokens.{tokens_read}
use Rattle.text_laws.proofs.CallLines.{call_tokens, call_line_said, call_tokens_plain}
use Rattle.text_laws.proofs.Lines.{IsPlain}
use Rattle.text_laws.proofs.Numbers.{number_plain, natural_within_back}
use Rattle.text_laws.proofs.Tokens.{next_token}
use Rattle.text_laws.proofs.Readings.{Leads, leads_nowhere, leads_on, line_leads, text_says}
use Rattle.text_laws.proofs.Spaces.{lines_say, directive_leads, ranks_read, repeated_blanks, entry, entries_back}
use Rattle.text_laws.proofs.Spaces.{spaces_lead}
use Rattle.text_laws.proofs.Totals.{blanks, space_of, AreBelow, AreFronts, below_self, part_limited, no_calls}
use Rattle.text_laws.proofs.Totals.{no_spaces, fronts_self, fewer_calls}

-- ---- the calls of a rank

-- a part of the calls of a rank, and none of those of the ranks behind it
abbrev some_calls : Script → List (Option ℕ) → List (List MpiCall) → List MpiCall → List (List MpiCall) → List ℕ → Draft
some_calls script spaces done now rest block = lines_say script.ranks spaces (done ++ now ∷ blanks [] rest) block

-- what a rank's calls lead to keeps the limits
some_limited : (script : Script) (spaces : List (Option ℕ)) (done : List (List MpiCall)) (now more : List MpiCall)
    (rest : List (List MpiCall)) (block : List ℕ) → IsWithinLimits script →
    AreBelow (map space_of spaces) script.spaces → AreFronts (done ++ (now ++ more) ∷ rest) script.calls →
    draft_within_limits (some_calls script spaces done now rest block)
    ≡ Ok (some_calls script spaces done now rest block)
some_limited script spaces done now more rest block limits below fronts =
    part_limited (some_calls script spaces done now rest block) script limits below
    (fewer_calls done now more rest script.calls fronts)

-- one call of the rank whose block it is
call_leads : (script : Script) (spaces : List (Option ℕ)) (done : List (List MpiCall)) (now : List MpiCall)
    (call : MpiCall) (more : List MpiCall) (rest : List (List MpiCall)) → IsWithinLimits script →
    AreBelow (map space_of spaces) script.spaces → AreFronts (done ++ ((now ++ call ∷ []) ++ more) ∷ rest) script.calls
    → IsWrittenCall call → Leads (some_calls script spaces done now rest (length done ∷ [])) (call_line call)
    (some_calls script spaces done (now ++ call ∷ []) rest (length done ∷ []))
call_leads script spaces done now call more rest limits below fronts written =
    let draft = some_calls script spaces done now rest (length done ∷ []) in
    let next = some_calls script spaces done (now ++ call ∷ []) rest (length done ∷ []) in
    let lists = done ++ now ∷ blanks [] rest in
    let put : set lists (length done) (get_or lists (length done) [] ++ call ∷ []) ≡ done ++ (now ++ call ∷ [])
    ∷ blanks [] rest =
    ap (λ (calls : List MpiCall). set lists (length done) (calls ++ call ∷ []))
    (get_or-append_seam done now (blanks [] rest) [])
    ∙ set-append_seam done now (blanks [] rest) (now ++ call ∷ []) in
    let within : draft_within_limits (with_call draft call) ≡ Ok next =
    ap (λ (calls : List (List MpiCall)). draft_within_limits (lines_say script.ranks spaces calls (length done ∷ [])))
    put
    ∙ some_limited script spaces done (now ++ call ∷ []) more rest (length done ∷ []) limits below fronts in
    line_leads draft next (call_tokens call) (call_tokens_plain call written) (call_line_said draft call written refl
    ∙ within)

-- the calls that are left of the rank
calls_lead : (script : Script) (spaces : List (Option ℕ)) (done : List (List MpiCall)) (now calls : List MpiCall)
    (rest : List (List MpiCall)) → IsWithinLimits script → AreBelow (map space_of spaces) script.spaces →
    AreFronts (done ++ (now ++ calls) ∷ rest) script.calls → AllByRecursion IsWrittenCall calls →
    Leads (some_calls script spaces done now rest (length done ∷ [])) (flat_map call_line calls)
    (some_calls script spaces done (now ++ calls) rest (length done ∷ []))
calls_lead script spaces done now [] rest limits below fronts written =
    subst (λ (all : List MpiCall). Leads (some_calls script spaces done now rest (length done ∷ [])) []
    (some_calls script spaces done all rest (length done ∷ []))) (sym (append-nil now))
    (leads_nowhere (some_calls script spaces done now rest (length done ∷ [])))
calls_lead script spaces done now (call ∷ calls) rest limits below fronts written =
    let more = append_assoc now (call ∷ []) calls in
    let block = length done ∷ [] in
    let fronts_now = subst (λ (all : List MpiCall). AreFronts (done ++ all ∷ rest) script.calls) (sym more) fronts in
    let here = call_leads script spaces done now call calls rest limits below fronts_now written.0 in
    let others = calls_lead script spaces done (now ++ call ∷ []) calls rest limits below fronts_now written.1 in
    subst (λ (all : List MpiCall). Leads (some_calls script spaces done now rest block)
    (flat_map call_line (call ∷ calls)) (some_calls script spaces done all rest block)) more
    (leads_on (some_calls script spaces done now rest block)
    (some_calls script spaces done (now ++ call ∷ []) rest block)
    (some_calls script spaces done ((now ++ call ∷ []) ++ calls) rest block) (call_line call)
    (flat_map call_line calls) here others)

-- ---- the line of a rank

rank_leads : (script : Script) (spaces : List (Option ℕ)) (done : List (List MpiCall)) (calls : List MpiCall)
    (rest : List (List MpiCall)) (block : List ℕ) → IsWithinLimits script → 1 ≤ script.ranks → script.ranks ≤ 16 →
    length done < script.ranks → AreBelow (map space_of spaces) script.spaces →
    AreFronts (done ++ calls ∷ rest) script.calls → Leads (some_calls script spaces done [] rest block)
    (form_line Rank (record no_fields { members = length done ∷ [] }))
    (some_calls script spaces done [] rest (length done ∷ []))
rank_leads script spaces done calls rest block limits some few room below fronts =
    let draft = some_calls script spaces done [] rest block in
    let next = some_calls script spaces done [] rest (length done ∷ []) in
    let fields : Fields = record no_fields { members = length done ∷ [] } in
    let stands : is_in_place draft Rank ≡ true = rw (le-leb 1 script.ranks some) refl in
    let plain : AllByRecursion IsPlain (flat_map (spelling_of fields) (places_of Rank)) =
    (number_plain (length done) (omega arith), tt) in
    let reads : tokens_read draft no_fields (Member ∷ Members ∷ []) (number (length done) ∷ []) ≡ Ok fields =
    next_token draft no_fields fields Member (Members ∷ []) (number (length done)) []
    (number_plain (length done) (omega arith)) refl
    (ap (λ (r : Result ℕ FaultKind). (r >>= λ (n : ℕ). Ok (n ∷ [])) >>= λ (ranks : List ℕ). Ok
    (record no_fields { members = ranks }))
    (natural_within_back 0 (script.ranks - 1) (length done) (omega arith) (omega arith) (omega arith))) in
    directive_leads draft next Rank fields fields stands plain reads
    (some_limited script spaces done [] calls rest (length done ∷ []) limits below fronts)

-- the calls of the ranks that are left
ranks_lead : (script : Script) (spaces : List (Option ℕ)) (done rest : List (List MpiCall)) (rank : ℕ)
    (block : List ℕ) → IsWithinLimits script → 1 ≤ script.ranks → script.ranks ≤ 16 → rank ≡ length done →
    rank + length rest ≤ script.ranks → AreBelow (map space_of spaces) script.spaces →
    AreFronts (done ++ rest) script.calls → AllByRecursion (AllByRecursion IsWrittenCall) rest → (last : List ℕ)
    × Leads (lines_say script.ranks spaces (done ++ blanks [] rest) block) (rank_lines rank rest)
    (lines_say script.ranks spaces (done ++ rest) last)
ranks_lead script spaces done [] rank block limits some few is left below fronts written =
    (block, leads_nowhere (lines_say script.ranks spaces (done ++ []) block))
ranks_lead script spaces done ([] ∷ rest) rank block limits some few is left below fronts written =
    let more = append_assoc done ([] ∷ []) in
    let next : rank + 1 ≡ length (done ++ [] ∷ []) = rw (length-append done ([] ∷ [])) (omega arith) in
    let fronts_now = subst (λ (lists : List (List MpiCall)). AreFronts lists script.calls) (sym (more rest)) fronts in
    let leads = ranks_lead script spaces (done ++ [] ∷ []) rest (rank + 1) block limits some few next
    (omega arith) below fronts_now written.1 in
    let first = subst (λ (lists : List (List MpiCall)). Leads (lines_say script.ranks spaces lists block)
    (rank_lines (rank + 1) rest) (lines_say script.ranks spaces ((done ++ [] ∷ []) ++ rest) leads.0))
    (more (blanks [] rest)) leads.1 in (
      leads.0,
      subst (λ (lists : List (List MpiCall)). Leads
          (lines_say script.ranks spaces (done ++ [] ∷ blanks [] rest) block) (rank_lines (rank + 1) rest)
          (lines_say script.ranks spaces lists leads.0)) (more rest) first,
    )
ranks_lead script spaces done ((call ∷ calls) ∷ rest) rank block limits some few is left below fronts written =
    let all : List MpiCall = call ∷ calls in
    let more = append_assoc done (all ∷ []) in
    let next : rank + 1 ≡ length (done ++ all ∷ []) = rw (length-append done (all ∷ [])) (omega arith) in
    let begun = some_calls script spaces done [] rest block in
    let named = some_calls script spaces done [] rest (length done ∷ []) in
    let made = some_calls script spaces done all rest (length done ∷ []) in
    let line = subst (λ (r : ℕ). Leads begun (form_line Rank (record no_fields { members = r ∷ [] })) named) (sym is)
    (rank_leads script spaces done all rest block limits some few (omega arith) below fronts) in
    let said = calls_lead script spaces done [] all rest limits below fronts written.0 in
    let fronts_now = subst (λ (lists : List (List MpiCall)). AreFronts lists script.calls) (sym (more rest)) fronts in
    let leads = ranks_lead script spaces (done ++ all ∷ []) rest (rank + 1) (length done ∷ []) limits some few next
    (omega arith) below fronts_now written.1 in
    let others = subst (λ (lists : List (List MpiCall)). Leads (lines_say script.ranks spaces lists (length done ∷ []))
    (rank_lines (rank + 1) rest) (lines_say script.ranks spaces ((done ++ all ∷ []) ++ rest) leads.0))
    (more (blanks [] rest)) leads.1 in
    let end = lines_say script.ranks spaces ((done ++ all ∷ []) ++ rest) leads.0 in
    let name = form_line Rank (record no_fields { members = rank ∷ [] }) in
    let whole = leads_on begun made end (name ++ flat_map call_line all) (rank_lines (rank + 1) rest)
    (leads_on begun named made name (flat_map call_line all) line said) others in (
      leads.0,
      subst (λ (lists : List (List MpiCall)). Leads begun (rank_lines rank (all ∷ rest))
          (lines_say script.ranks spaces lists leads.0)) (more rest) whole,
    )

-- ---- the whole text

-- the line of the number of ranks
begins : (script : Script) → IsWellFormed script →
    Leads no_lines (form_line Ranks (record no_fields { ranks = script.ranks }))
    (lines_say script.ranks (blanks None script.spaces) (blanks [] script.calls) [])
begins script formed =
    let next = lines_say script.ranks (blanks None script.spaces) (blanks [] script.calls) [] in
    let fields : Fields = record no_fields { ranks = script.ranks } in
    let plain : AllByRecursion IsPlain (flat_map (spelling_of fields) (places_of Ranks)) =
    (let few = formed.few_ranks in number_plain script.ranks (omega arith), tt) in
    let spaces : replicate script.ranks None ≡ blanks None script.spaces = ap (λ (n : ℕ). replicate n None)
    (sym formed.spaces) ∙ repeated_blanks None script.spaces in
    let calls : replicate script.ranks [] ≡ blanks [] script.calls = ap (λ (n : ℕ). replicate n []) (sym formed.lists)
    ∙ repeated_blanks [] script.calls in
    let below : AreBelow (map space_of (blanks None script.spaces)) script.spaces = no_spaces script.spaces in
    let within : draft_within_limits (with_line no_lines Ranks fields) ≡ Ok next =
    ap (λ (xs : List (Option ℕ)). draft_within_limits (lines_say script.ranks xs (replicate script.ranks []) [])) spaces
    ∙ ap (λ (lists : List (List MpiCall)). draft_within_limits
    (lines_say script.ranks (blanks None script.spaces) lists [])) calls
    ∙ part_limited next script formed.limits below (no_calls script.calls script.calls (fronts_self script.calls)) in
    directive_leads no_lines next Ranks fields fields refl plain
    (ranks_read script.ranks formed.some_rank formed.few_ranks) within

pub read_again : (script : Script) → IsWellFormed script → length (canon script) ≤ 1048576 → Reads (canon script) script
unfolding canon
read_again script formed few =
    let entries = map entry script.spaces in
    let below : AreBelow (map space_of entries) script.spaces = subst (λ (xs : List ℕ). AreBelow xs script.spaces)
    (sym (entries_back script.spaces)) (below_self script.spaces) in
    let fronts = no_calls script.calls script.calls (fronts_self script.calls) in
    let some = formed.some_rank in
    let most = formed.few_ranks in
    let first = lines_say script.ranks (blanks None script.spaces) (blanks [] script.calls) [] in
    let second = lines_say script.ranks entries (blanks [] script.calls) [] in
    let spaces = spaces_lead script [] script.spaces 0 (blanks [] script.calls) formed.limits some most refl
    (let same = formed.spaces in omega arith) formed.few_bytes below fronts in
    let calls = ranks_lead script entries [] script.calls 0 [] formed.limits some most refl
    (let same = formed.lists in omega arith) below (fronts_self script.calls) formed.calls in
    let last = lines_say script.ranks entries script.calls calls.0 in
    let number_line = form_line Ranks (record no_fields { ranks = script.ranks }) in
    let leads : Leads no_lines (canon script) last =
    leads_on no_lines second last (number_line ++ space_lines 0 script.spaces) (rank_lines 0 script.calls)
    (leads_on no_lines first second number_line (space_lines 0 script.spaces) (begins script formed) spaces) calls.1 in
    let ends : script_at_end last ≡ Ok script =
    ap (λ (b : Bool). cond (b && true) (Ok (script_of last)) (Err Shape)) (le-leb 1 script.ranks some)
    ∙ ap (λ (xs : List ℕ). Ok (record { ranks = script.ranks; spaces = xs; calls = script.calls }))
    (entries_back script.spaces) in
    text_says (canon script) last script leads ends few
