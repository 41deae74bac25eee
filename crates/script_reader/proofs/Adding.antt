-- What the test of the totals says of the lines with one line more.
use Rattle.std.proofs.Common.{◌≡◌, ℕ, false, List, [], ◌∷◌, length, set, replicate, Option, Some, None, unwrap_or, Ok}
use Rattle.std.proofs.Common.{Err, refl, ap, sym, ◌∙◌, arith}
use Rattle.rma_types.specs.declared.calls.Call.{Call as MpiCall}
use Rattle.call_rules.specs.Layout.{round_up, call_bytes}
use Rattle.script_language.specs.declared.drafts.Draft.{Draft}
use Rattle.script_language.specs.declared.faults.FaultKind.{FaultKind}
use Rattle.script_language.specs.declared.fields.Fields.{Fields}
use Rattle.script_language.specs.declared.forms.Form.TheVariants.{Ranks, Space, End}
use Rattle.script_language.specs.Drafts.{repeat_calls, added_to, with_line, with_call, draft_within_limits}
use Rattle.script_language.specs.Drafts.{is_in_repeat}
use Rattle.script_reader.specs.declared.totals.Totals.{Totals}
use Rattle.script_reader.specs.Sound.{IsSoundDraft, IsNewSpace}
use Rattle.script_reader.specs.Totals.{totals_of, within_limits, totals_with, totals_behind}
use Rattle.script_reader.proofs.Charging.{within_ok, within_yes}
use Rattle.script_reader.proofs.Growing.{totals_of_call, totals_of_repeat, totals_of_space, totals_of_ranks, limited_ok}
use Rattle.script_reader.proofs.Growing.{limited_err}

outside : (draft : Draft) (call : MpiCall) → is_in_repeat draft ≡ false →
    with_call draft call ≡ record draft { calls = added_to draft.block (call ∷ []) draft.calls }
outside draft call e = rw e refl

call_totals : (draft : Draft) (call : MpiCall) (t : Totals) → IsSoundDraft draft → t ≡ totals_of draft →
    totals_of (record draft { calls = added_to draft.block (call ∷ []) draft.calls }) ≡ totals_with t
    (length draft.block) 1 (call_bytes call)
call_totals draft call t sound e =
    totals_of_call draft call sound (record draft { calls = added_to draft.block (call ∷ []) draft.calls }) refl refl
    ∙ ap (λ (v : Totals). totals_with v (length draft.block) 1 (call_bytes call)) (sym e)

pub call_ok : (draft : Draft) (call : MpiCall) (lists : List (List MpiCall)) (t u : Totals) → IsSoundDraft draft →
    is_in_repeat draft ≡ false → t ≡ totals_of draft →
    Ok u ≡ within_limits (totals_with t (length draft.block) 1 (call_bytes call)) → lists ≡ added_to draft.block
    (call ∷ []) draft.calls → (draft_within_limits (with_call draft call) ≡ Ok (record draft { calls = lists }))
    × (u ≡ totals_of (record draft { calls = lists }))
call_ok draft call lists t u sound out e h same =
    let next : Draft = record draft { calls = added_to draft.block (call ∷ []) draft.calls } in
    let total = call_totals draft call t sound e in
    let here = limited_ok next (totals_with t (length draft.block) 1 (call_bytes call)) u total h in
    let w = within_ok (totals_with t (length draft.block) 1 (call_bytes call)) u (sym h) in
    let at : next ≡ record draft { calls = lists } = ap
    (λ (xs : List (List MpiCall)). let made : Draft = record draft { calls = xs } in made) (sym same) in (
      ap draft_within_limits (outside draft call out) ∙ (here ∙ ap (λ (d : Draft). Ok d) at),
      (sym w.0 ∙ sym total)
          ∙ ap totals_of at,
    )

pub call_err : (draft : Draft) (call : MpiCall) (t : Totals) (kind : FaultKind) → IsSoundDraft draft →
    is_in_repeat draft ≡ false → t ≡ totals_of draft → Err kind ≡ within_limits
    (totals_with t (length draft.block) 1 (call_bytes call)) → draft_within_limits (with_call draft call) ≡ Err kind
call_err draft call t kind sound out e h =
    ap draft_within_limits (outside draft call out)
    ∙ limited_err (record draft { calls = added_to draft.block (call ∷ []) draft.calls })
    (totals_with t (length draft.block) 1 (call_bytes call)) kind (call_totals draft call t sound e) h

-- ---- the end of a repeat

end_totals : (draft : Draft) (fields : Fields) (t : Totals) → IsSoundDraft draft → t ≡ totals_of draft →
    totals_of (with_line draft End fields) ≡ totals_behind t (length draft.block) (unwrap_or draft.times 0) draft.inside
end_totals draft fields t sound e =
    totals_of_repeat draft (unwrap_or draft.times 0) draft.inside sound (with_line draft End fields) refl refl
    ∙ ap (λ (v : Totals). totals_behind v (length draft.block) (unwrap_or draft.times 0) draft.inside) (sym e)

pub end_ok : (draft : Draft) (fields : Fields) (lists : List (List MpiCall)) (t u : Totals) → IsSoundDraft draft →
    t ≡ totals_of draft → Ok u ≡ within_limits
    (totals_behind t (length draft.block) (unwrap_or draft.times 0) draft.inside) → lists ≡ added_to draft.block
    (repeat_calls (unwrap_or draft.times 0) draft.inside) draft.calls →
    (draft_within_limits (with_line draft End fields) ≡ Ok (record draft { calls = lists; times = None; inside = [] }))
    × (u ≡ totals_of (record draft { calls = lists; times = None; inside = [] }))
end_ok draft fields lists t u sound e h same =
    let next : Draft = with_line draft End fields in
    let total = end_totals draft fields t sound e in
    let here = limited_ok next (totals_behind t (length draft.block) (unwrap_or draft.times 0) draft.inside) u total h
    in
    let w = within_ok (totals_behind t (length draft.block) (unwrap_or draft.times 0) draft.inside) u (sym h) in
    let at : next ≡ record draft { calls = lists; times = None; inside = [] } = ap
    (λ (xs : List (List MpiCall)). let made : Draft = record draft { calls = xs; times = None; inside = [] } in
    made) (sym same) in
    (here ∙ ap (λ (d : Draft). Ok d) at, (sym w.0 ∙ sym total) ∙ ap totals_of at)

pub end_err : (draft : Draft) (fields : Fields) (t : Totals) (kind : FaultKind) → IsSoundDraft draft →
    t ≡ totals_of draft → Err kind ≡ within_limits
    (totals_behind t (length draft.block) (unwrap_or draft.times 0) draft.inside) →
    draft_within_limits (with_line draft End fields) ≡ Err kind
end_err draft fields t kind sound e h = limited_err (with_line draft End fields)
    (totals_behind t (length draft.block) (unwrap_or draft.times 0) draft.inside) kind
    (end_totals draft fields t sound e) h

-- ---- the space of a rank

space_totals : (draft : Draft) (fields : Fields) (t : Totals) → IsSoundDraft draft → IsNewSpace draft fields →
    t ≡ totals_of draft → totals_of (with_line draft Space fields) ≡ totals_with t 1 0 (round_up fields.room)
space_totals draft fields t sound new e =
    totals_of_space draft fields sound new (with_line draft Space fields) refl refl
    ∙ ap (λ (v : Totals). totals_with v 1 0 (round_up fields.room)) (sym e)

pub space_ok : (draft : Draft) (fields : Fields) (spaces : List (Option ℕ)) (t u : Totals) → IsSoundDraft draft →
    IsNewSpace draft fields → t ≡ totals_of draft → Ok u ≡ within_limits (totals_with t 1 0 (round_up fields.room)) →
    spaces ≡ set draft.spaces fields.owner (Some fields.room) →
    (draft_within_limits (with_line draft Space fields) ≡ Ok (record draft { spaces = spaces }))
    × (u ≡ totals_of (record draft { spaces = spaces }))
space_ok draft fields spaces t u sound new e h same =
    let next : Draft = with_line draft Space fields in
    let total = space_totals draft fields t sound new e in
    let here = limited_ok next (totals_with t 1 0 (round_up fields.room)) u total h in
    let w = within_ok (totals_with t 1 0 (round_up fields.room)) u (sym h) in
    let at : next ≡ record draft { spaces = spaces } = ap
    (λ (xs : List (Option ℕ)). let made : Draft = record draft { spaces = xs } in made) (sym same) in
    (here ∙ ap (λ (d : Draft). Ok d) at, (sym w.0 ∙ sym total) ∙ ap totals_of at)

pub space_err : (draft : Draft) (fields : Fields) (t : Totals) (kind : FaultKind) → IsSoundDraft draft →
    IsNewSpace draft fields → t ≡ totals_of draft → Err kind
    ≡ within_limits (totals_with t 1 0 (round_up fields.room)) →
    draft_within_limits (with_line draft Space fields) ≡ Err kind
space_err draft fields t kind sound new e h = limited_err (with_line draft Space fields)
    (totals_with t 1 0 (round_up fields.room)) kind (space_totals draft fields t sound new e) h

-- ---- the number of ranks

pub ranks_ok : (draft : Draft) (fields : Fields) (spaces : List (Option ℕ)) (lists : List (List MpiCall)) →
    spaces ≡ replicate fields.ranks None → lists ≡ replicate fields.ranks [] →
    (draft_within_limits (with_line draft Ranks fields) ≡ Ok
    (record draft { ranks = fields.ranks; spaces = spaces; calls = lists }))
    × (record { calls = 0; bytes = 0 } ≡ totals_of
    (record draft { ranks = fields.ranks; spaces = spaces; calls = lists }))
ranks_ok draft fields spaces lists roomed called =
    let next : Draft = with_line draft Ranks fields in
    let none : Totals = record { calls = 0; bytes = 0 } in
    let total : totals_of next ≡ none = totals_of_ranks next fields.ranks refl refl in
    let here = limited_ok next none none total (sym (within_yes none (omega arith) (omega arith))) in
    let at : next ≡ record draft { ranks = fields.ranks; spaces = spaces; calls = lists } = rw (roomed, called) refl in
    (here ∙ ap (λ (d : Draft). Ok d) at, sym total ∙ ap totals_of at)
