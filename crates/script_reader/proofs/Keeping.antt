-- A line that reads leaves the script so far within its ranges, and at its end it is a script that a text can say.
use Rattle.std.proofs.Common.{◌≡◌, ℕ, zero, suc, ◌<◌, ◌≤◌, true, false, not, cond, leb, List, [], ◌∷◌, ◌++◌, map}
use Rattle.std.proofs.Common.{get_or, set, replicate, Option, Some, None, unwrap_or, Ok, refl, ◌∙◌, subst, arith}
use Rattle.std.specs.Prelude.{IfSome}
use Rattle.std.specs.List.{AllByRecursion}
use Rattle.std.proofs.lemmas.Bool.{leb-true}
use Rattle.std.proofs.lemmas.Grind.{common_steps}
use Rattle.std.proofs.Math.ListN.{length-set}
use Rattle.std.proofs.lemmas.List.{length-map, length-replicate}
use Rattle.list_laws.proofs.Each.{each_weaker, each_get_or, each_append}
use Rattle.list_laws.proofs.Truths.{both_true}
use Rattle.rma_types.specs.declared.calls.Call.{Call as MpiCall}
use Rattle.call_rules.specs.Layout.{call_count, memory_of, IsWithinLimits}
use Rattle.call_rules.specs.WellFormed.{IsWrittenCall, IsWellFormed}
use Rattle.script_language.specs.declared.drafts.Draft.{Draft}
use Rattle.script_language.specs.declared.faults.FaultKind.TheVariants.{Limit}
use Rattle.script_language.specs.declared.fields.Fields.{Fields}
use Rattle.script_language.specs.declared.forms.Form.{Form}
use Rattle.script_language.specs.declared.forms.Form.TheVariants.{Ranks, Space, Rank, Repeat, End, Call}
use Rattle.script_language.specs.Calls.{call_of}
use Rattle.script_language.specs.Drafts.{no_lines, is_begun, is_in_repeat, is_in_place, repeat_calls, added_to}
use Rattle.script_language.specs.Drafts.{with_call}
use Rattle.script_language.specs.Drafts.{with_line, script_of, is_within_limits, draft_within_limits}
use Rattle.script_reader.specs.Sound.{IsSoundDraft, IsSoundLine}
use Rattle.script_reader.proofs.Charging.{ok_from_if}
use Rattle.script_reader.proofs.Growing.{length-added_to}
use Rattle.script_reader.proofs.TokenParts.{bound}
use Rattle.script_reader.proofs.CallsWritten.{call_written}

-- ---- lists

all_set : {A : Type 0} (P : A → Type 0) (xs : List A) (i : ℕ) (y : A) → AllByRecursion P xs → P y →
    AllByRecursion P (set xs i y)
all_set P [] i y all here = tt
all_set P (x ∷ xs) zero y all here = (here, all.1)
all_set P (x ∷ xs) (suc i) y all here = (all.0, all_set P xs i y all.1 here)

all_replicate : {A : Type 0} (P : A → Type 0) (n : ℕ) (x : A) → P x → AllByRecursion P (replicate n x)
all_replicate P zero x here = tt
all_replicate P (suc n) x here = (here, all_replicate P n x here)

all_repeated : (P : MpiCall → Type 0) (times : ℕ) (calls : List MpiCall) → AllByRecursion P calls →
    AllByRecursion P (repeat_calls times calls)
all_repeated P zero calls all = tt
all_repeated P (suc times) calls all = each_append P calls (repeat_calls times calls) all
    (all_repeated P times calls all)

all_added : (P : MpiCall → Type 0) (block : List ℕ) (added : List MpiCall) (lists : List (List MpiCall)) →
    AllByRecursion P added → AllByRecursion (AllByRecursion P) lists → AllByRecursion (AllByRecursion P)
    (added_to block added lists)
all_added P [] added lists more all = all
all_added P (rank ∷ block) added lists more all =
    let here : AllByRecursion P (get_or lists rank [] ++ added) = each_append P (get_or lists rank []) added
    (each_get_or (AllByRecursion P) lists rank [] tt all) more in
    all_added P block added (set lists rank (get_or lists rank [] ++ added)) more
    (all_set (AllByRecursion P) lists rank (get_or lists rank [] ++ added) all here)

-- ---- a line

limits_from : (next line : Draft) → draft_within_limits line ≡ Ok next → (line ≡ next) × IsWithinLimits (script_of line)
limits_from next line h =
    let g = ok_from_if (is_within_limits (script_of line)) line next Limit h in
    let b = both_true (leb (call_count (script_of line)) 65536) (leb (memory_of (script_of line)) 65536) g.0 in (
      g.1,
      record {
        calls = leb-true (call_count (script_of line)) 65536 b.0;
        memory = leb-true
            (memory_of (script_of line)) 65536 b.1;
      },
    )

ranks_told : (draft : Draft) → is_begun draft ≡ true → bound draft ≡ draft.ranks
ranks_told draft h = let some = leb-true 1 draft.ranks h in omega arith

ranks_untold : (draft : Draft) → not (is_begun draft) ≡ true → draft.ranks ≡ 0
ranks_untold draft h = grind (arith, common_steps)

call_kept : (draft : Draft) (call : MpiCall) → IsSoundDraft draft → IsWrittenCall call →
    IsWithinLimits (script_of (with_call draft call)) → IsSoundDraft (with_call draft call)
call_kept draft call s written limits =
    elim (is_in_repeat draft) as (λ b. IsWithinLimits
    (script_of (cond b (let inner : Draft = record draft { inside = draft.inside ++ call ∷ [] } in inner)
    (let outer : Draft = record draft { calls = added_to draft.block (call ∷ []) draft.calls } in outer))) →
    IsSoundDraft (cond b (let inner : Draft = record draft { inside = draft.inside ++ call ∷ [] } in inner)
    (let outer : Draft = record draft { calls = added_to draft.block (call ∷ []) draft.calls } in outer))) [
      | true ↦ λ l. record {
        few_ranks = s.few_ranks;
        spaces = s.spaces;
        lists = s.lists;
        few_bytes = s.few_bytes;
        block
            = s.block;
        calls = s.calls;
        inside = each_append IsWrittenCall draft.inside (call ∷ []) s.inside
            (written, tt);
        limits = l;
      }
      | false ↦ λ l. record {
        few_ranks = s.few_ranks;
        spaces = s.spaces;
        lists = length-added_to draft.block
            (call ∷ []) draft.calls ∙ s.lists;
        few_bytes = s.few_bytes;
        block = s.block;
        calls = all_added IsWrittenCall
            draft.block (call ∷ []) draft.calls (written, tt) s.calls;
        inside = s.inside;
        limits = l;
      }
    ] limits

-- the lines so far with a line more
with_kept : (draft : Draft) (form : Form) (fields : Fields) → IsSoundDraft draft → is_in_place draft form ≡ true →
    IsSoundLine (bound draft) fields → IsWithinLimits (script_of (with_line draft form fields)) →
    IsSoundDraft (with_line draft form fields)
with_kept draft Ranks fields s stands f l = record {
  few_ranks = f.directive.few;
  spaces = length-replicate fields.ranks None;
  lists = length-replicate fields.ranks [];
  few_bytes = all_replicate (λ (space : Option ℕ). IfSome space (λ bytes. bytes ≤ 65536)) fields.ranks None tt;
  block = each_weaker (λ rank. rank < draft.ranks) (λ rank. rank < fields.ranks)
      (λ rank below. absurd (let none = ranks_untold draft stands in omega arith)) draft.block s.block;
  calls = all_replicate (AllByRecursion IsWrittenCall) fields.ranks [] tt;
  inside = s.inside;
  limits = l;
}
with_kept draft Space fields s stands f l = record {
  few_ranks = s.few_ranks;
  spaces = length-set draft.spaces fields.owner (Some fields.room) ∙ s.spaces;
  lists = s.lists;
  few_bytes = all_set (λ (space : Option ℕ). IfSome space (λ bytes. bytes ≤ 65536)) draft.spaces fields.owner
      (Some fields.room) s.few_bytes f.directive.room;
  block = s.block;
  calls = s.calls;
  inside = s.inside;
  limits = l;
}
with_kept draft Rank fields s stands f l = record {
  few_ranks = s.few_ranks;
  spaces = s.spaces;
  lists = s.lists;
  few_bytes = s.few_bytes;
  block = (let told = ranks_told draft (both_true (is_begun draft) (not (is_in_repeat draft)) stands).0 in each_weaker
      (λ rank. rank < bound draft) (λ rank. rank < draft.ranks) (λ rank below. omega arith) fields.members
      f.directive.members);
  calls = s.calls;
  inside = s.inside;
  limits = l;
}
with_kept draft Repeat fields s stands f l = record {
  few_ranks = s.few_ranks;
  spaces = s.spaces;
  lists = s.lists;
  few_bytes = s.few_bytes;
  block = s.block;
  calls = s.calls;
  inside = s.inside;
  limits = l;
}
with_kept draft End fields s stands f l = record {
  few_ranks = s.few_ranks;
  spaces = s.spaces;
  lists = length-added_to draft.block (repeat_calls (unwrap_or draft.times 0) draft.inside) draft.calls ∙ s.lists;
  few_bytes = s.few_bytes;
  block = s.block;
  calls = all_added IsWrittenCall draft.block (repeat_calls (unwrap_or draft.times 0) draft.inside) draft.calls
      (all_repeated IsWrittenCall (unwrap_or draft.times 0) draft.inside s.inside) s.calls;
  inside = tt;
  limits = l;
}
with_kept draft (Call form) fields s stands f l = call_kept draft (call_of form fields) s
    (call_written (bound draft) form fields f) l

pub line_kept : (draft next : Draft) (form : Form) (fields : Fields) → IsSoundDraft draft →
    is_in_place draft form ≡ true → IsSoundLine (bound draft) fields →
    draft_within_limits (with_line draft form fields) ≡ Ok next →
    IsSoundDraft next
line_kept draft next form fields s stands f h =
    let l = limits_from next (with_line draft form fields) h in
    subst IsSoundDraft l.0 (with_kept draft form fields s stands f l.1)

pub none_kept : IsSoundDraft no_lines
none_kept = record {
  few_ranks = omega arith;
  spaces = refl;
  lists = refl;
  few_bytes = tt;
  block = tt;
  calls = tt;
  inside = tt;
  limits = record { calls = omega arith; memory = omega arith };
}

-- ---- the end of the text

bytes_kept : (spaces : List (Option ℕ)) → AllByRecursion (λ (space : Option ℕ). IfSome space (λ bytes. bytes ≤ 65536))
    spaces → AllByRecursion (λ bytes. bytes ≤ 65536) (map (λ (space : Option ℕ). unwrap_or space 0) spaces)
bytes_kept [] all = tt
bytes_kept (None ∷ spaces) all = (omega arith, bytes_kept spaces all.1)
bytes_kept (Some bytes ∷ spaces) all = (all.0, bytes_kept spaces all.1)

pub well_formed : (draft : Draft) → IsSoundDraft draft → 1 ≤ draft.ranks → IsWellFormed (script_of draft)
well_formed draft s some = record {
  some_rank = some;
  few_ranks = s.few_ranks;
  spaces = length-map draft.spaces (λ (space : Option ℕ). unwrap_or space 0) ∙ s.spaces;
  lists = s.lists;
  few_bytes = bytes_kept draft.spaces s.few_bytes;
  calls = s.calls;
  limits = s.limits;
}
