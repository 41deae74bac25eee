-- What the lines say so far, where a line may stand, and what it adds.
use Rattle.std.specs.Prelude.{ℕ, zero, suc, Bool, not, ◌&&◌, nat_le, if◌then◌else◌, List, [], ◌∷◌, ◌++◌, length, map}
use Rattle.std.specs.Prelude.{replicate, slice_set, slice_index_or, Option, Some, None, unwrap_or, is_some, Result, Ok}
use Rattle.std.specs.Prelude.{Err}
use Rattle.rma_types.specs.declared.calls.Call.{Call as MpiCall}
use Rattle.rma_types.specs.declared.scripts.Script.{Script}
use Rattle.call_rules.specs.Layout.{call_count, memory_of}
use Rattle.script_language.specs.declared.drafts.Draft.{Draft}
use Rattle.script_language.specs.declared.faults.FaultKind.{FaultKind}
use Rattle.script_language.specs.declared.faults.FaultKind.TheVariants.{Shape, Limit}
use Rattle.script_language.specs.declared.fields.Fields.{Fields}
use Rattle.script_language.specs.declared.forms.Form.{Form}
use Rattle.script_language.specs.declared.forms.Form.TheVariants.{Ranks, Space, Rank, Repeat, End, Call}
use Rattle.script_language.specs.Calls.{call_of}

-- before the first line
abbrev pub no_lines : Draft
no_lines = record { ranks = 0; spaces = []; calls = []; block = []; times = None; inside = [] }

-- the number of ranks is known
abbrev pub is_begun : Draft → Bool
is_begun draft = nat_le 1 draft.ranks

-- a block of a rank has begun
abbrev pub is_in_block : Draft → Bool
is_in_block draft = nat_le 1 (length draft.block)

-- a repeat is open
abbrev pub is_in_repeat : Draft → Bool
is_in_repeat draft = is_some draft.times

-- where a line of a form may stand
abbrev pub is_in_place : Draft → Form → Bool
is_in_place draft Ranks = not (is_begun draft)
is_in_place draft Space = is_begun draft && not (is_in_block draft)
is_in_place draft Rank = is_begun draft && not (is_in_repeat draft)
is_in_place draft Repeat = is_in_block draft && not (is_in_repeat draft)
is_in_place draft End = is_in_repeat draft
is_in_place draft (Call form) = is_in_block draft

-- as many copies of the calls, one after the other
abbrev pub repeat_calls : ℕ → List MpiCall → List MpiCall
repeat_calls zero calls = []
repeat_calls (suc times) calls = calls ++ repeat_calls times calls

-- the lists of all ranks, with the calls behind those of each rank of the block
abbrev pub added_to : List ℕ → List MpiCall → List (List MpiCall) → List (List MpiCall)
added_to [] added lists = lists
added_to (rank ∷ block) added lists =
    added_to block added (slice_set lists rank (slice_index_or lists rank [] ++ added))

-- a call stands in the present repeat, or else behind the calls of each rank of the block
abbrev pub with_call : Draft → MpiCall → Draft
with_call draft call =
    if is_in_repeat draft
    then record draft { inside = draft.inside ++ call ∷ [] }
    else record draft { calls = added_to draft.block (call ∷ []) draft.calls }

-- what a line adds
abbrev pub with_line : Draft → Form → Fields → Draft
with_line draft Ranks fields =
    record draft { ranks = fields.ranks; spaces = replicate fields.ranks None; calls = replicate fields.ranks [] }
with_line draft Space fields = record draft { spaces = slice_set draft.spaces fields.owner (Some fields.room) }
with_line draft Rank fields = record draft { block = fields.members }
with_line draft Repeat fields = record draft { times = Some fields.times }
with_line draft End fields =
    record draft {
      calls = added_to draft.block (repeat_calls (unwrap_or draft.times 0) draft.inside) draft.calls;
      times = None;
      inside = [];
    }
with_line draft (Call form) fields = with_call draft (call_of form fields)

-- the script that the lines say; a rank without a space line has no space
abbrev pub script_of : Draft → Script
script_of draft = record {
  ranks = draft.ranks;
  spaces = map (λ (space : Option ℕ). unwrap_or space 0) draft.spaces;
  calls = draft.calls;
}

-- the totals are within their limits
abbrev pub is_within_limits : Script → Bool
is_within_limits script = nat_le (call_count script) 65536 && nat_le (memory_of script) 65536

abbrev pub draft_within_limits : Draft → Result Draft FaultKind
draft_within_limits draft = if is_within_limits (script_of draft) then Ok draft else Err Limit

-- at the end of the text the number of ranks is known, and no repeat is open
abbrev pub script_at_end : Draft → Result Script FaultKind
script_at_end draft = if is_begun draft && not (is_in_repeat draft) then Ok (script_of draft) else Err Shape
