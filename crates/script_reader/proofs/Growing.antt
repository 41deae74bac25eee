-- Lists of calls that grow, and their totals.
use Rattle.std.proofs.Common.{◌≡◌, ℕ, zero, suc, ◌+◌, ◌*◌, ◌<◌, Bool, true, false, ◌&&◌, cond, leb, List, [], ◌∷◌, ◌++◌}
use Rattle.std.proofs.Common.{map, length, get_or, set, replicate, Option, Some, None, unwrap_or, Ok, Err, refl, ap}
use Rattle.std.proofs.Common.{sym, ◌∙◌, arith, sum_by, add-one, append_assoc, append-nil, subst, length-append}
use Rattle.std.specs.List.{AllByRecursion, zip}
use Rattle.std.proofs.lemmas.Grind.{common_steps}
use Rattle.std.proofs.lemmas.List.Sums.{sum_by-cons, sum_by-append, sum_by-set}
use Rattle.std.proofs.Math.ListN.{length-set}
use Rattle.rma_types.specs.declared.calls.Call.{Call}
use Rattle.call_rules.specs.Layout.{round_up, call_bytes, memory_bytes}
use Rattle.script_language.specs.declared.drafts.Draft.{Draft}
use Rattle.script_language.specs.declared.faults.FaultKind.{FaultKind}
use Rattle.script_language.specs.declared.faults.FaultKind.TheVariants.{Limit}
use Rattle.script_language.specs.declared.fields.Fields.{Fields}
use Rattle.script_language.specs.Drafts.{repeat_calls, added_to, draft_within_limits}
use Rattle.script_reader.specs.declared.totals.Totals.{Totals}
use Rattle.script_reader.specs.Sound.{IsSoundDraft, IsNewSpace}
use Rattle.script_reader.proofs.Charging.{same_totals}
use Rattle.script_reader.specs.Totals.{totals_of, within_limits, totals_with, totals_behind}

repeated_suc : (times : ℕ) (calls : List Call) → repeat_calls (suc times) calls ≡ repeat_calls times calls ++ calls
repeated_suc zero calls = append-nil calls
repeated_suc (suc times) calls =
    ap (λ (xs : List Call). calls ++ xs) (repeated_suc times calls)
    ∙ sym (append_assoc calls (repeat_calls times calls) calls)

pub repeated_more : (times : ℕ) (calls : List Call) → repeat_calls (times + 1) calls ≡ repeat_calls times calls ++ calls
repeated_more times calls = ap (λ (n : ℕ). repeat_calls n calls) (add-one times) ∙ repeated_suc times calls

-- ---- sums over lists that grow

abbrev Adds : (List Call → ℕ) → Type 0
Adds f = (xs ys : List Call) → f (xs ++ ys) ≡ f xs + f ys

repeated_sum : (f : List Call → ℕ) → f [] ≡ 0 → Adds f → (times : ℕ) (calls : List Call) →
    f (repeat_calls times calls) ≡ times * f calls
repeated_sum f none adds zero calls = omega (arith, none)
repeated_sum f none adds (suc times) calls =
    let rest = repeated_sum f none adds times calls in
    let first = adds calls (repeat_calls times calls) in
    omega arith

pub kept_below : (block : List ℕ) (n m : ℕ) → n ≡ m → AllByRecursion (λ rank. rank < n) block →
    AllByRecursion (λ rank. rank < m) block
kept_below block n m same all = subst (λ k. AllByRecursion (λ rank. rank < k) block) same all

pub length-added_to : (block : List ℕ) (added : List Call) (lists : List (List Call)) →
    length (added_to block added lists) ≡ length lists
length-added_to [] added lists = refl
length-added_to (rank ∷ block) added lists =
    length-added_to block added (set lists rank (get_or lists rank [] ++ added))
    ∙ length-set lists rank (get_or lists rank [] ++ added)

added_sum : (f : List Call → ℕ) → Adds f → (block : List ℕ) (added : List Call) (lists : List (List Call)) →
    AllByRecursion (λ rank. rank < length lists) block → sum_by f (added_to block added lists) ≡ sum_by f lists + length
    block * f added
added_sum f adds [] added lists all = omega arith
added_sum f adds (rank ∷ block) added lists all =
    let next : List (List Call) = set lists rank (get_or lists rank [] ++ added) in
    let same : length lists ≡ length next = sym (length-set lists rank (get_or lists rank [] ++ added)) in
    let rest = added_sum f adds block added next (kept_below block (length lists) (length next) same all.1) in
    let here = sum_by-set f lists rank (get_or lists rank [] ++ added) [] all.0 in
    let more = adds (get_or lists rank []) added in
    omega arith

abbrev space_of : Option ℕ → ℕ
space_of space = round_up (unwrap_or space 0)

memory_split : (spaces : List (Option ℕ)) (lists : List (List Call)) → length spaces ≡ length lists →
    sum_by (λ rank. memory_bytes rank.0 rank.1) (zip (map (λ (space : Option ℕ). unwrap_or space 0) spaces) lists) ≡
    sum_by space_of spaces + sum_by (sum_by call_bytes) lists
memory_split [] [] e = omega arith
memory_split [] (calls ∷ lists) e = absurd (omega arith)
memory_split (space ∷ spaces) [] e = absurd (omega arith)
memory_split (space ∷ spaces) (calls ∷ lists) e =
    let rest = memory_split spaces lists (omega arith) in
    let P : ℕ × List Call → ℕ = λ rank. memory_bytes rank.0 rank.1 in
    let all = sum_by-cons P (unwrap_or space 0, calls) (zip (map (λ (s : Option ℕ). unwrap_or s 0) spaces) lists) in
    let first = sum_by-cons space_of space spaces in
    let second = sum_by-cons (sum_by call_bytes) calls lists in
    omega arith

-- the totals of the lines so far, with calls at each rank of the block
totals_added : (draft : Draft) (added : List Call) (lists : List (List Call)) → IsSoundDraft draft →
    lists ≡ added_to draft.block added draft.calls → (next : Draft) → next.spaces ≡ draft.spaces → next.calls ≡ lists →
    totals_of next ≡ totals_with (totals_of draft) (length draft.block) (length added) (sum_by call_bytes added)
totals_added draft added lists sound e next spaces calls =
    let block : AllByRecursion (λ rank. rank < length draft.calls) draft.block = kept_below draft.block draft.ranks
    (length draft.calls) (sym sound.lists) sound.block in
    let counted = added_sum length (λ xs ys. length-append xs ys) draft.block added draft.calls block in
    let sized = added_sum (sum_by call_bytes) (λ xs ys. sum_by-append call_bytes xs ys) draft.block added draft.calls
    block in
    let before = memory_split draft.spaces draft.calls (sound.spaces ∙ sym sound.lists) in
    let long : length draft.spaces ≡ length (added_to draft.block added draft.calls) = sound.spaces
    ∙ (sym sound.lists ∙ sym (length-added_to draft.block added draft.calls)) in
    let after = memory_split draft.spaces (added_to draft.block added draft.calls) long in
    same_totals (totals_of next) (totals_with (totals_of draft) (length draft.block) (length added)
    (sum_by call_bytes added))
    (rw (calls, e) (omega arith))
    (rw (spaces, calls, e) (omega arith))

pub totals_of_call : (draft : Draft) (call : Call) → IsSoundDraft draft → (next : Draft) → next.spaces ≡ draft.spaces →
    next.calls ≡ added_to draft.block (call ∷ []) draft.calls → totals_of next ≡ totals_with (totals_of draft)
    (length draft.block) 1 (call_bytes call)
totals_of_call draft call sound next spaces calls =
    totals_added draft (call ∷ []) (added_to draft.block (call ∷ []) draft.calls) sound refl next spaces calls
    ∙ same_totals (totals_with (totals_of draft) (length draft.block) 1 (sum_by call_bytes (call ∷ [])))
    (totals_with (totals_of draft) (length draft.block) 1 (call_bytes call)) refl (omega arith)

pub totals_of_repeat : (draft : Draft) (times : ℕ) (inside : List Call) → IsSoundDraft draft → (next : Draft) →
    next.spaces ≡ draft.spaces → next.calls ≡ added_to draft.block (repeat_calls times inside) draft.calls →
    totals_of next ≡ totals_behind (totals_of draft) (length draft.block) times inside
totals_of_repeat draft times inside sound next spaces calls =
    let long = repeated_sum length refl (λ xs ys. length-append xs ys) times inside in
    let large = repeated_sum (sum_by call_bytes) refl (λ xs ys. sum_by-append call_bytes xs ys) times inside in
    totals_added draft (repeat_calls times inside) (added_to draft.block (repeat_calls times inside) draft.calls)
    sound refl
    next spaces calls
    ∙ same_totals (totals_with (totals_of draft) (length draft.block) (length (repeat_calls times inside))
    (sum_by call_bytes (repeat_calls times inside))) (totals_behind (totals_of draft) (length draft.block) times inside)
    (rw long refl) (rw large refl)

pub totals_of_space : (draft : Draft) (fields : Fields) → IsSoundDraft draft → IsNewSpace draft fields →
    (next : Draft) → next.calls ≡ draft.calls → next.spaces ≡ set draft.spaces fields.owner (Some fields.room) →
    totals_of next ≡ totals_with (totals_of draft) 1 0 (round_up fields.room)
totals_of_space draft fields sound new next calls spaces =
    let within : fields.owner < length draft.spaces = (let n = new.owner in let l = sound.spaces in omega arith) in
    let here = sum_by-set space_of draft.spaces fields.owner (Some fields.room) None within in
    let gone : get_or draft.spaces fields.owner None ≡ None = new.none in
    let nothing : space_of (get_or draft.spaces fields.owner None) ≡ 0 = rw gone refl in
    let before = memory_split draft.spaces draft.calls (sound.spaces ∙ sym sound.lists) in
    let long : length (set draft.spaces fields.owner (Some fields.room)) ≡ length draft.calls = length-set draft.spaces
    fields.owner (Some fields.room) ∙ (sound.spaces ∙ sym sound.lists) in
    let after = memory_split (set draft.spaces fields.owner (Some fields.room)) draft.calls long in
    same_totals (totals_of next) (totals_with (totals_of draft) 1 0 (round_up fields.room)) (rw calls (omega arith))
    (rw (calls, spaces) (omega arith))

no_calls_sum : (f : List Call → ℕ) → f [] ≡ 0 → (n : ℕ) → sum_by f (replicate n []) ≡ 0
no_calls_sum f none zero = refl
no_calls_sum f none (suc n) = let rest = no_calls_sum f none n in let first = sum_by-cons f [] (replicate n []) in omega
    arith

no_space_sum : (n : ℕ) → sum_by space_of (replicate n None) ≡ 0
no_space_sum zero = refl
no_space_sum (suc n) = let rest = no_space_sum n in let first = sum_by-cons space_of None (replicate n None) in omega
    arith

pub totals_of_ranks : (next : Draft) (ranks : ℕ) → next.spaces ≡ replicate ranks None →
    next.calls ≡ replicate ranks [] → totals_of next ≡ record { calls = 0; bytes = 0 }
totals_of_ranks next ranks spaces calls =
    let counted = no_calls_sum length refl ranks in
    let sized = no_calls_sum (sum_by call_bytes) refl ranks in
    let roomed = no_space_sum ranks in
    let long : length (replicate {A = Option ℕ} ranks None) ≡ length (replicate {A = List Call} ranks []) = grind
    (arith, common_steps) in
    let split = memory_split (replicate ranks None) (replicate ranks []) long in
    same_totals (totals_of next) (record { calls = 0; bytes = 0 }) (rw calls (omega arith))
    (rw (spaces, calls) (omega arith))

-- ---- the test at the end of a line

limited_from : (next : Draft) (t : Totals) → totals_of next ≡ t →
    draft_within_limits next ≡ cond (leb t.calls 65536 && leb t.bytes 65536) (Ok next) (Err Limit)
limited_from next t e = ap (λ (v : Totals). cond (leb v.calls 65536 && leb v.bytes 65536) (Ok next) (Err Limit)) e

chosen_too : (b : Bool) (t u : Totals) (next : Draft) → cond b (Ok t) (Err Limit) ≡ Ok u →
    cond b (Ok next) (Err Limit) ≡ Ok next
chosen_too true t u next h = refl
chosen_too false t u next h = absurd cc

refused_too : (b : Bool) (t : Totals) (kind : FaultKind) (next : Draft) → cond b (Ok t) (Err Limit) ≡ Err kind →
    cond b (Ok next) (Err Limit) ≡ Err kind
refused_too true t kind next h = absurd cc
refused_too false t kind next h = let same : Limit ≡ kind = cc in ap (λ (k : FaultKind). Err k) same

-- the test of the totals is the test of the lines
pub limited_ok : (next : Draft) (t u : Totals) → totals_of next ≡ t → Ok u ≡ within_limits t →
    draft_within_limits next ≡ Ok next
limited_ok next t u e h = limited_from next t e ∙ chosen_too (leb t.calls 65536 && leb t.bytes 65536) t u next (sym h)

pub limited_err : (next : Draft) (t : Totals) (kind : FaultKind) → totals_of next ≡ t → Err kind ≡ within_limits t →
    draft_within_limits next ≡ Err kind
limited_err next t kind e h = limited_from next t e ∙ refused_too (leb t.calls 65536 && leb t.bytes 65536) t kind next
    (sym h)
