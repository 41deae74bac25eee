-- The totals of a part of a script are within the limits that the script keeps.
use Rattle.std.proofs.Common.{◌≡◌, ℕ, ◌+◌, ◌≤◌, Bool, true, cond, List, [], ◌∷◌, ◌++◌, length, map, Option, None, Ok}
use Rattle.std.proofs.Common.{Err, refl, ap, sym, ◌∙◌, arith, append_assoc, length-append}
use Rattle.std.specs.Prelude.{sum_by, unwrap_or}
use Rattle.std.specs.List.{zip}
use Rattle.std.proofs.lemmas.Bool.{le-leb}
use Rattle.std.proofs.lemmas.List.{append-nil}
use Rattle.std.proofs.lemmas.List.Sums.{sum_by-cons, sum_by-append}
use Rattle.rma_types.specs.declared.calls.Call.{Call}
use Rattle.rma_types.specs.declared.scripts.Script.{Script}
use Rattle.call_rules.specs.Layout.{round_up, call_bytes, memory_bytes, memory_of, call_count, IsWithinLimits}
use Rattle.script_language.specs.declared.drafts.Draft.{Draft}
use Rattle.script_language.specs.declared.faults.FaultKind.TheVariants.{Limit}
use Rattle.script_language.specs.Drafts.{script_of, is_within_limits, draft_within_limits}

-- as many elements, the same one each
abbrev pub blanks : {A B : Type 0} → B → List A → List B
blanks b [] = []
blanks b (x ∷ xs) = b ∷ blanks b xs

-- each space is at most the other
abbrev pub AreBelow : List ℕ → List ℕ → Type 0
AreBelow [] [] = Unit {0}
AreBelow [] (y ∷ ys) = ⊥
AreBelow (x ∷ xs) [] = ⊥
AreBelow (x ∷ xs) (y ∷ ys) = (x ≤ y) × AreBelow xs ys

-- the other list goes on with further calls
abbrev pub IsFront : List Call → List Call → Type 0
IsFront calls whole = (others : List Call) × (calls ++ others ≡ whole)

-- each list of calls is a front of the other
abbrev pub AreFronts : List (List Call) → List (List Call) → Type 0
AreFronts [] [] = Unit {0}
AreFronts [] (y ∷ ys) = ⊥
AreFronts (x ∷ xs) [] = ⊥
AreFronts (x ∷ xs) (y ∷ ys) = IsFront x y × AreFronts xs ys

pub below_self : (xs : List ℕ) → AreBelow xs xs
below_self [] = tt
below_self (x ∷ xs) = (omega arith, below_self xs)

front_length : (calls whole : List Call) → IsFront calls whole → length calls ≤ length whole
front_length calls whole front = rw (← front.1, length-append calls front.0) (omega arith)

front_bytes : (calls whole : List Call) → IsFront calls whole → sum_by call_bytes calls ≤ sum_by call_bytes whole
front_bytes calls whole front =
    let both : sum_by call_bytes (calls ++ front.0) ≡ sum_by call_bytes calls + sum_by call_bytes front.0 =
    sum_by-append call_bytes calls front.0 in
    let same : sum_by call_bytes (calls ++ front.0) ≡ sum_by call_bytes whole = ap (sum_by call_bytes) front.1 in
    omega arith

rounded_below : (a b : ℕ) → a ≤ b → round_up a ≤ round_up b
rounded_below a b h = omega arith

counts_below : (xs ys : List (List Call)) → AreFronts xs ys → sum_by length xs ≤ sum_by length ys
counts_below [] [] fronts = omega arith
counts_below [] (y ∷ ys) fronts = absurd fronts
counts_below (x ∷ xs) [] fronts = absurd fronts
counts_below (x ∷ xs) (y ∷ ys) fronts =
    let first = front_length x y fronts.0 in
    let others = counts_below xs ys fronts.1 in
    let a : sum_by length (x ∷ xs) ≡ length x + sum_by length xs = sum_by-cons length x xs in
    let b : sum_by length (y ∷ ys) ≡ length y + sum_by length ys = sum_by-cons length y ys in
    omega arith

-- the bytes of the memory of ranks with these spaces and these calls
abbrev bytes_of : List ℕ → List (List Call) → ℕ
bytes_of spaces lists = sum_by (λ rank. memory_bytes rank.0 rank.1) (zip spaces lists)

bytes_first : (space : ℕ) (spaces : List ℕ) (calls : List Call) (lists : List (List Call)) → bytes_of (space ∷ spaces)
    (calls ∷ lists) ≡ memory_bytes space calls + bytes_of spaces lists
bytes_first space spaces calls lists = sum_by-cons {X = ℕ × List Call} (λ rank. memory_bytes rank.0 rank.1)
    (space, calls) (zip spaces lists)

bytes_below : (spaces most : List ℕ) (xs ys : List (List Call)) → AreBelow spaces most → AreFronts xs ys →
    bytes_of spaces xs ≤ bytes_of most ys
bytes_below [] [] xs ys below fronts = omega arith
bytes_below [] (m ∷ most) xs ys below fronts = absurd below
bytes_below (s ∷ spaces) [] xs ys below fronts = absurd below
bytes_below (s ∷ spaces) (m ∷ most) [] [] below fronts = omega arith
bytes_below (s ∷ spaces) (m ∷ most) [] (y ∷ ys) below fronts = absurd fronts
bytes_below (s ∷ spaces) (m ∷ most) (x ∷ xs) [] below fronts = absurd fronts
bytes_below (s ∷ spaces) (m ∷ most) (x ∷ xs) (y ∷ ys) below fronts =
    let room = rounded_below s m below.0 in
    let first = front_bytes x y fronts.0 in
    let others = bytes_below spaces most xs ys below.1 fronts.1 in
    let a = bytes_first s spaces x xs in
    let b = bytes_first m most y ys in
    omega arith

-- what the lines say so far is a part of the script, so its totals are within their limits
pub part_limited : (draft : Draft) (script : Script) → IsWithinLimits script →
    AreBelow (script_of draft).spaces script.spaces → AreFronts draft.calls script.calls → draft_within_limits draft
    ≡ Ok draft
part_limited draft script limits below fronts =
    let some = counts_below draft.calls script.calls fronts in
    let bytes = bytes_below (script_of draft).spaces script.spaces draft.calls script.calls below fronts in
    let few : call_count (script_of draft) ≤ 65536 = (let most = limits.calls in omega arith) in
    let small : memory_of (script_of draft) ≤ 65536 = (let most = limits.memory in omega arith) in
    let test : is_within_limits (script_of draft) ≡ true = rw
    (le-leb (call_count (script_of draft)) 65536 few, le-leb (memory_of (script_of draft)) 65536 small) refl in
    ap (λ (b : Bool). cond b (Ok draft) (Err Limit)) test

-- ---- parts of lists

-- the space that a rank has behind its line, or without one
abbrev pub space_of : Option ℕ → ℕ
space_of space = unwrap_or space 0

fewer_spaces : (rest : List (Option ℕ)) (most : List ℕ) → AreBelow (map space_of rest) most →
    AreBelow (map space_of (blanks None rest)) most
fewer_spaces [] most below = below
fewer_spaces (x ∷ rest) [] below = absurd below
fewer_spaces (x ∷ rest) (m ∷ most) below = (omega arith, fewer_spaces rest most below.1)

pub fewer_spaces_behind : (done rest : List (Option ℕ)) (most : List ℕ) → AreBelow (map space_of (done ++ rest)) most →
    AreBelow (map space_of (done ++ blanks None rest)) most
fewer_spaces_behind [] rest most below = fewer_spaces rest most below
fewer_spaces_behind (x ∷ done) rest [] below = absurd below
fewer_spaces_behind (x ∷ done) rest (m ∷ most) below = (below.0, fewer_spaces_behind done rest most below.1)

pub no_calls : (rest whole : List (List Call)) → AreFronts rest whole → AreFronts (blanks [] rest) whole
no_calls [] whole fronts = fronts
no_calls (x ∷ rest) [] fronts = absurd fronts
no_calls (x ∷ rest) (y ∷ whole) fronts = ((y, refl), no_calls rest whole fronts.1)

pub fronts_self : (lists : List (List Call)) → AreFronts lists lists
fronts_self [] = tt
fronts_self (x ∷ lists) = (([], append-nil x), fronts_self lists)

-- a part of the calls of a rank, and none of those of the ranks behind it
pub fewer_calls : (done : List (List Call)) (now more : List Call) (rest whole : List (List Call)) →
    AreFronts (done ++ (now ++ more) ∷ rest) whole → AreFronts (done ++ now ∷ blanks [] rest) whole
fewer_calls [] now more rest [] fronts = absurd fronts
fewer_calls [] now more rest (y ∷ whole) fronts =
    ((more ++ fronts.0.0, sym (append_assoc now more fronts.0.0) ∙ fronts.0.1), no_calls rest whole fronts.1)
fewer_calls (x ∷ done) now more rest [] fronts = absurd fronts
fewer_calls (x ∷ done) now more rest (y ∷ whole) fronts = (fronts.0, fewer_calls done now more rest whole fronts.1)

pub no_spaces : (most : List ℕ) → AreBelow (map space_of (blanks None most)) most
no_spaces [] = tt
no_spaces (m ∷ most) = (omega arith, no_spaces most)
