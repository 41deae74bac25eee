-- Totals that grow call by call.
use Rattle.std.proofs.Common.{◌≡◌, ℕ, suc, drop, get_or, add-one, drop-cons, ◌+◌, ◌*◌, ◌<◌, ◌≤◌, Bool, true, false}
use Rattle.std.proofs.Common.{◌&&◌, cond, leb, List, [], ◌∷◌, length, Ok, Err, refl, ap, sym, ◌∙◌, arith, ◌⊎◌, inl, inr}
use Rattle.std.proofs.lemmas.Bool.{leb-true, le-leb}
use Rattle.std.proofs.lemmas.Grind.{common_steps}
use Rattle.std.proofs.lemmas.List.Sums.{sum_by-cons}
use Rattle.list_laws.proofs.Truths.{both_true}
use Rattle.rma_types.specs.declared.calls.Call.{Call}
use Rattle.call_rules.specs.Layout.{call_bytes}
use Rattle.script_language.specs.declared.faults.FaultKind.{FaultKind}
use Rattle.script_language.specs.declared.faults.FaultKind.TheVariants.{Limit}
use Rattle.script_reader.specs.declared.totals.Totals.{Totals}
use Rattle.script_reader.specs.Totals.{within_limits, totals_with, totals_behind}

pub ok_from_if : {A E : Type 0} (b : Bool) (x y : A) (e : E) → cond b (Ok x) (Err e) ≡ Ok y → (b ≡ true) × (x ≡ y)
ok_from_if true x y e h = (refl, cc)
ok_from_if false x y e h = absurd cc

pub err_from_if : {A E : Type 0} (b : Bool) (x : A) (e f : E) → cond b (Ok x) (Err e) ≡ Err f → (b ≡ false) × (e ≡ f)
err_from_if true x e f h = absurd cc
err_from_if false x e f h = (refl, cc)

pub one_false : (a b : Bool) → (a && b) ≡ false → (a ≡ false) ⊎ (b ≡ false)
one_false true b e = inr e
one_false false b e = inl refl

-- totals within their limits
pub within_ok : (t u : Totals) → within_limits t ≡ Ok u → (t ≡ u) × (t.calls ≤ 65536) × (t.bytes ≤ 65536)
within_ok t u h =
    let g = ok_from_if (leb t.calls 65536 && leb t.bytes 65536) t u Limit h in
    let b = both_true (leb t.calls 65536) (leb t.bytes 65536) g.0 in
    (g.1, leb-true t.calls 65536 b.0, leb-true t.bytes 65536 b.1)

pub within_yes : (t : Totals) → t.calls ≤ 65536 → t.bytes ≤ 65536 → within_limits t ≡ Ok t
within_yes t calls bytes = rw (le-leb t.calls 65536 calls, le-leb t.bytes 65536 bytes) refl

-- totals past a limit, and those that are not below them
pub within_err : (t u : Totals) (kind : FaultKind) → within_limits t ≡ Err kind → t.calls ≤ u.calls →
    t.bytes ≤ u.bytes → within_limits u ≡ Err kind
within_err t u kind h calls bytes =
    let g = err_from_if (leb t.calls 65536 && leb t.bytes 65536) t Limit kind h in
    elim (one_false (leb t.calls 65536) (leb t.bytes 65536) g.0) [
      | inl past ↦ let more : leb u.calls 65536 ≡ false = grind (arith, common_steps) in rw more
          (ap (λ (k : FaultKind). Err k) g.1)
      | inr past ↦ let more : leb u.bytes 65536 ≡ false = grind (arith, common_steps) in
          let none : (leb u.calls 65536 && leb u.bytes 65536) ≡ false = grind (arith, common_steps) in rw none
          (ap (λ (k : FaultKind). Err k) g.1)
    ]

pub same_totals : (t u : Totals) → t.calls ≡ u.calls → t.bytes ≡ u.bytes → t ≡ u
same_totals t u calls bytes =
    let made : ℕ → ℕ → Totals = λ n m. record { calls = n; bytes = m } in
    ap (λ n. made n t.bytes) calls ∙ ap (λ m. made u.calls m) bytes

-- one call, and then the others
pub one_more : (t : Totals) (ranks times : ℕ) (call : Call) (calls : List Call) → totals_behind t ranks times
    (call ∷ calls) ≡ totals_behind (totals_with t ranks times (times * call_bytes call)) ranks times calls
one_more t ranks times call calls =
    same_totals (totals_behind t ranks times (call ∷ calls))
    (totals_behind (totals_with t ranks times (times * call_bytes call)) ranks times calls)
    (omega arith) (rw (sum_by-cons call_bytes call calls) (omega arith))

pub charged_ok : (t u : Totals) (ranks times : ℕ) (call : Call) (calls : List Call) →
    within_limits (totals_with t ranks times (times * call_bytes call)) ≡ Ok u → totals_behind t ranks times
    (call ∷ calls) ≡ totals_behind u ranks times calls
charged_ok t u ranks times call calls h =
    one_more t ranks times call calls ∙ ap (λ (v : Totals). totals_behind v ranks times calls)
    (within_ok (totals_with t ranks times (times * call_bytes call)) u h).0

pub charged_err : (t : Totals) (kind : FaultKind) (ranks times : ℕ) (call : Call) (calls : List Call) →
    within_limits (totals_with t ranks times (times * call_bytes call)) ≡ Err kind →
    within_limits (totals_behind t ranks times (call ∷ calls)) ≡ Err kind
charged_err t kind ranks times call calls h =
    ap within_limits (one_more t ranks times call calls)
    ∙ within_err (totals_with t ranks times (times * call_bytes call))
    (totals_behind (totals_with t ranks times (times * call_bytes call)) ranks times calls) kind h (omega arith)
    (omega arith)

pub none_more : (t : Totals) (ranks times : ℕ) → totals_behind t ranks times [] ≡ t
none_more t ranks times = same_totals (totals_behind t ranks times []) t (omega arith) (omega arith)

next_call : (calls : List Call) (i : ℕ) (call : Call) → i < length calls → call ≡ get_or calls i call →
    drop i calls ≡ call ∷ drop (i + 1) calls
next_call calls i call within is = rw (add-one, drop-cons calls i call)
    (ap (λ (first : Call). first ∷ drop (suc i) calls) (sym is))

-- a call within the limits, and those that are left
pub behind_ok : (t u : Totals) (ranks times size i : ℕ) (call : Call) (calls : List Call) → i < length calls →
    call ≡ get_or calls i call → size ≡ call_bytes call →
    Ok u ≡ within_limits (totals_with t ranks times (times * size)) →
    within_limits (totals_behind u ranks times (drop (i + 1) calls)) ≡ within_limits
    (totals_behind t ranks times (drop i calls))
behind_ok t u ranks times size i call calls within is same h =
    let here : within_limits (totals_with t ranks times (times * call_bytes call)) ≡ Ok u = rw (← same) (sym h) in
    rw (next_call calls i call within is)
    (ap within_limits (sym (charged_ok t u ranks times call (drop (i + 1) calls) here)))

pub behind_within : (t u : Totals) → Ok u ≡ within_limits t → (u.calls ≤ 65536) × (u.bytes ≤ 65536)
behind_within t u h = let w = within_ok t u (sym h) in (rw (← w.0) w.1, rw (← w.0) w.2)

-- a call past a limit
pub behind_err : (t : Totals) (kind : FaultKind) (ranks times size i : ℕ) (call : Call) (calls : List Call) →
    i < length calls → call ≡ get_or calls i call → size ≡ call_bytes call → Err kind ≡ within_limits
    (totals_with t ranks times (times * size)) → within_limits (totals_behind t ranks times (drop i calls)) ≡ Err kind
behind_err t kind ranks times size i call calls within is same h =
    let here : within_limits (totals_with t ranks times (times * call_bytes call)) ≡ Err kind = rw (← same) (sym h) in
    rw (next_call calls i call within is) (charged_err t kind ranks times call (drop (i + 1) calls) here)

-- no call is left
pub behind_none : (t : Totals) (ranks times i : ℕ) (calls : List Call) → length calls ≤ i → t.calls ≤ 65536 →
    t.bytes ≤ 65536 → within_limits (totals_behind t ranks times (drop i calls)) ≡ Ok t
behind_none t ranks times i calls past few little =
    let none : drop i calls ≡ [] = grind (arith, common_steps) in
    rw none (ap within_limits (none_more t ranks times) ∙ within_yes t few little)
