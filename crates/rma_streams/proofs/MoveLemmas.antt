-- Bytes that move in several steps.
use Rattle.std.proofs.Common.{◌≡◌, ℕ, ◌+◌, ◌-◌, ◌≤◌, Option, Some, None, List, ◌++◌, length}
use Rattle.std.proofs.Common.{take, drop, sym, ap, ◌∙◌, subst, arith, append_assoc}
use Rattle.std.specs.Option.{option_map}
use Rattle.std.proofs.Math.Seq.{take-append_seam, take-add}
use Rattle.std.proofs.lemmas.List.{take-append-drop, drop-drop, length-drop, length-take-le, take_rest}
use Rattle.rma_streams.specs.Moves.{Took, Wrote}

-- two takes in a row
pub Took-append : (old : Option (List ℕ)) (first : List ℕ) (mid : Option (List ℕ)) (second : List ℕ)
    (new : Option (List ℕ)) → Took old first mid → Took mid second new → Took old (first ++ second) new
Took-append old first mid second None took then = took ∙ ap (λ m. option_map (λ rest. first ++ rest) m) then
Took-append old first mid second (Some rest) took then =
    took ∙ ap (λ m. option_map (λ rest. first ++ rest) m) then ∙ ap Some (sym (append_assoc first second rest))

-- two writes in a row
pub Wrote-append : (old : Option (List ℕ)) (first : List ℕ) (mid : Option (List ℕ)) (second : List ℕ)
    (new : Option (List ℕ)) → Wrote old first mid → Wrote mid second new → Wrote old (first ++ second) new
Wrote-append None first mid second new wrote then = then ∙ ap (λ m. option_map (λ held. held ++ second) m) wrote
Wrote-append (Some held) first mid second new wrote then =
    then ∙ ap (λ m. option_map (λ h. h ++ second) m) wrote ∙ ap Some (append_assoc held first second)

-- what was copied to the front of a buffer is its first n bytes
pub take-copied : (n : ℕ) (copied buf : List ℕ) → length copied ≡ n → take n (copied ++ buf) ≡ copied
take-copied n copied buf e = subst (λ (m : ℕ). take m (copied ++ buf) ≡ copied) e (take-append_seam copied buf)

-- the bytes from a place on are the next n, which were copied to the front of a buffer, and those after them
pub drop-copied : (old bytes whole : List ℕ) (at n : ℕ) (copied buf : List ℕ) → drop at bytes ≡ old → whole ≡ bytes →
    at + n ≤ length bytes → copied ≡ take (at + n - at) (drop at whole) → old ≡ take n (copied ++ buf) ++ drop
    (at + n) bytes
drop-copied old bytes whole at n copied buf view same within e =
    let count : at + n - at ≡ n = omega arith in
    let room : n ≤ length (drop at bytes) = simp length-drop (omega arith) in
    let is_copied : copied ≡ take n (drop at bytes) =
    e ∙ ap (λ (m : ℕ). take m (drop at whole)) count ∙ ap (λ (xs : List ℕ). take n (drop at xs)) same in
    let size : length copied ≡ n = ap (length {A = ℕ}) is_copied ∙ length-take-le n (drop at bytes) room in
    sym view ∙ sym (take-append-drop n (drop at bytes))
    ∙ ap (λ (xs : List ℕ). take n (drop at bytes) ++ xs) (drop-drop n at bytes)
    ∙ ap (λ (xs : List ℕ). xs ++ drop (at + n) bytes) (sym is_copied ∙ sym (take-copied n copied buf size))

-- one write more, of the bytes that were left: the first bytes grew by those written
pub Wrote-more : (old mid new : Option (List ℕ)) (bytes : List ℕ) (done n : ℕ) → Wrote old (take done bytes) mid →
    Wrote mid (take n (take (length bytes - done) (drop done bytes))) new → Wrote old (take (done + n) bytes) new
Wrote-more old mid new bytes done n wrote then =
    let whole : take done bytes ++ take n (take (length bytes - done) (drop done bytes)) ≡ take (done + n) bytes =
    ap (λ (xs : List ℕ). take done bytes ++ take n xs) (take_rest bytes done) ∙ sym (take-add done n bytes) in
    subst (λ (xs : List ℕ). Wrote old xs new) whole
    (Wrote-append old (take done bytes) mid (take n (take (length bytes - done) (drop done bytes))) new wrote then)
