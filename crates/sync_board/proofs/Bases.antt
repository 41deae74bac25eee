-- Searches among the bases of a rank's allocates.
use Rattle.std.proofs.Common.{◌≡◌, ℕ, zero, suc, ◌<◌, ◌≤◌, Bool, true, false, eqb, ltb, List, [], ◌∷◌, length, get_or}
use Rattle.std.proofs.Common.{refl, ap, arith, Some, None, ⊎_elim}
use Rattle.std.specs.List.{find}
use Rattle.std.specs.List.Sorted.{IsPartitionPoint}
use Rattle.std.specs.Option.{option_map_or}
use Rattle.std.proofs.lemmas.Bool.{cases_lt, eq-eqb, ltb-false, ltb-true, ne_eqb}
use Rattle.rma_types.specs.declared.scripts.CallBase.{CallBase}
use Rattle.sync_board.specs.KeptParts.{IsInOrder, base_for}

pub find_first : {X : Type 0} (p : X → Bool) (xs : List X) (at : ℕ) (d : X) → at < length xs →
    ((k : ℕ) → k < at → p (get_or xs k d) ≡ false) → p (get_or xs at d) ≡ true → find p xs ≡ Some (get_or xs at d)
find_first p [] at d within before here = absurd (omega arith)
find_first p (x ∷ xs) zero d within before here = rw here refl
find_first p (x ∷ xs) (suc at) d within before here =
    let first : p x ≡ false = before 0 (omega arith) in
    rw first (find_first p xs at d (omega arith) (λ k below. before (suc k) (omega arith)) here)

pub find_none : {X : Type 0} (p : X → Bool) (xs : List X) (d : X) →
    ((k : ℕ) → k < length xs → p (get_or xs k d) ≡ false) → find p xs ≡ None
find_none p [] d none = refl
find_none p (x ∷ xs) d none =
    let first : p x ≡ false = none 0 (omega arith) in
    rw first (find_none p xs d (λ k below. none (suc k) (omega arith)))

-- ---- the base for a call

pub base_found : (bases : List CallBase) (number at : ℕ) (d : CallBase) → at < length bases →
    ((k : ℕ) → k < at → eqb (get_or bases k d).call number ≡ false) → eqb (get_or bases at d).call number ≡ true →
    base_for bases number ≡ (get_or bases at d).base
base_found bases number at d within before here =
    ap (λ o. option_map_or (λ (one : CallBase). one.base) o 0)
    (find_first (λ (one : CallBase). eqb one.call number) bases at d within before here)

pub base_missing : (bases : List CallBase) (number : ℕ) (d : CallBase) →
    ((k : ℕ) → k < length bases → eqb (get_or bases k d).call number ≡ false) → base_for bases number ≡ 0
base_missing bases number d none =
    ap (λ o. option_map_or (λ (one : CallBase). one.base) o 0)
    (find_none (λ (one : CallBase). eqb one.call number) bases d none)

-- the first base that is not below the number
abbrev pub IsFirst : List CallBase → ℕ → ℕ → Type 0
IsFirst bases number at = IsPartitionPoint (λ (one : CallBase). ltb one.call number ≡ true)
    (λ (one : CallBase). ltb one.call number ≡ false) bases at

below_first : (bases : List CallBase) (number at k : ℕ) (d : CallBase) → IsFirst bases number at → k < at →
    eqb (get_or bases k d).call number ≡ false
below_first bases number at k d first below =
    let less : (get_or bases k d).call < number = ltb-true (get_or bases k d).call number
    (first.0 k d (omega arith) below) in
    ne_eqb (get_or bases k d).call number (λ e. absurd (omega arith))

pub searched_there : (bases : List CallBase) (number at : ℕ) (d : CallBase) → IsFirst bases number at →
    at < length bases →
    (get_or bases at d).call ≡ number → base_for bases number ≡ (get_or bases at d).base
searched_there bases number at d first within here =
    base_found bases number at d within (λ k below. below_first bases number at k d first below)
    (eq-eqb (get_or bases at d).call number here)

pub searched_past : (bases : List CallBase) (number at : ℕ) (d : CallBase) → IsFirst bases number at → IsInOrder bases →
    at < length bases →
    ((get_or bases at d).call ≡ number → ⊥) → base_for bases number ≡ 0
searched_past bases number at d first order within other = base_missing bases number d (λ k high. ⊎_elim
    (λ below. below_first bases number at k d first below)
    (λ past.
    let rises : (get_or bases at d).call ≤ (get_or bases k d).call = order at k d past high in
    let reached : number ≤ (get_or bases at d).call = ltb-false (get_or bases at d).call number
    (first.1 at d (omega arith) within) in
    ne_eqb (get_or bases k d).call number (λ e. other (omega arith)))
    (cases_lt k at))

pub searched_end : (bases : List CallBase) (number at : ℕ) (d : CallBase) → IsFirst bases number at →
    length bases ≤ at → base_for bases number ≡ 0
searched_end bases number at d first past =
    base_missing bases number d (λ k high. below_first bases number at k d first (omega arith))
