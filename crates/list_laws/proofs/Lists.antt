-- Lists that are joined, parts of lists, and the element at a place.
use Rattle.std.proofs.Common.{List, ℕ, ◌≡◌, Some, [], ◌∷◌, zero, suc, ◌++◌, length, refl, ap, ◌<◌, arith, take, ◌≤◌}
use Rattle.std.proofs.Common.{get_or, reverse, None}
use Rattle.std.proofs.lemmas.List.{reverse-append}
use Rattle.std.specs.Prelude.{slice_get, slice_index_or, remove, slice_index, replicate, slice_set, drop}

pub get_or_there : {X : Type 0} (xs : List X) (at : ℕ) (x d : X) → slice_get xs at ≡ Some x → slice_index_or xs at d ≡ x
get_or_there [] at x d e = absurd (cc e)
get_or_there (y ∷ ys) zero x d e = cc e
get_or_there (y ∷ ys) (suc at) x d e = get_or_there ys at x d e

pub get_last : {X : Type 0} (xs : List X) (x : X) → slice_get (xs ++ x ∷ []) (length xs) ≡ Some x
get_last [] x = refl
get_last (y ∷ xs) x = get_last xs x

pub last_removed : {X : Type 0} (xs : List X) (x : X) → remove (xs ++ x ∷ []) (length xs) ≡ xs
last_removed [] x = refl
last_removed (y ∷ xs) x = ap (λ l. y ∷ l) (last_removed xs x)

-- an index below the length has an element
pub some_within : {X : Type 0} (xs : List X) (at : ℕ) → at < length xs → (x : X) × (slice_get xs at ≡ Some x)
some_within [] at l = absurd (omega arith)
some_within (x ∷ xs) zero l = (x, refl)
some_within (x ∷ xs) (suc at) l = some_within xs at (omega arith)

pub length_taken : {X : Type 0} (n : ℕ) (xs : List X) → length (take n xs) ≤ n
length_taken zero xs = omega arith
length_taken (suc n) [] = omega arith
length_taken (suc n) (x ∷ xs) = let h = length_taken n xs in omega arith

-- an element of a list that goes on
pub get_append : {X : Type 0} (xs ys : List X) (k : ℕ) (x : X) → slice_get xs k ≡ Some x →
    slice_get (xs ++ ys) k ≡ Some x
get_append [] ys k x e = absurd (cc e)
get_append (y ∷ xs) ys zero x e = e
get_append (y ∷ xs) ys (suc k) x e = get_append xs ys k x e

pub zeros : (n k : ℕ) → slice_index (replicate n 0) k ≡ 0
zeros zero k = refl
zeros (suc n) zero = refl
zeros (suc n) (suc k) = zeros n k

pub get_taken : {X : Type 0} (n k : ℕ) (xs : List X) → k < n → slice_get (take n xs) k ≡ slice_get xs k
get_taken zero k xs below = absurd (omega arith)
get_taken (suc n) k [] below = refl
get_taken (suc n) zero (x ∷ xs) below = refl
get_taken (suc n) (suc k) (x ∷ xs) below = get_taken n k xs (omega (arith, below))

pub cancel : {X : Type 0} (xs ys zs : List X) → xs ++ ys ≡ xs ++ zs → ys ≡ zs
cancel [] ys zs e = e
cancel (x ∷ xs) ys zs e = cancel xs ys zs (cc e)

pub last_of : (groups : List (List ℕ)) (group : List ℕ) → get_or (reverse (groups ++ group ∷ [])) 0 [] ≡ group
last_of groups group = ap (λ xs. get_or xs 0 []) (reverse-append groups (group ∷ []))

pub past_end : {X : Type 0} (xs : List X) (at : ℕ) → length xs ≤ at → slice_get xs at ≡ None
past_end [] at h = refl
past_end (x ∷ xs) zero h = absurd (omega arith)
past_end (x ∷ xs) (suc at) h = past_end xs at (omega arith)

-- the others are as they were
pub set_removed : (xs : List ℕ) (at x : ℕ) → remove (slice_set xs at x) at ≡ remove xs at
set_removed [] zero x = refl
set_removed [] (suc at) x = refl
set_removed (y ∷ xs) zero x = refl
set_removed (y ∷ xs) (suc at) x = ap (λ l. y ∷ l) (set_removed xs at x)

pub drop_at : {X : Type 0} (xs : List X) (k : ℕ) (d : X) → k < length xs →
    drop k xs ≡ slice_index_or xs k d ∷ drop (suc k) xs
drop_at [] k d within = absurd (omega arith)
drop_at (x ∷ xs) zero d within = refl
drop_at (x ∷ xs) (suc k) d within = drop_at xs k d (omega (arith, within))
