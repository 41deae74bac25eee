-- Facts of the elements of lists.
use Rattle.std.proofs.Common.{◌≡◌, ℕ, zero, suc, ◌+◌, ◌<◌, ◌≤◌, inl, inr, Bool, true, false, cond, List, [], ◌∷◌, ◌++◌}
use Rattle.std.proofs.Common.{length, get_or, take, drop, Option, Some, None, refl, sym, subst, arith, get_or-set_same}
use Rattle.std.proofs.Common.{get_or-set_other}
use Rattle.std.specs.Prelude.{map, slice_set, reverse}
use Rattle.std.specs.List.{filter, find, AllByRecursion}
use Rattle.std.specs.Option.{option_map_or}
use Rattle.std.proofs.lemmas.Bool.Decides.{eqb_tells}
use Rattle.std.proofs.lemmas.List.{reverse-append}
use Rattle.list_laws.proofs.Each.{each_append, each_front, each_back}
use Rattle.call_rules.specs.Pieces.{numbers_from}

pub each_of_parts : {X : Type 0} (P : X → Type 0) (n : ℕ) (xs : List X) → AllByRecursion P (take n xs) →
    AllByRecursion P (drop n xs) → AllByRecursion P xs
each_of_parts P zero xs h k = k
each_of_parts P (suc n) [] h k = tt
each_of_parts P (suc n) (x ∷ xs) h k = (h.0, each_of_parts P n xs h.1 k)

-- each element of a filtered list has the property of the list and passes the test
pub each_filter : {X : Type 0} (P : X → Type 0) (test : X → Bool) (xs : List X) → AllByRecursion P xs →
    AllByRecursion (λ x. P x × (test x ≡ true)) (filter test xs)
each_filter P test [] h = tt
each_filter {X} P test (x ∷ xs) h =
    let rest = each_filter P test xs h.1 in
    let Q : X → Type 0 = λ y. P y × (test y ≡ true) in
    elim (test x) as (λ b. test x ≡ b → AllByRecursion Q (cond b (x ∷ filter test xs) (filter test xs)))
    [ true ↦ λ e. ((h.0, e), rest) | false ↦ λ e. rest ] refl

-- nothing passes where the filtered list is empty
pub none_filter : {X : Type 0} (test : X → Bool) (xs : List X) → filter test xs ≡ [] →
    AllByRecursion (λ x. test x ≡ false) xs
none_filter test [] e = tt
none_filter {X} test (x ∷ xs) e =
    let Q : X → Type 0 = λ y. test y ≡ false in
    let rest : filter test xs ≡ [] → AllByRecursion Q xs = none_filter test xs in
    elim (test x) as (λ b. test x ≡ b → cond b (x ∷ filter test xs) (filter test xs) ≡ [] →
    (test x ≡ false) × AllByRecursion Q xs)
    [ true ↦ λ t empty. absurd (cc empty) | false ↦ λ t empty. (t, rest empty) ] refl e

pub each_mapped : {X Y : Type 0} (P : X → Type 0) (Q : Y → Type 0) (f : X → Y) → ((x : X) → P x → Q (f x)) →
    (xs : List X) → AllByRecursion P xs → AllByRecursion Q (map f xs)
each_mapped P Q f keeps [] h = tt
each_mapped P Q f keeps (x ∷ xs) h = (keeps x h.0, each_mapped P Q f keeps xs h.1)

-- what is found has the property, and passes the test
pub each_found : {X Y : Type 0} (P : X → Type 0) (Q : Y → Type 0) (test : X → Bool) (f : X → Y) (d : Y) →
    ((x : X) → P x → test x ≡ true → Q (f x)) → Q d →
    (xs : List X) → AllByRecursion P xs → Q (option_map_or f (find test xs) d)
each_found P Q test f d keeps default [] h = default
each_found P Q test f d keeps default (x ∷ xs) h =
    let rest = each_found P Q test f d keeps default xs h.1 in
    elim (test x) as (λ b. test x ≡ b → Q (option_map_or f (cond b (Some x) (find test xs)) d))
    [ true ↦ λ e. keeps x h.0 e | false ↦ λ e. rest ] refl

reverse_cons : {X : Type 0} (x : X) (xs : List X) → reverse (x ∷ xs) ≡ reverse xs ++ x ∷ []
reverse_cons x xs = reverse-append (x ∷ []) xs

pub each_reverse : {X : Type 0} (P : X → Type 0) (xs : List X) → AllByRecursion P xs → AllByRecursion P (reverse xs)
each_reverse P [] h = tt
each_reverse P (x ∷ xs) h =
    subst (AllByRecursion P) (sym (reverse_cons x xs))
    (each_append P (reverse xs) (x ∷ []) (each_reverse P xs h.1) (h.0, tt))

pub each_unreversed : {X : Type 0} (P : X → Type 0) (xs : List X) → AllByRecursion P (reverse xs) → AllByRecursion P xs
each_unreversed P [] h = tt
each_unreversed P (x ∷ xs) h =
    let parts = subst (AllByRecursion P) (reverse_cons x xs) h in
    ((each_back P (reverse xs) (x ∷ []) parts).0, each_unreversed P xs (each_front P (reverse xs) (x ∷ []) parts))

-- ---- numbers

-- the numbers from one on are below their end
pub numbers_below : (first count : ℕ) → AllByRecursion (λ n. n < first + count) (numbers_from first count)
numbers_below first zero = tt
numbers_below first (suc count) = (
  omega arith,
  subst (λ m. AllByRecursion (λ n. n < m) (numbers_from (first + 1) count)) (omega arith)
      (numbers_below (first + 1) count),
)

-- what holds of all numbers from one on holds of each below their end
pub number_among : (P : ℕ → Type 0) (first count n : ℕ) → AllByRecursion P (numbers_from first count) → first ≤ n →
    n < first + count → P n
number_among P first zero n h low high = absurd (omega arith)
number_among P first (suc count) n h low high =
    elim (eqb_tells n first) [
      | inl same ↦ subst P (sym same.1) h.0
      | inr other ↦ let ne = other.1 in number_among P (first + 1) count n h.1 (omega arith) (omega arith)
    ]

-- ---- one element changes

-- a fact of each element holds after one changes, where it holds of the new one
pub each_set : {X : Type 0} (P : ℕ → X → Type 0) (xs : List X) (d : ℕ → X) (i : ℕ) (x : X) → P i x →
    ((k : ℕ) → P k (get_or xs k (d k))) →
    (k : ℕ) → P k (get_or (slice_set xs i x) k (d k))
each_set P [] d i x here rest k = rest k
each_set P (y ∷ ys) d zero x here rest zero = here
each_set P (y ∷ ys) d zero x here rest (suc k) = rest (suc k)
each_set P (y ∷ ys) d (suc i) x here rest zero = rest zero
each_set P (y ∷ ys) d (suc i) x here rest (suc k) = each_set (λ n. P (suc n)) ys (λ n. d (suc n)) i x here
    (λ n. rest (suc n)) k

-- so it does where it holds of each other element in another way
pub each_set_apart : {X : Type 0} (P : ℕ → X → Type 0) (xs : List X) (d : ℕ → X) (i : ℕ) (x : X) → i < length xs →
    P i x → ((k : ℕ) → (k ≡ i → ⊥) → P k (get_or xs k (d k))) →
    (k : ℕ) → P k (get_or (slice_set xs i x) k (d k))
each_set_apart P xs d i x inside here rest k =
    elim (eqb_tells k i) [
      | inl same ↦ subst (λ n. P n (get_or (slice_set xs i x) n (d n))) (sym same.1)
          (subst (P i) (sym (get_or-set_same xs i x (d i) inside)) here)
      | inr other ↦ subst (P k) (sym (get_or-set_other xs i k x (d k) other.1)) (rest k other.1)
    ]
