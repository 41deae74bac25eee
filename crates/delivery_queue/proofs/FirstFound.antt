-- The first of a list that passes a test.
use Rattle.std.proofs.Common.{◌≡◌, ◌+◌, ◌≤◌, ℕ, zero, suc, Bool, true, false, cond, List, [], ◌∷◌, ◌++◌}
use Rattle.std.proofs.Common.{Option, Some, None, take, length, refl, ap, arith, slice_get, ◌∙◌, sym, subst}
use Rattle.std.specs.Option.{option_map_or}
use Rattle.std.specs.List.{position, position_from, All}
use Rattle.std.proofs.lemmas.Iterator.Adapters.{position_from-zero}
use Rattle.rank_rules.specs.declared.pending.PendingAccess.{PendingAccess}
use Rattle.rank_rules.specs.Requests.{Requests}
use Rattle.rma_types.specs.declared.calls.Call.{Call}
use Rattle.rank_rules.specs.Pending.{gives_way, first_in_way, must_wait, awaited, way}
use Rattle.delivery_queue.specs.declared.begun.Begun.{Begun}
use Rattle.delivery_queue.specs.declared.marks.Marks.{Marks}
use Rattle.delivery_queue.specs.Blocks.{accesses_of}
use Rattle.delivery_queue.specs.Marked.{IsMarked}
use Rattle.delivery_queue.specs.Soughts.{before}

-- a search of no element, and of one and the others
pub none_from : {X : Type 0} (p : X → Bool) (i : ℕ) (xs : List X) → All (λ x. p x ≡ false) xs →
    position_from p i xs ≡ None
none_from p i [] fails = refl
none_from p i (x ∷ xs) fails =
    rw (fails 0 x (omega arith)) (none_from p (i + 1) xs (λ k d l. fails (suc k) d (omega arith)))

-- where no element passes, none is found
pub none_found : {X : Type 0} (p : X → Bool) (xs : List X) → All (λ x. p x ≡ false) xs → position p xs ≡ None
none_found p xs fails = position_from-zero p xs ∙ none_from p 0 xs fails

same_from : {X : Type 0} (p q : X → Bool) (i : ℕ) (xs : List X) → ((x : X) → p x ≡ q x) →
    position_from p i xs ≡ position_from q i xs
same_from p q i [] same = refl
same_from p q i (x ∷ xs) same = rw (same x, same_from p q (i + 1) xs same) refl

-- two tests that agree find the same
pub same_position : {X : Type 0} (p q : X → Bool) (xs : List X) → ((x : X) → p x ≡ q x) →
    position p xs ≡ position q xs
same_position p q xs same = position_from-zero p xs ∙ same_from p q 0 xs same ∙ sym (position_from-zero q xs)

none_before : {X : Type 0} (p : X → Bool) (i : ℕ) (xs : List X) (bound : ℕ) → bound ≤ i →
    None ≡ before bound (position_from p i xs)
none_before p i [] bound l = refl
none_before {X} p i (x ∷ xs) bound l = by (p x) (none_before p (i + 1) xs bound (omega arith))
  where
    by : (b : Bool) → None ≡ before bound (position_from p (i + 1) xs) →
        None ≡ before bound (cond b (Some i) (position_from p (i + 1) xs))
    by true rest = grind (arith)
    by false rest = rest

from_take : {X : Type 0} (p : X → Bool) (i n : ℕ) (xs : List X) →
    position_from p i (take n xs) ≡ before (i + n) (position_from p i xs)
from_take p i zero xs = none_before p i xs (i + 0) (omega arith)
from_take p i (suc n) [] = refl
from_take {X} p i (suc n) (x ∷ xs) = by (p x) (from_take p (i + 1) n xs)
  where
    e : i + 1 + n ≡ i + suc n
    e = omega arith

    by : (b : Bool) → position_from p (i + 1) (take n xs) ≡ before (i + 1 + n) (position_from p (i + 1) xs) →
        cond b (Some i) (position_from p (i + 1) (take n xs)) ≡
        before (i + suc n) (cond b (Some i) (position_from p (i + 1) xs))
    by true rest = grind (arith)
    by false rest = rw (← e) rest

-- a search of the first of a list
pub position_take : {X : Type 0} (p : X → Bool) (n : ℕ) (xs : List X) →
    position p (take n xs) ≡ before n (position p xs)
position_take {X} p n xs =
    let same : 0 + n ≡ n = omega arith in
    let taken : position_from p 0 (take n xs) ≡ before n (position_from p 0 xs) =
    subst (λ (k : ℕ). position_from p 0 (take n xs) ≡ before k (position_from p 0 xs)) same (from_take p 0 n xs) in
    position_from-zero p (take n xs) ∙ taken ∙ sym (ap (before n) (position_from-zero p xs))

-- an access that is found before the place is the first to which the one there gives way
pub first_found : (pending : List PendingAccess) (at : ℕ) (later : PendingAccess) (p : PendingAccess → Bool) →
    slice_get pending at ≡ Some later → ((one : PendingAccess) → p one ≡ gives_way later one) →
    first_in_way pending at ≡ before at (position p pending)
first_found pending at later p here same =
    rw (here, same_position p (gives_way later) pending same) (position_take (gives_way later) at pending)

mapped_from : (p : PendingAccess → Bool) (i : ℕ) (ones : List Begun) →
    position_from p i (accesses_of ones) ≡ position_from (λ (one : Begun). p one.access) i ones
mapped_from p i [] = refl
mapped_from p i (one ∷ ones) = rw (mapped_from p (i + 1) ones) refl

-- a search of accesses by what is begun of them
pub mapped_position : (p : PendingAccess → Bool) (ones : List Begun) →
    position p (accesses_of ones) ≡ position (λ (one : Begun). p one.access) ones
mapped_position p ones =
    position_from-zero p (accesses_of ones) ∙ mapped_from p 0 ones
    ∙ sym (position_from-zero (λ (one : Begun). p one.access) ones)

-- where marks exclude what is sought, none is found
pub none_marked : (marks : Marks) (p : PendingAccess → Bool) (ones : List Begun) →
    All (λ (one : Begun). IsMarked marks one.access) ones →
    ((one : PendingAccess) → IsMarked marks one → p one ≡ false) → position p (accesses_of ones) ≡ None
none_marked marks p ones all excluded =
    mapped_position p ones ∙ none_found (λ (one : Begun). p one.access) ones (λ k d l. excluded _ (all k d l))

found_from : (p : PendingAccess → Bool) (begin j k : ℕ) (block rest : List Begun) →
    position_from (λ (one : Begun). p one.access) j block ≡ Some k →
    position_from p (begin + j) (accesses_of (block ++ rest)) ≡ Some (begin + k)
found_from p begin j k [] rest e = cc
found_from p begin j k (one ∷ block) rest e =
    by (p one.access) (λ f. found_from p begin (j + 1) k block rest f) e
  where
    next : begin + (j + 1) ≡ begin + j + 1
    next = omega arith

    by : (b : Bool) → (position_from (λ (one : Begun). p one.access) (j + 1) block ≡ Some k →
        position_from p (begin + (j + 1)) (accesses_of (block ++ rest)) ≡ Some (begin + k)) →
        cond b (Some j) (position_from (λ (one : Begun). p one.access) (j + 1) block) ≡ Some k →
        cond b (Some (begin + j)) (position_from p (begin + j + 1) (accesses_of (block ++ rest))) ≡ Some (begin + k)
    by true others f = cc
    by false others f = rw (← next) (others f)

found_in_one : (p : PendingAccess → Bool) (block : List Begun) →
    position_from (λ (one : Begun). p one.access) 0 block ≡ position p (accesses_of block)
found_in_one p block = sym (mapped_from p 0 block) ∙ sym (position_from-zero p (accesses_of block))

-- a search finds what it finds in the first block
pub found_in_block : (p : PendingAccess → Bool) (begin offset : ℕ) (block rest : List Begun) →
    position p (accesses_of block) ≡ Some offset →
    position_from p begin (accesses_of (block ++ rest)) ≡ Some (begin + offset)
found_in_block p begin offset block rest e =
    let same : begin + 0 ≡ begin = omega arith in
    let found : position_from p (begin + 0) (accesses_of (block ++ rest)) ≡ Some (begin + offset) =
    found_from p begin 0 offset block rest (found_in_one p block ∙ e) in
    subst (λ (k : ℕ). position_from p k (accesses_of (block ++ rest)) ≡ Some (begin + offset)) same found

not_from : (p : PendingAccess → Bool) (begin j : ℕ) (block rest : List Begun) →
    position_from (λ (one : Begun). p one.access) j block ≡ None →
    position_from p begin (accesses_of (block ++ rest)) ≡ position_from p (begin + length block) (accesses_of rest)
not_from p begin j [] rest e = let same : begin + 0 ≡ begin = omega arith in rw same refl
not_from p begin j (one ∷ block) rest e =
    by (p one.access) (λ f. not_from p (begin + 1) (j + 1) block rest f) e
  where
    next : begin + 1 + length block ≡ begin + suc (length block)
    next = omega arith

    by : (b : Bool) → (position_from (λ (one : Begun). p one.access) (j + 1) block ≡ None →
        position_from p (begin + 1) (accesses_of (block ++ rest)) ≡
        position_from p (begin + 1 + length block) (accesses_of rest)) →
        cond b (Some j) (position_from (λ (one : Begun). p one.access) (j + 1) block) ≡ None →
        cond b (Some begin) (position_from p (begin + 1) (accesses_of (block ++ rest))) ≡
        position_from p (begin + suc (length block)) (accesses_of rest)
    by true others f = cc
    by false others f = rw (← next) (others f)

-- or else goes on behind it
pub not_in_block : (p : PendingAccess → Bool) (begin : ℕ) (block rest : List Begun) →
    position p (accesses_of block) ≡ None →
    position_from p begin (accesses_of (block ++ rest)) ≡ position_from p (begin + length block) (accesses_of rest)
not_in_block p begin block rest e =
    not_from p begin 0 block rest (found_in_one p block ∙ e)

-- what is found is what a call waits for
pub awaited_found : (requests : Requests) (call : Call) (pending : List PendingAccess) (p : PendingAccess → Bool)
    (found : Option ℕ) → ((one : PendingAccess) → p one ≡ must_wait requests call one) → found ≡ position p pending →
    awaited requests call pending ≡ option_map_or (λ at. Some (way pending at)) found None
awaited_found requests call pending p found same e =
    ap (λ (place : Option ℕ). option_map_or (λ at. Some (way pending at)) place None)
    (sym (same_position p (must_wait requests call) pending same) ∙ sym e)
