-- The touches of an access in a log.
use Rattle.std.proofs.Common.{ℕ, length, ◌≤◌, eqb, Bool, cond, ◌∷◌, [], true, arith, false, List, length-append, ◌≡◌}
use Rattle.std.proofs.Common.{refl, ap, suc, ◌+◌, ◌++◌}
use Rattle.std.proofs.lemmas.Bool.{eq-eqb}
use Rattle.std.proofs.lemmas.Grind.{flat_map-append}
use Rattle.rma_types.specs.declared.accesses.Kind.{Kind}
use Rattle.rma_types.specs.declared.accesses.Kind.TheVariants.{Get, Put, Acc, Cas, Load, Store}
use Rattle.rma_record.specs.declared.items.Item.{Item}
use Rattle.rma_record.specs.declared.items.Item.TheVariants.{Touch, Issue, Null, Flush, Request, Entry, Tested, Refused}
use Rattle.rma_record.specs.declared.items.Item.TheVariants.{Ended}
use Rattle.call_rules.specs.Transfers.{is_ordered_kind}
use Rattle.call_rules.specs.declared.elements.Piece.{Piece}
use Rattle.lawful_runs.specs.TouchLaw.{touch_of, touched_by, elements_from, is_local}

-- an item touches an access at most once
pub touch_once : (index : ℕ) (item : Item) → length (touch_of index item) ≤ 1
touch_once index (Touch issue element cell place bits) = at_most (eqb issue index)
  where
    at_most : (b : Bool) → length {A = ℕ × ℕ} (cond b ((element, cell) ∷ []) []) ≤ 1
    at_most true = omega arith
    at_most false = omega arith
touch_once index (Issue number access) = omega arith
touch_once index (Null number) = omega arith
touch_once index (Flush number) = omega arith
touch_once index (Request number) = omega arith
touch_once index (Entry number place step) = omega arith
touch_once index (Tested number seen) = omega arith
touch_once index (Refused number class seen) = omega arith
touch_once index Ended = omega arith

pub touched_most : (index : ℕ) (items : List Item) → length (touched_by index items) ≤ length items
touched_most index [] = omega arith
touched_most index (item ∷ items) =
    let one = touch_once index item in let rest = touched_most index items in omega
    (arith, length-append (touch_of index item) (touched_by index items))

pub elements_count : (element : ℕ) (places : List Piece) → length (elements_from element places) ≡ length places
elements_count element [] = refl
elements_count element (piece ∷ places) = ap suc (elements_count (element + 1) places)

-- an access that is touched at once gives way to no pending one
pub local_is_unordered : (kind : Kind) → is_local kind ≡ true → is_ordered_kind kind ≡ false
local_is_unordered Get e = refl
local_is_unordered Put e = refl
local_is_unordered (Acc op dtype) e = absurd (cc e)
local_is_unordered (Cas dtype) e = absurd (cc e)
local_is_unordered Load e = refl
local_is_unordered Store e = refl

-- a touch of an access is one of what touches it
pub touch_of_own : (index element cell place bits : ℕ) →
    touch_of index (Touch index element cell place bits) ≡ (element, cell) ∷ []
touch_of_own index element cell place bits = ap (λ b. cond b ((element, cell) ∷ []) []) (eq-eqb index index refl)

pub touched_joined : (index : ℕ) (xs ys : List Item) → touched_by index (xs ++ ys) ≡ touched_by index xs
    ++ touched_by index ys
touched_joined index xs ys = flat_map-append (touch_of index) xs ys
