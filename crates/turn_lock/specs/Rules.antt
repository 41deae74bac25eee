-- The rule of a turn's table: what holds between any two steps of its words, of the value at home and of all views.
use Rattle.std.specs.Prelude.{ℕ, ◌≡◌, ◌+◌, ◌%◌, ◌^◌, ◌<◌, ◌≤◌, ◌⊎◌, ◌==◌, Bool, true, List, [], ◌∷◌, length, All, Option, Some, None, if◌then◌else◌}
use mathlib.Core.List.{IsPrefix}
use mathlib.Core.Option.{some, none}
use mathlib.Core.Option as maybe
use lib.ListN.{get_elem?}
use Rattle.atomic_table.specs.Table.{State}
use Rattle.turn_lock.specs.Lists.{of}
use Rattle.turn_lock.specs.declared.views.View.{View}

-- the weights of all, added up
abbrev pub total : {A : Type 0} → (A → ℕ) → List A → ℕ
total f [] = 0
total f (x ∷ xs) = f x + total f xs

-- 1 where it holds
abbrev pub weight : Bool → ℕ
weight b = if b then 1 else 0

-- how often a number is among those of a view
abbrev pub times : {E : Type 0} → ℕ → List (ℕ × List E) → ℕ
times n parts = total (λ p. weight (p.0 == n)) parts

-- 1 where there is a ticket
abbrev pub drawn : Option ℕ → ℕ
drawn None = 0
drawn (Some t) = 1

-- 1 where there is this ticket
abbrev pub has_drawn : ℕ → Option ℕ → ℕ
has_drawn t None = 0
has_drawn t (Some u) = weight (u == t)

module _ {E O : Type 0} where
  -- how many numbers the views have
  abbrev pub numbers : List (View E O) → ℕ
  numbers views = total (λ v. length v.parts) views

  abbrev pub tickets : List (View E O) → ℕ
  tickets views = total (λ v. drawn v.ticket) views

  abbrev pub insiders : List (View E O) → ℕ
  insiders views = total (λ v. weight v.inside) views

  abbrev pub with_ticket : ℕ → List (View E O) → ℕ
  with_ticket t views = total (λ v. has_drawn t v.ticket) views

  abbrev pub with_number : ℕ → List (View E O) → ℕ
  with_number n views = total (λ v. times n v.parts) views

  -- what one view tells is so: log is the list of the value, and line so many tickets from `served` on are drawn
  pub record Fits (owner : E → ℕ) (seats : ℕ) (from : O) (log : List E) (served line : ℕ) (v : View E O) : Type 0 where
    pub in_line : (t : ℕ) → v.ticket ≡ Some t → (served ≤ t) × (t < served + line)
    pub numbered : drawn v.ticket ≤ length v.parts
    pub in_turn : v.inside ≡ true → (v.ticket ≡ Some served) × (v.known ≡ log)
    pub knows : IsPrefix v.known log
    pub hears : All (λ (heard : List E). IsPrefix heard log) v.heard
    pub gave : All (λ (p : ℕ × List E). (p.0 < seats) × (of owner p.0 log ≡ p.1)) v.parts
    pub of_origin : (o : O) → v.origin ≡ Some o → o ≡ from

module _ {V E O : Type 0} (list : V → List E) (origin : V → O) where
  -- the value is at home, or a view is inside
  abbrev pub IsShelved : O → List E → List (View E O) → List (maybe.Option (Option V)) → Type 0
  IsShelved from log views homes =
      ((x : V) × (homes ≡ some (Some x) ∷ []) × (list x ≡ log) × (origin x ≡ from))
      ⊎ ((homes ≡ none ∷ []) × (1 ≤ insiders views))

module _ {V E O : Type 0} (list : V → List E) (owner : E → ℕ) (origin : V → O) where
  pub record Kept (seats : ℕ) (from : O) (s : State (Option V) (View E O)) : Type 0 where
    pub log : List E
    pub served : ℕ
    pub line : ℕ
    pub words : s.words ≡ (served + line) % 2 ^ 64 ∷ served % 2 ^ 64 ∷ []
    pub home : IsShelved list origin from log s.views s.homes
    pub few : seats < 2 ^ 32
    pub all_numbers : numbers s.views ≡ seats
    pub each_number : (n : ℕ) → with_number n s.views ≤ 1
    pub all_tickets : tickets s.views ≡ line
    pub each_ticket : (t : ℕ) → with_ticket t s.views ≤ 1
    pub owned : All (λ (e : E). owner e < seats) log
    pub fits : (id : ℕ) (v : View E O) → get_elem? s.views id ≡ some v → Fits owner seats from log served line v
