-- What each step on the table tells.
use Rattle.std.specs.Prelude.{ℕ, ◌≡◌, ◌≢◌, ◌%◌, ◌^◌, List, [], ◌∷◌, ◌++◌, drop, length, Option, Some, None, All, true, false, unwrap_or}
use mathlib.Core.List.{IsPrefix}
use Rattle.atomic_table.specs.Table.{Me, Step}
use Rattle.turn_lock.specs.Lists.{of, longer}
use Rattle.turn_lock.specs.Views.{first, rest}
use Rattle.turn_lock.specs.declared.views.View.{View}

abbrev pub Seated : Type 0 → Type 0 → Type 0 → Type 0
Seated V E O = Me (Option V) (View E O)

-- the longest of all lists that are known
abbrev pub longest : {E : Type 0} → List E → List (List E) → List E
longest known [] = known
longest known (heard ∷ more) = longest (longer known heard) more

module _ {E O : Type 0} where
  -- the number of a seat that has one, and what was given under it
  abbrev pub number : View E O → ℕ
  number v = (first v.parts).0

  abbrev pub given : View E O → List E
  given v = (first v.parts).1

  abbrev pub drawing : View E O → ℕ → View E O
  drawing v t = record { ticket = Some t; inside = v.inside; parts = v.parts; known = v.known; heard = v.heard; origin = v.origin }

  abbrev pub entering : View E O → List E → View E O
  entering v entries = record { ticket = v.ticket; inside = true; parts = v.parts; known = entries; heard = v.heard; origin = v.origin }

  -- what the list has beyond what was known was given under the first number
  abbrev pub leaving : View E O → List E → View E O
  leaving v entries = record {
    ticket = None;
    inside = false;
    parts = (number v, given v ++ drop (length v.known) entries) ∷ rest v.parts;
    known = entries;
    heard = v.heard;
    origin = v.origin;
  }

  abbrev pub learning : View E O → View E O
  learning v = record { ticket = v.ticket; inside = v.inside; parts = v.parts; known = longest v.known v.heard; heard = []; origin = v.origin }

module _ {V E O : Type 0} where
  -- the seat has the ticket whose number was found
  abbrev pub Draws : Step (Option V) → Seated V E O → ℕ → Seated V E O → Type 0
  Draws s m found after = (t : ℕ) × (found ≡ t % 2 ^ 64) × (after ≡ (drawing m.0 t, m.1))

  -- the longest list is known, which all others begin; what it has of the first number is what was given under it, as
  -- far as the list goes
  abbrev pub Learns : (E → ℕ) → Step (Option V) → Seated V E O → ℕ → Seated V E O → Type 0
  Learns owner s m found after =
      (after ≡ (learning m.0, m.1))
      × IsPrefix m.0.known (learning m.0).known
      × All (λ (heard : List E). IsPrefix heard (learning m.0).known) m.0.heard
      × IsPrefix (of owner (number m.0) (learning m.0).known) (given m.0)

module _ {V E O : Type 0} (list : V → List E) where
  -- the view after the value was given back
  abbrev pub left_with : View E O → Option V → View E O
  left_with v None = v
  left_with v (Some x) = leaving v (list x)

  abbrev pub left_after : View E O → List (ℕ × Option V) → View E O
  left_after v [] = v
  left_after v (slot ∷ slots) = left_with v slot.1

  -- the value is at home again, with what was added to it
  abbrev pub HandsOn : Step (Option V) → Seated V E O → ℕ → Seated V E O → Type 0
  HandsOn s m found after = after ≡ (left_after m.0 m.1, [])

  module _ (owner : E → ℕ) (origin : V → O) where
    -- the value goes on from what was known, and has of the first number what was given under it
    abbrev pub Fetched : View E O → V → Type 0
    Fetched v x = IsPrefix v.known (list x) × (of owner (number v) (list x) ≡ given v) × (v.origin ≡ Some (origin x))

    -- where its ticket is served, a seat that waited is inside and has the value; else nothing changed
    abbrev pub Looks : Step (Option V) → Seated V E O → ℕ → Seated V E O → Type 0
    Looks s m found after =
        (found ≡ unwrap_or m.0.ticket 0 % 2 ^ 64 → (x : V) × (after ≡ (entering m.0 (list x), (0, Some x) ∷ m.1)) × Fetched m.0 x)
        × (found ≢ unwrap_or m.0.ticket 0 % 2 ^ 64 → after ≡ m)
