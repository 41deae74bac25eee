-- What a seat knows at each point of its life.
use Rattle.std.specs.Prelude.{ℕ, zero, suc, true, false, List, [], ◌∷◌, ◌++◌, Some, None}
use Rattle.turn_lock.specs.declared.views.View.{View}

module _ {E : Type 0} where
  -- n numbers from one on, with no entry yet
  abbrev pub numbers_from : ℕ → ℕ → List (ℕ × List E)
  numbers_from i zero = []
  numbers_from i (suc n) = (i, []) ∷ numbers_from (suc i) n

  abbrev pub rest : List (ℕ × List E) → List (ℕ × List E)
  rest [] = []
  rest (p ∷ ps) = ps

  abbrev pub first : List (ℕ × List E) → ℕ × List E
  first [] = (0, [])
  first (p ∷ ps) = p

module _ {E O : Type 0} where
  -- the seat that all others are cut from
  abbrev pub dealing : List (ℕ × List E) → O → View E O
  dealing parts origin = record { ticket = None; inside = false; parts = parts; known = []; heard = []; origin = Some origin }

  abbrev pub opening_view : ℕ → O → View E O
  opening_view seats origin = dealing (numbers_from 0 seats) origin

  -- a seat of one number that neither waits nor has the turn
  abbrev pub resting : ℕ → List E → List E → O → View E O
  resting n given known origin = record { ticket = None; inside = false; parts = (n, given) ∷ []; known = known; heard = []; origin = Some origin }

  -- the same, after it heard what another knows
  abbrev pub hearing : ℕ → List E → List E → List E → O → View E O
  hearing n given known other origin = record { ticket = None; inside = false; parts = (n, given) ∷ []; known = known; heard = other ∷ []; origin = Some origin }

  abbrev pub waiting : ℕ → List E → List E → O → ℕ → View E O
  waiting n given known origin ticket = record { ticket = Some ticket; inside = false; parts = (n, given) ∷ []; known = known; heard = []; origin = Some origin }

  abbrev pub holding : ℕ → List E → List E → O → ℕ → View E O
  holding n given known origin ticket = record { ticket = Some ticket; inside = true; parts = (n, given) ∷ []; known = known; heard = []; origin = Some origin }

  -- what is left of a seat that was joined to another
  abbrev pub spent : View E O
  spent = record { ticket = None; inside = false; parts = []; known = []; heard = []; origin = None }

  -- the seat without its first number, and the seat of that number
  abbrev pub without_first : View E O → View E O
  without_first v = record { ticket = v.ticket; inside = v.inside; parts = rest v.parts; known = v.known; heard = v.heard; origin = v.origin }

  abbrev pub first_alone : View E O → View E O
  first_alone v = record { ticket = None; inside = false; parts = first v.parts ∷ []; known = v.known; heard = []; origin = v.origin }

  -- a seat of no number, which knows the same list
  abbrev pub telling : View E O → View E O
  telling v = record { ticket = None; inside = false; parts = []; known = v.known; heard = []; origin = v.origin }

  -- the numbers of both, and all lists that they know
  abbrev pub both : View E O → View E O → View E O
  both v w = record { ticket = v.ticket; inside = v.inside; parts = v.parts ++ w.parts; known = v.known; heard = w.known ∷ (v.heard ++ w.heard); origin = v.origin }
