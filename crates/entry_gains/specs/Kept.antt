-- What the slots keep after the entries: MPI 3.1, section 11.7, in this project's profile of order.
use Rattle.std.specs.Prelude.{◌≡◌, ℕ, Bool, cond, List, [], ◌∷◌, Option, Some, None}
use Rattle.std.specs.List.{fold, list_any, zip}
use Rattle.call_rules.specs.Pieces.{numbers_from}
use Rattle.board_rules.specs.Edges.{Event, events_of}
use Rattle.kept_rows.specs.Gifts.{Front, Given, rows_given}
use Rattle.entry_gains.specs.Given.{fills, is_slot}
use Rattle.entry_gains.specs.Plans.{plan_slot}
use Rattle.entry_gains.specs.declared.plans.Plan.{Plan}
use Rattle.entry_gains.specs.Slots.{joined}
use Rattle.entry_gains.specs.declared.slots.Slot.{Slot}

-- the gift of an entry, where it passes
abbrev pub gift_if : Bool → Given → Option Front
gift_if passes one = cond passes one.gift None

-- the gifts of the entries that pass, joined
abbrev pub gathered : (Event → Bool) → List (Event × Given) → Option Front
gathered test [] = None
gathered test (one ∷ others) = joined (gift_if (test one.0) one.1) (gathered test others)

-- the entries as events, with their gifts
abbrev pub pairs_of : ℕ → List Given → List (Event × Given)
pairs_of ranks entries = zip (events_of ranks (rows_given entries)) entries

-- what the slot keeps
unfoldable pub kept_at : ℕ → List Given → Slot → Option Front
kept_at ranks entries slot = gathered (λ event. fills event slot) (pairs_of ranks entries)

-- what a slot gives, where there is one
abbrev pub gained_at : (Slot → Option Front) → Option Slot → Option Front
gained_at kept None = None
gained_at kept (Some slot) = kept slot

-- what the slots at the indices below a number give together
abbrev pub gained_below : ℕ → (Slot → Option Front) → (ℕ → Option Slot) → Option Front
gained_below count kept slot_at = fold (λ all at. joined all (gained_at kept (slot_at at))) None (numbers_from 0 count)

-- what the slots at the indices below 32 give together
unfoldable pub gained_from : (Slot → Option Front) → (ℕ → Option Slot) → Option Front
gained_from kept slot_at = gained_below 32 kept slot_at

-- a slot of the plan, at an index below the number, is this one
unfoldable pub has_slot_below : ℕ → Plan → Slot → Bool
has_slot_below count plan slot = list_any (λ at. is_slot slot (plan_slot plan at)) (numbers_from 0 count)

-- what the slots keep when those of the plan, at the indices below the number, have the gift with this front besides
abbrev pub IsFilledBelow : ℕ → Plan → Front → (Slot → Option Front) → (Slot → Option Front) → Type 0
IsFilledBelow count plan front before after =
    (slot : Slot) → after slot ≡ joined (before slot) (cond (has_slot_below count plan slot) (Some front) None)

-- the gift, if there is one, where the slot is filled
abbrev pub filled_with : Bool → Option Front → Option Front
filled_with fills gift = cond fills gift None
