-- Slots.
use Rattle.std.specs.Prelude.{◌≡◌, ℕ, Bool, cond, List, Option, Some, None, IfSome}
use Rattle.std.specs.Option.{option_map}
use Rattle.std.specs.HashMap.{HashMap, get}
use Rattle.std.specs.declared.hash.BuildHasherDefault.{BuildHasherDefault}
use Rattle.std.specs.declared.hash.FoldHasher.{FoldHasher}
use Rattle.cell_face.specs.Fronts.{greater_front}
use Rattle.kept_rows.specs.Gifts.{Front}
use Rattle.entry_gains.specs.declared.slots.Slot.{Slot}
use Rattle.entry_gains.specs.contracts.slots.SlotPartialEq.TheImpl as slot_impl
use Rattle.entry_gains.specs.contracts.slots.MeetingPartialEq.TheImpl as meeting_impl
use Rattle.entry_gains.specs.declared.slots.Meeting.{Meeting}

abbrev pub slot_eq : Slot → Slot → Bool
slot_eq = (slot_impl.ghosts).eq

abbrev pub joined : Option Front → Option Front → Option Front
joined None other = other
joined (Some front) None = Some front
joined (Some front) (Some other) = Some (greater_front front other)

-- the tokens by their slots
abbrev pub Tokens : Type 0 → Type 0
Tokens N = HashMap Slot N (BuildHasherDefault FoldHasher)

-- the front of what a slot keeps
abbrev pub front_at : {N : Type 0} → (N → Front) → Tokens N → Slot → Option Front
front_at front tokens slot = option_map front (get slot_eq tokens slot)

-- each token is from the memory of this name
abbrev pub AreFrom : {N : Type 0} → (N → List ℕ) → List ℕ → Tokens N → Type 0
AreFrom origin name tokens = (slot : Slot) → IfSome (get slot_eq tokens slot) (λ token. origin token ≡ name)

-- the slot has one gift more, and the others keep theirs
abbrev pub IsFilled : {N : Type 0} → (N → Front) → Tokens N → Tokens N → Slot → Option Front → Type 0
IsFilled front before after slot gift = (other : Slot) →
    front_at front after other ≡ cond (slot_eq slot other) (joined (front_at front before slot) gift)
    (front_at front before other)

abbrev pub meeting_eq : Meeting → Meeting → Bool
meeting_eq = (meeting_impl.ghosts).eq
