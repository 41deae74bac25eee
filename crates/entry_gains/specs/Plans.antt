-- The slots of a plan, by their indices.
use Rattle.std.specs.Prelude.{ℕ, ◌-◌, Bool, true, false, ◌&&◌, not, ◌||◌, ◌==◌, nat_le, nat_lt, if◌then◌else◌, Option}
use Rattle.std.specs.Prelude.{Some, None, slice_index, slice_index_or}
use Rattle.rma_types.specs.declared.calls.Lock.{Lock}
use Rattle.board_rules.specs.Locks.{is_exclusive}
use Rattle.entry_gains.specs.declared.plans.Plan.{Plan}
use Rattle.entry_gains.specs.declared.plans.Plan.TheVariants.{Nothing, One, Posts, Starts, Completes, Waits, Unlocks}
use Rattle.entry_gains.specs.declared.plans.Plan.TheVariants.{Locks}
use Rattle.entry_gains.specs.declared.slots.Slot.{Slot}
use Rattle.entry_gains.specs.declared.slots.Slot.TheVariants.{Post, Complete, Unlock}

-- the slot, where the test holds
abbrev pub slot_if : Bool → Slot → Option Slot
slot_if holds slot = if holds then Some slot else None

-- the slot of a lock of a kind that is given back at a target
abbrev pub unlock_slot_of : ℕ → ℕ → Bool → Option Lock → Option Slot
unlock_slot_of window target exclusive None = None
unlock_slot_of window target exclusive (Some kind) =
    slot_if (not exclusive || is_exclusive kind) (Unlock window target exclusive)

abbrev pub plan_slot : Plan → ℕ → Option Slot
plan_slot Nothing at = None
plan_slot (One slot) at = slot_if (at == 0) slot
plan_slot (Posts window from named numbers) at =
    slot_if (nat_lt at 16 && slice_index_or named at false) (Post window from at (slice_index numbers at))
plan_slot (Starts window to named numbers) at =
    slot_if (nat_lt at 16 && slice_index_or named at false) (Post window at to (slice_index numbers at))
plan_slot (Completes window from numbers) at =
    slot_if (nat_lt at 16 && nat_lt 0 (slice_index numbers at)) (Complete window from at (slice_index numbers at))
plan_slot (Waits window to named numbers) at =
    slot_if (nat_lt at 16 && slice_index_or named at false) (Complete window at to (slice_index numbers at))
plan_slot (Unlocks window held) at =
    if nat_lt at 16 then unlock_slot_of window at false (slice_index_or held at None)
    else unlock_slot_of window (at - 16) true (slice_index_or held (at - 16) None)
plan_slot (Locks window first end exclusive) at =
    slot_if (nat_le first at && nat_lt at end) (Unlock window at exclusive)
