-- What the tables of all ranks say of the entries: MPI 3.1, section 11.5, in this project's profile.
use Rattle.std.specs.Prelude.{◌≡◌, ℕ, ◌+◌, ◌-◌, ◌<◌, ◌≤◌, Bool, true, false, cond, ◌&&◌, ◌==◌, nat_lt, if◌then◌else◌}
use Rattle.std.specs.Prelude.{List, [], length, take, reverse, Option, Some, None, slice_index, slice_index_or}
use Rattle.std.specs.HashMap.{spare}
use Rattle.std.specs.List.{count_by, flat_map}
use Rattle.rma_types.specs.declared.accesses.Step.{Step}
use Rattle.rma_types.specs.declared.accesses.Step.TheVariants.{Arrive, Leave, One}
use Rattle.rma_types.specs.declared.calls.Lock.{Lock}
use Rattle.rma_types.specs.declared.actions.Synchronisation.{Synchronisation}
use Rattle.call_rules.specs.Ranks.{is_member}
use Rattle.board_rules.specs.Entries.{Act, Collective, arrivals, synchronisations}
use Rattle.board_rules.specs.Locks.{held_locks, is_exclusive}
use Rattle.board_rules.specs.Posts.{group_of_post, group_of_start, is_complete, naming}
use Rattle.entry_gains.specs.Given.{held_kind, meeting_of}
use Rattle.entry_gains.specs.Plans.{slot_if, unlock_slot_of}
use Rattle.entry_gains.specs.Tables.{ArePut, IsRaised, begun_at, counted, held_at, is_reached_below, is_within}
use Rattle.entry_gains.specs.Tables.{lock_key, ordinals_at, round_eq, side_at, side_eq, start_eq, stronger}
use Rattle.entry_gains.specs.declared.deeds.Deed.{Deed}
use Rattle.entry_gains.specs.declared.deeds.Deed.TheVariants.{Nothing, Meets, Posts, Starts, Completes, Waits, Locks}
use Rattle.entry_gains.specs.declared.deeds.Deed.TheVariants.{Unlocks}
use Rattle.entry_gains.specs.declared.deeds.Reach.{Reach}
use Rattle.entry_gains.specs.declared.ledger.Ledger.{Ledger}
use Rattle.entry_gains.specs.declared.slots.Meeting.{Meeting}
use Rattle.entry_gains.specs.declared.slots.Slot.{Slot}
use Rattle.entry_gains.specs.declared.slots.Slot.TheVariants.{Round, Post, Complete, Unlock}
use Rattle.entry_gains.specs.declared.tables.LockKey.{LockKey}
use Rattle.entry_gains.specs.declared.tables.RoundKey.{RoundKey}
use Rattle.entry_gains.specs.declared.tables.Side.{Side}
use Rattle.entry_gains.specs.declared.tables.SideKey.{SideKey}
use Rattle.entry_gains.specs.declared.tables.StartKey.{StartKey}

-- ---- keys

abbrev pub round_key : ℕ → Meeting → ℕ → RoundKey
round_key window meeting rank = record { window = window; meeting = meeting; rank = rank }

abbrev pub side_key : ℕ → ℕ → SideKey
side_key window rank = record { window = window; rank = rank }

abbrev pub start_key : ℕ → ℕ → ℕ → StartKey
start_key window rank number = record { window = window; rank = rank; number = number }

-- ---- the tables and the entries

-- the side says what a rank's synchronisations on a window are
pub record IsSide (made : List Synchronisation) (side : Side) : Type 0 where
  pub posted : (to : ℕ) → to < 16 → slice_index side.posted_to to ≡ naming to (flat_map group_of_post made)
  pub started : (to : ℕ) → to < 16 → slice_index side.started_to to ≡ naming to (flat_map group_of_start made)
  pub last : (to : ℕ) → to < 16 →
      slice_index_or side.last_post to false
      ≡ is_member to (slice_index_or (reverse (flat_map group_of_post made)) 0 [])
  pub starts : side.starts ≡ length (flat_map group_of_start made)
  pub completes : side.completes ≡ count_by is_complete made

-- the number, from 1, of the start among those that name the rank, and 0 where it does not
abbrev pub ordinal : ℕ → List (List ℕ) → ℕ → ℕ
ordinal to groups number = cond (is_member to (slice_index_or groups number [])) (naming to (take number groups) + 1) 0

pub record HasTables (ranks : ℕ) (entries : List Act) (ledger : Ledger) : Type 0 where
  pub rounds : (window : ℕ) (collective : Collective) (rank : ℕ) →
      begun_at ledger.rounds (round_key window (meeting_of collective) rank)
      ≡ length (arrivals entries collective rank window)
  pub sides : (window rank : ℕ) → IsSide (synchronisations entries rank window)
      (side_at ledger.sides (side_key window rank))
  pub started : (window rank number to : ℕ) → to < 16 →
      slice_index (ordinals_at ledger.started (start_key window rank number)) to
      ≡ ordinal to (flat_map group_of_start (synchronisations entries rank window)) number
  pub held : (window rank target : ℕ) → target < ranks →
      held_at ledger.held (lock_key (side_key window rank) target)
      ≡ held_kind (held_locks ranks entries) rank window target

-- memory for one entry more
pub record HasRoom (ledger : Ledger) : Type 0 where
  pub rounds : 1 ≤ spare ledger.rounds
  pub sides : 1 ≤ spare ledger.sides
  pub started : 1 ≤ spare ledger.started
  pub held : 16 ≤ spare ledger.held

-- ---- slots, by the tables

abbrev pub kind_reached : Ledger → ℕ → ℕ → Reach → ℕ → Option Lock
kind_reached ledger window rank reach at =
    cond (is_within reach at) (held_at ledger.held (lock_key (side_key window rank) at)) None

-- the slot at an index that a deed of step One fills
abbrev pub deed_given : Ledger → ℕ → ℕ → Deed → ℕ → Option Slot
deed_given ledger window rank Nothing at = None
deed_given ledger window rank (Meets meeting) at = None
deed_given ledger window rank (Posts named) at =
    slot_if (nat_lt at 16 && slice_index_or named at false)
    (Post window rank at (slice_index (side_at ledger.sides (side_key window rank)).posted_to at))
deed_given ledger window rank (Starts named) at = None
deed_given ledger window rank Completes at =
    let numbers = ordinals_at ledger.started
    (start_key window rank (side_at ledger.sides (side_key window rank)).completes) in
    slot_if (nat_lt at 16 && nat_lt 0 (slice_index numbers at)) (Complete window rank at (slice_index numbers at))
deed_given ledger window rank Waits at = None
deed_given ledger window rank (Locks kind reach) at = None
deed_given ledger window rank (Unlocks reach) at =
    if nat_lt at 16 then unlock_slot_of window at false (kind_reached ledger window rank reach at)
    else unlock_slot_of window (at - 16) true (kind_reached ledger window rank reach (at - 16))

-- the slot at an index from which a deed of step One gains
abbrev pub deed_read : Ledger → ℕ → ℕ → Deed → ℕ → Option Slot
deed_read ledger window rank Nothing at = None
deed_read ledger window rank (Meets meeting) at = None
deed_read ledger window rank (Posts named) at = None
deed_read ledger window rank (Starts named) at =
    slot_if (nat_lt at 16 && slice_index_or named at false)
    (Post window at rank (slice_index (side_at ledger.sides (side_key window rank)).started_to at))
deed_read ledger window rank Completes at = None
deed_read ledger window rank Waits at =
    let side = side_at ledger.sides (side_key window rank) in
    slot_if (nat_lt at 16 && slice_index_or side.last_post at false)
    (Complete window at rank (slice_index side.posted_to at))
deed_read ledger window rank (Locks kind reach) at =
    slot_if (is_within reach at) (Unlock window at (cond (is_exclusive kind) false true))
deed_read ledger window rank (Unlocks reach) at = None

-- the slot of an arrival at a round, and from which a Leave gains
abbrev pub deed_arrived : Ledger → ℕ → ℕ → Deed → ℕ → Option Slot
deed_arrived ledger window rank (Meets meeting) at =
    slot_if (at == 0) (Round window meeting (counted (begun_at ledger.rounds (round_key window meeting rank))))
deed_arrived ledger window rank deed at = None

abbrev pub deed_left : Ledger → ℕ → ℕ → Deed → ℕ → Option Slot
deed_left ledger window rank (Meets meeting) at =
    slot_if (at == 0) (Round window meeting (begun_at ledger.rounds (round_key window meeting rank)))
deed_left ledger window rank deed at = None

abbrev pub step_given : Ledger → ℕ → ℕ → Step → Deed → ℕ → Option Slot
step_given ledger window rank Arrive deed at = deed_arrived ledger window rank deed at
step_given ledger window rank Leave deed at = None
step_given ledger window rank One deed at = deed_given ledger window rank deed at

abbrev pub step_read : Ledger → ℕ → ℕ → Step → Deed → ℕ → Option Slot
step_read ledger window rank Arrive deed at = None
step_read ledger window rank Leave deed at = deed_left ledger window rank deed at
step_read ledger window rank One deed at = deed_read ledger window rank deed at

-- ---- one entry more

abbrev pub HasSameRounds : Ledger → Ledger → Type 0
HasSameRounds before after = (key : RoundKey) → begun_at after.rounds key ≡ begun_at before.rounds key

abbrev pub HasSameSides : Ledger → Ledger → Type 0
HasSameSides before after = (key : SideKey) → side_at after.sides key ≡ side_at before.sides key

abbrev pub HasSameStarts : Ledger → Ledger → Type 0
HasSameStarts before after = (key : StartKey) → ordinals_at after.started key ≡ ordinals_at before.started key

abbrev pub HasSameLocks : Ledger → Ledger → Type 0
HasSameLocks before after = (key : LockKey) → held_at after.held key ≡ held_at before.held key

pub record Stays (before after : Ledger) : Type 0 where
  pub rounds : HasSameRounds before after
  pub sides : HasSameSides before after
  pub started : HasSameStarts before after
  pub held : HasSameLocks before after

pub record Arrives (before after : Ledger) (key : RoundKey) : Type 0 where
  pub rounds : (other : RoundKey) →
      begun_at after.rounds other ≡ cond (round_eq key other) (counted (begun_at before.rounds key))
      (begun_at before.rounds other)
  pub sides : HasSameSides before after
  pub started : HasSameStarts before after
  pub held : HasSameLocks before after

-- one side is another one
abbrev pub SetsSide : Ledger → Ledger → SideKey → Side → Type 0
SetsSide before after key side =
    (other : SideKey) → side_at after.sides other ≡ cond (side_eq key other) side (side_at before.sides other)

-- the side with one post more
pub record HasPosted (before after : Side) (named : List Bool) : Type 0 where
  pub posted : IsRaised before.posted_to named after.posted_to
  pub last : after.last_post ≡ named
  pub started : after.started_to ≡ before.started_to
  pub starts : after.starts ≡ before.starts
  pub completes : after.completes ≡ before.completes

-- the side with one start more
pub record HasStarted (before after : Side) (named : List Bool) : Type 0 where
  pub started : IsRaised before.started_to named after.started_to
  pub starts : after.starts ≡ counted before.starts
  pub posted : after.posted_to ≡ before.posted_to
  pub last : after.last_post ≡ before.last_post
  pub completes : after.completes ≡ before.completes

-- the side with one complete more
pub record HasCompleted (before after : Side) : Type 0 where
  pub completes : after.completes ≡ counted before.completes
  pub posted : after.posted_to ≡ before.posted_to
  pub last : after.last_post ≡ before.last_post
  pub started : after.started_to ≡ before.started_to
  pub starts : after.starts ≡ before.starts

pub record AddsPost (before after : Ledger) (key : SideKey) (named : List Bool) : Type 0 where
  pub side : Side
  pub posts : HasPosted (side_at before.sides key) side named
  pub sides : SetsSide before after key side
  pub rounds : HasSameRounds before after
  pub started : HasSameStarts before after
  pub held : HasSameLocks before after

pub record AddsStart (before after : Ledger) (key : SideKey) (named : List Bool) : Type 0 where
  pub side : Side
  pub ordinals : List ℕ
  pub starts : HasStarted (side_at before.sides key) side named
  pub put : ArePut (side_at before.sides key).started_to named ordinals
  pub sides : SetsSide before after key side
  pub started : (other : StartKey) → ordinals_at after.started other
      ≡ cond (start_eq (start_key key.window key.rank (side_at before.sides key).starts) other) ordinals
      (ordinals_at before.started other)
  pub rounds : HasSameRounds before after
  pub held : HasSameLocks before after

pub record AddsComplete (before after : Ledger) (key : SideKey) : Type 0 where
  pub side : Side
  pub completes : HasCompleted (side_at before.sides key) side
  pub sides : SetsSide before after key side
  pub rounds : HasSameRounds before after
  pub started : HasSameStarts before after
  pub held : HasSameLocks before after

pub record AddsLocks (before after : Ledger) (key : SideKey) (kind : Lock) (reach : Reach) : Type 0 where
  pub held : (other : LockKey) → held_at after.held other
      ≡ cond (is_reached_below 16 key reach other) (Some (stronger (held_at before.held other) kind))
      (held_at before.held other)
  pub rounds : HasSameRounds before after
  pub sides : HasSameSides before after
  pub started : HasSameStarts before after

pub record AddsUnlocks (before after : Ledger) (key : SideKey) (reach : Reach) : Type 0 where
  pub held : (other : LockKey) →
      held_at after.held other ≡ cond (is_reached_below 16 key reach other) None (held_at before.held other)
  pub rounds : HasSameRounds before after
  pub sides : HasSameSides before after
  pub started : HasSameStarts before after

-- what a collective call adds by one of its steps
abbrev pub AddsMeeting : Ledger → Ledger → Step → RoundKey → Type 0
AddsMeeting before after Arrive key = Arrives before after key
AddsMeeting before after Leave key = Stays before after
AddsMeeting before after One key = Stays before after

-- what an entry adds
abbrev pub Adds : Ledger → Ledger → ℕ → ℕ → Step → Deed → Type 0
Adds before after window rank step Nothing = Stays before after
Adds before after window rank step (Meets meeting) = AddsMeeting before after step (round_key window meeting rank)
Adds before after window rank step (Posts named) = AddsPost before after (side_key window rank) named
Adds before after window rank step (Starts named) = AddsStart before after (side_key window rank) named
Adds before after window rank step Completes = AddsComplete before after (side_key window rank)
Adds before after window rank step Waits = Stays before after
Adds before after window rank step (Locks kind reach) = AddsLocks before after (side_key window rank) kind reach
Adds before after window rank step (Unlocks reach) = AddsUnlocks before after (side_key window rank) reach
