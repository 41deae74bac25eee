-- The slots that an entry fills with its gift, and those from which a next entry gains: MPI 3.1, section 11.7, in this
-- project's profile of order.
use Rattle.std.specs.Prelude.{ℕ, ◌+◌, ◌-◌, Bool, true, false, ◌&&◌, ◌==◌, not, nat_lt, if◌then◌else◌, List, Option}
use Rattle.std.specs.Prelude.{Some, None, ℤ}
use Rattle.std.specs.List.{list_any}
use Rattle.rma_types.specs.declared.accesses.Step.{Step}
use Rattle.rma_types.specs.declared.accesses.Step.TheVariants.{Arrive, Leave, One}
use Rattle.rma_types.specs.declared.calls.Lock.{Lock}
use Rattle.rma_types.specs.declared.calls.Lock.TheVariants.{Shared, Exclusive}
use Rattle.rma_types.specs.declared.actions.Synchronisation.{Synchronisation}
use Rattle.rma_types.specs.declared.actions.Synchronisation.TheVariants.{Fences, Posts as PostsTo, Starts, Completes}
use Rattle.rma_types.specs.declared.actions.Synchronisation.TheVariants.{Waits, Locks, Unlocks, Flushes, Syncs}
use Rattle.rma_types.specs.Actions.{synchronisation_of}
use Rattle.call_rules.specs.Pieces.{numbers_from}
use Rattle.call_rules.specs.Ranks.{is_member, members_of, natural}
use Rattle.board_rules.specs.Edges.{Event}
use Rattle.board_rules.specs.Entries.{Collective, Creation as CreationOf, Freeing as FreeingOf, Fence as FenceOf}
use Rattle.board_rules.specs.Entries.{Barrier as BarrierOf, collective_of}
use Rattle.board_rules.specs.Locks.{Held, held_locks, is_exclusive}
use Rattle.board_rules.specs.Posts.{completed_groups, completes, last_posted, naming, posts, starts}
use Rattle.board_rules.specs.Questions.{Question}
use Rattle.board_rules.specs.Rounds.{rounds_begun}
use Rattle.std.specs.Prelude.{slice_index_or, []}
use Rattle.entry_gains.specs.Plans.{slot_if, unlock_slot_of}
use Rattle.entry_gains.specs.Slots.{slot_eq}
use Rattle.entry_gains.specs.declared.slots.Meeting.{Meeting}
use Rattle.entry_gains.specs.declared.slots.Meeting.TheVariants.{Creation, Freeing, Fence, Barrier}
use Rattle.entry_gains.specs.declared.slots.Slot.{Slot}
use Rattle.entry_gains.specs.declared.slots.Slot.TheVariants.{Round, Post, Complete, Unlock}

abbrev pub meeting_of : Collective → Meeting
meeting_of CreationOf = Creation
meeting_of FreeingOf = Freeing
meeting_of FenceOf = Fence
meeting_of BarrierOf = Barrier

-- the rank is one that a lock or an unlock is for: the one that it names, or all
abbrev pub is_reached : ℕ → Option ℤ → ℕ → Bool
is_reached ranks None at = nat_lt at ranks
is_reached ranks (Some target) at = at == natural target

-- the lock is the rank's on the window, at the target
abbrev pub is_held_at : ℕ → ℕ → ℕ → Held → Bool
is_held_at rank window target one = one.holder == rank && one.window == window && one.target == target

-- the strongest kind of the locks that a rank holds on a window at a target
unfoldable pub held_kind : List Held → ℕ → ℕ → ℕ → Option Lock
held_kind held rank window target =
    if list_any (λ (one : Held). is_held_at rank window target one && is_exclusive one.kind) held then Some Exclusive
    else if list_any (is_held_at rank window target) held then Some Shared else None

-- the group of the start that a complete ends
abbrev pub group_ended : Question → List ℕ
group_ended q = slice_index_or (starts q q.rank) (completes q q.rank) []

-- the kind of the lock that the asking rank holds at a target
abbrev pub kind_held : Question → ℕ → Option Lock
kind_held q target = held_kind (held_locks q.ranks q.entries) q.rank q.window target

abbrev pub reached_slot : Question → Option ℤ → Bool → ℕ → Option Slot
reached_slot q target exclusive at =
    if is_reached q.ranks target at then unlock_slot_of q.window at exclusive (kind_held q at) else None

-- ---- what is filled

-- the slot at an index, of a synchronisation
abbrev pub slot_given : Question → Synchronisation → ℕ → Option Slot
slot_given q (Fences asserts) at = None
slot_given q (PostsTo group asserts) at =
    slot_if (nat_lt at 16 && is_member at (members_of group)) (Post q.window q.rank at (naming at (posts q q.rank)))
slot_given q (Starts group asserts) at = None
slot_given q Completes at =
    slot_if (nat_lt at 16 && is_member at (group_ended q))
    (Complete q.window q.rank at (naming at (completed_groups q q.rank) + 1))
slot_given q (Waits tests) at = None
slot_given q (Locks kind target asserts) at = None
slot_given q (Unlocks target) at =
    if nat_lt at 16 then reached_slot q target false at else reached_slot q target true (at - 16)
slot_given q (Flushes target local) at = None
slot_given q Syncs at = None

-- the slot of an arrival in its round
abbrev pub slot_arrived : Question → ℕ → Option Collective → Option Slot
slot_arrived q at None = None
slot_arrived q at (Some collective) = slot_if (at == 0) (Round q.window (meeting_of collective) (rounds_begun q + 1))

abbrev pub slot_synchronised : Question → ℕ → Option Synchronisation → Option Slot
slot_synchronised q at None = None
slot_synchronised q at (Some s) = slot_given q s at

-- the slot at an index below 32 that an entry fills
abbrev pub given_slot : Question → Step → ℕ → Option Slot
given_slot q Arrive at = slot_arrived q at (collective_of q.call)
given_slot q Leave at = None
given_slot q One at = slot_synchronised q at (synchronisation_of q.call)

abbrev pub is_slot : Slot → Option Slot → Bool
is_slot slot None = false
is_slot slot (Some one) = slot_eq one slot

-- the entry fills the slot
unfoldable pub fills : Event → Slot → Bool
fills a slot = list_any (λ at. is_slot slot (given_slot a.asked a.step at)) (numbers_from 0 32)

-- ---- from what is gained

abbrev pub slot_read : Question → Synchronisation → ℕ → Option Slot
slot_read q (Fences asserts) at = None
slot_read q (PostsTo group asserts) at = None
slot_read q (Starts group asserts) at =
    slot_if (nat_lt at 16 && is_member at (members_of group)) (Post q.window at q.rank (naming at (starts q q.rank)))
slot_read q Completes at = None
slot_read q (Waits tests) at =
    slot_if (nat_lt at 16 && is_member at (last_posted q)) (Complete q.window at q.rank (naming at (posts q q.rank)))
slot_read q (Locks kind target asserts) at =
    slot_if (is_reached q.ranks target at) (Unlock q.window at (not (is_exclusive kind)))
slot_read q (Unlocks target) at = None
slot_read q (Flushes target local) at = None
slot_read q Syncs at = None

abbrev pub slot_left : Question → ℕ → Option Collective → Option Slot
slot_left q at None = None
slot_left q at (Some collective) = slot_if (at == 0) (Round q.window (meeting_of collective) (rounds_begun q))

abbrev pub slot_asked : Question → ℕ → Option Synchronisation → Option Slot
slot_asked q at None = None
slot_asked q at (Some s) = slot_read q s at

-- the slot at an index below 32 from which an entry gains
abbrev pub read_slot : Question → Step → ℕ → Option Slot
read_slot q Arrive at = None
read_slot q Leave at = slot_left q at (collective_of q.call)
read_slot q One at = slot_asked q at (synchronisation_of q.call)

-- the slot at the index is one that the earlier entry fills
abbrev pub is_filled_by : Event → Option Slot → Bool
is_filled_by a None = false
is_filled_by a (Some slot) = fills a slot

-- the later entry gains from a slot that the earlier one fills
unfoldable pub do_meet : Event → Event → Bool
do_meet a b = list_any (λ at. is_filled_by a (read_slot b.asked b.step at)) (numbers_from 0 32)
