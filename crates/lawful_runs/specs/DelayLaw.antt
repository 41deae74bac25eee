-- When the touches of an access stand, by the delay: this project's profile.
use Rattle.std.specs.Prelude.{ℕ, ◌+◌, Bool, true, false, not, ◌&&◌, ◌||◌, ◌==◌, nat_lt, if◌then◌else◌, List, [], ◌∷◌}
use Rattle.std.specs.Prelude.{length, take, drop, slice_get, Option, Some, None, IsTrue, IfSome}
use Rattle.std.specs.List.{filter, list_any, AllByRecursion}
use Rattle.std.specs.Option.{option_map_or}
use Rattle.rma_types.specs.declared.schedules.Delay.{Delay}
use Rattle.rma_types.specs.declared.schedules.Delay.TheVariants.{None as NoDelay, End as EndDelay}
use Rattle.rma_types.specs.declared.schedules.Delay.TheVariants.{Seeded as SeededDelay}
use Rattle.rma_record.specs.declared.items.Item.{Item}
use Rattle.rma_record.specs.declared.items.Item.TheVariants.{Touch}
use Rattle.call_rules.specs.Pieces.{numbers_from}
use Rattle.lawful_runs.specs.Accesses.{issued_at}
use Rattle.lawful_runs.specs.Items.{is_touch}
use Rattle.lawful_runs.specs.Stages.{RankOfRun, calls_here}
use Rattle.lawful_runs.specs.TouchLaw.{FollowsDirectly, issued_in, is_local, pieces_here, touched_by, waits_at}
use Rattle.rank_rules.specs.Pending.{way}
use Rattle.rank_rules.specs.declared.pending.PendingAccess.{PendingAccess}

-- the access is not yet touched whole by these items
abbrev pub is_unfinished : RankOfRun → List Item → PendingAccess → Bool
is_unfinished here items one = nat_lt (length (touched_by one.index items)) (length (pieces_here here one))

-- the accesses that are pending before the item at the index: issued, and not yet touched whole
abbrev pub pending_at : RankOfRun → List Item → ℕ → List PendingAccess
pending_at here log index =
    let before = take index log in filter (is_unfinished here before) (issued_in here before)

-- the index of the first item from this one on that is no touch
abbrev pub next_untouched : ℕ → List Item → Option ℕ
next_untouched index [] = None
next_untouched index (item ∷ items) = if is_touch item then next_untouched (index + 1) items else Some index

-- the access at a place of the pending ones gives way in the end to the one whose Issue has this index
abbrev pub gives_way_to : List PendingAccess → ℕ → ℕ → Bool
gives_way_to pending at issue =
    option_map_or (λ (one : PendingAccess). one.index == issue) (slice_get pending (way pending at)) false

-- the item at the index must wait for the pending access at a place, which is that of the Issue or gave way to it
abbrev pub is_due_for : RankOfRun → List Item → List PendingAccess → ℕ → ℕ → ℕ → Bool
is_due_for here log pending issue index at = option_map_or
    (λ (one : PendingAccess). waits_at here log index one && (one.index == issue || gives_way_to pending at issue))
    (slice_get pending at) false

-- the item at the index must wait for the access of this Issue, or for one that gave way to it
abbrev pub is_due_at : RankOfRun → List Item → List PendingAccess → ℕ → ℕ → Bool
is_due_at here log pending issue index =
    list_any (is_due_for here log pending issue index) (numbers_from 0 (length pending))

-- a touch of the access of this Issue, at the index of the log, is due: no item but touches follows, or the next other
-- one must wait for it
abbrev pub is_due : RankOfRun → List Item → ℕ → ℕ → Bool
is_due here log index issue =
    option_map_or (is_due_at here log (pending_at here log index) issue) (next_untouched index (drop index log)) true

-- the access of this Issue is an RMA access
abbrev pub is_remote : RankOfRun → List Item → ℕ → Bool
is_remote here log issue =
    option_map_or (λ (one : PendingAccess). not (is_local one.access.kind)) (issued_at (calls_here here) log issue)
    false

-- With delay end, a touch of an RMA access is made when a call must have it: no item but touches follows, and the rank
-- stands; or Ended does; or an item of a call that waits for this access, or for one that gave way to it.
abbrev pub IsMadeWhenDue : RankOfRun → List Item → ℕ → Item → Type 0
IsMadeWhenDue here log index (Touch issue element cell place bits) =
    IsTrue (is_remote here log issue) → IsTrue (is_due here log index issue)
IsMadeWhenDue here log index item = Unit {0}

abbrev pub IsDueAt : RankOfRun → List Item → ℕ → Type 0
IsDueAt here log index = IfSome (slice_get log index) (IsMadeWhenDue here log index)

abbrev pub KeepsDelay : Delay → RankOfRun → List Item → Type 0
KeepsDelay NoDelay here log = AllByRecursion (FollowsDirectly here log) (issued_in here log)
KeepsDelay EndDelay here log = AllByRecursion (IsDueAt here log) (numbers_from 0 (length log))
KeepsDelay SeededDelay here log = Unit {0}
