-- The touches of a log: each access whole, in order, after its Issue, and before what waits for it. MPI 3.1, section
-- 11.7, in this project's profile.
use Rattle.std.specs.Prelude.{ℕ, ◌≡◌, ◌+◌, ◌<◌, Bool, true, false, not, ◌&&◌, ◌||◌, ◌==◌, if◌then◌else◌, List, [], ◌∷◌}
use Rattle.std.specs.Prelude.{length, take, drop, slice_get, IsTrue, IsSome, IsSomeAnd, IfSome}
use Rattle.std.specs.List.{flat_map, list_any, AllByRecursion}
use Rattle.std.specs.Option.{option_map_or}
use Rattle.rma_types.specs.declared.accesses.Kind.{Kind}
use Rattle.rma_types.specs.declared.accesses.Kind.TheVariants.{Get, Put, Acc, Cas, Load, Store}
use Rattle.rma_types.specs.declared.calls.Call.{Call}
use Rattle.rma_record.specs.declared.items.Item.{Item}
use Rattle.rma_record.specs.declared.items.Item.TheVariants.{Touch, Entry}
use Rattle.call_rules.specs.declared.elements.Piece.{Piece}
use Rattle.rma_types.specs.Actions.{transfer_of}
use Rattle.lawful_runs.specs.Accesses.{issued_at, issued_from, pieces_of}
use Rattle.lawful_runs.specs.Items.{is_ended, is_own_refusal, number_in, belongs_to}
use Rattle.lawful_runs.specs.Stages.{RankOfRun, calls_here, known_at}
use Rattle.rank_rules.specs.Pending.{gives_way, must_wait}
use Rattle.rank_rules.specs.declared.pending.PendingAccess.{PendingAccess}

-- the element and the cell of each touch of the access whose Issue has this index
abbrev pub touch_of : ℕ → Item → List (ℕ × ℕ)
touch_of index (Touch issue element cell place bits) = if issue == index then (element, cell) ∷ [] else []
touch_of index item = []

abbrev pub touched_by : ℕ → List Item → List (ℕ × ℕ)
touched_by index items = flat_map (touch_of index) items

-- the elements of an access with their cells, in order, from this number on
abbrev pub elements_from : ℕ → List Piece → List (ℕ × ℕ)
elements_from element [] = []
elements_from element (piece ∷ pieces) = (element, piece.cell) ∷ elements_from (element + 1) pieces

-- the accesses of some first items of the log
abbrev pub issued_in : RankOfRun → List Item → List PendingAccess
issued_in here items = issued_from (calls_here here) 0 items

abbrev pub pieces_here : RankOfRun → PendingAccess → List Piece
pieces_here here one = pieces_of here.stage.layout (calls_here here) one

-- each element of the access is touched once, in their order, on exactly its own cell
abbrev pub IsTouchedWhole : RankOfRun → List Item → PendingAccess → Type 0
IsTouchedWhole here items one = touched_by one.index items ≡ elements_from 0 (pieces_here here one)

-- a touch at this index stands after the Issue of its access
abbrev pub HasIssueBefore : RankOfRun → List Item → ℕ → Item → Type 0
HasIssueBefore here log index (Touch issue element cell place bits) =
    (issue < index) × IsSome (issued_at (calls_here here) log issue)
HasIssueBefore here log index item = Unit {0}

abbrev pub HasItsIssue : RankOfRun → List Item → ℕ → Type 0
HasItsIssue here log index = IfSome (slice_get log index) (HasIssueBefore here log index)

-- the touches of the access follow its Issue with no other item between
abbrev pub FollowsDirectly : RankOfRun → List Item → PendingAccess → Type 0
FollowsDirectly here log one =
    let count = length (pieces_here here one) in
    length (touched_by one.index (take count (drop (one.index + 1) log))) ≡ count

-- a load or a store
abbrev pub is_local : Kind → Bool
is_local Get = false
is_local Put = false
is_local (Acc op dtype) = false
is_local (Cas dtype) = false
is_local Load = true
is_local Store = true

abbrev pub IsLocalDirect : RankOfRun → List Item → PendingAccess → Type 0
IsLocalDirect here log one = IsTrue (is_local one.access.kind) → FollowsDirectly here log one

-- of two accumulates or cas that share a cell, all touches of the earlier stand before all touches of the later
abbrev pub KeepsIssueOrder : RankOfRun → List Item → ℕ → ℕ → Type 0
KeepsIssueOrder here log first second =
    let issued = issued_at (calls_here here) log in
    second < first → IfSome (issued first)
    (λ later. IfSome (issued second) (λ earlier. gives_way later earlier ≡ false))

-- the index of the Issue of a touch
abbrev pub issue_touched : Item → List ℕ
issue_touched (Touch issue element cell place bits) = issue ∷ []
issue_touched item = []

-- the indices of the Issues of the touches, in the order of the touches
abbrev pub issues_touched : List Item → List ℕ
issues_touched log = flat_map issue_touched log

-- ---- what must be touched before an item

-- the item is the first one of a call that must wait for the access
abbrev pub begins_awaiting : RankOfRun → List Item → Item → PendingAccess → ℕ → Bool
begins_awaiting here before item one number =
    not (is_own_refusal item) && not (list_any (belongs_to number) before)
    && option_map_or (λ call. must_wait (known_at here before).requests call one) (slice_get (calls_here here) number)
    false

-- the item must wait for the access: it is Ended, or the first item of a call that must
abbrev pub is_awaiting : RankOfRun → List Item → PendingAccess → Item → Bool
is_awaiting here before one item =
    is_ended item || option_map_or (begins_awaiting here before item one) (number_in item) false

-- the item at the index of the log must wait for the access
abbrev pub waits_at : RankOfRun → List Item → ℕ → PendingAccess → Bool
waits_at here log index one = option_map_or (is_awaiting here (take index log) one) (slice_get log index) false

-- each access that the item at the index must wait for is touched whole before it
abbrev pub IsAwaitedWhole : RankOfRun → List Item → ℕ → Type 0
IsAwaitedWhole here log index = AllByRecursion
    (λ one. IsTrue (waits_at here log index one) → IsTouchedWhole here (take index log) one)
    (issued_in here (take index log))

-- the next item belongs to the call of this number, where that moves data
abbrev pub IsFollowedByCall : List Item → ℕ → ℕ → Call → Type 0
IsFollowedByCall log index number call =
    IsSome (transfer_of call) → IsSomeAnd (slice_get log (index + 1)) (λ next. IsTrue (belongs_to number next))

-- the look-up of an RMA call on a dynamic window is directly followed by its Issue, with no touch between
abbrev pub IsFollowedAt : RankOfRun → List Item → ℕ → Item → Type 0
IsFollowedAt here log index (Entry number place step) =
    IfSome (slice_get (calls_here here) number) (IsFollowedByCall log index number)
IsFollowedAt here log index item = Unit {0}

abbrev pub IsLookUpFollowed : RankOfRun → List Item → ℕ → Type 0
IsLookUpFollowed here log index = IfSome (slice_get log index) (IsFollowedAt here log index)
