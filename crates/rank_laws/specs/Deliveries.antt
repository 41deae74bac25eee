-- The delivery of an access by a rank that shares memory with others: MPI 3.1, section 11.7, in this project's profile.
-- Which state of a cell a touch finds is open; its place is not below what the rank can still touch.
use Rattle.std.specs.Prelude.{ℕ, ◌+◌, ◌≡◌, ◌≤◌, List, [], ◌∷◌, ◌++◌, Option, Some, None, slice_get, remove}
use Rattle.rma_record.specs.declared.items.Item.{Item}
use Rattle.rma_record.specs.declared.items.Item.TheVariants.{Touch}
use Rattle.call_rules.specs.declared.elements.Change.{Change}
use Rattle.call_rules.specs.declared.elements.Piece.{Piece}
use Rattle.rma_types.specs.declared.actions.Transfer.{Transfer}
use Rattle.call_rules.specs.Pieces.{pieces}
use Rattle.call_rules.specs.Transfers.{change_of}
use Rattle.lawful_runs.specs.Accesses.{transfer_at}
use Rattle.lawful_runs.specs.Stages.{Stage, calls_at}
use Rattle.rank_rules.specs.declared.pending.PendingAccess.{PendingAccess}
use Rattle.rank_laws.specs.Fronts.{Lows, AreAtMost}
use Rattle.step_runs.specs.Agents.{Agent}

-- the least place that may be touched after a touch at this one: the next, where the touch is an update
abbrev pub place_after : ℕ → Option Change → ℕ
place_after place None = place
place_after place (Some change) = place + 1

-- The items are touches of the elements at these pieces, the first of them having this number. Each has a place that is
-- not below its cell's low, and leaves its low at or above the least place that may follow. Lows never fall.
abbrev pub AreTouches : Transfer → (issue : ℕ) → (element : ℕ) → List Piece → Lows → List Item → Lows → Type 0
AreTouches t issue element [] lows items after = (items ≡ []) × AreAtMost lows after
AreTouches t issue element (piece ∷ rest) lows items after =
    (place : ℕ) × (bits : ℕ) × (others : List Item) × (middle : Lows)
    × (items ≡ Touch issue element piece.cell place bits ∷ others)
    × (lows piece.cell ≤ place)
    × AreAtMost lows middle
    × (place_after place (change_of t element piece.first_byte) ≤ middle piece.cell)
    × AreTouches t issue (element + 1) rest middle others after

-- the items are the touches of the access, whose call makes this transfer
abbrev pub AreTouchesOf : Stage → PendingAccess → Option Transfer → Lows → List Item → Lows → Type 0
AreTouchesOf stage one None lows items after = (items ≡ []) × AreAtMost lows after
AreTouchesOf stage one (Some t) lows items after =
    AreTouches t one.index 0 (pieces stage.layout one.access t.dtype) lows items after

-- the rank after the touches of the pending access at a place
abbrev pub delivered : Agent → ℕ → List Item → Agent
delivered agent at items = record agent { log = agent.log ++ items; pending = remove agent.pending at }

-- the pending access is delivered, if there is one
abbrev pub IsDelivered : Stage → Agent → ℕ → Option PendingAccess → Lows → Agent → Lows → Type 0
IsDelivered stage agent at None lows next after = (next ≡ agent) × AreAtMost lows after
IsDelivered stage agent at (Some one) lows next after =
    (items : List Item)
    × AreTouchesOf stage one (transfer_at (calls_at stage agent.rank) one.number) lows items after
    × (next ≡ delivered agent at items)

-- the pending access at the place is delivered, if a place is given
abbrev pub Delivers : Stage → Agent → Option ℕ → Lows → Agent → Lows → Type 0
Delivers stage agent None lows next after = (next ≡ agent) × AreAtMost lows after
Delivers stage agent (Some at) lows next after = IsDelivered stage agent at
    (slice_get agent.pending at) lows next after
