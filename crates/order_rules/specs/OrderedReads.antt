-- What the updates that are ordered before a read leave, and how touches keep the order of the run: after MPI 3.1,
-- section 11.7, in this project's profile.
use Rattle.std.specs.Prelude.{ℕ, ◌≡◌, ◌≢◌, Bool, true, false, ◌==◌, IsTrue, Contains, List, [], length, map}
use Rattle.std.specs.List.{filter, flat_map, zip, AllByRecursion}
use Rattle.std.specs.Option.{option_map_or}
use Rattle.rma_types.specs.declared.accesses.Id.{Id}
use Rattle.rma_types.specs.declared.accesses.Kind.{Kind}
use Rattle.rma_types.specs.declared.accesses.Kind.TheVariants.{Get, Put, Acc, Cas, Load, Store}
use Rattle.rma_types.specs.declared.dtypes.Dtype.{Dtype}
use Rattle.rma_types.specs.declared.scripts.Script.{Script}
use Rattle.rma_record.specs.declared.runs.Run.{Run}
use Rattle.call_rules.specs.declared.elements.Piece.{Piece}
use Rattle.rma_types.specs.declared.actions.Transfer.{Transfer}
use Rattle.call_rules.specs.Elements.{element_in}
use Rattle.call_rules.specs.Layout.{layout}
use Rattle.lawful_runs.specs.Accesses.{Touching, touches_of, all_touches, on_cell, updates_in, transfer_at, pieces_of}
use Rattle.lawful_runs.specs.Cells.{state, KeepsOrder}
use Rattle.lawful_runs.specs.Logs.{calls_of}
use Rattle.order_rules.specs.Before.{Before}
use Rattle.order_rules.specs.CallSteps.{IssuedAccess, accesses_in, accesses_named}

-- ---- touches

-- Of two touches on one cell, one before the other, an update's place is passed, and a read's not fallen below.
abbrev pub TouchesAgree : Script → Run → Type 0
TouchesAgree script run = (x y : Touching) →
    Contains (all_touches script run) x → Contains (all_touches script run) y →
    x.cell ≡ y.cell → x.id ≢ y.id → Before script run x.id y.id → KeepsOrder x y

-- ---- ordered reads

-- the updates of a cell
abbrev pub updates_of : Script → Run → ℕ → List Touching
updates_of script run cell = updates_in (on_cell cell (all_touches script run))

-- what the updates of a cell that are before an item leave, in the order of their places
abbrev pub left_before : (Id → Id → Bool) → Id → List Touching → ℕ
left_before before id updates = state (filter (λ (update : Touching). before update.id id) updates) (length updates)

-- what is read at each piece of an access, by the datatype of its call
abbrev pub elements_of : Script → IssuedAccess → (Dtype → Piece → ℕ) → List ℕ
elements_of script f read = option_map_or
    (λ (t : Transfer). map (read t.dtype) (pieces_of (layout script) (calls_of script f.id.rank) f.issued))
    (transfer_at (calls_of script f.id.rank) f.issued.number) []

-- an element at a piece, in what the updates before an item leave
abbrev pub element_before : Script → Run → (Id → Id → Bool) → Id → Dtype → Piece → ℕ
element_before script run before id dtype piece =
    element_in (left_before before id (updates_of script run piece.cell)) piece.first_byte dtype

-- the ordered read of a get or a load: its elements, as the updates before its Issue leave them
abbrev pub ordered_read : Script → Run → (Id → Id → Bool) → IssuedAccess → List ℕ
ordered_read script run before f = elements_of script f (element_before script run before f.id)

-- the ordered read of the get or the load of this name
abbrev pub ordered_read_of : Script → Run → (Id → Id → Bool) → Id → List ℕ
ordered_read_of script run before id = flat_map (ordered_read script run before) (accesses_named script run id)

-- ---- what was read

-- the touches of an access, in the order of its elements
abbrev pub touches_by : Script → Run → IssuedAccess → List Touching
touches_by script run f =
    filter (λ (touch : Touching). touch.issue == f.id.index) (touches_of script run f.id.rank)

abbrev pub element_touched : Dtype → (Piece × Touching) → ℕ
element_touched dtype (piece, touch) = element_in touch.bits piece.first_byte dtype

-- the elements that an access read, in the bits of its touches
abbrev pub elements_read : Script → Run → IssuedAccess → List ℕ
elements_read script run f = option_map_or
    (λ (t : Transfer). map (element_touched t.dtype)
    (zip (pieces_of (layout script) (calls_of script f.id.rank) f.issued) (touches_by script run f)))
    (transfer_at (calls_of script f.id.rank) f.issued.number) []

-- a get or a load
abbrev pub is_get_or_load : Kind → Bool
is_get_or_load Get = true
is_get_or_load Put = false
is_get_or_load (Acc op dtype) = false
is_get_or_load (Cas dtype) = false
is_get_or_load Load = true
is_get_or_load Store = false

-- each get and each load reads what the updates before its Issue leave
abbrev pub ReadsInOrder : Script → Run → (Id → Id → Bool) → Type 0
ReadsInOrder script run before = AllByRecursion
    (λ (f : IssuedAccess). IsTrue (is_get_or_load f.issued.access.kind) →
    elements_read script run f ≡ ordered_read script run before f)
    (accesses_in script run)
