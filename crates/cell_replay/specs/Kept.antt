-- The touches of a run as the code keeps them: this project's record of MPI 3.1, section 11.7.
use Rattle.std.specs.Prelude.{ℕ, ◌+◌, ◌*◌, ◌/◌, ◌%◌, Bool, nat_lt, List, map, Option, Some, None, if◌then◌else◌, IfSome}
use Rattle.std.specs.Prelude.{slice_get}
use Rattle.std.specs.List.{AllByRecursion}
use Rattle.std.specs.Option.{option_map_or}
use Rattle.rma_types.specs.declared.accesses.Access.{Access}
use Rattle.rma_types.specs.declared.accesses.Id.{Id}
use Rattle.rma_types.specs.declared.calls.Call.{Call}
use Rattle.rma_types.specs.declared.dtypes.Dtype.{Dtype}
use Rattle.rma_types.specs.declared.scripts.Script.{Script}
use Rattle.rma_types.specs.Datatypes.{size_of}
use Rattle.rma_record.specs.declared.items.Item.{Item}
use Rattle.rma_record.specs.declared.items.Item.TheVariants.{Issue}
use Rattle.rma_record.specs.declared.runs.Run.{Run}
use Rattle.call_rules.specs.declared.elements.Change.{Change}
use Rattle.rma_types.specs.declared.actions.Transfer.{Transfer}
use Rattle.rma_types.specs.Actions.{transfer_of}
use Rattle.call_rules.specs.declared.elements.Piece.{Piece}
use Rattle.call_rules.specs.Elements.{Fits, element_in}
use Rattle.access_steps.specs.Plans.{change_by}
use Rattle.lawful_runs.specs.Accesses.{Touching, on_cell, transfer_at, updates_in}
use Rattle.lawful_runs.specs.Logs.{calls_of, log_of}
use Rattle.order_rules.specs.OrderedReads.{left_before}
use Rattle.cell_replay.specs.declared.touches.CellTouch.{CellTouch}

-- the touch that the code keeps so
abbrev pub touching_of : CellTouch → Touching
touching_of touch = record {
  id = touch.id;
  issue = touch.issue;
  element = touch.element;
  cell = touch.cell;
  place = touch.place;
  bits = touch.bits;
  change = touch.change;
}

-- the touches that the code keeps so
abbrev pub touchings_of : List CellTouch → List Touching
touchings_of touches = map touching_of touches

-- each change fits its cell
abbrev pub DoFit : List Touching → Type 0
DoFit touches = AllByRecursion (λ (touch : Touching). IfSome touch.change Fits) touches

-- the datatype of the elements that a call moves
abbrev pub dtype_of : Call → Option Dtype
dtype_of call = option_map_or (λ (t : Transfer). Some t.dtype) (transfer_of call) None

-- where the element of an access begins in its cell
abbrev pub first_byte_at : Access → Dtype → ℕ → ℕ
first_byte_at access dtype element = (access.lo + element * size_of dtype) % 4

-- the change that an access of a call makes to one of its elements
abbrev pub change_in : Access → Call → ℕ → Option Change
change_in access call element = option_map_or (λ (dtype : Dtype).
    if nat_lt element (access.len / size_of dtype) then change_by call element (first_byte_at access dtype element)
    else None) (dtype_of call) None

-- the change that an access makes to one of its elements, where an item issues it
abbrev pub change_issued : List Call → ℕ → Item → Option Change
change_issued calls element (Issue number access) =
    option_map_or (λ call. change_in access call element) (slice_get calls number) None
change_issued calls element item = None

-- the change that a touch makes of an element, whose access's Issue has this index
abbrev pub change_kept : List Call → List Item → ℕ → ℕ → Option Change
change_kept calls log issue element = option_map_or (change_issued calls element) (slice_get log issue) None

-- ---- reads

-- an element at a piece, in what those updates among the touches leave that are before an item
abbrev pub element_left : List Touching → (Id → Id → Bool) → Id → Dtype → Piece → ℕ
element_left touches before id dtype piece =
    element_in (left_before before id (updates_in (on_cell piece.cell touches))) piece.first_byte dtype

-- the access that an item issues, with the datatype of its elements
abbrev pub access_by : List Call → Item → Option (Access × Dtype)
access_by calls (Issue number access) =
    option_map_or (λ (t : Transfer). Some (access, t.dtype)) (transfer_at calls number) None
access_by calls item = None

-- the access that the item of this name issues
abbrev pub access_named : Script → Run → Id → Option (Access × Dtype)
access_named script run id =
    if nat_lt id.rank script.ranks
    then option_map_or (access_by (calls_of script id.rank)) (slice_get (log_of run id.rank) id.index) None
    else None
