-- The touches that an access asks for: one for each element, on its cell, with its change. MPI 3.1, sections 11.3 and
-- 11.7.1.
use Rattle.std.specs.Prelude.{◌≡◌, ◌<◌, ℕ, ◌+◌, ◌*◌, ◌%◌, ◌^◌, Bool, true, false, not, ◌&&◌, List, map, Option}
use Rattle.std.specs.Prelude.{IsSomeAnd, is_some}
use Rattle.std.specs.Option.{option_map_or, option_and_then}
use Rattle.rma_types.specs.declared.accesses.Access.{Access}
use Rattle.rma_types.specs.declared.calls.Call.{Call}
use Rattle.rma_types.specs.declared.scripts.Layout.{Layout}
use Rattle.rma_types.specs.declared.dtypes.Dtype.{Dtype}
use Rattle.rma_types.specs.declared.dtypes.Dtype.TheVariants.{Int8, Int16, Int32, Uint8, Uint16, Uint32, Byte}
use Rattle.rma_types.specs.declared.ops.Op.{Op}
use Rattle.rma_types.specs.declared.ops.Op.TheVariants.{Replace, NoOp, Max, Min, Sum, Prod, Land, Band, Lor, Bor, Lxor}
use Rattle.rma_types.specs.declared.ops.Op.TheVariants.{Bxor}
use Rattle.rma_types.specs.Datatypes.{size_of}
use Rattle.call_rules.specs.declared.elements.Change.{Change}
use Rattle.call_rules.specs.declared.elements.Piece.{Piece}
use Rattle.rma_types.specs.declared.actions.Transfer.{Transfer}
use Rattle.rma_types.specs.Actions.{transfer_of}
use Rattle.call_rules.specs.Pieces.{piece_at, numbers_from}
use Rattle.call_rules.specs.Ranks.{natural}
use Rattle.call_rules.specs.Transfers.{bytes_of, change_of, is_no_op}

-- the bytes of each element that a call moves
abbrev pub element_size : Call → ℕ
element_size call = option_map_or (λ (t : Transfer). size_of t.dtype) (transfer_of call) 1

-- how many elements a call moves
abbrev pub element_count : Call → ℕ
element_count call = option_map_or (λ (t : Transfer). natural t.count) (transfer_of call) 0

-- the call changes the elements that it reaches
abbrev pub is_update : Call → Bool
is_update call = option_map_or (λ (t : Transfer). not (is_no_op t.op)) (transfer_of call) false

-- the change that a call makes to one of its elements, at a first byte of the cell; none where it reads
abbrev pub change_by : Call → ℕ → ℕ → Option Change
change_by call element first_byte = option_and_then (λ (t : Transfer). change_of t element first_byte)
    (transfer_of call)

-- where an element of an access lies
abbrev pub piece_of : Layout → Access → Call → ℕ → Piece
piece_of layout access call element = piece_at layout access.target (access.lo + element * element_size call)

-- a touch that an access asks for
pub record PlannedTouch : Type 0 where
  pub element : ℕ
  pub cell : ℕ
  pub change : Option Change

abbrev pub touch_at : Call → ℕ → Piece → PlannedTouch
touch_at call element piece = record {
  element = element;
  cell = piece.cell;
  change = change_by call element
      piece.first_byte;
}

-- the touch of an element
abbrev pub planned_touch : Layout → Access → Call → ℕ → PlannedTouch
planned_touch layout access call element = touch_at call element (piece_of layout access call element)

-- the touches of so many elements, from one on
abbrev pub planned_touches : Layout → Access → Call → ℕ → ℕ → List PlannedTouch
planned_touches layout access call first count = map (planned_touch layout access call) (numbers_from first count)

abbrev pub is_sum : Op → Bool
is_sum Replace = false
is_sum NoOp = false
is_sum Max = false
is_sum Min = false
is_sum Sum = true
is_sum Prod = false
is_sum Land = false
is_sum Band = false
is_sum Lor = false
is_sum Bor = false
is_sum Lxor = false
is_sum Bxor = false

-- elements of the datatype are whole cells
abbrev pub is_whole_cell : Dtype → Bool
is_whole_cell Int8 = false
is_whole_cell Int16 = false
is_whole_cell Int32 = true
is_whole_cell Uint8 = false
is_whole_cell Uint16 = false
is_whole_cell Uint32 = true
is_whole_cell Byte = false

-- the change is the sum of a whole cell, with which nothing is compared: one add, which can't come too late
abbrev pub is_add : Change → Bool
is_add change = is_whole_cell change.dtype && is_sum change.op && not (is_some change.compare)

-- the touch is by an attempt, which can come too late: it is an update, and no add
abbrev pub IsTried : PlannedTouch → Type 0
IsTried touch = IsSomeAnd touch.change (λ change. is_add change ≡ false)

-- the access is the one that the call makes: its kind, its bytes, and an address that is a multiple of the element's
-- size
abbrev pub IsAccessOf : Call → Access → Type 0
IsAccessOf call access = IsSomeAnd (transfer_of call)
    (λ t. (access.kind ≡ t.kind) × (access.len ≡ bytes_of t) × (access.lo % size_of t.dtype ≡ 0))

-- each element lies in one of so many cells, and the number of its cell is a u32
abbrev pub LiesWithin : Layout → Access → Call → ℕ → Type 0
LiesWithin layout access call cells = (element : ℕ) → element < element_count call →
    ((piece_of layout access call element).cell < cells) × ((piece_of layout access call element).cell < 2 ^ 32)
