-- What a transfer does to an element, and which transfers keep an order: MPI 3.1, sections 11.3 and 11.7.
use Rattle.std.specs.Prelude.{ℕ, Bool, true, false, ◌*◌, Option, Some, None, if◌then◌else◌, slice_index}
use Rattle.rma_types.specs.declared.accesses.Kind.{Kind}
use Rattle.rma_types.specs.declared.accesses.Kind.TheVariants.{Get, Put, Acc, Cas, Load, Store}
use Rattle.rma_types.specs.declared.ops.Op.{Op}
use Rattle.rma_types.specs.declared.ops.Op.TheVariants.{Replace, NoOp, Max, Min, Sum, Prod, Land, Band, Lor, Bor, Lxor}
use Rattle.rma_types.specs.declared.ops.Op.TheVariants.{Bxor}
use Rattle.rma_types.specs.Datatypes.{size_of}
use Rattle.call_rules.specs.declared.elements.Change.{Change}
use Rattle.rma_types.specs.declared.actions.Target.{Target}
use Rattle.rma_types.specs.declared.actions.Transfer.{Transfer}
use Rattle.rma_types.specs.declared.actions.Target.TheVariants.{Own, Null, Named}
use Rattle.call_rules.specs.Ranks.{natural}

abbrev pub is_no_op : Op → Bool
is_no_op Replace = false
is_no_op NoOp = true
is_no_op Max = false
is_no_op Min = false
is_no_op Sum = false
is_no_op Prod = false
is_no_op Land = false
is_no_op Band = false
is_no_op Lor = false
is_no_op Bor = false
is_no_op Lxor = false
is_no_op Bxor = false

-- a load or a store
abbrev pub is_own : Target → Bool
is_own Own = true
is_own Null = false
is_own (Named rank) = false

abbrev pub is_null : Target → Bool
is_null Own = false
is_null Null = true
is_null (Named rank) = false

-- the rank whose memory the transfer of a rank reaches
abbrev pub rank_reached : ℕ → Target → ℕ
rank_reached rank Own = rank
rank_reached rank Null = rank
rank_reached rank (Named target) = natural target

-- how many bytes a transfer reaches
abbrev pub bytes_of : Transfer → ℕ
bytes_of t = natural t.count * size_of t.dtype

-- the change that a transfer makes to one of its elements, at a first byte of the cell; none where it reads
abbrev pub change_of : Transfer → ℕ → ℕ → Option Change
change_of t element first_byte = if is_no_op t.op then None else Some (record {
  first_byte = first_byte;
  dtype = t.dtype;
  op = t.op;
  operand = slice_index t.operands element;
  compare = t.compare;
})

-- an accumulate or a cas, whose order on a shared cell is kept (11.7.2)
abbrev pub is_ordered_kind : Kind → Bool
is_ordered_kind Get = false
is_ordered_kind Put = false
is_ordered_kind (Acc op dtype) = true
is_ordered_kind (Cas dtype) = true
is_ordered_kind Load = false
is_ordered_kind Store = false
