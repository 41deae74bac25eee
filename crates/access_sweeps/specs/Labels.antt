-- Accumulates that may overlap, by what they have in common: after MPI 3.1, section 11.7, in this project's profile.
use Rattle.std.specs.Prelude.{Bool, true, false, ◌&&◌, ◌==◌, if◌then◌else◌, Option, Some, None}
use Rattle.rma_types.specs.declared.accesses.Access.{Access}
use Rattle.rma_types.specs.declared.accesses.Kind.{Kind}
use Rattle.rma_types.specs.declared.accesses.Kind.TheVariants.{Get, Put, Acc, Cas, Load, Store}
use Rattle.rma_types.specs.declared.ops.Op.{Op}
use Rattle.call_rules.specs.Sameness.{is_same_dtype, is_same_op}
use Rattle.access_sweeps.specs.declared.kinds.Label.{Label}

abbrev pub label_of_kind : Bool → Access → Kind → Option Label
label_of_kind by_operation a Get = None
label_of_kind by_operation a Put = None
label_of_kind by_operation a (Acc op dtype) =
    Some (record { window = a.window; dtype = dtype; op = if by_operation then Some op else None })
label_of_kind by_operation a (Cas dtype) = Some (record { window = a.window; dtype = dtype; op = None })
label_of_kind by_operation a Load = None
label_of_kind by_operation a Store = None

-- the label of an accumulate or a cas, with its operation where that counts
abbrev pub label_of : Bool → Access → Option Label
label_of by_operation a = label_of_kind by_operation a a.kind

abbrev pub is_same_operation : Option Op → Option Op → Bool
is_same_operation None None = true
is_same_operation None (Some b) = false
is_same_operation (Some a) None = false
is_same_operation (Some a) (Some b) = is_same_op a b

abbrev pub is_same_label : Label → Label → Bool
is_same_label a b = a.window == b.window && is_same_dtype a.dtype b.dtype && is_same_operation a.op b.op

-- two accesses of these labels may overlap: both have one, and it is the same
abbrev pub do_stand : Option Label → Option Label → Bool
do_stand None b = false
do_stand (Some a) None = false
do_stand (Some a) (Some b) = is_same_label a b
