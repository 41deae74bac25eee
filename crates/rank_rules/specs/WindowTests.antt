-- The class that a rank gives a call by its windows and ranges: MPI 3.1, sections 11.2, 11.3 and 11.6, in this
-- project's order.
use Rattle.std.specs.Prelude.{ℕ, ◌+◌, ◌*◌, ◌%◌, Bool, false, true, not, ◌&&◌, ◌||◌, ◌==◌, nat_lt, List, [], ◌∷◌, Option}
use Rattle.std.specs.Prelude.{if◌then◌else◌, ℤ, pos, int_lt, ◌+ℤ◌}
use Rattle.std.specs.List.{list_any}
use Rattle.std.specs.Option.{option_map_or}
use Rattle.rma_types.specs.declared.calls.Flavor.{Flavor}
use Rattle.rma_types.specs.declared.calls.Flavor.TheVariants.{Allocate, Create, Dynamic}
use Rattle.rma_types.specs.declared.classes.Class.{Class}
use Rattle.rma_types.specs.declared.classes.Class.TheVariants.{Win, Flavor as FlavorClass, Size, Base, Disp}
use Rattle.rma_types.specs.declared.classes.Class.TheVariants.{Range as RangeClass, Attach}
use Rattle.rma_types.specs.declared.dtypes.Dtype.{Dtype}
use Rattle.rma_types.specs.declared.scripts.Part.{Part}
use Rattle.rma_types.specs.Datatypes.{size_of}
use Rattle.rma_types.specs.declared.actions.Action.{Action}
use Rattle.rma_types.specs.declared.actions.Action.TheVariants.{Creates, Frees, Attaches, Detaches, Synchronises, Meets}
use Rattle.rma_types.specs.declared.actions.Action.TheVariants.{Moves, EndsRequest}
use Rattle.rma_types.specs.declared.actions.Target.{Target}
use Rattle.rma_types.specs.declared.actions.Transfer.{Transfer}
use Rattle.rma_types.specs.declared.actions.Target.TheVariants.{Own, Null, Named}
use Rattle.call_rules.specs.Ranks.{natural, is_rank}
use Rattle.call_rules.specs.Transfers.{rank_reached, bytes_of}
use Rattle.rank_rules.specs.Classes.{Test, first_class}
use Rattle.rank_rules.specs.Ranges.{is_taken, covers}
use Rattle.rank_rules.specs.Windows.{Window, RankWindows, window_of_name, is_live, is_same_flavor, part_at}
use Rattle.rank_rules.specs.Windows.{is_attached_from, attached_to, ranges_in_use}

-- the range does not lie in the rank's space
abbrev pub is_outside : RankWindows → ℤ → ℤ → Bool
is_outside known base bytes = int_lt base (pos 0) || int_lt (pos known.space) (base +ℤ bytes)

-- a byte of the range belongs to a live window already
abbrev pub is_in_use : RankWindows → ℤ → ℤ → Bool
is_in_use known base bytes = is_taken (ranges_in_use known) (record { base = natural base; bytes = natural bytes })

-- a window is created over a range that is outside the space or in use; one that is allocated or dynamic takes none
abbrev pub has_wrong_base : RankWindows → Flavor → ℤ → ℤ → Bool
has_wrong_base known Allocate base bytes = false
has_wrong_base known Create base bytes = is_outside known base bytes || is_in_use known base bytes
has_wrong_base known Dynamic base bytes = false

-- the live window of this name is not dynamic
abbrev pub is_not_dynamic : RankWindows → ℕ → Bool
is_not_dynamic known win =
    option_map_or (λ (window : Window). not (is_same_flavor window.flavor Dynamic)) (window_of_name known win) false

-- no range that is attached to the window begins at the base
abbrev pub is_no_base : RankWindows → ℕ → ℤ → Bool
is_no_base known win base = int_lt base (pos 0) || not (list_any (is_attached_from win (natural base)) known.ranges)

-- ---- where a transfer's bytes lie

-- The address of a displacement in a part: the part's base, and as many units as the displacement says. In a dynamic
-- window the base is 0 and the unit is 1.
abbrev pub address_in : Part → ℤ → ℕ
address_in part disp = part.base + natural disp * part.unit

-- the displacement is below 0, or its address is not a multiple of the element's size
abbrev pub is_misplaced : Part → ℤ → Dtype → Bool
is_misplaced part disp dtype = int_lt disp (pos 0) || not (address_in part disp % size_of dtype == 0)

-- the range of so many bytes ends past the end of the part
abbrev pub passes_end : Part → ℤ → ℕ → Bool
passes_end part disp bytes = nat_lt (part.base + part.bytes) (address_in part disp + bytes)

-- A byte of a range in a dynamic window is not attached. A rank knows that of its own ranges alone; an RMA call's range
-- is tested at its look-up.
abbrev pub is_unattached : RankWindows → ℕ → Target → ℕ → ℕ → Bool
is_unattached known win Own address bytes = not (covers (attached_to known win) address bytes)
is_unattached known win Null address bytes = false
is_unattached known win (Named rank) address bytes = false

-- the part of the window that a transfer reaches, and the address at which it begins there
abbrev pub part_reached : RankWindows → Window → Transfer → Part
part_reached known window t = part_at window.parts (rank_reached known.rank t.target)

abbrev pub address_of : RankWindows → Window → Transfer → ℕ
address_of known window t = address_in (part_reached known window t) t.disp

abbrev pub is_out_of_range : RankWindows → Window → Transfer → Bool
is_out_of_range known window t =
    if is_same_flavor window.flavor Dynamic
    then is_unattached known window.win t.target (address_of known window t) (bytes_of t)
    else passes_end (part_reached known window t) t.disp (bytes_of t)

-- the rank that the transfer reaches is one, and its count is not below 0
abbrev pub has_rank_and_count : ℕ → Transfer → Bool
has_rank_and_count ranks t = is_target t.target && not (int_lt t.count (pos 0))
  where
    is_target : Target → Bool
    is_target Own = true
    is_target Null = false
    is_target (Named rank) = is_rank ranks rank

-- ---- the tests

-- a transfer on its live window: with a target that is MPI_PROC_NULL, or no rank, or with a count below 0, its place is
-- not tested
abbrev pub place_tests : RankWindows → Window → Transfer → List Test
place_tests known window t = if has_rank_and_count known.ranks t
    then (is_misplaced (part_reached known window t) t.disp t.dtype, Disp)
    ∷ (is_out_of_range known window t, RangeClass)
    ∷ []
    else []

abbrev pub transfer_tests : RankWindows → Transfer → List Test
transfer_tests known t =
    option_map_or (λ (window : Window). place_tests known window t) (window_of_name known t.win) ((true, Win) ∷ [])

-- the tests of a call, each with its class
abbrev pub window_tests : RankWindows → Action → List Test
window_tests known (Creates creation) =
    (is_live known creation.win, Win)
    ∷ (int_lt creation.bytes (pos 0), Size)
    ∷ (has_wrong_base known creation.flavor creation.base creation.bytes, Base)
    ∷ (int_lt creation.unit (pos 1), Disp)
    ∷ []
window_tests known (Frees win) = (not (is_live known win), Win) ∷ []
window_tests known (Attaches win base bytes) =
    (not (is_live known win), Win)
    ∷ (is_not_dynamic known win, FlavorClass)
    ∷ (int_lt bytes (pos 1), Size)
    ∷ (is_outside known base bytes, Base)
    ∷ (is_in_use known base bytes, Attach)
    ∷ []
window_tests known (Detaches win base) =
    (not (is_live known win), Win)
    ∷ (is_not_dynamic known win, FlavorClass)
    ∷ (is_no_base known win base, Base)
    ∷ []
window_tests known (Synchronises win synchronisation) = (not (is_live known win), Win) ∷ []
window_tests known Meets = []
window_tests known (Moves transfer) = transfer_tests known transfer
window_tests known (EndsRequest req) = []

-- the first class by which the rank refuses the call for its windows and ranges, or none
abbrev pub window_class : RankWindows → Action → Option Class
window_class known action = first_class (window_tests known action)
