-- Where the bytes of a transfer lie, or the class that its place is given: MPI 3.1, sections 11.2 and 11.3.
use Rattle.std.specs.Prelude.{ℕ, ◌*◌, ◌<◌, ◌^◌, Bool, if◌then◌else◌, [], ◌∷◌, Option, Some, None, Result, Ok, Err}
use Rattle.std.specs.Prelude.{IfSome, ℤ}
use Rattle.std.specs.Option.{option_map_or}
use Rattle.rma_types.specs.declared.classes.Class.{Class}
use Rattle.rma_types.specs.declared.classes.Class.TheVariants.{Disp, Range as RangeClass}
use Rattle.rma_types.specs.declared.dtypes.Dtype.{Dtype}
use Rattle.rma_types.specs.declared.scripts.Part.{Part}
use Rattle.rma_types.specs.Datatypes.{size_of}
use Rattle.rank_rules.specs.Classes.{first_class}
use Rattle.rma_types.specs.declared.actions.Transfer.{Transfer}
use Rattle.call_rules.specs.Transfers.{rank_reached}
use Rattle.rank_rules.specs.Windows.{RankWindows, window_of_name, no_part}
use Rattle.rank_rules.specs.WindowTests.{address_in, address_of, is_misplaced, passes_end}
use Rattle.window_regions.specs.declared.places.Range.{Range}

-- so many elements, from a displacement in a part on
abbrev pub elements_in : Part → ℤ → Dtype → ℕ → Range
elements_in part disp dtype count = record { lo = address_in part disp; len = count * size_of dtype }

-- the range of the elements where the tests of place give none, else the class of the first that applies
abbrev pub place_in : Part → ℤ → Dtype → ℕ → Result Range Class
place_in part disp dtype count =
    option_map_or (λ class. Err class) (first_class (
    (is_misplaced part disp dtype, Disp) ∷ (passes_end part disp (count * size_of dtype), RangeClass) ∷ []))
    (Ok (elements_in part disp dtype count))

-- the same in a dynamic window, where the rank knows no end
abbrev pub address_on : ℤ → Dtype → ℕ → Result Range Class
address_on disp dtype count =
    option_map_or (λ class. Err class) (first_class ((is_misplaced no_part disp dtype, Disp) ∷ []))
    (Ok (elements_in no_part disp dtype count))

-- the class of a place in the rank's own part of a dynamic window, by which of its bytes are attached
abbrev pub class_attached : (ℕ → ℕ → Bool) → Result Range Class → Option Class
class_attached is_attached (Err class) = Some class
class_attached is_attached (Ok range) = if is_attached range.lo range.len then None else Some RangeClass

-- the transfer's address on its live window is below 2 to 32, and the rank that it reaches below 256
abbrev pub HasSmallPlace : RankWindows → Transfer → Type 0
HasSmallPlace known t = (rank_reached known.rank t.target < 256)
    × IfSome (window_of_name known t.win) (λ window. address_of known window t < 2 ^ 32)
