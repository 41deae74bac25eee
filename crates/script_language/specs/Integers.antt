-- The numbers of a text, and their ranges.
use Rattle.std.specs.Prelude.{ℕ, Bool, ◌&&◌, ◌==◌, nat_le, if◌then◌else◌, ℤ, pos, negsuc, neg_ℤ, int_le, List, [], ◌∷◌}
use Rattle.std.specs.Prelude.{length, Result, Ok, Err}
use Rattle.std.specs.Char.{is_ascii_digit}
use Rattle.std.specs.List.{list_all}
use Rattle.std.specs.Str.Parse.{digits_value}
use Rattle.rma_types.specs.declared.dtypes.Dtype.{Dtype}
use Rattle.rma_types.specs.declared.dtypes.Dtype.TheVariants.{Int8, Int16, Int32, Uint8, Uint16, Uint32, Byte}
use Rattle.script_language.specs.declared.faults.FaultKind.{FaultKind}
use Rattle.script_language.specs.declared.faults.FaultKind.TheVariants.{Number, Limit}
use Rattle.script_language.specs.Answers.{◌>>=◌}

-- 1 to 20 decimal digits
abbrev pub is_digits : List ℕ → Bool
is_digits digits = nat_le 1 (length digits) && nat_le (length digits) 20 && list_all is_ascii_digit digits

-- the number that decimal digits write
abbrev pub natural_of : List ℕ → Result ℕ FaultKind
natural_of digits = if is_digits digits then Ok (digits_value 10 digits) else Err Number

-- an integer: decimal digits, and a minus sign may stand before them
abbrev pub integer_of : List ℕ → Result ℤ FaultKind
integer_of [] = Err Number
integer_of (byte ∷ bytes) =
    if byte == 45
    then (natural_of bytes >>= λ n. Ok (neg_ℤ (pos n)))
    else (natural_of (byte ∷ bytes) >>= λ n. Ok (pos n))

-- an integer from the lowest to the highest
abbrev pub integer_within : ℤ → ℤ → List ℕ → Result ℤ FaultKind
integer_within low high token =
    integer_of token >>= λ z. if int_le low z && int_le z high then Ok z else Err Limit

-- -2^31
abbrev pub lowest : ℤ
lowest = negsuc 2147483647

-- an integer from -2^31 to the highest
abbrev pub integer_up_to : ℕ → List ℕ → Result ℤ FaultKind
integer_up_to high token = integer_within lowest (pos high) token

-- an integer from -2^31 to 2^31 - 1
abbrev pub plain_integer : List ℕ → Result ℤ FaultKind
plain_integer token = integer_up_to 2147483647 token

-- the least number of a datatype
abbrev pub least_of : Dtype → ℤ
least_of Int8 = negsuc 127
least_of Int16 = negsuc 32767
least_of Int32 = negsuc 2147483647
least_of Uint8 = pos 0
least_of Uint16 = pos 0
least_of Uint32 = pos 0
least_of Byte = pos 0

-- the greatest number of a datatype
abbrev pub greatest_of : Dtype → ℤ
greatest_of Int8 = pos 127
greatest_of Int16 = pos 32767
greatest_of Int32 = pos 2147483647
greatest_of Uint8 = pos 255
greatest_of Uint16 = pos 65535
greatest_of Uint32 = pos 4294967295
greatest_of Byte = pos 255
