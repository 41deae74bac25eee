-- The values of the options: this project's command line.
use Rattle.std.specs.Prelude.{ℕ, Bool, ◌&&◌, ◌==◌, nat_le, if◌then◌else◌, List, length, Option, Some, None, codes}
use Rattle.std.specs.Char.{is_ascii_digit}
use Rattle.std.specs.List.{list_all}
use Rattle.std.specs.Str.{bytes_eq}
use Rattle.std.specs.Str.Parse.{digits_value}
use Rattle.rma_types.specs.declared.schedules.Delay.{Delay}
use Rattle.rma_types.specs.declared.schedules.Delay.TheVariants.{None as NoDelay, End, Seeded as SeededDelay}
use Rattle.rma_types.specs.declared.schedules.Order.{Order}
use Rattle.rma_types.specs.declared.schedules.Order.TheVariants.{Robin, Reverse, Greedy, Seeded}
use Rattle.run_texts.specs.declared.modes.Mode.{Mode}
use Rattle.run_texts.specs.declared.modes.Mode.TheVariants.{Step}

-- the modes that are there
abbrev pub mode_of : List ℕ → Option Mode
mode_of text = if bytes_eq text (codes "step") then Some Step else None

abbrev pub order_of : List ℕ → Option Order
order_of text =
    if bytes_eq text (codes "robin") then Some Robin
    else (if bytes_eq text (codes "reverse") then Some Reverse
    else (if bytes_eq text (codes "greedy") then Some Greedy
    else (if bytes_eq text (codes "seeded") then Some Seeded else None)))

abbrev pub delay_of : List ℕ → Option Delay
delay_of text =
    if bytes_eq text (codes "none") then Some NoDelay
    else (if bytes_eq text (codes "end") then Some End
    else (if bytes_eq text (codes "seeded") then Some SeededDelay else None))

-- 1 to 10 decimal digits
abbrev pub is_number : List ℕ → Bool
is_number text = nat_le 1 (length text) && nat_le (length text) 10 && list_all is_ascii_digit text

-- the number that a text writes, where it is at most the first
abbrev pub number_up_to : ℕ → List ℕ → Option ℕ
number_up_to most text =
    if is_number text && nat_le (digits_value 10 text) most then Some (digits_value 10 text) else None

-- 1 to 16 workers
abbrev pub some_workers : Option ℕ → Option ℕ
some_workers None = None
some_workers (Some number) = if number == 0 then None else Some number

abbrev pub workers_of : List ℕ → Option ℕ
workers_of text = some_workers (number_up_to 16 text)

abbrev pub seed_of : List ℕ → Option ℕ
seed_of text = number_up_to 4294967295 text
