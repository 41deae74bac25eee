-- The end of an input: whether it was told, and how many reads came after that.
use Rattle.std.specs.Prelude.{◌≡◌, ℕ, Bool, false, ◌||◌, ◌&&◌, ◌==◌, nat_lt, Result, Ok, Err, if◌then◌else◌}
use Rattle.rma_streams.specs.Faults.{counted}

-- whether the end was told, and how many reads came after that
pub record End : Type 0 where
  pub told : Bool
  pub late : ℕ

-- the end of an input that was not read yet
abbrev pub unread : End
unread = record { told = false; late = 0 }

-- an answer tells the end where there was room and no byte came
abbrev pub tells_end : {E : Type 0} → ℕ → Result ℕ E → Bool
tells_end room (Ok count) = nat_lt 0 room && (count == 0)
tells_end room (Err error) = false

-- after one more read, into this much room and with this answer
abbrev pub after_read : {E : Type 0} → End → ℕ → Result ℕ E → End
after_read before room answer = record {
  told = before.told || tells_end room answer;
  late = (if before.told then counted before.late else before.late);
}

-- no read came after the end was told, unless it was told before
abbrev pub NoLateRead : End → End → Type 0
NoLateRead old new = old.told ≡ false → new.late ≡ old.late
