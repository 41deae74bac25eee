-- What the streams over the system hold, and what the system says to calls.
use Rattle.std.specs.Prelude.{ℕ, ◌≡◌, ◌⊎◌, Bool, true, Result, Ok, Err}
use Rattle.std.specs.IoError.{error_kind}
use Rattle.std.specs.declared.io.Error.{Error}
use Rattle.std.specs.declared.io.ErrorKind.{ErrorKind}
use Rattle.std.specs.declared.io.ErrorKind.TheVariants.{Interrupted}
use Rattle.rma_streams.specs.Ends.{End}
use Rattle.rma_streams.specs.Faults.{counted}
use Rattle.rma_streams.specs.declared.system_calls.Tried.{Tried}

-- the system's own input, how often it failed, its end as it was told, and the calls for the last read
pub record SystemInput (X : Type 0) : Type 0 where
  pub stream : X
  pub faults : ℕ
  pub end : End
  pub tried : Tried

-- the system's own output, how often it failed, and the calls for the last write
pub record SystemOutput (X : Type 0) : Type 0 where
  pub stream : X
  pub faults : ℕ
  pub tried : Tried

-- after one call more, which this kind of error ended
abbrev pub after_error : Tried → ErrorKind → Tried
after_error tried Interrupted = record { interrupted = counted tried.interrupted; failed = tried.failed }
after_error tried _ = record { interrupted = tried.interrupted; failed = true }

-- after one call more
abbrev pub after_call : Tried → Result ℕ Error → Tried
after_call tried (Ok count) = tried
after_call tried (Err error) = after_error tried (error_kind error)

-- one call failed, or 65 were interrupted
abbrev pub HasGivenUp : Tried → Type 0
HasGivenUp tried = (tried.failed ≡ true) ⊎ (tried.interrupted ≡ 65)
