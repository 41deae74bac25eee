-- How a rank stands after a step, and after it learnt more entries.
use Rattle.std.specs.Prelude.{ℕ, Bool, true, false, nat_lt, if◌then◌else◌, Result, Ok, Err}
use Rattle.rank_engine.specs.declared.answers.Turned.{Turned}
use Rattle.rank_engine.specs.declared.answers.Turned.TheVariants.{Did, NotYet, Again, Full, Ended as HasEnded}
use Rattle.shared_ranks.specs.declared.standings.Standing.{Standing}
use Rattle.shared_ranks.specs.declared.standings.Standing.TheVariants.{Going, Waits, Ended, OutOfMemory}

abbrev pub standing_by : Turned → Standing
standing_by Did = Going
standing_by NotYet = Waits
standing_by Again = Going
standing_by Full = Going
standing_by HasEnded = Ended

-- how a rank stands after a step with this answer
abbrev pub standing_after : {E : Type 0} → Result Turned E → Standing
standing_after (Ok turned) = standing_by turned
standing_after (Err error) = OutOfMemory

-- a rank that waits tries again
abbrev pub tried_again : Standing → Standing
tried_again Going = Going
tried_again Waits = Going
tried_again Ended = Ended
tried_again OutOfMemory = OutOfMemory

-- how a rank stands once it knows so many entries, where it knew this many
abbrev pub standing_with : (knew knows : ℕ) → Standing → Standing
standing_with knew knows standing = if nat_lt knew knows then tried_again standing else standing

abbrev pub is_going : Standing → Bool
is_going Going = true
is_going Waits = false
is_going Ended = false
is_going OutOfMemory = false

-- it stops after the entries that it knows
abbrev pub has_stopped : Standing → Bool
has_stopped Going = false
has_stopped Waits = true
has_stopped Ended = true
has_stopped OutOfMemory = false
