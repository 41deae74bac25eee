-- The totals of the lines so far: their calls and their bytes of memory.
use Rattle.std.specs.Prelude.{ℕ, ◌+◌, ◌*◌, ◌&&◌, nat_le, if◌then◌else◌, List, length, sum_by, Result, Ok, Err}
use Rattle.rma_types.specs.declared.calls.Call.{Call}
use Rattle.call_rules.specs.Layout.{call_count, memory_of, call_bytes}
use Rattle.script_language.specs.declared.drafts.Draft.{Draft}
use Rattle.script_language.specs.declared.faults.FaultKind.{FaultKind}
use Rattle.script_language.specs.declared.faults.FaultKind.TheVariants.{Limit}
use Rattle.script_language.specs.Drafts.{script_of}
use Rattle.script_reader.specs.declared.totals.Totals.{Totals}

abbrev pub totals_of : Draft → Totals
totals_of draft = record { calls = call_count (script_of draft); bytes = memory_of (script_of draft) }

-- the totals are within their limits
abbrev pub within_limits : Totals → Result Totals FaultKind
within_limits totals = if nat_le totals.calls 65536 && nat_le totals.bytes 65536 then Ok totals else Err Limit

-- the totals with so many calls and bytes more at each of some ranks
abbrev pub totals_with : Totals → ℕ → ℕ → ℕ → Totals
totals_with totals ranks calls bytes =
    record { calls = totals.calls + ranks * calls; bytes = totals.bytes + ranks * bytes }

-- the totals once each of some ranks has the calls so often
abbrev pub totals_behind : Totals → ℕ → ℕ → List Call → Totals
totals_behind totals ranks times calls =
    totals_with totals ranks (times * length calls) (times * sum_by call_bytes calls)
