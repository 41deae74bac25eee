use Rattle.std.proofs.Common.{◌≡◌, replicate, None}
use Rattle.script_reader.proofs.readers.no_spaces.Given as goal

abbrev pub invariant-loop : goal.invariant-loop
invariant-loop l = l.spaces ≡ replicate l.counter None
