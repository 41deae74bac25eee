use Rattle.std.proofs.Common.{◌≡◌, ◌++◌}
use Rattle.script_language.specs.Drafts.{repeat_calls}
use Rattle.script_reader.proofs.copies.push_times.Given as goal

abbrev pub invariant-loop : goal.invariant-loop
invariant-loop l = l.list ≡ l.initial.list ++ repeat_calls l.counter l.calls
