use Rattle.std.proofs.Common.{length}
use Rattle.script_reader.proofs.copies.+append.Given as goal

abbrev pub decreases-append : goal.decreases-append
decreases-append l = length l.block.now
