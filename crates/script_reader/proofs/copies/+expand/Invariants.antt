use Rattle.std.proofs.Common.{length}
use Rattle.script_reader.proofs.copies.+expand.Given as goal

abbrev pub decreases-expand : goal.decreases-expand
decreases-expand l = length l.block.now
