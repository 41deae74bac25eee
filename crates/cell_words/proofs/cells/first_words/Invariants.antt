use Rattle.std.proofs.Common.{◌≡◌, take}
use Rattle.cell_words.specs.Words.{words_of}
use Rattle.cell_words.proofs.cells.first_words.Given as goal

abbrev pub invariant-loop-bits : goal.invariant-loop-bits
invariant-loop-bits l = l.words.items ≡ words_of (take l.bits-index l.init)
