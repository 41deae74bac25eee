-- The clause is a theorem.
use Rattle.text_laws.proofs.Blocks.{read_again}
use Rattle.text_laws.proofs.canonical_texts_are_read_again.Goals as goal

pub returns : goal.returns
returns c script formed few = read_again script formed few
