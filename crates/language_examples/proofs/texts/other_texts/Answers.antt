-- Each text is computed.
use Rattle.std.proofs.Common.{refl}
use Rattle.std.specs.Fmt.{digits}
use Rattle.script_language.specs.Reading.{read}
use Rattle.script_language.specs.Canon.{canon}
use Rattle.language_examples.proofs.texts.other_texts.Goals as goal

pub returns-clause-blanks : goal.returns-clause-blanks
unfolding read canon digits
returns-clause-blanks c = (refl, refl)

pub returns-clause-numbers : goal.returns-clause-numbers
unfolding read canon digits
returns-clause-numbers c = refl

pub returns-clause-blocks : goal.returns-clause-blocks
unfolding read canon digits
returns-clause-blocks c = refl

pub returns-clause-assertions : goal.returns-clause-assertions
unfolding read canon digits
returns-clause-assertions c = refl
