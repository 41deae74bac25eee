-- Each text is computed.
use Rattle.std.proofs.Common.{refl}
use Rattle.std.specs.Fmt.{digits}
use Rattle.script_language.specs.Reading.{read}
use Rattle.script_language.specs.Canon.{canon}
use Rattle.language_examples.proofs.faults.each_kind_of_fault.Goals as goal

pub returns-clause-words : goal.returns-clause-words
unfolding read canon digits
returns-clause-words c = refl

pub returns-clause-numbers : goal.returns-clause-numbers
unfolding read canon digits
returns-clause-numbers c = refl

pub returns-clause-names : goal.returns-clause-names
unfolding read canon digits
returns-clause-names c = refl

pub returns-clause-shapes : goal.returns-clause-shapes
unfolding read canon digits
returns-clause-shapes c = refl

pub returns-clause-ends : goal.returns-clause-ends
unfolding read canon digits
returns-clause-ends c = (refl, refl, refl, refl)
