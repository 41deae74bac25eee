-- Each text is computed.
use Rattle.std.proofs.Common.{refl}
use Rattle.std.specs.Fmt.{digits}
use Rattle.script_language.specs.Reading.{read}
use Rattle.script_language.specs.Canon.{canon}
use Rattle.language_examples.proofs.limits.limits_of_a_line.Goals as goal

pub returns-clause-ranks : goal.returns-clause-ranks
unfolding read canon digits
returns-clause-ranks c = refl

pub returns-clause-numbers : goal.returns-clause-numbers
unfolding read canon digits
returns-clause-numbers c = refl

pub returns-clause-groups : goal.returns-clause-groups
unfolding read canon digits
returns-clause-groups c = (refl, refl)

pub returns-clause-values : goal.returns-clause-values
unfolding read canon digits
returns-clause-values c = (refl, refl)
