-- Each text is computed.
use Rattle.std.proofs.Common.{refl}
use Rattle.std.specs.Fmt.{digits}
use Rattle.script_language.specs.Reading.{read}
use Rattle.script_language.specs.Canon.{canon}
use Rattle.language_examples.proofs.texts.canonical_texts.Goals as goal

pub returns-clause-no_calls : goal.returns-clause-no_calls
unfolding read canon digits
returns-clause-no_calls c = ((refl, refl), refl)

pub returns-clause-one_put : goal.returns-clause-one_put
unfolding read canon digits
returns-clause-one_put c = (refl, refl)

pub returns-clause-each_call : goal.returns-clause-each_call
unfolding read canon digits
returns-clause-each_call c = (refl, refl)

pub returns-clause-spaces : goal.returns-clause-spaces
unfolding read canon digits
returns-clause-spaces c = (refl, (refl, refl))
