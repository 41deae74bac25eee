-- Each text is computed.
use Rattle.std.proofs.Common.{refl}
use Rattle.std.specs.Fmt.{digits}
use Rattle.script_language.specs.Reading.{read}
use Rattle.script_language.specs.Canon.{canon}
use Rattle.language_examples.proofs.limits.limits_of_a_script.Goals as goal

pub returns-clause-memory : goal.returns-clause-memory
unfolding read canon digits
returns-clause-memory c = refl

pub returns-clause-longest : goal.returns-clause-longest
unfolding read canon digits
returns-clause-longest c = refl

pub returns-clause-calls : goal.returns-clause-calls
unfolding read canon digits
returns-clause-calls c = refl
