-- Each text is computed.
use Rattle.std.proofs.Common.{refl}
use Rattle.std.specs.Fmt.{digits}
use Rattle.script_language.specs.Reading.{read}
use Rattle.script_language.specs.Canon.{canon}
use Rattle.language_examples.proofs.faults.first_of_several_faults.Goals as goal

pub returns : goal.returns
unfolding read canon digits
returns c = refl
