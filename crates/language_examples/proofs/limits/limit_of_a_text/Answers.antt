use Rattle.std.proofs.Common.{◌≡◌, length, refl, arith, false, nat_le}
use Rattle.std.proofs.lemmas.Grind.{common_steps}
use Rattle.script_language.specs.Reading.{read}
use Rattle.language_examples.proofs.limits.limit_of_a_text.Goals as goal

pub returns : goal.returns
unfolding read
returns c text long = let past : nat_le (length text) 1048576 ≡ false = grind (arith, common_steps) in rw past refl
