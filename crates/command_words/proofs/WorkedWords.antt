-- Worked lists of words, computed.
use Rattle.std.proofs.Common.{refl}
use Rattle.clap.proofs.OnLiterals.{clap_on_literals}
use Rattle.command_words.specs.WorkedWords.{AreAccepted, AreRefused}

pub accepted : AreAccepted
unfolding clap_on_literals
accepted = record { none = refl; seed = refl; greedy = refl; end = refl; ended = refl }

pub refused : AreRefused
unfolding clap_on_literals
refused = record {
  extra = refl;
  empty = refl;
  help = refl;
  alone = refl;
  twice = refl;
  walk = refl;
  nothing = refl;
  zero = refl;
  many = refl;
  large = refl;
  long = refl;
  minus = refl;
}
