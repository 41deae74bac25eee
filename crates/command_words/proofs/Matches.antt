-- What the matches of a command say, by their rows.
use Rattle.std.proofs.Common.{rules, ◌≡◌, refl, true, false, [], ◌∷◌}
use Rattle.clap.specs.Matches.{first_value}
use Rattle.clap.specs.Walk.{Text, first_of, rows_of, is_empty}
use Rattle.clap.specs.Simple.{is_simple}
use Rattle.clap.specs.Faults.{is_simple_and_free}
use Rattle.clap.specs.Kinds.{Kinds, IsAmong}
use Rattle.clap.specs.declared.error.kind.ErrorKind.{ErrorKind}
use Rattle.clap.specs.declared.parser.matches.Found.{Found}
use Rattle.clap.proofs.WalkLemmas.{first_value-rows}
use Rattle.clap.proofs.OnLiterals.{clap_on_literals}
use Rattle.command_words.specs.Words.{command}

-- the text that is read is the first of the rows
pub text_in_rows : (f : Found) (id : Text) → first_value f id ≡ first_of id (rows_of f)
text_in_rows f id = first_value-rows f id

-- the command is one of which clap says everything
pub command_is_free : is_simple_and_free command ≡ true
unfolding clap_on_literals
command_is_free = refl

pub command_is_simple : is_simple command ≡ true
unfolding clap_on_literals
command_is_simple = refl

-- where a kind is among some, there are some
pub some_kind : (kind : ErrorKind) (kinds : Kinds) → IsAmong kind kinds → is_empty kinds ≡ false
some_kind kind [] among = absurd among
some_kind kind (x ∷ xs) among = search rules
