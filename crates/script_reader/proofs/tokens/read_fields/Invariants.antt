use Rattle.std.proofs.Common.{◌≡◌, length}
use Rattle.script_language.specs.Calls.{no_fields}
use Rattle.script_language.specs.Tokens.{tokens_read}
use Rattle.script_reader.specs.Lexing.{tokens_in}
use Rattle.script_reader.proofs.tokens.read_fields.Given as goal

-- the tokens that are left give what the whole line gives
abbrev pub invariant-loop-token : goal.invariant-loop-token
invariant-loop-token l =
    tokens_read l.draft l.fields l.left (tokens_in l.rest) ≡ tokens_read l.draft no_fields l.places (tokens_in l.line)

abbrev pub decreases-loop-token : goal.decreases-loop-token
decreases-loop-token l = length l.rest
