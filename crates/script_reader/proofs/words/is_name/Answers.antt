-- The decimal text of a number below 100.
use Rattle.std.proofs.Common.{◌/◌, arith}
use Rattle.std.proofs.lemmas.Fmt.{decimal_digit, decimal_step}
use Rattle.script_reader.proofs.words.is_name.Goals as goal

pub returns-then-number-lt10 : goal.returns-then-number-lt10
returns-then-number-lt10 c = rw (decimal_digit c.args.number (omega arith)) c.is_token.ensures

pub returns-else-number-lt10 : goal.returns-else-number-lt10
returns-else-number-lt10 c =
    rw (decimal_step c.args.number (omega arith) (omega arith), decimal_digit (c.args.number / 10) (omega arith))
    c.is_token-else-number-lt10.ensures
