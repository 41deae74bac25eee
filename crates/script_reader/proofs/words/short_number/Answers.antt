-- A number below 100 has one digit or two.
use Rattle.std.proofs.Common.{arith}
use Rattle.script_reader.proofs.Numbered.{one_digit, two_digits, no_digit, few_digits}
use Rattle.script_reader.proofs.words.short_number.Goals as goal

pub returns-in-len1-clause-number : goal.returns-in-len1-clause-number
returns-in-len1-clause-number c n few e =
    let value = one_digit n c.args.digits.now few e (omega arith) in omega arith

pub returns-in-len2-clause-number : goal.returns-in-len2-clause-number
returns-in-len2-clause-number c n few e =
    let value = two_digits n c.args.digits.now few e (omega arith) in omega arith

pub returns-in_default-clause-number : goal.returns-in_default-clause-number
returns-in_default-clause-number c n few e = let some = no_digit n c.args.digits.now e few in absurd (omega arith)

pub returns-in_default-2-clause-number : goal.returns-in_default-2-clause-number
returns-in_default-2-clause-number c n few e = let most = few_digits n c.args.digits.now e few in absurd (omega arith)
