use Rattle.std.proofs.Common.{◌≡◌, drop}
use Rattle.rank_rules.specs.Classes.{first_class}
use Rattle.rank_rules.proofs.classes.first_class.Given as goal

-- the tests that are left give the class of all
abbrev pub invariant-loop-applies : goal.invariant-loop-applies
invariant-loop-applies l = first_class (drop l.applies-index l.tests) ≡ first_class l.tests
