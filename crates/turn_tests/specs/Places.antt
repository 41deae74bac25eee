-- From where marks are.
use Rattle.std.specs.Prelude.{ℕ}
use Rattle.turn_tests.specs.declared.marks.Marks.{Marks}

abbrev pub place_of : Marks → ℕ
place_of marks = marks.place
