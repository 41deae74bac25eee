use Rattle.std.proofs.Common.{◌≡◌, []}
use Rattle.board_tests.proofs.tables.meet.Given as goal

abbrev pub invariant-loop-at : goal.invariant-loop-at
invariant-loop-at g l = record { ranks : l.board.ranks ≡ 16; name : l.board.name ≡ [] }
