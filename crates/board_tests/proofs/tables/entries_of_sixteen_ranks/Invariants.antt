use Rattle.std.proofs.Common.{◌≡◌, []}
use Rattle.board_tests.proofs.tables.entries_of_sixteen_ranks.Given as goal

abbrev pub invariant-loop-rank : goal.invariant-loop-rank
invariant-loop-rank g l = record {
  can : (goal.iterator-loop-rank g).can_next l.rank-iterator;
  finite : (goal.iterator-loop-rank g).is_finite l.rank-iterator;
  ranks : l.board.ranks ≡ 16;
  name : l.board.name ≡ [];
}
