use Rattle.std.proofs.Common.{◌≡◌, [], replicate}
use Rattle.board_tests.proofs.WholeParts.{whole_part}
use Rattle.board_tests.proofs.layouts.whole_layout.Given as goal

abbrev pub invariant-loop : goal.invariant-loop
invariant-loop l = record {
  parts : l.parts ≡ replicate l.counter whole_part;
  bases : l.bases ≡ replicate l.counter [];
}
