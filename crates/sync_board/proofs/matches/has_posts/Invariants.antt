use Rattle.std.proofs.Common.{◌≡◌, ℕ, ◌<◌, get_or, true, false}
use Rattle.sync_board.specs.Tables.{KeepsSides}
use Rattle.sync_board.specs.Sides.{Done, has_post_of}
use Rattle.sync_board.proofs.matches.has_posts.Given as goal

abbrev pub invariant-loop-member : goal.invariant-loop-member
invariant-loop-member l = (done_of : ℕ → Done) (k : ℕ) → KeepsSides done_of l.table.sides.items → k < l.member →
    get_or l.group k false ≡ true → has_post_of done_of l.rank k ≡ true
