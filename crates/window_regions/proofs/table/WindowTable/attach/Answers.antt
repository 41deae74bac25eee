-- An accepted range lies in the space.
use Rattle.std.proofs.Common.{◌≡◌, ◌+◌, ◌≤◌, ◌<◌, ap, arith}
use Rattle.rank_rules.specs.Windows.{RankWindows}
use Rattle.window_regions.proofs.Accepted.{ends_in_space}
use Rattle.window_regions.proofs.table.WindowTable.attach.Goals as goal

pub attach-requires-clause-end : goal.attach-requires-clause-end
attach-requires-clause-end c =
    let inside : c.args.base + c.args.bytes ≤ c.args.self.now.space =
    ends_in_space c.args.self.now c.args.win c.args.base c.args.bytes c.requires in
    let same : c.self.inside.space ≡ c.args.self.now.space = ap (λ (known : RankWindows). known.space) c.self.view_is in
    let low : c.self.inside.space < 4294967296 = c.self.invariant.0 in
    omega arith
