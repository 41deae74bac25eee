use Rattle.std.proofs.Common.{◌<◌, arith}
use Rattle.sync_board.specs.Named.{KeepsName}
use Rattle.sync_board.specs.declared.named.NameRecord.{NameRecord}
use Rattle.sync_board.proofs.GrownSteps.{at_item, at_none}
use Rattle.sync_board.proofs.named.Windows.judge.Goals as goal

pub returns-then-at-len : goal.returns-then-at-len
returns-then-at-len c = λ layout q is at kept leaves.
    c.judge.ensures layout q c.args.name is at
    (rw c.index-one.ensures (at_item c.args.self.now.names.items c.args.name _ _
    (λ (one : NameRecord). c.args.name < 32 → KeepsName layout q.ranks c.args.name q.entries
    one.rounds.items) (omega arith) (kept c.args.name) c.requires.name)) leaves

pub returns-else-at-len : goal.returns-else-at-len
returns-else-at-len c = λ layout q is at kept leaves.
    c.judge-else-at-len.ensures layout q c.args.name is at (c.idle-idle.ensures layout q.ranks c.args.name q.entries
    (at_none c.args.self.now.names.items c.args.name _ (λ (one : NameRecord). c.args.name < 32 →
    KeepsName layout q.ranks c.args.name q.entries one.rounds.items) (omega arith)
    (kept c.args.name) c.requires.name)) leaves
