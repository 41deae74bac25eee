use Rattle.std.proofs.Common.{◌<◌, arith}
use Rattle.std.proofs.lemmas.Result.{IfOk-weaker}
use Rattle.board_rules.specs.Entries.{acts}
use Rattle.sync_board.specs.Boards.{rows_on}
use Rattle.sync_board.specs.Named.{KeepsName}
use Rattle.sync_board.specs.declared.named.NameRecord.{NameRecord}
use Rattle.sync_board.proofs.GrownSteps.{at_item, at_none}
use Rattle.sync_board.proofs.named.Windows.shape.Goals as goal

pub returns-then-at-len : goal.returns-then-at-len
returns-then-at-len c = IfOk-weaker c.shape.result _ _
    (λ shape more board row creation ranks flavor layout at kept.
    more board row creation c.args.name ranks flavor layout at
    (rw c.index-one.ensures (at_item c.args.self.now.names.items c.args.name _ _
    (λ (one : NameRecord). c.args.name < 32 → KeepsName board.layout board.ranks c.args.name
    (acts (rows_on board)) one.rounds.items) (omega arith) (kept c.args.name) c.requires)))
    c.shape.ensures

pub returns-else-at-len : goal.returns-else-at-len
returns-else-at-len c = IfOk-weaker c.shape-else-at-len.result _ _
    (λ shape more board row creation ranks flavor layout at kept.
    more board row creation c.args.name ranks flavor layout at
    (c.idle-idle.ensures board.layout board.ranks c.args.name (acts (rows_on board))
    (at_none c.args.self.now.names.items c.args.name _ (λ (one : NameRecord). c.args.name < 32 →
    KeepsName board.layout board.ranks c.args.name (acts (rows_on board)) one.rounds.items) (omega arith)
    (kept c.args.name) c.requires)))
    c.shape-else-at-len.ensures
