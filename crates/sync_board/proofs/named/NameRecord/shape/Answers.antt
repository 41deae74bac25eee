use Rattle.std.proofs.Common.{sym, subst, arith}
use Rattle.std.proofs.lemmas.Result.{IfOk-weaker}
use Rattle.rank_rules.specs.Windows.{window_number}
use Rattle.board_rules.specs.Entries.{acts}
use Rattle.sync_board.specs.Boards.{rows_on}
use Rattle.sync_board.specs.KeptParts.{KeepsParts}
use Rattle.sync_board.specs.Windows.{KeepsWindow}
use Rattle.sync_board.proofs.GrownSteps.{at_item, at_none}
use Rattle.sync_board.proofs.named.NameRecord.shape.Goals as goal

pub returns-then-round-len : goal.returns-then-round-len
returns-then-round-len c = IfOk-weaker c.shape.result _ _
    (λ shape more board row creation name ranks flavor layout at kept.
    let here : KeepsWindow board.layout board.ranks (window_number c.args.round name)
    (acts (rows_on board)) c.index-kept.result.now =
    rw c.index-kept.ensures (at_item c.args.self.now.rounds.items c.args.round _ _
    (KeepsWindow board.layout board.ranks (window_number c.args.round name) (acts (rows_on board))) (omega arith)
    (kept c.args.round)) in
    more board row creation ranks flavor layout
    (subst (λ w. KeepsParts board.layout w (acts (rows_on board)) c.index-kept.result.now.parts.parts.items)
    (sym at) here.brought))
    c.shape.ensures

pub returns-else-round-len : goal.returns-else-round-len
returns-else-round-len c = IfOk-weaker c.shape-else-round-len.result _ _
    (λ shape more board row creation name ranks flavor layout at kept.
    let here : KeepsWindow board.layout board.ranks (window_number c.args.round name)
    (acts (rows_on board)) c.idle-idle.result =
    c.idle-idle.ensures board.layout board.ranks (window_number c.args.round name) (acts (rows_on board))
    (at_none c.args.self.now.rounds.items c.args.round _
    (KeepsWindow board.layout board.ranks (window_number c.args.round name) (acts (rows_on board))) (omega arith)
    (kept c.args.round)) in
    more board row creation ranks flavor layout
    (subst (λ w. KeepsParts board.layout w (acts (rows_on board)) c.idle-idle.result.parts.parts.items)
    (sym at) here.brought))
    c.shape-else-round-len.ensures
