-- A testwin: its entry, or that it is false.
use Rattle.std.proofs.Common.{◌≡◌, length, ap, ◌∙◌, subst}
use Rattle.std.proofs.lemmas.List.{length-map}
use Rattle.list_laws.proofs.Numbers.{OnErr_always}
use Rattle.cell_face.specs.Faces.{Face}
use Rattle.rma_types.specs.declared.accesses.Step.TheVariants.{One}
use Rattle.step_runs.specs.Agents.{end_call}
use Rattle.step_runs.specs.BoardSteps.{enter}
use Rattle.sync_board.specs.Boards.{entry_row, rows_on}
use Rattle.rank_engine.proofs.KeptEntries.{puts_all, test_puts}
use Rattle.rank_engine.proofs.TwoEntries.{entered_test, tested_turn}
use Rattle.rank_engine.proofs.agent.Agent.test.Goals as goal
use Rattle.rank_engine.specs.Entering.{IsTurn}
use Rattle.rank_engine.specs.RankStates.{RankState}
use Rattle.rank_engine.specs.declared.answers.Turned.{Turned}

pub returns-in_ok-keep_tested-in-Ok-clause-turn : goal.returns-in_ok-keep_tested-in-Ok-clause-turn
returns-in_ok-keep_tested-in-Ok-clause-turn g c =
    let face : Face = g.M.Memory.face c.args.notes.now in
    let between : Face = g.M.Memory.face c.close.new.notes in
    let all : c.in-Ok.seen ≡ length c.close.new.board.entries =
    c.in-Ok.ensures.1 ∙ (ap length c.entries.ensures ∙ length-map c.close.new.board.entries entry_row) in
    let turn = subst (λ (turned : Turned). IsTurn turned 1 (enter c.args.self.now.stage c.args.self.now.agent
    (rows_on c.args.board.now) c.args.call.now One end_call) c.args.self.now c.close.new.self c.args.board.now
    c.close.new.board face between) c.in-NotYet.is c.in_ok-close.ensures.turn in
    tested_turn c.args.self.now c.close.new.self c.keep_tested.new.self c.args.call.now c.in-Ok.seen c.args.board.now
    c.close.new.board face between turn
    all c.in_ok-keep_tested-in-Ok.ensures.moved
    (ap (λ (x : RankState). x.opened) turn.steps.rank ∙ c.requires.ready.closed)

pub returns-in-Did-clause-turn : goal.returns-in-Did-clause-turn
returns-in-Did-clause-turn g c =
    let face : Face = g.M.Memory.face c.args.notes.now in
    let after : Face = g.M.Memory.face c.close.new.notes in
    entered_test c.args.self.now c.close.new.self c.args.call.now c.args.board.now c.close.new.board face after
    (subst (λ (turned : Turned). IsTurn turned 1 (enter c.args.self.now.stage c.args.self.now.agent
    (rows_on c.args.board.now) c.args.call.now One end_call) c.args.self.now c.close.new.self c.args.board.now
    c.close.new.board face after) c.in-Did.is c.in_ok-close.ensures.turn)

pub returns-in_err-close-clause-entries : goal.returns-in_err-close-clause-entries
returns-in_err-close-clause-entries g c =
    let now : RankState = c.args.self.now in
    OnErr_always c.from_residual.result _
    (test_puts now.stage now.agent now.agent.rank c.args.call.now c.args.board.now c.close.new.board
    c.in_err-close.ensures.entries)

pub returns-in_err-keep_tested-in-Ok-clause-entries : goal.returns-in_err-keep_tested-in-Ok-clause-entries
returns-in_err-keep_tested-in-Ok-clause-entries g c =
    let now : RankState = c.args.self.now in
    let face : Face = g.M.Memory.face c.args.notes.now in
    let between : Face = g.M.Memory.face c.close.new.notes in
    let turn = subst (λ (turned : Turned). IsTurn turned 1 (enter now.stage now.agent
    (rows_on c.args.board.now) c.args.call.now One end_call) now c.close.new.self c.args.board.now
    c.close.new.board face between) c.in-NotYet.is c.in_ok-close.ensures.turn in
    OnErr_always c.from_residual-in_err-keep_tested-in-Ok.result _
    (test_puts now.stage now.agent now.agent.rank c.args.call.now c.args.board.now c.close.new.board
    (puts_all (enter now.stage now.agent (rows_on c.args.board.now) c.args.call.now One end_call) now c.close.new.self
    c.args.board.now c.close.new.board face between turn.steps))

pub returns-in-Err-clause-entries : goal.returns-in-Err-clause-entries
returns-in-Err-clause-entries g c =
    let now : RankState = c.args.self.now in
    let face : Face = g.M.Memory.face c.args.notes.now in
    let between : Face = g.M.Memory.face c.close.new.notes in
    let turn = subst (λ (turned : Turned). IsTurn turned 1 (enter now.stage now.agent
    (rows_on c.args.board.now) c.args.call.now One end_call) now c.close.new.self c.args.board.now
    c.close.new.board face between) c.in-NotYet.is c.in_ok-close.ensures.turn in
    test_puts now.stage now.agent now.agent.rank c.args.call.now c.args.board.now c.close.new.board
    (puts_all (enter now.stage now.agent (rows_on c.args.board.now) c.args.call.now One end_call) now c.close.new.self
    c.args.board.now c.close.new.board face between turn.steps)
