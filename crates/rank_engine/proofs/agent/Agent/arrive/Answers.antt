-- A collective call: its Arrive, and its Leave.
use Rattle.std.proofs.Common.{◌∙◌, ap, sym}
use Rattle.cell_face.specs.Faces.{Face}
use Rattle.step_runs.specs.Agents.{end_call}
use Rattle.step_runs.specs.BoardSteps.{arrive, enter}
use Rattle.rma_types.specs.declared.accesses.Step.TheVariants.{Leave}
use Rattle.sync_board.specs.Boards.{rows_on}
use Rattle.rank_engine.proofs.KeptEntries.{left_puts, puts_on_err}
use Rattle.rank_engine.proofs.TwoEntries.{HasArrived, has_arrived, if_ok_then, left_turn, still_closes, still_ready}
use Rattle.rank_engine.proofs.agent.Agent.arrive.Goals as goal
use Rattle.rank_engine.specs.Entering.{IsTurn}
use Rattle.rank_engine.specs.KeptItems.{PutsFirst}
use Rattle.rank_engine.specs.RankStates.{RankState}
use Rattle.rank_engine.specs.declared.answers.Turned.{Turned}

pub close-requires-clause-ready : goal.close-requires-clause-ready
close-requires-clause-ready g c =
    let begun = ap (λ (x : RankState). x.agent.entered) (sym c.self.view_is) ∙ c.if-not-self.false in
    let face : Face = g.M.Memory.face c.args.notes.now in
    let between : Face = g.M.Memory.face c.open.new.notes in
    still_ready c.args.self.now c.open.new.self c.args.call.now c.args.board.now c.open.new.board face between
    c.requires.ready c.requires.free
    (has_arrived c.in_ok-arrived.arrived c.args.self.now c.open.new.self c.args.call.now c.args.board.now
    c.open.new.board
    face between c.requires.ready c.requires.new c.requires.course c.in_ok-arrived.ensures.turn begun)

pub close-requires-clause-closes : goal.close-requires-clause-closes
close-requires-clause-closes g c =
    let begun = ap (λ (x : RankState). x.agent.entered) (sym c.self.view_is) ∙ c.if-not-self.false in
    let face : Face = g.M.Memory.face c.args.notes.now in
    let between : Face = g.M.Memory.face c.open.new.notes in
    still_closes c.args.self.now c.open.new.self c.args.call.now c.args.board.now c.open.new.board face between
    c.requires.ready c.requires.course
    (has_arrived c.in_ok-arrived.arrived c.args.self.now c.open.new.self c.args.call.now c.args.board.now
    c.open.new.board
    face between c.requires.ready c.requires.new c.requires.course c.in_ok-arrived.ensures.turn begun) begun

pub returns-clause-turn : goal.returns-clause-turn
returns-clause-turn g c =
    let begun = ap (λ (x : RankState). x.agent.entered) (sym c.self.view_is) ∙ c.if-not-self.false in
    let face : Face = g.M.Memory.face c.args.notes.now in
    let between : Face = g.M.Memory.face c.open.new.notes in
    let after : Face = g.M.Memory.face c.close.new.notes in
    let arrived : HasArrived c.args.self.now c.open.new.self c.args.call.now c.args.board.now c.open.new.board face
    between =
    has_arrived c.in_ok-arrived.arrived c.args.self.now c.open.new.self c.args.call.now c.args.board.now
    c.open.new.board
    face between c.requires.ready c.requires.new c.requires.course c.in_ok-arrived.ensures.turn begun in
    if_ok_then c.close.result
    (λ (turned : Turned). IsTurn turned 1 (enter c.open.new.self.stage c.open.new.self.agent (rows_on c.open.new.board)
    c.args.call.now Leave end_call) c.open.new.self c.close.new.self c.open.new.board c.close.new.board between after)
    (λ (turned : Turned). IsTurn turned 2 (arrive c.args.self.now.stage c.args.self.now.agent (rows_on c.args.board.now)
    c.args.call.now) c.args.self.now c.close.new.self c.args.board.now c.close.new.board face after)
    (λ turned two. left_turn turned c.args.self.now c.open.new.self c.close.new.self c.args.call.now c.args.board.now
    c.open.new.board c.close.new.board face between after arrived two)
    c.close.ensures.turn

pub returns-clause-entries : goal.returns-clause-entries
returns-clause-entries g c =
    let begun = ap (λ (x : RankState). x.agent.entered) (sym c.self.view_is) ∙ c.if-not-self.false in
    let face : Face = g.M.Memory.face c.args.notes.now in
    let between : Face = g.M.Memory.face c.open.new.notes in
    let arrived : HasArrived c.args.self.now c.open.new.self c.args.call.now c.args.board.now c.open.new.board face
    between =
    has_arrived c.in_ok-arrived.arrived c.args.self.now c.open.new.self c.args.call.now c.args.board.now
    c.open.new.board
    face between c.requires.ready c.requires.new c.requires.course c.in_ok-arrived.ensures.turn begun in
    puts_on_err c.close.result
    (PutsFirst c.open.new.self.agent.rank (enter c.open.new.self.stage c.open.new.self.agent (rows_on c.open.new.board)
    c.args.call.now Leave end_call).rows c.open.new.board c.close.new.board)
    (PutsFirst c.args.self.now.agent.rank (arrive c.args.self.now.stage c.args.self.now.agent
    (rows_on c.args.board.now) c.args.call.now).rows c.args.board.now c.close.new.board)
    (left_puts c.args.self.now c.open.new.self c.args.call.now c.args.board.now c.open.new.board c.close.new.board face
    between arrived)
    c.close.ensures.entries
