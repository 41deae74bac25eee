-- A step at the board is that of the rank's next call.
use Rattle.std.proofs.Common.{◌≡◌, ◌<◌, ◌≤◌, Option, Some, sym, ◌∙◌, ap, subst}
use Rattle.std.specs.Prelude.{IfSome}
use Rattle.call_rules.specs.WellFormed.{IsWrittenCall}
use Rattle.rma_types.specs.declared.calls.Call.{Call}
use Rattle.step_runs.specs.Agents.{next_call}
use Rattle.rank_engine.proofs.NextEntries.{IsNextEntry, next_entry, ready_next}
use Rattle.rank_engine.proofs.RefusedTurns.{turn_alone, turn_untouched}
use Rattle.rank_engine.proofs.ToldGifts.{gifts_told}
use Rattle.rank_engine.proofs.TwoEntries.{if_ok_then}
use Rattle.rank_engine.proofs.agent.Agent.next_board.Goals as goal
use Rattle.cell_face.specs.Faces.{Face}
use Rattle.step_runs.specs.BoardSteps.{entry_of}
use Rattle.sync_board.specs.Boards.{rows_on}
use Rattle.rank_engine.specs.Entering.{IsTurn}
use Rattle.rank_engine.specs.RankStates.{RankState}
use Rattle.rank_engine.specs.Sound.{IsSound}
use Rattle.rank_engine.specs.declared.answers.Turned.{Turned}

pub try_entry-turned-requires-clause-ready : goal.try_entry-turned-requires-clause-ready
try_entry-turned-requires-clause-ready g c =
    let s : RankState = c.args.self.now in
    let sound : IsSound s = subst IsSound c.self.view_is c.self.invariant.0 in
    let here : next_call s.stage s.agent ≡ Some c.in-Some.call.now = sym c.in-Some.ensures.call in
    let next : IsNextEntry s c.in-Some.call.now = next_entry s c.in-Some.call.now sound c.requires.needs here in
    let free : 300 ≤ s.free = subst (λ n. 300 ≤ n) (c.free_known.ensures ∙ ap (λ
    (x : RankState). x.free) c.self.view_is)
    c.if-free_known-lt-STEP_ROOM.false in
    ready_next s c.in-Some.call.now c.args.board.now (g.M.Memory.face c.args.notes.now) next here
    (subst (λ (o : Option Call). IfSome o (λ _. s.agent.at < 65536)) here c.in-Some.ensures.within)
    (subst (λ (o : Option Call). IfSome o IsWrittenCall) here c.in-Some.ensures.written) c.requires.board free

pub try_entry-turned-requires-clause-begun : goal.try_entry-turned-requires-clause-begun
try_entry-turned-requires-clause-begun g c =
    let s : RankState = c.args.self.now in
    let sound : IsSound s = subst IsSound c.self.view_is c.self.invariant.0 in
    let here : next_call s.stage s.agent ≡ Some c.in-Some.call.now = sym c.in-Some.ensures.call in
    let next : IsNextEntry s c.in-Some.call.now = next_entry s c.in-Some.call.now sound c.requires.needs here in
    next.begun

pub try_entry-turned-requires-clause-entry : goal.try_entry-turned-requires-clause-entry
try_entry-turned-requires-clause-entry g c =
    let s : RankState = c.args.self.now in
    let sound : IsSound s = subst IsSound c.self.view_is c.self.invariant.0 in
    let here : next_call s.stage s.agent ≡ Some c.in-Some.call.now = sym c.in-Some.ensures.call in
    let next : IsNextEntry s c.in-Some.call.now = next_entry s c.in-Some.call.now sound c.requires.needs here in
    next.entry

pub returns-clause-refusal : goal.returns-clause-refusal
returns-clause-refusal g c =
    turn_alone c.try_entry-turned.result 2 c.args.self.now c.try_entry-turned.new.self c.in-Some.call.now
    c.args.board.now c.try_entry-turned.new.board (g.M.Memory.face c.args.notes.now)
    (g.M.Memory.face c.try_entry-turned.new.notes) c.try_entry-turned.ensures.turn

pub returns-clause-untouched : goal.returns-clause-untouched
returns-clause-untouched g c =
    turn_untouched c.try_entry-turned.result 2 c.args.self.now c.try_entry-turned.new.self c.in-Some.call.now
    c.args.board.now c.try_entry-turned.new.board (g.M.Memory.face c.args.notes.now)
    (g.M.Memory.face c.try_entry-turned.new.notes) c.try_entry-turned.ensures.turn

pub returns-clause-gifts : goal.returns-clause-gifts
returns-clause-gifts g c =
    let s : RankState = c.args.self.now in
    let face : Face = g.M.Memory.face c.args.notes.now in
    if_ok_then c.try_entry-turned.result
    (λ (turned : Turned). IsTurn turned 2 (entry_of s.stage s.agent (rows_on c.args.board.now) c.in-Some.call.now) s
    c.try_entry-turned.new.self c.args.board.now c.try_entry-turned.new.board face
    (g.M.Memory.face c.try_entry-turned.new.notes))
    _
    (λ turned turn. gifts_told _ face c.args.board.now c.try_entry-turned.new.board
    turn.steps.given turn.steps.entries turn.steps.gifts c.gifts_of_tokens.ensures)
    c.try_entry-turned.ensures.turn
