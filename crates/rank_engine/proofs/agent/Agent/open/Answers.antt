-- The first entry of a call of two parts.
use Rattle.std.proofs.Common.{◌≡◌, Result, [], ◌∷◌, ◌++◌, None, ap, sym, ◌∙◌, subst}
use Rattle.rma_record.specs.declared.items.Item.{Item}
use Rattle.rma_record.specs.declared.items.Item.TheVariants.{Entry, Refused}
use Rattle.rank_rules.specs.Courses.{course_of}
use Rattle.rank_engine.proofs.Asked.{may_ask, opening_step}
use Rattle.rank_engine.proofs.EntrySound.{answered_put}
use Rattle.rank_engine.proofs.EntryParts.{opened_sound}
use Rattle.step_runs.specs.BoardSteps.{next_row}
use Rattle.rank_engine.proofs.Ended.{one_longer}
use Rattle.rank_engine.proofs.EntryTurns.{not_yet_turn, opened_turn, seen_turn, turned_away, with_room}
use Rattle.rank_engine.specs.Moves.{IsMove}
use Rattle.step_runs.specs.DataSteps.{with_item, without_delivery}
use Rattle.cell_face.specs.Faces.{Face}
use Rattle.step_runs.specs.Agents.{enter_call}
use Rattle.step_runs.specs.BoardSteps.{AtBoard, enter}
use Rattle.sync_board.specs.Boards.{rows_on}
use Rattle.rma_types.specs.declared.scripts.NoMemory.{NoMemory}
use Rattle.std.specs.Prelude.{IfOk, ◌≤◌, ◌+◌}
use Rattle.rank_engine.specs.declared.answers.Turned.{Turned}
use Rattle.rank_engine.specs.declared.answers.Turned.TheVariants.{Did, NotYet}
use Rattle.rank_engine.proofs.agent.Agent.open.Goals as goal
use Rattle.rank_engine.proofs.agent.Agent.open.Goals.{in-Entered, in-NotYetEntered, in-Refused+in_ok-refuse-in-Refused}
use Rattle.rank_engine.specs.Entering.{IsOpening, IsReady, IsTurn}
use Rattle.rank_engine.specs.RankStates.{RankState, state_of}

pub ask-requires-clause-asked : goal.ask-requires-clause-asked
ask-requires-clause-asked g c =
    let s : RankState = state_of c.self.inside.script.now c.self.inside.layout.now c.self.inside.delay
    c.self.inside.rank (g.L.Keep.kept c.self.inside.log) c.self.inside.windows c.self.inside.epochs
    c.self.inside.queue c.self.inside.at c.self.inside.entered c.self.inside.drawn c.self.inside.draws
    c.self.inside.ended c.self.inside.opened (g.L.Keep.free c.self.inside.log) (g.L.Keep.home c.self.inside.log) in
    let same : s ≡ c.args.self.now = c.self.view_is in
    may_ask s c.args.call.now c.args.step c.args.board.now (g.M.Memory.face c.args.notes.now) c.self.invariant.0
    (subst (λ (x : RankState). IsReady x c.args.call.now c.args.board.now (g.M.Memory.face c.args.notes.now)) (sym same)
    c.requires.ready)
    (opening_step s.agent.known.windows c.args.step c.args.call.now
    (subst (λ (x : RankState). IsOpening c.args.step (course_of x.agent.known.windows c.args.call.now)) (sym same)
    c.requires.opens))

pub invariant_of-self-in-Entered : goal.invariant_of-self-in-Entered
invariant_of-self-in-Entered g c =
    let s : RankState = state_of c.self.inside.script.now c.self.inside.layout.now c.self.inside.delay
    c.self.inside.rank (g.L.Keep.kept c.self.inside.log) c.self.inside.windows c.self.inside.epochs
    c.self.inside.queue c.self.inside.at c.self.inside.entered c.self.inside.drawn c.self.inside.draws
    c.self.inside.ended c.self.inside.opened (g.L.Keep.free c.self.inside.log) (g.L.Keep.home c.self.inside.log) in
    let same : s ≡ c.args.self.now = c.self.view_is in
    let item : Item = Entry c.self.inside.at c.in-Entered.place c.args.step in
    let log : g.L.Keep.kept c.keep.new.self ≡ g.L.Keep.kept c.self.inside.log ++ item ∷ [] =
    c.keep.ensures.kept ∙ ap (λ l. l ++ item ∷ []) c.reserve.ensures.kept in (
      opened_sound s c.args.call.now c.args.step c.in-Entered.place (g.L.Keep.kept c.keep.new.self)
          (g.L.Keep.free c.keep.new.self) (g.L.Keep.home c.keep.new.self) c.args.board.now
          (g.M.Memory.face c.args.notes.now) c.self.invariant.0
          (subst (λ (x : RankState). IsReady x c.args.call.now c.args.board.now (g.M.Memory.face c.args.notes.now))
          (sym same)
          c.requires.ready)
          (ap (λ (x : RankState). x.agent.entered) same ∙ c.requires.new)
          (subst (λ (x : RankState). IsOpening c.args.step (course_of x.agent.known.windows c.args.call.now)) (sym same)
          c.requires.opens)
          (answered_put (next_row s.agent c.args.call.now c.args.step) c.in_ok-place.field-0 c.in-Entered.place
          c.in-Entered.made
          c.args.board.now c.ask.new.board (g.M.Memory.face c.args.notes.now) (g.M.Memory.face c.ask.new.notes)
          c.in-Entered.is c.in_ok-place.ensures.answer).0.look_up log,
      one_longer (g.L.Keep.kept c.self.inside.log) (g.L.Keep.kept c.keep.new.self) item c.self.inside.kept
          c.self.invariant.1 log,
    )

pub returns-clause-turn : goal.returns-clause-turn
returns-clause-turn g c =
    let s : RankState = state_of c.self.inside.script.now c.self.inside.layout.now c.self.inside.delay
    c.self.inside.rank (g.L.Keep.kept c.self.inside.log) c.self.inside.windows c.self.inside.epochs
    c.self.inside.queue c.self.inside.at c.self.inside.entered c.self.inside.drawn c.self.inside.draws
    c.self.inside.ended c.self.inside.opened (g.L.Keep.free c.self.inside.log) (g.L.Keep.home c.self.inside.log) in
    let same : s ≡ c.args.self.now = c.self.view_is in
    let face : Face = g.M.Memory.face c.args.notes.now in
    let face_after : Face = g.M.Memory.face c.ask.new.notes in
    let ready : IsReady s c.args.call.now c.args.board.now face =
    subst (λ (x : RankState). IsReady x c.args.call.now c.args.board.now face) (sym same) c.requires.ready in
    let opens : IsOpening c.args.step (course_of s.agent.known.windows c.args.call.now) =
    subst (λ (x : RankState). IsOpening c.args.step (course_of x.agent.known.windows c.args.call.now)) (sym same)
    c.requires.opens in
    let between : RankState = state_of c.self.inside.script.now c.self.inside.layout.now c.self.inside.delay
    c.self.inside.rank (g.L.Keep.kept c.reserve.new.self) c.self.inside.windows c.self.inside.epochs
    c.self.inside.queue c.self.inside.at c.self.inside.entered c.self.inside.drawn c.self.inside.draws
    c.self.inside.ended c.self.inside.opened (g.L.Keep.free c.reserve.new.self) (g.L.Keep.home c.reserve.new.self) in
    let room : between ≡ s = with_room s (g.L.Keep.kept c.reserve.new.self) (g.L.Keep.free c.reserve.new.self)
    (g.L.Keep.home c.reserve.new.self) c.reserve.ensures.kept c.reserve.ensures.free c.reserve.ensures.home in
    let to : AtBoard = enter c.args.self.now.stage c.args.self.now.agent (rows_on c.args.board.now) c.args.call.now
    c.args.step enter_call in
    elim c.match-branch-3.branch [
      | in-Entered w ↦
          let item : Item = Entry c.self.inside.at w.in-Entered.place c.args.step in
          subst (λ (r : Result Turned NoMemory). IfOk r (λ (turned : Turned). IsTurn turned 1 to c.args.self.now
          c.match-branch-3.self c.args.board.now c.ask.new.board face face_after)) (sym w.result-is)
          (seen_turn s c.args.self.now c.match-branch-3.self c.args.call.now c.args.step enter_call Did 1
          c.args.board.now
          c.ask.new.board face face_after same
          (opened_turn s c.match-branch-3.self c.args.call.now c.args.step w.in-Entered.place
          (g.L.Keep.kept w.keep.new.self) (g.L.Keep.free w.keep.new.self) (g.L.Keep.home w.keep.new.self)
          c.args.board.now c.ask.new.board face face_after ready opens
          (answered_put (next_row s.agent c.args.call.now c.args.step) c.in_ok-place.field-0 w.in-Entered.place
          w.in-Entered.made c.args.board.now c.ask.new.board face face_after w.in-Entered.is
          c.in_ok-place.ensures.answer).0
          c.in_ok-place.ensures.handed
          (w.keep.ensures.kept ∙ ap (λ l. l ++ item ∷ []) c.reserve.ensures.kept)
          (w.keep.ensures.home ∙ c.reserve.ensures.home)
          (subst (λ n. n ≤ g.L.Keep.free w.keep.new.self + 1) c.reserve.ensures.free w.keep.ensures.free_above)
          (subst (λ n. g.L.Keep.free w.keep.new.self ≤ n) c.reserve.ensures.free w.keep.ensures.free_below)
          w.self-is))
      | in-NotYetEntered w ↦
          subst (λ (r : Result Turned NoMemory). IfOk r (λ (turned : Turned). IsTurn turned 1 to c.args.self.now
          c.match-branch-3.self c.args.board.now c.ask.new.board face face_after)) (sym w.result-is)
          (seen_turn s c.args.self.now c.match-branch-3.self c.args.call.now c.args.step enter_call NotYet 1
          c.args.board.now
          c.ask.new.board face face_after same
          (not_yet_turn s c.match-branch-3.self c.args.call.now c.args.step enter_call c.in_ok-place.field-0
          c.args.board.now
          c.ask.new.board face face_after ready c.in_ok-place.ensures.handed w.in-NotYetEntered.is
          c.in_ok-place.ensures.answer (w.self-is ∙ room)))
      | in-Refused+in_ok-refuse-in-Refused w ↦
          subst (λ (r : Result Turned NoMemory). IfOk r (λ (turned : Turned). IsTurn turned 1 to c.args.self.now
          c.match-branch-3.self c.args.board.now c.ask.new.board face face_after)) (sym w.result-is)
          (seen_turn s c.args.self.now c.match-branch-3.self c.args.call.now c.args.step enter_call Did 1
          c.args.board.now
          c.ask.new.board face face_after same
          (turned_away s between c.match-branch-3.self c.args.call.now c.args.step enter_call c.in_ok-place.field-0
          w.in-Refused.class w.in-Refused.seen c.args.board.now c.ask.new.board face face_after ready
          c.in_ok-place.ensures.handed w.in-Refused.is c.in_ok-place.ensures.answer room
          (subst (λ (x : RankState). IsMove between x (without_delivery (with_item between.stage between.agent
          (Refused between.agent.at w.in-Refused.class w.in-Refused.seen)))) (sym w.self-is)
          w.in_ok-refuse-in-Refused.ensures.moved)))
    ]
