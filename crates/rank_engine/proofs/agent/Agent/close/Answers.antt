-- The entry that ends a call.
use Rattle.std.proofs.Common.{◌≡◌, [], ◌∷◌, ◌++◌, false, refl, ap, sym, ◌∙◌, subst}
use Rattle.std.specs.Prelude.{◌≤◌, ◌+◌}
use Rattle.list_laws.proofs.Numbers.{OnErr_always}
use Rattle.rma_record.specs.declared.items.Item.{Item}
use Rattle.rma_record.specs.declared.items.Item.TheVariants.{Entry}
use Rattle.cell_face.specs.Faces.{Face}
use Rattle.rank_rules.specs.Courses.{course_of}
use Rattle.step_laws.proofs.OwnTests.{windows_allow}
use Rattle.step_runs.specs.Agents.{end_call}
use Rattle.step_runs.specs.BoardSteps.{enter, next_row}
use Rattle.sync_board.specs.Boards.{rows_on}
use Rattle.rank_engine.proofs.Asked.{closing_step, may_ask}
use Rattle.rank_engine.proofs.Ended.{one_longer}
use Rattle.rank_engine.proofs.EntrySound.{answered_put, closed_sound}
use Rattle.rank_engine.proofs.EntryParts.{Makes, closing_makes, closing_shape}
use Rattle.rank_engine.proofs.EntrySound.{closing_windows}
use Rattle.rank_engine.proofs.EntryTurns.{closed_turn, not_yet_turn, seen_turn, turned_away, with_room}
use Rattle.rank_engine.proofs.KeptEntries.{puts_one}
use Rattle.rank_engine.proofs.Passed.{accepted}
use Rattle.rank_engine.proofs.agent.Agent.close.Goals as goal
use Rattle.rank_engine.specs.Entering.{IsClosing, IsReady}
use Rattle.rank_engine.specs.KeptItems.{PutsFirst}
use Rattle.rank_engine.specs.RankStates.{RankState, state_of}
use Rattle.rank_engine.specs.declared.answers.Turned.TheVariants.{Did, NotYet}

pub ask-requires-clause-asked : goal.ask-requires-clause-asked
ask-requires-clause-asked g c =
    let s : RankState = state_of c.self.inside.script.now c.self.inside.layout.now c.self.inside.delay
    c.self.inside.rank (g.L.Keep.kept c.self.inside.log) c.self.inside.windows c.self.inside.epochs
    c.self.inside.queue c.self.inside.at c.self.inside.entered c.self.inside.drawn c.self.inside.draws
    c.self.inside.ended c.self.inside.opened (g.L.Keep.free c.self.inside.log) (g.L.Keep.home c.self.inside.log) in
    let same : s ≡ c.args.self.now = c.self.view_is in
    let face : Face = g.M.Memory.face c.args.notes.now in
    let ready : IsReady s c.args.call.now c.args.board.now face =
    subst (λ (x : RankState). IsReady x c.args.call.now c.args.board.now face) (sym same) c.requires.ready in
    let closes : IsClosing c.args.step s.agent.entered (course_of s.agent.known.windows c.args.call.now) =
    subst (λ (x : RankState). IsClosing c.args.step x.agent.entered (course_of x.agent.known.windows c.args.call.now))
    (sym same) c.requires.closes in
    may_ask s c.args.call.now c.args.step c.args.board.now face c.self.invariant.0 ready
    (closing_step s.agent.known.windows c.args.step s.agent.entered c.args.call.now closes)

pub learn_windows-requires-clause-passed : goal.learn_windows-requires-clause-passed
learn_windows-requires-clause-passed g c =
    let s : RankState = state_of c.self.inside.script.now c.self.inside.layout.now c.self.inside.delay
    c.self.inside.rank (g.L.Keep.kept c.self.inside.log) c.self.inside.windows c.self.inside.epochs
    c.self.inside.queue c.self.inside.at c.self.inside.entered c.self.inside.drawn c.self.inside.draws
    c.self.inside.ended c.self.inside.opened (g.L.Keep.free c.self.inside.log) (g.L.Keep.home c.self.inside.log) in
    let same : s ≡ c.args.self.now = c.self.view_is in
    let face : Face = g.M.Memory.face c.args.notes.now in
    let ready : IsReady s c.args.call.now c.args.board.now face =
    subst (λ (x : RankState). IsReady x c.args.call.now c.args.board.now face) (sym same) c.requires.ready in
    let closes : IsClosing c.args.step s.agent.entered (course_of s.agent.known.windows c.args.call.now) =
    subst (λ (x : RankState). IsClosing c.args.step x.agent.entered (course_of x.agent.known.windows c.args.call.now))
    (sym same) c.requires.closes in
    windows_allow s.agent.known c.args.call.now ready.own

pub learn_windows-requires-clause-shape : goal.learn_windows-requires-clause-shape
learn_windows-requires-clause-shape g c =
    let s : RankState = state_of c.self.inside.script.now c.self.inside.layout.now c.self.inside.delay
    c.self.inside.rank (g.L.Keep.kept c.self.inside.log) c.self.inside.windows c.self.inside.epochs
    c.self.inside.queue c.self.inside.at c.self.inside.entered c.self.inside.drawn c.self.inside.draws
    c.self.inside.ended c.self.inside.opened (g.L.Keep.free c.self.inside.log) (g.L.Keep.home c.self.inside.log) in
    let same : s ≡ c.args.self.now = c.self.view_is in
    let face : Face = g.M.Memory.face c.args.notes.now in
    let ready : IsReady s c.args.call.now c.args.board.now face =
    subst (λ (x : RankState). IsReady x c.args.call.now c.args.board.now face) (sym same) c.requires.ready in
    let closes : IsClosing c.args.step s.agent.entered (course_of s.agent.known.windows c.args.call.now) =
    subst (λ (x : RankState). IsClosing c.args.step x.agent.entered (course_of x.agent.known.windows c.args.call.now))
    (sym same) c.requires.closes in
    let face_after : Face = g.M.Memory.face c.ask.new.notes in
    let put = answered_put (next_row s.agent c.args.call.now c.args.step) c.in_ok-place.field-0 c.in-Entered.place
    c.in-Entered.made c.args.board.now c.ask.new.board face face_after c.in-Entered.is c.in_ok-place.ensures.answer in
    let makes : Makes s c.args.call.now c.args.step c.args.board.now c.in-Entered.made =
    closing_makes s c.args.call.now c.args.step c.args.board.now c.in-Entered.made closes put.1 in
    closing_shape s c.args.call.now c.args.step c.args.board.now c.in-Entered.made makes

pub after-requires-clause-accepted : goal.after-requires-clause-accepted
after-requires-clause-accepted g c =
    let s : RankState = state_of c.self.inside.script.now c.self.inside.layout.now c.self.inside.delay
    c.self.inside.rank (g.L.Keep.kept c.self.inside.log) c.self.inside.windows c.self.inside.epochs
    c.self.inside.queue c.self.inside.at c.self.inside.entered c.self.inside.drawn c.self.inside.draws
    c.self.inside.ended c.self.inside.opened (g.L.Keep.free c.self.inside.log) (g.L.Keep.home c.self.inside.log) in
    let same : s ≡ c.args.self.now = c.self.view_is in
    let face : Face = g.M.Memory.face c.args.notes.now in
    let ready : IsReady s c.args.call.now c.args.board.now face =
    subst (λ (x : RankState). IsReady x c.args.call.now c.args.board.now face) (sym same) c.requires.ready in
    let closes : IsClosing c.args.step s.agent.entered (course_of s.agent.known.windows c.args.call.now) =
    subst (λ (x : RankState). IsClosing c.args.step x.agent.entered (course_of x.agent.known.windows c.args.call.now))
    (sym same) c.requires.closes in
    accepted s.agent.known c.args.call.now
    (subst (λ n. n ≤ 16) (sym c.self.invariant.0.windows.ranks) c.self.invariant.0.formed.few_ranks) ready.own

pub invariant_of-self-in-Entered : goal.invariant_of-self-in-Entered
invariant_of-self-in-Entered g c =
    let s : RankState = state_of c.self.inside.script.now c.self.inside.layout.now c.self.inside.delay
    c.self.inside.rank (g.L.Keep.kept c.self.inside.log) c.self.inside.windows c.self.inside.epochs
    c.self.inside.queue c.self.inside.at c.self.inside.entered c.self.inside.drawn c.self.inside.draws
    c.self.inside.ended c.self.inside.opened (g.L.Keep.free c.self.inside.log) (g.L.Keep.home c.self.inside.log) in
    let same : s ≡ c.args.self.now = c.self.view_is in
    let face : Face = g.M.Memory.face c.args.notes.now in
    let ready : IsReady s c.args.call.now c.args.board.now face =
    subst (λ (x : RankState). IsReady x c.args.call.now c.args.board.now face) (sym same) c.requires.ready in
    let closes : IsClosing c.args.step s.agent.entered (course_of s.agent.known.windows c.args.call.now) =
    subst (λ (x : RankState). IsClosing c.args.step x.agent.entered (course_of x.agent.known.windows c.args.call.now))
    (sym same) c.requires.closes in
    let face_after : Face = g.M.Memory.face c.ask.new.notes in
    let put = answered_put (next_row s.agent c.args.call.now c.args.step) c.in_ok-place.field-0 c.in-Entered.place
    c.in-Entered.made c.args.board.now c.ask.new.board face face_after c.in-Entered.is c.in_ok-place.ensures.answer in
    let makes : Makes s c.args.call.now c.args.step c.args.board.now c.in-Entered.made =
    closing_makes s c.args.call.now c.args.step c.args.board.now c.in-Entered.made closes put.1 in
    let item : Item = Entry c.self.inside.at c.in-Entered.place c.args.step in
    let log : g.L.Keep.kept c.keep.new.self ≡ g.L.Keep.kept c.self.inside.log ++ item ∷ [] =
    c.keep.ensures.kept ∙ ap (λ l. l ++ item ∷ []) c.reserve.ensures.kept in (
      closed_sound s c.args.call.now c.args.step c.in-Entered.place (g.L.Keep.kept c.keep.new.self)
          c.learn_windows.new.windows c.after.new.self (g.L.Keep.free c.keep.new.self) (g.L.Keep.home c.keep.new.self)
          c.self.invariant.0 ready.here closes
          (closing_windows s c.args.call.now c.args.step c.args.board.now face c.in-Entered.made
          c.learn_windows.new.windows
          c.self.invariant.0 ready makes c.in_ok-learn_windows-in-Entered.ensures.ok) log,
      one_longer (g.L.Keep.kept c.self.inside.log) (g.L.Keep.kept c.keep.new.self) item c.self.inside.kept
          c.self.invariant.1 log,
    )

pub returns-in_err-learn_windows-in-Entered-clause-entries :
    goal.returns-in_err-learn_windows-in-Entered-clause-entries
returns-in_err-learn_windows-in-Entered-clause-entries g c =
    let s : RankState = state_of c.self.inside.script.now c.self.inside.layout.now c.self.inside.delay
    c.self.inside.rank (g.L.Keep.kept c.self.inside.log) c.self.inside.windows c.self.inside.epochs
    c.self.inside.queue c.self.inside.at c.self.inside.entered c.self.inside.drawn c.self.inside.draws
    c.self.inside.ended c.self.inside.opened (g.L.Keep.free c.self.inside.log) (g.L.Keep.home c.self.inside.log) in
    let same : s ≡ c.args.self.now = c.self.view_is in
    let face : Face = g.M.Memory.face c.args.notes.now in
    let face_after : Face = g.M.Memory.face c.ask.new.notes in
    let ready : IsReady s c.args.call.now c.args.board.now face =
    subst (λ (x : RankState). IsReady x c.args.call.now c.args.board.now face) (sym same) c.requires.ready in
    let put = answered_put (next_row s.agent c.args.call.now c.args.step) c.in_ok-place.field-0 c.in-Entered.place
    c.in-Entered.made c.args.board.now c.ask.new.board face face_after c.in-Entered.is c.in_ok-place.ensures.answer in
    OnErr_always c.from_residual-in_err-learn_windows-in-Entered.result _
    (subst (λ (x : RankState). PutsFirst x.agent.rank (enter x.stage x.agent (rows_on c.args.board.now)
    c.args.call.now c.args.step end_call).rows c.args.board.now c.ask.new.board) same
    (puts_one s c.args.call.now c.args.step end_call c.in-Entered.place c.args.board.now c.ask.new.board face face_after
    ready.board_is.ranks put.0))

pub returns-in_ok-learn_windows-in-Entered-clause-turn :
    goal.returns-in_ok-learn_windows-in-Entered-clause-turn
returns-in_ok-learn_windows-in-Entered-clause-turn g c =
    let s : RankState = state_of c.self.inside.script.now c.self.inside.layout.now c.self.inside.delay
    c.self.inside.rank (g.L.Keep.kept c.self.inside.log) c.self.inside.windows c.self.inside.epochs
    c.self.inside.queue c.self.inside.at c.self.inside.entered c.self.inside.drawn c.self.inside.draws
    c.self.inside.ended c.self.inside.opened (g.L.Keep.free c.self.inside.log) (g.L.Keep.home c.self.inside.log) in
    let same : s ≡ c.args.self.now = c.self.view_is in
    let face : Face = g.M.Memory.face c.args.notes.now in
    let ready : IsReady s c.args.call.now c.args.board.now face =
    subst (λ (x : RankState). IsReady x c.args.call.now c.args.board.now face) (sym same) c.requires.ready in
    let closes : IsClosing c.args.step s.agent.entered (course_of s.agent.known.windows c.args.call.now) =
    subst (λ (x : RankState). IsClosing c.args.step x.agent.entered (course_of x.agent.known.windows c.args.call.now))
    (sym same) c.requires.closes in
    let face_after : Face = g.M.Memory.face c.ask.new.notes in
    let put = answered_put (next_row s.agent c.args.call.now c.args.step) c.in_ok-place.field-0 c.in-Entered.place
    c.in-Entered.made c.args.board.now c.ask.new.board face face_after c.in-Entered.is c.in_ok-place.ensures.answer in
    let makes : Makes s c.args.call.now c.args.step c.args.board.now c.in-Entered.made =
    closing_makes s c.args.call.now c.args.step c.args.board.now c.in-Entered.made closes put.1 in
    let item : Item = Entry c.self.inside.at c.in-Entered.place c.args.step in
    let log : g.L.Keep.kept c.keep.new.self ≡ g.L.Keep.kept c.self.inside.log ++ item ∷ [] =
    c.keep.ensures.kept ∙ ap (λ l. l ++ item ∷ []) c.reserve.ensures.kept in
    let after : RankState = state_of c.self.inside.script.now c.self.inside.layout.now c.self.inside.delay
    c.self.inside.rank (g.L.Keep.kept c.keep.new.self) c.learn_windows.new.windows c.after.new.self
    c.self.inside.queue (c.self.inside.at + 1) false false c.self.inside.draws
    c.self.inside.ended c.self.inside.opened (g.L.Keep.free c.keep.new.self) (g.L.Keep.home c.keep.new.self) in
    seen_turn s c.args.self.now after c.args.call.now c.args.step end_call Did 1 c.args.board.now c.ask.new.board face
    face_after same
    (closed_turn s after c.args.call.now c.args.step c.in-Entered.place c.in-Entered.made
    (g.L.Keep.kept c.keep.new.self)
    c.learn_windows.new.windows c.after.new.self (g.L.Keep.free c.keep.new.self) (g.L.Keep.home c.keep.new.self)
    c.args.board.now c.ask.new.board face face_after c.self.invariant.0 ready closes put.0 makes
    c.in_ok-place.ensures.handed c.in_ok-learn_windows-in-Entered.ensures.ok c.after.ensures log
    (c.keep.ensures.home ∙ c.reserve.ensures.home)
    (subst (λ n. n ≤ g.L.Keep.free c.keep.new.self + 1) c.reserve.ensures.free c.keep.ensures.free_above)
    (subst (λ n. g.L.Keep.free c.keep.new.self ≤ n) c.reserve.ensures.free c.keep.ensures.free_below) refl)

pub returns-in-NotYetEntered-clause-turn : goal.returns-in-NotYetEntered-clause-turn
returns-in-NotYetEntered-clause-turn g c =
    let s : RankState = state_of c.self.inside.script.now c.self.inside.layout.now c.self.inside.delay
    c.self.inside.rank (g.L.Keep.kept c.self.inside.log) c.self.inside.windows c.self.inside.epochs
    c.self.inside.queue c.self.inside.at c.self.inside.entered c.self.inside.drawn c.self.inside.draws
    c.self.inside.ended c.self.inside.opened (g.L.Keep.free c.self.inside.log) (g.L.Keep.home c.self.inside.log) in
    let same : s ≡ c.args.self.now = c.self.view_is in
    let face : Face = g.M.Memory.face c.args.notes.now in
    let ready : IsReady s c.args.call.now c.args.board.now face =
    subst (λ (x : RankState). IsReady x c.args.call.now c.args.board.now face) (sym same) c.requires.ready in
    let closes : IsClosing c.args.step s.agent.entered (course_of s.agent.known.windows c.args.call.now) =
    subst (λ (x : RankState). IsClosing c.args.step x.agent.entered (course_of x.agent.known.windows c.args.call.now))
    (sym same) c.requires.closes in
    let face_after : Face = g.M.Memory.face c.ask.new.notes in
    let between : RankState = state_of c.self.inside.script.now c.self.inside.layout.now c.self.inside.delay
    c.self.inside.rank (g.L.Keep.kept c.reserve.new.self) c.self.inside.windows c.self.inside.epochs
    c.self.inside.queue c.self.inside.at c.self.inside.entered c.self.inside.drawn c.self.inside.draws
    c.self.inside.ended c.self.inside.opened (g.L.Keep.free c.reserve.new.self) (g.L.Keep.home c.reserve.new.self) in
    let room : between ≡ s = with_room s (g.L.Keep.kept c.reserve.new.self) (g.L.Keep.free c.reserve.new.self)
    (g.L.Keep.home c.reserve.new.self) c.reserve.ensures.kept c.reserve.ensures.free c.reserve.ensures.home in
    seen_turn s c.args.self.now between c.args.call.now c.args.step end_call NotYet 1 c.args.board.now c.ask.new.board
    face
    face_after same
    (not_yet_turn s between c.args.call.now c.args.step end_call c.in_ok-place.field-0 c.args.board.now
    c.ask.new.board face
    face_after ready c.in_ok-place.ensures.handed c.in-NotYetEntered.is c.in_ok-place.ensures.answer room)

pub returns-in_ok-refuse-in-Refused-clause-turn : goal.returns-in_ok-refuse-in-Refused-clause-turn
returns-in_ok-refuse-in-Refused-clause-turn g c =
    let s : RankState = state_of c.self.inside.script.now c.self.inside.layout.now c.self.inside.delay
    c.self.inside.rank (g.L.Keep.kept c.self.inside.log) c.self.inside.windows c.self.inside.epochs
    c.self.inside.queue c.self.inside.at c.self.inside.entered c.self.inside.drawn c.self.inside.draws
    c.self.inside.ended c.self.inside.opened (g.L.Keep.free c.self.inside.log) (g.L.Keep.home c.self.inside.log) in
    let same : s ≡ c.args.self.now = c.self.view_is in
    let face : Face = g.M.Memory.face c.args.notes.now in
    let ready : IsReady s c.args.call.now c.args.board.now face =
    subst (λ (x : RankState). IsReady x c.args.call.now c.args.board.now face) (sym same) c.requires.ready in
    let closes : IsClosing c.args.step s.agent.entered (course_of s.agent.known.windows c.args.call.now) =
    subst (λ (x : RankState). IsClosing c.args.step x.agent.entered (course_of x.agent.known.windows c.args.call.now))
    (sym same) c.requires.closes in
    let face_after : Face = g.M.Memory.face c.ask.new.notes in
    let between : RankState = state_of c.self.inside.script.now c.self.inside.layout.now c.self.inside.delay
    c.self.inside.rank (g.L.Keep.kept c.reserve.new.self) c.self.inside.windows c.self.inside.epochs
    c.self.inside.queue c.self.inside.at c.self.inside.entered c.self.inside.drawn c.self.inside.draws
    c.self.inside.ended c.self.inside.opened (g.L.Keep.free c.reserve.new.self) (g.L.Keep.home c.reserve.new.self) in
    let room : between ≡ s = with_room s (g.L.Keep.kept c.reserve.new.self) (g.L.Keep.free c.reserve.new.self)
    (g.L.Keep.home c.reserve.new.self) c.reserve.ensures.kept c.reserve.ensures.free c.reserve.ensures.home in
    seen_turn s c.args.self.now c.refuse.new.self c.args.call.now c.args.step end_call Did 1 c.args.board.now
    c.ask.new.board
    face face_after same
    (turned_away s between c.refuse.new.self c.args.call.now c.args.step end_call c.in_ok-place.field-0
    c.in-Refused.class
    c.in-Refused.seen c.args.board.now c.ask.new.board face face_after ready c.in_ok-place.ensures.handed
    c.in-Refused.is
    c.in_ok-place.ensures.answer room c.in_ok-refuse-in-Refused.ensures.moved)
