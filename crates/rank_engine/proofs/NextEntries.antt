-- The next call of a rank whose next step is at the board may be asked of it.
use Rattle.std.proofs.Common.{◌≡◌, ℕ, ◌<◌, ◌≤◌, Bool, true, false, cond, not, Option, Some, None, refl, sym, ◌∙◌, ap}
use Rattle.std.proofs.Common.{subst, arith}
use Rattle.std.specs.Prelude.{◌&&◌, is_none, IfSome}
use Rattle.std.specs.Option.{option_map_or}
use Rattle.std.proofs.lemmas.Bool.{and_parts}
use Rattle.rma_types.specs.declared.calls.Call.{Call}
use Rattle.rma_types.specs.Actions.{transfer_of}
use Rattle.rma_types.proofs.ClassLaws.{none_is}
use Rattle.call_rules.specs.WellFormed.{IsWrittenCall}
use Rattle.cell_face.specs.Faces.{Face}
use Rattle.rank_rules.specs.Courses.{Course, OneNull, OneIssue, LookUpAndIssue, OneFlush, OneRequest, ArriveAndLeave}
use Rattle.rank_rules.specs.Courses.{EntryOrTested, OneEntry, course_of, has_entry}
use Rattle.rank_rules.specs.Knowledge.{own_class}
use Rattle.rank_rules.specs.Windows.{RankWindows}
use Rattle.step_laws.proofs.OwnTests.{HasIssue, transfer_with_issue}
use Rattle.step_runs.specs.Agents.{awaited_by, begins_with_entry, must_draw, next_call, tries_entry}
use Rattle.sync_board.specs.Boards.{BoardState}
use Rattle.rank_engine.specs.BoardAnswers.{IsBoardOf}
use Rattle.rank_engine.specs.Entering.{IsReady}
use Rattle.rank_engine.specs.RankStates.{RankState, needs_entry}
use Rattle.rank_engine.specs.Sound.{IsBegun, IsSound, IsTwofold}

collective_if : (course : Course) → IsTwofold course → (course ≡ LookUpAndIssue → ⊥) → course ≡ ArriveAndLeave
collective_if OneNull h n = absurd h
collective_if OneIssue h n = absurd h
collective_if LookUpAndIssue h n = absurd (n refl)
collective_if OneFlush h n = absurd h
collective_if OneRequest h n = absurd h
collective_if ArriveAndLeave h n = refl
collective_if EntryOrTested h n = absurd h
collective_if OneEntry h n = absurd h

no_look_up : (known : RankWindows) (call : Call) → is_none (transfer_of call) ≡ true →
    course_of known call ≡ LookUpAndIssue → ⊥
no_look_up known call none course =
    let t = transfer_with_issue known call (subst HasIssue (sym course) tt) in absurd (cc (none, ap is_none t.1))

closed_if : (o : Option ℕ) → is_none o ≡ true → o ≡ None
closed_if None h = refl
closed_if (Some at) h = absurd (cc h)

-- the next call tries an entry
call_tries : (s : RankState) (call : Call) → needs_entry s ≡ true → next_call s.stage s.agent ≡ Some call →
    cond s.agent.entered (is_none (transfer_of call)) (begins_with_entry s.stage s.agent call) ≡ true
call_tries s call needs here =
    sym (ap (λ o. option_map_or
    (λ (x : Call). cond s.agent.entered (is_none (transfer_of x)) (begins_with_entry s.stage s.agent x)) o false) here)
    ∙ (and_parts (is_none s.opened) (tries_entry s.stage s.agent) needs).1

-- what holds of the next call: its rank does not refuse it, and it has an entry; a call that is begun is collective
pub record IsNextEntry (s : RankState) (call : Call) : Type 0 where
  pub own : own_class s.agent.known call ≡ None
  pub begun : s.agent.entered ≡ true → course_of s.agent.known.windows call ≡ ArriveAndLeave
  pub entry : has_entry (course_of s.agent.known.windows call) ≡ true
  pub closed : s.opened ≡ None

pub next_entry : (s : RankState) (call : Call) → IsSound s → needs_entry s ≡ true →
    next_call s.stage s.agent ≡ Some call → IsNextEntry s call
next_entry s call sound needs here = by_entered s.agent.entered refl (call_tries s call needs here)
  where
    closed : s.opened ≡ None
    closed = closed_if s.opened (and_parts (is_none s.opened) (tries_entry s.stage s.agent) needs).0

    by_entered : (b : Bool) → s.agent.entered ≡ b →
        cond b (is_none (transfer_of call)) (begins_with_entry s.stage s.agent call) ≡ true → IsNextEntry s call
    by_entered true e tries =
        let begun : IsBegun s.stage.layout s.agent.known call =
        subst (λ (o : Option Call). IfSome o (IsBegun s.stage.layout s.agent.known)) here (sound.begun e) in
        let course : course_of s.agent.known.windows call ≡ ArriveAndLeave =
        collective_if (course_of s.agent.known.windows call) begun.twofold
        (no_look_up s.agent.known.windows call tries) in
        record { own = begun.passed; begun = λ _. course; entry = ap has_entry course; closed = closed }
    by_entered false e tries =
        let most = and_parts (not (must_draw s.stage s.agent) && is_none (own_class s.agent.known call)
        && is_none (awaited_by s.agent call)) (has_entry (course_of s.agent.known.windows call)) tries in
        let some = and_parts (not (must_draw s.stage s.agent) && is_none (own_class s.agent.known call))
        (is_none (awaited_by s.agent call)) most.0 in
        let own = and_parts (not (must_draw s.stage s.agent)) (is_none (own_class s.agent.known call)) some.0 in
        record {
          own = none_is (own_class s.agent.known call) own.1;
          begun = λ begun. absurd (cc (e, begun));
          entry = most.1;
          closed = closed;
        }

pub ready_next : (s : RankState) (call : Call) (board : BoardState) (face : Face) → IsNextEntry s call →
    next_call s.stage s.agent ≡ Some call → s.agent.at < 65536 → IsWrittenCall call → IsBoardOf s board face →
    300 ≤ s.free → IsReady s call board face
ready_next s call board face next here within written board_is free = record {
  here = here;
  own = next.own;
  closed = next.closed;
  within = within;
  written = written;
  board_is = board_is;
  free = omega arith;
}
