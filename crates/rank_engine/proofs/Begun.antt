-- What a rank does in a step: where a call begins, where one was looked up, and where a delivery is begun.
use Rattle.std.proofs.Common.{◌≡◌, ℕ, zero, suc, ◌<◌, true, false, cond, not, length, Option, Some, None, refl, sym}
use Rattle.std.proofs.Common.{◌∙◌, ap, subst, arith}
use Rattle.std.specs.Prelude.{◌==◌, ◌&&◌, IfSome, is_none, is_some}
use Rattle.std.proofs.lemmas.Bool.{and_parts, ne_eqb}
use Rattle.std.specs.Option.{option_map_or, unwrap_or}
use Rattle.rma_types.specs.declared.calls.Call.{Call}
use Rattle.rma_types.specs.declared.actions.Transfer.{Transfer}
use Rattle.rma_types.specs.Actions.{transfer_of}
use Rattle.rank_rules.specs.Courses.{LookUpAndIssue, course_of}
use Rattle.rank_rules.specs.Knowledge.{own_class}
use Rattle.step_runs.specs.Agents.{awaited_by, begins_with_entry, has_pending, must_draw, next_call}
use Rattle.step_runs.specs.DataSteps.{begin, draw, judge, just_delivers, move_of, wait_or_go_on}
use Rattle.rank_engine.proofs.MovesMade.{awaited_first, names_one}
use Rattle.rank_engine.specs.DataAnswers.{is_over}
use Rattle.rank_engine.specs.Moves.{IsFirst, IsMove}
use Rattle.rank_engine.specs.RankStates.{RankState, needs_entry, own_move}
use Rattle.rank_engine.specs.Sound.{IsBegun, IsSound}

pub waits_first : (s : RankState) (call : Call) (at : ℕ) → Some at ≡ awaited_by s.agent call →
    at < length s.agent.pending → IsFirst s.agent.pending at
waits_first s call at waits within =
    (within, awaited_first s.agent.known.requests call s.agent.pending at waits)

-- a call that begins waits for an access
pub begin_waits : (s : RankState) (call : Call) (at : ℕ) → must_draw s.stage s.agent ≡ false →
    own_class s.agent.known call ≡ None → Some at ≡ awaited_by s.agent call → at < length s.agent.pending →
    IsMove s (record s { opened = Some at }) (begin s.stage s.agent call)
begin_waits s call at draws own waits within =
    subst (IsMove s (record s { opened = Some at })) (sym is)
    (names_one s at (waits_first s call at waits within))
  where
    is : begin s.stage s.agent call ≡ just_delivers s.agent at
    is =
        ap (λ b. cond b (draw s.agent) (judge (own_class s.agent.known call) s.stage s.agent call)) draws
        ∙ (ap (λ o. judge o s.stage s.agent call) own
        ∙ ap (λ o. wait_or_go_on o s.stage s.agent call) (sym waits))

-- a delivery that is begun goes on
pub goes_on : (s : RankState) → IsSound s → is_some s.opened ≡ true → IsMove s s (own_move s)
goes_on s sound begun = by_opened s.opened refl begun
  where
    by_opened : (o : Option ℕ) → s.opened ≡ o → is_some o ≡ true → IsMove s s (own_move s)
    by_opened None e h = absurd (cc h)
    by_opened (Some at) e h =
        subst (IsMove s s) (sym (ap (λ o. option_map_or (just_delivers s.agent) o (move_of s.stage s.agent)) e))
        (subst (λ (x : RankState). IsMove s x (just_delivers s.agent at)) (ap (λ o. record s { opened = o }) (sym e))
        (names_one s at (subst (λ o. IfSome o (IsFirst s.agent.pending)) e sound.queue.first)))

-- where something is pending, a drain delivers an access that gives way to none
pub drained_first : (s : RankState) → IsSound s → 0 < length s.agent.pending →
    IsFirst s.agent.pending (unwrap_or s.opened 0) × IfSome s.opened (λ place. place ≡ unwrap_or s.opened 0)
drained_first s sound some = by_opened s.opened sound.queue.first
  where
    by_opened : (o : Option ℕ) → IfSome o (IsFirst s.agent.pending) →
        IsFirst s.agent.pending (unwrap_or o 0) × IfSome o (λ place. place ≡ unwrap_or o 0)
    by_opened None first = ((some, refl), tt)
    by_opened (Some at) first = (first, refl)

-- where calls are at their end and not all is over, something is pending
pub first_pending : (s : RankState) → next_call s.stage s.agent ≡ None → is_over s ≡ false →
    IsFirst s.agent.pending 0
first_pending s none left = (
  some (length s.agent.pending) (ap (λ o. is_none o && not (has_pending s.agent)) (sym none)
      ∙ left),
  refl,
)
  where
    some : (n : ℕ) → not (not (n == 0)) ≡ false → 0 < n
    some zero h = absurd (cc h)
    some (suc n) h = omega arith

-- where all is over, no delivery is begun
pub over_closed : (s : RankState) → IsSound s → is_over s ≡ true → s.opened ≡ None
over_closed s sound over = by_opened s.opened sound.queue.first
  where
    none : not (not (length s.agent.pending == 0)) ≡ true
    none = (and_parts (is_none (next_call s.stage s.agent)) (not (has_pending s.agent)) over).1

    empty : (n : ℕ) → not (not (n == 0)) ≡ true → n ≡ 0
    empty zero h = refl
    empty (suc n) h =
        let some : not (not (suc n == 0)) ≡ false =
        ap (λ b. not (not b)) (ne_eqb (suc n) 0 (λ e. absurd (cc e))) in absurd (cc (h, some))

    by_opened : (o : Option ℕ) → IfSome o (IsFirst s.agent.pending) → o ≡ None
    by_opened None first = refl
    by_opened (Some at) first =
        let all = empty (length s.agent.pending) none in let within = first.0 in absurd (omega arith)

-- a call whose first entry is put, and that tries no entry now, was looked up
pub begun_looks_up : (s : RankState) (call : Call) → IsSound s → s.agent.entered ≡ true →
    next_call s.stage s.agent ≡ Some call → s.opened ≡ None → needs_entry s ≡ false →
    course_of s.agent.known.windows call ≡ LookUpAndIssue
begun_looks_up s call sound entered here closed needs =
    let tries = ap (λ o. is_none o && option_map_or
    (λ (x : Call). cond s.agent.entered (is_none (transfer_of x)) (begins_with_entry s.stage s.agent x))
    (next_call s.stage s.agent) false) (sym closed) ∙ needs in
    let of_call = ap (λ o. option_map_or
    (λ (x : Call). cond s.agent.entered (is_none (transfer_of x)) (begins_with_entry s.stage s.agent x)) o false)
    (sym here) ∙ tries in
    let none : is_none (transfer_of call) ≡ false =
    ap (λ b. cond b (is_none (transfer_of call)) (begins_with_entry s.stage s.agent call)) (sym entered) ∙ of_call in
    let begun : IsBegun s.stage.layout s.agent.known call =
    subst (λ (o : Option Call). IfSome o (IsBegun s.stage.layout s.agent.known)) here (sound.begun entered) in
    begun.looks_up (some (transfer_of call) none)
  where
    some : (o : Option Transfer) → is_none o ≡ false → is_some o ≡ true
    some None e = absurd (cc e)
    some (Some t) e = refl
