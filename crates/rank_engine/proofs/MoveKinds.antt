-- What a move of a rank adds to its log and to its pending accesses, and what it leaves of the updates ahead.
use Rattle.std.proofs.Common.{◌≡◌, ℕ, zero, suc, ◌+◌, ◌-◌, ◌≤◌, ◌⊎◌, inl, inr, Bool, true, false, cond, List, [], ◌∷◌}
use Rattle.std.proofs.Common.{◌++◌, length, drop, Option, Some, None, refl, sym, ◌∙◌, ap, subst, arith, length-append}
use Rattle.std.specs.Prelude.{map, nat_lt, slice_get}
use Rattle.std.specs.List.{sum_by}
use Rattle.std.specs.Option.{option_map_or}
use Rattle.std.proofs.lemmas.List.{append-nil}
use Rattle.std.proofs.lemmas.List.Sums.{sum_by-cons}
use Rattle.rma_types.specs.declared.accesses.Access.{Access}
use Rattle.rma_types.specs.declared.calls.Call.{Call}
use Rattle.rma_types.specs.declared.classes.Class.{Class}
use Rattle.rma_types.specs.declared.scripts.Layout.{Layout}
use Rattle.rma_record.specs.declared.items.Item.{Item}
use Rattle.rma_record.specs.declared.items.Item.TheVariants.{Issue, Null, Flush, Request, Refused, Ended}
use Rattle.rma_types.specs.declared.actions.Transfer.{Transfer}
use Rattle.rma_types.specs.Actions.{transfer_of}
use Rattle.lawful_runs.specs.Stages.{Stage, calls_at}
use Rattle.rank_rules.specs.Courses.{Course, OneNull, OneIssue, LookUpAndIssue, OneFlush, OneRequest, ArriveAndLeave}
use Rattle.rank_rules.specs.Courses.{EntryOrTested, OneEntry, access_of, course_of}
use Rattle.rank_rules.specs.Knowledge.{own_class}
use Rattle.rank_rules.specs.Pending.{made_pending}
use Rattle.rank_rules.specs.declared.pending.PendingAccess.{PendingAccess}
use Rattle.step_runs.specs.Agents.{Agent, awaited_by, has_pending, keep_item, must_draw, next_call}
use Rattle.step_runs.specs.DataSteps.{Move, begin, draw, end, first_item, go_on, issue, issue_of, judge}
use Rattle.step_runs.specs.DataSteps.{just_delivers, move_of, no_shapes, wait_or_go_on, with_item, without_delivery}
use Rattle.rank_engine.proofs.MovesMade.{nothing_touched}
use Rattle.rank_engine.specs.RankStates.{RankState, moves_to, own_move}
use Rattle.rank_engine.specs.Shares.{updates_ahead, updates_by, updates_left, updates_of}
use Rattle.rank_engine.specs.Sound.{ArePending, IsSound}

-- nothing but at most one item is added
pub record Stays (agent next : Agent) : Type 0 where
  pub rank : next.rank ≡ agent.rank
  pub at : next.at ≡ agent.at
  pub pending : next.pending ≡ agent.pending
  pub few : length next.log ≤ length agent.log + 1

-- a call has all its items, and its access is pending, if it made one
pub record Finishes (stage : Stage) (agent : Agent) (move : Move) : Type 0 where
  pub rank : move.agent.rank ≡ agent.rank
  pub call : Call
  pub here : next_call stage agent ≡ Some call
  pub at : move.agent.at ≡ agent.at + 1
  pub made : List PendingAccess
  pub pending : move.agent.pending ≡ agent.pending ++ made
  pub due : updates_left (calls_at stage agent.rank) made (map (λ (_ : PendingAccess). 0) made) ≤ updates_of call
  pub few : length move.agent.log ≤ length agent.log + 1

abbrev pub IsKind : Stage → Agent → Move → Type 0
IsKind stage agent move = Stays agent move.agent ⊎ Finishes stage agent move

longer : (log : List Item) (item : Item) → length (log ++ item ∷ []) ≤ length log + 1
longer log item = let long = length-append log (item ∷ []) in omega arith

same : (agent next : Agent) → next.rank ≡ agent.rank → next.at ≡ agent.at → next.pending ≡ agent.pending →
    next.log ≡ agent.log → Stays agent next
same agent next rank at pending log = record {
  rank = rank;
  at = at;
  pending = pending;
  few = subst (λ (l : List Item). length l ≤ length agent.log + 1) (sym log) (omega arith);
}

with_item_kind : (stage : Stage) (agent : Agent) (call : Call) (item : Item) → next_call stage agent ≡ Some call →
    IsKind stage agent (without_delivery (with_item stage agent item))
with_item_kind stage agent call item here = inr (record {
  rank = refl;
  call = call;
  here = here;
  at = refl;
  made = [];
  pending = sym (append-nil agent.pending);
  due = omega arith;
  few = longer agent.log item;
})

issue_kind : (stage : Stage) (agent : Agent) (call : Call) → next_call stage agent ≡ Some call →
    IsKind stage agent (issue stage agent call)
issue_kind stage agent call here = by_transfer (transfer_of call)
  where
    issued : (t : Transfer) (access : Access) → IsKind stage agent (issue_of stage agent t access)
    issued t access = inr (record {
      rank = refl;
      call = call;
      here = here;
      at = refl;
      made = made_pending one;
      pending = refl;
      due = by_bytes (nat_lt 0 access.len);
      few = longer agent.log (Issue agent.at access);
    })
      where
        one : PendingAccess
        one = record { index = length agent.log; number = agent.at; access = access; fetches = t.fetches }

        by_bytes : (b : Bool) → updates_left (calls_at stage agent.rank) (cond b (one ∷ []) [])
            (map (λ (_ : PendingAccess). 0) (cond b (one ∷ []) [])) ≤ updates_of call
        by_bytes true =
            let due : updates_by (calls_at stage agent.rank) one ≡ updates_of call =
            ap (λ o. option_map_or updates_of o 0) here in omega arith
        by_bytes false = omega arith

    by_access : (t : Transfer) (o : Option Access) →
        IsKind stage agent (option_map_or (issue_of stage agent t) o (without_delivery agent))
    by_access t None = inl (same agent agent refl refl refl refl)
    by_access t (Some access) = issued t access

    by_transfer : (o : Option Transfer) → IsKind stage agent (option_map_or
        (λ t. option_map_or (issue_of stage agent t) (access_of agent.known.windows call) (without_delivery agent)) o
        (without_delivery agent))
    by_transfer None = inl (same agent agent refl refl refl refl)
    by_transfer (Some t) = by_access t (access_of agent.known.windows call)

first_kind : (course : Course) (stage : Stage) (agent : Agent) (call : Call) → next_call stage agent ≡ Some call →
    IsKind stage agent (first_item course stage agent call)
first_kind OneNull stage agent call here = with_item_kind stage agent call (Null agent.at) here
first_kind OneIssue stage agent call here = issue_kind stage agent call here
first_kind LookUpAndIssue stage agent call here = inl (same agent agent refl refl refl refl)
first_kind OneFlush stage agent call here = with_item_kind stage agent call (Flush agent.at) here
first_kind OneRequest stage agent call here = with_item_kind stage agent call (Request agent.at) here
first_kind ArriveAndLeave stage agent call here = inl (same agent agent refl refl refl refl)
first_kind EntryOrTested stage agent call here = inl (same agent agent refl refl refl refl)
first_kind OneEntry stage agent call here = inl (same agent agent refl refl refl refl)

begin_kind : (stage : Stage) (agent : Agent) (call : Call) → next_call stage agent ≡ Some call →
    IsKind stage agent (begin stage agent call)
begin_kind stage agent call here = by_draw (must_draw stage agent)
  where
    by_wait : (o : Option ℕ) → IsKind stage agent (wait_or_go_on o stage agent call)
    by_wait None = first_kind (course_of agent.known.windows call) stage agent call here
    by_wait (Some at) = inl (same agent agent refl refl refl refl)

    by_class : (o : Option Class) → IsKind stage agent (judge o stage agent call)
    by_class None = by_wait (awaited_by agent call)
    by_class (Some class) = with_item_kind stage agent call (Refused agent.at class 0) here

    by_draw : (b : Bool) → IsKind stage agent
        (cond b (draw agent) (judge (own_class agent.known call) stage agent call))
    by_draw true = inl (same agent (draw agent).agent refl refl refl refl)
    by_draw false = by_class (own_class agent.known call)

end_kind : (stage : Stage) (agent : Agent) → IsKind stage agent (end stage agent)
end_kind stage agent = by_pending (has_pending agent)
  where
    over : Agent
    over = record (keep_item no_shapes stage agent Ended) { ended = true }

    by_ended : (b : Bool) → IsKind stage agent (cond b (without_delivery agent) (without_delivery over))
    by_ended true = inl (same agent agent refl refl refl refl)
    by_ended false = inl (record { rank = refl; at = refl; pending = refl; few = longer agent.log Ended })

    by_pending : (b : Bool) → IsKind stage agent (cond b (just_delivers agent 0)
        (cond agent.ended (without_delivery agent) (without_delivery over)))
    by_pending true = inl (same agent agent refl refl refl refl)
    by_pending false = by_ended agent.ended

move_kind : (stage : Stage) (agent : Agent) → IsKind stage agent (move_of stage agent)
move_kind stage agent = by_call (next_call stage agent) refl
  where
    by_entered : (call : Call) → next_call stage agent ≡ Some call → (b : Bool) →
        IsKind stage agent (cond b (issue stage agent call) (begin stage agent call))
    by_entered call here true = issue_kind stage agent call here
    by_entered call here false = begin_kind stage agent call here

    by_call : (o : Option Call) → next_call stage agent ≡ o →
        IsKind stage agent (option_map_or (go_on stage agent) o (end stage agent))
    by_call None e = end_kind stage agent
    by_call (Some call) e = by_entered call e agent.entered

pub own_kind : (s : RankState) → IsKind s.stage s.agent (own_move s)
own_kind s = by_opened s.opened
  where
    by_opened : (o : Option ℕ) → IsKind s.stage s.agent
        (option_map_or (just_delivers s.agent) o (move_of s.stage s.agent))
    by_opened None = move_kind s.stage s.agent
    by_opened (Some at) = inl (same s.agent s.agent refl refl refl refl)

pub kind_few : (stage : Stage) (agent : Agent) (move : Move) → IsKind stage agent move →
    length move.agent.log ≤ length agent.log + 1
kind_few stage agent move (inl stays) = stays.few
kind_few stage agent move (inr finishes) = finishes.few

-- ---- updates ahead

drop_one : (calls : List Call) (at : ℕ) (call : Call) → slice_get calls at ≡ Some call →
    sum_by updates_of (drop at calls) ≡ updates_of call + sum_by updates_of (drop (suc at) calls)
drop_one [] at call here = absurd (cc here)
drop_one (one ∷ calls) zero call here =
    let is : one ≡ call = cc here in
    sum_by-cons updates_of one calls ∙ ap (λ (c : Call). updates_of c + sum_by updates_of calls) is
drop_one (one ∷ calls) (suc at) call here = drop_one calls at call here

left_append : (layout : Layout) (calls : List Call) (pending made : List PendingAccess) (touched more : List ℕ) →
    ArePending layout calls pending touched →
    updates_left calls (pending ++ made) (touched ++ more) ≡
    updates_left calls pending touched + updates_left calls made more
left_append layout calls [] made [] more h = omega arith
left_append layout calls [] made (count ∷ touched) more h = absurd h
left_append layout calls (one ∷ pending) made [] more h = absurd h
left_append layout calls (one ∷ pending) made (count ∷ touched) more h =
    let rest = left_append layout calls pending made touched more h.1 in omega arith

drop_all : (xs ys : List PendingAccess) → drop (length xs) (xs ++ ys) ≡ ys
drop_all [] ys = refl
drop_all (x ∷ xs) ys = drop_all xs ys

abbrev ahead_by : Stage → ℕ → ℕ → List PendingAccess → List ℕ → ℕ
ahead_by stage rank at pending touched =
    let calls = calls_at stage rank in
    sum_by updates_of (drop at calls) + updates_left calls pending touched

ahead_is : (s : RankState) (move : Move) (at : ℕ) (pending : List PendingAccess) → move.agent.rank ≡ s.agent.rank →
    move.agent.at ≡ at → move.agent.pending ≡ pending →
    updates_ahead (moves_to s move) ≡ ahead_by s.stage s.agent.rank at pending
    (s.touched ++ map (λ (_ : PendingAccess). 0) (drop (length s.agent.pending) pending))
ahead_is s move at pending rank e p =
    ap (λ r. ahead_by s.stage r move.agent.at move.agent.pending
    (s.touched ++ map (λ (_ : PendingAccess). 0) (drop (length s.agent.pending) move.agent.pending))) rank
    ∙ (ap (λ a. ahead_by s.stage s.agent.rank a move.agent.pending
    (s.touched ++ map (λ (_ : PendingAccess). 0) (drop (length s.agent.pending) move.agent.pending))) e
    ∙ ap (λ l. ahead_by s.stage s.agent.rank at l
    (s.touched ++ map (λ (_ : PendingAccess). 0) (drop (length s.agent.pending) l))) p)

-- a move raises none
pub move_ahead : (s : RankState) (move : Move) → IsSound s → IsKind s.stage s.agent move →
    updates_ahead (moves_to s move) ≤ updates_ahead s
move_ahead s move sound (inl stays) =
    let is : updates_ahead (moves_to s move) ≡ updates_ahead s =
    ahead_is s move s.agent.at s.agent.pending stays.rank stays.at stays.pending
    ∙ ap (ahead_by s.stage s.agent.rank s.agent.at s.agent.pending) (nothing_touched s.touched s.agent.pending) in
    omega arith
move_ahead s move sound (inr finishes) =
    let calls : List Call = calls_at s.stage s.agent.rank in
    let made : List PendingAccess = finishes.made in
    let left : ℕ = updates_left calls s.agent.pending s.touched in
    let due : ℕ = updates_left calls made (map (λ (_ : PendingAccess). 0) made) in
    let later : ℕ = sum_by updates_of (drop (s.agent.at + 1) calls) in
    let parts : updates_left calls (s.agent.pending ++ made) (s.touched ++ map (λ (_ : PendingAccess). 0) made) ≡ left +
    due =
    left_append s.stage.layout calls s.agent.pending made s.touched (map (λ (_ : PendingAccess). 0) made)
    sound.queue.each
    in
    let is : updates_ahead (moves_to s move) ≡ later + (left + due) =
    ahead_is s move (s.agent.at + 1) (s.agent.pending ++ made) finishes.rank finishes.at finishes.pending
    ∙ (ap (λ l. ahead_by s.stage s.agent.rank (s.agent.at + 1) (s.agent.pending ++ made)
    (s.touched ++ map (λ (_ : PendingAccess). 0) l)) (drop_all s.agent.pending made)
    ∙ ap (λ n. later + n) parts) in
    let next : suc s.agent.at ≡ s.agent.at + 1 = omega arith in
    let first : sum_by updates_of (drop s.agent.at calls) ≡ updates_of finishes.call + later =
    drop_one calls s.agent.at finishes.call finishes.here
    ∙ ap (λ n. updates_of finishes.call + sum_by updates_of (drop n calls)) next in
    less (updates_ahead (moves_to s move)) later left due (updates_of finishes.call)
    (sum_by updates_of (drop s.agent.at calls)) is finishes.due first
  where
    less : (all later left due own now : ℕ) → all ≡ later + (left + due) → due ≤ own → now ≡ own + later →
        all ≤ now + left
    less all later left due own now e h k = omega arith
