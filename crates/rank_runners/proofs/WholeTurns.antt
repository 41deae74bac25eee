-- A turn is the definition's, and which ranks have ended is known after it.
use Rattle.std.proofs.Common.{◌≡◌, ℕ, ◌<◌, inl, inr, Bool, true, false, cond, List, [], ◌∷◌, length, get_or, set, refl}
use Rattle.std.proofs.Common.{sym, ap, ◌∙◌, subst, arith}
use Rattle.std.specs.Prelude.{◌==◌, ◌||◌, ◌&&◌, is_none, if◌then◌else◌}
use Rattle.std.proofs.lemmas.Bool.{cases_eq, eq-eqb, ne_eqb}
use Rattle.std.proofs.lemmas.List.{get_or-set_same, get_or-set_other, length-set, get_or_default}
use Rattle.lawful_runs.specs.Stages.{Stage}
use Rattle.rank_engine.specs.RankStates.{RankState, needs_entry}
use Rattle.rank_runners.specs.Marks.{IsKept}
use Rattle.rank_runners.specs.RankSets.{has}
use Rattle.rank_runners.specs.Runs.{no_state, state_at, IsWorld, IsRun, HasTurn, IsReady, IsOneTurn, GoesOn, at_board}
use Rattle.rank_runners.specs.Runs.{on_memory, turn_of}
use Rattle.rank_runners.specs.declared.rank_sets.RankSet.{RankSet}
use Rattle.rank_runners.specs.declared.runners.Runner.{Runner}
use Rattle.rank_runners.proofs.Turned.{same_agent}
use Rattle.step_runs.specs.Agents.{tries_entry}
use Rattle.step_runs.specs.StepRun.{World, agent_at, turn}

-- the code asks what the definition asks
asks_the_same : (stage : Stage) (before : Runner) (world : World) (rank : ℕ) (flag : Bool)
    → IsRun stage before world → rank < length before.agents.items
    → needs_entry (state_at stage before.agents.items rank) ≡ flag
    → tries_entry stage (agent_at stage world rank) ≡ flag
asks_the_same stage before world rank flag run h e =
    let w = run.in_world in
    let count = w.count in
    let here = w.ranks rank (omega arith) in
    let state = state_at stage before.agents.items rank in
    let plain : needs_entry state ≡ tries_entry state.stage state.agent = ap
    (λ o. is_none o && tries_entry state.stage state.agent) here.between.closed in
    sym (plain ∙ ap (λ one. tries_entry one state.agent) here.same_stage
    ∙ ap (tries_entry stage) (same_agent stage before.agents.items world rank h w.agents)) ∙ e

turn_by : (stage : Stage) (world : World) (rank : ℕ) (flag : Bool)
    → tries_entry stage (agent_at stage world rank) ≡ flag
    → turn stage world rank ≡ cond flag (at_board rank stage world) (on_memory rank stage world)
turn_by stage world rank flag e = ap (λ b. cond b (at_board rank stage world) (on_memory rank stage world)) e

-- a turn at the board is the definition's turn
pub turned_at_board : (before after : Runner) (rank : ℕ) → HasTurn before rank true
    → IsOneTurn before after rank (at_board rank) → IsOneTurn before after rank (turn_of rank)
turned_at_board before after rank t one = record {
  state = one.state;
  changed = one.changed;
  same_ended = one.same_ended;
  goes_on = λ stage world run.
      let is = turn_by stage world rank true
      (asks_the_same stage before world rank true run t.within (t.needs (no_state stage rank))) in
      subst (λ (next : World). IsWorld stage after.agents.items after.board after.memory next
      × IsKept after.turns next.schedule × (after.turns.last < stage.script.ranks))
      (sym is) (one.goes_on stage world run);
}

pub turned_on_memory : (before after : Runner) (rank : ℕ) → HasTurn before rank false
    → IsOneTurn before after rank (on_memory rank) → IsOneTurn before after rank (turn_of rank)
turned_on_memory before after rank t one = record {
  state = one.state;
  changed = one.changed;
  same_ended = one.same_ended;
  goes_on = λ stage world run.
      let is = turn_by stage world rank false
      (asks_the_same stage before world rank false run t.within (t.needs (no_state stage rank))) in
      subst (λ (next : World). IsWorld stage after.agents.items after.board after.memory next
      × IsKept after.turns next.schedule × (after.turns.last < stage.script.ranks))
      (sym is) (one.goes_on stage world run);
}

-- the rank's next step is as the code found it
pub has_turn : (before : Runner) (rank at : ℕ) (state : RankState) (flag : Bool) → IsReady before rank → at ≡ rank
    → state ≡ get_or before.agents.items at state
    → needs_entry state ≡ flag → HasTurn before rank flag
has_turn before rank at state flag r a e n = record {
  some = r.some;
  within = r.within;
  needs = λ other.
      let same : get_or before.agents.items rank other ≡ state =
      get_or_default before.agents.items rank other state r.within
      ∙ ap (λ k. get_or before.agents.items k state) (sym a) ∙ sym e in
      ap needs_entry same ∙ n;
}

pub ready_few : (before : Runner) (rank : ℕ) → IsReady before rank → rank < 16
ready_few before rank r = let run = r.some.2 in let few = run.few in let count = run.in_world.count in let within =
    r.within in omega arith

-- which ranks have ended, after the turn of one
over_after : (stage : Stage) (states : List RankState) (rank other : ℕ) (state : RankState) (flag : Bool)
    (before after : RankSet)
    → rank < length states → has before rank ≡ false → flag ≡ state.agent.ended
    → ((one : ℕ) → has after one ≡ (if flag then rank == one || has before one else has before one))
    → has before other ≡ (state_at stage states other).agent.ended
    → has after other ≡ (state_at stage (set states rank state) other).agent.ended
over_after stage states rank other state flag before after h standing f all was = elim (cases_eq other rank) [
  | inl same ↦
      let e : state_at stage (set states rank state) other ≡ state =
      ap (λ k. get_or (set states rank state) k (no_state stage other)) same
      ∙ get_or-set_same states rank state (no_state stage other) h in
      all other ∙ by flag (ap (has before) same ∙ standing) (eq-eqb rank other (sym same)) ∙ f
      ∙ ap (λ (one : RankState). one.agent.ended) (sym e)
  | inr apart ↦
      let e = get_or-set_other states rank other state (no_state stage other) apart in
      all other ∙ kept flag (ne_eqb rank other (λ s. apart (sym s))) ∙ was
      ∙ ap (λ (one : RankState). one.agent.ended) (sym e)
]
  where
    by : (b : Bool) → has before other ≡ false → (rank == other) ≡ true
        → (if b then rank == other || has before other else has before other) ≡ b
    by true n y = ap (λ one. one || has before other) y
    by false n y = n

    kept : (b : Bool) → (rank == other) ≡ false
        → (if b then rank == other || has before other else has before other) ≡ has before other
    kept true n = ap (λ one. one || has before other) n
    kept false n = refl

pub whole_turn : (before middle after : Runner) (rank at : ℕ) (state : RankState) (flag : Bool)
    → IsReady before rank → IsOneTurn before middle rank (turn_of rank)
    → after ≡ record middle { ended = after.ended } → at ≡ rank → state ≡ get_or middle.agents.items at state
    → flag ≡ state.agent.ended
    → ((one : ℕ) → has after.ended one ≡ (if flag then rank == one || has middle.ended one else has middle.ended one))
    → GoesOn before after (turn_of rank)
whole_turn before middle after rank at state flag r one same a e f all stage world run =
    let goes = one.goes_on stage world run in
    let now : IsRun stage (record middle { ended = after.ended }) (turn_of rank stage world) = record {
      few = run.few;
      in_world = goes.0;
      kept = goes.1;
      last = goes.2;
      over = λ other l.
          let there : length middle.agents.items ≡ length before.agents.items = ap length one.changed
          ∙ length-set before.agents.items rank one.state in
          let within = r.within in
          let mine : state ≡ one.state =
          e ∙ ap (λ k. get_or middle.agents.items k state) a
          ∙ ap (λ (xs : List RankState). get_or xs rank state) one.changed
          ∙ get_or-set_same before.agents.items rank one.state state r.within in
          let fine : flag ≡ one.state.agent.ended = f ∙ ap (λ (s : RankState). s.agent.ended) mine in
          let marks : (k : ℕ) → has after.ended k
          ≡ (if flag then rank == k || has before.ended k else has before.ended k) =
          λ k. all k ∙ ap (λ (set : RankSet). if flag then rank == k || has set k else has set k) one.same_ended in
          over_after stage before.agents.items rank other one.state flag before.ended after.ended r.within r.standing
          fine marks (run.over other l)
          ∙ ap (λ (xs : List RankState). (state_at stage xs other).agent.ended) (sym one.changed);
    } in
    subst (λ (runner : Runner). IsRun stage runner (turn_of rank stage world)) (sym same) now
