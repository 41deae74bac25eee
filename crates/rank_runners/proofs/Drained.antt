-- All pending accesses are delivered as the definition delivers them.
use Rattle.std.proofs.Common.{◌≡◌, ℕ, suc, ◌+◌, ◌-◌, ◌<◌, ◌≤◌, Bool, true, false, cond, List, [], ◌∷◌, length, get_or}
use Rattle.std.proofs.Common.{set, refl, sym, ap, ◌∙◌, subst, arith}
use Rattle.std.specs.Prelude.{not, ◌==◌, sum_by}
use Rattle.std.specs.List.{fold}
use Rattle.std.proofs.lemmas.Bool.{ne_eqb}
use Rattle.std.proofs.lemmas.List.Sums.{sum_by-set}
use Rattle.std.proofs.lemmas.List.{length-set, length-map, set-set, set-get_or, get_or-set_same}
use Rattle.call_rules.specs.Pieces.{numbers_from}
use Rattle.step_runs.proofs.DataStepLaws.{first_delivered}
use Rattle.cell_face.specs.PlainCells.{PlainCells, plain_face}
use Rattle.lawful_runs.specs.Stages.{Stage}
use Rattle.rank_engine.specs.DataAnswers.{HasRoom}
use Rattle.rank_engine.specs.RankStates.{RankState, IsBetween}
use Rattle.rank_rules.specs.declared.pending.PendingAccess.{PendingAccess}
use Rattle.rank_runners.specs.Runs.{state_at, IsWorld, IsInWorld, LeadsOn}
use Rattle.rank_runners.specs.Steps.{IsMade, IsDelivery}
use Rattle.rank_runners.specs.declared.runners.Runner.{Runner}
use Rattle.rank_runners.proofs.Onward.{PutsNone, delivery_puts_none, delivery_keeps_cells}
use Rattle.rank_runners.proofs.Turned.{same_agent, data_turned}
use Rattle.rank_runners.proofs.TurnSteps.{here_is, room_in, rank_in}
use Rattle.step_runs.specs.Agents.{Agent, new_agent, has_pending}
use Rattle.step_runs.specs.DataSteps.{OnMemory, deliver}
use Rattle.step_runs.specs.StepRun.{World, agent_at, deliver_each, drain_rank, drain, turn_on_memory}

-- what is left of a rank's deliveries
pub record Delivers (stage : Stage) (world : World) (rank : ℕ) (more : Bool) (runner : Runner) : Type 0 where
  pub now : OnMemory
  pub in_world : IsWorld stage runner.agents.items runner.board runner.memory (turn_on_memory world rank now)
  pub left : deliver_each stage now.agent.pending now
      ≡ deliver_each stage (agent_at stage world rank).pending
      (record { agent = agent_at stage world rank; cells = world.cells })
  pub over : more ≡ false → now.agent.pending ≡ []

-- before the first delivery
pub begins : (stage : Stage) (world : World) (rank : ℕ) (runner : Runner)
    → IsWorld stage runner.agents.items runner.board runner.memory world
    → Delivers stage world rank true runner
begins stage world rank runner w =
    let same : set world.agents rank (agent_at stage world rank)
    ≡ world.agents = set-get_or world.agents rank (new_agent stage 0 rank) in
    let is : world ≡ turn_on_memory world rank (record { agent = agent_at stage world rank; cells = world.cells }) =
    ap (λ (agents : List Agent). record world { agents = agents }) (sym same) in
    record {
      now = record { agent = agent_at stage world rank; cells = world.cells };
      in_world = subst (λ one. IsWorld stage runner.agents.items runner.board runner.memory one) is w;
      left = refl;
      over = λ e. cc;
    }

has_some : (pending : List PendingAccess) → not (length pending == 0) ≡ true
    → (one : PendingAccess) × (rest : List PendingAccess) × (pending ≡ one ∷ rest)
has_some [] e = cc
has_some (one ∷ rest) e = (one, rest, refl)

has_none : (pending : List PendingAccess) → not (length pending == 0) ≡ false → pending ≡ []
has_none [] e = refl
has_none (one ∷ rest) e = let n : (length (one ∷ rest) == 0)
    ≡ false = ne_eqb (length (one ∷ rest)) 0 (λ s. omega arith) in cc

agent_now : (stage : Stage) (world : World) (rank : ℕ) (now : OnMemory) → rank < length world.agents
    → agent_at stage (turn_on_memory world rank now) rank ≡ now.agent
agent_now stage world rank now h = get_or-set_same world.agents rank now.agent (new_agent stage 0 rank) h

-- one delivery
pub delivers_on : (stage : Stage) (world : World) (rank at : ℕ) (before : Runner) (state after : RankState)
    (memory_after : PlainCells)
    → rank < length before.agents.items → at ≡ rank → state ≡ get_or before.agents.items at state
    → IsDelivery true state after before.memory memory_after → Delivers stage world rank true before
    → (agents_after : Runner) → agents_after.agents.items ≡ set before.agents.items at after
    → agents_after.board ≡ before.board
    → agents_after.memory ≡ memory_after → Delivers stage world rank true agents_after
delivers_on stage world rank at before state after memory_after h a e d left next items board memory =
    let w = left.in_world in
    let count = w.count in
    let within : rank < stage.script.ranks = omega arith in
    let sizes : length world.agents ≡ length before.agents.items =
    sym (length-set world.agents rank left.now.agent) ∙ ap length (sym w.agents)
    ∙ length-map before.agents.items (λ (one : RankState). one.agent) in
    let is : state ≡ state_at stage before.agents.items rank = here_is stage before.agents.items rank at state h a e in
    let one = state_at stage before.agents.items rank in
    let mine : one.agent ≡ left.now.agent =
    same_agent stage before.agents.items (turn_on_memory world rank left.now) rank h w.agents
    ∙ agent_now stage world rank left.now (omega arith) in
    let here = w.ranks rank within in
    let own : IsDelivery true one after before.memory memory_after = subst
    (λ s. IsDelivery true s after before.memory memory_after) is d in
    let step = deliver stage left.now.agent left.now.cells 0 in
    let made : IsMade step one after before.memory memory_after =
    subst (λ cells. IsMade (deliver stage left.now.agent cells 0) one after before.memory memory_after) w.cells
    (subst (λ g. IsMade (deliver stage g before.memory.cells 0) one after before.memory memory_after) mine
    (subst (λ s. IsMade (deliver s one.agent before.memory.cells 0) one after before.memory memory_after)
    here.same_stage own.1)) in
    let none : PutsNone stage.script one.agent step.agent =
    subst (λ g. PutsNone stage.script g step.agent) (sym mine)
    (delivery_puts_none stage left.now.agent left.now.cells 0) in
    let size : length step.cells ≡ length before.memory.cells = delivery_keeps_cells stage left.now.agent
    left.now.cells 0 ∙ ap length (sym w.cells) in
    let there = data_turned stage before.agents.items before.board before.memory memory_after
    (turn_on_memory world rank left.now) rank after step w within made none size in
    let twice : turn_on_memory (turn_on_memory world rank left.now) rank step ≡ turn_on_memory world rank step =
    ap (λ (agents : List Agent). record world { agents = agents; cells = step.cells })
    (set-set world.agents rank left.now.agent step.agent) in
    let placed : set before.agents.items rank after
    ≡ next.agents.items = ap (λ k. set before.agents.items k after) (sym a) ∙ sym items in
    let some : has_pending left.now.agent ≡ true = ap has_pending (sym mine) ∙ own.0 in
    let parts = has_some left.now.agent.pending some in
    let rest : step.agent.pending ≡ parts.1 = first_delivered stage left.now.agent left.now.cells parts.0 parts.1
    parts.2 in
    record {
      now = step;
      in_world = subst (λ list. IsWorld stage list next.board next.memory (turn_on_memory world rank step)) placed
          (subst (λ b. IsWorld stage (set before.agents.items rank after) b next.memory
          (turn_on_memory world rank step)) (sym board)
          (subst (λ m. IsWorld stage (set before.agents.items rank after) before.board m
          (turn_on_memory world rank step)) (sym memory)
          (subst (λ one. IsWorld stage (set before.agents.items rank after) before.board memory_after one) twice
          there)));
      left = ap (λ (pending : List PendingAccess). deliver_each stage pending step) rest
          ∙ ap (λ (pending : List PendingAccess). deliver_each stage pending left.now) (sym parts.2) ∙ left.left;
      over = λ bad. cc;
    }

-- no access is left
pub delivers_none : (stage : Stage) (world : World) (rank at : ℕ) (before : Runner) (state after : RankState)
    (memory_after : PlainCells)
    → rank < length before.agents.items → at ≡ rank → state ≡ get_or before.agents.items at state
    → IsDelivery false state after before.memory memory_after → Delivers stage world rank true before
    → (next : Runner) → next.agents.items ≡ set before.agents.items at after → next.board ≡ before.board
    → next.memory ≡ memory_after → Delivers stage world rank false next
delivers_none stage world rank at before state after memory_after h a e d left next items board memory =
    let w = left.in_world in
    let count = w.count in
    let sizes : length world.agents ≡ length before.agents.items =
    sym (length-set world.agents rank left.now.agent) ∙ ap length (sym w.agents)
    ∙ length-map before.agents.items (λ (one : RankState). one.agent) in
    let is : state ≡ state_at stage before.agents.items rank = here_is stage before.agents.items rank at state h a e in
    let mine : (state_at stage before.agents.items rank).agent ≡ left.now.agent =
    same_agent stage before.agents.items (turn_on_memory world rank left.now) rank h w.agents
    ∙ agent_now stage world rank left.now (omega arith) in
    let still : next.agents.items ≡ before.agents.items =
    items ∙ ap (λ s. set before.agents.items at s) (d.1 ∙ e) ∙ set-get_or before.agents.items at state in
    let cells : next.memory.cells ≡ before.memory.cells = ap (λ (m : PlainCells). m.cells) memory ∙ d.2 in
    let share : next.memory.share ≡ before.memory.share = ap (λ (m : PlainCells). m.share) memory ∙ d.3 in
    let all = w.share in
    let there : IsWorld stage before.agents.items before.board next.memory
    (turn_on_memory world rank left.now) = record {
      count = w.count;
      agents = w.agents;
      ranks = w.ranks;
      of_run = w.of_run;
      rows = w.rows;
      cells = cells ∙ w.cells;
      all_cells = ap length cells ∙ w.all_cells;
      share = omega arith;
    } in
    record {
      now = left.now;
      in_world = subst (λ list. IsWorld stage list next.board next.memory (turn_on_memory world rank left.now))
          (sym still)
          (subst (λ b. IsWorld stage before.agents.items b next.memory (turn_on_memory world rank left.now))
          (sym board) there);
      left = left.left;
      over = λ _. has_none left.now.agent.pending (ap has_pending (sym mine)
          ∙ ap (λ (s : RankState). has_pending s.agent) (sym is) ∙ d.0);
    }

-- the rank's deliveries are over
pub rank_drained : (stage : Stage) (world : World) (rank : ℕ) (runner : Runner) → Delivers stage world rank false runner
    → IsWorld stage runner.agents.items runner.board runner.memory (drain_rank stage world rank)
rank_drained stage world rank runner d =
    let all = ap (λ (pending : List PendingAccess). deliver_each stage pending d.now) (sym (d.over refl)) ∙ d.left in
    subst (λ now. IsWorld stage runner.agents.items runner.board runner.memory
    (turn_on_memory world rank now)) all d.in_world

-- ---- the loop over a rank's deliveries

-- what is left of the deliveries, whatever the world was
abbrev pub Leaves : Runner → ℕ → Bool → Runner → Type 0
Leaves before rank more now = (stage : Stage) (world : World)
    → IsWorld stage before.agents.items before.board before.memory world →
    Delivers stage world rank more now

pub within_still : (before now : Runner) (rank : ℕ) (more : Bool) → IsInWorld before
    → rank < length before.agents.items → Leaves before rank more now
    → rank < length now.agents.items
within_still before now rank more some h l =
    let d = l some.0 some.1 some.2 in let a = d.in_world.count in let b = some.2.count in omega arith

pub room_still : (before now : Runner) (rank at : ℕ) (more : Bool) (state : RankState) → IsInWorld before
    → rank < length before.agents.items
    → Leaves before rank more now → at ≡ rank → state ≡ get_or now.agents.items at state
    → HasRoom state (plain_face now.memory)
room_still before now rank at more state some h l a e =
    let d = l some.0 some.1 some.2 in
    let within = within_still before now rank more some h l in
    let is = here_is some.0 now.agents.items rank at state within a e in
    room_in some.0 now (turn_on_memory some.1 rank d.now) rank state d.in_world within is
    (rank_in some.0 now (turn_on_memory some.1 rank d.now) rank state d.in_world within is)

pub between_still_here : (before now : Runner) (rank at : ℕ) (more : Bool) (state : RankState) → IsInWorld before
    → rank < length before.agents.items
    → Leaves before rank more now → at ≡ rank → state ≡ get_or now.agents.items at state → IsBetween state
between_still_here before now rank at more state some h l a e =
    let d = l some.0 some.1 some.2 in
    let within = within_still before now rank more some h l in
    let is = here_is some.0 now.agents.items rank at state within a e in
    let here = rank_in some.0 now (turn_on_memory some.1 rank d.now) rank state d.in_world within is in here.between

pub leaves_less : (before now next : Runner) (rank at : ℕ) (more : Bool) (state after : RankState)
    → IsInWorld before → rank < length before.agents.items
    → Leaves before rank true now → at ≡ rank → state ≡ get_or now.agents.items at state
    → IsDelivery more state after now.memory next.memory
    → next.agents.items ≡ set now.agents.items at after → next.board ≡ now.board → Leaves before rank more next
leaves_less before now next rank at true state after some h l a e d items board stage world w =
    delivers_on stage world rank at now state after next.memory (within_still before now rank true some h l) a e d
    (l stage world w) next items board refl
leaves_less before now next rank at false state after some h l a e d items board stage world w =
    delivers_none stage world rank at now state after next.memory (within_still before now rank true some h l) a e d
    (l stage world w) next items board refl

-- how many accesses are pending
abbrev pub pending_of : RankState → ℕ
pending_of state = length state.agent.pending

pub pending_falls : (more : Bool) (states : List RankState) (at : ℕ) (state after : RankState)
    (memory memory_after : PlainCells) → at < length states
    → state ≡ get_or states at state → IsDelivery more state after memory memory_after
    → sum_by pending_of (set states at after) + cond more 1 0 < sum_by pending_of states + 1
pending_falls true states at state after memory memory_after h e d =
    let sums = sum_by-set pending_of states at after state h in
    let mine : pending_of (get_or states at state) ≡ pending_of state = ap pending_of (sym e) in
    let parts = has_some state.agent.pending d.0 in
    let left : after.agent.pending ≡ parts.1 =
    ap (λ (agent : Agent). agent.pending) d.1.agent
    ∙ first_delivered state.stage state.agent memory.cells parts.0 parts.1 parts.2 in
    let before : pending_of state ≡ suc (length parts.1) = ap length parts.2 in
    let now : pending_of after ≡ length parts.1 = ap length left in
    omega arith
pending_falls false states at state after memory memory_after h e d =
    let sums = sum_by-set pending_of states at after state h in
    let mine : pending_of (get_or states at state) ≡ pending_of state = ap pending_of (sym e) in
    let same : pending_of after ≡ pending_of state = ap pending_of d.1 in
    omega arith

-- ---- all ranks

-- the ranks that are left lead where all of them do
pub record Drains (stage : Stage) (world : World) (rank ranks : ℕ) (runner : Runner) : Type 0 where
  pub reached : World
  pub in_world : IsWorld stage runner.agents.items runner.board runner.memory reached
  pub same : fold (drain_rank stage) reached (numbers_from rank (ranks - rank))
      ≡ fold (drain_rank stage) world (numbers_from 0 ranks)

pub drains_less : (stage : Stage) (world : World) (rank ranks : ℕ) (before after : Runner) → rank < ranks
    → LeadsOn before after (λ stage world. drain_rank stage world rank) → Drains stage world rank ranks before
    → Drains stage world (rank + 1) ranks after
drains_less stage world rank ranks before after h leads d =
    let more : ranks - rank ≡ suc (ranks - (rank + 1)) = omega arith in
    record {
      reached = drain_rank stage d.reached rank;
      in_world = leads stage d.reached d.in_world;
      same = sym (ap (λ n. fold (drain_rank stage) d.reached (numbers_from rank n)) more) ∙ d.same;
    }

pub drains_over : (stage : Stage) (world : World) (rank ranks : ℕ) (runner : Runner) → ranks ≡ stage.script.ranks
    → ranks ≤ rank → Drains stage world rank ranks runner
    → IsWorld stage runner.agents.items runner.board runner.memory (drain stage world)
drains_over stage world rank ranks runner e h d =
    let none : ranks - rank ≡ 0 = omega arith in
    let all : d.reached ≡ drain stage world =
    sym (ap (λ n. fold (drain_rank stage) d.reached (numbers_from rank n)) none) ∙ d.same
    ∙ ap (λ n. fold (drain_rank stage) world (numbers_from 0 n)) e in
    subst (λ w. IsWorld stage runner.agents.items runner.board runner.memory w) all d.in_world
