-- The deliveries at the end of the run on one thread go on with the histories of all ranks and cells.
use Rattle.std.proofs.Common.{◌≡◌, ℕ, ◌<◌, ◌⊎◌, inl, inr, Bool, true, false, not, List, [], ◌∷◌, ◌++◌, length, None}
use Rattle.std.proofs.Common.{refl, sym, ◌∙◌, subst, arith, append-nil, length-set}
use Rattle.std.specs.Prelude.{◌&&◌}
use Rattle.std.specs.List.{fold, AllByRecursion}
use Rattle.rma_types.specs.declared.schedules.Delay.{Delay}
use Rattle.rma_types.specs.declared.schedules.Order.{Order}
use Rattle.rma_types.specs.declared.scripts.Script.{Script}
use Rattle.call_rules.specs.Layout.{layout, cells_of}
use Rattle.call_rules.specs.Pieces.{numbers_from}
use Rattle.call_rules.specs.Ranks.{is_member}
use Rattle.lawful_runs.specs.Stages.{Stage, stage_of}
use Rattle.rank_laws.specs.Fronts.{Lows, AreAtMost, Put, rows_put, AreOthers}
use Rattle.rank_laws.specs.Lives.{Lives, Stops, Drains, Stays, Drained}
use Rattle.rank_rules.specs.declared.pending.PendingAccess.{PendingAccess}
use Rattle.step_histories.proofs.AllTouches.{touches_of_all, recorded_step}
use Rattle.step_histories.proofs.CellGrowth.{AreRecorded, places_of, made_rise, length_made}
use Rattle.step_histories.proofs.Deliveries.{IsFit, IsStepOf, delivery_made, steps_joined}
use Rattle.step_histories.proofs.LogGrowth.{touches_at}
use Rattle.step_histories.proofs.Turns.{IsFullyLived}
use Rattle.step_histories.proofs.Waits.{IsStuck}
use Rattle.step_laws.proofs.Lists.{each_set_apart, numbers_below}
use Rattle.step_laws.proofs.Picks.{none_may_go}
use Rattle.step_runs.specs.Agents.{Agent, new_agent}
use Rattle.step_runs.specs.DataSteps.{OnMemory, deliver}
use Rattle.step_runs.specs.Schedules.{pick}
use Rattle.step_runs.specs.StepRun.{World, agent_at, is_ready, deliver_each, drain_rank, drain}

-- ---- a rank that stops

-- a rank has stopped, and has delivered some of what was pending since
pub record HasStopped (script : Script) (delay : Delay) (seed rank : ℕ) (puts : List Put) (agent : Agent)
    (now : Lows) : Type 0 where
  pub stopped : Agent
  pub known : List Put
  pub later : List Put
  pub lows : Lows
  pub last : Lows
  pub life : Lives (stage_of script delay) seed rank stopped known lows
  pub entries : puts ≡ known ++ later
  pub apart : AreOthers rank later
  pub stops : Stops (stage_of script delay) stopped (rows_put puts)
  pub drains : Drains (stage_of script delay) stopped lows agent last
  pub low : AreAtMost last now
  pub fit : IsFit script delay rank agent

still_stopped : (script : Script) (delay : Delay) (seed rank : ℕ) (puts : List Put) (agent : Agent) (now next : Lows) →
    AreAtMost now next → HasStopped script delay seed rank puts agent now →
    HasStopped script delay seed rank puts agent next
still_stopped script delay seed rank puts agent now next rise old = record {
  stopped = old.stopped;
  known = old.known;
  later = old.later;
  lows = old.lows;
  last = old.last;
  life = old.life;
  entries = old.entries;
  apart = old.apart;
  stops = old.stops;
  drains = old.drains;
  low = λ cell. let first = old.low cell in let more = rise cell in omega arith;
  fit = old.fit;
}

-- deliveries of the rank
record IsDrain (script : Script) (delay : Delay) (seed rank : ℕ) (puts : List Put) (first now : OnMemory) : Type 0 where
  stopped : HasStopped script delay seed rank puts now.agent (places_of now.cells)
  step_of : IsStepOf (stage_of script delay) rank first.agent first.cells now.agent now.cells

one_drain : (script : Script) (delay : Delay) (seed rank : ℕ) (puts : List Put) (now : OnMemory) →
    length now.cells ≡ cells_of (layout script) →
    HasStopped script delay seed rank puts now.agent (places_of now.cells) →
    IsDrain script delay seed rank puts now (deliver (stage_of script delay) now.agent now.cells 0)
one_drain script delay seed rank puts now memory old =
    let step = deliver (stage_of script delay) now.agent now.cells 0 in
    let is = delivery_made script delay rank now.agent now.cells 0 old.last old.fit memory old.low in
    record {
      stopped = record {
        stopped = old.stopped;
        known = old.known;
        later = old.later;
        lows = old.lows;
        last = places_of step.cells;
        life = old.life;
        entries = old.entries;
        apart = old.apart;
        stops = old.stops;
        drains = Drained now.agent step.agent old.last (places_of step.cells) old.drains is.delivers;
        low = λ cell. omega arith;
        fit = is.fit;
      };
      step_of = is.step_of;
    }

each_drain : (script : Script) (delay : Delay) (seed rank : ℕ) (puts : List Put) (pending : List PendingAccess)
    (now : OnMemory) → length now.cells ≡ cells_of (layout script) →
    HasStopped script delay seed rank puts now.agent (places_of now.cells) →
    IsDrain script delay seed rank puts now (deliver_each (stage_of script delay) pending now)
each_drain script delay seed rank puts [] now memory old = record {
  stopped = old;
  step_of = record {
    new = [];
    grows = sym (append-nil (touches_at (stage_of script delay) rank now.agent));
    made = refl;
  };
}
each_drain script delay seed rank puts (one ∷ rest) now memory old =
    let stage = stage_of script delay in
    let step = deliver stage now.agent now.cells 0 in
    let first = one_drain script delay seed rank puts now memory old in
    let then = each_drain script delay seed rank puts rest step
    (length_made first.step_of.new now.cells step.cells first.step_of.made ∙ memory) first.stopped in
    let last = deliver_each stage rest step in
    record {
      stopped = then.stopped;
      step_of = steps_joined stage rank now.agent step.agent last.agent now.cells step.cells last.cells first.step_of
          then.step_of;
    }

-- ---- all ranks

-- each rank has stopped after the same entries, and each cell has a history
pub record AreStopped (script : Script) (delay : Delay) (seed : ℕ) (puts : List Put) (world : World) : Type 0 where
  pub ranks : length world.agents ≡ script.ranks
  pub each : (rank : ℕ) → rank < script.ranks →
      HasStopped script delay seed rank puts (agent_at (stage_of script delay) world rank) (places_of world.cells)
  pub memory : length world.cells ≡ cells_of (layout script)
  pub recorded : AreRecorded (touches_of_all (stage_of script delay) world.agents) world.cells

rank_drains : (script : Script) (delay : Delay) (seed : ℕ) (puts : List Put) (world : World) (rank : ℕ) →
    rank < script.ranks → AreStopped script delay seed puts world →
    AreStopped script delay seed puts (drain_rank (stage_of script delay) world rank)
rank_drains script delay seed puts world rank below old = record {
  ranks = length-set world.agents rank last.agent ∙ old.ranks;
  each = λ other below'. each_set_apart
      (λ r (a : Agent). r < script.ranks → HasStopped script delay seed r puts a (places_of last.cells)) world.agents
      (new_agent stage 0) rank last.agent inside (λ _. is.stopped)
      (λ r apart below''. still_stopped script delay seed r puts (agent_at stage world r) (places_of world.cells)
      (places_of last.cells) (made_rise is.step_of.new world.cells last.cells is.step_of.made) (old.each r below''))
      other below';
  memory = length_made is.step_of.new world.cells last.cells is.step_of.made ∙ old.memory;
  recorded = recorded_step stage world.agents rank last.agent world.cells last.cells inside below old.recorded
      is.step_of;
}
  where
    stage : Stage
    stage = stage_of script delay

    now : OnMemory
    now = record { agent = agent_at stage world rank; cells = world.cells }

    last : OnMemory
    last = deliver_each stage now.agent.pending now

    inside : rank < length world.agents
    inside = subst (λ n. rank < n) (sym old.ranks) below

    is : IsDrain script delay seed rank puts now last
    is = each_drain script delay seed rank puts now.agent.pending now old.memory (old.each rank below)

ranks_drain : (script : Script) (delay : Delay) (seed : ℕ) (puts : List Put) (ranks : List ℕ) (world : World) →
    AllByRecursion (λ rank. rank < script.ranks) ranks → AreStopped script delay seed puts world →
    AreStopped script delay seed puts (fold (drain_rank (stage_of script delay)) world ranks)
ranks_drain script delay seed puts [] world below old = old
ranks_drain script delay seed puts (rank ∷ ranks) world below old =
    ranks_drain script delay seed puts ranks (drain_rank (stage_of script delay) world rank) below.1
    (rank_drains script delay seed puts world rank below.0 old)

pub all_drain : (script : Script) (delay : Delay) (seed : ℕ) (puts : List Put) (world : World) →
    AreStopped script delay seed puts world →
    AreStopped script delay seed puts (drain (stage_of script delay) world)
all_drain script delay seed puts world old =
    ranks_drain script delay seed puts (numbers_from 0 script.ranks) world
    (subst (λ n. AllByRecursion (λ rank. rank < n) (numbers_from 0 script.ranks)) (omega arith)
    (numbers_below 0 script.ranks)) old

-- ---- after the last turn

-- a rank that may have no turn has ended or waits
not_ready : (ended member : Bool) → (not ended && not member) ≡ false → (ended ≡ true) ⊎ (member ≡ true)
not_ready true member e = inl refl
not_ready false true e = inr refl
not_ready false false e = absurd (cc e)

-- where no rank may have a turn, each has stopped
pub run_stops : (script : Script) (order : Order) (delay : Delay) (seed : ℕ) (world : World) →
    (full : IsFullyLived script delay seed world) →
    pick order (is_ready (stage_of script delay) world) script.ranks world.schedule ≡ None →
    AreStopped script delay seed full.lived.puts world
run_stops script order delay seed world full none = record {
  ranks = full.sound.ranks.ranks;
  each = λ rank below.
      let living = full.lived.each rank below in
      let agent = agent_at stage world rank in
      record {
        stopped = agent;
        known = living.known;
        later = living.later;
        lows = living.lows;
        last = living.lows;
        life = living.life;
        entries = living.entries;
        apart = living.apart;
        stops = stops rank (not_ready agent.ended (is_member rank world.schedule.waiting)
            (none_may_go order (is_ready stage world) script.ranks world.schedule none rank below));
        drains = Stays;
        low = living.low;
        fit = record {
          mine = (full.sound.each rank below).mine;
          issues = living.issues;
          pending = (full.sound.each rank below).pending;
        };
      };
  memory = full.lived.memory;
  recorded = full.lived.recorded;
}
  where
    stage : Stage
    stage = stage_of script delay

    stops : (rank : ℕ) →
        ((agent_at stage world rank).ended ≡ true) ⊎ (is_member rank world.schedule.waiting ≡ true) →
        Stops stage (agent_at stage world rank) (rows_put full.lived.puts)
    stops rank (inl ended) = inl ended
    stops rank (inr member) = inr (subst (IsStuck stage (agent_at stage world rank)) full.lived.rows
        (full.lived.waits rank member))
