-- After the deliveries at the end of a run nothing is pending.
use Rattle.std.proofs.Common.{◌≡◌, ℕ, zero, suc, ◌+◌, ◌<◌, ◌≤◌, inl, inr, List, [], ◌∷◌, length, get_or, Option}
use Rattle.std.proofs.Common.{None, refl, sym, ◌∙◌, ap, subst, arith, length-set, get_or-set_same, get_or-set_other}
use Rattle.std.specs.Prelude.{slice_set}
use Rattle.std.specs.List.{fold}
use Rattle.std.specs.Option.{option_map_or}
use Rattle.std.proofs.lemmas.Bool.Decides.{eqb_tells}
use Rattle.rma_types.specs.declared.schedules.Delay.{Delay}
use Rattle.rma_types.specs.declared.schedules.Order.{Order}
use Rattle.rma_types.specs.declared.scripts.Script.{Script}
use Rattle.call_rules.specs.Pieces.{numbers_from}
use Rattle.lawful_runs.specs.Stages.{Stage, stage_of}
use Rattle.rank_rules.specs.declared.pending.PendingAccess.{PendingAccess}
use Rattle.step_runs.specs.Agents.{Agent, new_agent}
use Rattle.step_runs.specs.DataSteps.{OnMemory, deliver}
use Rattle.step_runs.specs.StepRun.{World, agent_at, deliver_each, drain_rank, drain, turn_on_memory, run_from}
use Rattle.step_runs.specs.StepRun.{first_world, most_turns}
use Rattle.step_runs.proofs.DataStepLaws.{first_delivered}
use Rattle.step_laws.proofs.Turns.{IsRegular, regular_picks, regular_turns, run_keeps, first_is_regular}
use Rattle.step_laws.specs.Drained.{NothingIsPending, RunIsDrained}

-- as many deliveries as are pending leave none
pub delivers_all : (stage : Stage) (pending : List PendingAccess) (now : OnMemory) → now.agent.pending ≡ pending →
    (deliver_each stage pending now).agent.pending ≡ []
delivers_all stage [] now is = is
delivers_all stage (one ∷ rest) now is =
    delivers_all stage rest (deliver stage now.agent now.cells 0)
    (first_delivered stage now.agent now.cells one rest is)

-- ---- rank by rank

drains_one : (stage : Stage) (world : World) (rank : ℕ) → rank < length world.agents →
    (agent_at stage (drain_rank stage world rank) rank).pending ≡ []
drains_one stage world rank inside =
    let agent = agent_at stage world rank in
    ap (λ (a : Agent). a.pending)
    (get_or-set_same world.agents rank
    (deliver_each stage agent.pending (record { agent = agent; cells = world.cells })).agent
    (new_agent stage 0 rank) inside)
    ∙ delivers_all stage agent.pending (record { agent = agent; cells = world.cells }) refl

drains_other : (stage : Stage) (world : World) (rank other : ℕ) → (other ≡ rank → ⊥) →
    agent_at stage (drain_rank stage world rank) other ≡ agent_at stage world other
drains_other stage world rank other apart =
    get_or-set_other world.agents rank other
    (deliver_each stage (agent_at stage world rank).pending
    (record { agent = agent_at stage world rank; cells = world.cells })).agent (new_agent stage 0 other) apart

-- what is drained stays so
stays_drained : (stage : Stage) (world : World) (rank other : ℕ) → rank < length world.agents →
    (agent_at stage world other).pending ≡ [] →
    (agent_at stage (drain_rank stage world rank) other).pending ≡ []
stays_drained stage world rank other inside empty =
    elim (eqb_tells other rank) [
      | inl same ↦ subst (λ n. (agent_at stage (drain_rank stage world rank) n).pending ≡ []) (sym same.1)
          (drains_one stage world rank inside)
      | inr apart ↦ ap (λ (a : Agent). a.pending) (drains_other stage world rank other apart.1) ∙ empty
    ]

-- each rank from one on is drained, and those that were so are
drains_from : (stage : Stage) (first count : ℕ) (world : World) → first + count ≤ length world.agents →
    ((rank : ℕ) → rank < first → (agent_at stage world rank).pending ≡ []) →
    (rank : ℕ) → rank < first + count →
    (agent_at stage (fold (drain_rank stage) world (numbers_from first count)) rank).pending ≡ []
drains_from stage first zero world inside done rank below = done rank (omega arith)
drains_from stage first (suc count) world inside done rank below =
    drains_from stage (first + 1) count (drain_rank stage world first)
    (enough (length world.agents) (length (drain_rank stage world first).agents)
    (length-set world.agents first
    (deliver_each stage (agent_at stage world first).pending
    (record { agent = agent_at stage world first; cells = world.cells })).agent) inside)
    now rank (omega arith)
  where
    enough : (a b : ℕ) → b ≡ a → first + suc count ≤ a → first + 1 + count ≤ b
    enough a b e h = omega arith

    within : first < length world.agents
    within = omega arith

    now : (other : ℕ) → other < first + 1 → (agent_at stage (drain_rank stage world first) other).pending ≡ []
    now other less =
        elim (eqb_tells other first) [
          | inl same ↦ subst (λ n. (agent_at stage (drain_rank stage world first) n).pending ≡ []) (sym same.1)
              (drains_one stage world first within)
          | inr apart ↦ let ne = apart.1 in stays_drained stage world first other within (done other (omega arith))
        ]

pub drain_empties : (stage : Stage) (world : World) → length world.agents ≡ stage.script.ranks →
    NothingIsPending stage (drain stage world)
drain_empties stage world ranks rank below =
    drains_from stage 0 stage.script.ranks world (omega arith) (λ other less. absurd (omega arith)) rank (omega arith)

pub run_is_drained : RunIsDrained
run_is_drained script order delay seed formed =
    let stage = stage_of script delay in
    drain_empties stage (run_from stage order (most_turns script) (first_world stage order seed))
    (run_keeps stage order (IsRegular stage) (regular_picks stage) (regular_turns stage) (most_turns script)
    (first_world stage order seed) (first_is_regular stage order seed)).ranks
