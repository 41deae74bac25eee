-- The rank that the code picks is the definition's, and so are all turns.
use Rattle.std.proofs.Common.{◌≡◌, ℕ, suc, ◌-◌, ◌<◌, Bool, true, false, length, Option, Some, None, refl, sym, ap, ◌∙◌}
use Rattle.std.proofs.Common.{subst, arith}
use Rattle.std.specs.Prelude.{not, ◌&&◌}
use Rattle.std.specs.Option.{option_map_or}
use Rattle.rma_types.specs.declared.schedules.Order.{Order}
use Rattle.lawful_runs.specs.Stages.{Stage}
use Rattle.rank_runners.specs.Marks.{IsKept, IsPicked}
use Rattle.rank_runners.specs.RankSets.{has}
use Rattle.rank_runners.specs.Runs.{IsRun, IsSome, IsReady, IsNext, GoesOn, turn_of}
use Rattle.rank_runners.specs.declared.rank_sets.RankSet.{RankSet}
use Rattle.rank_runners.specs.declared.runners.Runner.{Runner}
use Rattle.rank_runners.specs.declared.schedules.Turns.{Turns}
use Rattle.rank_runners.proofs.Picks.{pick_same}
use Rattle.rank_runners.proofs.Turned.{same_agent}
use Rattle.step_runs.specs.Agents.{Agent}
use Rattle.step_runs.specs.Schedules.{Schedule, pick}
use Rattle.step_runs.specs.StepRun.{World, agent_at, is_ready, picked_turn, run_from, turn}

is_free : (a b : Bool) → (not a && not b) ≡ true → a ≡ false
is_free true b e = cc
is_free false b e = refl

pub next_is : (before : Runner) (turns_after : Turns) (ready : RankSet) (ranks : ℕ) (found : Option ℕ)
    (order : Order) → length before.agents.items ≡ ranks
    → ((rank : ℕ) → rank < 32 → has ready rank ≡ (not (has before.ended rank) && not (has before.turns.waiting rank)))
    → ((schedule : Schedule) → IsKept before.turns schedule
    → IsPicked ready ranks schedule (pick order (has ready) ranks schedule) found turns_after)
    → (stage : Stage) (world : World) → IsRun stage before world
    → IsNext stage (record before { turns = turns_after }) world
    (pick order (is_ready stage world) stage.script.ranks world.schedule) found
next_is before turns_after ready ranks found order all free picks stage world run =
    go (pick order (is_ready stage world) stage.script.ranks world.schedule)
    (subst (λ o. IsPicked ready ranks world.schedule o found turns_after) is (picks world.schedule run.kept))
  where
    count : ranks ≡ stage.script.ranks
    count = sym all ∙ run.in_world.count

    ready_is : (rank : ℕ) → rank < stage.script.ranks → has ready rank ≡ is_ready stage world rank
    ready_is rank h =
        let few = run.few in
        let within : rank < length before.agents.items = let c = count in omega arith in
        let over : has before.ended rank ≡ (agent_at stage world rank).ended =
        run.over rank h ∙ ap (λ (agent : Agent). agent.ended)
        (same_agent stage before.agents.items world rank within run.in_world.agents) in
        free rank (omega arith) ∙ ap (λ b. not b && not (has before.turns.waiting rank)) over
        ∙ ap (λ b. not (agent_at stage world rank).ended && not b) (run.kept.waiting rank)

    is : pick order (has ready) ranks world.schedule
        ≡ pick order (is_ready stage world) stage.script.ranks world.schedule
    is =
        let last : world.schedule.last < stage.script.ranks = let a = run.kept.last in let b = run.last in omega
        arith in
        ap (λ n. pick order (has ready) n world.schedule) count
        ∙ pick_same (has ready) (is_ready stage world) order stage.script.ranks world.schedule last ready_is

    go : (o : Option (ℕ × Schedule)) → IsPicked ready ranks world.schedule o found turns_after
        → IsNext stage (record before { turns = turns_after }) world o found
    go None h =
        let last : turns_after.last < stage.script.ranks = let a = h.1.last in let b = run.kept.last in let c =
        run.last in omega arith in
        (h.0, record { few = run.few; in_world = run.in_world; kept = h.1; last = last; over = run.over })
    go (Some (rank, schedule)) h =
        let below : rank < stage.script.ranks = let c = count in let l = h.1 in omega arith in
        let last : turns_after.last < stage.script.ranks = let e = h.3 in omega arith in
        let few = run.few in
        let w = run.in_world in
        let next : IsRun stage (record before { turns = turns_after }) (record world { schedule = schedule }) = record {
          few = run.few;
          in_world = record {
            count = w.count;
            agents = w.agents;
            ranks = w.ranks;
            of_run = w.of_run;
            rows = w.rows;
            cells = w.cells;
            all_cells = w.all_cells;
            share = w.share;
          };
          kept = h.4;
          last = last;
          over = run.over;
        } in (
          h.0,
          next,
          record {
            some = (stage, record world { schedule = schedule }, next);
            within = let c = count in omega arith;
            standing = is_free (has before.ended rank) (has before.turns.waiting rank) (sym (free rank (omega arith))
                ∙ h.2);
          },
        )

-- ---- all turns

-- what is left of the turns leads where all of them do
pub record Remains (order : Order) (turns left : ℕ) (initial now : Runner) (stage : Stage)
    (world : World) : Type 0 where
  pub reached : World
  pub run : IsRun stage now reached
  pub same : run_from stage order left reached ≡ run_from stage order turns world

-- no rank may have a turn: all turns are over
pub run_over : (order : Order) (turns left : ℕ) (initial now after : Runner) (found : Option ℕ) → 0 < left
    → found ≡ None
    → ((stage : Stage) (world : World) → IsRun stage now world
    → IsNext stage after world (pick order (is_ready stage world) stage.script.ranks world.schedule) found)
    → ((stage : Stage) (world : World) → IsRun stage initial world → Remains order turns left initial now stage world)
    → GoesOn initial after (λ stage world. run_from stage order turns world)
run_over order turns left initial now after found some none next so_far stage world run =
    let rest = so_far stage world run in
    by (pick order (is_ready stage rest.reached) stage.script.ranks rest.reached.schedule) refl
    (next stage rest.reached rest.run) rest.same
  where
    reached : World
    reached = (so_far stage world run).reached

    by : (o : Option (ℕ × Schedule)) → pick order (is_ready stage reached) stage.script.ranks reached.schedule ≡ o
        → IsNext stage after reached o found
        → run_from stage order left reached ≡ run_from stage order turns world
        → IsRun stage after (run_from stage order turns world)
    by None e h same =
        let more : left ≡ suc (left - 1) = omega arith in
        let stays : run_from stage order left reached ≡ reached =
        ap (λ n. run_from stage order n reached) more
        ∙ ap (λ (o : Option (ℕ × Schedule)). option_map_or
        (λ picked. run_from stage order (left - 1) (picked_turn stage reached picked)) o reached) e in
        subst (λ (w : World). IsRun stage after w) (sym stays ∙ same) h.1
    by (Some (rank, schedule)) e h same = let bad = h.0 in cc

-- one turn less is left
pub run_less : (order : Order) (turns left : ℕ) (initial now picked after : Runner) (rank : ℕ) → 0 < left
    → ((stage : Stage) (world : World) → IsRun stage now world
    → IsNext stage picked world (pick order (is_ready stage world) stage.script.ranks world.schedule) (Some rank))
    → GoesOn picked after (turn_of rank)
    → ((stage : Stage) (world : World) → IsRun stage initial world → Remains order turns left initial now stage world)
    → (stage : Stage) (world : World) → IsRun stage initial world
    → Remains order turns (left - 1) initial after stage world
run_less order turns left initial now picked after rank some next turned so_far stage world run =
    let rest = so_far stage world run in
    by (pick order (is_ready stage rest.reached) stage.script.ranks rest.reached.schedule) refl
    (next stage rest.reached rest.run) rest.same
  where
    reached : World
    reached = (so_far stage world run).reached

    by : (o : Option (ℕ × Schedule)) → pick order (is_ready stage reached) stage.script.ranks reached.schedule ≡ o
        → IsNext stage picked reached o (Some rank)
        → run_from stage order left reached ≡ run_from stage order turns world
        → Remains order turns (left - 1) initial after stage world
    by None e h same = let bad = h.0 in cc
    by (Some (one, schedule)) e h same =
        let is : one ≡ rank = let p = h.0 in cc in
        let more : left ≡ suc (left - 1) = omega arith in
        let goes : run_from stage order left reached
        ≡ run_from stage order (left - 1) (turn stage (record reached { schedule = schedule }) one) =
        ap (λ n. run_from stage order n reached) more
        ∙ ap (λ (o : Option (ℕ × Schedule)). option_map_or
        (λ picked. run_from stage order (left - 1) (picked_turn stage reached picked)) o reached) e in
        let there = turned stage (record reached { schedule = schedule }) h.1 in
        record {
          reached = turn stage (record reached { schedule = schedule }) rank;
          run = there;
          same = ap (λ n. run_from stage order (left - 1) (turn stage (record reached { schedule = schedule }) n))
              (sym is) ∙ sym goes ∙ same;
        }

-- the rank that was picked may have a turn
pub ready_next : (order : Order) (turns left : ℕ) (initial now picked : Runner) (rank : ℕ) → IsSome initial
    → ((stage : Stage) (world : World) → IsRun stage now world
    → IsNext stage picked world (pick order (is_ready stage world) stage.script.ranks world.schedule) (Some rank))
    → ((stage : Stage) (world : World) → IsRun stage initial world → Remains order turns left initial now stage world)
    → IsReady picked rank
ready_next order turns left initial now picked rank some next so_far =
    let rest = so_far some.0 some.1 some.2 in
    by rest.reached (pick order (is_ready some.0 rest.reached) some.0.script.ranks rest.reached.schedule)
    (next some.0 rest.reached rest.run)
  where
    by : (world : World) (o : Option (ℕ × Schedule)) → IsNext some.0 picked world o (Some rank) → IsReady picked rank
    by world None h = let bad = h.0 in cc
    by world (Some (one, schedule)) h = let is : one ≡ rank = let p = h.0 in cc in subst (λ n. IsReady picked n) is h.2

-- the run is still in a world, with as many ranks
pub some_still : (order : Order) (turns left : ℕ) (initial now : Runner) → IsSome initial
    → ((stage : Stage) (world : World) → IsRun stage initial world
    → Remains order turns left initial now stage world) → IsSome now
some_still order turns left initial now some so_far =
    let rest = so_far some.0 some.1 some.2 in (some.0, rest.reached, rest.run)

pub count_still : (order : Order) (turns left ranks : ℕ) (initial now : Runner) → IsSome initial
    → length initial.agents.items ≡ ranks
    → ((stage : Stage) (world : World) → IsRun stage initial world
    → Remains order turns left initial now stage world) → length now.agents.items ≡ ranks
count_still order turns left ranks initial now some e so_far =
    let rest = so_far some.0 some.1 some.2 in rest.run.in_world.count ∙ sym some.2.in_world.count ∙ e

-- no turn is left
pub run_done : (order : Order) (turns left : ℕ) (initial now : Runner) → left ≡ 0
    → ((stage : Stage) (world : World) → IsRun stage initial world → Remains order turns left initial now stage world)
    → GoesOn initial now (λ stage world. run_from stage order turns world)
run_done order turns left initial now none so_far stage world run =
    let rest = so_far stage world run in
    subst (λ (w : World). IsRun stage now w) (ap (λ n. run_from stage order n rest.reached) (sym none)
    ∙ rest.same) rest.run
