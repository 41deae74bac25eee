-- Each turn of the run on one thread goes on with the histories of all ranks and cells, in any order and with any
-- delay.
use Rattle.std.proofs.Common.{◌≡◌, ◌≢◌, ℕ, zero, suc, ◌+◌, ◌<◌, Bool, true, false, cond, List, [], ◌∷◌, ◌++◌, length}
use Rattle.std.proofs.Common.{get_or, refl, sym, ◌∙◌, ap, subst, arith, append-nil, length-append}
use Rattle.std.specs.Prelude.{◌||◌, map, nat_lt}
use Rattle.std.specs.List.{flat_map, AllByRecursion}
use Rattle.std.proofs.lemmas.Bool.{ne_eqb, lt-ltb}
use Rattle.std.proofs.lemmas.List.{length-replicate}
use Rattle.list_laws.proofs.Each.{each_weaker, each_append}
use Rattle.rma_types.specs.declared.schedules.Delay.{Delay}
use Rattle.rma_types.specs.declared.schedules.Order.{Order}
use Rattle.rma_types.specs.declared.scripts.Script.{Script}
use Rattle.board_rules.specs.Entries.{Row}
use Rattle.call_rules.specs.Layout.{layout, cells_of}
use Rattle.call_rules.specs.Pieces.{numbers_from}
use Rattle.call_rules.specs.Ranks.{is_member}
use Rattle.call_rules.specs.Touches.{empty_cell}
use Rattle.call_rules.specs.WellFormed.{IsWellFormed}
use Rattle.lawful_runs.specs.Accesses.{Touching}
use Rattle.lawful_runs.specs.Stages.{Stage, stage_of}
use Rattle.rank_laws.specs.Fronts.{Lows, first_lows, AreAtMost, Put, rows_put}
use Rattle.rank_laws.specs.Lives.{Begins}
use Rattle.rank_laws.proofs.Histories.{rows_joined}
use Rattle.step_histories.proofs.AllTouches.{touches_of_all, recorded_step}
use Rattle.step_histories.proofs.CellGrowth.{AreRecorded, none_recorded, places_of, made_rise, length_made}
use Rattle.step_histories.proofs.Deliveries.{IsFit}
use Rattle.step_histories.proofs.Living.{IsLiving, lows_rise, puts_with, IsPast, rows_with, each_put, each_past}
use Rattle.step_histories.proofs.Living.{living_looks, living_learns, IsDataStep, living_steps}
use Rattle.step_histories.proofs.LogGrowth.{touches_at}
use Rattle.step_histories.proofs.PlainMoves.{IsLooked, move_plain, board_looked}
use Rattle.step_histories.proofs.Waits.{IsStuck, waits_stuck}
use Rattle.step_laws.proofs.Lists.{each_set_apart}
use Rattle.step_laws.proofs.SoundRuns.{IsSoundWorld, sound_picks, sound_at_board, sound_on_memory, first_is_sound}
use Rattle.step_laws.proofs.SoundSteps.{move_sound}
use Rattle.step_laws.proofs.Turns.{MayTurn, KeptByPicks, KeptAtBoard, KeptOnMemory, not_ended, turns_kept, run_keeps}
use Rattle.step_laws.proofs.Turns.{at_first}
use Rattle.step_laws.specs.Inside.{world_after}
use Rattle.step_runs.specs.Agents.{Agent, new_agent, tries_entry}
use Rattle.step_runs.specs.BoardSteps.{AtBoard, board_step}
use Rattle.step_runs.specs.DataSteps.{OnMemory, data_step, move_of}
use Rattle.step_runs.specs.Schedules.{Schedule, after_board}
use Rattle.step_runs.specs.StepRun.{World, agent_at, turn_at_board, turn_on_memory, first_world}

-- The ranks have histories among the same entries, and the cells among the touches of all ranks. A rank that waits is
-- stuck.
pub record IsLived (script : Script) (delay : Delay) (seed : ℕ) (world : World) : Type 0 where
  pub puts : List Put
  pub rows : world.rows ≡ rows_put puts
  pub owners : AllByRecursion (λ (put : Put). put.row.rank < script.ranks) puts
  pub fronts : AllByRecursion (IsPast (places_of world.cells)) puts
  pub each : (rank : ℕ) → rank < script.ranks →
      IsLiving (stage_of script delay) seed rank puts (agent_at (stage_of script delay) world rank)
      (places_of world.cells)
  pub waits : (rank : ℕ) → is_member rank world.schedule.waiting ≡ true →
      IsStuck (stage_of script delay) (agent_at (stage_of script delay) world rank) world.rows
  pub memory : length world.cells ≡ cells_of (layout script)
  pub recorded : AreRecorded (touches_of_all (stage_of script delay) world.agents) world.cells

lived_picks : (script : Script) (delay : Delay) (seed : ℕ) → KeptByPicks (IsLived script delay seed)
lived_picks script delay seed world schedule same lived = record {
  puts = lived.puts;
  rows = lived.rows;
  owners = lived.owners;
  fronts = lived.fronts;
  each = lived.each;
  waits = λ rank member. lived.waits rank (ap (is_member rank) (sym same) ∙ member);
  memory = lived.memory;
  recorded = lived.recorded;
}

-- ---- at the board

-- no longer list has been made where nothing follows
none_more : {X : Type 0} (xs more : List X) → nat_lt (length xs) (length (xs ++ more)) ≡ false → xs ++ more ≡ xs
none_more xs [] e = append-nil xs
none_more {X} xs (x ∷ more) e =
    let long = length-append xs (x ∷ more) in
    absurd (cc (sym (lt-ltb (length xs) (length (xs ++ x ∷ more)) (omega arith)) ∙ e))

-- the rank that took its turn waits only if it is stuck
own_waits : (stage : Stage) (agent : Agent) (rows : List Row) (waits grows : Bool) (rank : ℕ) (waiting : List ℕ) →
    (waits ≡ true → IsStuck stage agent rows) → is_member rank waiting ≡ false →
    (let left = cond grows [] waiting in is_member rank (cond waits (rank ∷ left) left) ≡ true) →
    IsStuck stage agent rows
own_waits stage agent rows true grows rank waiting stuck new member = stuck refl
own_waits stage agent rows false true rank waiting stuck new member = absurd (cc member)
own_waits stage agent rows false false rank waiting stuck new member = absurd (cc (sym new ∙ member))

-- another waits only if it did, and no entry has been put
other_waits : (waits grows : Bool) (rank other : ℕ) (waiting : List ℕ) → (other ≡ rank → ⊥) →
    (let left = cond grows [] waiting in is_member other (cond waits (rank ∷ left) left) ≡ true) →
    (grows ≡ false) × (is_member other waiting ≡ true)
other_waits true true rank other waiting apart member =
    absurd (cc (sym member ∙ ap (λ b. b || false) (ne_eqb rank other (λ e. apart (sym e)))))
other_waits true false rank other waiting apart member =
    (refl, ap (λ b. b || is_member other waiting) (sym (ne_eqb rank other (λ e. apart (sym e)))) ∙ member)
other_waits false true rank other waiting apart member = absurd (cc member)
other_waits false false rank other waiting apart member = (refl, member)

lived_at_board : (script : Script) (delay : Delay) (seed : ℕ) (world : World) (rank : ℕ) →
    MayTurn (stage_of script delay) world rank →
    tries_entry (stage_of script delay) (agent_at (stage_of script delay) world rank) ≡ true →
    IsSoundWorld script delay world → IsLived script delay seed world →
    IsLived script delay seed (turn_at_board world rank
    (board_step (stage_of script delay) (agent_at (stage_of script delay) world rank) world.rows))
lived_at_board script delay seed world rank may tries sound lived = record {
  puts = lived.puts ++ new;
  rows = looked.put ∙ ap (λ rows. rows ++ looked.more) lived.rows
      ∙ ap (λ rows. rows_put lived.puts ++ rows) (sym (rows_with now looked.more)) ∙ sym (rows_joined lived.puts new);
  owners = each_append (λ (put : Put). put.row.rank < script.ranks) lived.puts new lived.owners
      (each_put (λ (row : Row). row.rank < script.ranks) now looked.more
      (each_weaker (λ (row : Row). row.rank ≡ rank) (λ (row : Row). row.rank < script.ranks)
      (λ row e. let low = may.0 in omega arith) looked.more looked.own));
  fronts = each_append (IsPast now) lived.puts new lived.fronts (each_past now looked.more);
  each = λ other below. each_set_apart
      (λ r (a : Agent). r < script.ranks → IsLiving stage seed r (lived.puts ++ new) a now) world.agents
      (new_agent stage 0) rank step.agent inside (λ _. here) there other below;
  waits = each_set_apart
      (λ r (a : Agent). is_member r after.waiting ≡ true → IsStuck stage a step.rows) world.agents
      (new_agent stage 0) rank step.agent inside
      (own_waits stage step.agent step.rows step.waits grows rank world.schedule.waiting
      (waits_stuck stage agent world.rows tries) (not_ended stage world rank may.1).1)
      (λ other apart member.
      let still = other_waits step.waits grows rank other world.schedule.waiting apart member in
      subst (IsStuck stage (agent_at stage world other)) (sym (same_rows still.0)) (lived.waits other still.1));
  memory = lived.memory;
  recorded = recorded_step stage world.agents rank step.agent world.cells world.cells inside may.0 lived.recorded
      (record {
        new = [];
        grows = looked.plain.touches ∙ sym (append-nil (touches_at stage rank agent));
        made = refl;
      });
}
  where
    stage : Stage
    stage = stage_of script delay

    agent : Agent
    agent = agent_at stage world rank

    step : AtBoard
    step = board_step stage agent world.rows

    now : Lows
    now = places_of world.cells

    grows : Bool
    grows = nat_lt (length world.rows) (length step.rows)

    after : Schedule
    after = after_board grows step.waits rank world.schedule

    inside : rank < length world.agents
    inside = subst (λ n. rank < n) (sym sound.ranks.ranks) may.0

    living : IsLiving stage seed rank lived.puts agent now
    living = lived.each rank may.0

    looked : IsLooked stage rank agent world.rows step.agent step.rows
    looked = board_looked stage rank agent world.rows (sound.each rank may.0).mine
        living.issues (sound.ranks.begun rank) tries

    new : List Put
    new = puts_with now looked.more

    here : IsLiving stage seed rank (lived.puts ++ new) step.agent now
    here = living_looks stage seed rank lived.puts agent now world.rows looked.more living lived.fronts tries lived.rows
        looked.put looked.plain.issues

    there : (other : ℕ) → (other ≡ rank → ⊥) → other < script.ranks →
        IsLiving stage seed other (lived.puts ++ new) (agent_at stage world other) now
    there other apart below = living_learns stage seed other lived.puts new (agent_at stage world other) now
        (each_put (λ (row : Row). row.rank ≢ other) now looked.more
        (each_weaker (λ (row : Row). row.rank ≡ rank) (λ (row : Row). row.rank ≢ other)
        (λ row e same. apart (sym same ∙ e)) looked.more looked.own)) (lived.each other below)

    same_rows : grows ≡ false → step.rows ≡ world.rows
    same_rows e = looked.put ∙ none_more world.rows looked.more
        (ap (λ (rows : List Row). nat_lt (length world.rows) (length rows)) (sym looked.put) ∙ e)

-- ---- on memory

lived_on_memory : (script : Script) (delay : Delay) (seed : ℕ) (world : World) (rank : ℕ) →
    MayTurn (stage_of script delay) world rank →
    tries_entry (stage_of script delay) (agent_at (stage_of script delay) world rank) ≡ false →
    IsSoundWorld script delay world → IsLived script delay seed world →
    IsLived script delay seed (turn_on_memory world rank
    (data_step (stage_of script delay) (agent_at (stage_of script delay) world rank) world.cells))
lived_on_memory script delay seed world rank may tries sound lived = record {
  puts = lived.puts;
  rows = lived.rows;
  owners = lived.owners;
  fronts = each_weaker (IsPast now) (IsPast (places_of step.cells))
      (λ put past cell. let low = past cell in let more = rise cell in omega arith) lived.puts lived.fronts;
  each = λ other below. each_set_apart
      (λ r (a : Agent). r < script.ranks → IsLiving stage seed r lived.puts a (places_of step.cells)) world.agents
      (new_agent stage 0) rank step.agent inside (λ _. made.living)
      (λ r apart below'. lows_rise stage seed r lived.puts (agent_at stage world r) now (places_of step.cells) rise
      (lived.each r below')) other below;
  waits = each_set_apart
      (λ r (a : Agent). is_member r world.schedule.waiting ≡ true → IsStuck stage a world.rows) world.agents
      (new_agent stage 0) rank step.agent inside
      (λ member. absurd (cc (sym member ∙ (not_ended stage world rank may.1).1)))
      (λ other apart member. lived.waits other member);
  memory = length_made made.step_of.new world.cells step.cells made.step_of.made ∙ lived.memory;
  recorded = recorded_step stage world.agents rank step.agent world.cells step.cells inside may.0 lived.recorded
      made.step_of;
}
  where
    stage : Stage
    stage = stage_of script delay

    agent : Agent
    agent = agent_at stage world rank

    step : OnMemory
    step = data_step stage agent world.cells

    now : Lows
    now = places_of world.cells

    inside : rank < length world.agents
    inside = subst (λ n. rank < n) (sym sound.ranks.ranks) may.0

    living : IsLiving stage seed rank lived.puts agent now
    living = lived.each rank may.0

    fit : IsFit script delay rank (move_of stage agent).agent
    fit =
        let moved = move_sound script delay rank agent world.rows (sound.each rank may.0) in
        record {
          mine = moved.mine;
          issues = (move_plain stage rank agent (sound.each rank may.0).mine
              living.issues).issues;
          pending = moved.pending;
        }

    made : IsDataStep script delay seed rank lived.puts agent world.cells step
    made = living_steps script delay seed rank lived.puts agent world.cells living (sound.each rank may.0).mine tries
        fit
        lived.memory

    rise : AreAtMost now (places_of step.cells)
    rise = made_rise made.step_of.new world.cells step.cells made.step_of.made

-- ---- before the first turn

first_agent : (stage : Stage) (seed first count at : ℕ) (other : Agent) → at < count →
    get_or (map (new_agent stage seed) (numbers_from first count)) at other ≡ new_agent stage seed (first + at)
first_agent stage seed first zero at other below = absurd (omega arith)
first_agent stage seed first (suc count) zero other below = ap (new_agent stage seed) (omega arith)
first_agent stage seed first (suc count) (suc at) other below =
    first_agent stage seed (first + 1) count at other (omega arith) ∙ ap (new_agent stage seed) (omega arith)

all_none : (f : ℕ → List Touching) → ((n : ℕ) → f n ≡ []) → (first count : ℕ) →
    flat_map f (numbers_from first count) ≡ []
all_none f none first zero = refl
all_none f none first (suc count) = ap (λ front. front ++ flat_map f (numbers_from (first + 1) count)) (none first)
    ∙ all_none f none (first + 1) count

first_is_lived : (script : Script) (order : Order) (delay : Delay) (seed : ℕ) →
    IsLived script delay seed (first_world (stage_of script delay) order seed)
first_is_lived script order delay seed =
    let stage = stage_of script delay in
    let world = first_world stage order seed in
    record {
      puts = [];
      rows = refl;
      owners = tt;
      fronts = tt;
      each = λ rank below. subst (λ (a : Agent). IsLiving stage seed rank [] a (places_of world.cells))
          (sym (first_agent stage seed 0 script.ranks rank (new_agent stage 0 rank) below
          ∙ ap (new_agent stage seed) (omega arith)))
          (record {
            known = [];
            later = [];
            lows = first_lows;
            life = Begins;
            entries = refl;
            apart = tt;
            low = λ cell. omega arith;
            issues = record { issued = tt; below = tt };
          });
      waits = λ rank member. absurd (cc member);
      memory = length-replicate (cells_of (layout script)) empty_cell;
      recorded = subst (λ ts. AreRecorded ts world.cells)
          (sym (all_none (λ rank. touches_at stage rank (agent_at stage world rank))
          (at_first stage order seed (λ rank agent. touches_at stage rank agent ≡ []) (λ rank some. refl)) 0
          script.ranks))
          (none_recorded (cells_of (layout script)));
    }

-- ---- all turns

-- each state of a run is lived, and sound
pub record IsFullyLived (script : Script) (delay : Delay) (seed : ℕ) (world : World) : Type 0 where
  pub sound : IsSoundWorld script delay world
  pub lived : IsLived script delay seed world

fully_picks : (script : Script) (delay : Delay) (seed : ℕ) → KeptByPicks (IsFullyLived script delay seed)
fully_picks script delay seed world schedule same old = record {
  sound = sound_picks script delay world schedule same old.sound;
  lived = lived_picks script delay seed world schedule same old.lived;
}

fully_at_board : (script : Script) (delay : Delay) (seed : ℕ) → IsWellFormed script →
    KeptAtBoard (stage_of script delay) (IsFullyLived script delay seed)
fully_at_board script delay seed formed world rank may tries old = record {
  sound = sound_at_board script delay formed world rank may tries old.sound;
  lived = lived_at_board script delay seed world rank may tries old.sound old.lived;
}

fully_on_memory : (script : Script) (delay : Delay) (seed : ℕ) →
    KeptOnMemory (stage_of script delay) (IsFullyLived script delay seed)
fully_on_memory script delay seed world rank may tries old = record {
  sound = sound_on_memory script delay world rank may tries old.sound;
  lived = lived_on_memory script delay seed world rank may tries old.sound old.lived;
}

pub run_is_lived : (script : Script) (order : Order) (delay : Delay) (seed turns : ℕ) → IsWellFormed script →
    IsFullyLived script delay seed (world_after script order delay seed turns)
run_is_lived script order delay seed turns formed =
    let stage = stage_of script delay in
    run_keeps stage order (IsFullyLived script delay seed) (fully_picks script delay seed)
    (turns_kept stage (IsFullyLived script delay seed) (fully_at_board script delay seed formed)
    (fully_on_memory script delay seed))
    turns (first_world stage order seed)
    (record {
      sound = first_is_sound script order delay seed formed;
      lived = first_is_lived script order delay seed;
    })
