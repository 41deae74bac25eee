-- The history of a rank in the run on one thread: what it can still touch are the cells as they are at the moment.
use Rattle.std.proofs.Common.{◌≡◌, ◌≢◌, ℕ, true, false, List, [], ◌∷◌, ◌++◌, length, Option, Some, None, refl, sym, ◌∙◌}
use Rattle.std.proofs.Common.{ap, subst, arith, append-nil, append_assoc}
use Rattle.std.specs.Prelude.{map}
use Rattle.std.specs.List.{AllByRecursion}
use Rattle.std.specs.Option.{option_map_or}
use Rattle.list_laws.proofs.Each.{each_append}
use Rattle.rma_types.specs.declared.schedules.Delay.{Delay}
use Rattle.rma_types.specs.declared.scripts.Script.{Script}
use Rattle.board_rules.specs.Edges.{Event}
use Rattle.board_rules.specs.Entries.{Row}
use Rattle.call_rules.specs.declared.cells.Cell.{Cell}
use Rattle.call_rules.specs.Layout.{layout, cells_of}
use Rattle.lawful_runs.specs.Stages.{Stage, stage_of}
use Rattle.rank_laws.proofs.Histories.{rows_joined}
use Rattle.rank_laws.specs.Deliveries.{Delivers}
use Rattle.rank_laws.specs.Fronts.{Lows, AreAtMost, Put, rows_put, AreOthers, event_after, AreMetFrom, ArePut}
use Rattle.rank_laws.specs.Lives.{Lives, Looks, Steps, LooksAfter, IsMade}
use Rattle.step_histories.proofs.CellGrowth.{places_of}
use Rattle.step_histories.proofs.Deliveries.{IsFit, IsStepOf, delivery_made}
use Rattle.step_histories.proofs.LogGrowth.{touches_at, HasIssues}
use Rattle.step_histories.proofs.PlainMoves.{move_plain}
use Rattle.step_runs.specs.Agents.{Agent, tries_entry}
use Rattle.step_runs.specs.BoardSteps.{board_step}
use Rattle.step_runs.specs.DataSteps.{OnMemory, Move, deliver, move_of, data_step}

-- A history of the rank among the entries so far, of which it knows all up to its last. Its lows are not above these,
-- and its log has the Issues of what is pending or touched.
pub record IsLiving (stage : Stage) (seed rank : ℕ) (puts : List Put) (agent : Agent) (now : Lows) : Type 0 where
  pub known : List Put
  pub later : List Put
  pub lows : Lows
  pub life : Lives stage seed rank agent known lows
  pub entries : puts ≡ known ++ later
  pub apart : AreOthers rank later
  pub low : AreAtMost lows now
  pub issues : HasIssues stage rank agent

pub lows_rise : (stage : Stage) (seed rank : ℕ) (puts : List Put) (agent : Agent) (now next : Lows) →
    AreAtMost now next → IsLiving stage seed rank puts agent now → IsLiving stage seed rank puts agent next
lows_rise stage seed rank puts agent now next rise living = record {
  known = living.known;
  later = living.later;
  lows = living.lows;
  life = living.life;
  entries = living.entries;
  apart = living.apart;
  low = λ cell. let first = living.low cell in let more = rise cell in omega arith;
  issues = living.issues;
}

-- ---- entries with their fronts

-- entries that are put with this front
abbrev pub puts_with : Lows → List Row → List Put
puts_with now rows = map (λ (row : Row). (let put : Put = record { row = row; front = now } in put)) rows

-- the front of an entry is at or below the lows
abbrev pub IsPast : Lows → Put → Type 0
IsPast lows put = AreAtMost put.front lows

pub rows_with : (now : Lows) (rows : List Row) → rows_put (puts_with now rows) ≡ rows
rows_with now [] = refl
rows_with now (row ∷ rows) = ap (λ rest. row ∷ rest) (rows_with now rows)

-- what holds of rows holds of the entries
pub each_put : (P : Row → Type 0) (now : Lows) (rows : List Row) → AllByRecursion P rows →
    AllByRecursion (λ (put : Put). P put.row) (puts_with now rows)
each_put P now [] all = tt
each_put P now (row ∷ rows) all = (all.0, each_put P now rows all.1)

pub each_past : (now : Lows) (rows : List Row) → AllByRecursion (IsPast now) (puts_with now rows)
each_past now [] = tt
each_past now (row ∷ rows) = (λ cell. omega arith, each_past now rows)

-- where the fronts of all entries are passed, each edge is met
all_met : (ranks : ℕ) (before puts : List Put) (event : Event) (lows : Lows) → AllByRecursion (IsPast lows) puts →
    AreMetFrom ranks before puts event lows
all_met ranks before [] event lows past = tt
all_met ranks before (put ∷ puts) event lows past =
    (λ edge. past.0, all_met ranks (before ++ put ∷ []) puts event lows past.1)

all_put : (ranks : ℕ) (before : List Put) (rows : List Row) (lows now : Lows) → AllByRecursion (IsPast now) before →
    AreAtMost lows now → ArePut ranks before lows (puts_with now rows) now
all_put ranks before [] lows now past low = low
all_put ranks before (row ∷ rows) lows now past low =
    let put : Put = record { row = row; front = now } in (
      now,
      low,
      λ later edge. (low, λ cell. omega arith),
      all_met ranks [] before (event_after ranks (rows_put before) row) now past,
      all_put ranks (before ++ put ∷ []) rows now now
          (each_append (IsPast now) before (put ∷ []) past (λ cell. omega arith, tt)) (λ cell. omega arith),
    )

-- ---- steps

-- a step at the board goes on with the history of its rank
pub living_looks : (stage : Stage) (seed rank : ℕ) (puts : List Put) (agent : Agent) (now : Lows)
    (rows more : List Row) → IsLiving stage seed rank puts agent now → AllByRecursion (IsPast now) puts →
    tries_entry stage agent ≡ true → rows ≡ rows_put puts →
    (let step = board_step stage agent rows in step.rows ≡ rows ++ more → HasIssues stage rank step.agent →
    IsLiving stage seed rank (puts ++ puts_with now more) step.agent now)
living_looks stage seed rank puts agent now rows more living past tries is =
    subst (λ (rs : List Row). (board_step stage agent rs).rows ≡ rs ++ more →
    HasIssues stage rank (board_step stage agent rs).agent → IsLiving stage seed rank (puts ++ new)
    (board_step stage agent rs).agent now) (sym is)
    (λ put has. record {
      known = puts ++ new;
      later = [];
      lows = now;
      life = subst (λ (ps : List Put). Lives stage seed rank (board_step stage agent (rows_put ps)).agent (ps ++ new)
          now) (sym living.entries)
          (Looks agent living.known living.later new living.lows now living.life living.apart
          (subst (λ (ps : List Put). LooksAfter stage agent ps living.lows new now) living.entries (record {
            tries = tries;
            rows = put ∙ ap (λ rs. rows_put puts ++ rs) (sym (rows_with now more)) ∙ sym (rows_joined puts new);
            fronts = all_put stage.script.ranks puts more living.lows now past living.low;
          })));
      entries = sym (append-nil (puts ++ new));
      apart = tt;
      low = λ cell. omega arith;
      issues = has;
    })
  where
    new : List Put
    new = puts_with now more

-- entries of another rank are put
pub living_learns : (stage : Stage) (seed rank : ℕ) (puts more : List Put) (agent : Agent) (now : Lows) →
    AreOthers rank more → IsLiving stage seed rank puts agent now →
    IsLiving stage seed rank (puts ++ more) agent now
living_learns stage seed rank puts more agent now others living = record {
  known = living.known;
  later = living.later ++ more;
  lows = living.lows;
  life = living.life;
  entries = ap (λ ps. ps ++ more) living.entries ∙ append_assoc living.known living.later more;
  apart = each_append (λ (put : Put). put.row.rank ≢ rank) living.later more living.apart others;
  low = living.low;
  issues = living.issues;
}

-- a step on memory, with what holds of the rank after it
pub record IsDataStep (script : Script) (delay : Delay) (seed rank : ℕ) (puts : List Put) (agent : Agent)
    (cells : List Cell) (step : OnMemory) : Type 0 where
  pub living : IsLiving (stage_of script delay) seed rank puts step.agent (places_of step.cells)
  pub step_of : IsStepOf (stage_of script delay) rank agent cells step.agent step.cells

pub living_steps : (script : Script) (delay : Delay) (seed rank : ℕ) (puts : List Put) (agent : Agent)
    (cells : List Cell) → IsLiving (stage_of script delay) seed rank puts agent (places_of cells) →
    agent.rank ≡ rank → tries_entry (stage_of script delay) agent ≡ false →
    IsFit script delay rank (move_of (stage_of script delay) agent).agent →
    length cells ≡ cells_of (layout script) →
    IsDataStep script delay seed rank puts agent cells (data_step (stage_of script delay) agent cells)
living_steps script delay seed rank puts agent cells living mine tries fit memory = by_delivery move.delivers refl
  where
    stage : Stage
    stage = stage_of script delay

    move : Move
    move = move_of stage agent

    untouched : touches_at stage rank move.agent ≡ touches_at stage rank agent
    untouched = (move_plain stage rank agent mine living.issues).touches

    lived : (next : Agent) (now : List Cell) → HasIssues stage rank next → IsMade stage move living.lows next
        (places_of now) →
        IsLiving stage seed rank puts next (places_of now)
    lived next now has made = record {
      known = living.known;
      later = living.later;
      lows = places_of now;
      life = Steps agent next living.known living.lows (places_of now) living.life tries made;
      entries = living.entries;
      apart = living.apart;
      low = λ cell. omega arith;
      issues = has;
    }

    by_delivery : (o : Option ℕ) → move.delivers ≡ o → IsDataStep script delay seed rank puts agent cells
        (option_map_or (deliver stage move.agent cells) o (record { agent = move.agent; cells = cells }))
    by_delivery None e = record {
      living = lived move.agent cells fit.issues
          (subst (λ (d : Option ℕ). Delivers stage move.agent d living.lows move.agent (places_of cells)) (sym e)
          (refl, living.low));
      step_of = record {
        new = [];
        grows = untouched ∙ sym (append-nil (touches_at stage rank agent));
        made = refl;
      };
    }
    by_delivery (Some at) e =
        let is = delivery_made script delay rank move.agent cells at living.lows fit memory living.low in
        let step = deliver stage move.agent cells at in
        record {
          living = lived step.agent step.cells is.fit.issues
              (subst (λ (d : Option ℕ). Delivers stage move.agent d living.lows step.agent (places_of step.cells))
              (sym e) is.delivers);
          step_of = record {
            new = is.step_of.new;
            grows = is.step_of.grows ∙ ap (λ touches. touches ++ is.step_of.new) untouched;
            made = is.step_of.made;
          };
        }
