-- The ranks of an assembled run, and their logs.
use Rattle.std.proofs.Common.{◌≡◌, ℕ, zero, suc, ◌+◌, ◌<◌, ◌≤◌, List, [], ◌∷◌, Some, sym, ◌∙◌, ap, subst}
use Rattle.std.proofs.Common.{arith}
use Rattle.std.specs.Prelude.{slice_get, slice_index_or, map}
use Rattle.std.specs.List.{AllByRecursion}
use Rattle.list_laws.proofs.Lists.{some_within}
use Rattle.rma_types.specs.declared.schedules.Delay.{Delay}
use Rattle.rma_types.specs.declared.scripts.Script.{Script}
use Rattle.rma_record.specs.declared.items.Item.{Item}
use Rattle.rma_record.specs.declared.runs.Run.{Run}
use Rattle.call_rules.specs.Pieces.{numbers_from}
use Rattle.lawful_runs.specs.Logs.{log_of}
use Rattle.lawful_runs.specs.Stages.{stage_of}
use Rattle.rank_laws.specs.Assembled.{IsAssembled}
use Rattle.rank_laws.specs.Lives.{HasLived}
use Rattle.step_runs.specs.Agents.{Agent}

pub log_at : (agents : List Agent) (rank : ℕ) (agent : Agent) → slice_get agents rank ≡ Some agent →
    slice_index_or (map (λ (a : Agent). a.log) agents) rank [] ≡ agent.log
log_at [] rank agent e = absurd (cc e)
log_at (a ∷ agents) zero agent e = let same : a ≡ agent = cc e in ap (λ (b : Agent). b.log) same
log_at (a ∷ agents) (suc rank) agent e = log_at agents rank agent e

-- a rank of the run at its end
pub record RankThere (script : Script) (delay : Delay) (seed : ℕ) (run : Run) (is : IsAssembled script delay seed run)
    (rank : ℕ) : Type 0 where
  pub agent : Agent
  pub lived : HasLived (stage_of script delay) seed rank is.puts agent
  pub log : log_of run rank ≡ agent.log

pub rank_there : (script : Script) (delay : Delay) (seed : ℕ) (run : Run) (is : IsAssembled script delay seed run)
    (rank : ℕ) → rank < script.ranks → RankThere script delay seed run is rank
rank_there script delay seed run is rank inside =
    let there = some_within is.agents rank (subst (λ n. rank < n) (sym is.ranks) inside) in
    record {
      agent = there.0;
      lived = is.lives rank there.0 there.1;
      log = ap (λ (logs : List (List Item)). slice_index_or logs rank []) is.logs
          ∙ log_at is.agents rank there.0 there.1;
    }

-- what holds below a number holds of all numbers from 0 up to it
pub each_number : (P : ℕ → Type 0) (count : ℕ) → ((n : ℕ) → n < count → P n) → AllByRecursion P (numbers_from 0 count)
each_number P count h = each_from 0 count (λ n low high. h n (omega arith))
  where
    each_from : (first many : ℕ) → ((n : ℕ) → first ≤ n → n < first + many → P n) →
        AllByRecursion P (numbers_from first many)
    each_from first zero k = tt
    each_from first (suc many) k = (
      k first (omega arith) (omega arith),
      each_from (first + 1) many (λ n low high. k n (omega arith) (omega arith)),
    )

pub each_image : {X : Type 0} (P : X → Type 0) (f : ℕ → X) (numbers : List ℕ) →
    AllByRecursion (λ n. P (f n)) numbers → AllByRecursion P (map f numbers)
each_image P f [] h = tt
each_image P f (n ∷ ns) h = (h.0, each_image P f ns h.1)
