-- The touches of all ranks, where one of them goes on.
use Rattle.std.proofs.Common.{◌≡◌, ℕ, zero, suc, ◌+◌, ◌<◌, ◌≤◌, inl, inr, List, [], ◌++◌, length, get_or, refl, sym}
use Rattle.std.proofs.Common.{◌∙◌, ap, subst, arith, append_assoc, get_or-set_same, get_or-set_other}
use Rattle.std.specs.Prelude.{slice_set}
use Rattle.std.specs.List.{flat_map}
use Rattle.std.proofs.lemmas.Bool.Decides.{eqb_tells}
use Rattle.call_rules.specs.declared.cells.Cell.{Cell}
use Rattle.call_rules.specs.Pieces.{numbers_from}
use Rattle.lawful_runs.specs.Accesses.{Touching}
use Rattle.lawful_runs.specs.Stages.{Stage}
use Rattle.step_histories.proofs.CellGrowth.{AreRecorded, recorded_more}
use Rattle.step_histories.proofs.Deliveries.{IsStepOf}
use Rattle.step_histories.proofs.LogGrowth.{touches_at}
use Rattle.step_runs.specs.Agents.{Agent, new_agent}

-- the touches of some ranks
abbrev pub touches_from : Stage → List Agent → List ℕ → List Touching
touches_from stage agents ranks =
    flat_map (λ rank. touches_at stage rank (get_or agents rank (new_agent stage 0 rank))) ranks

-- the touches of all ranks, by rank
abbrev pub touches_of_all : Stage → List Agent → List Touching
touches_of_all stage agents = touches_from stage agents (numbers_from 0 stage.script.ranks)

-- ---- lists of lists of which one changes

pub flat_same : (f g : ℕ → List Touching) (first count : ℕ) → ((n : ℕ) → first ≤ n → n < first + count → g n ≡ f n) →
    flat_map g (numbers_from first count) ≡ flat_map f (numbers_from first count)
flat_same f g first zero same = refl
flat_same f g first (suc count) same =
    ap (λ front. front ++ flat_map g (numbers_from (first + 1) count)) (same first (omega arith) (omega arith))
    ∙ ap (λ back. f first ++ back) (flat_same f g (first + 1) count
    (λ n low high. same n (omega arith) (omega arith)))

-- what is before the one that changes, and what is after it
record IsSplit (f g : ℕ → List Touching) (at : ℕ) (numbers : List ℕ) : Type 0 where
  before : List Touching
  after : List Touching
  old : flat_map f numbers ≡ before ++ (f at ++ after)
  new : flat_map g numbers ≡ before ++ (g at ++ after)

split_at : (f g : ℕ → List Touching) (at : ℕ) → ((n : ℕ) → (n ≡ at → ⊥) → g n ≡ f n) → (first count : ℕ) →
    first ≤ at → at < first + count → IsSplit f g at (numbers_from first count)
split_at f g at same first zero low high = absurd (omega arith)
split_at f g at same first (suc count) low high = elim (eqb_tells at first) [
  | inl is ↦ record {
    before = [];
    after = flat_map f (numbers_from (first + 1) count);
    old = ap (λ n. f n ++ flat_map f (numbers_from (first + 1) count)) (sym is.1);
    new = ap (λ back. g first ++ back) (flat_same f g (first + 1) count
        (λ n past _. same n (λ e. let there = is.1 in absurd (omega arith))))
        ∙ ap (λ n. g n ++ flat_map f (numbers_from (first + 1) count)) (sym is.1);
  }
  | inr apart ↦
      let ne = apart.1 in
      let rest = split_at f g at same (first + 1) count (omega arith) (omega arith) in
      record {
        before = f first ++ rest.before;
        after = rest.after;
        old = ap (λ back. f first ++ back) rest.old ∙ sym (append_assoc (f first) rest.before (f at ++ rest.after));
        new = ap (λ front. front ++ flat_map g (numbers_from (first + 1) count))
            (same first (λ e. apart.1 (sym e)))
            ∙ ap (λ back. f first ++ back) rest.new ∙ sym (append_assoc (f first) rest.before (g at ++ rest.after));
      }
]

-- ---- one rank goes on

-- the cells' histories go on with the touches of one rank
pub recorded_step : (stage : Stage) (agents : List Agent) (rank : ℕ) (next : Agent) (cells now : List Cell) →
    rank < length agents → rank < stage.script.ranks → AreRecorded (touches_of_all stage agents) cells →
    IsStepOf stage rank (get_or agents rank (new_agent stage 0 rank)) cells next now →
    AreRecorded (touches_of_all stage (slice_set agents rank next)) now
recorded_step stage agents rank next cells now inside below old step =
    subst (λ ts. AreRecorded ts now) joined
    (recorded_more (split.before ++ old_at rank) step.new split.after cells now
    (subst (λ ts. AreRecorded ts cells)
    (split.old ∙ sym (append_assoc split.before (old_at rank) split.after)) old) step.made)
  where
    old_at : ℕ → List Touching
    old_at r = touches_at stage r (get_or agents r (new_agent stage 0 r))

    new_at : ℕ → List Touching
    new_at r = touches_at stage r (get_or (slice_set agents rank next) r (new_agent stage 0 r))

    same : (n : ℕ) → (n ≡ rank → ⊥) → new_at n ≡ old_at n
    same n apart = ap (touches_at stage n) (get_or-set_other agents rank n next (new_agent stage 0 n) apart)

    split : IsSplit old_at new_at rank (numbers_from 0 stage.script.ranks)
    split = split_at old_at new_at rank same 0 stage.script.ranks (omega arith) (omega arith)

    grown : new_at rank ≡ old_at rank ++ step.new
    grown = ap (touches_at stage rank) (get_or-set_same agents rank next (new_agent stage 0 rank) inside) ∙ step.grows

    joined : (split.before ++ old_at rank) ++ (step.new ++ split.after) ≡
        touches_of_all stage (slice_set agents rank next)
    joined = append_assoc split.before (old_at rank) (step.new ++ split.after)
        ∙ ap (λ back. split.before ++ back) (sym (append_assoc (old_at rank) step.new split.after)
        ∙ ap (λ mine. mine ++ split.after) (sym grown))
        ∙ sym split.new
