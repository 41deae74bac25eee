-- The turns of a run are enough.
use Rattle.std.proofs.Common.{◌≡◌, ℕ, zero, suc, ◌+◌, ◌*◌, ◌≤◌, List, [], ◌∷◌, length, get_or, refl, ◌∙◌, ap, subst}
use Rattle.std.proofs.Common.{arith, zero-add, add-one}
use Rattle.std.proofs.lemmas.List.Sums.{sum_by-cons}
use Rattle.std.specs.Prelude.{map, sum_by}
use Rattle.rma_types.specs.declared.calls.Call.{Call}
use Rattle.rma_types.specs.declared.schedules.Delay.{Delay}
use Rattle.rma_types.specs.declared.schedules.Order.{Order}
use Rattle.rma_types.specs.declared.scripts.Script.{Script}
use Rattle.call_rules.specs.Pieces.{numbers_from}
use Rattle.call_rules.specs.WellFormed.{IsWellFormed}
use Rattle.lawful_runs.specs.Stages.{Stage, stage_of}
use Rattle.step_runs.specs.Agents.{new_agent}
use Rattle.step_runs.specs.StepRun.{first_world, most_turns}
use Rattle.step_laws.proofs.Ending.{awake_few, awake, left_in, run_ends}
use Rattle.step_laws.proofs.Turns.{first_is_regular}
use Rattle.step_laws.proofs.Weights.{weight_of}
use Rattle.step_laws.specs.Ends.{RunEnds}

-- the lengths of the lists from one on, for so many numbers
lengths_from : List (List Call) → ℕ → ℕ → ℕ
lengths_from calls first zero = 0
lengths_from calls first (suc count) = length (get_or calls first []) + lengths_from calls (first + 1) count

lengths_shift : (list : List Call) (calls : List (List Call)) (first count : ℕ) →
    lengths_from (list ∷ calls) (suc first) count ≡ lengths_from calls first count
unfolding lengths_from
lengths_shift list calls first zero = refl
lengths_shift list calls first (suc count) = ap (λ n. length (get_or calls first []) + n)
    (rw (add-one, add-one) (lengths_shift list calls (suc first) count))

lengths_of_none : (first count : ℕ) → lengths_from [] first count ≡ 0
unfolding lengths_from
lengths_of_none first zero = refl
lengths_of_none first (suc count) = zero-add _ ∙ lengths_of_none (first + 1) count

-- they are no more than all lengths together
lengths_are_few : (calls : List (List Call)) (count : ℕ) → lengths_from calls 0 count ≤ sum_by length calls
unfolding lengths_from
lengths_are_few [] count = let none = lengths_of_none 0 count in omega arith
lengths_are_few (list ∷ calls) zero = omega arith
lengths_are_few (list ∷ calls) (suc count) =
    few (lengths_from (list ∷ calls) (0 + 1) count) (lengths_from calls 0 count) (sum_by length calls) (length list)
    (sum_by length (list ∷ calls))
    (ap (λ n. lengths_from (list ∷ calls) n count) (zero-add 1) ∙ lengths_shift list calls 0 count)
    (lengths_are_few calls count) (sum_by-cons length list calls)
  where
    few : (a b s l t : ℕ) → a ≡ b → b ≤ s → t ≡ l + s → l + a ≤ t
    few a b s l t e f g = omega arith

-- what is left before the first turn
left_at_first : (stage : Stage) (seed rank count : ℕ) →
    sum_by (weight_of stage) (map (new_agent stage seed) (numbers_from rank count)) ≡ 64 * lengths_from
    stage.script.calls rank count + 2 * count
unfolding lengths_from
left_at_first stage seed rank zero = refl
left_at_first stage seed rank (suc count) =
    let rest = left_at_first stage seed (rank + 1) count in
    let split = sum_by-cons (weight_of stage) (new_agent stage seed rank)
    (map (new_agent stage seed) (numbers_from (rank + 1) count)) in
    omega arith

turns_are_enough : (script : Script) (delay : Delay) (order : Order) (seed : ℕ) → script.ranks ≤ 16 →
    left_in (stage_of script delay) (first_world (stage_of script delay) order seed) ≤ most_turns script
turns_are_enough script delay order seed few =
    let stage = stage_of script delay in
    enough (sum_by (weight_of stage) (map (new_agent stage seed) (numbers_from 0 script.ranks)))
    (awake [] 0 script.ranks)
    (lengths_from script.calls 0 script.ranks) (sum_by length script.calls) script.ranks
    (left_at_first stage seed 0 script.ranks) (awake_few [] 0 script.ranks)
    (lengths_are_few script.calls script.ranks) few
  where
    enough : (l a n s r : ℕ) → l ≡ 64 * n + 2 * r → a ≤ r → n ≤ s → r ≤ 16 → l + a ≤ 64 * (s + 1)
    enough l a n s r e h k m = omega arith

-- the run ends by itself
pub step_run_ends : RunEnds
step_run_ends script order delay seed formed =
    run_ends (stage_of script delay) order (most_turns script) (first_world (stage_of script delay) order seed)
    (first_is_regular (stage_of script delay) order seed) formed.few_ranks
    (turns_are_enough script delay order seed formed.few_ranks)
