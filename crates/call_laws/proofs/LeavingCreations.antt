-- A rank leaves the creation of a window when all ranks have arrived there: from then on its parts stay as they are.
use Rattle.std.proofs.Common.{◌≡◌, ℕ, ◌<◌, ◌≤◌, Bool, true, false, cond, List, [], ◌∷◌, ◌++◌}
use Rattle.std.proofs.Common.{length, Option, Some, refl, sym, ◌∙◌, ap, subst, arith, append_assoc}
use Rattle.std.specs.Prelude.{nat_le}
use Rattle.std.specs.Option.{option_map_or}
use Rattle.std.proofs.lemmas.Bool.{leb-true}
use Rattle.rma_types.specs.declared.accesses.Step.TheVariants.{Leave}
use Rattle.rma_types.specs.declared.calls.Call.{Call}
use Rattle.rma_types.proofs.ActionLaws.{creates_it}
use Rattle.call_rules.proofs.NumbersFrom.{all_at_number}
use Rattle.board_rules.specs.Board.{Allow, NotYet, decide}
use Rattle.board_rules.specs.Entries.{Row, acts, Collective, Creation as CreationRound, collective_in, arrivals}
use Rattle.board_rules.specs.Questions.{Question, question}
use Rattle.board_rules.specs.Rounds.{arrivals_of, rounds_begun, all_arrived}
use Rattle.call_laws.proofs.BegunWindows.{IsOpen, leaving_number}
use Rattle.rma_types.specs.declared.actions.Creation.{Creation}
use Rattle.rma_types.specs.Actions.{creation_of}
use Rattle.lawful_runs.specs.Stages.{Stage, shapes_in}
use Rattle.rank_laws.proofs.Shapes.{HasBegun, shapes_stay, arrived_has_begun}
use Rattle.rank_rules.specs.Windows.{next_number}
use Rattle.step_runs.specs.Agents.{Agent}
use Rattle.step_runs.specs.BoardSteps.{next_row}

allowed_if : (b : Bool) → cond b Allow NotYet ≡ Allow → b ≡ true
allowed_if true e = refl
allowed_if false e = absurd (cc e)

-- the arrivals at the window of a creation
arrivals_at : (q : Question) (creation : Creation) (rank : ℕ) → creation_of q.call ≡ Some creation →
    arrivals_of q rank ≡ arrivals q.entries CreationRound rank q.window
arrivals_at q creation rank makes = ap (λ (o : Option Collective). option_map_or
    (λ collective. arrivals q.entries collective rank q.window) o [])
    (ap collective_in (creates_it q.call creation makes))

-- where a rank leaves the creation of a window, all have arrived there
pub all_have_begun : (stage : Stage) (agent : Agent) (rows : List Row) (call : Call) (creation : Creation) →
    decide stage.script.ranks rows (next_row agent call Leave) ≡ Allow → creation_of call ≡ Some creation →
    IsOpen rows agent.rank agent.known.windows.created call → (rank : ℕ) → rank < stage.script.ranks →
    HasBegun rows rank (next_number agent.known.windows.created creation.win)
all_have_begun stage agent rows call creation answer makes open_ rank inside =
    arrived_has_begun rows rank number
    (subst (λ n. 1 ≤ length (arrivals (acts rows) CreationRound rank n)) window
    (more (rounds_begun q) (length (arrivals (acts rows) CreationRound rank q.window)) mine
    (subst (λ (calls : List Call). rounds_begun q ≤ length calls) (arrivals_at q creation rank makes)
    (leb-true (rounds_begun q) (length (arrivals_of q rank))
    (all_at_number (λ r. nat_le (rounds_begun q) (length (arrivals_of q r))) 0 stage.script.ranks rank
    (allowed_if (all_arrived q) answer) (omega arith) (omega arith))))))
  where
    q : Question
    q = question stage.script.ranks rows (next_row agent call Leave)

    number : ℕ
    number = next_number agent.known.windows.created creation.win

    window : q.window ≡ number
    window = leaving_number rows agent call creation open_ makes

    mine : 1 ≤ rounds_begun q
    mine = subst (λ (calls : List Call). 1 ≤ length calls) (sym (arrivals_at q creation agent.rank makes))
        (subst (λ n. 1 ≤ length (arrivals (acts rows) CreationRound agent.rank n)) (sym window)
        (open_.arrived creation makes))

    more : (a b : ℕ) → 1 ≤ a → a ≤ b → 1 ≤ b
    more a b h k = omega arith

-- so the parts that it learns stay
pub parts_stay : (stage : Stage) (agent : Agent) (rows : List Row) (call : Call) (creation : Creation) →
    decide stage.script.ranks rows (next_row agent call Leave) ≡ Allow → creation_of call ≡ Some creation →
    IsOpen rows agent.rank agent.known.windows.created call → (more : List Row) →
    shapes_in stage ((rows ++ next_row agent call Leave ∷ []) ++ more)
    (next_number agent.known.windows.created creation.win)
    ≡ shapes_in stage (rows ++ next_row agent call Leave ∷ []) (next_number agent.known.windows.created creation.win)
parts_stay stage agent rows call creation answer makes open_ more =
    let row = next_row agent call Leave in
    let number = next_number agent.known.windows.created creation.win in
    let begun = all_have_begun stage agent rows call creation answer makes open_ in
    ap (λ (all : List Row). shapes_in stage all number) (append_assoc rows (row ∷ []) more)
    ∙ shapes_stay stage rows (row ∷ more) number begun
    ∙ sym (shapes_stay stage rows (row ∷ []) number begun)
