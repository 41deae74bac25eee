-- The board refuses no entry before there is one; a rank that knows no window looks up none.
use Rattle.std.proofs.Common.{◌≡◌, ℕ, Bool, true, false, cond, List, [], ◌∷◌, ◌++◌, Option, Some, None, refl, ◌∙◌, ap}
use Rattle.std.specs.Prelude.{slice_get, ◌==◌, ℤ}
use Rattle.std.specs.List.{find, flat_map, list_any}
use Rattle.std.specs.Option.{option_map_or}
use Rattle.rma_types.specs.declared.accesses.Step.{Step}
use Rattle.rma_types.specs.declared.accesses.Step.TheVariants.{Arrive, Leave, One}
use Rattle.rma_types.specs.declared.calls.Call.{Call}
use Rattle.rma_types.specs.declared.calls.Flavor.TheVariants.{Dynamic}
use Rattle.rma_types.specs.declared.classes.Class.{Class}
use Rattle.rma_types.specs.declared.classes.Class.TheVariants.{Flavor as FlavorClass, Assert as AssertClass}
use Rattle.rma_types.specs.declared.classes.Class.TheVariants.{Sync as SyncClass}
use Rattle.board_rules.specs.Board.{refuse_if, arrive_refusal, one_refusal, meets_post, refusal}
use Rattle.board_rules.specs.Entries.{Collective, arrivals, collective_of}
use Rattle.board_rules.specs.Posts.{is_posted}
use Rattle.board_rules.specs.Questions.{Question}
use Rattle.board_rules.specs.Rounds.{arrivals_of, rounds_begun, round_arrivals, is_differing_creation}
use Rattle.board_rules.specs.Rounds.{is_differing_fence}
use Rattle.rma_types.specs.declared.actions.Action.{Action}
use Rattle.rma_types.specs.declared.actions.Action.TheVariants.{Creates, Frees, Attaches, Detaches, Synchronises, Meets}
use Rattle.rma_types.specs.declared.actions.Action.TheVariants.{Moves, EndsRequest}
use Rattle.rma_types.specs.declared.actions.Synchronisation.{Synchronisation}
use Rattle.rma_types.specs.declared.actions.Synchronisation.TheVariants.{Fences, Posts, Starts, Completes, Waits, Locks}
use Rattle.rma_types.specs.declared.actions.Synchronisation.TheVariants.{Unlocks, Flushes, Syncs}
use Rattle.rma_types.specs.declared.actions.Target.{Target}
use Rattle.rma_types.specs.declared.actions.Transfer.{Transfer}
use Rattle.rma_types.specs.declared.actions.Target.TheVariants.{Own, Null, Named}
use Rattle.rma_types.specs.Actions.{action_of}
use Rattle.call_rules.specs.Pieces.{numbers_from}
use Rattle.rank_laws.proofs.Moves.{step_by}
use Rattle.rank_rules.specs.Courses.{OneIssue, LookUpAndIssue, has_entry, is_dynamic, course_of, course_of_action}
use Rattle.rank_rules.specs.Courses.{course_of_synchronisation, course_of_transfer}
use Rattle.rank_rules.specs.Windows.{Window, RankWindows, is_same_flavor}

-- what an entry asks before there is any
abbrev pub first_question : ℕ → ℕ → Call → ℕ → Question
first_question ranks rank call window =
    record { ranks = ranks; entries = []; rank = rank; call = call; window = window }

none_arrived : (ranks rank : ℕ) (call : Call) (window other : ℕ) →
    arrivals_of (first_question ranks rank call window) other ≡ []
none_arrived ranks rank call window other = by (collective_of call)
  where
    by : (o : Option Collective) → option_map_or (λ collective. arrivals [] collective other window) o [] ≡ []
    by None = refl
    by (Some collective) = refl

none_in_round : (ranks rank : ℕ) (call : Call) (window : ℕ) → round_arrivals (first_question ranks rank call window)
    ≡ []
none_in_round ranks rank call window = each (numbers_from 0 ranks)
  where
    q : Question
    q = first_question ranks rank call window

    none_there : (o : List Call) → o ≡ [] →
        option_map_or (λ (c : Call). c ∷ []) (slice_get o (rounds_begun q)) [] ≡ []
    none_there o e = ap (λ (calls : List Call). option_map_or (λ (c : Call). c ∷ [])
        (slice_get calls (rounds_begun q)) [])
        e

    each : (numbers : List ℕ) → flat_map (λ other. option_map_or (λ (c : Call). c ∷ [])
        (slice_get (arrivals_of q other) (rounds_begun q)) []) numbers ≡ []
    each [] = refl
    each (n ∷ ns) =
        ap (λ (front : List Call). front ++ flat_map (λ other. option_map_or (λ (c : Call). c ∷ [])
        (slice_get (arrivals_of q other) (rounds_begun q)) []) ns)
        (none_there (arrivals_of q n) (none_arrived ranks rank call window n))
        ∙ each ns

none_posted : (ranks rank : ℕ) (call : Call) (window : ℕ) (numbers : List ℕ) →
    list_any (is_posted (first_question ranks rank call window)) numbers ≡ false
none_posted ranks rank call window [] = refl
none_posted ranks rank call window (n ∷ ns) = none_posted ranks rank call window ns

meets_none : (ranks rank : ℕ) (call : Call) (window : ℕ) (target : Option ℤ) →
    meets_post (first_question ranks rank call window) target ≡ false
meets_none ranks rank call window None = none_posted ranks rank call window (numbers_from 0 ranks)
meets_none ranks rank call window (Some target) = refl

-- the refusal of an entry by what its call is
abbrev refusal_by : Question → Action → Step → Option Class
refusal_by q action Arrive = arrive_refusal q action
refusal_by q action Leave = None
refusal_by q action One = one_refusal q action

refusal_is : (q : Question) (step : Step) → refusal q step ≡ refusal_by q (action_of q.call) step
refusal_is q Arrive = refl
refusal_is q Leave = refl
refusal_is q One = refl

wait_refused : (q : Question) (win : ℕ) (tests : Bool) →
    refusal_by q (Synchronises win (Waits tests)) (step_by (course_of_synchronisation (Waits tests))) ≡ None
wait_refused q win true = refl
wait_refused q win false = refl

synchronisation_refused : (ranks rank : ℕ) (call : Call) (window win : ℕ) (s : Synchronisation) →
    refusal_by (first_question ranks rank call window) (Synchronises win s) (step_by (course_of_synchronisation s)) ≡
    None
synchronisation_refused ranks rank call window win (Fences asserts) =
    ap (λ (calls : List Call). refuse_if (list_any (is_differing_fence asserts) calls) AssertClass)
    (none_in_round ranks rank call window)
synchronisation_refused ranks rank call window win (Posts group asserts) = refl
synchronisation_refused ranks rank call window win (Starts group asserts) = refl
synchronisation_refused ranks rank call window win Completes = refl
synchronisation_refused ranks rank call window win (Waits tests) =
    wait_refused (first_question ranks rank call window) win tests
synchronisation_refused ranks rank call window win (Locks kind target asserts) =
    ap (λ b. refuse_if b SyncClass) (meets_none ranks rank call window target)
synchronisation_refused ranks rank call window win (Unlocks target) = refl
synchronisation_refused ranks rank call window win (Flushes target local) = refl
synchronisation_refused ranks rank call window win Syncs = refl

-- a transfer on no window has no entry
none_dynamic : (known : RankWindows) (t : Transfer) → known.windows ≡ [] → is_dynamic known t ≡ false
none_dynamic known t e = ap (λ (windows : List Window). option_map_or
    (λ (window : Window). is_same_flavor window.flavor Dynamic)
    (find (λ (window : Window). window.win == t.win) windows) false) e

transfer_has_none : (known : RankWindows) (t : Transfer) → known.windows ≡ [] →
    has_entry (course_of_transfer known t) ≡ true → ⊥
transfer_has_none known t e has = by t.target refl
  where
    named : (b : Bool) → b ≡ false → has_entry (cond b LookUpAndIssue OneIssue) ≡ true → ⊥
    named true off k = cc off
    named false off k = cc k

    by : (target : Target) → t.target ≡ target → ⊥
    by Own is = cc (rw is at has)
    by Null is = cc (rw is at has)
    by (Named rank) is = named (is_dynamic known t) (none_dynamic known t e) (rw is at has)

action_refused : (ranks rank : ℕ) (call : Call) (window : ℕ) (known : RankWindows) (action : Action) →
    known.windows ≡ [] → has_entry (course_of_action known action) ≡ true →
    refusal_by (first_question ranks rank call window) action (step_by (course_of_action known action)) ≡ None
action_refused ranks rank call window known (Creates creation) e has =
    ap (λ (calls : List Call). refuse_if (list_any (is_differing_creation creation.flavor) calls) FlavorClass)
    (none_in_round ranks rank call window)
action_refused ranks rank call window known (Frees win) e has = refl
action_refused ranks rank call window known (Attaches win base bytes) e has = refl
action_refused ranks rank call window known (Detaches win base) e has = refl
action_refused ranks rank call window known (Synchronises win s) e has =
    synchronisation_refused ranks rank call window win s
action_refused ranks rank call window known Meets e has = refl
action_refused ranks rank call window known (Moves t) e has = absurd (transfer_has_none known t e has)
action_refused ranks rank call window known (EndsRequest req) e has = absurd (cc has)

-- the first entry of a call is not refused where there is no entry yet
pub nothing_refused : (ranks rank : ℕ) (call : Call) (window : ℕ) (known : RankWindows) → known.windows ≡ [] →
    has_entry (course_of known call) ≡ true →
    refusal (first_question ranks rank call window) (step_by (course_of known call)) ≡ None
nothing_refused ranks rank call window known e has =
    refusal_is (first_question ranks rank call window) (step_by (course_of known call))
    ∙ action_refused ranks rank call window known (action_of call) e has
