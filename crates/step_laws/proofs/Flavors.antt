-- All calls that create one window make it of one flavor; and no rank begins to create one window twice.
use Rattle.std.proofs.Common.{◌≡◌, ℕ, zero, suc, ◌+◌, ◌-◌, ◌<◌, ◌≤◌, Bool, true, false, cond, not, List, [], ◌∷◌, ◌++◌}
use Rattle.std.proofs.Common.{length, Option, Some, None, refl, sym, ◌∙◌, ap, subst, arith}
use Rattle.std.specs.Prelude.{◌&&◌, ◌||◌, ◌==◌, map, slice_get, is_some}
use Rattle.std.specs.List.{filter, flat_map, list_any, AllByRecursion}
use Rattle.std.specs.Option.{option_map_or}
use Rattle.std.proofs.lemmas.Bool.{and_parts, and_from, or_parts, or_left, or_right, not-false, eqb-true, eq-eqb}
use Rattle.list_laws.proofs.Each.{each_weaker}
use Rattle.rma_types.specs.declared.accesses.Step.TheVariants.{Arrive}
use Rattle.rma_types.specs.declared.calls.Call.{Call}
use Rattle.rma_types.specs.declared.calls.Flavor.{Flavor}
use Rattle.rma_types.specs.declared.calls.Flavor.TheVariants.{Allocate, Create, Dynamic}
use Rattle.rma_types.specs.declared.classes.Class.{Class}
use Rattle.rma_types.specs.declared.classes.Class.TheVariants.{Flavor as FlavorClass}
use Rattle.rma_types.specs.declared.scripts.Script.{Script}
use Rattle.rma_types.proofs.ActionLaws.{creates_it}
use Rattle.board_rules.specs.Board.{Allow, refuse_if, arrive_refusal, refusal, decision_by, is_allowed_now, decide}
use Rattle.board_rules.specs.Entries.{Row, Act, acts, window_of, is_arrive, is_creation, begins_window, creations}
use Rattle.board_rules.specs.Entries.{is_by_on, Creation as CreationRound, is_same_collective, fence_or_none}
use Rattle.board_rules.specs.Entries.{is_collective, collective_in, arrivals}
use Rattle.board_rules.specs.Questions.{Question, question}
use Rattle.board_rules.specs.Rounds.{arrivals_of, rounds_begun, is_differing_creation, has_other_flavor}
use Rattle.rma_types.specs.declared.actions.Action.{Action}
use Rattle.rma_types.specs.declared.actions.Action.TheVariants.{Creates, Frees, Attaches, Detaches, Synchronises, Meets}
use Rattle.rma_types.specs.declared.actions.Action.TheVariants.{Moves, EndsRequest}
use Rattle.rma_types.specs.declared.actions.Synchronisation.{Synchronisation}
use Rattle.rma_types.specs.declared.actions.Synchronisation.TheVariants.{Fences, Posts, Starts, Completes, Waits, Locks}
use Rattle.rma_types.specs.declared.actions.Synchronisation.TheVariants.{Unlocks, Flushes, Syncs}
use Rattle.rma_types.specs.declared.actions.Creation.{Creation}
use Rattle.rma_types.specs.Actions.{action_of, creation_in, creation_of}
use Rattle.call_rules.specs.Pieces.{numbers_from}
use Rattle.rank_rules.specs.Windows.{is_same_flavor}
use Rattle.board_rules.proofs.EntryLaws.{new_number}
use Rattle.step_laws.proofs.Creations.{IsSoundRow, IsSoundAct, acts_sound, MakesWith}
use Rattle.step_laws.proofs.Lists.{number_among}
use Rattle.step_laws.proofs.EntryNumbers.{IsNumberedAct, one_name}

-- ---- the arrivals of a round

collective_creation : (a : Action) (creation : Creation) → a ≡ Creates creation → collective_in a ≡ Some CreationRound
collective_creation a creation e = ap collective_in e

-- the arrivals of a rank at the creation of a window
abbrev pub arrives_at : ℕ → ℕ → Act → Bool
arrives_at rank window act = is_by_on rank window act && is_arrive act.row.step && is_collective CreationRound
    act.row.call

abbrev pub is_some_creation : Action → Bool
is_some_creation a = option_map_or (is_same_collective CreationRound) (collective_in a) false

no_fence : (s : Synchronisation) → option_map_or (is_same_collective CreationRound) (fence_or_none s) false ≡ true → ⊥
no_fence (Fences asserts) e = cc e
no_fence (Posts group asserts) e = cc e
no_fence (Starts group asserts) e = cc e
no_fence Completes e = cc e
no_fence (Waits tests) e = cc e
no_fence (Locks kind target asserts) e = cc e
no_fence (Unlocks target) e = cc e
no_fence (Flushes target local) e = cc e
no_fence Syncs e = cc e

-- an arrival at a creation begins it
begins_of_collective : (a : Action) → is_some_creation a ≡ true →
    (creation : Creation) × (creation_in a ≡ Some creation)
begins_of_collective (Creates creation) e = (creation, refl)
begins_of_collective (Frees win) e = absurd (cc e)
begins_of_collective (Attaches win base bytes) e = absurd (cc e)
begins_of_collective (Detaches win base) e = absurd (cc e)
begins_of_collective (Synchronises win s) e = absurd (no_fence s e)
begins_of_collective Meets e = absurd (cc e)
begins_of_collective (Moves t) e = absurd (cc e)
begins_of_collective (EndsRequest req) e = absurd (cc e)

-- what an act that arrives at the creation of a window is
pub record IsArrivalAt (rank window : ℕ) (act : Act) : Type 0 where
  pub rank_is : act.row.rank ≡ rank
  pub window_is : act.window ≡ window
  pub begins : begins_window act.row ≡ true
  pub creation : Creation
  pub makes : creation_of act.row.call ≡ Some creation

arrival_is : (rank window : ℕ) (act : Act) → arrives_at rank window act ≡ true → IsArrivalAt rank window act
arrival_is rank window act e =
    let some = and_parts (is_by_on rank window act && is_arrive act.row.step)
    (is_collective CreationRound act.row.call) e in
    let step = and_parts (is_by_on rank window act) (is_arrive act.row.step) some.0 in
    let on = and_parts (act.row.rank == rank) (act.window == window) step.0 in
    let creation = begins_of_collective (action_of act.row.call) some.1 in
    record {
      rank_is = eqb-true act.row.rank rank on.0;
      window_is = eqb-true act.window window on.1;
      begins = and_from (is_arrive act.row.step) (is_creation act.row.call) step.1 (ap is_some creation.1);
      creation = creation.0;
      makes = creation.1;
    }

arrives_if : (rank window : ℕ) (act : Act) (creation : Creation) → act.row.rank ≡ rank → act.window ≡ window →
    begins_window act.row ≡ true → creation_of act.row.call ≡ Some creation →
    arrives_at rank window act ≡ true
arrives_if rank window act creation mine on begins makes =
    and_from (is_by_on rank window act && is_arrive act.row.step) (is_collective CreationRound act.row.call)
    (and_from (is_by_on rank window act) (is_arrive act.row.step)
    (and_from (act.row.rank == rank) (act.window == window) (eq-eqb act.row.rank rank mine)
    (eq-eqb act.window window on))
    (and_parts (is_arrive act.row.step) (is_creation act.row.call) begins).0)
    (ap is_some_creation (creates_it act.row.call creation makes))

-- the first of the elements that pass, where one does
abbrev pub IsFirstOf : {X : Type 0} → (X → Bool) → (X → Type 0) → List X → Type 0
IsFirstOf {X} test P xs = (first : X) × (rest : List X) × (filter test xs ≡ first ∷ rest) × P first ×
    (test first ≡ true)

first_passing : {X : Type 0} (test : X → Bool) (P : X → Type 0) (xs : List X) → AllByRecursion P xs →
    list_any test xs ≡ true → IsFirstOf test P xs
first_passing test P [] all e = absurd (cc e)
first_passing {X} test P (x ∷ xs) all e = by_test (test x) refl (first_passing test P xs all.1) e
  where
    by_test : (b : Bool) → test x ≡ b → (list_any test xs ≡ true → IsFirstOf test P xs) →
        (b || list_any test xs) ≡ true →
        (first : X) × (rest : List X) × (cond b (x ∷ filter test xs) (filter test xs) ≡ first ∷ rest) × P first ×
        (test first ≡ true)
    by_test true t rest h = (x, filter test xs, refl, all.0, t)
    by_test false t rest h = rest h

none_passing : {X : Type 0} (test : X → Bool) (xs : List X) → AllByRecursion (λ x. test x ≡ true → ⊥) xs →
    filter test xs ≡ []
none_passing test [] h = refl
none_passing {X} test (x ∷ xs) h = by_test (test x) refl (none_passing test xs h.1)
  where
    by_test : (b : Bool) → test x ≡ b → filter test xs ≡ [] → cond b (x ∷ filter test xs) (filter test xs) ≡ []
    by_test true t rest = absurd (h.0 t)
    by_test false t rest = rest

-- what no element of a joined list is, none of one of its parts is
none_of_part : {X : Type 0} (test : X → Bool) (f : ℕ → List X) (first count n : ℕ) →
    list_any test (flat_map f (numbers_from first count)) ≡ false → first ≤ n → n < first + count →
    list_any test (f n) ≡ false
none_of_part test f first zero n e low high = absurd (omega arith)
none_of_part test f first (suc count) n e low high = number_among (λ k. list_any test (f k) ≡ false) first (suc count)
    n (parts first (suc count) e) low high
  where
    split : {X : Type 0} (test : X → Bool) (xs ys : List X) → list_any test (xs ++ ys) ≡ false →
        (list_any test xs ≡ false) × (list_any test ys ≡ false)
    split test [] ys e = (refl, e)
    split test (x ∷ xs) ys e =
        let one = or_parts (test x) (list_any test (xs ++ ys)) e in let rest = split test xs ys one.1 in
        (ap (λ b. b || list_any test xs) one.0 ∙ rest.0, rest.1)

    parts : (first count : ℕ) → list_any test (flat_map f (numbers_from first count)) ≡ false →
        AllByRecursion (λ k. list_any test (f k) ≡ false) (numbers_from first count)
    parts first zero e = tt
    parts first (suc count) e = let two = split test (f first) (flat_map f (numbers_from (first + 1) count)) e
        in (two.0, parts (first + 1) count two.1)

-- ---- one flavor

pub same_flavor : (a b : Flavor) → is_same_flavor a b ≡ true → a ≡ b
same_flavor Allocate Allocate e = refl
same_flavor Allocate Create e = absurd (cc e)
same_flavor Allocate Dynamic e = absurd (cc e)
same_flavor Create Allocate e = absurd (cc e)
same_flavor Create Create e = refl
same_flavor Create Dynamic e = absurd (cc e)
same_flavor Dynamic Allocate e = absurd (cc e)
same_flavor Dynamic Create e = absurd (cc e)
same_flavor Dynamic Dynamic e = refl

-- each window is made of one flavor
abbrev pub AreOfOneFlavor : List Act → Type 0
AreOfOneFlavor entries = (window : ℕ) → (flavor : Flavor) × AllByRecursion (MakesWith flavor window) entries

allowed_refusal : (o : Option Class) (allowed : Bool) → decision_by o allowed ≡ Allow → o ≡ None
allowed_refusal None allowed e = refl
allowed_refusal (Some class) allowed e = absurd (cc e)

-- an Arrive that is allowed meets no other flavor
meets_no_other : (script : Script) (rows : List Row) (row : Row) (creation : Creation) → row.step ≡ Arrive →
    creation_of row.call ≡ Some creation → decide script.ranks rows row ≡ Allow →
    has_other_flavor (question script.ranks rows row) creation.flavor ≡ false
meets_no_other script rows row creation step makes allowed =
    let q = question script.ranks rows row in
    let none : refusal q row.step ≡ None = allowed_refusal (refusal q row.step) (is_allowed_now q row.step) allowed in
    let arrive : refusal q Arrive ≡ None = subst (λ s. refusal q s ≡ None) step none in
    let flavor : refuse_if (has_other_flavor q creation.flavor) FlavorClass ≡ None = subst
    (λ a. arrive_refusal q a ≡ None) (creates_it row.call creation makes) arrive in
    not_refused (has_other_flavor q creation.flavor) flavor
  where
    not_refused : (b : Bool) → refuse_if b FlavorClass ≡ None → b ≡ false
    not_refused true e = absurd (cc e)
    not_refused false e = refl

-- each element is found by a test that it passes
each_is_found : {X : Type 0} (xs : List X) → AllByRecursion
    (λ x. (test : X → Bool) → test x ≡ true → list_any test xs ≡ true) xs
each_is_found [] = tt
each_is_found {X} (y ∷ ys) = (
  λ test e. or_left (test y) (list_any test ys) e,
  each_weaker (λ x. (test : X → Bool) → test x ≡ true → list_any test ys ≡ true)
      (λ x. (test : X → Bool) → test x ≡ true → (test y || list_any test ys) ≡ true)
      (λ x h test e. or_right (test y) (list_any test ys) (h test e)) ys (each_is_found ys),
)

-- two facts of each element
both_of_each : {X : Type 0} (P Q : X → Type 0) (xs : List X) → AllByRecursion P xs → AllByRecursion Q xs →
    AllByRecursion (λ x. P x × Q x) xs
both_of_each P Q [] h k = tt
both_of_each P Q (x ∷ xs) h k = ((h.0, k.0), both_of_each P Q xs h.1 k.1)

-- ---- one more entry, of the flavor of those before it

-- the entries before are of the script's calls, on windows of one flavor each with the numbers of their rounds
pub record AreRegular (script : Script) (rows : List Row) : Type 0 where
  pub sound : AllByRecursion (IsSoundRow script) rows
  pub numbered : AllByRecursion (IsNumberedAct rows) (acts rows)
  pub flavors : AreOfOneFlavor (acts rows)

-- the rank of an entry that begins to create a window has no arrival there
first_arrival : (script : Script) (rows : List Row) (row : Row) (creation : Creation) → AreRegular script rows →
    begins_window row ≡ true → creation_of row.call ≡ Some creation →
    creation.win < 32 → filter (arrives_at row.rank (window_of rows row)) (acts rows) ≡ []
first_arrival script rows row creation regular begins makes small =
    none_passing (arrives_at row.rank (window_of rows row)) (acts rows)
    (each_weaker (IsNumberedAct rows) (λ act. arrives_at row.rank (window_of rows row) act ≡ true → ⊥) never
    (acts rows) regular.numbered)
  where
    apart : (round most : ℕ) → round ≡ most → round < most → ⊥
    apart round most e h = omega arith

    never : (act : Act) → IsNumberedAct rows act → arrives_at row.rank (window_of rows row) act ≡ true → ⊥
    never act numbered passes =
        let is = arrival_is row.rank (window_of rows row) act passes in
        let number = numbered is.begins is.creation is.makes in
        let one = one_name number.round (creations rows row.rank creation.win) is.creation.win creation.win
        number.name small
        (sym number.number ∙ is.window_is ∙ new_number rows row creation begins makes) in
        apart number.round (creations rows row.rank creation.win) one.0
        (subst (λ n. number.round < creations rows row.rank n) one.1
        (subst (λ r. number.round < creations rows r is.creation.win) is.rank_is number.below))

-- the arrivals of a rank at the window that an entry begins to create
arrivals_are : (script : Script) (rows : List Row) (row : Row) (creation : Creation) (rank : ℕ) →
    creation_of row.call ≡ Some creation →
    arrivals_of (question script.ranks rows row) rank ≡ map (λ (act : Act). act.row.call)
    (filter (arrives_at rank (window_of rows row)) (acts rows))
arrivals_are script rows row creation rank makes =
    ap (λ o. option_map_or (λ collective. arrivals (acts rows) collective rank (window_of rows row)) o [])
    (collective_creation (action_of row.call) creation (creates_it row.call creation makes))

-- an entry that begins to create the same window makes it of the same flavor
pub same_as_new : (script : Script) (rows : List Row) (row : Row) (creation : Creation) → AreRegular script rows →
    begins_window row ≡ true → creation_of row.call ≡ Some creation →
    creation.win < 32 → row.step ≡ Arrive → decide script.ranks rows row ≡ Allow →
    AllByRecursion (MakesWith creation.flavor (window_of rows row)) (acts rows)
same_as_new script rows row creation regular begins makes small step allowed =
    each_weaker (λ act. IsSoundAct script act ×
    (MakesWith flavor.0 window act × ((test : Act → Bool) → test act ≡ true → list_any test (acts rows) ≡ true)))
    (MakesWith creation.flavor window) same (acts rows)
    (both_of_each (IsSoundAct script)
    (λ act. MakesWith flavor.0 window act ×
    ((test : Act → Bool) → test act ≡ true → list_any test (acts rows) ≡ true)) (acts rows)
    (acts_sound script rows regular.sound)
    (both_of_each (MakesWith flavor.0 window)
    (λ act. (test : Act → Bool) → test act ≡ true → list_any test (acts rows) ≡ true) (acts rows) flavor.1
    (each_is_found (acts rows))))
  where
    window : ℕ
    window = window_of rows row

    flavor : (f : Flavor) × AllByRecursion (MakesWith f (window_of rows row)) (acts rows)
    flavor = regular.flavors (window_of rows row)

    q : Question
    q = question script.ranks rows row

    in_round : ℕ → List Call
    in_round rank = option_map_or (λ call. call ∷ []) (slice_get (arrivals_of q rank) (rounds_begun q)) []

    none_begun : rounds_begun q ≡ 0
    none_begun = ap length (arrivals_are script rows row creation row.rank makes
        ∙ ap (map (λ (act : Act). act.row.call)) (first_arrival script rows row creation regular begins makes small))

    -- the first arrival of a rank is of the flavor of the new one
    first_is : (rank : ℕ) → rank < script.ranks → (first : Act) (rest : List Act) →
        filter (arrives_at rank window) (acts rows) ≡ first ∷ rest → arrives_at rank window first ≡ true →
        MakesWith flavor.0 window first → flavor.0 ≡ creation.flavor
    first_is rank inside first rest there passes makes_with =
        let is = arrival_is rank window first passes in
        let here : in_round rank ≡ first.row.call ∷ [] =
        ap (λ n. option_map_or (λ call. call ∷ []) (slice_get (arrivals_of q rank) n) []) none_begun
        ∙ ap (λ l. option_map_or (λ (call : Call). call ∷ []) (slice_get l 0) [])
        (arrivals_are script rows row creation rank makes ∙ ap (map (λ (act : Act). act.row.call)) there) in
        let none = subst (λ l. list_any (is_differing_creation creation.flavor) l ≡ false) here
        (none_of_part (is_differing_creation creation.flavor) in_round 0 script.ranks rank
        (meets_no_other script rows row creation step makes allowed) (omega arith) (omega arith)) in
        let same' = (or_parts (is_differing_creation creation.flavor first.row.call) false none).0 in
        let flavors = subst (λ o. option_map_or
        (λ (other : Creation). not (is_same_flavor creation.flavor other.flavor)) o false ≡ false) is.makes same' in
        sym (makes_with is.begins is.window_is is.creation is.makes)
        ∙ sym (same_flavor creation.flavor is.creation.flavor
        (not-false (is_same_flavor creation.flavor is.creation.flavor) flavors))

    same : (act : Act) → (IsSoundAct script act ×
        (MakesWith flavor.0 window act × ((test : Act → Bool) → test act ≡ true → list_any test (acts rows) ≡ true))) →
        MakesWith creation.flavor window act
    same act (sound, (makes_with, found)) begins' on other makes' =
        let first = first_passing (arrives_at act.row.rank window) (MakesWith flavor.0 window) (acts rows) flavor.1
        (found (arrives_at act.row.rank window) (arrives_if act.row.rank window act other refl on begins' makes')) in
        makes_with begins' on other makes' ∙ first_is act.row.rank sound.inside first.0 first.1 first.2 first.4 first.3
