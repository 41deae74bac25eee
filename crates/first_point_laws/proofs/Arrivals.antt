-- The arrival at a fence stands for its leavings: what is after the arrival, and no touch, is after one of them.
use Rattle.std.proofs.Common.{◌≡◌, ℕ, zero, suc, ◌+◌, ◌<◌, ◌≤◌, ◌⊎◌, inl, inr, true, List, [], ◌∷◌, ◌++◌}
use Rattle.std.proofs.Common.{length, Some, refl, ap, sym, ◌∙◌, subst, arith}
use Rattle.std.specs.Prelude.{◌≢◌, slice_get, slice_index_or}
use Rattle.std.specs.List.{AllByRecursion}
use Rattle.std.specs.Option.{option_map_or}
use Rattle.std.proofs.lemmas.Bool.{and_parts, cases_eq, cases_lt}
use Rattle.std.proofs.lemmas.Option.{some_pair_parts}
use Rattle.list_laws.proofs.Each.{each_at}
use Rattle.list_laws.proofs.Lists.{some_within}
use Rattle.list_laws.proofs.Members.{each_in, In, here}
use Rattle.rma_types.specs.declared.accesses.Id.{Id}
use Rattle.rma_types.specs.declared.accesses.Step.{Step}
use Rattle.rma_types.specs.declared.accesses.Step.TheVariants.{Arrive, Leave, One}
use Rattle.rma_types.specs.declared.calls.Call.{Call}
use Rattle.rma_types.specs.declared.schedules.Delay.{Delay}
use Rattle.rma_types.specs.declared.scripts.Script.{Script}
use Rattle.rma_record.specs.declared.items.Item.{Item}
use Rattle.rma_record.specs.declared.items.Item.TheVariants.{Issue, Null, Touch, Flush, Request, Entry, Tested, Refused}
use Rattle.rma_record.specs.declared.items.Item.TheVariants.{Ended}
use Rattle.rma_record.specs.declared.runs.Run.{Run}
use Rattle.board_rules.specs.Entries.{Fence, is_arrive, is_collective}
use Rattle.board_rules.proofs.EntryLaws.{arrive_is}
use Rattle.lawful_runs.specs.BoardLaw.{NamesItsCall, NamesCallOf}
use Rattle.lawful_runs.specs.Items.{is_touch}
use Rattle.lawful_runs.specs.LawfulRun.{IsLawful, rank_in}
use Rattle.lawful_runs.specs.Logs.{log_of, calls_of, named_items}
use Rattle.order_rules.specs.Before.{Before, Same, InLog, Across, events_in, leads_to}
use Rattle.order_rules.specs.CallSteps.{CallStep, known_before, step_by, steps_of_item, steps_in}
use Rattle.order_rules.specs.DonePoints.{arrives_at_fence}
use Rattle.order_laws.proofs.Order.{edge_between, edge_from, event_at, log_before}
use Rattle.read_laws.proofs.Begun.{item_member}
use Rattle.read_laws.proofs.Steps.{IsStep}
use Rattle.read_laws.proofs.Touches.{in_flat_map}
use Rattle.first_point_laws.proofs.Between.{row_in, event_with, are_two}
use Rattle.first_point_laws.proofs.FenceEdges.{own_edge}
use Rattle.first_point_laws.proofs.Followed.{IsArrived, arrived}
use Rattle.first_point_laws.specs.PointLaws.{NamesNoTouch}

-- ---- lists

-- an element behind another, in a list whose rest has the property
behind : {X : Type 0} (P : X → Type 0) (xs : List X) (x : X) (ys : List X) (k : ℕ) (y : X) → AllByRecursion P ys →
    length xs < k → slice_get (xs ++ x ∷ ys) k ≡ Some y → P y
behind P [] x ys zero y all below e = absurd (omega (arith, below))
behind P [] x ys (suc k) y all below e = each_at P ys k y all e
behind P (z ∷ xs) x ys zero y all below e = absurd (omega (arith, below))
behind P (z ∷ xs) x ys (suc k) y all below e = behind P xs x ys k y all (omega (arith, below)) e

in_front : {X : Type 0} (P : X → Type 0) (xs ys : List X) (k : ℕ) (y : X) → AllByRecursion P xs → k < length xs →
    slice_get (xs ++ ys) k ≡ Some y → P y
in_front P [] ys k y all below e = absurd (omega (arith, below))
in_front P (x ∷ xs) ys zero y all below e = let same : x ≡ y = cc e in subst P same all.0
in_front P (x ∷ xs) ys (suc k) y all below e = in_front P xs ys k y all.1 (omega (arith, below)) e

-- an element between two others, where those between have the property
amid : {X : Type 0} (P : X → Type 0) (xs : List X) (x : X) (ys zs : List X) (k : ℕ) (y : X) → AllByRecursion P ys →
    length xs < k → k < suc (length xs + length ys) → slice_get (xs ++ x ∷ (ys ++ zs)) k ≡ Some y → P y
amid P [] x ys zs zero y all below above e = absurd (omega (arith, below))
amid P [] x ys zs (suc k) y all below above e = in_front P ys zs k y all (omega (arith, above)) e
amid P (z ∷ xs) x ys zs zero y all below above e = absurd (omega (arith, below))
amid P (z ∷ xs) x ys zs (suc k) y all below above e =
    amid P xs x ys zs k y all (omega (arith, below)) (omega (arith, above)) e

next_at : {X : Type 0} (ys : List X) (y : X) (zs : List X) → slice_get (ys ++ y ∷ zs) (length ys) ≡ Some y
next_at [] y zs = refl
next_at (x ∷ ys) y zs = next_at ys y zs

got_at : {X : Type 0} (xs : List X) (x : X) (ys : List X) (y : X) (zs : List X) →
    slice_get (xs ++ x ∷ (ys ++ y ∷ zs)) (suc (length xs + length ys)) ≡ Some y
got_at [] x ys y zs =
    let same : 0 + length ys ≡ length ys = omega arith in ap (slice_get (ys ++ y ∷ zs)) same ∙ next_at ys y zs
got_at (z ∷ xs) x ys y zs =
    let same : suc (length xs) + length ys ≡ suc (length xs + length ys) = omega arith in
    ap (slice_get (xs ++ x ∷ (ys ++ y ∷ zs))) same ∙ got_at xs x ys y zs

within_logs : (logs : List (List Item)) (rank k : ℕ) (item : Item) →
    slice_get (slice_index_or logs rank []) k ≡ Some item → rank < length logs
within_logs [] rank k item e = absurd (cc e)
within_logs (log ∷ logs) zero k item e = omega arith
within_logs (log ∷ logs) (suc rank) k item e = let rest = within_logs logs rank k item e in omega (arith, rest)

-- ---- steps

-- the item of a step which is an Arrive
arrive_item : (item : Item) (number : ℕ) (step : Step) → step_by item ≡ Some (number, step) → step ≡ Arrive →
    (place : ℕ) × (item ≡ Entry number place Arrive)
arrive_item (Issue other access) number step e is = absurd (cc e)
arrive_item (Null other) number step e is = absurd (cc e)
arrive_item (Touch issue element cell place bits) number step e is = absurd (cc e)
arrive_item (Flush other) number step e is =
    let one : One ≡ step = (some_pair_parts other number One step e).1 in absurd (cc (one, is))
arrive_item (Request other) number step e is =
    let one : One ≡ step = (some_pair_parts other number One step e).1 in absurd (cc (one, is))
arrive_item (Entry other place first) number step e is =
    let same = some_pair_parts other number first step e in
    let steps : first ≡ Arrive = same.1 ∙ is in
    let numbers : other ≡ number = same.0 in (place, λ i. Entry (numbers i) place (steps i))
arrive_item (Tested other seen) number step e is = absurd (cc e)
arrive_item (Refused other class seen) number step e is = absurd (cc e)
arrive_item Ended number step e is = absurd (cc e)

-- an entry of a log is a step of the run
entry_step : (script : Script) (run : Run) (id : Id) (number place : ℕ) (step : Step) (call : Call) →
    id.rank < length run.logs → slice_get (log_of run id.rank) id.index ≡ Some (Entry number place step) →
    slice_get (calls_of script id.rank) number ≡ Some call →
    In {X = CallStep} (record { id = id; call = call; step = step; known = known_before script run id })
    (steps_in script run)
entry_step script run id number place step call within logged of =
    let known = known_before script run id in
    in_flat_map (steps_of_item script run)
    (item_member run id.rank id.index (Entry number place step) within logged)
    (subst (λ o. In {X = CallStep} (record { id = id; call = call; step = step; known = known })
    (option_map_or (λ c. record { id = id; call = c; step = step; known = known } ∷ []) o [])) (sym of) here)

module _ (script : Script) (delay : Delay) (run : Run) (lawful : IsLawful script delay run) (y : CallStep)
    (step : IsStep script run y) (arrives : arrives_at_fence y ≡ true) where
  fence : is_collective Fence y.call ≡ true
  fence = (and_parts (is_arrive y.step) (is_collective Fence y.call) arrives).1

  entry : (place : ℕ) × (step.item ≡ Entry step.number place Arrive)
  entry = arrive_item step.item step.number y.step step.step_is
      (arrive_is y.step (and_parts (is_arrive y.step) (is_collective Fence y.call) arrives).0)

  logged : slice_get (log_of run y.id.rank) y.id.index ≡ Some (Entry step.number entry.0 Arrive)
  logged = step.logged ∙ ap Some entry.1

  in_run : y.id.rank < length run.logs
  in_run = within_logs run.logs y.id.rank y.id.index step.item step.logged

  within : y.id.rank < script.ranks
  within = omega (arith, in_run, lawful.ranks)

  parted : IsArrived (log_of run y.id.rank) y.id.index step.number entry.0
  parted = arrived (rank_in script delay run y.id.rank) (log_of run y.id.rank)
      (lawful.logs y.id.rank within).calls y.id.index step.number entry.0 logged

  -- no item but touches stands behind the arrival up to this index
  TouchesUntil : ℕ → Type 0
  TouchesUntil most = (k : ℕ) (item : Item) → y.id.index < k → k ≤ most →
      slice_get (log_of run y.id.rank) k ≡ Some item → is_touch item ≡ true

  -- a step to which the arrival leads stands in its log at this index or before it
  LeavesUntil : ℕ → Type 0
  LeavesUntil most = (x : CallStep) × In x (steps_in script run)
      × (leads_to (events_in script run) y.id x.id ≡ true) × (y.id.rank ≡ x.id.rank) × (x.id.index ≤ most)

  -- the Leave of the arrival's own rank is such a step
  own_leave : (index left : ℕ) → y.id.index < index →
      slice_get (log_of run y.id.rank) index ≡ Some (Entry step.number left Leave) →
      ((k : ℕ) (item : Item) → y.id.index < k → k < index → slice_get (log_of run y.id.rank) k ≡ Some item →
      is_touch item ≡ true) → LeavesUntil index
  unfolding LeavesUntil
  own_leave index left below of_leave touches =
      let id : Id = record { rank = y.id.rank; index = index } in
      let first = row_in y.id.rank step.number Arrive y.call in
      let two = are_two script delay run lawful y.id.rank y.id.index index step.number Arrive Leave y.call entry.0 left
      within below
      (record { logged = logged; of_rank = step.call_is })
      (record { logged = of_leave; of_rank = step.call_is })
      (λ k n p u above under e. absurd (cc (touches k (Entry n p u) above under e))) in
      let edge = own_edge script.ranks y.id.rank step.number y.call two.before two.between fence two.others entry.0
      left in (
        record { id = id; call = y.call; step = Leave; known = known_before script run id },
        entry_step script run id step.number left Leave y.call in_run of_leave step.call_is,
        edge_from (events_in script run) (event_with script.ranks y.id entry.0 two.before first)
            (event_with script.ranks id left (two.before ++ first ∷ two.between)
            (row_in y.id.rank step.number Leave y.call)) two.of_first two.of_second edge,
        refl,
        omega arith,
      )

  -- behind the arrival stand touches alone up to an index, or its Leave stands there
  next_leaves : (most : ℕ) → TouchesUntil most ⊎ LeavesUntil most
  unfolding TouchesUntil LeavesUntil
  next_leaves most = elim parted.followed [
    | inl all ↦ inl (λ k item above under e.
        behind (λ i. is_touch i ≡ true) parted.earlier (Entry step.number entry.0 Arrive) parted.later k item all
        (omega (arith, parted.long, above)) (subst (λ l. slice_get l k ≡ Some item) parted.split e))
    | inr (touches, left, rest, is, all) ↦
        let index : ℕ = suc (length parted.earlier + length touches) in
        let whole : log_of run y.id.rank ≡ parted.earlier ++ Entry step.number entry.0 Arrive
        ∷ (touches ++ Entry step.number left Leave ∷ rest) =
        parted.split ∙ ap (λ l. parted.earlier ++ Entry step.number entry.0 Arrive ∷ l) is in
        let quiet : (k : ℕ) (item : Item) → y.id.index < k → k < index →
        slice_get (log_of run y.id.rank) k ≡ Some item → is_touch item ≡ true = λ k item above under e.
        amid (λ i. is_touch i ≡ true) parted.earlier (Entry step.number entry.0 Arrive) touches
        (Entry step.number left Leave ∷ rest) k item all (omega (arith, parted.long, above)) under
        (subst (λ l. slice_get l k ≡ Some item) whole e) in
        elim (cases_lt most index) [
          | inl early ↦ inl (λ k item above under e. quiet k item above (omega (arith, under, early)) e)
          | inr late ↦
              let own = own_leave index left (omega (arith, parted.long))
              (ap (λ l. slice_get l index) whole
              ∙ got_at parted.earlier (Entry step.number entry.0 Arrive) touches (Entry step.number left Leave) rest)
              quiet in
              inr (own.0, own.1, own.2, own.3, omega (arith, own.4, late))
        ]
  ]

  -- ---- along the order

  -- the item is after a step to which the arrival leads
  IsAfterLeaves : Id → Type 0
  IsAfterLeaves c = (x : CallStep) × In x (steps_in script run)
      × (leads_to (events_in script run) y.id x.id ≡ true) × Before script run x.id c

  -- it stands in the log of the arrival, with nothing but touches up to it
  IsEarly : Id → Type 0
  IsEarly c = (y.id.rank ≡ c.rank) × (y.id.index ≤ c.index) × TouchesUntil c.index

  -- further in the log
  in_log : (b c : Id) → IsEarly b → b.rank ≡ c.rank → b.index < c.index → IsEarly c ⊎ IsAfterLeaves c
  unfolding IsEarly IsAfterLeaves LeavesUntil
  in_log b c early rank below = elim (next_leaves c.index) [
    | inl touches ↦ inl (early.0 ∙ rank, omega (arith, early.1, below), touches)
    | inr (x, of_run, edge, of_rank, last) ↦
        inr (x, of_run, edge, log_before script delay run lawful x.id c (sym of_rank ∙ early.0 ∙ rank) last)
  ]

  -- across an edge from an item that stands before the Leave: it is the arrival, since touches have no edges
  across : (b c : Id) → IsEarly b → leads_to (events_in script run) b c ≡ true → IsAfterLeaves c
  unfolding IsEarly IsAfterLeaves TouchesUntil
  across b c early edge =
      let ends = edge_between (events_in script run) b c edge in
      let first = event_at script delay run lawful ends.0 ends.2 in
      let second = event_at script delay run lawful ends.1 ends.3 in
      let is_c : ends.1.id ≡ c = ends.5 in
      let place : ℕ = ends.1.event.place in
      let at_c : slice_get (log_of run c.rank) c.index ≡ Some (Entry second.number place ends.1.event.step) =
      subst (λ (i : Id). slice_get (log_of run i.rank) i.index
      ≡ Some (Entry second.number place ends.1.event.step)) is_c second.logged in
      let c_in_run = within_logs run.logs c.rank c.index (Entry second.number place ends.1.event.step) at_c in
      let names : NamesCallOf script c.rank (Entry second.number place ends.1.event.step) =
      each_in (NamesItsCall script) (named_items run) lawful.board.entries.calls
      (item_member run c.rank c.index (Entry second.number place ends.1.event.step) c_in_run at_c) in
      let call = some_within (calls_of script c.rank) second.number names in
      let at_b : slice_get (log_of run y.id.rank) b.index ≡ Some
      (Entry first.number ends.0.event.place ends.0.event.step) =
      subst (λ r. slice_get (log_of run r) b.index ≡ Some
      (Entry first.number ends.0.event.place ends.0.event.step)) (sym early.0)
      (subst (λ (i : Id). slice_get (log_of run i.rank) i.index ≡ Some
      (Entry first.number ends.0.event.place ends.0.event.step)) ends.4 first.logged) in
      elim (cases_eq y.id.index b.index) [
        | inl same ↦
            let is_b : b ≡ y.id = λ i. record { rank = (sym early.0) i; index = (sym same) i } in (
              record { id = c; call = call.0; step = ends.1.event.step; known = known_before script run c },
              entry_step script run c second.number place ends.1.event.step call.0 c_in_run at_c call.1,
              subst (λ a. leads_to (events_in script run) a c ≡ true) is_b edge,
              Same,
            )
        | inr other ↦
            let touch = early.2 b.index (Entry first.number ends.0.event.place ends.0.event.step)
            (omega (arith, early.1, other)) (omega arith) at_b in absurd (cc touch)
      ]

  -- what is after the arrival is one of the two
  reached : (c : Id) → Before script run y.id c → IsEarly c ⊎ IsAfterLeaves c
  unfolding IsEarly IsAfterLeaves TouchesUntil
  reached c Same = inl (refl, omega arith, λ k item above under e. absurd (omega (arith, above, under)))
  reached c (InLog {b} rest stands) = elim (reached b rest) [
    | inl early ↦ in_log b c early stands.0 stands.1
    | inr (x, of_run, edge, order) ↦ inr (x, of_run, edge, InLog order stands)
  ]
  reached c (Across {b} rest edge) = elim (reached b rest) [
    | inl early ↦ inr (across b c early edge)
    | inr (x, of_run, led, order) ↦ inr (x, of_run, led, Across order edge)
  ]

  -- an item other than the arrival, which is no touch, is after one of the steps to which the arrival leads
  pub stands : (id : Id) → NamesNoTouch run id → id ≢ y.id → Before script run y.id id →
      (x : CallStep) × In x (steps_in script run) × (leads_to (events_in script run) y.id x.id ≡ true)
      × Before script run x.id id
  unfolding IsEarly IsAfterLeaves TouchesUntil
  stands id named other order = elim (reached id order) [
    | inr after ↦ after
    | inl early ↦ elim (cases_eq y.id.index id.index) [
      | inl same ↦ absurd (other (λ i. record { rank = (sym early.0) i; index = (sym same) i }))
      | inr apart ↦
          let touch = early.2 id.index named.item (omega (arith, early.1, apart)) (omega arith)
          (ap (λ r. slice_get (log_of run r) id.index) early.0 ∙ named.there) in
          absurd (cc (touch, named.other))
    ]
  ]
