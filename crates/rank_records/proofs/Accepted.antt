-- In a lawful log an item that ends an accepted call belongs to one that its rank did not refuse by its own tests.
use Rattle.std.proofs.Common.{◌≡◌, ℕ, zero, suc, inl, inr, Bool, true, false, cond, not, List, [], ◌∷◌, ◌++◌, Option}
use Rattle.std.proofs.Common.{Some, None, refl, ap, sym, ◌∙◌, subst, take}
use Rattle.std.specs.Prelude.{slice_get, is_none, IsSomeAnd}
use Rattle.std.specs.List.{fold}
use Rattle.std.specs.Option.{option_map_or}
use Rattle.list_laws.proofs.Options.{some_and}
use Rattle.rma_types.specs.declared.accesses.Access.{Access}
use Rattle.rma_types.specs.declared.accesses.Step.{Step}
use Rattle.rma_types.specs.declared.accesses.Step.TheVariants.{Arrive, Leave, One}
use Rattle.rma_types.specs.declared.calls.Call.{Call}
use Rattle.rma_types.specs.declared.classes.Class.{Class}
use Rattle.rma_types.specs.declared.scripts.Part.{Part}
use Rattle.rma_record.specs.declared.items.Item.{Item}
use Rattle.rma_record.specs.declared.items.Item.TheVariants.{Issue, Null, Touch, Flush, Request, Entry, Tested, Refused}
use Rattle.rma_record.specs.declared.items.Item.TheVariants.{Ended}
use Rattle.rma_types.specs.declared.actions.Action.{Action}
use Rattle.rma_types.specs.declared.actions.Action.TheVariants.{Creates, Frees, Attaches, Detaches, Synchronises, Meets}
use Rattle.rma_types.specs.declared.actions.Action.TheVariants.{Moves, EndsRequest}
use Rattle.rma_types.specs.declared.actions.Synchronisation.{Synchronisation}
use Rattle.rma_types.specs.declared.actions.Synchronisation.TheVariants.{Fences, Posts, Starts, Completes, Waits, Locks}
use Rattle.rma_types.specs.declared.actions.Synchronisation.TheVariants.{Unlocks, Flushes, Syncs}
use Rattle.rma_types.specs.Actions.{action_of, transfer_in}
use Rattle.lawful_runs.specs.CallItems.{other_items, AreItemsOfCourse, AreItemsBy, AreItemsOf, AreFinished, StandsAt}
use Rattle.lawful_runs.specs.CallItems.{EndsOrStands, HasItemsOfCalls}
use Rattle.lawful_runs.specs.Items.{is_touch}
use Rattle.lawful_runs.specs.Stages.{RankOfRun, calls_here, known_at, shapes_in, first_knowledge}
use Rattle.rank_rules.specs.Courses.{Course, OneNull, OneIssue, LookUpAndIssue, OneFlush, OneRequest, ArriveAndLeave}
use Rattle.rank_rules.specs.Courses.{EntryOrTested, OneEntry, course_of, course_of_action, access_of}
use Rattle.rank_rules.specs.Courses.{course_of_synchronisation}
use Rattle.rank_rules.specs.Knowledge.{Knowledge, own_class, accepted_by, ends_call, known_after_number, learn}
use Rattle.rank_rules.specs.Windows.{RankWindows}

-- where the item ends an accepted call, the rank gave the call no class
abbrev pub IsPassed : List Call → Knowledge → Item → Type 0
IsPassed calls known item = (number : ℕ) (call : Call) → accepted_by calls item ≡ Some number →
    slice_get calls number ≡ Some call → own_class known call ≡ None

-- a look-up is that of a call that moves data
looks_up : (s : Synchronisation) → course_of_synchronisation s ≡ LookUpAndIssue → ⊥
looks_up (Fences asserts) e = cc e
looks_up (Posts group asserts) e = cc e
looks_up (Starts group asserts) e = cc e
looks_up Completes e = cc e
looks_up (Waits true) e = cc e
looks_up (Waits false) e = cc e
looks_up (Locks kind target asserts) e = cc e
looks_up (Unlocks target) e = cc e
looks_up (Flushes target local) e = cc e
looks_up Syncs e = cc e

moves_data : (known : RankWindows) (a : Action) → course_of_action known a ≡ LookUpAndIssue →
    is_none (transfer_in a) ≡ false
moves_data known (Creates creation) e = absurd (cc e)
moves_data known (Frees win) e = absurd (cc e)
moves_data known (Attaches win base bytes) e = absurd (cc e)
moves_data known (Detaches win base) e = absurd (cc e)
moves_data known (Synchronises win s) e = absurd (looks_up s e)
moves_data known Meets e = absurd (cc e)
moves_data known (Moves t) e = refl
moves_data known (EndsRequest req) e = absurd (cc e)

module _ (shapes : ℕ → List Part) (calls : List Call) where
  -- each item of the list that ends an accepted call, the first of which stands where this is known
  abbrev pub ArePassed : Knowledge → List Item → Type 0
  ArePassed known [] = Unit {0}
  ArePassed known (item ∷ items) = IsPassed calls known item × ArePassed (learn shapes calls known item) items

  passed_joined : (known : Knowledge) (xs ys : List Item) → ArePassed known xs →
      ArePassed (fold (learn shapes calls) known xs) ys → ArePassed known (xs ++ ys)
  passed_joined known [] ys one two = two
  passed_joined known (x ∷ xs) ys one two =
      (one.0, passed_joined (learn shapes calls known x) xs ys one.1 two)

  -- ---- the items of one call

  -- the item ends no call but that of this number
  abbrev EndsOnly : ℕ → Item → Type 0
  EndsOnly number item = (other : ℕ) → accepted_by calls item ≡ Some other → number ≡ other

  passes : (known : Knowledge) (number : ℕ) (call : Call) (item : Item) → own_class known call ≡ None →
      slice_get calls number ≡ Some call → EndsOnly number item → IsPassed calls known item
  passes known number call item own of ends other found accepted got =
      let same : number ≡ other = ends other accepted in
      let calls_are : call ≡ found = cc (sym of ∙ ap (slice_get calls) same ∙ got) in
      subst (λ c. own_class known c ≡ None) calls_are own

  single : (known : Knowledge) (number : ℕ) (call : Call) (items : List Item) (item : Item) →
      own_class known call ≡ None → slice_get calls number ≡ Some call → items ≡ item ∷ [] →
      EndsOnly number item → ArePassed known items
  single known number call items item own of is ends =
      subst (ArePassed known) (sym is) (passes known number call item own of ends, tt)

  nothing : (known : Knowledge) (items : List Item) (item : Item) → items ≡ item ∷ [] →
      accepted_by calls item ≡ None → ArePassed known items
  nothing known items item is none =
      subst (ArePassed known) (sym is) (λ number call accepted of. absurd (cc (none, accepted)), tt)

  issue_ends : (o : Option Access) (number : ℕ) (item : Item) →
      IsSomeAnd o (λ access. item ≡ Issue number access) → EndsOnly number item
  issue_ends o number item h other accepted =
      let one = some_and o h in
      let same : Some number ≡ Some other = sym (ap (accepted_by calls) one.2) ∙ accepted in
      cc same

  entry_by : (step : Step) (number other : ℕ) (o : Option Call) →
      option_map_or (λ (c : Call). cond (ends_call step c) (Some number) None) o None ≡ Some other → number ≡ other
  entry_by step number other None e = absurd (cc e)
  entry_by step number other (Some call) e = by_end (ends_call step call) e
    where
      by_end : (b : Bool) → ◌≡◌ {A = Option ℕ} (cond b (Some number) None) (Some other) → number ≡ other
      by_end true h = cc h
      by_end false h = absurd (cc h)

  entry_ends : (number place : ℕ) (step : Step) → EndsOnly number (Entry number place step)
  entry_ends number place step other e = entry_by step number other (slice_get calls number) e

  -- an entry that does not end its call teaches nothing
  teaches_nothing : (known : Knowledge) (number place : ℕ) (step : Step) (call : Call) →
      slice_get calls number ≡ Some call → ends_call step call ≡ false →
      learn shapes calls known (Entry number place step) ≡ known
  teaches_nothing known number place step call of ends =
      ap (λ o. option_map_or (known_after_number shapes calls known)
      (option_map_or (λ (c : Call). cond (ends_call step c) (Some number) None) o None) known) of
      ∙ ap (λ b. option_map_or (known_after_number shapes calls known) (cond b (Some number) None) known) ends

  double : (known : Knowledge) (number place : ℕ) (step : Step) (call : Call) (items : List Item) (item : Item) →
      own_class known call ≡ None → slice_get calls number ≡ Some call → ends_call step call ≡ false →
      items ≡ Entry number place step ∷ item ∷ [] → EndsOnly number item → ArePassed known items
  double known number place step call items item own of goes_on is ends =
      subst (ArePassed known) (sym is) (
        passes known number call (Entry number place step) own of (entry_ends number place step),
        subst (λ k. ArePassed k (item ∷ [])) (sym (teaches_nothing known number place step call of goes_on))
            (passes known number call item own of ends, tt),
      )

  course_passed : (course : Course) (known : Knowledge) (number : ℕ) (call : Call) (items : List Item) →
      own_class known call ≡ None → slice_get calls number ≡ Some call → course_of known.windows call ≡ course →
      AreItemsOfCourse course known number call items → ArePassed known items
  course_passed OneNull known number call items own of is h =
      single known number call items (Null number) own of h (λ other e. cc e)
  course_passed OneIssue known number call items own of is (item, issue, e) =
      single known number call items item own of e (issue_ends (access_of known.windows call) number item issue)
  course_passed LookUpAndIssue known number call items own of is (place, item, issue, e) =
      double known number place One call items item own of (moves_data known.windows (action_of call) is) e
      (issue_ends (access_of known.windows call) number item issue)
  course_passed OneFlush known number call items own of is h =
      single known number call items (Flush number) own of h (λ other e. cc e)
  course_passed OneRequest known number call items own of is h =
      single known number call items (Request number) own of h (λ other e. cc e)
  course_passed ArriveAndLeave known number call items own of is (arrived, left, e) =
      double known number arrived Arrive call items (Entry number left Leave) own of refl e
      (entry_ends number left Leave)
  course_passed EntryOrTested known number call items own of is (inl entry) =
      single known number call items (Entry number entry.0 One) own of entry.1 (entry_ends number entry.0 One)
  course_passed EntryOrTested known number call items own of is (inr tested) =
      nothing known items (Tested number tested.0) tested.1 refl
  course_passed OneEntry known number call items own of is (place, e) =
      single known number call items (Entry number place One) own of e (entry_ends number place One)

  class_passed : (o : Option Class) (known : Knowledge) (number : ℕ) (call : Call) (items : List Item) →
      own_class known call ≡ o → slice_get calls number ≡ Some call → AreItemsBy o known number call items →
      ArePassed known items
  class_passed (Some class) known number call items own of h =
      nothing known items (Refused number class 0) h refl
  class_passed None known number call items own of (inl refused) =
      nothing known items (Refused number refused.1 (suc refused.2)) refused.3 refl
  class_passed None known number call items own of (inr accepted) =
      course_passed (course_of known.windows call) known number call items own of refl accepted

  -- ---- with touches

  touch_ends : (item : Item) → is_touch item ≡ true → accepted_by calls item ≡ None
  touch_ends (Issue number access) h = absurd (cc h)
  touch_ends (Null number) h = absurd (cc h)
  touch_ends (Touch issue element cell place bits) h = refl
  touch_ends (Flush number) h = absurd (cc h)
  touch_ends (Request number) h = absurd (cc h)
  touch_ends (Entry number place step) h = absurd (cc h)
  touch_ends (Tested number seen) h = absurd (cc h)
  touch_ends (Refused number class seen) h = absurd (cc h)
  touch_ends Ended h = absurd (cc h)

  with_touches : (known : Knowledge) (log : List Item) → ArePassed known (other_items log) → ArePassed known log
  with_touches known [] h = tt
  with_touches known (x ∷ log) h =
      by_test (is_touch x) refl (λ k rest. with_touches k log rest) h
    where
      by_test : (b : Bool) → is_touch x ≡ b →
          ((k : Knowledge) → ArePassed k (other_items log) → ArePassed k log) →
          ArePassed known (cond (not b) (x ∷ other_items log) (other_items log)) → ArePassed known (x ∷ log)
      by_test true touch rest all =
          let none = touch_ends x touch in
          let same : learn shapes calls known x ≡ known =
          ap (λ o. option_map_or (known_after_number shapes calls known) o known) none in (
            λ number call accepted of. absurd (cc (none, accepted)),
            rest (learn shapes calls known x)
                (subst (λ k. ArePassed k (other_items log)) (sym same) all),
          )
      by_test false other rest all = (all.0, rest (learn shapes calls known x) all.1)

  passed_get : (known : Knowledge) (log : List Item) (k : ℕ) (item : Item) → ArePassed known log →
      slice_get log k ≡ Some item → IsPassed calls (fold (learn shapes calls) known (take k log)) item
  passed_get known [] k item h e = absurd (cc e)
  passed_get known (x ∷ log) zero item h e = let same : x ≡ item = cc e in subst (IsPassed calls known) same h.0
  passed_get known (x ∷ log) (suc k) item h e = passed_get (learn shapes calls known x) log k item h.1 e

-- ---- a lawful log

module _ (here : RankOfRun) where
  abbrev shapes : ℕ → List Part
  shapes = shapes_in here.stage here.rows

  abbrev ArePassedHere : Knowledge → List Item → Type 0
  ArePassedHere known items = ArePassed shapes (calls_here here) known items

  call_passed : (before : List Item) (number : ℕ) (items : List Item) → AreItemsOf here before number items →
      ArePassedHere (known_at here before) items
  call_passed before number items h =
      let call = some_and (slice_get (calls_here here) number) h in
      class_passed shapes (calls_here here) (own_class (known_at here before) call.0) (known_at here before) number
      call.0 items refl call.1 call.2

  finished_passed : (number : ℕ) (items : List Item) → AreFinished here number items →
      ArePassedHere (first_knowledge here.stage here.rank) items
  finished_passed zero items h = subst (ArePassedHere (first_knowledge here.stage here.rank)) (sym h) tt
  finished_passed (suc number) items (before, last, is, earlier, of) =
      subst (ArePassedHere (first_knowledge here.stage here.rank)) (sym is)
      (passed_joined shapes (calls_here here) (first_knowledge here.stage here.rank) before last
      (finished_passed number before earlier) (call_passed before number last of))

  standing_passed : (before : List Item) (number : ℕ) (call : Call) (rest : List Item) →
      slice_get (calls_here here) number ≡ Some call → StandsAt here before number call rest →
      ArePassedHere (known_at here before) rest
  standing_passed before number call rest of (own, inl none) =
      subst (ArePassedHere (known_at here before)) (sym none.0) tt
  standing_passed before number call rest of (own, inr arrived) =
      single shapes (calls_here here) (known_at here before) number call rest (Entry number arrived.0 Arrive) own of
      arrived.1 (entry_ends shapes (calls_here here) number arrived.0 Arrive)

  ending_passed : (before : List Item) (number : ℕ) (rest : List Item) → EndsOrStands here before number rest →
      ArePassedHere (known_at here before) rest
  ending_passed before number rest (inl ended) =
      nothing shapes (calls_here here) (known_at here before) rest Ended ended.1 refl
  ending_passed before number rest (inr stands) =
      let call = some_and (slice_get (calls_here here) number) stands in
      standing_passed before number call.0 rest call.1 call.2

  items_passed : (items : List Item) → HasItemsOfCalls here items →
      ArePassedHere (first_knowledge here.stage here.rank) items
  items_passed items (number, before, rest, is, finished, end) =
      subst (ArePassedHere (first_knowledge here.stage here.rank)) (sym is)
      (passed_joined shapes (calls_here here) (first_knowledge here.stage here.rank) before rest
      (finished_passed number before finished) (ending_passed before number rest end))

  -- an item of a lawful log
  pub passed_at : (log : List Item) (k : ℕ) (item : Item) → HasItemsOfCalls here (other_items log) →
      slice_get log k ≡ Some item → IsPassed (calls_here here) (known_at here (take k log)) item
  passed_at log k item has e =
      passed_get shapes (calls_here here) (first_knowledge here.stage here.rank) log k item
      (with_touches shapes (calls_here here) (first_knowledge here.stage here.rank) log
      (items_passed (other_items log) has)) e
