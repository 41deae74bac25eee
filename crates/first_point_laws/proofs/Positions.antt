-- Where an item stands in a lawful log: after the items of the finished calls, among those of its own.
use Rattle.std.proofs.Common.{◌≡◌, ℕ, zero, suc, ◌⊎◌, inl, inr, Bool, true, false, not, List, [], ◌∷◌, ◌++◌}
use Rattle.std.proofs.Common.{take, drop, Option, Some, None, refl, ap, sym, ◌∙◌, subst}
use Rattle.std.specs.Prelude.{slice_get, is_none, if◌then◌else◌}
use Rattle.std.proofs.lemmas.List.{append-nil}
use Rattle.std.proofs.lemmas.List.Elements.{filter-append}
use Rattle.std.proofs.lemmas.Option.{some_pair_parts}
use Rattle.list_laws.proofs.Options.{some_and}
use Rattle.rma_types.specs.declared.accesses.Access.{Access}
use Rattle.rma_types.specs.declared.accesses.Step.{Step}
use Rattle.rma_types.specs.declared.accesses.Step.TheVariants.{Arrive, Leave, One}
use Rattle.rma_types.specs.declared.calls.Call.{Call}
use Rattle.rma_types.specs.declared.classes.Class.{Class}
use Rattle.rma_types.proofs.ActionLaws.{is_synchronising}
use Rattle.rma_record.specs.declared.items.Item.{Item}
use Rattle.rma_record.specs.declared.items.Item.TheVariants.{Issue, Null, Flush, Request, Entry, Tested, Refused, Ended}
use Rattle.rank_rules.proofs.KnowledgeLaws.{learns_nothing}
use Rattle.board_rules.specs.Posts.{is_wait}
use Rattle.rma_types.specs.declared.actions.Synchronisation.{Synchronisation}
use Rattle.rma_types.specs.declared.actions.Synchronisation.TheVariants.{Fences, Posts, Starts, Completes, Waits, Locks}
use Rattle.rma_types.specs.declared.actions.Synchronisation.TheVariants.{Unlocks, Flushes, Syncs}
use Rattle.rma_types.specs.Actions.{action_of, synchronisation_of}
use Rattle.lawful_runs.specs.CallItems.{other_items, AreItemsOfCourse, AreItemsBy, AreItemsOf, AreFinished, StandsAt}
use Rattle.lawful_runs.specs.CallItems.{EndsOrStands, HasItemsOfCalls}
use Rattle.lawful_runs.specs.Items.{is_touch}
use Rattle.lawful_runs.specs.Stages.{RankOfRun, calls_here, known_at, shapes_in, first_knowledge}
use Rattle.order_rules.specs.CallSteps.{step_by}
use Rattle.rank_rules.specs.Courses.{Course, OneNull, OneIssue, LookUpAndIssue, OneFlush, OneRequest, ArriveAndLeave}
use Rattle.rank_rules.specs.Courses.{EntryOrTested, OneEntry, course_of_synchronisation, course_of_action, course_of}
use Rattle.rank_rules.specs.Courses.{access_of}
use Rattle.rank_rules.specs.Knowledge.{own_class, learn}
use Rattle.rank_rules.specs.Windows.{RankWindows}
use Rattle.read_laws.proofs.Lessons.{fold_joined}
use Rattle.step_laws.proofs.EntryMoves.{IsOneEntry}
use Rattle.step_laws.proofs.OwnTests.{HasIssue, transfer_with_issue}

-- ---- lists

none_at : {X : Type 0} (us vs : List X) (x : X) → us ++ x ∷ vs ≡ [] → ⊥
none_at [] vs x e = cc e
none_at (u ∷ us) vs x e = cc e

single_at : {X : Type 0} (us vs : List X) (x y : X) → us ++ x ∷ vs ≡ y ∷ [] → (us ≡ []) × (x ≡ y)
single_at [] vs x y e = (refl, cc e)
single_at (u ∷ us) vs x y e = absurd (none_at us vs x (cc e))

pair_at : {X : Type 0} (us vs : List X) (x y z : X) → us ++ x ∷ vs ≡ y ∷ z ∷ [] →
    ((us ≡ []) × (x ≡ y)) ⊎ ((us ≡ y ∷ []) × (x ≡ z))
pair_at [] vs x y z e = inl (refl, cc e)
pair_at (u ∷ us) vs x y z e =
    let same : u ≡ y = cc e in
    let rest = single_at us vs x z (cc e) in inr (λ i. same i ∷ rest.0 i, rest.1)

split_at : {X : Type 0} (xs ys us vs : List X) (x : X) → xs ++ ys ≡ us ++ x ∷ vs →
    ((more : List X) × (xs ≡ us ++ x ∷ more)) ⊎ ((more : List X) × (us ≡ xs ++ more) × (ys ≡ more ++ x ∷ vs))
split_at [] ys us vs x e = inr (us, refl, e)
split_at (y ∷ xs) ys [] vs x e = let same : y ≡ x = cc e in inl (xs, ap (λ i. i ∷ xs) same)
split_at (y ∷ xs) ys (u ∷ us) vs x e =
    let same : y ≡ u = cc e in
    elim (split_at xs ys us vs x (cc e)) [
      | inl one ↦ inl (one.0, λ i. same i ∷ one.1 i)
      | inr two ↦ inr (two.0, λ i. sym same i ∷ two.1 i, two.2)
    ]

-- an element of a list, with what is before it and after it
pub split_get : {X : Type 0} (xs : List X) (k : ℕ) (x : X) → slice_get xs k ≡ Some x →
    xs ≡ take k xs ++ x ∷ drop (suc k) xs
split_get [] k x e = absurd (cc e)
split_get (y ∷ ys) zero x e = let same : y ≡ x = cc e in ap (λ i. i ∷ ys) same
split_get (y ∷ ys) (suc k) x e = ap (λ l. y ∷ l) (split_get ys k x e)

pub untouched_split : (xs ys : List Item) (item : Item) → is_touch item ≡ false →
    other_items (xs ++ item ∷ ys) ≡ other_items xs ++ item ∷ other_items ys
untouched_split xs ys item other =
    filter-append (λ x. not (is_touch x)) xs (item ∷ ys)
    ∙ ap (λ b. other_items xs ++ (if not b then item ∷ other_items ys else other_items ys)) other

-- a post, a start, a complete or a wait
abbrev pub is_paired : Synchronisation → Bool
is_paired (Fences asserts) = false
is_paired (Posts group asserts) = true
is_paired (Starts group asserts) = true
is_paired Completes = true
is_paired (Waits tests) = true
is_paired (Locks kind target asserts) = false
is_paired (Unlocks target) = false
is_paired (Flushes target local) = false
is_paired Syncs = false

pub wait_paired : (s : Synchronisation) → is_wait s ≡ true → is_paired s ≡ true
wait_paired (Fences asserts) h = absurd (cc h)
wait_paired (Posts group asserts) h = refl
wait_paired (Starts group asserts) h = refl
wait_paired Completes h = refl
wait_paired (Waits tests) h = refl
wait_paired (Locks kind target asserts) h = absurd (cc h)
wait_paired (Unlocks target) h = absurd (cc h)
wait_paired (Flushes target local) h = absurd (cc h)
wait_paired Syncs h = absurd (cc h)

-- it has one entry
one_entry : (known : RankWindows) (call : Call) (s : Synchronisation) → synchronisation_of call ≡ Some s →
    is_paired s ≡ true → IsOneEntry (course_of known call)
one_entry known call s e h =
    let is = is_synchronising (action_of call) s e in
    subst (λ a. IsOneEntry (course_of_action known a)) (sym is.1) (by_kind s h)
  where
    by_kind : (s : Synchronisation) → is_paired s ≡ true → IsOneEntry (course_of_synchronisation s)
    by_kind (Fences asserts) h = absurd (cc h)
    by_kind (Posts group asserts) h = tt
    by_kind (Starts group asserts) h = tt
    by_kind Completes h = tt
    by_kind (Waits true) h = tt
    by_kind (Waits false) h = tt
    by_kind (Locks kind target asserts) h = absurd (cc h)
    by_kind (Unlocks target) h = absurd (cc h)
    by_kind (Flushes target local) h = absurd (cc h)
    by_kind Syncs h = absurd (cc h)

module _ (here : RankOfRun) where
  abbrev calls : List Call
  calls = calls_here here

  -- the item is one of a call of the rank, after the items of the calls before it
  pub record IsItemOf (us : List Item) (item : Item) : Type 0 where
    pub number : ℕ
    pub before : List Item
    pub front : List Item
    pub back : List Item
    pub finished : AreFinished here number before
    pub of : AreItemsOf here before number (front ++ item ∷ back)
    pub split : us ≡ before ++ front

  -- or the end of the log, or the arrival of the call at which the rank stands
  pub data Stands (us : List Item) (item : Item) : Type 0 where
    OfCall : IsItemOf us item → Stands us item
    Last : item ≡ Ended → Stands us item
    Arrived : (number place : ℕ) (call : Call) (known : RankWindows) → item ≡ Entry number place Arrive →
        slice_get calls number ≡ Some call → course_of known call ≡ ArriveAndLeave → Stands us item

  in_finished : (number : ℕ) (items us vs : List Item) (item : Item) → AreFinished here number items →
      items ≡ us ++ item ∷ vs → IsItemOf us item
  in_finished zero items us vs item h e = absurd (none_at us vs item (sym e ∙ h))
  in_finished (suc number) items us vs item (before, last, is, earlier, of) e =
      elim (split_at before last us vs item (sym is ∙ e)) [
        | inl one ↦ in_finished number before us one.0 item earlier one.1
        | inr two ↦ record {
          number = number;
          before = before;
          front = two.0;
          back = vs;
          finished = earlier;
          of = subst (AreItemsOf here before number) two.2 of;
          split = two.1;
        }
      ]

  in_rest : (before : List Item) (number : ℕ) (rest us vs : List Item) (item : Item) (all : List Item) →
      EndsOrStands here before number rest → rest ≡ us ++ item ∷ vs → Stands all item
  in_rest before number rest us vs item all (inl ended) e = Last (single_at us vs item Ended (sym e ∙ ended.1)).1
  in_rest before number rest us vs item all (inr stands) e =
      let call = some_and (slice_get calls number) stands in by_call call.0 call.1 call.2
    where
      by_call : (call : Call) → slice_get calls number ≡ Some call → StandsAt here before number call rest →
          Stands all item
      by_call call of (own, inl none) = absurd (none_at us vs item (sym e ∙ none.0))
      by_call call of (own, inr arrived) = Arrived number arrived.0 call (known_at here before).windows
          (single_at us vs item (Entry number arrived.0 Arrive) (sym e ∙ arrived.1)).1 of arrived.2

  item_stands : (items us vs : List Item) (item : Item) → HasItemsOfCalls here items → items ≡ us ++ item ∷ vs →
      Stands us item
  item_stands items us vs item (number, before, rest, is, finished, end) e =
      elim (split_at before rest us vs item (sym is ∙ e)) [
        | inl one ↦ OfCall (in_finished number before us one.0 item finished one.1)
        | inr two ↦ in_rest before number rest two.0 vs item us end two.2
      ]

  -- ---- a post, a start, a complete or a wait

  -- the item is the entry of an accepted call of one entry, after the items of the calls before it
  pub record IsOneEntryAt (us : List Item) (number : ℕ) (call : Call) (item : Item) : Type 0 where
    pub place : ℕ
    pub is : item ≡ Entry number place One
    pub finished : AreFinished here number us
    pub own : own_class (known_at here us) call ≡ None

  module _ (us : List Item) (item : Item) (number : ℕ) (step : Step) (call : Call)
      (step_is : step_by item ≡ Some (number, step)) (of : slice_get calls number ≡ Some call)
      (one : (known : RankWindows) → IsOneEntry (course_of known call)) where
    same_number : (other : Item) (n : ℕ) (s : Step) → item ≡ other → step_by other ≡ Some (n, s) → n ≡ number
    same_number other n s is e = (some_pair_parts n number s step (sym e ∙ sym (ap step_by is) ∙ step_is)).0

    no_step : (other : Item) → item ≡ other → step_by other ≡ None → ⊥
    no_step other is e = cc (sym e ∙ sym (ap step_by is) ∙ step_is)

    module _ (n : ℕ) (found : Call) (found_is : slice_get calls n ≡ Some found) where
      same_call : n ≡ number → call ≡ found
      same_call same = cc (sym of ∙ ap (slice_get calls) (sym same) ∙ found_is)

      wrong : (known : RankWindows) (c : Course) → course_of known found ≡ c → (IsOneEntry c → ⊥) → n ≡ number → ⊥
      wrong known c is not_one same =
          not_one (subst IsOneEntry (ap (course_of known) (same_call same) ∙ is) (one known))

      module _ (before front back : List Item) (finished : AreFinished here n before) (split : us ≡ before ++ front)
        where
          accepted : own_class (known_at here before) found ≡ None → (place : ℕ) → front ≡ [] →
              item ≡ Entry n place One → IsOneEntryAt us number call item
          accepted own place none is =
              let same = same_number (Entry n place One) n One is refl in
              let at : before ≡ us = sym (split ∙ ap (λ l. before ++ l) none ∙ append-nil before) in
              record {
                place = place;
                is = is ∙ ap (λ m. Entry m place One) same;
                finished = subst (AreFinished here number) at (subst (λ m. AreFinished here m before) same finished);
                own = subst (λ l. own_class (known_at here l) call ≡ None) at
                    (ap (own_class (known_at here before)) (same_call same) ∙ own);
              }

          by_course : (c : Course) → course_of (known_at here before).windows found ≡ c →
              own_class (known_at here before) found ≡ None →
              AreItemsOfCourse c (known_at here before) n found (front ++ item ∷ back) →
              IsOneEntryAt us number call item
          by_course OneNull is own h = absurd (no_step (Null n) (single_at front back item (Null n) h).1 refl)
          by_course OneIssue is own (x, issue, h) =
              let access = some_and (access_of (known_at here before).windows found) issue in
              absurd (no_step (Issue n access.0) ((single_at front back item x h).1 ∙ access.2) refl)
          by_course LookUpAndIssue is own (place, x, issue, h) =
              let access = some_and (access_of (known_at here before).windows found) issue in
              elim (pair_at front back item (Entry n place One) x h) [
                | inl first ↦ absurd (wrong (known_at here before).windows LookUpAndIssue is (λ o. o)
                    (same_number (Entry n place One) n One first.1 refl))
                | inr second ↦ absurd (no_step (Issue n access.0) (second.1 ∙ access.2) refl)
              ]
          by_course OneFlush is own h = absurd (wrong (known_at here before).windows OneFlush is (λ o. o)
              (same_number (Flush n) n One (single_at front back item (Flush n) h).1 refl))
          by_course OneRequest is own h = absurd (wrong (known_at here before).windows OneRequest is (λ o. o)
              (same_number (Request n) n One (single_at front back item (Request n) h).1 refl))
          by_course ArriveAndLeave is own (arrived, left, h) =
              elim (pair_at front back item (Entry n arrived Arrive) (Entry n left Leave) h) [
                | inl first ↦ absurd (wrong (known_at here before).windows ArriveAndLeave is (λ o. o)
                    (same_number (Entry n arrived Arrive) n Arrive first.1 refl))
                | inr second ↦ absurd (wrong (known_at here before).windows ArriveAndLeave is (λ o. o)
                    (same_number (Entry n left Leave) n Leave second.1 refl))
              ]
          by_course EntryOrTested is own (inl entry) =
              let at = single_at front back item (Entry n entry.0 One) entry.1 in accepted own entry.0 at.0 at.1
          by_course EntryOrTested is own (inr tested) =
              absurd (no_step (Tested n tested.0) (single_at front back item (Tested n tested.0) tested.1).1 refl)
          by_course OneEntry is own (place, h) =
              let at = single_at front back item (Entry n place One) h in accepted own place at.0 at.1

          by_class : (o : Option Class) → own_class (known_at here before) found ≡ o →
              AreItemsBy o (known_at here before) n found (front ++ item ∷ back) → IsOneEntryAt us number call item
          by_class (Some class) own h =
              absurd (no_step (Refused n class 0) (single_at front back item (Refused n class 0) h).1 refl)
          by_class None own (inl refused) =
              absurd (no_step (Refused n refused.1 (suc refused.2))
              (single_at front back item (Refused n refused.1 (suc refused.2)) refused.3).1 refl)
          by_class None own (inr accepted) =
              by_course (course_of (known_at here before).windows found) refl own accepted

    by_standing : Stands us item → IsOneEntryAt us number call item
    by_standing (OfCall is) =
        let found = some_and (slice_get calls is.number) is.of in
        by_class is.number found.0 found.1 is.before is.front is.back is.finished is.split
        (own_class (known_at here is.before) found.0) refl found.2
    by_standing (Last is) = absurd (no_step Ended is refl)
    by_standing (Arrived n place found known is found_is course) =
        absurd (wrong n found found_is known ArriveAndLeave course (λ o. o)
        (same_number (Entry n place Arrive) n Arrive is refl))

  pub one_entry_at : (items us vs : List Item) (item : Item) (number : ℕ) (step : Step) (call : Call)
      (s : Synchronisation) → HasItemsOfCalls here items → items ≡ us ++ item ∷ vs →
      step_by item ≡ Some (number, step) → slice_get calls number ≡ Some call → synchronisation_of call ≡ Some s →
      is_paired s ≡ true → IsOneEntryAt us number call item
  one_entry_at items us vs item number step call s has e step_is of is kind =
      by_standing us item number step call step_is of (λ known. one_entry known call s is kind)
      (item_stands items us vs item has e)

  -- ---- an access

  -- the item is the Issue of an accepted call, after the items of the calls before it
  pub record IsIssueAt (us : List Item) (number : ℕ) (access : Access) : Type 0 where
    pub call : Call
    pub of_rank : slice_get calls number ≡ Some call
    pub before : List Item
    pub front : List Item
    pub split : us ≡ before ++ front
    pub finished : AreFinished here number before
    pub own : own_class (known_at here before) call ≡ None
    pub is : access_of (known_at here before).windows call ≡ Some access
    pub same : known_at here us ≡ known_at here before
    pub issues : HasIssue (course_of (known_at here before).windows call)
    pub looked : (front ≡ []) ⊎ ((place : ℕ) × (front ≡ Entry number place One ∷ []))

  module _ (us : List Item) (number : ℕ) (access : Access) (n : ℕ) (call : Call) (of : slice_get calls n ≡ Some call)
      (before front back : List Item) (split : us ≡ before ++ front) (finished : AreFinished here n before)
      (own : own_class (known_at here before) call ≡ None) where
    told : (other : Access) → access_of (known_at here before).windows call ≡ Some other →
        Issue number access ≡ Issue n other → known_at here us ≡ known_at here before →
        HasIssue (course_of (known_at here before).windows call) →
        ((front ≡ []) ⊎ ((place : ℕ) × (front ≡ Entry n place One ∷ []))) → IsIssueAt us number access
    told other is e same issues looked =
        let number_is : number ≡ n = cc e in
        let access_is : access ≡ other = cc e in
        record {
          call = call;
          of_rank = ap (slice_get calls) number_is ∙ of;
          before = before;
          front = front;
          split = split;
          finished = subst (λ m. AreFinished here m before) (sym number_is) finished;
          own = own;
          is = is ∙ ap Some (sym access_is);
          same = same;
          issues = issues;
          looked = subst (λ m. (front ≡ []) ⊎ ((place : ℕ) × (front ≡ Entry m place One ∷ []))) (sym number_is) looked;
        }

    issue_by : (c : Course) → course_of (known_at here before).windows call ≡ c →
        AreItemsOfCourse c (known_at here before) n call (front ++ Issue number access ∷ back) →
        IsIssueAt us number access
    issue_by OneNull is h = let e = (single_at front back (Issue number access) (Null n) h).1 in absurd (cc e)
    issue_by OneIssue is (x, issue, h) =
        let at = single_at front back (Issue number access) x h in
        let one = some_and (access_of (known_at here before).windows call) issue in
        told one.0 one.1 (at.1 ∙ one.2)
        (ap (known_at here) (split ∙ ap (λ l. before ++ l) at.0 ∙ append-nil before))
        (subst HasIssue (sym is) tt) (inl at.0)
    issue_by LookUpAndIssue is (place, x, issue, h) =
        let one = some_and (access_of (known_at here before).windows call) issue in
        let t = transfer_with_issue (known_at here before).windows call (subst HasIssue (sym is) tt) in
        elim (pair_at front back (Issue number access) (Entry n place One) x h) [
          | inl first ↦ let e = first.1 in absurd (cc e)
          | inr second ↦ told one.0 one.1 (second.1 ∙ one.2)
              (ap (known_at here) (split ∙ ap (λ l. before ++ l) second.0)
              ∙ fold_joined (learn (shapes_in here.stage here.rows) calls) (first_knowledge here.stage here.rank)
              before (Entry n place One ∷ [])
              ∙ learns_nothing (shapes_in here.stage here.rows) calls (known_at here before) n place One call of
              (ap is_none t.1)) (subst HasIssue (sym is) tt) (inr (place, second.0))
        ]
    issue_by OneFlush is h = let e = (single_at front back (Issue number access) (Flush n) h).1 in absurd (cc e)
    issue_by OneRequest is h = let e = (single_at front back (Issue number access) (Request n) h).1 in absurd (cc e)
    issue_by ArriveAndLeave is (arrived, left, h) =
        elim (pair_at front back (Issue number access) (Entry n arrived Arrive) (Entry n left Leave) h) [
          | inl first ↦ let e = first.1 in absurd (cc e)
          | inr second ↦ let e = second.1 in absurd (cc e)
        ]
    issue_by EntryOrTested is (inl entry) =
        let e = (single_at front back (Issue number access) (Entry n entry.0 One) entry.1).1 in absurd (cc e)
    issue_by EntryOrTested is (inr tested) =
        let e = (single_at front back (Issue number access) (Tested n tested.0) tested.1).1 in absurd (cc e)
    issue_by OneEntry is (place, h) =
        let e = (single_at front back (Issue number access) (Entry n place One) h).1 in absurd (cc e)

  issue_class : (us : List Item) (number : ℕ) (access : Access) (one : IsItemOf us (Issue number access))
      (call : Call) → slice_get calls one.number ≡ Some call →
      (o : Option Class) → own_class (known_at here one.before) call ≡ o →
      AreItemsBy o (known_at here one.before) one.number call (one.front ++ Issue number access ∷ one.back) →
      IsIssueAt us number access
  issue_class us number access one call of (Some class) own h =
      let e = (single_at one.front one.back (Issue number access) (Refused one.number class 0) h).1 in absurd (cc e)
  issue_class us number access one call of None own (inl refused) =
      let e = (single_at one.front one.back (Issue number access)
      (Refused one.number refused.1 (suc refused.2)) refused.3).1 in absurd (cc e)
  issue_class us number access one call of None own (inr accepted) =
      issue_by us number access one.number call of one.before one.front one.back one.split one.finished own
      (course_of (known_at here one.before).windows call) refl accepted

  pub issue_at : (items us vs : List Item) (number : ℕ) (access : Access) → HasItemsOfCalls here items →
      items ≡ us ++ Issue number access ∷ vs → IsIssueAt us number access
  issue_at items us vs number access has e = by_stand (item_stands items us vs (Issue number access) has e)
    where
      by_stand : Stands us (Issue number access) → IsIssueAt us number access
      by_stand (OfCall is) =
          let call = some_and (slice_get calls is.number) is.of in
          issue_class us number access is call.0 call.1 (own_class (known_at here is.before) call.0) refl call.2
      by_stand (Last is) = absurd (cc is)
      by_stand (Arrived n place found known is found_is course) = absurd (cc is)
