-- Each entry of a lawful log is a step of a call that its rank did not refuse.
use Rattle.std.proofs.Common.{◌≡◌, ℕ, zero, suc, ◌⊎◌, inl, inr, List, [], ◌∷◌, Option, Some, None, refl, ◌∙◌, ap, subst}
use Rattle.std.specs.Prelude.{IsSomeAnd, slice_get}
use Rattle.list_laws.proofs.Members.{In, here, there, append_in}
use Rattle.rma_types.specs.declared.accesses.Step.{Step}
use Rattle.rma_types.specs.declared.accesses.Step.TheVariants.{Arrive, Leave, One}
use Rattle.rma_types.specs.declared.calls.Call.{Call}
use Rattle.rma_types.specs.declared.classes.Class.{Class}
use Rattle.rma_record.specs.declared.items.Item.{Item}
use Rattle.rma_record.specs.declared.items.Item.TheVariants.{Issue, Null, Flush, Request, Entry, Tested, Refused, Ended}
use Rattle.rma_record.proofs.ItemLaws.{issue_of}
use Rattle.rank_rules.specs.Courses.{Course, OneNull, OneIssue, LookUpAndIssue, OneFlush, OneRequest, ArriveAndLeave}
use Rattle.rank_rules.specs.Courses.{EntryOrTested, OneEntry, course_of, access_of}
use Rattle.rank_rules.specs.Knowledge.{Knowledge, own_class}
use Rattle.lawful_runs.specs.CallItems.{AreItemsOfCourse, AreItemsBy, AreFinished, StandsAt, HasItemsOfCalls}
use Rattle.lawful_runs.specs.Stages.{RankOfRun, calls_here, known_at}

-- the entry is a step of a call of the rank, which the rank did not refuse
pub record IsJudged (place_of : RankOfRun) (number : ℕ) : Type 0 where
  pub call : Call
  pub of_rank : slice_get (calls_here place_of) number ≡ Some call
  pub before : List Item
  pub own : own_class (known_at place_of before) call ≡ None

-- ---- the items of a call

single : {x y : Item} → In x (y ∷ []) → x ≡ y
single here = refl
single (there m) = elim m [ ]

first_or : {x y : Item} {rest : List Item} → In x (y ∷ rest) → (x ≡ y) ⊎ In x rest
first_or here = inl refl
first_or (there m) = inr m

-- an entry among the items is of the call of this number
IsStepIn : ℕ → List Item → Type 0
IsStepIn n items = (number place : ℕ) (step : Step) → In (Entry number place step) items → number ≡ n

one_step : (n place : ℕ) (step : Step) (items : List Item) → items ≡ Entry n place step ∷ [] → IsStepIn n items
unfolding IsStepIn
one_step n place step items is number at other m =
    let same : Entry number at other ≡ Entry n place step = single (subst (In (Entry number at other)) is m) in cc same

no_step : (n : ℕ) (items : List Item) (item : Item) → items ≡ item ∷ [] →
    ((number place : ℕ) (step : Step) → Entry number place step ≡ item → ⊥) → IsStepIn n items
unfolding IsStepIn
no_step n items item is other number place step m =
    absurd (other number place step (single (subst (In (Entry number place step)) is m)))

in_course : (course : Course) (known : Knowledge) (n : ℕ) (call : Call) (items : List Item) →
    AreItemsOfCourse course known n call items → IsStepIn n items
unfolding IsStepIn
in_course OneNull known n call items is = no_step n items (Null n) is (λ number place step same. cc same)
in_course OneIssue known n call items is =
    let issue = issue_of (access_of known.windows call) n is.0 is.1 in
    no_step n items (Issue n issue.0) (is.2 ∙ ap (λ item. item ∷ []) issue.1) (λ number place step same. cc same)
in_course LookUpAndIssue known n call items is = λ number place step m.
    let issue = issue_of (access_of known.windows call) n is.1 is.2 in
    elim (first_or (subst (In (Entry number place step)) is.3 m)) [
      | inl same ↦ cc same
      | inr rest ↦ let other : Entry number place step ≡ Issue n issue.0 = single rest ∙ issue.1 in absurd (cc other)
    ]
in_course OneFlush known n call items is = no_step n items (Flush n) is (λ number place step same. cc same)
in_course OneRequest known n call items is = no_step n items (Request n) is (λ number place step same. cc same)
in_course ArriveAndLeave known n call items is = λ number place step m.
    elim (first_or (subst (In (Entry number place step)) is.2 m)) [
      | inl same ↦ cc same
      | inr rest ↦ let other : Entry number place step ≡ Entry n is.1 Leave = single rest in cc other
    ]
in_course EntryOrTested known n call items is = elim is [
  | inl entry ↦ one_step n entry.0 One items entry.1
  | inr tested ↦ no_step n items (Tested n tested.0) tested.1 (λ number place step same. cc same)
]
in_course OneEntry known n call items is = one_step n is.0 One items is.1

in_call : (o : Option Class) (known : Knowledge) (n : ℕ) (call : Call) (items : List Item) →
    AreItemsBy o known n call items → (number place : ℕ) (step : Step) → In (Entry number place step) items →
    (o ≡ None) × (number ≡ n)
unfolding IsStepIn
in_call (Some class) known n call items is number place step m =
    let other : Entry number place step ≡ Refused n class 0 = single (subst (In (Entry number place step)) is m) in
    absurd (cc other)
in_call None known n call items is number place step m = elim is [
  | inl refused ↦ let other : Entry number place step ≡ Refused n refused.1 (suc refused.2) =
      single (subst (In (Entry number place step)) refused.3 m) in absurd (cc other)
  | inr accepted ↦
      (refl, in_course (course_of known.windows call) known n call items accepted number place step m)
]

judged_in : (place_of : RankOfRun) (n : ℕ) (o : Option Call) (before items : List Item) →
    slice_get (calls_here place_of) n ≡ o →
    IsSomeAnd o (λ call. let known = known_at place_of before in AreItemsBy (own_class known call) known n call items) →
    (number place : ℕ) (step : Step) → In (Entry number place step) items → IsJudged place_of number
judged_in place_of n None before items got is number place step m = absurd is
judged_in place_of n (Some call) before items got is number place step m =
    let one = in_call (own_class (known_at place_of before) call) (known_at place_of before) n call items is number
    place step m in
    record {
      call = call;
      of_rank = ap (slice_get (calls_here place_of)) one.1 ∙ got;
      before = before;
      own = one.0;
    }

finished_in : (place_of : RankOfRun) (n : ℕ) (items : List Item) → AreFinished place_of n items →
    (number place : ℕ) (step : Step) → In (Entry number place step) items → IsJudged place_of number
finished_in place_of zero items is number place step m = let none : In (Entry number place step) [] =
    subst (In (Entry number place step)) is m in elim none [ ]
finished_in place_of (suc n) items is number place step m =
    elim (append_in is.0 (subst (In (Entry number place step)) is.2 m)) [
      | inl earlier ↦ finished_in place_of n is.0 is.3 number place step earlier
      | inr last ↦ judged_in place_of n (slice_get (calls_here place_of) n) is.0 is.1 refl is.4 number place step last
    ]

standing_in : (place_of : RankOfRun) (before : List Item) (n : ℕ) (o : Option Call) (rest : List Item) →
    slice_get (calls_here place_of) n ≡ o →
    IsSomeAnd o (λ call. StandsAt place_of before n call rest) → (number place : ℕ) (step : Step) →
    In (Entry number place step) rest → IsJudged place_of number
standing_in place_of before n None rest got is number place step m = absurd is
standing_in place_of before n (Some call) rest got is number place step m = elim is.1 [
  | inl nothing ↦ let none : In (Entry number place step) [] = subst (In (Entry number place step)) nothing.0 m in
      elim none [ ]
  | inr arrived ↦
      let same : Entry number place step ≡ Entry n arrived.0 Arrive =
      single (subst (In (Entry number place step)) arrived.1 m) in
      let numbers : number ≡ n = cc same in
      record {
        call = call;
        of_rank = ap (slice_get (calls_here place_of)) numbers ∙ got;
        before = before;
        own = is.0;
      }
]

pub each_judged : (place_of : RankOfRun) (items : List Item) → HasItemsOfCalls place_of items →
    (number place : ℕ) (step : Step) → In (Entry number place step) items → IsJudged place_of number
each_judged place_of items has number place step m =
    elim (append_in has.1 (subst (In (Entry number place step)) has.3 m)) [
      | inl earlier ↦ finished_in place_of has.0 has.1 has.4 number place step earlier
      | inr rest ↦ elim has.5 [
        | inl ended ↦ let other : Entry number place step ≡ Ended =
            single (subst (In (Entry number place step)) ended.1 rest) in absurd (cc other)
        | inr stands ↦ standing_in place_of has.1 has.0 (slice_get (calls_here place_of) has.0) has.2 refl stands number
            place step rest
      ]
    ]
