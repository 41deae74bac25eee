-- The items of one call: all of them belong to it, and a refusal stands alone.
use Rattle.std.proofs.Common.{◌≡◌, ℕ, suc, ◌⊎◌, inl, inr, List, [], ◌∷◌}
use Rattle.std.proofs.Common.{Option, Some, None, refl, sym, ◌∙◌, ap, subst}
use Rattle.std.specs.List.{AllByRecursion}
use Rattle.list_laws.proofs.Members.{In, append_in}
use Rattle.rma_types.specs.declared.accesses.Step.TheVariants.{Arrive, Leave, One}
use Rattle.rma_types.specs.declared.calls.Call.{Call}
use Rattle.rma_types.specs.declared.classes.Class.{Class}
use Rattle.rma_record.specs.declared.items.Item.{Item}
use Rattle.rma_record.specs.declared.items.Item.TheVariants.{Issue, Null, Flush, Request, Entry, Tested, Refused}
use Rattle.rma_record.proofs.ItemLaws.{issue_of}
use Rattle.rank_rules.specs.Courses.{Course, OneNull, OneIssue, LookUpAndIssue, OneFlush, OneRequest, ArriveAndLeave}
use Rattle.rank_rules.specs.Courses.{EntryOrTested, OneEntry, course_of, access_of}
use Rattle.rank_rules.specs.Knowledge.{Knowledge}
use Rattle.lawful_runs.specs.CallItems.{AreItemsOfCourse, AreItemsBy}
use Rattle.lawful_runs.specs.Items.{number_in}
use Rattle.refusal_laws.proofs.Members.{single}

-- ---- a refusal

-- the items of a call to which its rank gives this class or none are one refusal
pub record IsOneRefusal (own : Option Class) (n : ℕ) (number : ℕ) (class : Class) (seen : ℕ) (items : List Item) : Type
    0 where
  pub number_is : number ≡ n
  pub alone : items ≡ Refused number class seen ∷ []
  pub by : ((own ≡ Some class) × (seen ≡ 0)) ⊎ ((own ≡ None) × (earlier : ℕ) × (seen ≡ suc earlier))

no_refusal : (course : Course) (known : Knowledge) (n : ℕ) (call : Call) (items : List Item) →
    AreItemsOfCourse course known n call items → (number : ℕ) (class : Class) (seen : ℕ) →
    In (Refused number class seen) items → ⊥
no_refusal OneNull known n call items is number class seen m =
    let other : Refused number class seen ≡ Null n = single (subst (In (Refused number class seen)) is m) in cc other
no_refusal OneIssue known n call items is number class seen m =
    let issue = issue_of (access_of known.windows call) n is.0 is.1 in
    let other : Refused number class seen ≡ Issue n issue.0 =
    single (subst (In (Refused number class seen)) is.2 m) ∙ issue.1 in cc other
no_refusal LookUpAndIssue known n call items is number class seen m =
    let issue = issue_of (access_of known.windows call) n is.1 is.2 in
    elim (append_in (Entry n is.0 One ∷ []) (subst (In (Refused number class seen)) is.3 m)) [
      | inl first ↦ let other : Refused number class seen ≡ Entry n is.0 One = single first in cc other
      | inr second ↦ let other : Refused number class seen ≡ Issue n issue.0 = single second ∙ issue.1 in cc other
    ]
no_refusal OneFlush known n call items is number class seen m =
    let other : Refused number class seen ≡ Flush n = single (subst (In (Refused number class seen)) is m) in cc other
no_refusal OneRequest known n call items is number class seen m =
    let other : Refused number class seen ≡ Request n = single (subst (In (Refused number class seen)) is m) in cc other
no_refusal ArriveAndLeave known n call items is number class seen m =
    elim (append_in (Entry n is.0 Arrive ∷ []) (subst (In (Refused number class seen)) is.2 m)) [
      | inl first ↦ let other : Refused number class seen ≡ Entry n is.0 Arrive = single first in cc other
      | inr second ↦ let other : Refused number class seen ≡ Entry n is.1 Leave = single second in cc other
    ]
no_refusal EntryOrTested known n call items is number class seen m = elim is [
  | inl entry ↦ let other : Refused number class seen ≡ Entry n entry.0 One =
      single (subst (In (Refused number class seen)) entry.1 m) in cc other
  | inr tested ↦ let other : Refused number class seen ≡ Tested n tested.0 =
      single (subst (In (Refused number class seen)) tested.1 m) in cc other
]
no_refusal OneEntry known n call items is number class seen m =
    let other : Refused number class seen ≡ Entry n is.0 One = single (subst (In (Refused number class seen)) is.1 m) in
    cc other

pub one_refusal : (own : Option Class) (known : Knowledge) (n : ℕ) (call : Call) (items : List Item) →
    AreItemsBy own known n call items → (number : ℕ) (class : Class) (seen : ℕ) →
    In (Refused number class seen) items → IsOneRefusal own n number class seen items
one_refusal (Some own) known n call items is number class seen m =
    let same : Refused number class seen ≡ Refused n own 0 = single (subst (In (Refused number class seen)) is m) in
    let classes : own ≡ class = cc same in
    record {
      number_is = cc same;
      alone = is ∙ ap (λ item. item ∷ []) (sym same);
      by = inl (ap (λ c. Some c) classes, cc same);
    }
one_refusal None known n call items is number class seen m = elim is [
  | inl refused ↦
      let same : Refused number class seen ≡ Refused n refused.1 (suc refused.2) =
      single (subst (In (Refused number class seen)) refused.3 m) in
      let earlier : seen ≡ suc refused.2 = cc same in
      record {
        number_is = cc same;
        alone = refused.3 ∙ ap (λ item. item ∷ []) (sym same);
        by = inr (refl, refused.2, earlier);
      }
  | inr accepted ↦ absurd (no_refusal (course_of known.windows call) known n call items accepted number class seen m)
]

-- ---- the numbers of items

-- the item belongs to the call of this number
unfoldable pub Belongs : ℕ → Item → Type 0
Belongs n item = number_in item ≡ Some n

in_course : (course : Course) (known : Knowledge) (n : ℕ) (call : Call) (items : List Item) →
    AreItemsOfCourse course known n call items → AllByRecursion (Belongs n) items
unfolding Belongs
in_course OneNull known n call items is = subst (AllByRecursion (Belongs n)) (sym is) (refl, tt)
in_course OneIssue known n call items is =
    let issue = issue_of (access_of known.windows call) n is.0 is.1 in
    subst (AllByRecursion (Belongs n)) (sym is.2) (ap number_in issue.1, tt)
in_course LookUpAndIssue known n call items is =
    let issue = issue_of (access_of known.windows call) n is.1 is.2 in
    subst (AllByRecursion (Belongs n)) (sym is.3) (refl, (ap number_in issue.1, tt))
in_course OneFlush known n call items is = subst (AllByRecursion (Belongs n)) (sym is) (refl, tt)
in_course OneRequest known n call items is = subst (AllByRecursion (Belongs n)) (sym is) (refl, tt)
in_course ArriveAndLeave known n call items is = subst (AllByRecursion (Belongs n)) (sym is.2) (refl, (refl, tt))
in_course EntryOrTested known n call items is = elim is [
  | inl entry ↦ subst (AllByRecursion (Belongs n)) (sym entry.1) (refl, tt)
  | inr tested ↦ subst (AllByRecursion (Belongs n)) (sym tested.1) (refl, tt)
]
in_course OneEntry known n call items is = subst (AllByRecursion (Belongs n)) (sym is.1) (refl, tt)

pub in_call : (own : Option Class) (known : Knowledge) (n : ℕ) (call : Call) (items : List Item) →
    AreItemsBy own known n call items → AllByRecursion (Belongs n) items
unfolding Belongs
in_call (Some own) known n call items is = subst (AllByRecursion (Belongs n)) (sym is) (refl, tt)
in_call None known n call items is = elim is [
  | inl refused ↦ subst (AllByRecursion (Belongs n)) (sym refused.3) (refl, tt)
  | inr accepted ↦ in_course (course_of known.windows call) known n call items accepted
]
