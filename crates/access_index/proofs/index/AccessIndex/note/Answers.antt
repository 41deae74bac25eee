-- One class more of a region, which is there, or is put there.
use Rattle.std.proofs.Common.{rules, ◌≡◌, inl, inr, List, ◌∷◌, ◌++◌, [], sym, subst}
use Rattle.std.specs.Prelude.{Contains}
use Rattle.std.proofs.lemmas.List.Elements.{Contains-append_left, Contains-push}
use Rattle.access_index.specs.declared.regions.Region.{Region}
use Rattle.access_index.specs.Lists.{classes_in, region_eq}
use Rattle.access_index.proofs.Sames.{region_same, region_self}
use Rattle.access_index.proofs.Puts.{some_of, was}
use Rattle.access_index.proofs.index.AccessIndex.note.Goals as goal

pub returns-in_ok-put_region-clause-found : goal.returns-in_ok-put_region-clause-found
returns-in_ok-put_region-clause-found c found region class has =
    let old = c.args.self.now in
    let new = c.put_class.new.table in
    let kept : classes_in c.put_region.new.self.classes region ≡ classes_in new region = search rules in
    subst (λ (l : List Region). Contains l region) (sym c.in_ok-put_region.ensures.regions)
    (elim (was region_eq region_same region_self (classes_in old.classes) (classes_in new) c.args.region c.args.class
    c.in_ok-put_class.ensures.listed region class (subst (λ l. Contains l class) kept has)) [
      | inl before ↦ Contains-append_left old.regions (c.args.region ∷ []) region (found region class before)
      | inr now ↦
          subst (λ r. Contains (old.regions ++ c.args.region ∷ []) r) now.0 (Contains-push old.regions c.args.region)
    ])

pub returns-else-branch-clause-found : goal.returns-else-branch-clause-found
returns-else-branch-clause-found c found region class has =
    let old = c.args.self.now in
    elim (was region_eq region_same region_self (classes_in old.classes) (classes_in c.put_class.new.table)
    c.args.region c.args.class c.in_ok-put_class.ensures.listed region class has) [
      | inl before ↦ found region class before
      | inr now ↦
          let some = some_of (classes_in old.classes c.args.region)
          (c.in_ok-put_class.ensures.first c.if-branch.false) in
          subst (λ (r : Region). Contains old.regions r) now.0 (found c.args.region some.0 some.1)
    ]
