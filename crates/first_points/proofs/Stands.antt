-- Points that stand for the steps of a run which pass a test: they are before the same items.
use Rattle.std.proofs.Common.{◌≡◌, ℕ, ◌≤◌, inl, inr, Bool, true, false, List, [], ◌∷◌, ◌++◌, Option, Some}
use Rattle.std.proofs.Common.{None, ap, sym, subst, ◌∙◌, arith}
use Rattle.std.specs.Prelude.{◌||◌}
use Rattle.std.specs.List.{filter, find}
use Rattle.std.proofs.lemmas.Bool.{cases_lt, false≢true, or_cases, or_left, or_right}
use Rattle.std.proofs.lemmas.List.Folds.{list_any-append}
use Rattle.list_laws.proofs.Members.{In, any_in, in_any, in_map, map_in, in_filter, filter_in}
use Rattle.list_laws.proofs.Truths.{same_truth}
use Rattle.rma_types.specs.declared.accesses.Id.{Id}
use Rattle.rma_types.specs.declared.scripts.Script.{Script}
use Rattle.rma_record.specs.declared.runs.Run.{Run}
use Rattle.order_rules.specs.Before.{InLog, IsOrder, Same, StandsBefore}
use Rattle.order_rules.specs.CallSteps.{CallStep, steps_in}
use Rattle.order_rules.specs.DonePoints.{ids_of}
use Rattle.order_laws.proofs.Order.{transitive, same_id}
use Rattle.rank_records.specs.Kept.{IsKeptStep, steps_of_rank}
use Rattle.rank_records.specs.declared.kept.KeptStep.{KeptStep}
use Rattle.first_points.specs.Alike.{reaches}
use Rattle.first_points.specs.KeptPoints.{point}
use Rattle.first_points.proofs.Finds.{first_found, found_in}
use Rattle.first_points.proofs.KeptParts.{IsFoundAs, Neither, Both}
use Rattle.first_points.proofs.RankSteps.{InLogOrder, found_at_rank, of_its_rank, ordered_steps}

module _ (script : Script) (run : Run) (before : Id → Id → Bool) (order : IsOrder script run before) where
  pub before_all : {a b c : Id} → before a b ≡ true → before b c ≡ true → before a c ≡ true
  before_all {a} {b} {c} first second =
      (order a c).1 (transitive script run a b c ((order a b).0 first) ((order b c).0 second))

  pub before_later : {a b : Id} → StandsBefore a b → before a b ≡ true
  before_later {a} {b} stands = (order a b).1 (InLog Same stands)

  pub before_itself : {a b : Id} → a ≡ b → before a b ≡ true
  before_itself {a} {b} same = subst (λ c. before a c ≡ true) same ((order a a).1 Same)

  -- an item does not stand after another of its log
  pub before_within : {a b : Id} → a.rank ≡ b.rank → a.index ≤ b.index → before a b ≡ true
  before_within {a} {b} rank within = elim (cases_lt a.index b.index) [
    | inl below ↦ before_later (rank, below)
    | inr above ↦ before_itself (same_id a b rank (omega (arith, within, above)))
  ]

  -- a step which passes the test is before the item
  pub record IsReached (t : CallStep → Bool) (id : Id) : Type 0 where
    pub from : CallStep
    pub step : In from (steps_in script run)
    pub passes : t from ≡ true
    pub comes : before from.id id ≡ true

  -- the points are before the item exactly where a step which passes the test is
  pub record Stands (points : List Id) (t : CallStep → Bool) (id : Id) : Type 0 where
    pub gives : reaches before points id ≡ true → IsReached t id
    pub takes : (x : CallStep) → In x (steps_in script run) → t x ≡ true → before x.id id ≡ true →
        reaches before points id ≡ true

  -- so they reach what the names of all such steps reach
  pub reach_alike : (points : List Id) (t : CallStep → Bool) (id : Id) → Stands points t id →
      reaches before points id ≡ reaches before (ids_of (filter t (steps_in script run))) id
  reach_alike points t id stands =
      same_truth (reaches before points id) (reaches before (ids_of (filter t (steps_in script run))) id)
      (λ e. let one = stands.gives e in
      in_any (λ p. before p id) (in_map (λ (x : CallStep). x.id) (in_filter t one.step one.passes)) one.comes)
      (λ e. let p = any_in (λ p. before p id) (ids_of (filter t (steps_in script run))) e in
      let x = map_in (λ (x : CallStep). x.id) (filter t (steps_in script run)) p.1 in
      let passed = filter_in t (steps_in script run) x.1 in
      stands.takes x.0 passed.0 passed.1 (subst (λ i. before i id ≡ true) (sym x.2) p.2))

  -- ---- parts

  pub no_points : (t : CallStep → Bool) (id : Id) → ((x : CallStep) → t x ≡ false) → Stands [] t id
  no_points t id none = record {
    gives = λ e. absurd (false≢true e);
    takes = λ x m e comes. absurd (false≢true (sym (none x) ∙ e));
  }

  pub all_points : (points others : List Id) (t u : CallStep → Bool) (id : Id) → Stands points t id →
      Stands others u id → Stands (points ++ others) (λ x. t x || u x) id
  all_points points others t u id first second = record {
    gives = λ e. elim (or_cases (reaches before points id) (reaches before others id)
        (sym (list_any-append (λ p. before p id) points others) ∙ e)) [
          | inl one ↦
              let is = first.gives one in
              record {
                from = is.from;
                step = is.step;
                passes = or_left (t is.from) (u is.from) is.passes;
                comes = is.comes;
              }
          | inr other ↦
              let is = second.gives other in
              record {
                from = is.from;
                step = is.step;
                passes = or_right (t is.from) (u is.from) is.passes;
                comes = is.comes;
              }
        ];
    takes = λ x m e comes.
        list_any-append (λ p. before p id) points others
        ∙ elim (or_cases (t x) (u x) e) [
          | inl one ↦ or_left (reaches before points id) (reaches before others id) (first.takes x m one comes)
          | inr other ↦ or_right (reaches before points id) (reaches before others id) (second.takes x m other comes)
        ];
  }

  -- tests that agree on the steps
  pub same_stands : (points : List Id) (t u : CallStep → Bool) (id : Id) →
      ((x : CallStep) → In x (steps_in script run) → t x ≡ u x) → Stands points t id → Stands points u id
  same_stands points t u id same stands = record {
    gives = λ e. let is = stands.gives e in record {
      from = is.from;
      step = is.step;
      passes = sym (same is.from is.step) ∙ is.passes;
      comes = is.comes;
    };
    takes = λ x m e comes. stands.takes x m (same x m ∙ e) comes;
  }

  -- ---- the first step of a log

  -- one point is before the item, or none
  pub one_reaches : (a b : Id) → reaches before (a ∷ []) b ≡ true → before a b ≡ true
  one_reaches a b e = elim (or_cases (before a b) false e) [ inl is ↦ is | inr none ↦ absurd (false≢true none) ]

  pub reaches_one : (a b : Id) → before a b ≡ true → reaches before (a ∷ []) b ≡ true
  reaches_one a b e = or_left (before a b) false e

  -- of the steps of one rank which pass a test, the first is before each
  pub first_at_rank : (t : CallStep → Bool) (rank : ℕ) → ((x : CallStep) → t x ≡ true → x.id.rank ≡ rank) →
      (x : CallStep) → In x (steps_in script run) → t x ≡ true →
      (y : CallStep) × (find t (steps_in script run) ≡ Some y) × (before y.id x.id ≡ true)
  first_at_rank t rank of x m e =
      let here_at : In x (steps_of_rank script run rank) =
      subst (λ r. In x (steps_of_rank script run r)) (of x e) (of_its_rank script run m) in
      let first = first_found InLogOrder t (steps_of_rank script run rank) x (ordered_steps script run rank) here_at
      e in (
        first.first,
        found_at_rank script run t rank of ∙ first.found,
        elim first.order [
          | inl same ↦ before_itself (ap (λ (y : CallStep). y.id) same)
          | inr stands ↦ before_later stands
        ],
      )

  -- the first step of a rank that passes stands for all that do
  pub first_stands : (found : Option KeptStep) (t : CallStep → Bool) (rank : ℕ) →
      ((x : CallStep) → t x ≡ true → x.id.rank ≡ rank) →
      IsFoundAs (IsKeptStep script) found (find t (steps_in script run)) → (id : Id) → Stands (point found) t id
  first_stands found t rank of is id = cases is
    where
      nothing : find t (steps_in script run) ≡ None → (x : CallStep) → In x (steps_in script run) → t x ≡ true → ⊥
      nothing none x m e =
          let first = first_at_rank t rank of x m e in
          let bad : None ≡ Some first.0 = sym none ∙ first.1 in cc bad

      cases : IsFoundAs (IsKeptStep script) found (find t (steps_in script run)) → Stands (point found) t id
      cases (Neither none nowhere) = record {
        gives = λ e. absurd (false≢true (ap (λ o. reaches before (point o) id) (sym none) ∙ e));
        takes = λ x m e comes. absurd (nothing nowhere x m e);
      }
      cases (Both k y one other kept) = record {
        gives = λ e.
            let comes = one_reaches k.id id (ap (λ o. reaches before (point o) id) (sym one) ∙ e) in
            let there_is = found_in t (steps_in script run) other in
            record {
              from = y;
              step = there_is.0;
              passes = there_is.1;
              comes = subst (λ i. before i id ≡ true) kept.named comes;
            };
        takes = λ x m e comes.
            let first = first_at_rank t rank of x m e in
            let same : Some first.0 ≡ Some y = sym first.1 ∙ other in
            let is_first : first.0 ≡ y = cc same in
            let leads : before y.id x.id ≡ true = subst (λ (z : CallStep). before z.id x.id ≡ true) is_first first.2 in
            ap (λ o. reaches before (point o) id) one
            ∙ reaches_one k.id id (subst (λ i. before i id ≡ true) (sym kept.named) (before_all leads comes));
      }
