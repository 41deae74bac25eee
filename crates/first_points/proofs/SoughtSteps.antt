-- What the searches among the kept steps find, by the definitions.
use Rattle.std.proofs.Common.{◌≡◌, ℕ, Bool, true, List, ap, sym, subst, ◌∙◌}
use Rattle.std.specs.Prelude.{◌==◌, ◌&&◌, nat_lt}
use Rattle.std.specs.List.{find}
use Rattle.std.proofs.lemmas.Bool.{and_parts, eqb-true, eq-eqb}
use Rattle.list_laws.proofs.Truths.{and_joined}
use Rattle.rma_types.specs.declared.accesses.Access.{Access}
use Rattle.rma_types.specs.declared.accesses.Id.{Id}
use Rattle.rma_types.specs.declared.scripts.Script.{Script}
use Rattle.rma_record.specs.declared.runs.Run.{Run}
use Rattle.order_rules.specs.CallSteps.{CallStep, IssuedAccess, is_later_at_origin, is_later_on_window, is_step_on}
use Rattle.order_rules.specs.CallSteps.{steps_in}
use Rattle.order_rules.specs.DonePoints.{ends_its_request}
use Rattle.rank_records.specs.Kept.{EachKept, IsKeptAccess, IsKeptStep, steps_of_rank}
use Rattle.rank_records.specs.declared.kept.KeptAccess.{KeptAccess}
use Rattle.rank_records.specs.declared.kept.KeptStep.{KeptStep}
use Rattle.rank_records.specs.declared.kept.RankRecord.{RankRecord}
use Rattle.first_points.specs.Alike.{reaches}
use Rattle.first_points.specs.KeptPoints.{does, ends_request, first_after, first_end, first_reached, is_after}
use Rattle.first_points.specs.KeptPoints.{is_sought}
use Rattle.first_points.specs.KeptPoints.{kept_steps}
use Rattle.first_points.specs.declared.searches.Sought.{Sought}
use Rattle.first_points.proofs.KeptParts.{IsFoundAs, after_same, each_found, ends_of, ends_same, sought_of}
use Rattle.first_points.proofs.KeptParts.{sought_same}
use Rattle.first_points.proofs.RankSteps.{found_at_rank, of_rank}

-- the step stands after the access on its window, and is what is looked for
abbrev pub after_of : Sought → IssuedAccess → CallStep → Bool
after_of sought a x = is_later_on_window a x && does sought a.issued x.step x.call

-- the step is the target's, on the window of the access, one of the points is before it, and it is what is looked for
abbrev pub reached_of : (Id → Id → Bool) → List Id → Sought → IssuedAccess → CallStep → Bool
reached_of before points sought a x =
    x.id.rank == a.issued.access.target && (reaches before points x.id && sought_of sought a x)

pub later_rank : (a : IssuedAccess) (x : CallStep) → is_later_at_origin a x ≡ true → x.id.rank ≡ a.id.rank
later_rank a x e =
    eqb-true x.id.rank a.id.rank (and_parts (x.id.rank == a.id.rank) (nat_lt a.id.index x.id.index) e).0

pub after_rank : (sought : Sought) (a : IssuedAccess) (x : CallStep) → after_of sought a x ≡ true → x.id.rank ≡
    a.id.rank
after_rank sought a x e =
    let later = and_parts (is_later_on_window a x) (does sought a.issued x.step x.call) e in
    later_rank a x (and_parts (is_later_at_origin a x) (is_step_on a.issued.access.window x) later.0).0

pub end_rank : (a : IssuedAccess) (x : CallStep) → ends_its_request a x ≡ true → x.id.rank ≡ a.id.rank
end_rank a x e = later_rank a x (and_parts (is_later_at_origin a x) (ends_of a x) e).0

pub reached_rank : (before : Id → Id → Bool) (points : List Id) (sought : Sought) (a : IssuedAccess) (x : CallStep) →
    reached_of before points sought a x ≡ true → x.id.rank ≡ a.issued.access.target
reached_rank before points sought a x e = eqb-true x.id.rank a.issued.access.target
    (and_parts (x.id.rank == a.issued.access.target) (reaches before points x.id && sought_of sought a x) e).0

module _ (script : Script) (run : Run) (records : List RankRecord)
    (steps : (rank : ℕ) → EachKept (IsKeptStep script) (kept_steps records rank) (steps_of_rank script run rank))
    (kept : KeptAccess) (a : IssuedAccess) (access : IsKeptAccess kept a) where
  -- the kept steps of a rank, by a test that says the same of its steps
  at_rank : (p : KeptStep → Bool) (t : CallStep → Bool) (first rank : ℕ) → first ≡ rank →
      ((k : KeptStep) (x : CallStep) → x.id.rank ≡ rank → IsKeptStep script k x → p k ≡ t x) →
      ((x : CallStep) → t x ≡ true → x.id.rank ≡ rank) →
      IsFoundAs (IsKeptStep script) (find p (kept_steps records first)) (find t (steps_in script run))
  at_rank p t first rank same tests of =
      subst (λ r. IsFoundAs (IsKeptStep script) (find p (kept_steps records r)) (find t (steps_in script run)))
      (sym same)
      (subst (λ o. IsFoundAs (IsKeptStep script) (find p (kept_steps records rank)) o)
      (sym (found_at_rank script run t rank of))
      (each_found (IsKeptStep script) p t (kept_steps records rank) (steps_of_rank script run rank) (steps rank)
      (λ k x m is. tests k x (of_rank script run rank m) is)))

  pub after_found : (sought : Sought) →
      IsFoundAs (IsKeptStep script) (first_after script records sought kept) (find (after_of sought a) (steps_in
      script run))
  after_found sought =
      at_rank (λ k. is_after kept k && is_sought script sought kept k) (after_of sought a) kept.id.rank a.id.rank
      (ap (λ (id : Id). id.rank) access.named) tests (after_rank sought a)
    where
      tests : (k : KeptStep) (x : CallStep) → x.id.rank ≡ a.id.rank → IsKeptStep script k x →
          (is_after kept k && is_sought script sought kept k) ≡ after_of sought a x
      tests k x rank is =
          let later = after_same script k x kept a is access rank in
          let what = sought_same script sought k x kept a is access in
          (λ i. later i && what i)
          ∙ and_joined (is_later_at_origin a x) (is_step_on a.issued.access.window x) (does sought a.issued x.step
          x.call)

  pub end_found :
      IsFoundAs (IsKeptStep script) (first_end records kept) (find (ends_its_request a) (steps_in script run))
  end_found = at_rank (λ k. is_after kept k && ends_request kept k) (ends_its_request a) kept.id.rank a.id.rank
      (ap (λ (id : Id). id.rank) access.named) tests (end_rank a)
    where
      tests : (k : KeptStep) (x : CallStep) → x.id.rank ≡ a.id.rank → IsKeptStep script k x →
          (is_after kept k && ends_request kept k) ≡ ends_its_request a x
      tests k x rank is =
          let later = after_same script k x kept a is access rank in
          let ends = ends_same script k x kept a is access in
          (λ i. later i && ends i)

  pub reached_found : (before : Id → Id → Bool) (points others : List Id) (sought : Sought) → points ≡ others →
      IsFoundAs (IsKeptStep script) (first_reached script records before points sought kept)
      (find (reached_of before others sought a) (steps_in script run))
  reached_found before points others sought same =
      at_rank (λ k. reaches before points k.id && is_sought script sought kept k) (reached_of before others sought a)
      kept.access.target a.issued.access.target (ap (λ (one : Access). one.target) access.access) tests
      (reached_rank before others sought a)
    where
      tests : (k : KeptStep) (x : CallStep) → x.id.rank ≡ a.issued.access.target → IsKeptStep script k x →
          (reaches before points k.id && is_sought script sought kept k) ≡ reached_of before others sought a x
      tests k x rank is =
          let what = sought_same script sought k x kept a is access in
          (λ i. reaches before (same i) (is.named i) && what i)
          ∙ sym (ap (λ b. b && (reaches before others x.id && sought_of sought a x))
          (eq-eqb x.id.rank a.issued.access.target rank))
