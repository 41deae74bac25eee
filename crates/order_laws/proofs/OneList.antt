-- A lawful run has one list of findings.
use Rattle.std.proofs.Common.{◌≡◌, Bool, refl, ap, ◌∙◌}
use Rattle.list_laws.proofs.Truths.{same_truth}
use Rattle.rma_types.specs.declared.accesses.Id.{Id}
use Rattle.rma_types.specs.declared.scripts.Script.{Script}
use Rattle.rma_record.specs.declared.runs.Run.{Run}
use Rattle.order_rules.specs.Before.{IsOrder}
use Rattle.order_rules.specs.Findings.{findings}
use Rattle.clock_rules.specs.Clocks.{stamps_in, is_counted}
use Rattle.order_laws.specs.FindingLaws.{FindingsAreOneList}
use Rattle.order_laws.proofs.Decide.{clocks_decide}
use Rattle.order_laws.proofs.Stamps.{keep_laws}

-- two tests that decide one order are one
same_order : (script : Script) (run : Run) (one other : Id → Id → Bool) → IsOrder script run one →
    IsOrder script run other → one ≡ other
same_order script run one other first second =
    λ k a b. same_truth (one a b) (other a b) (λ h. (second a b).1 ((first a b).0 h))
    (λ h. (first a b).1 ((second a b).0 h)) k

pub one_list : FindingsAreOneList
one_list script delay run lawful model =
    let before : Id → Id → Bool = is_counted (stamps_in script run) in
    let decides : IsOrder script run before = clocks_decide script delay run lawful (stamps_in script run)
    (keep_laws script delay run lawful) in (
      findings script run model before,
      (before, decides, refl),
      λ other are. are.2 ∙ ap (findings script run model) (same_order script run are.0 before are.1 decides),
    )
