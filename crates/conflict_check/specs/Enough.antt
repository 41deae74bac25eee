-- Points that stand for all are enough: after MPI 3.1, section 11.7, in this project's profile.
use Rattle.std.specs.Prelude.{◌≡◌, Bool, List, []}
use Rattle.rma_types.specs.declared.accesses.Id.{Id}
use Rattle.rma_types.specs.declared.findings.Model.{Model}
use Rattle.order_rules.specs.Findings.{findings_after}
use Rattle.order_rules.specs.Ordered.{JudgedAccess}
use Rattle.first_points.specs.Alike.{AreAlike, names_of}

-- points that stand for all give the same findings
abbrev pub AlikePointsAreEnough : Type 0
AlikePointsAreEnough = (model : Model) (before : Id → Id → Bool) (accesses others : List JudgedAccess) →
    AreAlike before (names_of accesses) accesses others →
    findings_after model before [] accesses ≡ findings_after model before [] others
