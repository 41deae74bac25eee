-- Findings: no pair of reads, the least partner, and no pair left out.
use Rattle.std.proofs.Common.{◌≡◌, ◌⊎◌, inl, inr, Bool, true, false, List, [], ◌∷◌, ◌++◌, Option, Some, None, refl, ap}
use Rattle.std.proofs.Common.{sym, subst, ◌∙◌, append_assoc}
use Rattle.std.specs.Prelude.{if◌then◌else◌}
use Rattle.std.specs.List.{AllByRecursion}
use Rattle.std.specs.Option.{option_map_or}
use Rattle.std.proofs.lemmas.Bool.{false≢true}
use Rattle.std.proofs.lemmas.List.{append-nil}
use Rattle.list_laws.proofs.Members.{In, here, there, append_in, in_append_left, in_append_right, contains_in}
use Rattle.list_laws.proofs.Members.{in_contains}
use Rattle.rma_types.specs.declared.accesses.Id.{Id}
use Rattle.rma_types.specs.declared.findings.Finding.{Finding}
use Rattle.rma_types.specs.declared.findings.Model.{Model}
use Rattle.rma_types.specs.declared.findings.Rule.{Rule}
use Rattle.order_rules.specs.Findings.{judged_accesses, unless_ordered, pair_rule, first_finding, findings_after}
use Rattle.order_rules.specs.Findings.{findings}
use Rattle.order_rules.specs.Ordered.{JudgedAccess, role_in}
use Rattle.order_rules.specs.Roles.{Role, RmaUpdate, RmaRead, Store, Load}
use Rattle.order_rules.specs.Rules.{Pair, rule_for, forbidden_kind}
use Rattle.order_laws.specs.FindingLaws.{is_update, ReadsAreNoPair, IsFirstPair, PartnersAreLeast, EachPairIsFound}

true≢false : true ≡ false → ⊥
true≢false h = false≢true (sym h)

-- ---- two reads

rule_of_reads : (pair : Pair) (a b : Role) → is_update a ≡ false → is_update b ≡ false → rule_for pair a b ≡ None
rule_of_reads pair RmaUpdate b first second = absurd (true≢false first)
rule_of_reads pair Store b first second = absurd (true≢false first)
rule_of_reads pair RmaRead RmaUpdate first second = absurd (true≢false second)
rule_of_reads pair RmaRead RmaRead first second = refl
rule_of_reads pair RmaRead Store first second = absurd (true≢false second)
rule_of_reads pair RmaRead Load first second = refl
rule_of_reads pair Load RmaUpdate first second = absurd (true≢false second)
rule_of_reads pair Load RmaRead first second = refl
rule_of_reads pair Load Store first second = absurd (true≢false second)
rule_of_reads pair Load Load first second = refl

none_or_none : (test : Bool) (rule : Option Rule) → rule ≡ None → (if test then rule else None) ≡ None
none_or_none true rule none = none
none_or_none false rule none = refl

pub reads : ReadsAreNoPair
reads model before a b first second =
    let none : forbidden_kind a.access a.id.rank b.access b.id.rank model ≡ None = none_or_none _ _
    (rule_of_reads _ (role_in a) (role_in b) first second) in
    ap (λ rule. option_map_or (unless_ordered before a b) rule None) none

-- ---- the first partner

cases_option : {X : Type 0} (o : Option X) → (o ≡ None) ⊎ ((x : X) × (o ≡ Some x))
cases_option None = inl refl
cases_option (Some x) = inr (x, refl)

module _ (model : Model) (before : Id → Id → Bool) where
  -- the first of some accesses that is a forbidden pair with this one
  record IsFirst (accesses : List JudgedAccess) (b : JudgedAccess) (finding : Finding) : Type 0 where
    front : List JudgedAccess
    first : JudgedAccess
    back : List JudgedAccess
    partner : accesses ≡ front ++ first ∷ back
    names : finding ≡ record { first = first.id; second = b.id; rule = finding.rule }
    forbids : pair_rule model before first b ≡ Some finding.rule
    least : AllByRecursion (λ (one : JudgedAccess). pair_rule model before one b ≡ None) front

  made : JudgedAccess → JudgedAccess → Rule → Finding
  made a b rule = record { first = a.id; second = b.id; rule = rule }

  first_is : (accesses : List JudgedAccess) (b : JudgedAccess) (finding : Finding) →
      first_finding model before accesses b ≡ Some finding → IsFirst accesses b finding
  unfolding made
  first_is [] b finding h = absurd (cc h)
  first_is (a ∷ rest) b finding h = elim (cases_option (pair_rule model before a b)) [
    | inl none ↦
        let later = first_is rest b finding
        (sym (ap (λ o. option_map_or (λ rule. Some (made a b rule)) o (first_finding model before rest b)) none)
        ∙ h) in
        record {
          front = a ∷ later.front;
          first = later.first;
          back = later.back;
          partner = ap (λ l. a ∷ l) later.partner;
          names = later.names;
          forbids = later.forbids;
          least = (none, later.least);
        }
    | inr some ↦
        let is : made a b some.0 ≡ finding = cc
        (sym (ap (λ o. option_map_or (λ rule. Some (made a b rule)) o (first_finding model before rest b)) some.1)
        ∙ h) in
        let rule : some.0 ≡ finding.rule = ap (λ (f : Finding). f.rule) is in
        record {
          front = [];
          first = a;
          back = rest;
          partner = refl;
          names = sym is ∙ ap (made a b) rule;
          forbids = some.1 ∙ ap Some rule;
          least = tt;
        }
  ]

  after_is : (accesses earlier later : List JudgedAccess) (finding : Finding) → accesses ≡ earlier ++ later →
      In finding (findings_after model before earlier later) → IsFirstPair model before accesses finding
  after_is accesses earlier [] finding split m = elim m [ ]
  after_is accesses earlier (b ∷ rest) finding split m = elim
      (append_in (option_map_or (λ f. f ∷ []) (first_finding model before earlier b) []) m) [
        | inl here_ ↦
            let one = first_is earlier b finding (single (first_finding model before earlier b) here_) in
            record {
              earlier = earlier;
              second = b;
              later = rest;
              of_run = split;
              front = one.front;
              first = one.first;
              back = one.back;
              partner = one.partner;
              names = one.names;
              forbids = one.forbids;
              least = one.least;
            }
        | inr there_ ↦
            let again = split ∙ sym (append_assoc earlier (b ∷ []) rest) in
            after_is accesses (earlier ++ b ∷ []) rest finding again there_
      ]
    where
      single : (o : Option Finding) → In finding (option_map_or (λ f. f ∷ []) o []) → o ≡ Some finding
      single None m = elim m [ ]
      single (Some f) m = ap Some (only f m)
        where
          only : (f : Finding) → In finding (f ∷ []) → f ≡ finding
          only f here = refl
          only f (there k) = elim k [ ]

  -- ---- no pair is left out

  some_first : (accesses : List JudgedAccess) (b first : JudgedAccess) (rule : Rule) → In first accesses →
      pair_rule model before first b ≡ Some rule → (finding : Finding)
      × (first_finding model before accesses b ≡ Some finding) × (finding.second ≡ b.id)
  unfolding made
  some_first [] b first rule m h = elim m [ ]
  some_first (a ∷ rest) b first rule m h = elim (cases_option (pair_rule model before a b)) [
    | inr some ↦ (
      made a b some.0,
      ap
          (λ o. option_map_or (λ rule. Some (made a b rule)) o (first_finding model before rest b)) some.1,
      refl,
    )
    | inl none ↦
        let later = some_first rest b first rule (in_rest a rest first none h m) h in (
          later.0,
          ap (λ o. option_map_or (λ rule. Some (made a b rule)) o (first_finding model before rest b)) none
              ∙ later.1,
          later.2,
        )
  ]
    where
      in_rest : (a : JudgedAccess) (rest : List JudgedAccess) (first : JudgedAccess) →
          pair_rule model before a b ≡ None → pair_rule model before first b ≡ Some rule → In first (a ∷ rest) →
          In first rest
      in_rest a rest first none h here = absurd (cc (sym none ∙ h))
      in_rest a rest first none h (there m) = m

  found_after : (front back : List JudgedAccess) (earlier : List JudgedAccess) (b : JudgedAccess) (finding : Finding) →
      first_finding model before (earlier ++ front) b ≡ Some finding →
      In finding (findings_after model before earlier (front ++ b ∷ back))
  found_after [] back earlier b finding h =
      let same : first_finding model before earlier b ≡ Some finding = ap (λ l. first_finding model before l b)
      (sym (append-nil earlier)) ∙ h in
      in_append_left (findings_after model before (earlier ++ b ∷ []) back)
      (subst (λ o. In finding (option_map_or (λ f. f ∷ []) o [])) (sym same) here)
  found_after (a ∷ front) back earlier b finding h =
      in_append_right (option_map_or (λ f. f ∷ []) (first_finding model before earlier a) [])
      (found_after front back (earlier ++ a ∷ []) b finding
      (ap (λ l. first_finding model before l b) (append_assoc earlier (a ∷ []) front) ∙ h))

pub least : PartnersAreLeast
unfolding findings
least script run model before finding m =
    after_is model before (judged_accesses script run model before) [] (judged_accesses script run model before) finding
    refl
    (contains_in (findings_after model before [] (judged_accesses script run model before)) finding m)

pub complete : EachPairIsFound
unfolding findings
complete script run model before earlier second later split first m rule h =
    let one = some_first model before earlier second first rule (contains_in earlier first m) h in
    let found = found_after model before earlier later [] second one.0 one.1 in
    (one.0, in_contains (subst (λ l. In one.0 (findings_after model before [] l)) (sym split) found), one.2)
