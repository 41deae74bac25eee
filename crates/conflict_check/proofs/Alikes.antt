-- Points that stand for others give the same findings.
use Rattle.std.proofs.Common.{◌≡◌, Bool, List, [], ◌∷◌, ◌++◌, Some, None, refl, ap, sym, subst, ◌∙◌}
use Rattle.std.proofs.Common.{append_assoc}
use Rattle.std.specs.Prelude.{Contains, IsTrue, ◌||◌, if◌then◌else◌}
use Rattle.std.specs.Option.{option_map_or}
use Rattle.list_laws.proofs.Members.{In, here, there, in_append_left, in_append_right, in_contains}
use Rattle.rma_types.specs.declared.accesses.Id.{Id}
use Rattle.rma_types.specs.declared.findings.Model.{Model}
use Rattle.order_rules.specs.Findings.{findings_after, first_finding, pair_rule, unless_ordered}
use Rattle.order_rules.specs.Ordered.{JudgedAccess, is_ordered, points_for, role_in}
use Rattle.order_rules.specs.Roles.{Role, RmaUpdate, RmaRead, Store, Load, role_of}
use Rattle.order_rules.specs.Rules.{forbidden_kind}
use Rattle.first_point_laws.specs.PointLaws.{is_rma}
use Rattle.first_points.specs.Alike.{reaches, IsAlike, AreAlike, names_of}

module _ (before : Id → Id → Bool) (ids : List Id) where
  -- the done points are asked for of an RMA access alone
  by_done : (a b : JudgedAccess) → IsAlike before ids a b → (first : Role) → role_in a ≡ first → IsTrue (is_rma first) →
      (id : Id) → Contains ids id → reaches before a.done id ≡ reaches before b.done id
  by_done a b like first is rma = like.done (subst (λ r. IsTrue (is_rma r)) (sym is) rma)

  by_roles : (a b : JudgedAccess) → IsAlike before ids a b → (first second : Role) → role_in a ≡ first → (id : Id) →
      Contains ids id → reaches before (points_for a first second) id ≡ reaches before (points_for b first second) id
  by_roles a b like RmaUpdate RmaUpdate is id m = by_done a b like RmaUpdate is refl id m
  by_roles a b like RmaUpdate RmaRead is id m = by_done a b like RmaUpdate is refl id m
  by_roles a b like RmaUpdate Store is id m = like.visible id m
  by_roles a b like RmaUpdate Load is id m = like.visible id m
  by_roles a b like RmaRead second is id m = by_done a b like RmaRead is refl id m
  by_roles a b like Store RmaUpdate is id m = like.visible id m
  by_roles a b like Store RmaRead is id m = like.visible id m
  by_roles a b like Store Store is id m = ap (λ i. reaches before (i ∷ []) id) like.named
  by_roles a b like Store Load is id m = ap (λ i. reaches before (i ∷ []) id) like.named
  by_roles a b like Load second is id m = ap (λ i. reaches before (i ∷ []) id) like.named

  ordered_alike : (a c b d : JudgedAccess) → IsAlike before ids a c → IsAlike before ids b d → Contains ids b.id →
      is_ordered before a b ≡ is_ordered before c d
  ordered_alike a c b d first second m =
      by_roles a c first (role_in a) (role_in b) refl b.id m
      ∙ (λ i. reaches before (points_for c (role_of (first.reached i).kind) (role_of (second.reached i).kind))
      (second.named i))

  forbidden_alike : (model : Model) (a c b d : JudgedAccess) → IsAlike before ids a c → IsAlike before ids b d →
      Contains ids a.id → Contains ids b.id → pair_rule model before a b ≡ pair_rule model before c d
  forbidden_alike model a c b d first second of_a of_b =
      let one = ordered_alike a c b d first second of_b in
      let two = ordered_alike b d a c second first of_a in
      ap (λ ordered. option_map_or (λ rule. if ordered || is_ordered before b a then None else Some rule)
      (forbidden_kind a.access a.id.rank b.access b.id.rank model) None) one
      ∙ ap (λ ordered. option_map_or (λ rule. if is_ordered before c d || ordered then None else Some rule)
      (forbidden_kind a.access a.id.rank b.access b.id.rank model) None) two
      ∙ (λ i. option_map_or (unless_ordered before c d)
      (forbidden_kind (first.reached i) (first.named i).rank (second.reached i) (second.named i).rank model) None)

  first_alike : (model : Model) (accesses others : List JudgedAccess) (b d : JudgedAccess) →
      AreAlike before ids accesses others → IsAlike before ids b d →
      ((a : JudgedAccess) → In a accesses → Contains ids a.id) → Contains ids b.id →
      first_finding model before accesses b ≡ first_finding model before others d
  first_alike model [] [] b d all second of_all of_b = refl
  first_alike model [] (c ∷ others) b d all second of_all of_b = absurd all
  first_alike model (a ∷ accesses) [] b d all second of_all of_b = absurd all
  first_alike model (a ∷ accesses) (c ∷ others) b d all second of_all of_b =
      let rule = forbidden_alike model a c b d all.0 second (of_all a here) of_b in
      let rest = first_alike model accesses others b d all.1 second (λ x m. of_all x (there m)) of_b in
      (λ i. option_map_or (λ rule. Some (record { first = all.0.named i; second = second.named i; rule = rule }))
      (rule i) (rest i))

  append_alike : (accesses others : List JudgedAccess) (b d : JudgedAccess) → AreAlike before ids accesses others →
      IsAlike before ids b d → AreAlike before ids (accesses ++ b ∷ []) (others ++ d ∷ [])
  append_alike [] [] b d all one = (one, tt)
  append_alike [] (c ∷ others) b d all one = absurd all
  append_alike (a ∷ accesses) [] b d all one = absurd all
  append_alike (a ∷ accesses) (c ∷ others) b d all one = (all.0, append_alike accesses others b d all.1 one)

  after_alike : (model : Model) (earlier before_others accesses others : List JudgedAccess) →
      AreAlike before ids earlier before_others → AreAlike before ids accesses others →
      ((a : JudgedAccess) → In a (earlier ++ accesses) → Contains ids a.id) →
      findings_after model before earlier accesses ≡ findings_after model before before_others others
  after_alike model earlier before_others [] [] front all of_all = refl
  after_alike model earlier before_others [] (d ∷ others) front all of_all = absurd all
  after_alike model earlier before_others (b ∷ accesses) [] front all of_all = absurd all
  after_alike model earlier before_others (b ∷ accesses) (d ∷ others) front all of_all =
      let one = first_alike model earlier before_others b d front all.0
      (λ a m. of_all a (in_append_left (b ∷ accesses) m)) (of_all b (in_append_right earlier here)) in
      let rest = after_alike model (earlier ++ b ∷ []) (before_others ++ d ∷ []) accesses others
      (append_alike earlier before_others b d front all.0) all.1
      (λ a m. of_all a (subst (λ l. In a l) (append_assoc earlier (b ∷ []) accesses) m)) in
      (λ i. option_map_or (λ finding. finding ∷ []) (one i) [] ++ rest i)

member_named : (accesses : List JudgedAccess) (a : JudgedAccess) → In a accesses → In a.id (names_of accesses)
member_named [] a m = elim m [ ]
member_named (b ∷ accesses) a here = here
member_named (b ∷ accesses) a (there m) = there (member_named accesses a m)

pub findings_alike : (model : Model) (before : Id → Id → Bool) (accesses others : List JudgedAccess) →
    AreAlike before (names_of accesses) accesses others →
    findings_after model before [] accesses ≡ findings_after model before [] others
findings_alike model before accesses others all =
    after_alike before (names_of accesses) model [] [] accesses others tt all
    (λ a m. in_contains (member_named accesses a m))
