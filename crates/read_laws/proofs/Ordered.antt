-- Where an access is ordered before another, each of its touches is before each of the other's.
use Rattle.std.proofs.Common.{◌≡◌, ℕ, ◌<◌, ◌≤◌, ◌⊎◌, inl, inr, Bool, true, false, cond, List, [], ◌∷◌, length, Some}
use Rattle.std.proofs.Common.{refl, ap, sym, ◌∙◌, subst, arith}
use Rattle.std.specs.Prelude.{◌&&◌, ◌==◌, ◌≢◌, nat_lt, slice_get, IfSome}
use Rattle.std.specs.List.{filter, list_any}
use Rattle.std.proofs.lemmas.Bool.{and_parts, cases_eq, eqb-true, ltb-true}
use Rattle.std.proofs.lemmas.Option.{slice_get_within}
use Rattle.list_laws.proofs.Members.{each_in, In, here, there, map_in, filter_in, any_in}
use Rattle.rma_types.specs.declared.accesses.Id.{Id}
use Rattle.rma_types.specs.declared.accesses.Kind.{Kind}
use Rattle.rma_types.specs.declared.accesses.Kind.TheVariants.{Get as GetKind, Put as PutKind, Acc as AccKind}
use Rattle.rma_types.specs.declared.accesses.Kind.TheVariants.{Cas as CasKind, Load as LoadKind, Store as StoreKind}
use Rattle.rma_types.specs.declared.findings.Model.{Model}
use Rattle.rma_types.specs.declared.findings.Model.TheVariants.{Separate, Unified}
use Rattle.rma_types.specs.declared.schedules.Delay.{Delay}
use Rattle.rma_types.specs.declared.scripts.Script.{Script}
use Rattle.rma_record.specs.declared.items.Item.{Item}
use Rattle.rma_record.specs.declared.items.Item.TheVariants.{Issue, Touch, Entry}
use Rattle.rma_record.specs.declared.runs.Run.{Run}
use Rattle.rma_types.specs.Actions.{action_of}
use Rattle.call_rules.specs.Pieces.{numbers_from}
use Rattle.call_rules.specs.Transfers.{is_no_op}
use Rattle.call_rules.specs.WellFormed.{IsWellFormed}
use Rattle.call_rules.proofs.NumbersFrom.{in_numbers}
use Rattle.lawful_runs.specs.Accesses.{Touching}
use Rattle.lawful_runs.specs.Items.{is_touch}
use Rattle.lawful_runs.specs.LawfulRun.{IsLawful, rank_in}
use Rattle.lawful_runs.specs.Logs.{log_of, calls_of}
use Rattle.lawful_runs.specs.TouchLaw.{issued_in, is_local, IsLocalDirect, HasItsIssue, HasIssueBefore}
use Rattle.lawful_runs.proofs.ItemLaws.{plain_touches_nothing}
use Rattle.order_rules.specs.Before.{Before, Same, InLog, Across, IsOrder, events_in}
use Rattle.order_rules.specs.CallSteps.{CallStep, IssuedAccess, steps_in, is_step_on, is_later_at_origin}
use Rattle.order_rules.specs.CallSteps.{is_later_on_window}
use Rattle.order_rules.specs.DonePoints.{timeline_of, done_points, is_done_at}
use Rattle.order_rules.specs.Findings.{judged_access}
use Rattle.order_rules.specs.Ordered.{points_for, is_ordered}
use Rattle.order_rules.specs.Roles.{Role, RmaUpdate, RmaRead, Store, Load, role_of, is_rma_read}
use Rattle.order_rules.specs.VisiblePoints.{takes_in, is_taken_in_at, gives_out, is_given_out_at, separate_points}
use Rattle.order_rules.specs.VisiblePoints.{unified_points, visible_points}
use Rattle.order_laws.proofs.Order.{transitive, edge_between, event_at}
use Rattle.read_laws.proofs.Leaves.{step_untouched}
use Rattle.read_laws.proofs.Points.{before_done}
use Rattle.read_laws.proofs.Steps.{IsAccess, IsTouchBy, touch_logged, step_is}
use Rattle.read_laws.proofs.Touches.{issued_is}
use Rattle.read_laws.proofs.Waits.{IsIssuedAt, issued_among, directly_before}

-- ---- kinds

no_local : (b : Bool) (role : Role) → cond b RmaRead RmaUpdate ≡ role → (role ≡ Store) ⊎ (role ≡ Load) → ⊥
no_local true role e (inl store) = absurd (cc (e, store))
no_local true role e (inr load) = absurd (cc (e, load))
no_local false role e (inl store) = absurd (cc (e, store))
no_local false role e (inr load) = absurd (cc (e, load))

local_role : (kind : Kind) (role : Role) → role_of kind ≡ role → (role ≡ Store) ⊎ (role ≡ Load) → is_local kind ≡ true
local_role GetKind role e (inl store) = absurd (cc (e, store))
local_role GetKind role e (inr load) = absurd (cc (e, load))
local_role PutKind role e (inl store) = absurd (cc (e, store))
local_role PutKind role e (inr load) = absurd (cc (e, load))
local_role (AccKind op dtype) role e which = absurd (no_local (is_no_op op) role e which)
local_role (CasKind dtype) role e (inl store) = absurd (cc (e, store))
local_role (CasKind dtype) role e (inr load) = absurd (cc (e, load))
local_role LoadKind role e which = refl
local_role StoreKind role e which = refl

module _ (script : Script) (delay : Delay) (run : Run) (formed : IsWellFormed script)
    (lawful : IsLawful script delay run) where
  -- ---- loads and stores

  -- each touch of a load or a store stands before any later item that is no touch
  directly : (a : IssuedAccess) (u : Touching) (k : ℕ) (x : Item) → IsAccess script run a → IsTouchBy script run a u →
      is_local a.issued.access.kind ≡ true → slice_get (log_of run a.id.rank) k ≡ Some x → is_touch x ≡ false →
      a.id.index < k → u.id.index < k
  directly a u k x access by local at plain later =
      let here = rank_in script delay run a.id.rank in
      let log = log_of run a.id.rank in
      let is : IsIssuedAt here log a.issued = record {
        item = access.item;
        logged = access.logged;
        issued = access.issued;
      } in
      let follows = each_in (IsLocalDirect here log) (issued_in here log)
      (lawful.logs a.id.rank access.within).local_direct
      (issued_among here log a.issued is) local in
      directly_before here log a.issued k x (lawful.logs a.id.rank access.within) is follows
      (omega (arith, later, access.index)) at
      (plain_touches_nothing a.issued.index x plain) u.id.index u.element u.cell u.place u.bits
      (touch_logged script run a u by)

  -- what the Issue of a load or a store is before: an item of its log from there on, or what its touches are before
  local_before : (a : IssuedAccess) (u : Touching) (c : Id) → IsAccess script run a → IsTouchBy script run a u →
      is_local a.issued.access.kind ≡ true → Before script run a.id c →
      ((a.id.rank ≡ c.rank) × (a.id.index ≤ c.index)) ⊎ Before script run u.id c
  local_before a u c access by local Same = inl (refl, omega arith)
  local_before a u c access by local (InLog {b} rest stands) = elim (local_before a u b access by local rest) [
    | inl near ↦ inl (near.0 ∙ stands.0, omega (arith, near.1, stands.1))
    | inr far ↦ inr (InLog far stands)
  ]
  local_before a u c access by local (Across {b} rest edge) = elim (local_before a u b access by local rest) [
    | inr far ↦ inr (Across far edge)
    | inl near ↦
        let ends = edge_between (events_in script run) b c edge in
        let event = event_at script delay run lawful ends.0 ends.2 in
        let logged : slice_get (log_of run a.id.rank) b.index ≡ Some
        (Entry event.number ends.0.event.place ends.0.event.step) =
        ap (λ r. slice_get (log_of run r) b.index) near.0
        ∙ ap (λ (i : Id). slice_get (log_of run i.rank) i.index) (sym ends.4) ∙ event.logged in
        inr (Across (InLog Same (
          by.rank ∙ near.0,
          directly a u b.index (Entry event.number ends.0.event.place ends.0.event.step) access by local
              logged refl (after b event.number ends.0.event.place ends.0.event.step near.1 logged),
        )) edge)
  ]
    where
      after : (b : Id) (number place : ℕ) (step : _) → a.id.index ≤ b.index →
          slice_get (log_of run a.id.rank) b.index ≡ Some (Entry number place step) → a.id.index < b.index
      after b number place step low logged = elim (cases_eq a.id.index b.index) [
        | inr other ↦ omega (arith, low, other)
        | inl same ↦
            let issue = issued_is (calls_of script a.id.rank) a.issued.index access.item a.issued access.issued in
            let at : a.issued.index ≡ b.index = access.index ∙ same in
            let both : Some (Issue a.issued.number a.issued.access) ≡ Some (Entry number place step) =
            ap Some (sym issue.is) ∙ sym access.logged ∙ ap (slice_get (log_of run a.id.rank)) at ∙ logged in
            absurd (cc both)
      ]

  -- ---- points

  module _ (model : Model) (before : Id → Id → Bool) (order : IsOrder script run before) where
    -- each touch of the access is before the points
    abbrev AreAfter : IssuedAccess → List Id → Type 0
    AreAfter a points = (point : Id) → In point points → (u : Touching) → IsTouchBy script run a u →
        Before script run u.id point

    after_done : (a : IssuedAccess) → IsAccess script run a →
        (is_rma_read (role_of a.issued.access.kind) ≡ true → a.issued.fetches ≡ true) →
        AreAfter a (done_points (timeline_of script run) a)
    after_done a access fetches point m u by =
        let x = map_in (λ (x : CallStep). x.id) (filter (is_done_at (timeline_of script run) a) (steps_in script run))
        m in
        let is = filter_in (is_done_at (timeline_of script run) a) (steps_in script run) x.1 in
        subst (Before script run u.id) x.2
        (before_done script delay run formed lawful a u x.0 access by (step_is script run is.0) fetches is.1)

    after_taken : (a : IssuedAccess) → IsAccess script run a →
        (is_rma_read (role_of a.issued.access.kind) ≡ true → a.issued.fetches ≡ true) →
        AreAfter a (separate_points before (timeline_of script run) a RmaUpdate)
    after_taken a access fetches point m u by =
        let done = done_points (timeline_of script run) a in
        let x = map_in (λ (x : CallStep). x.id) (filter (is_taken_in_at before a done) (steps_in script run)) m in
        let is = filter_in (is_taken_in_at before a done) (steps_in script run) x.1 in
        let parts = and_parts (x.0.id.rank == a.issued.access.target && is_step_on a.issued.access.window x.0 &&
        takes_in x.0.step (action_of x.0.call))
        (list_any (λ q. before q x.0.id) done) is.1 in
        let q = any_in (λ q. before q x.0.id) done parts.1 in
        subst (Before script run u.id) x.2
        (transitive script run u.id q.0 x.0.id (after_done a access fetches q.0 q.1 u by) ((order q.0 x.0.id).0 q.2))

    after_given : (a : IssuedAccess) → IsAccess script run a → is_local a.issued.access.kind ≡ true →
        AreAfter a (separate_points before (timeline_of script run) a Store)
    after_given a access local point m u by =
        let x = map_in (λ (x : CallStep). x.id) (filter (is_given_out_at a) (steps_in script run)) m in
        let is = filter_in (is_given_out_at a) (steps_in script run) x.1 in
        let step = step_is script run is.0 in
        let parts = and_parts (is_later_on_window a x.0) (gives_out x.0.step (action_of x.0.call)) is.1 in
        let later = and_parts (is_later_at_origin a x.0) (is_step_on a.issued.access.window x.0) parts.0 in
        let same = and_parts (x.0.id.rank == a.id.rank) (nat_lt a.id.index x.0.id.index) later.0 in
        let rank : x.0.id.rank ≡ a.id.rank = eqb-true x.0.id.rank a.id.rank same.0 in
        let below = directly a u x.0.id.index step.item access by local
        (subst (λ r. slice_get (log_of run r) x.0.id.index ≡ Some step.item) rank step.logged)
        (step_untouched step.item step.number x.0.step step.step_is) (ltb-true a.id.index x.0.id.index same.1) in
        subst (Before script run u.id) x.2 (InLog Same (by.rank ∙ sym rank, below))

    -- the touches of an access are before each of its points, or it is a load or a store and the point is its Issue
    abbrev IsPoint : IssuedAccess → Id → Type 0
    IsPoint a point = ((a.id ≡ point) × (is_local a.issued.access.kind ≡ true))
        ⊎ ((u : Touching) → IsTouchBy script run a u → Before script run u.id point)

    own_point : (a : IssuedAccess) {point : Id} → is_local a.issued.access.kind ≡ true → In point (a.id ∷ []) →
        IsPoint a point
    own_point a local here = inl (refl, local)
    own_point a local (there m) = elim m [ ]

    -- the visible points of an update
    update_visible : (m : Model) (a : IssuedAccess) (point : Id) → IsAccess script run a →
        (is_rma_read (role_of a.issued.access.kind) ≡ true → a.issued.fetches ≡ true) →
        role_of a.issued.access.kind ≡ RmaUpdate →
        In point (visible_points m before (timeline_of script run) a) → IsPoint a point
    update_visible Separate a point access fetches is m = inr (after_taken a access fetches point
        (subst (λ role. In point (separate_points before (timeline_of script run) a role)) is m))
    update_visible Unified a point access fetches is m = inr (after_done a access fetches point
        (subst (λ role. In point (unified_points (timeline_of script run) a role)) is m))

    -- those of a store
    store_visible : (m : Model) (a : IssuedAccess) (point : Id) → IsAccess script run a →
        role_of a.issued.access.kind ≡ Store →
        In point (visible_points m before (timeline_of script run) a) → IsPoint a point
    store_visible Separate a point access is m =
        inr (after_given a access (local_role a.issued.access.kind Store is (inl refl)) point
        (subst (λ role. In point (separate_points before (timeline_of script run) a role)) is m))
    store_visible Unified a point access is m = own_point a (local_role a.issued.access.kind Store is (inl refl))
        (subst (λ role. In point (unified_points (timeline_of script run) a role)) is m)

    point_is : (a : IssuedAccess) (role other : Role) (point : Id) → IsAccess script run a →
        (is_rma_read (role_of a.issued.access.kind) ≡ true → a.issued.fetches ≡ true) →
        role_of a.issued.access.kind ≡ role →
        In point (points_for (judged_access model before (timeline_of script run) a) role other) → IsPoint a point
    point_is a RmaUpdate RmaUpdate point access fetches is m = inr (after_done a access fetches point m)
    point_is a RmaUpdate RmaRead point access fetches is m = inr (after_done a access fetches point m)
    point_is a RmaUpdate Store point access fetches is m = update_visible model a point access fetches is m
    point_is a RmaUpdate Load point access fetches is m = update_visible model a point access fetches is m
    point_is a RmaRead other point access fetches is m = inr (after_done a access fetches point m)
    point_is a Store RmaUpdate point access fetches is m = store_visible model a point access is m
    point_is a Store RmaRead point access fetches is m = store_visible model a point access is m
    point_is a Store Store point access fetches is m =
        own_point a (local_role a.issued.access.kind Store is (inl refl)) m
    point_is a Store Load point access fetches is m =
        own_point a (local_role a.issued.access.kind Store is (inl refl)) m
    point_is a Load other point access fetches is m = own_point a (local_role a.issued.access.kind Load is (inr refl)) m

    -- ---- ordered accesses

    -- each touch of the first is before the Issue of the second
    pub before_issue : (a b : IssuedAccess) (u : Touching) → IsAccess script run a → IsAccess script run b →
        a.id ≢ b.id →
        (is_rma_read (role_of a.issued.access.kind) ≡ true → a.issued.fetches ≡ true) →
        is_ordered before (judged_access model before (timeline_of script run) a)
        (judged_access model before (timeline_of script run) b) ≡ true →
        IsTouchBy script run a u → Before script run u.id b.id
    before_issue a b u access other apart fetches ordered by =
        let role = role_of a.issued.access.kind in
        let q = any_in (λ point. before point b.id)
        (points_for (judged_access model before (timeline_of script run) a) role (role_of b.issued.access.kind))
        ordered in
        let reaches = (order q.0 b.id).0 q.2 in
        elim (point_is a role (role_of b.issued.access.kind) q.0 access fetches refl q.1) [
          | inr after ↦ transitive script run u.id q.0 b.id (after u by) reaches
          | inl own ↦ elim (local_before a u b.id access by own.1
              (subst (λ i. Before script run i b.id) (sym own.0) reaches)) [
                | inr far ↦ far
                | inl near ↦ InLog Same (
                  by.rank ∙ near.0,
                  directly a u b.id.index other.item access by own.1
                      (ap (λ r. slice_get (log_of run r) b.id.index) near.0
                      ∙ ap (slice_get (log_of run b.id.rank)) (sym other.index) ∙ other.logged)
                      (ap is_touch (issued_is (calls_of script b.id.rank) b.issued.index other.item b.issued
                      other.issued).is)
                      (later near.0 near.1),
                )
              ]
        ]
      where
        later : a.id.rank ≡ b.id.rank → a.id.index ≤ b.id.index → a.id.index < b.id.index
        later rank low = elim (cases_eq a.id.index b.id.index) [
          | inl same ↦ absurd (apart (λ k. record { rank = rank k; index = same k }))
          | inr other ↦ omega (arith, low, other)
        ]

  -- a touch stands after the Issue of its access
  pub after_issue : (b : IssuedAccess) (v : Touching) → IsAccess script run b → IsTouchBy script run b v →
      Before script run b.id v.id
  after_issue b v access by =
      let log = log_of run b.id.rank in
      let here = rank_in script delay run b.id.rank in
      let logged = touch_logged script run b v by in
      let law = each_in (HasItsIssue here log) (numbers_from 0 (length log))
      (lawful.logs b.id.rank access.within).issues
      (in_numbers 0 (length log) v.id.index (omega arith) (omega (arith, slice_get_within log v.id.index _ logged))) in
      let is : HasIssueBefore here log v.id.index (Touch b.issued.index v.element v.cell v.place v.bits) =
      subst (λ o. IfSome o (HasIssueBefore here log v.id.index)) logged law in
      InLog Same (sym by.rank, omega (arith, is.0, access.index))
