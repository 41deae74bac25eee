-- The accesses of a run with the points that are kept are alike to those with all points.
use Rattle.std.proofs.Common.{◌≡◌, ℕ, Bool, true, false, List, [], ◌∷◌, refl, ap, sym, subst, ◌∙◌}
use Rattle.std.specs.Prelude.{Contains, IsTrue, ◌==◌, ◌&&◌, map}
use Rattle.std.specs.Option.{option_map_or}
use Rattle.std.proofs.lemmas.Bool.{false≢true}
use Rattle.list_laws.proofs.Members.{In, here, there, contains_in, map_in}
use Rattle.rma_types.specs.declared.accesses.Access.{Access}
use Rattle.rma_types.specs.declared.accesses.Id.{Id}
use Rattle.rma_types.specs.declared.accesses.Step.{Step}
use Rattle.rma_types.specs.declared.accesses.Step.TheVariants.{Arrive, Leave, One}
use Rattle.rma_types.specs.declared.calls.Call.{Call}
use Rattle.rma_types.specs.declared.findings.Model.{Model}
use Rattle.rma_types.specs.declared.findings.Model.TheVariants.{Separate, Unified}
use Rattle.rma_types.specs.declared.scripts.Script.{Script}
use Rattle.rma_record.specs.declared.runs.Run.{Run}
use Rattle.rma_types.specs.declared.actions.Action.{Action}
use Rattle.rma_types.specs.declared.actions.Action.TheVariants.{Creates, Frees, Attaches, Detaches, Synchronises, Meets}
use Rattle.rma_types.specs.declared.actions.Action.TheVariants.{Moves, EndsRequest}
use Rattle.rma_types.specs.declared.actions.Synchronisation.{Synchronisation}
use Rattle.rma_types.specs.declared.actions.Synchronisation.TheVariants.{Fences, Posts, Starts, Completes, Waits, Locks}
use Rattle.rma_types.specs.declared.actions.Synchronisation.TheVariants.{Unlocks, Flushes, Syncs}
use Rattle.rma_types.specs.Actions.{action_of}
use Rattle.board_rules.specs.Entries.{Fence as FenceCollective, collective_in, is_arrive}
use Rattle.board_rules.specs.Entries.{is_same_collective}
use Rattle.order_rules.specs.CallSteps.{CallStep, IssuedAccess, accesses_in, is_step_on, steps_in}
use Rattle.order_rules.specs.DonePoints.{done_points, timeline_of}
use Rattle.order_rules.specs.Findings.{judged_access, judged_accesses}
use Rattle.order_rules.specs.Ordered.{JudgedAccess}
use Rattle.order_rules.specs.Roles.{Role, RmaUpdate, RmaRead, Store, Load, role_of}
use Rattle.order_rules.specs.VisiblePoints.{is_given_out_at, is_taken_in_at, separate_points, takes_in, unified_points}
use Rattle.order_rules.specs.VisiblePoints.{visible_points}
use Rattle.first_point_laws.specs.PointLaws.{is_rma}
use Rattle.rank_records.specs.Kept.{EachKept, IsKeptAccess, IsKeptStep, steps_of_rank}
use Rattle.rank_records.specs.declared.kept.KeptAccess.{KeptAccess}
use Rattle.rank_records.specs.declared.kept.RankRecord.{RankRecord}
use Rattle.first_points.specs.Alike.{AreAlike, IsAlike, names_of, reaches}
use Rattle.first_points.specs.KeptPoints.{done, first_after, first_reached, kept_steps, point, visible}
use Rattle.first_points.specs.KeptPoints.{visible_separate, visible_unified, with_points}
use Rattle.first_points.specs.declared.searches.Sought.TheVariants.{TakingIn, GivingOut}
use Rattle.first_points.proofs.DoneParts.{IsJudgedRun, IsOther, done_alike}
use Rattle.first_points.proofs.KeptParts.{each_member}
use Rattle.first_points.proofs.RankSteps.{access_named, access_no_step, one_step, step_named}
use Rattle.first_points.proofs.SoughtSteps.{after_found, after_of, after_rank, reached_found, reached_of}
use Rattle.first_points.proofs.SoughtSteps.{reached_rank}
use Rattle.first_points.proofs.Stands.{Stands, first_stands, reach_alike, same_stands}

-- ---- what takes in is no arrival at a fence

no_arrival_by : (s : Synchronisation) (win : ℕ) → takes_in Arrive (Synchronises win s) ≡ true →
    option_map_or (is_same_collective FenceCollective) (collective_in (Synchronises win s)) false ≡ true → ⊥
no_arrival_by (Fences asserts) win takes arrives = false≢true takes
no_arrival_by (Posts group asserts) win takes arrives = false≢true takes
no_arrival_by (Starts group asserts) win takes arrives = false≢true takes
no_arrival_by Completes win takes arrives = false≢true takes
no_arrival_by (Waits tests) win takes arrives = false≢true arrives
no_arrival_by (Locks kind target asserts) win takes arrives = false≢true arrives
no_arrival_by (Unlocks target) win takes arrives = false≢true takes
no_arrival_by (Flushes target local) win takes arrives = false≢true takes
no_arrival_by Syncs win takes arrives = false≢true arrives

no_arrival_in : (a : Action) → takes_in Arrive a ≡ true →
    option_map_or (is_same_collective FenceCollective) (collective_in a) false ≡ true → ⊥
no_arrival_in (Creates creation) takes arrives = false≢true takes
no_arrival_in (Frees win) takes arrives = false≢true takes
no_arrival_in (Attaches win base bytes) takes arrives = false≢true takes
no_arrival_in (Detaches win base) takes arrives = false≢true takes
no_arrival_in (Synchronises win s) takes arrives = no_arrival_by s win takes arrives
no_arrival_in Meets takes arrives = false≢true takes
no_arrival_in (Moves transfer) takes arrives = false≢true takes
no_arrival_in (EndsRequest req) takes arrives = false≢true takes

no_arrival : (step : Step) (a : Action) → takes_in step a ≡ true →
    (is_arrive step && option_map_or (is_same_collective FenceCollective) (collective_in a) false) ≡ true → ⊥
no_arrival Arrive a takes arrives = no_arrival_in a takes arrives
no_arrival Leave a takes arrives = false≢true arrives
no_arrival One a takes arrives = false≢true arrives

taking_in_is_other : (script : Script) (run : Run) (x : CallStep) → In x (steps_in script run) →
    takes_in x.step (action_of x.call) ≡ true → IsOther script run x.id
taking_in_is_other script run x m takes = record {
  named = step_named script run m;
  other = λ y of arrives same.
      let one = one_step script run m of same in
      no_arrival y.step (action_of y.call)
      (subst (λ (c : Call). takes_in y.step (action_of c) ≡ true) one.1
      (subst (λ s. takes_in s (action_of x.call) ≡ true) one.0 takes)) arrives;
}

access_is_other : (script : Script) (run : Run) {a : IssuedAccess} → In a (accesses_in script run) →
    IsOther script run a.id
access_is_other script run m = record {
  named = access_named script run m;
  other = λ y of arrives same. access_no_step script run m of same;
}

-- ---- the visible points

-- the tests of an update that is taken in, in the order in which the search asks them, and in the definition's
taken_order : (k r o d q : Bool) → (d ≡ true → r ≡ q) → (k && (r && (o && d))) ≡ (((k && o) && d) && q)
taken_order true true true true q same = same refl
taken_order true true true false q same = refl
taken_order true true false d q same = refl
taken_order true false true true q same = same refl
taken_order true false true false q same = refl
taken_order true false false d q same = refl
taken_order false r o d q same = refl

module _ (script : Script) (run : Run) (before : Id → Id → Bool) (judged_run : IsJudgedRun script run before)
    (records : List RankRecord)
    (steps : (rank : ℕ) → EachKept (IsKeptStep script) (kept_steps records rank) (steps_of_rank script run rank))
    (kept : KeptAccess) (a : IssuedAccess) (access : IsKeptAccess kept a) (member : In a (accesses_in script run)) where
  -- the first step at which an update is taken in stands for all
  taken_in : IsTrue (is_rma (role_of a.issued.access.kind)) → (points : List Id) →
      points ≡ done script records before (role_of a.issued.access.kind) kept → (id : Id) →
      Stands script run before judged_run.order (point (first_reached script records before points TakingIn kept))
      (is_taken_in_at before a (done_points (timeline_of script run) a)) id
  taken_in rma points are id =
      same_stands script run before judged_run.order (point (first_reached script records before points TakingIn kept))
      (reached_of before points TakingIn a) (is_taken_in_at before a (done_points (timeline_of script run) a)) id tests
      (first_stands script run before judged_run.order (first_reached script records before points TakingIn kept)
      (reached_of before points TakingIn a) a.issued.access.target (reached_rank before points TakingIn a)
      (reached_found script run records steps kept a access before points points TakingIn refl) id)
    where
      tests : (x : CallStep) → In x (steps_in script run) →
          reached_of before points TakingIn a x
          ≡ is_taken_in_at before a (done_points (timeline_of script run) a) x
      tests x m = taken_order (x.id.rank == a.issued.access.target) (reaches before points x.id)
          (is_step_on a.issued.access.window x) (takes_in x.step (action_of x.call))
          (reaches before (done_points (timeline_of script run) a) x.id)
          (λ takes. ap (λ l. reaches before l x.id) are
          ∙ done_alike script run before judged_run records steps kept a access member rma x.id
          (taking_in_is_other script run x m takes))

  given_out : (id : Id) →
      Stands script run before judged_run.order (point (first_after script records GivingOut kept)) (is_given_out_at
      a) id
  given_out id = first_stands script run before judged_run.order (first_after script records GivingOut kept)
      (after_of GivingOut a) a.id.rank (after_rank GivingOut a)
      (after_found script run records steps kept a access GivingOut) id

  separate_alike : (role : Role) → role_of a.issued.access.kind ≡ role → (id : Id) →
      reaches before (visible_separate script records before (done script records before role kept) role kept) id
      ≡ reaches before (separate_points before (timeline_of script run) a role) id
  separate_alike RmaUpdate is id =
      let points = done script records before RmaUpdate kept in
      reach_alike script run before judged_run.order (point (first_reached script records before points TakingIn kept))
      (is_taken_in_at before a (done_points (timeline_of script run) a)) id
      (taken_in (ap is_rma is) points (ap (λ role. done script records before role kept) (sym is)) id)
  separate_alike RmaRead is id = refl
  separate_alike Store is id = reach_alike script run before judged_run.order
      (point (first_after script records GivingOut kept)) (is_given_out_at a) id (given_out id)
  separate_alike Load is id = refl

  unified_alike : (role : Role) → role_of a.issued.access.kind ≡ role → (id : Id) → IsOther script run id →
      reaches before (visible_unified (done script records before role kept) role kept) id
      ≡ reaches before (unified_points (timeline_of script run) a role) id
  unified_alike RmaUpdate is id other =
      ap (λ role. reaches before (done script records before role kept) id) (sym is)
      ∙ done_alike script run before judged_run records steps kept a access member (ap is_rma is) id other
  unified_alike RmaRead is id other = refl
  unified_alike Store is id other = ap (λ i. reaches before (i ∷ []) id) access.named
  unified_alike Load is id other = refl

  visible_alike : (model : Model) (id : Id) → IsOther script run id →
      reaches before (visible script records before model
      (done script records before (role_of a.issued.access.kind) kept) (role_of a.issued.access.kind) kept) id
      ≡ reaches before (visible_points model before (timeline_of script run) a) id
  visible_alike Separate id other = separate_alike (role_of a.issued.access.kind) refl id
  visible_alike Unified id other = unified_alike (role_of a.issued.access.kind) refl id other

  -- the access with its kept points is alike to the access with all of its points
  pub one_alike : (model : Model) (ids : List Id) → ((id : Id) → Contains ids id → IsOther script run id) →
      IsAlike before ids (with_points script records before model kept)
      (judged_access model before (timeline_of script run) a)
  one_alike model ids others = record {
    named = access.named;
    reached = access.access;
    done = λ rma id m.
        ap (λ (one : Access). reaches before (done script records before (role_of one.kind) kept) id) access.access
        ∙ done_alike script run before judged_run records steps kept a access member
        (ap (λ (one : Access). is_rma (role_of one.kind)) (sym access.access) ∙ rma) id (others id m);
    visible = λ id m.
        ap (λ (one : Access). reaches before (visible script records before model
        (done script records before (role_of one.kind) kept) (role_of one.kind) kept) id) access.access
        ∙ visible_alike model id (others id m);
  }

module _ (script : Script) (run : Run) (before : Id → Id → Bool) (judged_run : IsJudgedRun script run before)
    (records : List RankRecord)
    (steps : (rank : ℕ) → EachKept (IsKeptStep script) (kept_steps records rank) (steps_of_rank script run rank))
    (model : Model) where
  each_alike : (ids : List Id) → ((id : Id) → Contains ids id → IsOther script run id) → (kepts : List KeptAccess)
      (accesses : List IssuedAccess) → EachKept IsKeptAccess kepts accesses →
      ((a : IssuedAccess) → In a accesses → In a (accesses_in script run)) →
      AreAlike before ids (map (with_points script records before model) kepts)
      (map (judged_access model before (timeline_of script run)) accesses)
  each_alike ids others [] [] all of_run = tt
  each_alike ids others [] (a ∷ accesses) all of_run = absurd all
  each_alike ids others (kept ∷ kepts) [] all of_run = absurd all
  each_alike ids others (kept ∷ kepts) (a ∷ accesses) all of_run = (
    one_alike script run before judged_run records steps kept a all.0 (of_run a here) model ids others,
    each_alike ids others kepts accesses all.1 (λ b m. of_run b (there m)),
  )

  -- the names of the accesses that are kept
  other_names : (kepts : List KeptAccess) → EachKept IsKeptAccess kepts (accesses_in script run) → (id : Id) →
      Contains (names_of (map (with_points script records before model) kepts)) id → IsOther script run id
  other_names kepts all id m =
      let named = map_in (λ (one : JudgedAccess). one.id) (map (with_points script records before model) kepts)
      (contains_in (names_of (map (with_points script records before model) kepts)) id m) in
      let kept = map_in (with_points script records before model) kepts named.1 in
      let a = each_member IsKeptAccess kepts (accesses_in script run) all kept.1 in
      let same : a.0.id ≡ id = sym a.2.named ∙ ap (λ (one : JudgedAccess). one.id) kept.2 ∙ named.2 in
      subst (IsOther script run) same (access_is_other script run a.1)

  -- all accesses of the run
  pub all_alike : (kepts : List KeptAccess) → EachKept IsKeptAccess kepts (accesses_in script run) →
      AreAlike before (names_of (map (with_points script records before model) kepts))
      (map (with_points script records before model) kepts) (judged_accesses script run model before)
  all_alike kepts all =
      each_alike (names_of (map (with_points script records before model) kepts)) (other_names kepts all) kepts
      (accesses_in script run) all (λ a m. m)
