-- The done points of an access that are kept stand for all of its done points.
use Rattle.std.proofs.Common.{◌≡◌, ℕ, Bool, true, false, List, [], ◌∷◌, ◌++◌, Option, Some, None, refl, ap, sym}
use Rattle.std.proofs.Common.{subst, ◌∙◌, append_assoc}
use Rattle.std.specs.Prelude.{IsTrue, ◌≢◌, ◌==◌, ◌&&◌, ◌||◌}
use Rattle.std.specs.Option.{option_map_or}
use Rattle.std.proofs.lemmas.Bool.{and_parts, and_from, eqb-true, eq-eqb, false≢true}
use Rattle.list_laws.proofs.Members.{In, contains_in, in_contains}
use Rattle.rma_types.specs.declared.accesses.Id.{Id}
use Rattle.rma_types.specs.declared.scripts.Script.{Script}
use Rattle.rma_record.specs.declared.runs.Run.{Run}
use Rattle.rank_rules.specs.Epochs.{AccessEpoch, Idle, FenceUnused, FenceUsed, StartTo, LocksAt, LockAll}
use Rattle.rank_rules.specs.Epochs.{is_start_epoch}
use Rattle.order_rules.specs.Before.{Across, IsOrder, Same, events_in, leads_to}
use Rattle.order_rules.specs.CallSteps.{CallStep, IssuedAccess, accesses_in, is_later_on_window, is_step_on, steps_in}
use Rattle.order_rules.specs.DonePoints.{arrives_at_fence, completes_start, done_points, ends_its_request, follows_next}
use Rattle.order_rules.specs.DonePoints.{is_completed_at_origin, is_done_at, is_done_by_epoch, next_step, timeline_of}
use Rattle.order_rules.specs.Roles.{Role, RmaUpdate, RmaRead, Store, Load, is_rma_read, role_of}
use Rattle.first_point_laws.specs.PointLaws.{ArrivalsStandForLeaves, CompletesLeadToWaits, EndsStartOf}
use Rattle.first_point_laws.specs.PointLaws.{FirstWaitsAreLedTo}
use Rattle.first_point_laws.specs.PointLaws.{NamesNoTouch, WaitsAtTarget, is_rma, is_wait_step}
use Rattle.rank_records.specs.Kept.{EachKept, IsKeptAccess, IsKeptStep, kind_of_epoch, steps_of_rank}
use Rattle.rank_records.specs.declared.kept.KeptAccess.{KeptAccess}
use Rattle.rank_records.specs.declared.kept.KeptStep.{KeptStep}
use Rattle.rank_records.specs.declared.kept.RankRecord.{RankRecord}
use Rattle.call_rules.specs.WellFormed.{IsWellFormed}
use Rattle.lawful_runs.specs.LawfulRun.{IsLawful}
use Rattle.rma_types.specs.declared.schedules.Delay.TheVariants.{Seeded}
use Rattle.first_points.specs.Alike.{reaches}
use Rattle.first_points.specs.KeptPoints.{done, done_by, first_after, first_end, first_reached, kept_steps, point}
use Rattle.first_points.specs.declared.searches.Sought.TheVariants.{FenceArrival, Complete, Wait, AtTarget, AtOrigin}
use Rattle.first_points.proofs.Finds.{found_in}
use Rattle.first_points.proofs.KeptParts.{IsFoundAs, Neither, Both, sought_of}
use Rattle.first_points.proofs.SoughtSteps.{after_found, after_of, after_rank, end_found, end_rank, reached_found}
use Rattle.first_points.proofs.SoughtSteps.{reached_of, reached_rank}
use Rattle.first_points.proofs.Stands.{Stands, all_points, before_all, before_within}
use Rattle.first_points.proofs.Stands.{first_stands, no_points, one_reaches, reach_alike, reaches_one, same_stands}

-- what a lawful run keeps
pub record IsJudgedRun (script : Script) (run : Run) (before : Id → Id → Bool) : Type 0 where
  pub formed : IsWellFormed script
  pub lawful : IsLawful script Seeded run
  pub order : IsOrder script run before
  pub arrivals : ArrivalsStandForLeaves
  pub completes : CompletesLeadToWaits
  pub waits : FirstWaitsAreLedTo

-- the name of an item that is no touch and no arrival at a fence
pub record IsOther (script : Script) (run : Run) (id : Id) : Type 0 where
  pub named : NamesNoTouch run id
  pub other : (y : CallStep) → In y (steps_in script run) → arrives_at_fence y ≡ true → id ≢ y.id

or_false : (a : Bool) → a ≡ (a || false)
or_false true = refl
or_false false = refl

module _ (script : Script) (run : Run) (before : Id → Id → Bool) (judged : IsJudgedRun script run before)
    (records : List RankRecord)
    (steps : (rank : ℕ) → EachKept (IsKeptStep script) (kept_steps records rank) (steps_of_rank script run rank))
    (kept : KeptAccess) (a : IssuedAccess) (access : IsKeptAccess kept a) (member : In a (accesses_in script run)) where
  -- a step to which an edge leads comes after the step from which it leads
  led : (y x : CallStep) → leads_to (events_in script run) y.id x.id ≡ true → before y.id x.id ≡ true
  led y x edge = (judged.order y.id x.id).1 (Across Same edge)

  -- where there is no next step, none follows it
  no_next : (test : CallStep → Bool) → next_step (timeline_of script run) test a ≡ None → (x : CallStep) →
      follows_next (timeline_of script run) test a x ≡ false
  no_next test none x =
      ap (λ o. option_map_or (λ (y : CallStep). leads_to (events_in script run) y.id x.id) o false) none

  one_next : (test : CallStep → Bool) (y : CallStep) → next_step (timeline_of script run) test a ≡ Some y →
      (x : CallStep) →
      follows_next (timeline_of script run) test a x ≡ leads_to (events_in script run) y.id x.id
  one_next test y is x =
      ap (λ o. option_map_or (λ (y : CallStep). leads_to (events_in script run) y.id x.id) o false) is

  -- the arrival at the next fence stands for the leavings to which it leads
  fence_stands : (id : Id) → IsOther script run id →
      IsFoundAs (IsKeptStep script) (first_after script records FenceArrival kept)
      (next_step (timeline_of script run) arrives_at_fence a) →
      Stands script run before judged.order (point (first_after script records FenceArrival kept))
      (follows_next (timeline_of script run) arrives_at_fence a) id
  fence_stands id other (Neither none nowhere) =
      subst (λ o. Stands script run before judged.order (point o)
      (follows_next (timeline_of script run) arrives_at_fence a) id) (sym none)
      (no_points script run before judged.order (follows_next (timeline_of script run) arrives_at_fence a) id
      (no_next arrives_at_fence nowhere))
  fence_stands id other (Both k y one is same) =
      subst (λ o. Stands script run before judged.order (point o)
      (follows_next (timeline_of script run) arrives_at_fence a) id) (sym one)
      (record {
        gives = λ e.
            let comes : before y.id id ≡ true = subst (λ i. before i id ≡ true) same.named
            (one_reaches script run before judged.order k.id id e) in
            let from = judged.arrivals script run judged.formed judged.lawful y (in_contains at.0) arrives id
            other.named
            (other.other y at.0 arrives) ((judged.order y.id id).0 comes) in
            record {
              from = from.0;
              step = contains_in (steps_in script run) from.0 from.1;
              passes = one_next arrives_at_fence y is from.0 ∙ from.2;
              comes = (judged.order from.0.id id).1 from.3;
            };
        takes = λ x m e comes.
            let leads : before y.id x.id ≡ true = led y x (sym (one_next arrives_at_fence y is x) ∙ e) in
            reaches_one script run before judged.order k.id id
            (subst (λ i. before i id ≡ true) (sym same.named) (before_all script run before judged.order leads comes));
      })
    where
      at : In y (steps_in script run) × (after_of FenceArrival a y ≡ true)
      at = found_in (after_of FenceArrival a) (steps_in script run) is

      arrives : arrives_at_fence y ≡ true
      arrives = (and_parts (is_later_on_window a y) (arrives_at_fence y) at.1).1

  -- the waits of a start epoch: those of the target to which the next complete leads
  abbrev led_at_target : CallStep → Bool
  led_at_target x = follows_next (timeline_of script run) completes_start a x && x.id.rank == a.issued.access.target

  -- the first wait which the complete is before stands for those to which it leads
  wait_stands : (k : KeptStep) (y : CallStep) → IsKeptStep script k y → EndsStartOf script run a y → (id : Id) →
      Stands script run before judged.order
      (point (first_reached script records before (k.id ∷ []) Wait kept)) led_at_target id
  wait_stands k y same ends id = record {
    gives = λ e.
        let late = stands.gives e in
        let is = waits late.from late.step late.passes in
        let reached = one_reaches script run before judged.order y.id late.from.id is.0 in
        let first = judged.waits script run judged.formed judged.lawful a y late.from ends is.1
        ((judged.order y.id late.from.id).0 reached) in
        let rank : first.0.id.rank ≡ late.from.id.rank = first.1.rank ∙ sym is.1.rank in
        record {
          from = first.0;
          step = contains_in (steps_in script run) first.0 first.1.step;
          passes = and_from (follows_next (timeline_of script run) completes_start a first.0)
              (first.0.id.rank == a.issued.access.target)
              (one_next completes_start y ends.next first.0 ∙ first.2)
              (eq-eqb first.0.id.rank a.issued.access.target first.1.rank);
          comes = before_all script run before judged.order
              (before_within script run before judged.order rank first.3) late.comes;
        };
    takes = λ x m e comes.
        let both = and_parts (follows_next (timeline_of script run) completes_start a x)
        (x.id.rank == a.issued.access.target) e in
        let edge : leads_to (events_in script run) y.id x.id ≡ true =
        sym (one_next completes_start y ends.next x) ∙ both.0 in
        let rank = eqb-true x.id.rank a.issued.access.target both.1 in
        let wait = judged.completes script run judged.formed judged.lawful a y x ends (in_contains m) rank edge in
        stands.takes x m (passes x wait (led y x edge)) comes;
  }
    where
      points : k.id ∷ [] ≡ y.id ∷ []
      points = ap (λ i. i ∷ []) same.named

      stands : Stands script run before judged.order
          (point (first_reached script records before (k.id ∷ []) Wait kept))
          (reached_of before (y.id ∷ []) Wait a) id
      stands = first_stands script run before judged.order
          (first_reached script records before (k.id ∷ []) Wait kept) (reached_of before (y.id ∷ []) Wait a)
          a.issued.access.target (reached_rank before (y.id ∷ []) Wait a)
          (reached_found script run records steps kept a access before (k.id ∷ []) (y.id ∷ []) Wait points) id

      waits : (x : CallStep) → In x (steps_in script run) → reached_of before (y.id ∷ []) Wait a x ≡ true →
          (reaches before (y.id ∷ []) x.id ≡ true) × WaitsAtTarget script run a x
      waits x m e =
          let one = and_parts (x.id.rank == a.issued.access.target)
          (reaches before (y.id ∷ []) x.id && sought_of Wait a x) e in
          let two = and_parts (reaches before (y.id ∷ []) x.id) (sought_of Wait a x) one.1 in
          let three = and_parts (is_step_on a.issued.access.window x)
          (is_wait_step x) two.1 in (
            two.0,
            record {
              step = in_contains m;
              rank = eqb-true x.id.rank a.issued.access.target one.0;
              window = three.0;
              waits = three.1;
            },
          )

      passes : (x : CallStep) → WaitsAtTarget script run a x → before y.id x.id ≡ true →
          reached_of before (y.id ∷ []) Wait a x ≡ true
      passes x wait comes = and_from (x.id.rank == a.issued.access.target)
          (reaches before (y.id ∷ []) x.id && sought_of Wait a x)
          (eq-eqb x.id.rank a.issued.access.target wait.rank)
          (and_from (reaches before (y.id ∷ []) x.id) (sought_of Wait a x)
          (reaches_one script run before judged.order y.id x.id comes)
          (and_from (is_step_on a.issued.access.window x) (is_wait_step x)
          wait.window wait.waits))

  abbrev waits_of : Option KeptStep → Option KeptStep
  waits_of found = option_map_or
      (λ (complete : KeptStep). first_reached script records before (complete.id ∷ []) Wait kept) found None

  start_stands : IsTrue (is_rma (role_of a.issued.access.kind)) → IsTrue (is_start_epoch a.epoch) → (id : Id) →
      IsFoundAs (IsKeptStep script) (first_after script records Complete kept)
      (next_step (timeline_of script run) completes_start a) →
      Stands script run before judged.order (point (waits_of (first_after script records Complete kept)))
      led_at_target id
  start_stands rma start id (Neither none nowhere) =
      subst (λ o. Stands script run before judged.order (point (waits_of o)) led_at_target id) (sym none)
      (no_points script run before judged.order led_at_target id
      (λ x. ap (λ b. b && x.id.rank == a.issued.access.target) (no_next completes_start nowhere x)))
  start_stands rma start id (Both k y one is same) =
      subst (λ o. Stands script run before judged.order (point (waits_of o)) led_at_target id) (sym one)
      (wait_stands k y same (record { access = in_contains member; rma = rma; epoch = start; next = is }) id)

  -- the point of an epoch stands for those that the epoch gives
  epoch_stands : IsTrue (is_rma (role_of a.issued.access.kind)) → (id : Id) → IsOther script run id →
      (epoch : AccessEpoch) → a.epoch ≡ epoch →
      Stands script run before judged.order (point (done_by script records before (kind_of_epoch epoch) kept))
      (is_done_by_epoch (timeline_of script run) a epoch) id
  epoch_stands rma id other Idle is = no_points script run before judged.order (λ x. false) id (λ x. refl)
  epoch_stands rma id other FenceUnused is =
      fence_stands id other (after_found script run records steps kept a access FenceArrival)
  epoch_stands rma id other FenceUsed is =
      fence_stands id other (after_found script run records steps kept a access FenceArrival)
  epoch_stands rma id other (StartTo group) is =
      start_stands rma (ap is_start_epoch is) id (after_found script run records steps kept a access Complete)
  epoch_stands rma id other (LocksAt targets) is =
      first_stands script run before judged.order (first_after script records AtTarget kept) (after_of AtTarget a)
      a.id.rank (after_rank AtTarget a) (after_found script run records steps kept a access AtTarget) id
  epoch_stands rma id other LockAll is =
      first_stands script run before judged.order (first_after script records AtTarget kept) (after_of AtTarget a)
      a.id.rank (after_rank AtTarget a) (after_found script run records steps kept a access AtTarget) id

  -- the access is done at the step, by its role
  abbrev done_at : Role → CallStep → Bool
  done_at role x = is_done_by_epoch (timeline_of script run) a a.epoch x
      || (is_rma_read role && (is_completed_at_origin a x || ends_its_request a x))

  role_stands : IsTrue (is_rma (role_of a.issued.access.kind)) → (id : Id) → IsOther script run id →
      (role : Role) → IsTrue (is_rma role) →
      Stands script run before judged.order (done script records before role kept) (done_at role) id
  role_stands rma id other role is_one = by_role role is_one
    where
      epoch : Stands script run before judged.order (point (done_by script records before kept.epoch kept))
          (is_done_by_epoch (timeline_of script run) a a.epoch) id
      epoch = subst (λ kind. Stands script run before judged.order (point (done_by script records before kind kept))
          (is_done_by_epoch (timeline_of script run) a a.epoch) id) (sym access.epoch)
          (epoch_stands rma id other a.epoch refl)

      at_origin : Stands script run before judged.order (point (first_after script records AtOrigin kept))
          (is_completed_at_origin a) id
      at_origin = first_stands script run before judged.order (first_after script records AtOrigin kept)
          (after_of AtOrigin a) a.id.rank (after_rank AtOrigin a)
          (after_found script run records steps kept a access AtOrigin) id

      at_end : Stands script run before judged.order (point (first_end records kept)) (ends_its_request a) id
      at_end = first_stands script run before judged.order (first_end records kept) (ends_its_request a) a.id.rank
          (end_rank a) (end_found script run records steps kept a access) id

      by_role : (role : Role) → IsTrue (is_rma role) →
          Stands script run before judged.order (done script records before role kept) (done_at role) id
      by_role RmaUpdate is = same_stands script run before judged.order
          (point (done_by script records before kept.epoch kept))
          (is_done_by_epoch (timeline_of script run) a a.epoch) (done_at RmaUpdate) id
          (λ x m. or_false (is_done_by_epoch (timeline_of script run) a a.epoch x)) epoch
      by_role RmaRead is =
          subst (λ points. Stands script run before judged.order points (done_at RmaRead) id)
          (sym (append_assoc (point (done_by script records before kept.epoch kept))
          (point (first_after script records AtOrigin kept)) (point (first_end records kept))))
          (all_points script run before judged.order (point (done_by script records before kept.epoch kept))
          (point (first_after script records AtOrigin kept) ++ point (first_end records kept))
          (is_done_by_epoch (timeline_of script run) a a.epoch)
          (λ x. is_completed_at_origin a x || ends_its_request a x) id epoch
          (all_points script run before judged.order (point (first_after script records AtOrigin kept))
          (point (first_end records kept)) (is_completed_at_origin a) (ends_its_request a) id at_origin at_end))
      by_role Store is = absurd (false≢true is)
      by_role Load is = absurd (false≢true is)

  -- the done points that are kept are before the same items, other than touches and arrivals at fences
  pub done_alike : IsTrue (is_rma (role_of a.issued.access.kind)) → (id : Id) → IsOther script run id →
      reaches before (done script records before (role_of a.issued.access.kind) kept) id
      ≡ reaches before (done_points (timeline_of script run) a) id
  done_alike rma id other =
      reach_alike script run before judged.order (done script records before (role_of a.issued.access.kind) kept)
      (is_done_at (timeline_of script run) a) id (role_stands rma id other (role_of a.issued.access.kind) rma)
