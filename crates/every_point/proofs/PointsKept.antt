-- The points of one access by what is kept are those of the definitions.
use Rattle.std.proofs.Common.{◌≡◌, ℕ, suc, ◌+◌, Bool, true, false, List, [], ◌∷◌, ◌++◌, Option, Some, None, length}
use Rattle.std.proofs.Common.{refl, ap, sym, subst, ◌∙◌, arith}
use Rattle.std.specs.Prelude.{◌==◌, ◌&&◌, ◌||◌, if◌then◌else◌, map, nat_lt, slice_index_or}
use Rattle.std.specs.List.{filter, find, flat_map}
use Rattle.std.specs.Option.{option_map_or}
use Rattle.std.proofs.lemmas.Grind.{flat_map-append}
use Rattle.std.proofs.lemmas.List.{append-nil}
use Rattle.list_laws.proofs.Truths.{and_joined, same_truth}
use Rattle.rma_types.specs.declared.accesses.Id.{Id}
use Rattle.rma_types.specs.declared.findings.Model.TheVariants.{Separate}
use Rattle.rma_types.specs.declared.scripts.Script.{Script}
use Rattle.rma_record.specs.declared.items.Item.{Item}
use Rattle.rma_record.specs.declared.runs.Run.{Run}
use Rattle.rma_types.specs.Actions.{action_of}
use Rattle.rank_rules.specs.Epochs.{AccessEpoch, Idle, FenceUnused, FenceUsed, StartTo, LocksAt, LockAll}
use Rattle.lawful_runs.specs.Logs.{log_of, named_in, named_logs}
use Rattle.order_rules.specs.Before.{IsOrder, events_in, is_same_id, leads_to}
use Rattle.order_rules.specs.CallSteps.{CallStep, IssuedAccess, accesses_in, accesses_named, is_later_at_origin}
use Rattle.order_rules.specs.CallSteps.{is_step_on, steps_in, steps_of_item}
use Rattle.order_rules.specs.DonePoints.{arrives_at_fence, completes_start, done_points, follows_next}
use Rattle.order_rules.specs.DonePoints.{ids_of, is_done_at, is_done_by_epoch, next_step, timeline_of}
use Rattle.order_rules.specs.Findings.{judged_access}
use Rattle.order_rules.specs.Ordered.{JudgedAccess}
use Rattle.order_rules.specs.Roles.{is_rma_read, role_of}
use Rattle.order_rules.specs.VisiblePoints.{is_given_out_at, is_taken_in_at, takes_in}
use Rattle.order_laws.specs.FindingLaws.{IsSmaller}
use Rattle.order_laws.proofs.Ascending.{ascend}
use Rattle.rank_records.specs.Kept.{AreRecordsFrom, EachKept, IsKeptAccess, IsKeptStep, IsRecorded, kind_of_epoch}
use Rattle.rank_records.specs.declared.kept.EpochKind.{EpochKind}
use Rattle.rank_records.specs.declared.kept.KeptAccess.{KeptAccess}
use Rattle.rank_records.specs.declared.kept.KeptStep.{KeptStep}
use Rattle.rank_records.specs.declared.kept.RankRecord.{RankRecord}
use Rattle.rank_records.specs.declared.kept.RunRecord.{RunRecord}
use Rattle.first_points.specs.Alike.{reaches}
use Rattle.first_points.specs.KeptPoints.{AllAscending, does, first_after, kept_accesses}
use Rattle.first_points.specs.declared.searches.Sought.{Sought}
use Rattle.first_points.specs.declared.searches.Sought.TheVariants.{FenceArrival, Complete, AtTarget, AtOrigin}
use Rattle.first_points.specs.declared.searches.Sought.TheVariants.{TakingIn, GivingOut}
use Rattle.first_points.proofs.KeptParts.{Both, IsFoundAs, Neither, accesses_kept, each_found, ends_same}
use Rattle.first_points.proofs.KeptParts.{records_ascend, sought_same, steps_kept}
use Rattle.first_points.proofs.SoughtSteps.{after_found, after_of}
use Rattle.every_point.specs.Edges.{is_among}
use Rattle.every_point.specs.Points.{access_named, all_steps, is_done, is_done_by}
use Rattle.every_point.specs.Points.{is_later, is_later_sought, is_named, is_taken_in, leads_from, names_passing}
use Rattle.every_point.specs.Points.{step_before}
use Rattle.every_point.proofs.Named.{named_once, pairs_unmapped}

-- the steps and the accesses of the run by rank, the steps in the order of their names
pub record AreKept (script : Script) (run : Run) (records : List RankRecord) : Type 0 where
  pub ranks : length records ≡ script.ranks
  pub logs : length run.logs ≡ script.ranks
  pub kept : AreRecordsFrom script run 0 records
  pub ascending : AllAscending records

pub records_kept : (recorded : RunRecord) → IsRecorded recorded →
    AreKept recorded.script.now recorded.run.now recorded.ranks.items
records_kept recorded is = record {
  ranks = is.ranks;
  logs = is.lawful.ranks;
  kept = is.each;
  ascending = records_ascend recorded.script.now recorded.run.now recorded.ranks.items is.ranks is.lawful.ranks is.each;
}

-- ---- lists of which each is kept of the other

module _ {A B : Type 0} (R : A → B → Type 0) where
  each_joined : (ks ls : List A) (xs ys : List B) → EachKept R ks xs → EachKept R ls ys →
      EachKept R (ks ++ ls) (xs ++ ys)
  each_joined [] ls [] ys first second = second
  each_joined [] ls (x ∷ xs) ys first second = absurd first
  each_joined (k ∷ ks) ls [] ys first second = absurd first
  each_joined (k ∷ ks) ls (x ∷ xs) ys first second = (first.0, each_joined ks ls xs ys first.1 second)

-- tests that agree pass the same names
pub each_passing : {A B : Type 0} (R : A → B → Type 0) (f : A → Id) (g : B → Id) (p : A → Bool) (q : B → Bool)
    (ks : List A) (xs : List B) → EachKept R ks xs →
    ((k : A) (x : B) → R k x → (p k ≡ q x) × (f k ≡ g x)) → map f (filter p ks) ≡ map g (filter q xs)
each_passing R f g p q [] [] all same = refl
each_passing R f g p q [] (x ∷ xs) all same = absurd all
each_passing R f g p q (k ∷ ks) [] all same = absurd all
each_passing {A} {B} R f g p q (k ∷ ks) (x ∷ xs) all same =
    next (p k) (q x) (same k x all.0).0 (each_passing R f g p q ks xs all.1 same)
  where
    next : (a b : Bool) → a ≡ b → map f (filter p ks) ≡ map g (filter q xs) →
        map f (if a then k ∷ filter p ks else filter p ks) ≡ map g (if b then x ∷ filter q xs else filter q xs)
    next true true e rest = λ i. (same k x all.0).1 i ∷ rest i
    next true false e rest = absurd (cc e)
    next false true e rest = absurd (cc e)
    next false false e rest = rest

-- ---- the steps of all logs

module _ (script : Script) (run : Run) where
  kept_from : (first : ℕ) (records : List RankRecord) (logs : List (List Item)) → length records ≡ length logs →
      ((k : ℕ) → slice_index_or logs k [] ≡ log_of run (first + k)) → AreRecordsFrom script run first records →
      EachKept (IsKeptStep script) (all_steps records) (flat_map (steps_of_item script run) (named_logs first logs))
  kept_from first [] [] long same all = tt
  kept_from first [] (log ∷ logs) long same all = absurd (omega (arith, long))
  kept_from first (kept ∷ records) [] long same all = absurd (omega (arith, long))
  kept_from first (kept ∷ records) (log ∷ logs) long same all =
      let here_at : first + 0 ≡ first = omega arith in
      let is : log ≡ log_of run first = same 0 ∙ ap (log_of run) here_at in
      let one : EachKept (IsKeptStep script) kept.steps (flat_map (steps_of_item script run) (named_in first log)) =
      subst (λ l. EachKept (IsKeptStep script) kept.steps (flat_map (steps_of_item script run) (named_in first l)))
      (sym is) all.0.steps in
      let rest = kept_from (first + 1) records logs (omega (arith, long)) (later first logs same) all.1 in
      subst (EachKept (IsKeptStep script) (all_steps (kept ∷ records)))
      (sym (flat_map-append (steps_of_item script run) (named_in first log) (named_logs (first + 1) logs)))
      (each_joined (IsKeptStep script) kept.steps (all_steps records)
      (flat_map (steps_of_item script run) (named_in first log))
      (flat_map (steps_of_item script run) (named_logs (first + 1) logs)) one rest)
    where
      later : (first : ℕ) (logs : List (List Item)) →
          ((k : ℕ) → slice_index_or (log ∷ logs) k [] ≡ log_of run (first + k)) →
          (k : ℕ) → slice_index_or logs k [] ≡ log_of run (first + 1 + k)
      later first logs same k =
          let place : first + suc k ≡ first + 1 + k = omega arith in
          same (suc k) ∙ ap (log_of run) place

  -- the steps of all calls are kept, in the order of their names
  pub all_kept : (records : List RankRecord) → AreKept script run records →
      EachKept (IsKeptStep script) (all_steps records) (steps_in script run)
  all_kept records recorded =
      kept_from 0 records run.logs (recorded.ranks ∙ sym recorded.logs) (λ k. ap (log_of run) (omega arith))
      recorded.kept

-- ---- tests

module _ (script : Script) (run : Run) (records : List RankRecord) (recorded : AreKept script run records)
    (kept : KeptAccess) (a : IssuedAccess) (access : IsKeptAccess kept a) where
  later_same : (k : KeptStep) (x : CallStep) → IsKeptStep script k x → is_later kept k ≡ is_later_at_origin a x
  later_same k x step = λ i. (step.named i).rank == (access.named i).rank
      && nat_lt (access.named i).index (step.named i).index

  sought_later : (sought : Sought) (k : KeptStep) (x : CallStep) → IsKeptStep script k x →
      is_later_sought script sought kept k ≡ after_of sought a x
  sought_later sought k x step =
      let later = later_same k x step in
      let what = sought_same script sought k x kept a step access in
      (λ i. later i && what i)
      ∙ and_joined (is_later_at_origin a x) (is_step_on a.issued.access.window x) (does sought a.issued x.step x.call)

  -- an edge leads to the step from the next step of its origin
  led_next : (o : Option KeptStep) (test : CallStep → Bool) →
      IsFoundAs (IsKeptStep script) o (next_step (timeline_of script run) test a) →
      (k : KeptStep) (x : CallStep) → IsKeptStep script k x →
      leads_from script run o k.id ≡ follows_next (timeline_of script run) test a x
  led_next o test (Neither none nowhere) k x step =
      ap (λ p. leads_from script run p k.id) none
      ∙ sym (ap (λ p. option_map_or (λ (y : CallStep). leads_to (events_in script run) y.id x.id) p false) nowhere)
  led_next o test (Both l y one is same) k x step =
      ap (λ p. leads_from script run p k.id) one
      ∙ (λ i. leads_to (events_in script run) (same.named i) (step.named i))
      ∙ sym (ap (λ p. option_map_or (λ (y : CallStep). leads_to (events_in script run) y.id x.id) p false) is)

  -- the names are those of the entries to which an edge leads from the step before, in an epoch of this kind
  abbrev AreLedTo : List Id → EpochKind → Type 0
  AreLedTo led epoch = (id : Id) → is_among led id ≡ leads_from script run (step_before script records epoch kept) id

  module _ (led : List Id) (leads : AreLedTo led kept.epoch) where
    by_epoch : (epoch : AccessEpoch) → AreLedTo led (kind_of_epoch epoch) → (k : KeptStep) (x : CallStep) →
        IsKeptStep script k x →
        is_done_by script led kept (kind_of_epoch epoch) k ≡ is_done_by_epoch (timeline_of script run) a epoch x
    by_epoch Idle from k x step = refl
    by_epoch FenceUnused from k x step = from k.id
        ∙ led_next (first_after script records FenceArrival kept) arrives_at_fence
        (after_found script run records (steps_kept script run records recorded.ranks recorded.logs recorded.kept)
        kept a access FenceArrival) k x step
    by_epoch FenceUsed from k x step = from k.id
        ∙ led_next (first_after script records FenceArrival kept) arrives_at_fence
        (after_found script run records (steps_kept script run records recorded.ranks recorded.logs recorded.kept)
        kept a access FenceArrival) k x step
    by_epoch (StartTo group) from k x step =
        let follows = from k.id ∙ led_next (first_after script records Complete kept) completes_start
        (after_found script run records
        (steps_kept script run records recorded.ranks recorded.logs recorded.kept)
        kept a access Complete) k x step in
        λ i. follows i && (step.named i).rank == (access.access i).target
    by_epoch (LocksAt targets) from k x step = sought_later AtTarget k x step
    by_epoch LockAll from k x step = sought_later AtTarget k x step

    done_same : (k : KeptStep) (x : CallStep) → IsKeptStep script k x →
        is_done script led kept k ≡ is_done_at (timeline_of script run) a x
    done_same k x step =
        let epoch = ap (λ e. is_done_by script led kept e k) access.epoch
        ∙ by_epoch a.epoch
        (λ id. leads id ∙ ap (λ e. leads_from script run (step_before script records e kept) id) access.epoch)
        k x step in
        let origin = sought_later AtOrigin k x step in
        let later = later_same k x step in
        let ends = ends_same script k x kept a step access in
        λ i. epoch i || (is_rma_read (role_of (access.access i).kind) && (origin i || (later i && ends i)))

    -- the steps that pass are the done points
    pub done_are : names_passing (is_done script led kept) (all_steps records)
        ≡ done_points (timeline_of script run) a
    done_are = each_passing (IsKeptStep script) (λ (k : KeptStep). k.id) (λ (x : CallStep). x.id)
        (is_done script led kept) (is_done_at (timeline_of script run) a) (all_steps records) (steps_in script run)
        (all_kept script run records recorded) (λ k x step. (done_same k x step, step.named))

  -- the steps from which on a store is seen
  pub given_out_are : names_passing (is_later_sought script GivingOut kept) (all_steps records)
      ≡ ids_of (filter (is_given_out_at a) (steps_in script run))
  given_out_are = each_passing (IsKeptStep script) (λ (k : KeptStep). k.id) (λ (x : CallStep). x.id)
      (is_later_sought script GivingOut kept) (is_given_out_at a) (all_steps records) (steps_in script run)
      (all_kept script run records recorded) (λ k x step. (sought_later GivingOut k x step, step.named))

  module _ (before other : Id → Id → Bool) (order : IsOrder script run before) (order_too : IsOrder script run other)
    where
      same_order : (c d : Id) → before c d ≡ other c d
      same_order c d = same_truth (before c d) (other c d)
          (λ h. (order_too c d).1 ((order c d).0 h)) (λ h. (order c d).1 ((order_too c d).0 h))

      same_reach : (points : List Id) (c d : Id) → c ≡ d → reaches before points c ≡ reaches other points d
      same_reach [] c d same = refl
      same_reach (point ∷ points) c d same =
          let rest = same_reach points c d same in
          let one = same_order point c ∙ ap (other point) same in
          λ i. one i || rest i

      taken_same : (done : List Id) → done ≡ done_points (timeline_of script run) a →
          (k : KeptStep) (x : CallStep) → IsKeptStep script k x →
          is_taken_in script before done kept k ≡ is_taken_in_at other a (done_points (timeline_of script run) a) x
      taken_same done are k x step =
          let what = sought_same script TakingIn k x kept a step access in
          let reach = same_reach done k.id x.id step.named ∙ ap (λ points. reaches other points x.id) are in
          (λ i. ((step.named i).rank == (access.access i).target && what i) && reach i)
          ∙ ap (λ b. b && reaches other (done_points (timeline_of script run) a) x.id)
          (and_joined (x.id.rank == a.issued.access.target) (is_step_on a.issued.access.window x)
          (takes_in x.step (action_of x.call)))

      -- the steps at which an RMA update is visible to the owner
      pub taken_are : (done : List Id) → done ≡ done_points (timeline_of script run) a →
          names_passing (is_taken_in script before done kept) (all_steps records)
          ≡ ids_of (filter (is_taken_in_at other a (done_points (timeline_of script run) a)) (steps_in script run))
      taken_are done are = each_passing (IsKeptStep script) (λ (k : KeptStep). k.id) (λ (x : CallStep). x.id)
          (is_taken_in script before done kept)
          (is_taken_in_at other a (done_points (timeline_of script run) a)) (all_steps records) (steps_in script run)
          (all_kept script run records recorded) (λ k x step. (taken_same done are k x step, step.named))

-- ---- the access of a name

module _ (script : Script) (run : Run) (records : List RankRecord) (recorded : AreKept script run records) (id : Id)
  where
    abbrev has_name : IssuedAccess → Bool
    has_name a = is_same_id a.id id

    found_named : IsFoundAs IsKeptAccess (access_named id records) (find has_name (accesses_in script run))
    found_named = each_found IsKeptAccess (is_named id) has_name (kept_accesses records) (accesses_in script run)
        (accesses_kept script run records recorded.ranks recorded.kept)
        (λ k a m is. ap (λ (i : Id). is_same_id i id) is.named)

    once : accesses_named script run id
        ≡ option_map_or (λ (a : IssuedAccess). a ∷ []) (find has_name (accesses_in script run)) []
    once = named_once (λ (a : IssuedAccess). a.id) id (accesses_in script run)
        (pairs_unmapped (λ (a b : JudgedAccess). IsSmaller a.id b.id)
        (judged_access Separate (λ c d. false) (timeline_of script run)) (accesses_in script run)
        (ascend script run Separate (λ c d. false)))

    module _ (f : IssuedAccess → List Id) where
      -- what is said of the access of the name is said of all
      pub points_named : (kept : KeptAccess) → access_named id records ≡ Some kept → (points : List Id) →
          ((a : IssuedAccess) → IsKeptAccess kept a → points ≡ f a) → points ≡ flat_map f (accesses_named script run id)
      points_named kept is points all = by found_named
        where
          by : IsFoundAs IsKeptAccess (access_named id records) (find has_name (accesses_in script run)) →
              points ≡ flat_map f (accesses_named script run id)
          by (Neither none nowhere) = absurd (cc (sym none ∙ is))
          by (Both k a one at same) =
              let some : Some k ≡ Some kept = sym one ∙ is in
              let one_kept : k ≡ kept = cc some in
              all a (subst (λ l. IsKeptAccess l a) one_kept same) ∙ sym (append-nil (f a))
              ∙ sym (ap (λ o. flat_map f (option_map_or (λ (b : IssuedAccess). b ∷ []) o [])) at)
              ∙ sym (ap (flat_map f) once)

      pub none_named : access_named id records ≡ None → ◌≡◌ {A = List Id} [] (flat_map f (accesses_named script run id))
      none_named is = by found_named
        where
          by : IsFoundAs IsKeptAccess (access_named id records) (find has_name (accesses_in script run)) →
              ◌≡◌ {A = List Id} [] (flat_map f (accesses_named script run id))
          by (Both k a one at same) = absurd (cc (sym is ∙ one))
          by (Neither none nowhere) =
              sym (ap (λ o. flat_map f (option_map_or (λ (b : IssuedAccess). b ∷ []) o [])) nowhere)
              ∙ sym (ap (flat_map f) once)
