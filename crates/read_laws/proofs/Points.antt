-- The touches of an access are before its done points.
use Rattle.std.proofs.Common.{◌≡◌, ℕ, ◌%◌, ◌<◌, inl, inr, Bool, true, false, take, Some, refl, ap, sym, ◌∙◌, subst}
use Rattle.std.proofs.Common.{arith}
use Rattle.std.specs.Prelude.{◌&&◌, ◌||◌, ◌==◌, slice_get, nat_lt}
use Rattle.std.specs.Option.{option_map_or}
use Rattle.std.proofs.lemmas.Bool.{and_parts, and_from, or_cases, eqb-true, eq-eqb, ltb-true}
use Rattle.list_laws.proofs.Each.{each_at}
use Rattle.list_laws.proofs.Members.{In}
use Rattle.list_laws.proofs.Options.{some_of}
use Rattle.rma_types.specs.declared.accesses.Step.{Step}
use Rattle.rma_types.specs.declared.accesses.Step.TheVariants.{Arrive, Leave, One}
use Rattle.rma_types.specs.declared.schedules.Delay.{Delay}
use Rattle.rma_types.specs.declared.schedules.Delay.TheVariants.{Seeded}
use Rattle.rma_types.specs.declared.scripts.Script.{Script}
use Rattle.rma_types.proofs.ActionLaws.{is_synchronising}
use Rattle.rma_record.specs.declared.runs.Run.{Run}
use Rattle.board_rules.specs.Entries.{Fence, is_arrive, is_collective, collective_in, fence_or_none, is_same_collective}
use Rattle.board_rules.specs.Posts.{is_complete}
use Rattle.rma_types.specs.declared.actions.Action.{Action}
use Rattle.rma_types.specs.declared.actions.Action.TheVariants.{Creates, Frees, Attaches, Detaches, Synchronises, Meets}
use Rattle.rma_types.specs.declared.actions.Action.TheVariants.{Moves, EndsRequest}
use Rattle.rma_types.specs.declared.actions.Synchronisation.{Synchronisation}
use Rattle.rma_types.specs.declared.actions.Synchronisation.TheVariants.{Fences, Posts, Starts, Completes, Waits, Locks}
use Rattle.rma_types.specs.declared.actions.Synchronisation.TheVariants.{Unlocks, Flushes, Syncs}
use Rattle.rma_types.specs.Actions.{action_of, synchronisation_in, synchronisation_of, window_in_action, window_of_call}
use Rattle.call_rules.specs.WellFormed.{IsWellFormed}
use Rattle.lawful_runs.specs.Accesses.{Touching}
use Rattle.lawful_runs.specs.LawfulRun.{IsLawful, rank_in}
use Rattle.lawful_runs.specs.Logs.{log_of, calls_of}
use Rattle.lawful_runs.specs.Stages.{known_at}
use Rattle.rank_rules.specs.Epochs.{AccessEpoch, Idle, FenceUnused, FenceUsed, StartTo, LocksAt, LockAll}
use Rattle.rank_rules.specs.Pending.{is_on, is_towards, completes_access, is_requested_by, waits_for, must_wait}
use Rattle.rank_rules.specs.Windows.{Window, window_of_name}
use Rattle.order_rules.specs.Before.{Before, Same, InLog, Across, events_in, leads_to}
use Rattle.order_rules.specs.CallSteps.{CallStep, IssuedAccess, steps_in, is_numbered, is_step_on, is_later_at_origin}
use Rattle.order_rules.specs.CallSteps.{is_later_on_window}
use Rattle.order_rules.specs.DonePoints.{timeline_of, arrives_at_fence, completes_start, next_step, follows_next}
use Rattle.order_rules.specs.DonePoints.{completes_at_target, is_completed_at_target, is_done_by_epoch}
use Rattle.order_rules.specs.DonePoints.{completes_at_origin, is_completed_at_origin, request_ended, ends_its_request}
use Rattle.order_rules.specs.DonePoints.{is_done_at}
use Rattle.order_rules.specs.Roles.{is_rma_read, role_of}
use Rattle.read_laws.proofs.Firsts.{begins_with_step}
use Rattle.read_laws.proofs.Folds.{find_in}
use Rattle.read_laws.proofs.Leaves.{LeavesCollective, leaves_are, step_begins, step_initial}
use Rattle.read_laws.proofs.Names.{name_of_window}
use Rattle.read_laws.proofs.Waits.{touched_before}
use Rattle.read_laws.proofs.Steps.{IsAccess, IsTouchBy, touch_logged, IsStep, step_is, ends_request}
use Rattle.read_laws.proofs.Steps.{is_fence, apart_from_all, request_apart}

-- ---- the touches of an access before a step

module _ (script : Script) (delay : Delay) (run : Run) (formed : IsWellFormed script)
    (lawful : IsLawful script delay run) where
  before_step : (a : IssuedAccess) (u : Touching) (y : CallStep) → IsAccess script run a → IsTouchBy script run a u →
      IsStep script run y →
      is_later_at_origin a y ≡ true → begins_with_step y.step ≡ true →
      must_wait y.known.requests y.call a.issued ≡ true → Before script run u.id y.id
  before_step a u y access by step later begins waits =
      let parts = and_parts (y.id.rank == a.id.rank) (nat_lt a.id.index y.id.index) later in
      let rank : y.id.rank ≡ a.id.rank = eqb-true y.id.rank a.id.rank parts.0 in
      let above : a.id.index < y.id.index = ltb-true a.id.index y.id.index parts.1 in
      let first = step_initial step.item step.number y.step step.step_is begins in
      let known = ap (λ k. must_wait k.requests y.call a.issued) step.known_is in
      let below = touched_before (rank_in script delay run a.id.rank) (log_of run a.id.rank) a.issued y.id.index
      (lawful.logs a.id.rank access.within)
      (record { item = access.item; logged = access.logged; issued = access.issued })
      (omega (arith, above, access.index))
      (record {
        item = step.item;
        number = step.number;
        call = y.call;
        logged = subst (λ r. slice_get (log_of run r) y.id.index ≡ Some step.item) rank step.logged;
        initial = first.0;
        of_call = first.1;
        call_is = subst (λ r. slice_get (calls_of script r) step.number ≡ Some y.call) rank step.call_is;
        waits = subst (λ r. must_wait
            (known_at (rank_in script Seeded run r) (take y.id.index (log_of run r))).requests y.call a.issued ≡ true)
            rank (sym known ∙ waits);
      })
      u.id.index u.element u.cell u.place u.bits (touch_logged script run a u by) in
      InLog Same (by.rank ∙ sym rank, below)

  -- the step is on the window of the access by its name
  on_window : (a : IssuedAccess) (y : CallStep) (win : ℕ) → IsStep script run y →
      is_step_on a.issued.access.window y ≡ true →
      window_of_call y.call ≡ Some win → is_on win a.issued ≡ true
  on_window a y win step on named =
      let numbered : is_numbered y.known a.issued.access.window win ≡ true =
      sym (ap (λ o. option_map_or (is_numbered y.known a.issued.access.window) o false) named) ∙ on in
      let window = some_of (λ (w : Window). w.number == a.issued.access.window)
      (window_of_name y.known.windows win) numbered in
      let name = name_of_window (rank_in script Seeded run y.id.rank)
      (take y.id.index (log_of run y.id.rank)) win window.0 formed
      (sym (ap (λ k. window_of_name k.windows win) step.known_is) ∙ window.1) in
      let number : window.0.number ≡ a.issued.access.window =
      eqb-true window.0.number a.issued.access.window window.2 in
      eq-eqb (a.issued.access.window % 32) win (sym (ap (λ n. n % 32) number) ∙ name)

  waits_by : (a : IssuedAccess) (y : CallStep) (s : Synchronisation) → IsStep script run y →
      is_step_on a.issued.access.window y ≡ true →
      synchronisation_of y.call ≡ Some s → completes_access s a.issued ≡ true →
      must_wait y.known.requests y.call a.issued ≡ true
  waits_by a y s step on e completes =
      let is = is_synchronising (action_of y.call) s e in
      let named : window_of_call y.call ≡ Some is.0 = ap window_in_action is.1 in
      ap (λ x. waits_for y.known.requests x a.issued) is.1
      ∙ and_from (is_on is.0 a.issued) (completes_access s a.issued) (on_window a y is.0 step on named) completes

  -- a synchronisation that completes the access, and is no fence, comes after its touches
  before_completing : (a : IssuedAccess) (u : Touching) (y : CallStep) (s : Synchronisation) → IsAccess script run a →
      IsTouchBy script run a u →
      IsStep script run y → is_later_on_window a y ≡ true → synchronisation_of y.call ≡ Some s → is_fence s ≡ false →
      completes_access s a.issued ≡ true → Before script run u.id y.id
  before_completing a u y s access by step later e other completes =
      let parts = and_parts (is_later_at_origin a y) (is_step_on a.issued.access.window y) later in
      let same = and_parts (y.id.rank == a.id.rank) (nat_lt a.id.index y.id.index) parts.0 in
      let rank : y.id.rank ≡ a.id.rank = eqb-true y.id.rank a.id.rank same.0 in
      let leaves = each_at (LeavesCollective (calls_of script a.id.rank)) (log_of run a.id.rank) y.id.index step.item
      (leaves_are (rank_in script delay run a.id.rank) (log_of run a.id.rank)
      (lawful.logs a.id.rank access.within).calls)
      (subst (λ r. slice_get (log_of run r) y.id.index ≡ Some step.item) rank step.logged) in
      let begins = step_begins (calls_of script a.id.rank) step.item step.number y.step y.call step.step_is leaves
      (subst (λ r. slice_get (calls_of script r) step.number ≡ Some y.call) rank step.call_is)
      (apart_from_all y.call s e other) in
      before_step a u y access by step parts.0 begins (waits_by a y s step parts.1 e completes)

  before_request : (a : IssuedAccess) (u : Touching) (y : CallStep) (req : ℕ) → IsAccess script run a →
      IsTouchBy script run a u →
      IsStep script run y → is_later_at_origin a y ≡ true → request_ended (action_of y.call) ≡ Some req →
      a.issued.fetches ≡ true →
      is_requested_by y.known.requests req a.issued ≡ true → Before script run u.id y.id
  before_request a u y req access by step later e fetches requested =
      let same = and_parts (y.id.rank == a.id.rank) (nat_lt a.id.index y.id.index) later in
      let rank : y.id.rank ≡ a.id.rank = eqb-true y.id.rank a.id.rank same.0 in
      let leaves = each_at (LeavesCollective (calls_of script a.id.rank)) (log_of run a.id.rank) y.id.index step.item
      (leaves_are (rank_in script delay run a.id.rank) (log_of run a.id.rank)
      (lawful.logs a.id.rank access.within).calls)
      (subst (λ r. slice_get (log_of run r) y.id.index ≡ Some step.item) rank step.logged) in
      let begins = step_begins (calls_of script a.id.rank) step.item step.number y.step y.call step.step_is leaves
      (subst (λ r. slice_get (calls_of script r) step.number ≡ Some y.call) rank step.call_is)
      (request_apart y.call req e) in
      before_step a u y access by step later begins
      (ap (λ x. waits_for y.known.requests x a.issued) (ends_request (action_of y.call) req e)
      ∙ and_from a.issued.fetches (is_requested_by y.known.requests req a.issued) fetches requested)

  -- ---- the done points

  -- the next step of the origin that passes a test, from which an edge leads to a step
  follows : (a : IssuedAccess) (x : CallStep) (test : CallStep → Bool) →
      follows_next (timeline_of script run) test a x ≡ true →
      (y : CallStep) × In y (steps_in script run) × (is_later_on_window a y ≡ true) × (test y ≡ true)
      × (leads_to (events_in script run) y.id x.id ≡ true)
  follows a x test h =
      let next = some_of (λ (y : CallStep). leads_to (events_in script run) y.id x.id)
      (next_step (timeline_of script run) test a) h in
      let is = find_in (λ y. is_later_on_window a y && test y) (steps_in script run) next.0 next.1 in
      let parts = and_parts (is_later_on_window a next.0) (test next.0) is.1 in
      (next.0, is.0, parts.0, parts.1, next.2)

  after_fence : (a : IssuedAccess) (u : Touching) (x : CallStep) → IsAccess script run a → IsTouchBy script run a u →
      follows_next (timeline_of script run) arrives_at_fence a x ≡ true → Before script run u.id x.id
  after_fence a u x access by h =
      let y = follows a x arrives_at_fence h in
      let step = step_is script run y.1 in
      let later = and_parts (is_later_at_origin a y.0) (is_step_on a.issued.access.window y.0) y.2 in
      let arrives = and_parts (is_arrive y.0.step) (is_collective Fence y.0.call) y.3 in
      let s = fence_of (action_of y.0.call) arrives.1 in
      Across (before_step a u y.0 access by step later.0 (arrive_begins y.0.step arrives.0)
      (waits_by a y.0 (Fences s.0) step later.1 s.1 refl)) y.4
    where
      arrive_begins : (step : Step) → is_arrive step ≡ true → begins_with_step step ≡ true
      arrive_begins Arrive h = refl
      arrive_begins Leave h = absurd (cc h)
      arrive_begins One h = refl

      fence_in : (s : Synchronisation) → option_map_or (is_same_collective Fence) (fence_or_none s) false ≡ true →
          (asserts : _) × (s ≡ Fences asserts)
      fence_in (Fences asserts) h = (asserts, refl)
      fence_in (Posts group asserts) h = absurd (cc h)
      fence_in (Starts group asserts) h = absurd (cc h)
      fence_in Completes h = absurd (cc h)
      fence_in (Waits tests) h = absurd (cc h)
      fence_in (Locks kind target asserts) h = absurd (cc h)
      fence_in (Unlocks target) h = absurd (cc h)
      fence_in (Flushes target local) h = absurd (cc h)
      fence_in Syncs h = absurd (cc h)

      fence_of : (action : Action) → option_map_or (is_same_collective Fence) (collective_in action) false ≡ true →
          (asserts : _) × (synchronisation_in action ≡ Some (Fences asserts))
      fence_of (Creates creation) h = absurd (cc h)
      fence_of (Frees win) h = absurd (cc h)
      fence_of (Attaches win base bytes) h = absurd (cc h)
      fence_of (Detaches win base) h = absurd (cc h)
      fence_of (Synchronises win s) h = let is = fence_in s h in (is.0, ap Some is.1)
      fence_of Meets h = absurd (cc h)
      fence_of (Moves t) h = absurd (cc h)
      fence_of (EndsRequest req) h = absurd (cc h)

  after_complete : (a : IssuedAccess) (u : Touching) (x : CallStep) → IsAccess script run a → IsTouchBy script run a u →
      follows_next (timeline_of script run) completes_start a x ≡ true → Before script run u.id x.id
  after_complete a u x access by h =
      let y = follows a x completes_start h in
      let s = some_of is_complete (synchronisation_of y.0.call) y.3 in
      let is = complete_is s.0 s.2 in
      Across (before_completing a u y.0 s.0 access by (step_is script run y.1) y.2 s.1 (ap is_fence is)
      (ap (λ c. completes_access c a.issued) is)) y.4
    where
      complete_is : (s : Synchronisation) → is_complete s ≡ true → s ≡ Completes
      complete_is (Fences asserts) h = absurd (cc h)
      complete_is (Posts group asserts) h = absurd (cc h)
      complete_is (Starts group asserts) h = absurd (cc h)
      complete_is Completes h = refl
      complete_is (Waits tests) h = absurd (cc h)
      complete_is (Locks kind target asserts) h = absurd (cc h)
      complete_is (Unlocks target) h = absurd (cc h)
      complete_is (Flushes target local) h = absurd (cc h)
      complete_is Syncs h = absurd (cc h)

  at_target : (a : IssuedAccess) (u : Touching) (x : CallStep) → IsAccess script run a → IsTouchBy script run a u →
      IsStep script run x →
      is_completed_at_target a x ≡ true → Before script run u.id x.id
  at_target a u x access by step h =
      let parts = and_parts (is_later_on_window a x)
      (option_map_or (completes_at_target a.issued) (synchronisation_of x.call) false) h in
      let s = some_of (completes_at_target a.issued) (synchronisation_of x.call) parts.1 in
      let is = completes s.0 s.2 in
      before_completing a u x s.0 access by step parts.0 s.1 is.0 is.1
    where
      completes : (s : Synchronisation) → completes_at_target a.issued s ≡ true →
          (is_fence s ≡ false) × (completes_access s a.issued ≡ true)
      completes (Fences asserts) h = absurd (cc h)
      completes (Posts group asserts) h = absurd (cc h)
      completes (Starts group asserts) h = absurd (cc h)
      completes Completes h = absurd (cc h)
      completes (Waits tests) h = absurd (cc h)
      completes (Locks kind target asserts) h = absurd (cc h)
      completes (Unlocks target) h = (refl, h)
      completes (Flushes target true) h = absurd (cc h)
      completes (Flushes target false) h = (refl, h)
      completes Syncs h = absurd (cc h)

  at_origin : (a : IssuedAccess) (u : Touching) (x : CallStep) → IsAccess script run a → IsTouchBy script run a u →
      IsStep script run x →
      a.issued.fetches ≡ true → is_completed_at_origin a x ≡ true → Before script run u.id x.id
  at_origin a u x access by step fetches h =
      let parts = and_parts (is_later_on_window a x)
      (option_map_or (completes_at_origin a.issued) (synchronisation_of x.call) false) h in
      let s = some_of (completes_at_origin a.issued) (synchronisation_of x.call) parts.1 in
      let is = completes s.0 s.2 in
      before_completing a u x s.0 access by step parts.0 s.1 is.0 is.1
    where
      completes : (s : Synchronisation) → completes_at_origin a.issued s ≡ true →
          (is_fence s ≡ false) × (completes_access s a.issued ≡ true)
      completes (Fences asserts) h = absurd (cc h)
      completes (Posts group asserts) h = absurd (cc h)
      completes (Starts group asserts) h = absurd (cc h)
      completes Completes h = (refl, refl)
      completes (Waits tests) h = absurd (cc h)
      completes (Locks kind target asserts) h = absurd (cc h)
      completes (Unlocks target) h = absurd (cc h)
      completes (Flushes target true) h = (refl, and_from (is_towards target a.issued) a.issued.fetches h fetches)
      completes (Flushes target false) h = absurd (cc h)
      completes Syncs h = absurd (cc h)

  by_epoch : (a : IssuedAccess) (u : Touching) (x : CallStep) (epoch : AccessEpoch) → IsAccess script run a →
      IsTouchBy script run a u →
      IsStep script run x → is_done_by_epoch (timeline_of script run) a epoch x ≡ true → Before script run u.id x.id
  by_epoch a u x Idle access by step h = absurd (cc h)
  by_epoch a u x FenceUnused access by step h = after_fence a u x access by h
  by_epoch a u x FenceUsed access by step h = after_fence a u x access by h
  by_epoch a u x (StartTo group) access by step h =
      after_complete a u x access by (and_parts (follows_next (timeline_of script run) completes_start a x)
      (x.id.rank == a.issued.access.target) h).0
  by_epoch a u x (LocksAt targets) access by step h = at_target a u x access by step h
  by_epoch a u x LockAll access by step h = at_target a u x access by step h

  -- each touch of an access is before its done points; a read that is asked for fetches
  pub before_done : (a : IssuedAccess) (u : Touching) (x : CallStep) → IsAccess script run a →
      IsTouchBy script run a u → IsStep script run x →
      (is_rma_read (role_of a.issued.access.kind) ≡ true → a.issued.fetches ≡ true) →
      is_done_at (timeline_of script run) a x ≡ true → Before script run u.id x.id
  before_done a u x access by step fetches h =
      elim (or_cases (is_done_by_epoch (timeline_of script run) a a.epoch x)
      (is_rma_read (role_of a.issued.access.kind) && (is_completed_at_origin a x || ends_its_request a x)) h) [
        | inl epoch ↦ by_epoch a u x a.epoch access by step epoch
        | inr read ↦
            let parts = and_parts (is_rma_read (role_of a.issued.access.kind))
            (is_completed_at_origin a x || ends_its_request a x) read in
            elim (or_cases (is_completed_at_origin a x) (ends_its_request a x) parts.1) [
              | inl origin ↦ at_origin a u x access by step (fetches parts.0) origin
              | inr request ↦
                  let later = and_parts (is_later_at_origin a x)
                  (option_map_or (λ req. is_requested_by x.known.requests req a.issued)
                  (request_ended (action_of x.call)) false) request in
                  let req = some_of (λ req. is_requested_by x.known.requests req a.issued)
                  (request_ended (action_of x.call)) later.1 in
                  before_request a u x req.0 access by step later.0 req.1 (fetches parts.0) req.2
            ]
      ]
