-- The accesses, the touches and the steps of a run, each with its item.
use Rattle.std.proofs.Common.{◌≡◌, ℕ, ◌+◌, ◌<◌, Bool, true, false, [], ◌∷◌, Option, Some, None, refl, ap, sym, ◌∙◌}
use Rattle.std.proofs.Common.{subst, arith}
use Rattle.std.specs.Prelude.{slice_get}
use Rattle.std.specs.Option.{option_map_or}
use Rattle.list_laws.proofs.Members.{In, here, there, flat_map_in, map_in}
use Rattle.rma_types.specs.declared.accesses.Step.{Step}
use Rattle.rma_types.specs.declared.calls.Call.{Call}
use Rattle.rma_types.specs.declared.scripts.Script.{Script}
use Rattle.rma_types.proofs.ActionLaws.{is_synchronising}
use Rattle.rma_record.specs.declared.items.Item.{Item}
use Rattle.rma_record.specs.declared.items.Item.TheVariants.{Touch}
use Rattle.rma_record.specs.declared.runs.Run.{Run}
use Rattle.rma_types.specs.declared.actions.Action.{Action}
use Rattle.rma_types.specs.declared.actions.Action.TheVariants.{Creates, Frees, Attaches, Detaches, Synchronises, Meets}
use Rattle.rma_types.specs.declared.actions.Action.TheVariants.{Moves, EndsRequest}
use Rattle.rma_types.specs.declared.actions.Synchronisation.{Synchronisation}
use Rattle.rma_types.specs.declared.actions.Synchronisation.TheVariants.{Fences, Posts, Starts, Completes, Waits, Locks}
use Rattle.rma_types.specs.declared.actions.Synchronisation.TheVariants.{Unlocks, Flushes, Syncs}
use Rattle.rma_types.specs.Actions.{action_of, synchronisation_of}
use Rattle.call_rules.specs.Pieces.{numbers_from}
use Rattle.lawful_runs.specs.Accesses.{Touching, issued_by, issued_from}
use Rattle.lawful_runs.specs.Logs.{Named, log_of, calls_of, named_items}
use Rattle.rank_rules.specs.Courses.{ArriveAndLeave, OneRequest, course_of, course_of_action, course_of_synchronisation}
use Rattle.rank_rules.specs.declared.pending.PendingAccess.{PendingAccess}
use Rattle.rank_rules.specs.Windows.{RankWindows}
use Rattle.order_rules.specs.CallSteps.{CallStep, IssuedAccess, known_before, step_by, call_step, steps_of_item}
use Rattle.order_rules.specs.CallSteps.{steps_in, issued_access, accesses_of, accesses_in}
use Rattle.order_rules.specs.DonePoints.{request_ended}
use Rattle.order_laws.proofs.Events.{named_item_in}
use Rattle.read_laws.proofs.Touches.{IsTouch, issued_is, issued_at_some, numbers_in}

-- ---- accesses, touches and steps, with their items

-- an access of a run, with its Issue
pub record IsAccess (script : Script) (run : Run) (a : IssuedAccess) : Type 0 where
  pub within : a.id.rank < script.ranks
  pub index : a.issued.index ≡ a.id.index
  pub item : Item
  pub logged : slice_get (log_of run a.id.rank) a.issued.index ≡ Some item
  pub issued : issued_by (calls_of script a.id.rank) a.issued.index item ≡ Some a.issued

pub one_access : (script : Script) (run : Run) (rank : ℕ) (one : PendingAccess) → rank < script.ranks →
    In one (issued_from (calls_of script rank) 0 (log_of run rank)) →
    IsAccess script run (issued_access script run rank one)
one_access script run rank one within m =
    let at = issued_at_some (calls_of script rank) 0 (log_of run rank) one m in
    let is = issued_is (calls_of script rank) (0 + at.0) at.1 one at.3 in
    let same : at.0 ≡ one.index = omega (arith, is.at) in
    record {
      within = within;
      index = refl;
      item = at.1;
      logged = subst (λ k. slice_get (log_of run rank) k ≡ Some at.1) same at.2;
      issued = subst (λ k. issued_by (calls_of script rank) k at.1 ≡ Some one) (sym is.at) at.3;
    }

pub access_is : (script : Script) (run : Run) {a : IssuedAccess} → In a (accesses_in script run) → IsAccess script run a
access_is script run m =
    let rank = flat_map_in (accesses_of script run) (numbers_from 0 script.ranks) m in
    let below = numbers_in 0 script.ranks rank.0 rank.1 in
    let one = map_in (issued_access script run rank.0) (issued_from (calls_of script rank.0) 0 (log_of run rank.0))
    rank.2 in
    subst (IsAccess script run) one.2 (one_access script run rank.0 one.0 (omega (arith, below.1)) one.1)

-- a touch of an access
pub record IsTouchBy (script : Script) (run : Run) (a : IssuedAccess) (u : Touching) : Type 0 where
  pub touch : IsTouch script run u
  pub rank : u.id.rank ≡ a.id.rank
  pub issue : u.issue ≡ a.issued.index

-- the item of the touch in the log of its access
pub touch_logged : (script : Script) (run : Run) (a : IssuedAccess) (u : Touching) → IsTouchBy script run a u →
    slice_get (log_of run a.id.rank) u.id.index ≡ Some (Touch a.issued.index u.element u.cell u.place u.bits)
touch_logged script run a u by =
    subst (λ r. slice_get (log_of run r) u.id.index ≡ Some (Touch a.issued.index u.element u.cell u.place u.bits))
    by.rank
    (by.touch.item.logged ∙ ap (λ i. Some (Touch i u.element u.cell u.place u.bits)) by.issue)

-- a step of a run, with its item
pub record IsStep (script : Script) (run : Run) (x : CallStep) : Type 0 where
  pub item : Item
  pub number : ℕ
  pub logged : slice_get (log_of run x.id.rank) x.id.index ≡ Some item
  pub step_is : step_by item ≡ Some (number, x.step)
  pub call_is : slice_get (calls_of script x.id.rank) number ≡ Some x.call
  pub known_is : x.known ≡ known_before script run x.id

pub listed_step : (script : Script) (run : Run) (one : Named) {x : CallStep} → In x (steps_of_item script run one) →
    slice_get (log_of run one.id.rank) one.id.index ≡ Some one.item → IsStep script run x
listed_step script run one {x} m logged = by_step (step_by one.item) refl m
  where
    by_call : (number : ℕ) (step : Step) (o : Option Call) → step_by one.item ≡ Some (number, step) →
        slice_get (calls_of script one.id.rank) number ≡ o →
        In x (option_map_or (λ call. record {
          id = one.id;
          call = call;
          step = step;
          known = known_before script run one.id;
        } ∷ []) o []) →
        IsStep script run x
    by_call number step None e of m = elim m [ ]
    by_call number step (Some call) e of m = subst (IsStep script run) (only m) (record {
      item = one.item;
      number = number;
      logged = logged;
      step_is = e;
      call_is = of;
      known_is = refl;
    })
      where
        only : {y : CallStep} → In x (y ∷ []) → y ≡ x
        only here = refl
        only (there k) = elim k [ ]

    by_step : (o : Option (ℕ × Step)) → step_by one.item ≡ o →
        In x (option_map_or (call_step script run one.id) o []) → IsStep script run x
    by_step None e m = elim m [ ]
    by_step (Some (number, step)) e m = by_call number step (slice_get (calls_of script one.id.rank) number) e refl m

pub step_is : (script : Script) (run : Run) {x : CallStep} → In x (steps_in script run) → IsStep script run x
step_is script run m =
    let one = flat_map_in (steps_of_item script run) (named_items run) m in
    listed_step script run one.0 one.2 (named_item_in run one.1).1

-- ---- what a call is

pub ends_request : (a : Action) (req : ℕ) → request_ended a ≡ Some req → a ≡ EndsRequest req
ends_request (Creates creation) req e = absurd (cc e)
ends_request (Frees win) req e = absurd (cc e)
ends_request (Attaches win base bytes) req e = absurd (cc e)
ends_request (Detaches win base) req e = absurd (cc e)
ends_request (Synchronises win s) req e = absurd (cc e)
ends_request Meets req e = absurd (cc e)
ends_request (Moves t) req e = absurd (cc e)
ends_request (EndsRequest other) req e = let is : other ≡ req = cc e in ap EndsRequest is

abbrev pub is_fence : Synchronisation → Bool
is_fence (Fences asserts) = true
is_fence (Posts group asserts) = false
is_fence (Starts group asserts) = false
is_fence Completes = false
is_fence (Waits tests) = false
is_fence (Locks kind target asserts) = false
is_fence (Unlocks target) = false
is_fence (Flushes target local) = false
is_fence Syncs = false

pub fence_alone : (s : Synchronisation) → is_fence s ≡ false → course_of_synchronisation s ≡ ArriveAndLeave → ⊥
fence_alone (Fences asserts) other e = cc other
fence_alone (Posts group asserts) other e = cc e
fence_alone (Starts group asserts) other e = cc e
fence_alone Completes other e = cc e
fence_alone (Waits true) other e = cc e
fence_alone (Waits false) other e = cc e
fence_alone (Locks kind target asserts) other e = cc e
fence_alone (Unlocks target) other e = cc e
fence_alone (Flushes target local) other e = cc e
fence_alone Syncs other e = cc e

-- such a call is no collective one
pub apart_from_all : (call : Call) (s : Synchronisation) → synchronisation_of call ≡ Some s → is_fence s ≡ false →
    (known : RankWindows) → course_of known call ≡ ArriveAndLeave → ⊥
apart_from_all call s e other known course =
    let is = is_synchronising (action_of call) s e in
    fence_alone s other (sym (ap (course_of_action known) is.1) ∙ course)

pub request_apart : (call : Call) (req : ℕ) → request_ended (action_of call) ≡ Some req →
    (known : RankWindows) → course_of known call ≡ ArriveAndLeave → ⊥
request_apart call req e known course =
    let is : OneRequest ≡ ArriveAndLeave = sym (ap (course_of_action known) (ends_request (action_of call) req e))
    ∙ course in cc is
