-- What holds of a call that its rank does not refuse: its epochs, its request and its place.
use Rattle.std.proofs.Common.{◌≡◌, ℕ, ◌+◌, ◌*◌, ◌<◌, ◌≤◌, Bool, true, false, cond, [], ◌∷◌, Option, Some, None, refl}
use Rattle.std.proofs.Common.{sym, ◌∙◌, ap, subst, arith}
use Rattle.std.specs.Prelude.{◌==◌, ◌^◌, ℤ, pos, negsuc, IfSome, nat_lt}
use Rattle.std.specs.Option.{option_and_then, option_map_or}
use Rattle.std.proofs.lemmas.Bool.{not-false, ltb-true, ltb-false}
use Rattle.list_laws.proofs.Each.{found_has}
use Rattle.rma_types.specs.declared.calls.Call.{Call}
use Rattle.rma_types.specs.declared.calls.Flavor.TheVariants.{Dynamic}
use Rattle.rma_types.specs.declared.scripts.Layout.{Layout}
use Rattle.rma_types.specs.declared.actions.Action.{Action}
use Rattle.rma_types.specs.declared.actions.Action.TheVariants.{Creates, Frees, Attaches, Detaches, Synchronises, Meets}
use Rattle.rma_types.specs.declared.actions.Action.TheVariants.{Moves, EndsRequest}
use Rattle.rma_types.specs.declared.actions.Target.{Target}
use Rattle.rma_types.specs.declared.actions.Transfer.{Transfer}
use Rattle.rma_types.specs.declared.actions.Target.TheVariants.{Own, Null, Named}
use Rattle.rma_types.specs.Actions.{action_of, transfer_in, transfer_of}
use Rattle.rma_types.proofs.ActionLaws.{moves_it}
use Rattle.call_rules.specs.Ranks.{natural}
use Rattle.call_rules.specs.Transfers.{rank_reached, bytes_of}
use Rattle.call_rules.specs.WellFormed.{IsWrittenCall, IsWrittenAction, IsNumber}
use Rattle.rank_rules.proofs.ClassLaws.{least_none, first_passed}
use Rattle.rank_rules.proofs.KnowledgeLaws.{epochs_allow}
use Rattle.rank_epochs.specs.Accepted.{IsAccepted}
use Rattle.rank_rules.specs.Classes.{first_class, least_class}
use Rattle.rank_rules.specs.Courses.{course_of, course_of_action}
use Rattle.rank_rules.specs.EpochTests.{epoch_class, is_wrong_target}
use Rattle.rank_rules.specs.Knowledge.{Knowledge, own_class}
use Rattle.rank_rules.specs.Requests.{Requests, is_live_request, request_class}
use Rattle.rank_rules.specs.Windows.{Window, RankWindows, window_of_name, is_same_flavor}
use Rattle.rank_rules.specs.WindowTests.{address_of, is_unattached, part_reached, passes_end, place_tests, window_class}
use Rattle.rma_types.specs.declared.classes.Class.TheVariants.{Request}
use Rattle.step_laws.proofs.OwnRoom.{HasRightPlace, counts_and_ranks, right_place}
use Rattle.step_laws.proofs.OwnTests.{HasIssue, windows_allow}
use Rattle.step_laws.proofs.OwnTests.{transfer_passed}
use Rattle.step_laws.specs.Inside.{bytes_at}
use Rattle.step_laws.specs.Rooms.{AreRoomy, IsRoomyWindow}
use Rattle.window_regions.specs.Places.{HasSmallPlace}

pub accepted : (known : Knowledge) (call : Call) → known.windows.ranks ≤ 16 → own_class known call ≡ None →
    IsAccepted known.epochs (action_of call)
accepted known call few own = record { ranks = known.windows.ranks; few = few; passes = epochs_allow known call own }

pub requests_allow : (known : Knowledge) (call : Call) → own_class known call ≡ None →
    request_class known.requests (action_of call) ≡ None
requests_allow known call e =
    (least_none (epoch_class known.windows.ranks known.epochs (action_of call))
    (request_class known.requests (action_of call))
    (least_none (window_class known.windows (action_of call))
    (least_class (epoch_class known.windows.ranks known.epochs (action_of call))
    (request_class known.requests (action_of call))) e).1).1

action_request_free : (requests : Requests) (a : Action) → request_class requests a ≡ None →
    IfSome (option_and_then (λ (t : Transfer). t.request) (transfer_in a))
    (λ name. is_live_request requests name ≡ false)
action_request_free requests (Creates creation) e = tt
action_request_free requests (Frees win) e = tt
action_request_free requests (Attaches win base bytes) e = tt
action_request_free requests (Detaches win base) e = tt
action_request_free requests (Synchronises win s) e = tt
action_request_free requests Meets e = tt
action_request_free requests (Moves t) e = by_name t.request e
  where
    by_name : (o : Option ℕ) →
        first_class (option_map_or (λ name. (is_live_request requests name, Request) ∷ []) o []) ≡ None →
        IfSome o (λ name. is_live_request requests name ≡ false)
    by_name None h = tt
    by_name (Some name) h = (first_passed (is_live_request requests name) Request [] h).0
action_request_free requests (EndsRequest req) e = tt

-- a request that the call makes is not live
pub request_free : (known : Knowledge) (call : Call) → own_class known call ≡ None →
    IfSome (option_and_then (λ (t : Transfer). t.request) (transfer_of call))
    (λ name. is_live_request known.requests name ≡ false)
request_free known call own = action_request_free known.requests (action_of call) (requests_allow known call own)

action_request_small : (a : Action) → IsWrittenAction a →
    IfSome (option_and_then (λ (t : Transfer). t.request) (transfer_in a)) (λ name. name < 64)
action_request_small (Creates creation) w = tt
action_request_small (Frees win) w = tt
action_request_small (Attaches win base bytes) w = tt
action_request_small (Detaches win base) w = tt
action_request_small (Synchronises win s) w = tt
action_request_small Meets w = tt
action_request_small (Moves t) w = w.named_request
action_request_small (EndsRequest req) w = tt

pub request_small : (call : Call) → IsWrittenCall call →
    IfSome (option_and_then (λ (t : Transfer). t.request) (transfer_of call)) (λ name. name < 64)
request_small call w = action_request_small (action_of call) w

-- ---- places

small_rank : (ranks own : ℕ) (target : Target) → ranks ≤ 16 → own < 16 → is_wrong_target ranks target ≡ false →
    rank_reached own target < 256
small_rank ranks own Own few mine e = omega arith
small_rank ranks own Null few mine e = omega arith
small_rank ranks own (Named (pos rank)) few mine e =
    let below : rank < ranks = ltb-true rank ranks (not-false (nat_lt rank ranks) e) in omega arith
small_rank ranks own (Named (negsuc n)) few mine e = absurd (cc e)

small_number : (z : ℤ) → IsNumber z → natural z ≤ 2147483647
small_number (pos n) w = w
small_number (negsuc n) w = omega arith

-- the address of a transfer whose place is right is small
small_address : (layout : Layout) (known : RankWindows) (t : Transfer) (window : Window) →
    ((rank : ℕ) → bytes_at layout rank ≤ 65536) → IsNumber t.disp → IsRoomyWindow layout window →
    HasRightPlace known window t → address_of known window t < 2 ^ 32
small_address layout known t window most number room right = by_flavor (is_same_flavor window.flavor Dynamic) refl
    right.1
  where
    reached : ℕ
    reached = rank_reached known.rank t.target

    by_flavor : (b : Bool) → is_same_flavor window.flavor Dynamic ≡ b →
        cond b (is_unattached known window.win t.target (address_of known window t) (bytes_of t))
        (passes_end (part_reached known window t) t.disp (bytes_of t)) ≡ false →
        address_of known window t < 2 ^ 32
    by_flavor true dynamic e =
        let at = room.addresses dynamic reached in
        let small : natural t.disp ≤ 2147483647 = small_number t.disp number in
        subst (λ n. n < 2 ^ 32) (sym
        (ap (λ b. b + natural t.disp * (part_reached known window t).unit) at.0
        ∙ ap (λ u. 0 + natural t.disp * u) at.1)) (plain (natural t.disp) small)
      where
        plain : (n : ℕ) → n ≤ 2147483647 → 0 + n * 1 < 2 ^ 32
        plain n h = omega arith
    by_flavor false apart e =
        within (address_of known window t) (bytes_of t)
        ((part_reached known window t).base + (part_reached known window t).bytes) (bytes_at layout reached)
        (ltb-false ((part_reached known window t).base + (part_reached known window t).bytes)
        (address_of known window t + bytes_of t) e) (room.parts reached) (most reached)
      where
        within : (a b c d : ℕ) → a + b ≤ c → c ≤ d → d ≤ 65536 → a < 2 ^ 32
        within a b c d h k l = omega arith

pub small_place : (layout : Layout) (known : Knowledge) (call : Call) (t : Transfer) →
    ((rank : ℕ) → bytes_at layout rank ≤ 65536) → known.windows.ranks ≤ 16 → known.windows.rank < 16 →
    AreRoomy layout known.windows → IsWrittenCall call → own_class known call ≡ None →
    HasIssue (course_of known.windows call) → transfer_of call ≡ Some t → HasSmallPlace known.windows t
small_place layout known call t most few mine roomy written own issues moves = (
  small_rank known.windows.ranks known.windows.rank t.target few mine
      (counts_and_ranks known.windows.ranks known.epochs t passed_epochs).1,
  by_window (window_of_name known.windows t.win) refl,
)
  where
    is : action_of call ≡ Moves t
    is = moves_it call t moves

    passed_epochs : epoch_class known.windows.ranks known.epochs (Moves t) ≡ None
    passed_epochs = subst (λ a. epoch_class known.windows.ranks known.epochs a ≡ None) is (epochs_allow known call own)

    passed : (w : Window) × (window_of_name known.windows t.win ≡ Some w) ×
        (first_class (place_tests known.windows w t) ≡ None)
    passed = transfer_passed known.windows t
        (subst (λ a. window_class known.windows a ≡ None) is (windows_allow known call own))

    by_window : (o : Option Window) → window_of_name known.windows t.win ≡ o →
        IfSome o (λ window. address_of known.windows window t < 2 ^ 32)
    by_window None live = tt
    by_window (Some window) live = small_address layout known.windows t window most
        (subst IsWrittenAction is written).place
        (found_has (IsRoomyWindow layout) (λ (w : Window). w.win == t.win) known.windows.windows window roomy.windows
        live).0
        (right_place known.windows known.epochs window t
        (subst (λ a. HasIssue (course_of_action known.windows a)) is issues) passed_epochs
        (let same : passed.0 ≡ window = cc (passed.1, live) in
        subst (λ (w : Window). first_class (place_tests known.windows w t) ≡ None) same passed.2))
