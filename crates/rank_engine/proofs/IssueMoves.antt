-- The move of an Issue, with the place of its access in the queue where it is touched at once.
use Rattle.std.proofs.Common.{◌≡◌, Bool, true, false, cond, [], ◌∷◌, ◌++◌, length, Option, Some}
use Rattle.std.proofs.Common.{None, refl, sym, ◌∙◌, ap, subst, arith, length-append}
use Rattle.std.specs.Prelude.{◌==◌, ◌&&◌, nat_lt, IfSome}
use Rattle.std.specs.Option.{option_and_then, option_map_or}
use Rattle.std.proofs.lemmas.Bool.{lt-ltb, le-ltb}
use Rattle.list_laws.proofs.Each.{found_has}
use Rattle.rma_types.specs.declared.accesses.Access.{Access}
use Rattle.rma_types.specs.declared.calls.Call.{Call}
use Rattle.rma_types.specs.declared.actions.Transfer.{Transfer}
use Rattle.rma_types.specs.declared.actions.Action.TheVariants.{Moves}
use Rattle.rma_types.specs.Actions.{action_of, transfer_of}
use Rattle.rma_types.proofs.ActionLaws.{moves_it}
use Rattle.rank_rules.specs.Classes.{first_class}
use Rattle.rank_rules.specs.Courses.{OneIssue, access_of, course_of, course_of_action, course_of_transfer}
use Rattle.rank_rules.specs.EpochTests.{epoch_class}
use Rattle.rank_rules.specs.Knowledge.{Knowledge, own_class}
use Rattle.rank_rules.specs.declared.pending.PendingAccess.{PendingAccess}
use Rattle.rank_rules.specs.Windows.{Window}
use Rattle.rank_rules.specs.WindowTests.{place_tests, window_class}
use Rattle.rank_rules.proofs.KnowledgeLaws.{epochs_allow}
use Rattle.step_laws.proofs.OwnRoom.{access_lies, right_place}
use Rattle.step_laws.proofs.OwnTests.{HasIssue, transfer_passed, windows_allow}
use Rattle.step_laws.specs.Rooms.{IsRoomyWindow}
use Rattle.step_runs.specs.DataSteps.{Move, is_at_once, issue, issue_of, with_issue, without_delivery}
use Rattle.rank_engine.specs.Moves.{IsIssued, IsMove, place_now}
use Rattle.rank_engine.specs.RankStates.{RankState, delivery_of, moves_to}
use Rattle.rank_engine.specs.Sound.{IsLookedUp, IsSound}

-- ---- the place of the access

-- the access that is delivered is the one that is touched in the step of its Issue
pub delivers_now : (s : RankState) (t : Transfer) (access : Access) →
    delivery_of (issue_of s.stage s.agent t access) ≡ place_now s access
delivers_now s t access = by_tests (nat_lt 0 access.len) (is_at_once s.stage.delay access)
  where
    one : PendingAccess
    one = record { index = length s.agent.log; number = s.agent.at; access = access; fetches = t.fetches }

    by_tests : (long once : Bool) → option_and_then
        (λ at. cond (nat_lt at (length (s.agent.pending ++ cond long (one ∷ []) []))) (Some at) None)
        (cond once (Some (length s.agent.pending)) None) ≡ cond (long && once) (Some (length s.agent.pending)) None
    by_tests true true = ap (λ b. cond b (Some (length s.agent.pending)) None)
        (lt-ltb (length s.agent.pending) (length (s.agent.pending ++ one ∷ []))
        (let long = length-append s.agent.pending (one ∷ []) in omega arith))
    by_tests true false = refl
    by_tests false true = ap (λ b. cond b (Some (length s.agent.pending)) None)
        (le-ltb (length s.agent.pending) (length (s.agent.pending ++ []))
        (let long = length-append s.agent.pending [] in omega arith))
    by_tests false false = refl

-- ---- the move

-- the transfer of a call that has an access
access_moves : (s : RankState) (call : Call) (access : Access) → access_of s.agent.known.windows call ≡ Some access →
    (t : Transfer) × (transfer_of call ≡ Some t)
access_moves s call access is = by_transfer (transfer_of call) refl
  where
    by_transfer : (o : Option Transfer) → transfer_of call ≡ o → (t : Transfer) × (transfer_of call ≡ Some t)
    by_transfer None moves =
        let none : access_of s.agent.known.windows call ≡ None = rw moves refl in absurd (cc (none, is))
    by_transfer (Some t) moves = (t, moves)

issue_by : (s : RankState) (call : Call) (access : Access) (t : Transfer) → transfer_of call ≡ Some t →
    access_of s.agent.known.windows call ≡ Some access →
    issue s.stage s.agent call ≡ issue_of s.stage s.agent t access
issue_by s call access t moves is =
    let none : Move = without_delivery s.agent in
    ap (λ o. option_map_or (λ (x : Transfer). option_map_or (issue_of s.stage s.agent x)
    (access_of s.agent.known.windows call) none) o none) moves
    ∙ ap (λ o. option_map_or (issue_of s.stage s.agent t) o none) is

pub issue_made : (before after : RankState) (call : Call) (access : Access) →
    access_of before.agent.known.windows call ≡ Some access → IsIssued before after call access →
    IsMove before after (issue before.stage before.agent call)
issue_made before after call access is made =
    let some = access_moves before call access is in
    let t : Transfer = some.0 in
    let rank = subst (λ (o : Option Transfer). IfSome o (λ x. after ≡ record
    (moves_to before (without_delivery (with_issue before.stage before.agent access x))) {
      opened = place_now before access;
      free = after.free;
    })) some.1 made.rank in
    subst (IsMove before after) (sym (issue_by before call access t some.1 is)) (record {
      rank = rank
          ∙ ap (λ o. record (moves_to before (issue_of before.stage before.agent t access)) {
            opened = o;
            free = after.free;
          }) (sym (delivers_now before t access));
      above = made.above;
      below = made.below;
    })

-- ---- without a look-up

-- the access of a call that is not looked up lies in memory
pub direct_lies : (s : RankState) (call : Call) → IsSound s → own_class s.agent.known call ≡ None →
    course_of s.agent.known.windows call ≡ OneIssue →
    IfSome (transfer_of call) (IsLookedUp s.stage.layout s.agent.known.windows)
direct_lies s call sound own course = by_transfer (transfer_of call) refl
  where
    known : Knowledge
    known = s.agent.known

    looked : (t : Transfer) → transfer_of call ≡ Some t → IsLookedUp s.stage.layout known.windows t
    looked t moves window live =
        let is : action_of call ≡ Moves t = moves_it call t moves in
        let course_t : course_of_transfer known.windows t ≡ OneIssue =
        subst (λ a. course_of_action known.windows a ≡ OneIssue) is course in
        let passed = transfer_passed known.windows t
        (subst (λ a. window_class known.windows a ≡ None) is (windows_allow known call own)) in
        let same : passed.0 ≡ window = cc (passed.1, live) in
        access_lies s.stage.layout known.windows t window sound.windows.roomy
        (found_has (IsRoomyWindow s.stage.layout) (λ (w : Window). w.win == t.win) known.windows.windows window
        sound.windows.roomy.windows live).0 live course_t
        (right_place known.windows known.epochs window t (subst HasIssue (sym course_t) tt)
        (subst (λ a. epoch_class known.windows.ranks known.epochs a ≡ None) is (epochs_allow known call own))
        (subst (λ (w : Window). first_class (place_tests known.windows w t) ≡ None) same passed.2))

    by_transfer : (o : Option Transfer) → transfer_of call ≡ o →
        IfSome o (IsLookedUp s.stage.layout known.windows)
    by_transfer None moves = tt
    by_transfer (Some t) moves = looked t moves
