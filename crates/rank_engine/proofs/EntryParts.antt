-- An entry begins or ends its call: what it opens, and what a Leave makes.
use Rattle.std.proofs.Common.{◌≡◌, ℕ, ◌+◌, ◌*◌, ◌<◌, ◌≤◌, true, false, List, [], ◌∷◌, ◌++◌, Option, Some, None, refl}
use Rattle.std.proofs.Common.{sym, ◌∙◌, ap, subst, arith}
use Rattle.std.specs.Prelude.{◌==◌, ◌%◌, not, pos, int_lt, is_some, IfSome}
use Rattle.std.proofs.lemmas.Bool.{eqb-true, not-false, or_parts}
use Rattle.list_laws.proofs.Each.{found_has}
use Rattle.rma_types.specs.declared.accesses.Step.{Step}
use Rattle.rma_types.specs.declared.accesses.Step.TheVariants.{Arrive, Leave, One}
use Rattle.rma_types.specs.declared.calls.Call.{Call}
use Rattle.rma_types.specs.declared.calls.Flavor.TheVariants.{Dynamic}
use Rattle.rma_types.specs.Datatypes.{size_of}
use Rattle.rma_types.specs.declared.scripts.Part.{Part}
use Rattle.rma_types.proofs.ActionLaws.{creates_it, moves_it}
use Rattle.rma_record.specs.declared.items.Item.{Item}
use Rattle.rma_record.specs.declared.items.Item.TheVariants.{Entry}
use Rattle.rank_rules.proofs.KnowledgeLaws.{epochs_allow}
use Rattle.board_rules.specs.Entries.{acts, window_of}
use Rattle.board_rules.specs.Shapes.{parts_of}
use Rattle.rma_types.specs.declared.actions.Action.{Action}
use Rattle.rma_types.specs.declared.actions.Action.TheVariants.{Creates, Frees, Attaches, Detaches, Synchronises, Meets}
use Rattle.rma_types.specs.declared.actions.Action.TheVariants.{Moves, EndsRequest}
use Rattle.rma_types.specs.declared.actions.Creation.{Creation}
use Rattle.rma_types.specs.declared.actions.Transfer.{Transfer}
use Rattle.rma_types.specs.Actions.{action_of, creation_in, creation_of, transfer_of}
use Rattle.call_rules.specs.Ranks.{natural}
use Rattle.call_rules.specs.Transfers.{bytes_of, rank_reached}
use Rattle.cell_face.specs.Faces.{Face}
use Rattle.lawful_runs.specs.Stages.{shapes_in}
use Rattle.rank_rules.specs.Classes.{first_class}
use Rattle.rank_rules.specs.Courses.{Course, LookUpAndIssue, course_of, course_of_action, course_of_transfer}
use Rattle.rank_rules.specs.EpochTests.{epoch_class}
use Rattle.rank_rules.specs.Knowledge.{own_class}
use Rattle.rank_rules.specs.Windows.{Window, RankWindows, is_same_flavor, next_number, window_of_name}
use Rattle.rank_rules.specs.WindowTests.{address_in, part_reached, place_tests, window_class}
use Rattle.step_laws.proofs.CallCourses.{collective_moves_none, looks_up_dynamic}
use Rattle.step_laws.proofs.OwnRoom.{HasRightPlace, right_place}
use Rattle.step_laws.proofs.OwnTests.{HasIssue, transfer_passed, windows_allow}
use Rattle.step_laws.specs.Inside.{bytes_at}
use Rattle.step_laws.specs.Rooms.{IsRoomyWindow}
use Rattle.step_runs.specs.BoardSteps.{next_row}
use Rattle.sync_board.specs.Boards.{BoardState, IsMadeBy, IsMadeOf, IsShapeMade, LooksInside, rows_on}
use Rattle.window_regions.specs.declared.window.Shape.{Shape}
use Rattle.rank_engine.proofs.EntryNumbers.{leaves_next, opened_numbers, parts_stay}
use Rattle.rank_engine.specs.Entering.{IsClosing, IsOneEntry, IsOpening, IsReady}
use Rattle.rank_engine.specs.Learning.{HasParts, HasShape}
use Rattle.rank_engine.specs.RankStates.{RankState}
use Rattle.rank_engine.specs.Sound.{IsBegun, IsLookedUp, IsSound, IsTwofold}

-- ---- the first entry of two

opens_two : (step : Step) (course : Course) → IsOpening step course → IsTwofold course
opens_two Arrive course h = subst IsTwofold (sym h) tt
opens_two Leave course h = absurd h
opens_two One course h = subst IsTwofold (sym h) tt

-- a look-up that the board allowed lies in memory
look_up_lies : (s : RankState) (call : Call) (t : Transfer) → IsSound s → own_class s.agent.known call ≡ None →
    course_of s.agent.known.windows call ≡ LookUpAndIssue → transfer_of call ≡ Some t →
    LooksInside s.stage.layout s.agent.rank t → IsLookedUp s.stage.layout s.agent.known.windows t
look_up_lies s call t sound own course moves inside window live = record {
  inside = λ address low high. subst (λ r. address < bytes_at s.stage.layout (rank_reached r t.target))
      (sym sound.windows.whose)
      (inside address (subst (λ n. n ≤ address) same low) (subst (λ n. address < n + bytes_of t) same high));
  aligned = aligned;
}
  where
    known : RankWindows
    known = s.agent.known.windows

    is : action_of call ≡ Moves t
    is = moves_it call t moves

    looks : course_of_transfer known t ≡ LookUpAndIssue
    looks = subst (λ a. course_of_action known a ≡ LookUpAndIssue) is course

    dynamic : is_same_flavor window.flavor Dynamic ≡ true
    dynamic = looks_up_dynamic known t window looks live

    room : IsRoomyWindow s.stage.layout window
    room = (found_has (IsRoomyWindow s.stage.layout) (λ (w : Window). w.win == t.win) known.windows window
        sound.windows.roomy.windows live).0

    same : address_in (part_reached known window t) t.disp ≡ natural t.disp
    same =
        let at = room.addresses dynamic (rank_reached known.rank t.target) in
        ap (λ b. b + natural t.disp * (part_reached known window t).unit) at.0
        ∙ (ap (λ u. 0 + natural t.disp * u) at.1 ∙ plain (natural t.disp))
      where
        plain : (n : ℕ) → 0 + n * 1 ≡ n
        plain n = omega arith

    passed : (w : Window) × (window_of_name known t.win ≡ Some w) × (first_class (place_tests known w t) ≡ None)
    passed = transfer_passed known t
        (subst (λ a. window_class known a ≡ None) is (windows_allow s.agent.known call own))

    right : HasRightPlace known window t
    right =
        let one : passed.0 ≡ window = cc (passed.1, live) in
        right_place known s.agent.known.epochs window t (subst HasIssue (sym looks) tt)
        (subst (λ a. epoch_class known.ranks s.agent.known.epochs a ≡ None) is (epochs_allow s.agent.known call own))
        (subst (λ (w : Window). first_class (place_tests known w t) ≡ None) one passed.2)

    aligned : address_in (part_reached known window t) t.disp % size_of t.dtype ≡ 0
    aligned =
        let parts = or_parts (int_lt t.disp (pos 0))
        (not (address_in (part_reached known window t) t.disp % size_of t.dtype == 0)) right.0 in
        eqb-true (address_in (part_reached known window t) t.disp % size_of t.dtype) 0
        (not-false (address_in (part_reached known window t) t.disp % size_of t.dtype == 0) parts.1)

-- a call that is opened so is begun
opens_begun : (s : RankState) (call : Call) (step : Step) → IsSound s → own_class s.agent.known call ≡ None →
    IsOpening step (course_of s.agent.known.windows call) →
    IfSome (transfer_of call) (LooksInside s.stage.layout s.agent.rank) → IsBegun s.stage.layout s.agent.known call
opens_begun s call Arrive sound own opens looked = record {
  passed = own;
  twofold = opens_two Arrive (course_of s.agent.known.windows call) opens;
  looks_up = λ some. absurd (no_transfer (transfer_of call) refl some);
  looked_up = none_looked (transfer_of call) refl;
}
  where
    no_transfer : (o : Option Transfer) → transfer_of call ≡ o → is_some o ≡ true → ⊥
    no_transfer None e h = absurd (cc h)
    no_transfer (Some t) e h = collective_moves_none s.agent.known.windows call t opens e

    none_looked : (o : Option Transfer) → transfer_of call ≡ o →
        IfSome o (IsLookedUp s.stage.layout s.agent.known.windows)
    none_looked None e = tt
    none_looked (Some t) e = absurd (collective_moves_none s.agent.known.windows call t opens e)
opens_begun s call Leave sound own opens looked = absurd opens
opens_begun s call One sound own opens looked = record {
  passed = own;
  twofold = opens_two One (course_of s.agent.known.windows call) opens;
  looks_up = λ some. opens;
  looked_up = all_looked (transfer_of call) refl looked;
}
  where
    all_looked : (o : Option Transfer) → transfer_of call ≡ o → IfSome o (LooksInside s.stage.layout s.agent.rank) →
        IfSome o (IsLookedUp s.stage.layout s.agent.known.windows)
    all_looked None e h = tt
    all_looked (Some t) e h = look_up_lies s call t sound own opens e h

pub opened_sound : (s : RankState) (call : Call) (step : Step) (place : ℕ) (log : List Item) (free : ℕ) (home : List ℕ)
    (board : BoardState) (face : Face) → IsSound s → IsReady s call board face → s.agent.entered ≡ false →
    IsOpening step (course_of s.agent.known.windows call) →
    IfSome (transfer_of call) (LooksInside board.layout s.agent.rank) →
    log ≡ s.agent.log ++ Entry s.agent.at place step ∷ [] →
    IsSound (record s { agent = record s.agent { log = log; entered = true }; free = free; home = home })
opened_sound s call step place log free home board face sound ready new opens looked is = record {
  formed = sound.formed;
  layout = sound.layout;
  rank = sound.rank;
  windows = sound.windows;
  begun = λ _. subst (λ (o : Option Call). IfSome o (IsBegun s.stage.layout s.agent.known)) (sym ready.here)
      (opens_begun s call step sound ready.own opens
      (subst (λ l. IfSome (transfer_of call) (LooksInside l s.agent.rank)) ready.board_is.layout looked));
  queue = sound.queue;
  numbers = opened_numbers s.stage s.agent call step place log sound.numbers new ready.here is opens;
}

-- ---- the entry that ends a call

pub one_entry_makes_none : (known : RankWindows) (call : Call) →
    IsOneEntry (course_of known call) → creation_of call ≡ None
one_entry_makes_none known call one = by_creation (creation_of call) refl
  where
    by_creation : (o : Option Creation) → creation_of call ≡ o → o ≡ None
    by_creation None e = refl
    by_creation (Some creation) e =
        absurd (subst (λ a. IsOneEntry (course_of_action known a)) (creates_it call creation e) one)

-- the window of a creation, where the action is one
only_created : (a : Action) (made : Option Shape) → creation_in a ≡ None → HasShape a made
only_created (Creates creation) made e = absurd (cc e)
only_created (Frees win) made e = tt
only_created (Attaches win base bytes) made e = tt
only_created (Detaches win base) made e = tt
only_created (Synchronises win s) made e = tt
only_created Meets made e = tt
only_created (Moves t) made e = tt
only_created (EndsRequest req) made e = tt

pub only_parts : (shapes : ℕ → List Part) (known : RankWindows) (a : Action) (made : Option Shape) →
    creation_in a ≡ None →
    HasParts shapes known a made
only_parts shapes known (Creates creation) made e = absurd (cc e)
only_parts shapes known (Frees win) made e = tt
only_parts shapes known (Attaches win base bytes) made e = tt
only_parts shapes known (Detaches win base) made e = tt
only_parts shapes known (Synchronises win s) made e = tt
only_parts shapes known Meets made e = tt
only_parts shapes known (Moves t) made e = tt
only_parts shapes known (EndsRequest req) made e = tt

-- what a closing entry makes: nothing, or the window of a creation at its Leave
pub data Makes (s : RankState) (call : Call) (step : Step) (board : BoardState) (made : Option Shape) : Type 0 where
  MakesNothing : creation_of call ≡ None → Makes s call step board made
  MakesWindow : (creation : Creation) (shape : Shape) → creation_of call ≡ Some creation → made ≡ Some shape →
      s.agent.entered ≡ true → step ≡ Leave →
      IsShapeMade board (next_row s.agent call Leave) creation shape → Makes s call step board made

leave_makes : (s : RankState) (call : Call) (board : BoardState) (o : Option Creation) (made : Option Shape) →
    creation_of call ≡ o → s.agent.entered ≡ true → IsMadeOf board (next_row s.agent call Leave) o made →
    Makes s call Leave board made
leave_makes s call board None made e begun h = MakesNothing e
leave_makes s call board (Some creation) None e begun h = absurd h
leave_makes s call board (Some creation) (Some shape) e begun h = MakesWindow creation shape e refl begun refl h

pub closing_makes : (s : RankState) (call : Call) (step : Step) (board : BoardState) (made : Option Shape) →
    IsClosing step s.agent.entered (course_of s.agent.known.windows call) →
    IsMadeBy board (next_row s.agent call step) step made → Makes s call step board made
closing_makes s call Arrive board made closes h = absurd closes
closing_makes s call Leave board made closes h = leave_makes s call board (creation_of call) made refl closes.0 h
closing_makes s call One board made closes h =
    MakesNothing (one_entry_makes_none s.agent.known.windows call closes.1)

pub closing_shape : (s : RankState) (call : Call) (step : Step) (board : BoardState) (made : Option Shape) →
    Makes s call step board made → HasShape (action_of call) made
closing_shape s call step board made (MakesNothing none) = only_created (action_of call) made none
closing_shape s call step board made (MakesWindow creation shape makes is begun at h) =
    subst (λ a. HasShape a made) (sym (creates_it call creation makes))
    (subst (HasShape (Creates creation)) (sym is) (h.flavor, h.is_shape))

-- the parts are those that the entries brought, by the board's number of the window
pub closing_parts : (s : RankState) (call : Call) (step : Step) (board : BoardState) (face : Face)
    (made : Option Shape) →
    IsSound s → IsReady s call board face → Makes s call step board made →
    HasParts (shapes_in s.stage (rows_on board ++ next_row s.agent call step ∷ [])) s.agent.known.windows
    (action_of call)
    made
closing_parts s call step board face made sound ready (MakesNothing none) =
    only_parts (shapes_in s.stage (rows_on board ++ next_row s.agent call step ∷ [])) s.agent.known.windows
    (action_of call)
    made none
closing_parts s call step board face made sound ready (MakesWindow creation shape makes is begun at h) =
    subst (λ a. HasParts (shapes_in s.stage (rows_on board ++ next_row s.agent call step ∷ [])) s.agent.known.windows
    a made)
    (sym (creates_it call creation makes))
    (subst (HasParts (shapes_in s.stage (rows_on board ++ next_row s.agent call step ∷ [])) s.agent.known.windows
    (Creates creation)) (sym is)
    (subst (λ x. shape.parts ≡ shapes_in s.stage (rows_on board ++ next_row s.agent call x ∷ []) number)
    (sym at) parts))
  where
    number : ℕ
    number = next_number s.agent.known.windows.created creation.win

    same : window_of (rows_on board) (next_row s.agent call Leave) ≡ number
    same = leaves_next s.stage s.agent call creation (rows_on board) sound.numbers begun ready.here makes
        ready.board_is.rows

    parts : shape.parts ≡ shapes_in s.stage (rows_on board ++ next_row s.agent call Leave ∷ []) number
    parts =
        h.parts
        ∙ (ap (λ l. parts_of l board.ranks (acts (rows_on board)) (window_of (rows_on board)
        (next_row s.agent call Leave)))
        ready.board_is.layout
        ∙ (ap (λ n. parts_of s.stage.layout n (acts (rows_on board)) (window_of (rows_on board)
        (next_row s.agent call Leave)))
        ready.board_is.ranks
        ∙ (ap (parts_of s.stage.layout s.stage.script.ranks (acts (rows_on board))) same
        ∙ sym (parts_stay s.stage.layout s.stage.script.ranks (rows_on board)
        (next_row s.agent call Leave) number refl))))
