-- A call that passed its rank's own tests may be asked of the board.
use Rattle.std.proofs.Common.{◌≡◌, ℕ, ◌+◌, ◌<◌, ◌≤◌, Bool, true, false, cond, List, Some, None, refl, sym, ◌∙◌, ap}
use Rattle.std.proofs.Common.{subst, arith}
use Rattle.std.specs.Prelude.{ℤ, pos, negsuc, int_lt, is_some}
use Rattle.std.proofs.lemmas.Bool.{ltb-false}
use Rattle.list_laws.proofs.Numbers.{further}
use Rattle.rma_types.specs.declared.accesses.Step.{Step}
use Rattle.rma_types.specs.declared.accesses.Step.TheVariants.{Arrive, Leave, One}
use Rattle.rma_types.specs.declared.calls.Call.{Call}
use Rattle.rma_types.specs.declared.calls.Call.TheVariants.{Allocate, Create, Dynamic, Free, Attach, Detach, Fence}
use Rattle.rma_types.specs.declared.calls.Call.TheVariants.{Post, Start, Complete, WaitWin, TestWin, LockOne, Unlock}
use Rattle.rma_types.specs.declared.calls.Call.TheVariants.{LockAll, UnlockAll, Flush, FlushAll, FlushLocal}
use Rattle.rma_types.specs.declared.calls.Call.TheVariants.{FlushLocalAll, Sync, Barrier, Put, Get, Acc, GetAcc, Fop}
use Rattle.rma_types.specs.declared.calls.Call.TheVariants.{Cas, Load, Store, WaitReq, TestReq}
use Rattle.rma_types.specs.declared.calls.Flavor.TheVariants.{Create as CreateFlavor}
use Rattle.rma_types.specs.declared.scripts.Script.{Script}
use Rattle.rank_rules.proofs.ClassLaws.{none_applies}
use Rattle.rank_rules.proofs.KnowledgeLaws.{epochs_allow}
use Rattle.board_rules.specs.Entries.{collective_in, collective_of}
use Rattle.rma_types.specs.declared.actions.Action.{Action}
use Rattle.rma_types.specs.declared.actions.Action.TheVariants.{Creates, Frees, Attaches, Detaches, Synchronises, Meets}
use Rattle.rma_types.specs.declared.actions.Action.TheVariants.{Moves, EndsRequest}
use Rattle.rma_types.specs.declared.actions.Synchronisation.{Synchronisation}
use Rattle.rma_types.specs.declared.actions.Synchronisation.TheVariants.{Fences, Posts, Starts, Completes, Waits, Locks}
use Rattle.rma_types.specs.declared.actions.Synchronisation.TheVariants.{Unlocks, Flushes, Syncs}
use Rattle.rma_types.specs.declared.actions.Target.{Target}
use Rattle.rma_types.specs.declared.actions.Transfer.{Transfer}
use Rattle.rma_types.specs.declared.actions.Target.TheVariants.{Own, Null, Named}
use Rattle.rma_types.specs.Actions.{action_of}
use Rattle.call_rules.specs.Layout.{layout}
use Rattle.call_rules.specs.Ranks.{natural}
use Rattle.call_rules.specs.WellFormed.{IsWellFormed}
use Rattle.lawful_runs.specs.Logs.{calls_of}
use Rattle.rank_rules.specs.Courses.{Course, OneNull, OneIssue, LookUpAndIssue, OneFlush, OneRequest, ArriveAndLeave}
use Rattle.rank_rules.specs.Courses.{EntryOrTested, OneEntry, course_of, course_of_action, course_of_synchronisation}
use Rattle.rank_rules.specs.Courses.{course_of_transfer}
use Rattle.rank_rules.specs.Epochs.{Epochs}
use Rattle.rank_rules.specs.EpochTests.{epoch_class, epoch_tests}
use Rattle.rank_rules.specs.Windows.{RankWindows}
use Rattle.rank_rules.specs.WindowTests.{window_class, window_tests}
use Rattle.std.specs.Prelude.{slice_get}
use Rattle.step_laws.proofs.Memory.{allocate_has_memory}
use Rattle.step_laws.proofs.OwnRoom.{attach_is_inside, creation_is_inside}
use Rattle.step_laws.proofs.OwnTests.{windows_allow}
use Rattle.step_runs.specs.BoardSteps.{next_row}
use Rattle.sync_board.specs.Boards.{BoardState, BringsInside, MayAsk, NamesRanks, bytes_at, is_step_of}
use Rattle.cell_face.specs.Faces.{Face}
use Rattle.rank_engine.specs.Entering.{IsClosing, IsOneEntry, IsOpening, IsReady}
use Rattle.rank_engine.specs.RankStates.{RankState}
use Rattle.rank_engine.specs.Sound.{IsSound}

-- ---- ranks

names_ranks : (ranks : ℕ) (epochs : List Epochs) (a : Action) → epoch_class ranks epochs a ≡ None → NamesRanks ranks a
names_ranks ranks epochs (Creates creation) e = tt
names_ranks ranks epochs (Frees win) e = tt
names_ranks ranks epochs (Attaches win base bytes) e = tt
names_ranks ranks epochs (Detaches win base) e = tt
names_ranks ranks epochs (Synchronises win s) e = (none_applies (epoch_tests ranks epochs (Synchronises win s)) e).0
names_ranks ranks epochs Meets e = tt
names_ranks ranks epochs (Moves t) e = (none_applies (epoch_tests ranks epochs (Moves t)) e).1.1.0
names_ranks ranks epochs (EndsRequest req) e = tt

-- ---- ranges

some_bytes : (bytes : ℤ) → int_lt bytes (pos 1) ≡ false → 1 ≤ natural bytes
some_bytes (pos n) e = let above = ltb-false n 1 e in omega arith
some_bytes (negsuc n) e = absurd (cc e)

attached_some : (known : RankWindows) (win : ℕ) (base bytes : ℤ) → window_class known (Attaches win base bytes) ≡ None →
    1 ≤ natural bytes
attached_some known win base bytes e =
    some_bytes bytes (none_applies (window_tests known (Attaches win base bytes)) e).1.1.0

brings_inside : (script : Script) (rank number : ℕ) (call : Call) (known : RankWindows) → IsWellFormed script →
    rank < script.ranks → slice_get (calls_of script rank) number ≡ Some call →
    known.space ≤ bytes_at (layout script) rank → window_class known (action_of call) ≡ None →
    BringsInside (layout script) rank number (action_of call)
brings_inside script rank number (Allocate win bytes unit) known formed inside here space e =
    allocate_has_memory script rank number (Allocate win bytes unit) _
    (subst (λ n. rank < n) (sym formed.spaces) inside) (subst (λ n. rank < n) (sym formed.lists) inside) here refl refl
brings_inside script rank number (Create win base bytes unit) known formed inside here space e =
    further (natural base + natural bytes) known.space (bytes_at (layout script) rank)
    (creation_is_inside known (record { win = win; flavor = CreateFlavor; base = base; bytes = bytes; unit = unit }) e
    refl) space
brings_inside script rank number (Dynamic win) known formed inside here space e = omega arith
brings_inside script rank number (Attach win base bytes) known formed inside here space e = (
  attached_some known win base bytes e,
  further (natural base + natural bytes) known.space (bytes_at (layout script) rank)
      (attach_is_inside known win base bytes e) space,
)
brings_inside script rank number (Free win) known formed inside here space e = tt
brings_inside script rank number (Detach win base) known formed inside here space e = tt
brings_inside script rank number (Fence win asserts) known formed inside here space e = tt
brings_inside script rank number (Post win group asserts) known formed inside here space e = tt
brings_inside script rank number (Start win group asserts) known formed inside here space e = tt
brings_inside script rank number (Complete win) known formed inside here space e = tt
brings_inside script rank number (WaitWin win) known formed inside here space e = tt
brings_inside script rank number (TestWin win) known formed inside here space e = tt
brings_inside script rank number (LockOne win kind target asserts) known formed inside here space e = tt
brings_inside script rank number (Unlock win target) known formed inside here space e = tt
brings_inside script rank number (LockAll win asserts) known formed inside here space e = tt
brings_inside script rank number (UnlockAll win) known formed inside here space e = tt
brings_inside script rank number (Flush win target) known formed inside here space e = tt
brings_inside script rank number (FlushAll win) known formed inside here space e = tt
brings_inside script rank number (FlushLocal win target) known formed inside here space e = tt
brings_inside script rank number (FlushLocalAll win) known formed inside here space e = tt
brings_inside script rank number (Sync win) known formed inside here space e = tt
brings_inside script rank number Barrier known formed inside here space e = tt
brings_inside script rank number (Put req win target disp dtype values) known formed inside here space e = tt
brings_inside script rank number (Get req win target disp dtype count) known formed inside here space e = tt
brings_inside script rank number (Acc req win target disp dtype op values) known formed inside here space e = tt
brings_inside script rank number (GetAcc req win target disp dtype op values) known formed inside here space e = tt
brings_inside script rank number (Fop win target disp dtype op value) known formed inside here space e = tt
brings_inside script rank number (Cas win target disp dtype compare new) known formed inside here space e = tt
brings_inside script rank number (Load win disp dtype count) known formed inside here space e = tt
brings_inside script rank number (Store win disp dtype values) known formed inside here space e = tt
brings_inside script rank number (WaitReq req) known formed inside here space e = tt
brings_inside script rank number (TestReq req) known formed inside here space e = tt

-- ---- steps

-- a call with these items has one entry at most
abbrev IsSingle : Course → Type 0
IsSingle OneNull = ⊥
IsSingle OneIssue = ⊥
IsSingle LookUpAndIssue = Unit {0}
IsSingle OneFlush = ⊥
IsSingle OneRequest = ⊥
IsSingle ArriveAndLeave = ⊥
IsSingle EntryOrTested = Unit {0}
IsSingle OneEntry = Unit {0}

single_entry : (course : Course) → IsOneEntry course → IsSingle course
single_entry OneNull h = absurd h
single_entry OneIssue h = absurd h
single_entry LookUpAndIssue h = absurd h
single_entry OneFlush h = absurd h
single_entry OneRequest h = absurd h
single_entry ArriveAndLeave h = absurd h
single_entry EntryOrTested h = tt
single_entry OneEntry h = tt

no_wait : (tests : Bool) → cond tests EntryOrTested OneEntry ≡ ArriveAndLeave → ⊥
no_wait true e = cc e
no_wait false e = cc e

synchronised_collective : (known : RankWindows) (win : ℕ) (s : Synchronisation) →
    course_of_synchronisation s ≡ ArriveAndLeave →
    is_some (collective_in (Synchronises win s)) ≡ true
synchronised_collective known win (Fences asserts) e = refl
synchronised_collective known win (Posts group asserts) e = absurd (cc e)
synchronised_collective known win (Starts group asserts) e = absurd (cc e)
synchronised_collective known win Completes e = absurd (cc e)
synchronised_collective known win (Waits tests) e = absurd (no_wait tests e)
synchronised_collective known win (Locks kind target asserts) e = absurd (cc e)
synchronised_collective known win (Unlocks target) e = absurd (cc e)
synchronised_collective known win (Flushes target local) e = absurd (cc e)
synchronised_collective known win Syncs e = absurd (cc e)

moves_alone : (known : RankWindows) (t : Transfer) → course_of_transfer known t ≡ ArriveAndLeave → ⊥
moves_alone known t e = by_target t.target refl
  where
    named : (b : Bool) → cond b LookUpAndIssue OneIssue ≡ ArriveAndLeave → ⊥
    named true k = cc k
    named false k = cc k

    at_target : (target : Target) → t.target ≡ target →
        course_of_transfer known (record t { target = target }) ≡ ArriveAndLeave
    at_target target is =
        subst (λ (x : Target). course_of_transfer known (record t { target = x }) ≡ ArriveAndLeave) is e

    by_target : (target : Target) → t.target ≡ target → ⊥
    by_target Own is = absurd (cc (at_target Own is))
    by_target Null is = absurd (cc (at_target Null is))
    by_target (Named rank) is = named _ (at_target (Named rank) is)

collective_action : (known : RankWindows) (a : Action) → course_of_action known a ≡ ArriveAndLeave →
    is_some (collective_in a) ≡ true
collective_action known (Creates creation) e = refl
collective_action known (Frees win) e = refl
collective_action known (Attaches win base bytes) e = absurd (cc e)
collective_action known (Detaches win base) e = absurd (cc e)
collective_action known (Synchronises win s) e = synchronised_collective known win s e
collective_action known Meets e = refl
collective_action known (Moves t) e = absurd (moves_alone known t e)
collective_action known (EndsRequest req) e = absurd (cc e)

pub collective_call : (known : RankWindows) (call : Call) → course_of known call ≡ ArriveAndLeave →
    is_some (collective_of call) ≡ true
collective_call known call e = collective_action known (action_of call) e

synchronised_single : (known : RankWindows) (win : ℕ) (s : Synchronisation) → IsSingle (course_of_synchronisation s) →
    is_some (collective_in (Synchronises win s)) ≡ false
synchronised_single known win (Fences asserts) h = absurd h
synchronised_single known win (Posts group asserts) h = refl
synchronised_single known win (Starts group asserts) h = refl
synchronised_single known win Completes h = refl
synchronised_single known win (Waits tests) h = refl
synchronised_single known win (Locks kind target asserts) h = refl
synchronised_single known win (Unlocks target) h = refl
synchronised_single known win (Flushes target local) h = refl
synchronised_single known win Syncs h = refl

single_action : (known : RankWindows) (a : Action) → IsSingle (course_of_action known a) →
    is_some (collective_in a) ≡ false
single_action known (Creates creation) h = absurd h
single_action known (Frees win) h = absurd h
single_action known (Attaches win base bytes) h = refl
single_action known (Detaches win base) h = refl
single_action known (Synchronises win s) h = synchronised_single known win s h
single_action known Meets h = absurd h
single_action known (Moves t) h = refl
single_action known (EndsRequest req) h = absurd h

not_collective : (call : Call) → is_some (collective_of call) ≡ false → is_step_of One call ≡ true
not_collective call e = ap (λ b. cond b false true) e

pub opening_step : (known : RankWindows) (step : Step) (call : Call) → IsOpening step (course_of known call) →
    is_step_of step call ≡ true
opening_step known Arrive call h = collective_call known call h
opening_step known Leave call h = absurd h
opening_step known One call h =
    not_collective call (single_action known (action_of call) (subst IsSingle (sym h) tt))

pub closing_step : (known : RankWindows) (step : Step) (begun : Bool) (call : Call) →
    IsClosing step begun (course_of known call) → is_step_of step call ≡ true
closing_step known Arrive begun call h = absurd h
closing_step known Leave begun call h = collective_call known call h.1
closing_step known One begun call h =
    not_collective call (single_action known (action_of call) (single_entry (course_of known call) h.1))

-- ---- what may be asked

pub may_ask : (s : RankState) (call : Call) (step : Step) (board : BoardState) (face : Face) → IsSound s →
    IsReady s call board face → is_step_of step call ≡ true →
    MayAsk board.ranks board.layout (next_row s.agent call step)
may_ask s call step board face sound ready step_is = record {
  entry = record {
    below = subst (λ n. s.agent.rank < n) (sym ready.board_is.ranks) sound.rank;
    written = ready.written;
    names = names_ranks board.ranks s.agent.known.epochs (action_of call)
        (subst (λ n. epoch_class n s.agent.known.epochs (action_of call) ≡ None)
        (sound.windows.ranks ∙ sym ready.board_is.ranks) (epochs_allow s.agent.known call ready.own));
    fits = step_is;
  };
  inside = subst (λ l. BringsInside l s.agent.rank s.agent.at (action_of call))
      (sym (ready.board_is.layout ∙ sound.layout))
      (brings_inside s.stage.script s.agent.rank s.agent.at call s.agent.known.windows sound.formed sound.rank
      ready.here
      (subst (λ l. s.agent.known.windows.space ≤ bytes_at l s.agent.rank) sound.layout sound.windows.space)
      (windows_allow s.agent.known call ready.own));
}
