-- What an RMA access in a start epoch tells: the group of the epoch has its target, and is that of the last start of
-- its rank on the window, which is not yet completed.
use Rattle.std.proofs.Common.{◌≡◌, ℕ, suc, ◌⊎◌, inl, inr, Bool, true, false, cond, List, []}
use Rattle.std.proofs.Common.{◌∷◌, ◌++◌, length, take, drop, Option, Some, None, refl, ap, sym, ◌∙◌, subst}
use Rattle.std.specs.Prelude.{slice_get, is_some, if◌then◌else◌, ℤ}
use Rattle.std.specs.List.{count_by, flat_map}
use Rattle.std.specs.Option.{option_map_or}
use Rattle.std.proofs.lemmas.Bool.{not-false, false≢true}
use Rattle.std.proofs.lemmas.Grind.{flat_map-append}
use Rattle.std.proofs.lemmas.List.{append-nil}
use Rattle.list_laws.proofs.Each.{each_at}
use Rattle.list_laws.proofs.Members.{In, flat_map_in, map_in}
use Rattle.rma_types.specs.declared.accesses.Access.{Access}
use Rattle.rma_types.specs.declared.accesses.Step.TheVariants.{One}
use Rattle.rma_types.specs.declared.calls.Call.{Call}
use Rattle.rma_types.specs.declared.calls.Call.TheVariants.{Allocate, Create, Dynamic, Free, Attach, Detach, Fence}
use Rattle.rma_types.specs.declared.calls.Call.TheVariants.{Post, Start, Complete, WaitWin, TestWin, LockOne, Unlock}
use Rattle.rma_types.specs.declared.calls.Call.TheVariants.{LockAll as LockAllCall, UnlockAll, Flush, FlushAll}
use Rattle.rma_types.specs.declared.calls.Call.TheVariants.{FlushLocal, FlushLocalAll, Sync, Barrier, Put, Get, Acc}
use Rattle.rma_types.specs.declared.calls.Call.TheVariants.{GetAcc, Fop, Cas, Load, Store, WaitReq, TestReq}
use Rattle.rma_types.specs.declared.schedules.Delay.TheVariants.{Seeded}
use Rattle.rma_types.specs.declared.scripts.Script.{Script}
use Rattle.rma_types.proofs.ActionLaws.{moves_it}
use Rattle.rma_record.specs.declared.items.Item.{Item}
use Rattle.rma_record.specs.declared.items.Item.TheVariants.{Issue, Entry}
use Rattle.rma_record.specs.declared.runs.Run.{Run}
use Rattle.rank_rules.proofs.ClassLaws.{none_applies}
use Rattle.rank_rules.proofs.KnowledgeLaws.{epochs_allow}
use Rattle.board_rules.specs.Entries.{Row}
use Rattle.board_rules.specs.Posts.{group_of_start, is_complete}
use Rattle.rma_types.specs.declared.actions.Synchronisation.{Synchronisation}
use Rattle.rma_types.specs.declared.actions.Target.{Target}
use Rattle.rma_types.specs.declared.actions.Transfer.{Transfer}
use Rattle.rma_types.specs.declared.actions.Action.TheVariants.{Moves}
use Rattle.rma_types.specs.declared.actions.Target.TheVariants.{Own, Null, Named}
use Rattle.rma_types.specs.Actions.{target_of, synchronisation_in, transfer_of}
use Rattle.call_rules.specs.Ranks.{is_member, natural}
use Rattle.call_rules.specs.Transfers.{rank_reached}
use Rattle.call_rules.specs.WellFormed.{IsWellFormed, IsWrittenAction, IsWrittenCall}
use Rattle.lawful_runs.specs.Accesses.{transfer_at, issued_from}
use Rattle.lawful_runs.specs.CallItems.{other_items}
use Rattle.lawful_runs.specs.LawfulRun.{IsLawful, rank_in}
use Rattle.lawful_runs.specs.Logs.{log_of, calls_of}
use Rattle.lawful_runs.specs.Stages.{RankOfRun, known_at}
use Rattle.call_rules.specs.Pieces.{numbers_from}
use Rattle.lawful_runs.proofs.LogLaws.{calls_written}
use Rattle.order_rules.specs.CallSteps.{IssuedAccess, known_before, epoch_for, issued_access, accesses_of, accesses_in}
use Rattle.order_rules.specs.Roles.{role_of}
use Rattle.rank_rules.specs.Courses.{course_of_transfer, course_of_action, access_on}
use Rattle.rank_rules.specs.Epochs.{AccessEpoch, Idle, FenceUnused, FenceUsed, StartTo, LocksAt, LockAll, epochs_at}
use Rattle.rank_rules.specs.Epochs.{is_start_epoch, is_passive_at, may_move}
use Rattle.rank_rules.specs.EpochTests.{epoch_class, epoch_tests}
use Rattle.rank_rules.specs.Windows.{RankWindows}
use Rattle.read_laws.proofs.Begun.{rows_in, rows_untouched}
use Rattle.read_laws.proofs.Lessons.{one_row}
use Rattle.read_laws.proofs.Steps.{access_is}
use Rattle.read_laws.proofs.Touches.{issued_is}
use Rattle.step_laws.proofs.OwnTests.{HasIssue, allowed_has_access}
use Rattle.first_point_laws.specs.PointLaws.{is_rma}
use Rattle.first_point_laws.proofs.Finished.{finished_fits, known_untouched}
use Rattle.first_point_laws.proofs.Positions.{IsIssueAt, issue_at, split_get, untouched_split}
use Rattle.first_point_laws.proofs.Splits.{in_call, made, made_pushed}
use Rattle.first_point_laws.proofs.Ties.{group_open}

-- ---- transfers

other_target : (o : Option ℤ) → target_of o ≡ Own → ⊥
other_target None e = cc e
other_target (Some rank) e = cc e

reaches_other : (x t : Transfer) → (x.target ≡ Own → ⊥) → Some x ≡ Some t → t.target ≡ Own →
    is_rma (role_of t.kind) ≡ false
reaches_other x t other e own =
    let same : x ≡ t = cc e in absurd (other (ap (λ (y : Transfer). y.target) same ∙ own))

is_local : (x t : Transfer) → is_rma (role_of x.kind) ≡ false → Some x ≡ Some t → is_rma (role_of t.kind) ≡ false
is_local x t no_rma e =
    let same : x ≡ t = cc e in sym (ap (λ (y : Transfer). is_rma (role_of y.kind)) same) ∙ no_rma

-- a transfer of the rank's own memory is no RMA access
own_is_local : (call : Call) (t : Transfer) → transfer_of call ≡ Some t → t.target ≡ Own →
    is_rma (role_of t.kind) ≡ false
own_is_local (Allocate win bytes unit) t e own = absurd (cc e)
own_is_local (Create win base bytes unit) t e own = absurd (cc e)
own_is_local (Dynamic win) t e own = absurd (cc e)
own_is_local (Free win) t e own = absurd (cc e)
own_is_local (Attach win base bytes) t e own = absurd (cc e)
own_is_local (Detach win base) t e own = absurd (cc e)
own_is_local (Fence win asserts) t e own = absurd (cc e)
own_is_local (Post win group asserts) t e own = absurd (cc e)
own_is_local (Start win group asserts) t e own = absurd (cc e)
own_is_local (Complete win) t e own = absurd (cc e)
own_is_local (WaitWin win) t e own = absurd (cc e)
own_is_local (TestWin win) t e own = absurd (cc e)
own_is_local (LockOne win kind target asserts) t e own = absurd (cc e)
own_is_local (Unlock win target) t e own = absurd (cc e)
own_is_local (LockAllCall win asserts) t e own = absurd (cc e)
own_is_local (UnlockAll win) t e own = absurd (cc e)
own_is_local (Flush win target) t e own = absurd (cc e)
own_is_local (FlushAll win) t e own = absurd (cc e)
own_is_local (FlushLocal win target) t e own = absurd (cc e)
own_is_local (FlushLocalAll win) t e own = absurd (cc e)
own_is_local (Sync win) t e own = absurd (cc e)
own_is_local Barrier t e own = absurd (cc e)
own_is_local (Put req win target disp dtype values) t e own = reaches_other _ t (other_target target) e own
own_is_local (Get req win target disp dtype count) t e own = reaches_other _ t (other_target target) e own
own_is_local (Acc req win target disp dtype op values) t e own = reaches_other _ t (other_target target) e own
own_is_local (GetAcc req win target disp dtype op values) t e own = reaches_other _ t (other_target target) e own
own_is_local (Fop win target disp dtype op value) t e own = reaches_other _ t (other_target target) e own
own_is_local (Cas win target disp dtype compare new) t e own = reaches_other _ t (other_target target) e own
own_is_local (Load win disp dtype count) t e own = is_local _ t refl e
own_is_local (Store win disp dtype values) t e own = is_local _ t refl e
own_is_local (WaitReq req) t e own = absurd (cc e)
own_is_local (TestReq req) t e own = absurd (cc e)

null_no_issue : (known : RankWindows) (t : Transfer) → t.target ≡ Null → HasIssue (course_of_transfer known t) → ⊥
null_no_issue known t is h =
    subst (λ (x : Target). HasIssue (course_of_transfer known (record t { target = x }))) is h

-- in a start epoch a transfer reaches members of its group
reaches_member : (group : List ℕ) (t : Transfer) (rank : ℕ) → may_move (StartTo group) t ≡ true →
    (t.target ≡ Own → ⊥) → (t.target ≡ Null → ⊥) → is_member (rank_reached rank t.target) group ≡ true
reaches_member group t rank may own null = by_target t.target refl
  where
    by_request : (requested : Bool) (to : ℕ) →
        (if requested then is_passive_at (StartTo group) to else is_member to group) ≡ true →
        is_member to group ≡ true
    by_request true to h = absurd (cc h)
    by_request false to h = h

    by_target : (target : Target) → t.target ≡ target → is_member (rank_reached rank t.target) group ≡ true
    by_target Own is = absurd (own is)
    by_target Null is = absurd (null is)
    by_target (Named to) is =
        ap (λ (x : Target). is_member (rank_reached rank x) group) is
        ∙ by_request (is_some t.request) (natural to)
        (subst (λ (x : Target). may_move (StartTo group) (record t { target = x }) ≡ true) is may)

start_is : (access : AccessEpoch) → is_start_epoch access ≡ true → (group : List ℕ) × (access ≡ StartTo group)
start_is Idle h = absurd (cc h)
start_is FenceUnused h = absurd (cc h)
start_is FenceUsed h = absurd (cc h)
start_is (StartTo group) h = (group, refl)
start_is (LocksAt targets) h = absurd (cc h)
start_is LockAll h = absurd (cc h)

-- ---- accesses

-- the last start of the rank on the window, before the access, has the target in its group, and is not yet completed
pub record IsStarted (script : Script) (run : Run) (a : IssuedAccess) (rank : ℕ) : Type 0 where
  pub number : ℕ
  pub access : Access
  pub logged : slice_get (log_of run rank) a.id.index ≡ Some (Issue number access)
  pub group : List ℕ
  pub member : is_member a.issued.access.target group ≡ true
  pub ended : List (List ℕ)
  pub begun : flat_map group_of_start
      (made rank a.issued.access.window (rows_in script rank (take a.id.index (log_of run rank)))) ≡ ended
      ++ group ∷ []
  pub completed : count_by is_complete
      (made rank a.issued.access.window (rows_in script rank (take a.id.index (log_of run rank)))) ≡ length ended

module _ (script : Script) (run : Run) (formed : IsWellFormed script) (lawful : IsLawful script Seeded run) where
  epoch_is : {a : IssuedAccess} → In a (accesses_in script run) →
      a.epoch ≡ epoch_for (known_before script run a.id) (transfer_at (calls_of script a.id.rank) a.issued.number)
  epoch_is m =
      let rank = flat_map_in (accesses_of script run) (numbers_from 0 script.ranks) m in
      let one = map_in (issued_access script run rank.0)
      (issued_from (calls_of script rank.0) 0 (log_of run rank.0)) rank.2 in
      subst (λ (a : IssuedAccess). a.epoch ≡ epoch_for (known_before script run a.id)
      (transfer_at (calls_of script a.id.rank) a.issued.number)) one.2 refl

  module _ (a : IssuedAccess) (rank : ℕ) (rank_is : a.id.rank ≡ rank) (number : ℕ) (access : Access) (t : Transfer)
      (logged : slice_get (log_of run rank) a.id.index ≡ Some (Issue number access)) where
    abbrev here : RankOfRun
    here = rank_in script Seeded run rank

    abbrev front : List Item
    front = take a.id.index (log_of run rank)

    -- a look-up is no synchronisation
    quiet_look_up : (one : IsIssueAt here (other_items front) number access) (window : ℕ) →
        transfer_of one.call ≡ Some t →
        made rank window (rows_in script rank front) ≡ made rank window (rows_in script rank one.before)
    quiet_look_up one window moves =
        ap (made rank window) (rows_untouched script rank front ∙ ap (rows_in script rank) one.split)
        ∙ by_front one.front one.looked
      where
        none : in_call one.call ≡ []
        none = ap (λ a. option_map_or (λ s. s ∷ []) (synchronisation_in a) []) (moves_it one.call t moves)

        neither : (b : Bool) (l : List Synchronisation) → l ≡ [] → cond b l [] ≡ []
        neither true l e = e
        neither false l e = refl

        by_front : (f : List Item) → ((f ≡ []) ⊎ ((place : ℕ) × (f ≡ Entry number place One ∷ []))) →
            made rank window (rows_in script rank (one.before ++ f)) ≡ made rank window
            (rows_in script rank one.before)
        by_front f (inl is) = ap (λ l. made rank window (rows_in script rank l))
            (ap (λ l. one.before ++ l) is ∙ append-nil one.before)
        by_front f (inr (place, is)) =
            let row : Row = record { rank = rank; number = number; call = one.call; step = One } in
            ap (λ l. made rank window (rows_in script rank (one.before ++ l))) is
            ∙ ap (made rank window) (flat_map-append _ one.before (Entry number place One ∷ [])
            ∙ ap (λ l. rows_in script rank one.before ++ (l ++ []))
            (one_row script rank number place One one.call one.of_rank))
            ∙ made_pushed rank window (rows_in script rank one.before) row
            ∙ ap (λ l. made rank window (rows_in script rank one.before) ++ l) (neither _ (in_call one.call) none)
            ∙ append-nil (made rank window (rows_in script rank one.before))

    started_by : (one : IsIssueAt here (other_items front) number access) → transfer_of one.call ≡ Some t →
        access ≡ a.issued.access → is_rma (role_of a.issued.access.kind) ≡ true →
        is_start_epoch (epochs_at (known_at here one.before).epochs t.win).access ≡ true → IsStarted script run a rank
    started_by one moves same rma start =
        let known = known_at here one.before in
        let on = allowed_has_access known one.call t moves one.own in
        let access_same : access ≡ access_on known.windows t on.0 = cc (sym one.is ∙ on.2) in
        let both : a.issued.access ≡ access_on known.windows t on.0 = sym same ∙ access_same in
        let action = moves_it one.call t moves in
        let written = subst IsWrittenAction action
        (each_at IsWrittenCall (calls_of script rank) number one.call (calls_written script rank formed)
        one.of_rank) in
        let fits = finished_fits here formed t.win written.name number one.before one.finished in
        let live = fits.live on.0 on.1 in
        let group = start_is (epochs_at known.epochs t.win).access start in
        let tests = none_applies (epoch_tests known.windows.ranks known.epochs (Moves t))
        (subst (λ a. epoch_class known.windows.ranks known.epochs a ≡ None) action
        (epochs_allow known one.call one.own)) in
        let may = not-false (may_move (epochs_at known.epochs t.win).access t) tests.1.1.1.0 in
        let member = reaches_member group.0 t known.windows.rank
        (subst (λ x. may_move x t ≡ true) group.1 may)
        (λ own. false≢true (sym (own_is_local one.call t moves own)
        ∙ sym (ap (λ (x : Access). is_rma (role_of x.kind)) both) ∙ rma))
        (λ null. null_no_issue known.windows t null
        (subst (λ x. HasIssue (course_of_action known.windows x)) action one.issues)) in
        let window : a.issued.access.window ≡ on.0.number = ap (λ (x : Access). x.window) both in
        let made_same = ap (λ n. made rank n (rows_in script rank front)) window
        ∙ quiet_look_up one on.0.number moves in
        record {
          number = number;
          access = access;
          logged = logged;
          group = group.0;
          member = ap (λ (x : Access). is_member x.target group.0) both ∙ member;
          ended = live.tied.access.ended;
          begun = ap (flat_map group_of_start) made_same ∙ live.tied.access.begun
              ∙ ap (λ x. live.tied.access.ended ++ group_open x) group.1;
          completed = ap (count_by is_complete) made_same ∙ live.tied.access.completed;
        }

  pub started : (a : IssuedAccess) → In a (accesses_in script run) →
      is_rma (role_of a.issued.access.kind) ≡ true → is_start_epoch a.epoch ≡ true →
      IsStarted script run a a.id.rank
  started a m rma start =
      let access = access_is script run m in
      let issue = issued_is (calls_of script a.id.rank) a.issued.index access.item a.issued access.issued in
      let logged : slice_get (log_of run a.id.rank) a.id.index ≡ Some (Issue a.issued.number a.issued.access) =
      ap (slice_get (log_of run a.id.rank)) (sym access.index) ∙ access.logged ∙ ap Some issue.is in
      let here = rank_in script Seeded run a.id.rank in
      let front = take a.id.index (log_of run a.id.rank) in
      let back = drop (suc a.id.index) (log_of run a.id.rank) in
      let split = ap other_items (split_get (log_of run a.id.rank) a.id.index
      (Issue a.issued.number a.issued.access) logged)
      ∙ untouched_split front back (Issue a.issued.number a.issued.access) refl in
      let one = issue_at here (other_items (log_of run a.id.rank)) (other_items front) (other_items back)
      a.issued.number
      a.issued.access (lawful.logs a.id.rank access.within).calls split in
      let moves : transfer_of one.call ≡ Some issue.t =
      sym (ap (λ o. option_map_or transfer_of o None) one.of_rank) ∙ issue.moves in
      let known : known_before script run a.id ≡ known_at here one.before = known_untouched here front ∙ one.same in
      let epoch : a.epoch ≡ (epochs_at (known_at here one.before).epochs issue.t.win).access =
      epoch_is m ∙ ap (epoch_for (known_before script run a.id)) issue.moves
      ∙ ap (λ k. (epochs_at k.epochs issue.t.win).access) known in
      started_by a a.id.rank refl a.issued.number a.issued.access issue.t logged one moves refl rma
      (sym (ap is_start_epoch epoch) ∙ start)
