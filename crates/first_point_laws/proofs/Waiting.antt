-- The completes and waits of a lawful run at their places: the window of each, and the epochs of its rank there.
use Rattle.std.proofs.Common.{◌≡◌, ℕ, zero, suc, ◌<◌, true, false, not, List, [], ◌∷◌, length, take}
use Rattle.std.proofs.Common.{drop, Option, Some, None, refl, ap, sym, ◌∙◌, subst, arith}
use Rattle.std.specs.Prelude.{◌==◌, slice_get, slice_index_or, is_some}
use Rattle.std.specs.Option.{option_map_or}
use Rattle.std.proofs.lemmas.Bool.{eqb-true, eq-eqb, not-false}
use Rattle.list_laws.proofs.Each.{each_at}
use Rattle.rma_types.specs.declared.accesses.Step.{Step}
use Rattle.rma_types.specs.declared.accesses.Step.TheVariants.{One}
use Rattle.rma_types.specs.declared.calls.Call.{Call}
use Rattle.rma_types.specs.declared.schedules.Delay.TheVariants.{Seeded}
use Rattle.rma_types.specs.declared.scripts.Script.{Script}
use Rattle.rma_types.proofs.ActionLaws.{is_synchronising}
use Rattle.rma_record.specs.declared.items.Item.{Item}
use Rattle.rma_record.specs.declared.runs.Run.{Run}
use Rattle.rank_rules.proofs.ClassLaws.{none_applies}
use Rattle.rank_rules.proofs.KnowledgeLaws.{epochs_allow}
use Rattle.board_rules.specs.Entries.{Row, window_of}
use Rattle.rma_types.specs.declared.actions.Synchronisation.{Synchronisation}
use Rattle.rma_types.specs.declared.actions.Action.TheVariants.{Synchronises}
use Rattle.rma_types.specs.Actions.{action_of, synchronisation_of, window_in_action, window_of_call}
use Rattle.call_rules.specs.WellFormed.{IsWellFormed, IsWrittenAction, IsWrittenCall}
use Rattle.lawful_runs.specs.CallItems.{other_items}
use Rattle.lawful_runs.specs.LawfulRun.{IsLawful, rank_in}
use Rattle.lawful_runs.specs.Logs.{log_of, calls_of}
use Rattle.lawful_runs.specs.Stages.{RankOfRun, known_at}
use Rattle.lawful_runs.proofs.LogLaws.{calls_written}
use Rattle.order_rules.specs.CallSteps.{CallStep, known_before, step_by, is_numbered, is_step_on}
use Rattle.rank_rules.specs.Epochs.{epochs_at, may_synchronise}
use Rattle.rank_rules.specs.EpochTests.{epoch_class, epoch_tests}
use Rattle.rank_rules.specs.Knowledge.{Knowledge, own_class}
use Rattle.rank_rules.specs.Windows.{Window, window_of_name}
use Rattle.rank_rules.specs.WindowTests.{window_class, window_tests}
use Rattle.read_laws.proofs.Begun.{rows_in, rows_untouched}
use Rattle.read_laws.proofs.Leaves.{step_untouched}
use Rattle.read_laws.proofs.Steps.{IsStep}
use Rattle.step_laws.proofs.OwnTests.{windows_allow}
use Rattle.first_point_laws.proofs.Finished.{finished_fits, known_untouched}
use Rattle.first_point_laws.proofs.Fits.{Fits, on_live}
use Rattle.first_point_laws.proofs.Owned.{IsOwned, owned_entry}
use Rattle.first_point_laws.proofs.Placed.{IsPlaced}
use Rattle.first_point_laws.proofs.Positions.{is_paired, one_entry_at, split_get, untouched_split}
use Rattle.first_point_laws.proofs.Splits.{own, made, made_by_own, window_own}
use Rattle.first_point_laws.proofs.Ties.{IsTied}

-- a rank with an item is one of the run
pub within_logs : {X : Type 0} (logs : List (List X)) (rank k : ℕ) (x : X) →
    slice_get (slice_index_or logs rank []) k ≡ Some x → rank < length logs
within_logs [] rank k x e = absurd (cc e)
within_logs (log ∷ logs) zero k x e = omega arith
within_logs (log ∷ logs) (suc rank) k x e = let rest = within_logs logs rank k x e in omega (arith, rest)

abbrev pub one_row : ℕ → ℕ → Call → Row
one_row rank number call = record { rank = rank; number = number; call = call; step = One }

-- a complete or a wait at its place, on the live window of its name
pub record IsSynchronised (script : Script) (run : Run) (rank index : ℕ) (call : Call) (s : Synchronisation) : Type 0
  where
    pub number : ℕ
    pub earlier : List Row
    pub later : List Row
    pub placed : IsPlaced script run earlier (one_row rank number call) later (record { rank = rank; index = index })
    pub owned : own rank earlier ≡ rows_in script rank (take index (log_of run rank))
    pub win : ℕ
    pub named : window_of_call call ≡ Some win
    pub live : Window
    pub known : window_of_name (known_before script run (record { rank = rank; index = index })).windows win ≡ Some live
    pub at : window_of earlier (one_row rank number call) ≡ live.number
    pub tied : IsTied (epochs_at (known_before script run (record { rank = rank; index = index })).epochs win)
        (made rank live.number earlier)
    pub may : may_synchronise (epochs_at (known_before script run (record { rank = rank; index = index })).epochs win) s
        ≡ true

live_of : (o : Option Window) → not (is_some o) ≡ false → (w : Window) × (o ≡ Some w)
live_of None h = absurd (cc h)
live_of (Some w) h = (w, refl)

module _ (script : Script) (run : Run) (formed : IsWellFormed script) (lawful : IsLawful script Seeded run) where
  module _ (rank index number : ℕ) (call : Call) (s : Synchronisation) (within : rank < script.ranks)
      (of : slice_get (calls_of script rank) number ≡ Some call) (sync : synchronisation_of call ≡ Some s) where
    abbrev here : RankOfRun
    here = rank_in script Seeded run rank

    abbrev front : List Item
    front = take index (log_of run rank)

    -- what is told of the entry, given what its rank knows and has done
    placed_on : (win : ℕ) → action_of call ≡ Synchronises win s → (known : Knowledge) →
        known_before script run (record { rank = rank; index = index }) ≡ known →
        own_class known call ≡ None → (o : IsOwned script run rank index number call) →
        Fits rank win known (own rank o.earlier) → IsSynchronised script run rank index call s
    placed_on win is known same allowed o fits =
        let windows = subst (λ a. window_class known.windows a ≡ None) is (windows_allow known call allowed) in
        let epochs = subst (λ a. epoch_class known.windows.ranks known.epochs a ≡ None) is
        (epochs_allow known call allowed) in
        let live = live_of (window_of_name known.windows win)
        (none_applies (window_tests known.windows (Synchronises win s)) windows).0 in
        let may = not-false (may_synchronise (epochs_at known.epochs win) s)
        (none_applies (epoch_tests known.windows.ranks known.epochs (Synchronises win s)) epochs).1.1.0 in
        let one = fits.live live.0 live.1 in
        let back = sym same in
        record {
          number = number;
          earlier = o.earlier;
          later = o.later;
          placed = o.placed;
          owned = o.owned;
          win = win;
          named = ap window_in_action is;
          live = live.0;
          known = subst (λ k. window_of_name k.windows win ≡ Some live.0) back live.1;
          at = sym (window_own rank o.earlier (one_row rank number call) refl)
              ∙ on_live rank win known (own rank o.earlier) (one_row rank number call) s live.0
              (record {
                rank_is = refl;
                begins_none = refl;
                named = ap window_in_action is;
                call_is = sync;
              }) one;
          tied = subst (λ k. IsTied (epochs_at k.epochs win) (made rank live.0.number o.earlier)) back
              (subst (IsTied (epochs_at known.epochs win)) (made_by_own rank live.0.number [] o.earlier) one.tied);
          may = subst (λ k. may_synchronise (epochs_at k.epochs win) s ≡ true) back may;
        }

    pub synchronised_at : (item : Item) (step : Step) → slice_get (log_of run rank) index ≡ Some item →
        step_by item ≡ Some (number, step) → is_paired s ≡ true →
        IsSynchronised script run rank index call s
    synchronised_at item step logged step_is kind =
        let split = split_get (log_of run rank) index item logged in
        let plain = ap other_items split
        ∙ untouched_split front (drop (suc index) (log_of run rank)) item (step_untouched item number step step_is) in
        let one = one_entry_at here (other_items (log_of run rank)) (other_items front)
        (other_items (drop (suc index) (log_of run rank))) item number step call s (lawful.logs rank within).calls plain
        step_is of sync kind in
        let is = is_synchronising (action_of call) s sync in
        let small : is.0 < 32 = (subst IsWrittenAction is.1
        (each_at IsWrittenCall (calls_of script rank) number call (calls_written script rank formed) of)).0 in
        let owned = owned_entry script Seeded run lawful rank index number one.place call within
        (logged ∙ ap Some one.is) of in
        placed_on is.0 is.1 (known_at here (other_items front)) (known_untouched here front) one.own owned
        (subst (Fits rank is.0 (known_at here (other_items front)))
        (sym (owned.owned ∙ rows_untouched script rank front))
        (finished_fits here formed is.0 small number (other_items front) one.finished))

  -- a step of a call
  pub synchronised_step : (x : CallStep) (s : Synchronisation) → IsStep script run x →
      synchronisation_of x.call ≡ Some s → is_paired s ≡ true →
      IsSynchronised script run x.id.rank x.id.index x.call s
  synchronised_step x s is sync kind =
      let within = within_logs run.logs x.id.rank x.id.index is.item is.logged in
      synchronised_at x.id.rank x.id.index is.number x.call s (omega (arith, within, lawful.ranks)) is.call_is sync
      is.item x.step is.logged is.step_is kind

  -- it is on the window of a number where its window has that number
  pub on_number : (x : CallStep) (s : Synchronisation) (n : ℕ) → IsStep script run x →
      (one : IsSynchronised script run x.id.rank x.id.index x.call s) → is_step_on n x ≡ true → one.live.number ≡ n
  on_number x s n is one on =
      let numbered : is_numbered x.known n one.win ≡ true =
      sym (ap (λ o. option_map_or (is_numbered x.known n) o false) one.named) ∙ on in
      let found : (one.live.number == n) ≡ true =
      sym (ap (λ k. option_map_or (λ (w : Window). w.number == n) (window_of_name k.windows one.win) false) is.known_is
      ∙ ap (λ o. option_map_or (λ (w : Window). w.number == n) o false) one.known) ∙ numbered in
      eqb-true one.live.number n found

  pub number_on : (x : CallStep) (s : Synchronisation) (n : ℕ) → IsStep script run x →
      (one : IsSynchronised script run x.id.rank x.id.index x.call s) → one.live.number ≡ n → is_step_on n x ≡ true
  number_on x s n is one same =
      ap (λ o. option_map_or (is_numbered x.known n) o false) one.named
      ∙ ap (λ k. option_map_or (λ (w : Window). w.number == n) (window_of_name k.windows one.win) false) is.known_is
      ∙ ap (λ o. option_map_or (λ (w : Window). w.number == n) o false) one.known
      ∙ eq-eqb one.live.number n same
