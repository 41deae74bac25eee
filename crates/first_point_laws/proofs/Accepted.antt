-- An accepted call keeps what a rank knows of a window in step with what its entries have done.
use Rattle.std.proofs.Common.{◌≡◌, ℕ, ◌+◌, ◌<◌, inl, inr, true, false, cond, not, List, [], ◌∷◌, ◌++◌, length}
use Rattle.std.proofs.Common.{Option, Some, None, refl, ap, sym, ◌∙◌, subst, arith, append_assoc}
use Rattle.std.proofs.Common.{get_or-set_same, get_or-set_other}
use Rattle.std.specs.Prelude.{◌==◌, ◌&&◌, is_some, slice_set}
use Rattle.std.specs.List.{count_by, filter, find, AllByRecursion}
use Rattle.std.specs.Option.{option_map_or}
use Rattle.std.proofs.lemmas.Bool.{cases_eq, and_left, and_right, and_from, eqb-true, eq-eqb}
use Rattle.std.proofs.lemmas.Bool.{ne_eqb, not-false}
use Rattle.std.proofs.lemmas.List.{length-set}
use Rattle.std.proofs.lemmas.List.Sums.{sum_by-cons, sum_by-append}
use Rattle.list_laws.proofs.Tests.{found_joined}
use Rattle.rma_types.specs.declared.accesses.Step.{Step}
use Rattle.rma_types.specs.declared.accesses.Step.TheVariants.{Arrive, Leave, One}
use Rattle.rma_types.specs.declared.calls.Call.{Call}
use Rattle.rma_types.specs.declared.scripts.Part.{Part}
use Rattle.rank_rules.proofs.ClassLaws.{none_applies}
use Rattle.board_rules.specs.Entries.{Row, begins_window, names_window, is_creation, is_arrive}
use Rattle.rma_types.specs.declared.actions.Action.{Action}
use Rattle.rma_types.specs.declared.actions.Action.TheVariants.{Creates, Frees, Attaches, Detaches, Synchronises, Meets}
use Rattle.rma_types.specs.declared.actions.Action.TheVariants.{Moves, EndsRequest}
use Rattle.rma_types.specs.declared.actions.Synchronisation.{Synchronisation}
use Rattle.rma_types.specs.declared.actions.Synchronisation.TheVariants.{Fences, Posts, Starts, Completes, Waits, Locks}
use Rattle.rma_types.specs.declared.actions.Synchronisation.TheVariants.{Unlocks, Flushes, Syncs}
use Rattle.rma_types.specs.declared.actions.Creation.{Creation}
use Rattle.rma_types.specs.declared.actions.Transfer.{Transfer}
use Rattle.rma_types.specs.Actions.{action_of, synchronisation_in, synchronisation_of, window_in_action, creation_in}
use Rattle.call_rules.specs.WellFormed.{IsWrittenAction}
use Rattle.rank_rules.specs.Courses.{Course, OneNull, OneIssue, LookUpAndIssue, OneFlush, OneRequest, ArriveAndLeave}
use Rattle.rank_rules.specs.Courses.{EntryOrTested, OneEntry, course_of_transfer, course_of_synchronisation}
use Rattle.rank_rules.specs.Courses.{course_of_action, course_of}
use Rattle.rank_rules.specs.Epochs.{Epochs, epochs_at, no_epochs, epochs_after, may_synchronise, after_synchronisation}
use Rattle.rank_rules.specs.Epochs.{after_transfer}
use Rattle.rank_rules.specs.EpochTests.{epoch_class, epoch_tests}
use Rattle.rank_rules.specs.Knowledge.{Knowledge, known_after_call}
use Rattle.rank_rules.specs.Requests.{requests_after}
use Rattle.rank_rules.specs.Windows.{Window, window_of_name, window_number, windows_after, next_number}
use Rattle.rank_rules.specs.WindowTests.{window_class, window_tests}
use Rattle.first_point_laws.proofs.Fits.{Fits, fits_kept, fits_made, fits_made_new, quiet_more, Keeps, IsQuiet}
use Rattle.first_point_laws.proofs.Fits.{IsMadeOn}
use Rattle.first_point_laws.proofs.Found.{found_last, found_kept, found_none}
use Rattle.first_point_laws.proofs.Ties.{IsTied, tied_first, tied_more, tied_after, tied_flush, tied_sync}
use Rattle.first_point_laws.proofs.Ties.{tied_transfer}

-- the entries of an accepted call
abbrev pub rows_by : Course → ℕ → ℕ → Call → List Row
rows_by OneNull rank number call = []
rows_by OneIssue rank number call = []
rows_by LookUpAndIssue rank number call = record { rank = rank; number = number; call = call; step = One } ∷ []
rows_by OneFlush rank number call = []
rows_by OneRequest rank number call = []
rows_by ArriveAndLeave rank number call =
    record { rank = rank; number = number; call = call; step = Arrive }
    ∷ record { rank = rank; number = number; call = call; step = Leave }
    ∷ []
rows_by EntryOrTested rank number call = record { rank = rank; number = number; call = call; step = One } ∷ []
rows_by OneEntry rank number call = record { rank = rank; number = number; call = call; step = One } ∷ []

rows_each : (P : Row → Type 0) (course : Course) (rank number : ℕ) (call : Call) →
    ((step : Step) → P (record { rank = rank; number = number; call = call; step = step })) →
    AllByRecursion P (rows_by course rank number call)
rows_each P OneNull rank number call all = tt
rows_each P OneIssue rank number call all = tt
rows_each P LookUpAndIssue rank number call all = (all One, tt)
rows_each P OneFlush rank number call all = tt
rows_each P OneRequest rank number call all = tt
rows_each P ArriveAndLeave rank number call all = (all Arrive, (all Leave, tt))
rows_each P EntryOrTested rank number call all = (all One, tt)
rows_each P OneEntry rank number call all = (all One, tt)

-- ---- the calls

module _ (shapes : ℕ → List Part) (rank win : ℕ) (small : win < 32) (known : Knowledge) (rows : List Row)
    (number : ℕ) (call : Call) (fits : Fits rank win known rows) where
  abbrev after_action : Action → Knowledge
  after_action action = record {
    windows = windows_after shapes known.windows action;
    epochs = epochs_after known.epochs action;
    requests = requests_after known.requests number action;
  }

  abbrev row_at : Step → Row
  row_at step = record { rank = rank; number = number; call = call; step = step }

  abbrev FitsAfter : Action → Type 0
  FitsAfter action = Fits rank win (after_action action)
      (rows ++ rows_by (course_of_action known.windows action) rank number call)

  -- the epochs on another window stay
  apart_epochs : (other : ℕ) (epochs : Epochs) → (other ≡ win → ⊥) →
      epochs_at (slice_set known.epochs other epochs) win ≡ epochs_at known.epochs win
  apart_epochs other epochs apart = get_or-set_other known.epochs other win epochs no_epochs (λ same. apart (sym same))

  own_epochs : (epochs : Epochs) → epochs_at (slice_set known.epochs win epochs) win ≡ epochs
  own_epochs epochs = get_or-set_same known.epochs win epochs no_epochs (omega (arith, small, fits.long))

  -- the entries of a call that makes no window and is no synchronisation
  quiet_rows : (action : Action) → action_of call ≡ action → creation_in action ≡ None →
      synchronisation_in action ≡ None → (course : Course) →
      AllByRecursion (IsQuiet rank win) (rows_by course rank number call)
  quiet_rows action is makes none course = rows_each (IsQuiet rank win) course rank number call (λ step. record {
    begins_none = and_left (rank == rank && begins_window (row_at step)) (names_window win call)
        (and_right (rank == rank) (begins_window (row_at step))
        (and_right (is_arrive step) (is_creation call)
        (ap (λ a. is_some (creation_in a)) is ∙ ap is_some makes)));
    apart = λ s e. absurd (cc (sym (ap synchronisation_in is ∙ none) ∙ e));
  })

  -- the entries of a call on another window
  apart_rows : (action : Action) (other : ℕ) → action_of call ≡ action → window_in_action action ≡ Some other →
      other < 32 → (other ≡ win → ⊥) → (course : Course) →
      AllByRecursion (IsQuiet rank win) (rows_by course rank number call)
  apart_rows action other is named low apart course =
      rows_each (IsQuiet rank win) course rank number call (λ step. record {
        begins_none = and_right (rank == rank && begins_window (row_at step)) (names_window win call)
            (ap (λ o. option_map_or (λ name. name == win) o false) (ap window_in_action is ∙ named)
            ∙ ne_eqb other win apart);
        apart = λ s e. (other, ap window_in_action is ∙ named, low, apart);
      })

  quiet : (action : Action) → AllByRecursion (IsQuiet rank win)
      (rows_by (course_of_action known.windows action) rank number call) →
      Keeps rank win known (after_action action) → FitsAfter action
  quiet action more keeps =
      quiet_more rank win small (after_action action) rows
      (rows_by (course_of_action known.windows action) rank number call) more
      (fits_kept rank win known (after_action action) rows keeps fits)

  -- ---- creations and frees

  abbrev made_window : Creation → Window
  made_window creation = record {
    win = creation.win;
    number = next_number known.windows.created creation.win;
    flavor = creation.flavor;
    parts = shapes (next_number known.windows.created creation.win);
  }

  created_more : (creation : Creation) → count_by (λ name. name == win) (known.windows.created ++ creation.win ∷ [])
      ≡ count_by (λ name. name == win) known.windows.created + cond (creation.win == win) 1 0
  created_more creation =
      let joined = sum_by-append (λ name. cond (name == win) 1 0) known.windows.created (creation.win ∷ []) in
      let one = sum_by-cons (λ name. cond (name == win) 1 0) creation.win [] in omega (arith, joined, one)

  creates_apart : (creation : Creation) → action_of call ≡ Creates creation → creation.win < 32 →
      (creation.win ≡ win → ⊥) → FitsAfter (Creates creation)
  creates_apart creation is low apart =
      quiet (Creates creation) (apart_rows (Creates creation) creation.win is refl low apart ArriveAndLeave) (record {
        long = length-set known.epochs creation.win no_epochs;
        created =
            let more = created_more creation in
            let none : ◌≡◌ {A = ℕ} (cond (creation.win == win) 1 0) 0 = ap (λ b. cond b 1 0)
            (ne_eqb creation.win win apart) in omega (arith, more, none);
        same = λ w e. sym (found_joined (λ (w : Window). w.win == win) known.windows.windows (made_window creation)
            (ne_eqb creation.win win apart)) ∙ e;
        tied = λ w e s tied. subst (λ one. IsTied one s) (sym (apart_epochs creation.win no_epochs apart)) tied;
      })

  creates_here : (creation : Creation) → action_of call ≡ Creates creation → creation.win ≡ win →
      window_of_name known.windows win ≡ None → FitsAfter (Creates creation)
  creates_here creation is same dead =
      subst (Fits rank win (after_action (Creates creation)))
      (append_assoc rows (row_at Arrive ∷ []) (row_at Leave ∷ []))
      (quiet_more rank win small (after_action (Creates creation)) (rows ++ row_at Arrive ∷ []) (row_at Leave ∷ [])
      (left, tt)
      (fits_made_new rank win small known (after_action (Creates creation)) rows (row_at Arrive) begins none
      (length-set known.epochs creation.win no_epochs)
      (let more = created_more creation in
      let one : ◌≡◌ {A = ℕ} (cond (creation.win == win) 1 0) 1 = ap (λ b. cond b 1 0)
      (eq-eqb creation.win win same) in omega (arith, more, one))
      number_is tied fits))
    where
      makes : is_creation call ≡ true
      makes = ap (λ a. is_some (creation_in a)) is

      names : names_window win call ≡ true
      names = ap (λ a. option_map_or (λ name. name == win) (window_in_action a) false) is
          ∙ eq-eqb creation.win win same

      none : synchronisation_of call ≡ None
      none = ap synchronisation_in is

      begins : ((rank == rank && (true && is_creation call)) && names_window win call) ≡ true
      begins = and_from (rank == rank && (true && is_creation call)) (names_window win call)
          (and_from (rank == rank) (true && is_creation call) (eq-eqb rank rank refl) makes) names

      left : IsQuiet rank win (row_at Leave)
      left = record {
        begins_none = and_left (rank == rank && false) (names_window win call) (and_right (rank == rank) false refl);
        apart = λ s e. absurd (cc (sym none ∙ e));
      }

      number_is : (w : Window) → find (λ (w : Window). w.win == win)
          (known.windows.windows ++ made_window creation ∷ []) ≡ Some w →
          w.number ≡ window_number (count_by (λ name. name == win) known.windows.created) win
      number_is w e =
          let is_last = found_last (λ (w : Window). w.win == win) known.windows.windows (made_window creation) dead
          (eq-eqb creation.win win same) in
          let it : made_window creation ≡ w = cc (sym is_last ∙ e) in
          sym (ap (λ (w : Window). w.number) it) ∙ ap (next_number known.windows.created) same

      tied : IsTied (epochs_at (slice_set known.epochs creation.win no_epochs) win) []
      tied = subst (λ e. IsTied e []) (sym (ap (λ n. epochs_at (slice_set known.epochs n no_epochs) win) same
          ∙ own_epochs no_epochs)) tied_first

  frees : (other : ℕ) → action_of call ≡ Frees other → FitsAfter (Frees other)
  frees other is = quiet (Frees other) (quiet_rows (Frees other) is refl refl ArriveAndLeave) (record {
    long = length-set known.epochs other no_epochs;
    created = refl;
    same = λ w e. sym (kept (gone w e)) ∙ e;
    tied = λ w e s tied. subst (λ one. IsTied one s) (sym (apart_epochs other no_epochs (gone w e))) tied;
  })
    where
      gone : (w : Window) →
          find (λ (w : Window). w.win == win) (filter (λ (w : Window). not (w.win == other)) known.windows.windows) ≡
          Some w → other ≡ win → ⊥
      gone w e same = cc (sym (ap (λ n. find (λ (w : Window). w.win == win)
          (filter (λ (w : Window). not (w.win == n)) known.windows.windows)) same
          ∙ found_none (λ (w : Window). w.win == win) known.windows.windows) ∙ e)

      kept : (other ≡ win → ⊥) →
          find (λ (w : Window). w.win == win) (filter (λ (w : Window). not (w.win == other)) known.windows.windows)
          ≡ find (λ (w : Window). w.win == win) known.windows.windows
      kept apart = found_kept (λ (w : Window). w.win == win) (λ (w : Window). not (w.win == other))
          known.windows.windows
          (λ w h. let at : w.win ≡ other = eqb-true w.win other (not-false (w.win == other) h) in
          ne_eqb w.win win (λ here. apart (sym at ∙ here)))

  -- ---- synchronisations

  module _ (s : Synchronisation) (w : Window) (is : action_of call ≡ Synchronises win s)
      (live : window_of_name known.windows win ≡ Some w)
      (may : may_synchronise (epochs_at known.epochs win) s ≡ true) where
    made_on : (step : Step) → IsMadeOn rank win (row_at step) s
    made_on step = record {
      rank_is = refl;
      begins_none = and_right (is_arrive step) (is_creation call) (ap (λ a. is_some (creation_in a)) is);
      named = ap window_in_action is;
      call_is = ap synchronisation_in is;
    }

    abbrev after : Knowledge
    after = after_action (Synchronises win s)

    abbrev epochs : Epochs
    epochs = after_synchronisation (epochs_at known.epochs win) s

    long : length after.epochs ≡ length known.epochs
    long = length-set known.epochs win epochs

    tied_here : (made : List Synchronisation) → IsTied (epochs_at known.epochs win) made →
        IsTied (epochs_at after.epochs win) (made ++ s ∷ [])
    tied_here made tied = subst (λ e. IsTied e (made ++ s ∷ [])) (sym (own_epochs epochs))
        (tied_after (epochs_at known.epochs win) made tied s may)

    one_entry : Fits rank win after (rows ++ row_at One ∷ [])
    one_entry = fits_made rank win known after rows (row_at One) s w (made_on One) live refl long tied_here fits

    two_entries : ((made : List Synchronisation) → IsTied (epochs_at known.epochs win) made →
        IsTied (epochs_at known.epochs win) (made ++ s ∷ [])) →
        Fits rank win after (rows ++ row_at Arrive ∷ row_at Leave ∷ [])
    two_entries more =
        subst (Fits rank win after) (append_assoc rows (row_at Arrive ∷ []) (row_at Leave ∷ []))
        (fits_made rank win known after (rows ++ row_at Arrive ∷ []) (row_at Leave) s w (made_on Leave) live refl long
        tied_here
        (fits_made rank win known known rows (row_at Arrive) s w (made_on Arrive) live refl refl more fits))

    no_entry : ((made : List Synchronisation) → IsTied (epochs_at known.epochs win) made → IsTied epochs made) →
        Fits rank win after (rows ++ [])
    no_entry same = quiet_more rank win small after rows [] tt (fits_kept rank win known after rows (record {
      long = long;
      created = refl;
      same = λ w e. e;
      tied = λ w e made tied. subst (λ one. IsTied one made) (sym (own_epochs epochs)) (same made tied);
    }) fits)

  synchronises : (s : Synchronisation) (w : Window) → action_of call ≡ Synchronises win s →
      window_of_name known.windows win ≡ Some w → may_synchronise (epochs_at known.epochs win) s ≡ true →
      FitsAfter (Synchronises win s)
  synchronises (Fences asserts) w is live may = two_entries (Fences asserts) w is live may
      (λ made tied. tied_more (epochs_at known.epochs win) made tied (Fences asserts) refl refl refl refl)
  synchronises (Posts group asserts) w is live may = one_entry (Posts group asserts) w is live may
  synchronises (Starts group asserts) w is live may = one_entry (Starts group asserts) w is live may
  synchronises Completes w is live may = one_entry Completes w is live may
  synchronises (Waits true) w is live may = one_entry (Waits true) w is live may
  synchronises (Waits false) w is live may = one_entry (Waits false) w is live may
  synchronises (Locks kind target asserts) w is live may = one_entry (Locks kind target asserts) w is live may
  synchronises (Unlocks target) w is live may = one_entry (Unlocks target) w is live may
  synchronises (Flushes target local) w is live may = no_entry (Flushes target local) w is live may
      (λ made tied. tied_flush (epochs_at known.epochs win) made tied target local)
  synchronises Syncs w is live may = no_entry Syncs w is live may
      (λ made tied. tied_sync (epochs_at known.epochs win) made tied)

  synchronises_apart : (other : ℕ) (s : Synchronisation) → action_of call ≡ Synchronises other s → other < 32 →
      (other ≡ win → ⊥) → FitsAfter (Synchronises other s)
  synchronises_apart other s is low apart = quiet (Synchronises other s)
      (apart_rows (Synchronises other s) other is refl low apart (course_of_synchronisation s)) (record {
        long = length-set known.epochs other (after_synchronisation (epochs_at known.epochs other) s);
        created = refl;
        same = λ w e. e;
        tied = λ w e made tied. subst (λ one. IsTied one made)
            (sym (apart_epochs other (after_synchronisation (epochs_at known.epochs other) s) apart)) tied;
      })

  moves : (t : Transfer) → action_of call ≡ Moves t → FitsAfter (Moves t)
  moves t is = quiet (Moves t) (quiet_rows (Moves t) is refl refl (course_of_transfer known.windows t)) (record {
    long = length-set known.epochs t.win used;
    created = refl;
    same = λ w e. e;
    tied = λ w e made tied. elim (cases_eq t.win win) [
      | inl same ↦ subst (λ one. IsTied one made)
          (sym (ap (λ n. epochs_at (slice_set known.epochs n used) win) same ∙ own_epochs used
          ∙ ap (λ n. (record (epochs_at known.epochs n) {
            access = after_transfer
                (epochs_at known.epochs n).access t;
          })) same)) (tied_transfer (epochs_at known.epochs win) made t tied)
      | inr apart ↦ subst (λ one. IsTied one made) (sym (apart_epochs t.win used apart)) tied
    ];
  })
    where
      used : Epochs
      used = record (epochs_at known.epochs t.win) { access = after_transfer (epochs_at known.epochs t.win).access t }

  -- ---- all calls

  live_window : (o : Option Window) → window_of_name known.windows win ≡ o → not (is_some o) ≡ false →
      (w : Window) × (window_of_name known.windows win ≡ Some w)
  live_window None e h = absurd (cc h)
  live_window (Some w) e h = (w, e)

  dead_window : (o : Option Window) → is_some o ≡ false → o ≡ None
  dead_window None h = refl
  dead_window (Some w) h = absurd (cc h)

  same_knowledge : Keeps rank win known known
  same_knowledge = record { long = refl; created = refl; same = λ w e. e; tied = λ w e s tied. tied }

  by_action : (action : Action) → action_of call ≡ action → IsWrittenAction action →
      window_class known.windows action ≡ None → epoch_class known.windows.ranks known.epochs action ≡ None →
      FitsAfter action
  by_action (Creates creation) is written windows tests = elim (cases_eq creation.win win) [
    | inl same ↦ creates_here creation is same
        (dead_window (window_of_name known.windows win)
        (subst (λ n. is_some (window_of_name known.windows n) ≡ false) same
        (none_applies (window_tests known.windows (Creates creation)) windows).0))
    | inr apart ↦ creates_apart creation is written.name apart
  ]
  by_action (Frees other) is written windows tests = frees other is
  by_action (Attaches other base bytes) is written windows tests = quiet (Attaches other base bytes)
      (quiet_rows (Attaches other base bytes) is refl refl OneEntry)
      (record { long = refl; created = refl; same = λ w e. e; tied = λ w e s tied. tied })
  by_action (Detaches other base) is written windows tests = quiet (Detaches other base)
      (quiet_rows (Detaches other base) is refl refl OneEntry)
      (record { long = refl; created = refl; same = λ w e. e; tied = λ w e s tied. tied })
  by_action (Synchronises other s) is written windows tests = elim (cases_eq other win) [
    | inl same ↦
        let passed = (none_applies (window_tests known.windows (Synchronises other s)) windows).0 in
        let w = live_window (window_of_name known.windows win) refl
        (subst (λ n. not (is_some (window_of_name known.windows n)) ≡ false) same passed) in
        let may = not-false (may_synchronise (epochs_at known.epochs other) s)
        (none_applies (epoch_tests known.windows.ranks known.epochs (Synchronises other s)) tests).1.1.0 in
        subst (λ n. FitsAfter (Synchronises n s)) (sym same)
        (synchronises s w.0 (is ∙ ap (λ n. Synchronises n s) same) w.1
        (subst (λ n. may_synchronise (epochs_at known.epochs n) s ≡ true) same may))
    | inr apart ↦ synchronises_apart other s is written.0 apart
  ]
  by_action Meets is written windows tests = quiet Meets (quiet_rows Meets is refl refl ArriveAndLeave)
      (record { long = refl; created = refl; same = λ w e. e; tied = λ w e s tied. tied })
  by_action (Moves t) is written windows tests = moves t is
  by_action (EndsRequest req) is written windows tests = quiet (EndsRequest req)
      (quiet_rows (EndsRequest req) is refl refl OneRequest)
      (record { long = refl; created = refl; same = λ w e. e; tied = λ w e s tied. tied })

  pub call_fits : IsWrittenAction (action_of call) → window_class known.windows (action_of call) ≡ None →
      epoch_class known.windows.ranks known.epochs (action_of call) ≡ None →
      Fits rank win (known_after_call shapes known number call)
      (rows ++ rows_by (course_of known.windows call) rank number call)
  call_fits written windows epochs = by_action (action_of call) refl written windows epochs
