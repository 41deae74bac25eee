-- What a rank knows of the window of a name, and what its entries have done: the number of the window, and its epochs.
use Rattle.std.proofs.Common.{◌≡◌, ℕ, suc, ◌+◌, ◌-◌, ◌<◌, ◌≤◌, Bool, true, false, cond, List, []}
use Rattle.std.proofs.Common.{◌∷◌, ◌++◌, length, Option, Some, None, refl, ap, sym, ◌∙◌, subst, arith, append_assoc}
use Rattle.std.specs.Prelude.{◌==◌, ◌&&◌, if◌then◌else◌}
use Rattle.std.specs.List.{count_by, AllByRecursion}
use Rattle.std.specs.Option.{option_map_or}
use Rattle.std.proofs.lemmas.Bool.{and_parts, and_left, and_right, and_from, eqb-true, eq-eqb}
use Rattle.std.proofs.lemmas.Bool.{ne_eqb}
use Rattle.std.proofs.lemmas.List.{append-nil, length-replicate}
use Rattle.std.proofs.lemmas.List.Sums.{sum_by-cons, sum_by-append}
use Rattle.board_rules.specs.Entries.{Row, window_of, begins_window, names_window, creations}
use Rattle.rma_types.specs.declared.actions.Synchronisation.{Synchronisation}
use Rattle.rma_types.specs.Actions.{synchronisation_of, window_of_call}
use Rattle.rank_rules.specs.Epochs.{epochs_at, no_epochs}
use Rattle.rank_rules.specs.Knowledge.{Knowledge, nothing_known}
use Rattle.rank_rules.specs.Windows.{Window, window_of_name, window_number}
use Rattle.first_point_laws.proofs.Splits.{in_call, in_row, made, made_pushed}
use Rattle.first_point_laws.proofs.Ties.{IsTied}

-- ---- what fits

module _ (rank win : ℕ) where
  -- the live window of the name: its number counts the creations, and its epochs are tied to its synchronisations
  pub record IsLive (known : Knowledge) (rows : List Row) (w : Window) : Type 0 where
    pub round : ℕ
    pub begun : creations rows rank win ≡ suc round
    pub number : w.number ≡ window_number round win
    pub tied : IsTied (epochs_at known.epochs win) (made rank w.number rows)

  -- what the rank knows of the windows of the name fits what its entries have done
  pub record Fits (known : Knowledge) (rows : List Row) : Type 0 where
    pub long : length known.epochs ≡ 32
    pub created : count_by (λ name. name == win) known.windows.created ≡ creations rows rank win
    pub fresh : (round : ℕ) → creations rows rank win ≤ round → made rank (window_number round win) rows ≡ []
    pub live : (w : Window) → window_of_name known.windows win ≡ Some w → IsLive known rows w

  pub fits_first : (ranks space : ℕ) → Fits (nothing_known rank ranks space) []
  fits_first ranks space = record {
    long = length-replicate 32 no_epochs;
    created = refl;
    fresh = λ round low. refl;
    live = λ w e. absurd (cc e);
  }

  -- ---- one entry more

  abbrev begins : Row → Bool
  begins row = row.rank == rank && begins_window row && names_window win row.call

  creations_pushed : (rows : List Row) (row : Row) →
      creations (rows ++ row ∷ []) rank win ≡ creations rows rank win + cond (begins row) 1 0
  creations_pushed rows row =
      let joined = sum_by-append (λ r. cond (begins r) 1 0) rows (row ∷ []) in
      let one = sum_by-cons (λ r. cond (begins r) 1 0) row [] in omega (arith, joined, one)

  begun_no : (rows : List Row) (row : Row) → begins row ≡ false →
      creations (rows ++ row ∷ []) rank win ≡ creations rows rank win
  begun_no rows row e =
      let pushed = creations_pushed rows row in
      let none : ◌≡◌ {A = ℕ} (cond (begins row) 1 0) 0 = ap (λ b. cond b 1 0) e in omega (arith, pushed, none)

  begun_one : (rows : List Row) (row : Row) → begins row ≡ true →
      creations (rows ++ row ∷ []) rank win ≡ creations rows rank win + 1
  begun_one rows row e =
      let pushed = creations_pushed rows row in
      let one : ◌≡◌ {A = ℕ} (cond (begins row) 1 0) 1 = ap (λ b. cond b 1 0) e in omega (arith, pushed, one)

  -- the entry is no synchronisation on a window of the name
  abbrev pub IsApart : Row → Type 0
  IsApart row = (s : Synchronisation) → synchronisation_of row.call ≡ Some s →
      (other : ℕ) × (window_of_call row.call ≡ Some other) × (other < 32) × (other ≡ win → ⊥)

  -- nor does it begin to create one
  pub record IsQuiet (row : Row) : Type 0 where
    pub begins_none : begins row ≡ false
    pub apart : IsApart row

  other_number : (a b x y : ℕ) → x < 32 → y < 32 → window_number a x ≡ window_number b y → x ≡ y
  other_number a b x y low high e = omega (arith, low, high, e)

  apart_made : win < 32 → (rows : List Row) (row : Row) (round : ℕ) → IsApart row →
      in_row rank (window_number round win) rows row ≡ []
  apart_made small rows row round apart =
      by_test (row.rank == rank && window_of rows row == window_number round win) refl
      (synchronisation_of row.call) refl
    where
      by_test : (b : Bool) → (row.rank == rank && window_of rows row == window_number round win) ≡ b →
          (o : Option Synchronisation) → synchronisation_of row.call ≡ o →
          (if b then option_map_or (λ s. s ∷ []) o [] else []) ≡ []
      by_test false is o of = refl
      by_test true is None of = refl
      by_test true is (Some s) of =
          let one = apart s of in
          let parts = and_parts (row.rank == rank) (window_of rows row == window_number round win) is in
          let number : window_number (cond (begins_window row) (creations rows row.rank one.0)
          (creations rows row.rank one.0 - 1)) one.0 ≡ window_number round win =
          sym (ap (λ o. option_map_or (λ name. window_number (cond (begins_window row)
          (creations rows row.rank name) (creations rows row.rank name - 1)) name) o 0) one.1)
          ∙ eqb-true (window_of rows row) (window_number round win) parts.1 in
          absurd (one.3 (other_number _ round one.0 win one.2 small number))

  apart_same : win < 32 → (rows : List Row) (row : Row) (round : ℕ) → IsApart row →
      made rank (window_number round win) (rows ++ row ∷ []) ≡ made rank (window_number round win) rows
  apart_same small rows row round apart =
      made_pushed rank (window_number round win) rows row
      ∙ ap (λ l. made rank (window_number round win) rows ++ l) (apart_made small rows row round apart)
      ∙ append-nil (made rank (window_number round win) rows)

  quiet_one : win < 32 → (known : Knowledge) (rows : List Row) (row : Row) → IsQuiet row → Fits known rows →
      Fits known (rows ++ row ∷ [])
  quiet_one small known rows row quiet fits = record {
    long = fits.long;
    created = fits.created ∙ sym none;
    fresh = λ round low. apart_same small rows row round quiet.apart ∙ fits.fresh round (omega (arith, low, none));
    live = λ w e.
        let is = fits.live w e in
        record {
          round = is.round;
          begun = none ∙ is.begun;
          number = is.number;
          tied = subst (IsTied (epochs_at known.epochs win))
              (sym (subst (λ n. made rank n (rows ++ row ∷ []) ≡ made rank n rows) (sym is.number)
              (apart_same small rows row is.round quiet.apart))) is.tied;
        };
  }
    where
      none : creations (rows ++ row ∷ []) rank win ≡ creations rows rank win
      none = begun_no rows row quiet.begins_none

  pub quiet_more : win < 32 → (known : Knowledge) (rows more : List Row) → AllByRecursion IsQuiet more →
      Fits known rows → Fits known (rows ++ more)
  quiet_more small known rows [] quiet fits = subst (Fits known) (sym (append-nil rows)) fits
  quiet_more small known rows (row ∷ more) quiet fits =
      subst (Fits known) (append_assoc rows (row ∷ []) more)
      (quiet_more small known (rows ++ row ∷ []) more quiet.1 (quiet_one small known rows row quiet.0 fits))

  -- ---- what is learned by itself

  -- the windows of the name stay, and their epochs are tied as before
  pub record Keeps (known after : Knowledge) : Type 0 where
    pub long : length after.epochs ≡ length known.epochs
    pub created : count_by (λ name. name == win) after.windows.created ≡ count_by (λ name. name == win)
        known.windows.created
    pub same : (w : Window) → window_of_name after.windows win ≡ Some w → window_of_name known.windows win ≡ Some w
    pub tied : (w : Window) → window_of_name after.windows win ≡ Some w → (s : List Synchronisation) →
        IsTied (epochs_at known.epochs win) s → IsTied (epochs_at after.epochs win) s

  pub fits_kept : (known after : Knowledge) (rows : List Row) → Keeps known after → Fits known rows → Fits after rows
  fits_kept known after rows keeps fits = record {
    long = keeps.long ∙ fits.long;
    created = keeps.created ∙ fits.created;
    fresh = fits.fresh;
    live = λ w e.
        let is = fits.live w (keeps.same w e) in
        record {
          round = is.round;
          begun = is.begun;
          number = is.number;
          tied = keeps.tied w e (made rank w.number rows) is.tied;
        };
  }

  -- ---- a synchronisation on the window

  -- the entry is a synchronisation of the rank on the window of the name
  pub record IsMadeOn (row : Row) (s : Synchronisation) : Type 0 where
    pub rank_is : row.rank ≡ rank
    pub begins_none : begins_window row ≡ false
    pub named : window_of_call row.call ≡ Some win
    pub call_is : synchronisation_of row.call ≡ Some s

  -- its window is the live one
  pub on_live : (known : Knowledge) (rows : List Row) (row : Row) (s : Synchronisation) (w : Window) → IsMadeOn row s →
      IsLive known rows w → window_of rows row ≡ w.number
  on_live known rows row s w is live =
      ap (λ o. option_map_or (λ name. window_number (cond (begins_window row)
      (creations rows row.rank name) (creations rows row.rank name - 1)) name) o 0) is.named
      ∙ ap (λ b. window_number (cond b (creations rows row.rank win) (creations rows row.rank win - 1)) win)
      is.begins_none
      ∙ ap (λ r. window_number (creations rows r win - 1) win) is.rank_is
      ∙ ap (λ n. window_number (n - 1) win) live.begun
      ∙ ap (λ n. window_number n win) (less live.round)
      ∙ sym live.number
    where
      less : (n : ℕ) → suc n - 1 ≡ n
      less n = omega arith

  pub fits_made : (known after : Knowledge) (rows : List Row) (row : Row) (s : Synchronisation) (w : Window) →
      IsMadeOn row s → window_of_name known.windows win ≡ Some w →
      after.windows ≡ known.windows → length after.epochs ≡ length known.epochs →
      ((made : List Synchronisation) → IsTied (epochs_at known.epochs win) made →
      IsTied (epochs_at after.epochs win) (made ++ s ∷ [])) → Fits known rows → Fits after (rows ++ row ∷ [])
  fits_made known after rows row s w is live windows long tied fits = record {
    long = long ∙ fits.long;
    created = ap (λ k. count_by (λ name. name == win) k.created) windows ∙ fits.created ∙ sym none;
    fresh = λ round low.
        made_pushed rank (window_number round win) rows row
        ∙ ap (λ l. made rank (window_number round win) rows ++ l) (elsewhere round (omega (arith, low, none)))
        ∙ append-nil (made rank (window_number round win) rows)
        ∙ fits.fresh round (omega (arith, low, none));
    live = λ other e.
        let same : other ≡ w = cc (sym e ∙ ap (λ k. window_of_name k win) windows ∙ live) in
        subst (IsLive after (rows ++ row ∷ [])) (sym same) (record {
          round = here.round;
          begun = none ∙ here.begun;
          number = here.number;
          tied = subst (IsTied (epochs_at after.epochs win)) (sym pushed)
              (tied (made rank w.number rows) here.tied);
        });
  }
    where
      here : IsLive known rows w
      here = fits.live w live

      none : creations (rows ++ row ∷ []) rank win ≡ creations rows rank win
      none = begun_no rows row (and_left (row.rank == rank && begins_window row) (names_window win row.call)
          (and_right (row.rank == rank) (begins_window row) is.begins_none))

      on : window_of rows row ≡ w.number
      on = on_live known rows row s w is here

      pushed : made rank w.number (rows ++ row ∷ []) ≡ made rank w.number rows ++ s ∷ []
      pushed = made_pushed rank w.number rows row
          ∙ ap (λ l. made rank w.number rows ++ l) (ap (λ b. cond b (in_call row.call) [])
          (and_from (row.rank == rank) (window_of rows row == w.number) (eq-eqb row.rank rank is.rank_is)
          (eq-eqb (window_of rows row) w.number on))
          ∙ ap (λ o. option_map_or (λ x. x ∷ []) o []) is.call_is)

      elsewhere : (round : ℕ) → creations rows rank win ≤ round → in_row rank (window_number round win) rows row ≡ []
      elsewhere round low = ap (λ b. cond b (in_call row.call) [])
          (and_right (row.rank == rank) (window_of rows row == window_number round win)
          (ne_eqb (window_of rows row) (window_number round win)
          (λ same. apart_rounds here.round round (omega (arith, low, here.begun)) (sym here.number ∙ sym on ∙ same))))
        where
          apart_rounds : (a b : ℕ) → a < b → window_number a win ≡ window_number b win → ⊥
          apart_rounds a b below e = omega (arith, below, e)

  -- ---- a creation of the window

  pub fits_made_new : win < 32 → (known after : Knowledge) (rows : List Row) (row : Row) → begins row ≡ true →
      synchronisation_of row.call ≡ None → length after.epochs ≡ length known.epochs →
      count_by (λ name. name == win) after.windows.created ≡ count_by (λ name. name == win) known.windows.created + 1 →
      ((w : Window) → window_of_name after.windows win ≡ Some w →
      w.number ≡ window_number (count_by (λ name. name == win) known.windows.created) win) →
      IsTied (epochs_at after.epochs win) [] → Fits known rows → Fits after (rows ++ row ∷ [])
  fits_made_new small known after rows row starts none long created number tied fits = record {
    long = long ∙ fits.long;
    created = created ∙ ap (λ n. n + 1) fits.created ∙ sym one;
    fresh = λ round low. same round ∙ fits.fresh round (omega (arith, low, one));
    live = λ w e.
        let at : w.number ≡ window_number (creations rows rank win) win = number w e
        ∙ ap (λ n. window_number n win) fits.created in
        record {
          round = creations rows rank win;
          begun = one ∙ more (creations rows rank win);
          number = at;
          tied = subst (IsTied (epochs_at after.epochs win))
              (sym (ap (λ n. made rank n (rows ++ row ∷ [])) at ∙ same (creations rows rank win)
              ∙ fits.fresh (creations rows rank win) (omega arith))) tied;
        };
  }
    where
      one : creations (rows ++ row ∷ []) rank win ≡ creations rows rank win + 1
      one = begun_one rows row starts

      more : (n : ℕ) → n + 1 ≡ suc n
      more n = omega arith

      same : (round : ℕ) → made rank (window_number round win) (rows ++ row ∷ []) ≡ made rank
          (window_number round win) rows
      same round = apart_same small rows row round (λ s e. absurd (cc (sym none ∙ e)))
