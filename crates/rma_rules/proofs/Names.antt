-- The table of numbers follows what a rank knows.
use Rattle.std.proofs.Common.{◌≡◌, ℕ, zero, suc, ◌+◌, ◌*◌, ◌<◌, inl, inr, true, false, cond, not, List, [], ◌∷◌, ◌++◌}
use Rattle.std.proofs.Common.{Option, Some, None, length, replicate, refl, ap, sym, subst, ◌∙◌, arith}
use Rattle.std.specs.Prelude.{◌==◌, slice_index, slice_index_or, slice_set}
use Rattle.std.specs.List.{count_by, filter, find}
use Rattle.std.specs.Option.{option_map}
use Rattle.std.proofs.lemmas.Bool.{cases_Bool, cases_eq, eqb-true, eq-eqb}
use Rattle.std.proofs.lemmas.List.{length-set, length-replicate, get_or-set_same, get_or-set_other}
use Rattle.list_laws.proofs.Lists.{zeros}
use Rattle.list_laws.proofs.Options.{none_of}
use Rattle.list_laws.proofs.Tests.{one_more}
use Rattle.rma_types.specs.declared.scripts.Part.{Part}
use Rattle.rma_types.specs.declared.actions.Creation.{Creation}
use Rattle.rma_types.specs.declared.actions.Action.TheVariants.{Creates, Frees}
use Rattle.rank_rules.specs.Windows.{RankWindows, Window, no_windows, window_of_name, is_live, windows_after}
use Rattle.rma_rules.specs.WindowNumbers.{AreNumbers, IsEmptyTable, NumbersFollow, with_freed, with_made}
use Rattle.rma_rules.specs.declared.numbers.WindowNumbers.{WindowNumbers}

apart_eqb : (a b : ℕ) → (a ≡ b → ⊥) → (a == b) ≡ false
apart_eqb a b apart = elim (cases_Bool (a == b)) [ inl same ↦ absurd (apart (eqb-true a b same)) | inr other ↦ other ]

-- ---- the first window of a name

found_new : (windows : List Window) (new : Window) (win : ℕ) → find (λ (w : Window). w.win == win) windows ≡ None →
    (new.win == win) ≡ true → find (λ (w : Window). w.win == win) (windows ++ new ∷ []) ≡ Some new
found_new [] new win none same = rw same refl
found_new (w ∷ windows) new win none same = elim (cases_Bool (w.win == win)) [
  | inl first ↦ let some : Some w ≡ None =
      sym (ap (λ b. cond b (Some w) (find (λ (w : Window). w.win == win) windows)) first) ∙ none in absurd (cc some)
  | inr other ↦
      let rest : find (λ (w : Window). w.win == win) windows ≡ None =
      sym (ap (λ b. cond b (Some w) (find (λ (w : Window). w.win == win) windows)) other) ∙ none in
      rw other (found_new windows new win rest same)
]

found_old : (windows : List Window) (new : Window) (win : ℕ) → (new.win == win) ≡ false →
    find (λ (w : Window). w.win == win) (windows ++ new ∷ []) ≡ find (λ (w : Window). w.win == win) windows
found_old [] new win other = rw other refl
found_old (w ∷ windows) new win other = ap (λ rest. cond (w.win == win) (Some w) rest) (found_old windows new win other)

gone : (windows : List Window) (win : ℕ) →
    find (λ (w : Window). w.win == win) (filter (λ (w : Window). not (w.win == win)) windows) ≡ None
gone [] win = refl
gone (w ∷ windows) win = elim (cases_Bool (w.win == win)) [
  | inl same ↦ rw same (gone windows win)
  | inr other ↦ rw (other, other) (gone windows win)
]

stays : (windows : List Window) (win other : ℕ) → (win ≡ other → ⊥) →
    find (λ (w : Window). w.win == other) (filter (λ (w : Window). not (w.win == win)) windows)
    ≡ find (λ (w : Window). w.win == other) windows
stays [] win other apart = refl
stays (w ∷ windows) win other apart = elim (cases_Bool (w.win == win)) [
  | inl same ↦
      let at : w.win ≡ win = eqb-true w.win win same in
      let no : (w.win == other) ≡ false = apart_eqb w.win other (λ e. apart (sym at ∙ e)) in
      rw same (stays windows win other apart ∙ sym
      (ap (λ b. cond b (Some w) (find (λ (w : Window). w.win == other) windows)) no))
  | inr kept ↦ rw kept (ap (λ rest. cond (w.win == other) (Some w) rest) (stays windows win other apart))
]

-- ---- the laws

no_number : (n win : ℕ) → ◌≡◌ {A = Option ℕ} (slice_index_or (replicate n None) win None) None
no_number zero win = refl
no_number (suc n) zero = refl
no_number (suc n) (suc win) = no_number n win

first : (rank ranks space : ℕ) (table : WindowNumbers) → IsEmptyTable table →
    AreNumbers (no_windows rank ranks space) table
first rank ranks space table empty = record {
  names = ap length empty.0 ∙ length-replicate {A = Option ℕ} 32 None;
  rounds = ap length empty.1 ∙ length-replicate {A = ℕ} 32 0;
  live = λ win within. ap (λ l. slice_index_or l win None) empty.0 ∙ no_number 32 win;
  counted = λ win within. ap (λ l. slice_index l win) empty.1 ∙ zeros 32 win;
}

creates : (shapes : ℕ → List Part) (known : RankWindows) (table : WindowNumbers) (creation : Creation) → creation.win
    < 32 →
    is_live known creation.win ≡ false → AreNumbers known table →
    AreNumbers (windows_after shapes known (Creates creation)) (with_made table creation.win)
creates shapes known table creation within free old = record {
  names = length-set table.numbers creation.win (Some (32 * slice_index table.made creation.win + creation.win))
      ∙ old.names;
  rounds = length-set table.made creation.win (slice_index table.made creation.win + 1) ∙ old.rounds;
  live = live;
  counted = counted;
}
  where
    new : Window
    new = record {
      win = creation.win;
      number = 32 * count_by (λ name. name == creation.win) known.created + creation.win;
      flavor = creation.flavor;
      parts = shapes (32 * count_by (λ name. name == creation.win) known.created + creation.win);
    }

    live : (win : ℕ) → win < 32 → slice_index_or
        (slice_set table.numbers creation.win (Some (32 * slice_index table.made creation.win + creation.win))) win None
        ≡ option_map (λ (w : Window). w.number) (find (λ (w : Window). w.win == win) (known.windows ++ new ∷ []))
    live win below = elim (cases_eq win creation.win) [
      | inl same ↦
          let none = none_of (window_of_name known creation.win) free in
          let found = found_new known.windows new creation.win none (eq-eqb creation.win creation.win refl) in
          let at : slice_index_or (slice_set table.numbers creation.win
          (Some (32 * slice_index table.made creation.win + creation.win))) creation.win None ≡ Some new.number =
          get_or-set_same table.numbers creation.win
          (Some (32 * slice_index table.made creation.win + creation.win)) None (omega (arith, within, old.names))
          ∙ ap (λ n. Some (32 * n + creation.win)) (old.counted creation.win within) in
          subst (λ k. slice_index_or (slice_set table.numbers creation.win
          (Some (32 * slice_index table.made creation.win + creation.win))) k None
          ≡ option_map (λ (w : Window). w.number) (find (λ (w : Window). w.win == k) (known.windows ++ new ∷ [])))
          (sym same)
          (at ∙ sym (ap (option_map (λ (w : Window). w.number)) found))
      | inr apart ↦
          get_or-set_other table.numbers creation.win win
          (Some (32 * slice_index table.made creation.win + creation.win)) None apart
          ∙ old.live win below
          ∙ sym (ap (option_map (λ (w : Window). w.number))
          (found_old known.windows new win (apart_eqb creation.win win (λ e. apart (sym e)))))
    ]

    counted : (win : ℕ) → win < 32 → slice_index
        (slice_set table.made creation.win (slice_index table.made creation.win + 1)) win
        ≡ count_by (λ name. name == win) (known.created ++ creation.win ∷ [])
    counted win below = elim (cases_eq win creation.win) [
      | inl same ↦
          let one : ◌≡◌ {A = ℕ} (cond (creation.win == creation.win) 1 0) 1 =
          ap (λ b. cond b 1 0) (eq-eqb creation.win creation.win refl) in
          let more = one_more known.created creation.win creation.win in
          let at = get_or-set_same table.made creation.win
          (slice_index table.made creation.win + 1) 0 (omega (arith, within, old.rounds)) in
          let was = old.counted creation.win within in
          subst (λ k. slice_index (slice_set table.made creation.win (slice_index table.made creation.win + 1)) k
          ≡ count_by (λ name. name == k) (known.created ++ creation.win ∷ [])) (sym same)
          (at ∙ omega (arith, one, more, was))
      | inr apart ↦
          let none : ◌≡◌ {A = ℕ} (cond (creation.win == win) 1 0) 0 =
          ap (λ b. cond b 1 0) (apart_eqb creation.win win (λ e. apart (sym e))) in
          let more = one_more known.created creation.win win in
          let was = old.counted win below in
          get_or-set_other table.made creation.win win (slice_index table.made creation.win + 1) 0 apart
          ∙ omega (arith, none, more, was)
    ]

frees : (shapes : ℕ → List Part) (known : RankWindows) (table : WindowNumbers) (win : ℕ) → win < 32 →
    AreNumbers known table → AreNumbers (windows_after shapes known (Frees win)) (with_freed table win)
frees shapes known table win within old = record {
  names = length-set table.numbers win None ∙ old.names;
  rounds = old.rounds;
  live = live;
  counted = old.counted;
}
  where
    live : (other : ℕ) → other < 32 → slice_index_or (slice_set table.numbers win None) other None
        ≡ option_map (λ (w : Window). w.number) (find (λ (w : Window). w.win == other)
        (filter (λ (w : Window). not (w.win == win)) known.windows))
    live other below = elim (cases_eq other win) [
      | inl same ↦
          subst (λ k. slice_index_or (slice_set table.numbers win None) k None
          ≡ option_map (λ (w : Window). w.number) (find (λ (w : Window). w.win == k)
          (filter (λ (w : Window). not (w.win == win)) known.windows))) (sym same)
          (get_or-set_same table.numbers win None None (omega (arith, within, old.names))
          ∙ sym (ap (option_map (λ (w : Window). w.number)) (gone known.windows win)))
      | inr apart ↦
          get_or-set_other table.numbers win other None None apart ∙ old.live other below
          ∙ sym (ap (option_map (λ (w : Window). w.number)) (stays known.windows win other (λ e. apart (sym e))))
    ]

pub follow : NumbersFollow
follow = record { first = first; creates = creates; frees = frees }
