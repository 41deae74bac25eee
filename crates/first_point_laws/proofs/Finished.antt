-- What a rank knows after its finished calls fits what their entries have done.
use Rattle.std.proofs.Common.{◌≡◌, ℕ, zero, suc, ◌<◌, ◌⊎◌, inl, inr, Bool, true, false, cond, not, List, [], ◌∷◌, ◌++◌}
use Rattle.std.proofs.Common.{Option, Some, None, refl, ap, sym, ◌∙◌, subst}
use Rattle.std.specs.Prelude.{slice_get, is_none}
use Rattle.std.specs.List.{fold}
use Rattle.std.proofs.lemmas.Grind.{flat_map-append}
use Rattle.std.proofs.lemmas.List.{append-nil}
use Rattle.list_laws.proofs.Each.{each_at}
use Rattle.list_laws.proofs.Options.{some_and}
use Rattle.rma_types.specs.declared.accesses.Step.{Step}
use Rattle.rma_types.specs.declared.accesses.Step.TheVariants.{Arrive, Leave, One}
use Rattle.rma_types.specs.declared.calls.Call.{Call}
use Rattle.rma_types.specs.declared.classes.Class.{Class}
use Rattle.rma_types.specs.declared.scripts.Part.{Part}
use Rattle.rma_record.specs.declared.items.Item.{Item}
use Rattle.rma_record.specs.declared.items.Item.TheVariants.{Issue, Null, Touch, Flush, Request, Entry, Tested, Refused}
use Rattle.rma_record.specs.declared.items.Item.TheVariants.{Ended}
use Rattle.rank_rules.proofs.KnowledgeLaws.{learns_nothing, epochs_allow}
use Rattle.board_rules.specs.Entries.{Row}
use Rattle.call_rules.specs.WellFormed.{IsWellFormed, IsWrittenCall}
use Rattle.lawful_runs.specs.CallItems.{other_items, AreItemsOfCourse, AreItemsBy, AreFinished}
use Rattle.lawful_runs.specs.Items.{is_touch}
use Rattle.lawful_runs.specs.Logs.{row_by}
use Rattle.lawful_runs.specs.Stages.{RankOfRun, calls_here, known_at, shapes_in, first_knowledge}
use Rattle.rank_rules.specs.Courses.{Course, OneNull, OneIssue, LookUpAndIssue, OneFlush, OneRequest, ArriveAndLeave}
use Rattle.rank_rules.specs.Courses.{EntryOrTested, OneEntry, course_of, access_of}
use Rattle.rank_rules.specs.Knowledge.{Knowledge, own_class, learn, known_after_call}
use Rattle.lawful_runs.proofs.LogLaws.{calls_written}
use Rattle.read_laws.proofs.Begun.{rows_in}
use Rattle.read_laws.proofs.Lessons.{fold_joined, accepts, one_row}
use Rattle.step_laws.proofs.CallCourses.{one_entry_moves_none, learns_call}
use Rattle.step_laws.proofs.EntryMoves.{IsOneEntry}
use Rattle.step_laws.proofs.OwnTests.{HasIssue, transfer_with_issue, windows_allow}
use Rattle.first_point_laws.proofs.Accepted.{rows_by, call_fits}
use Rattle.first_point_laws.proofs.Fits.{Fits, fits_first}

-- ---- what the items of a call teach

module _ (here : RankOfRun) where
  abbrev shapes : ℕ → List Part
  shapes = shapes_in here.stage here.rows

  abbrev calls : List Call
  calls = calls_here here

  -- the entries of a rank's items
  abbrev pub rows_here : List Item → List Row
  rows_here items = rows_in here.stage.script here.rank items

  abbrev after_items : Knowledge → List Item → Knowledge
  after_items known items = fold (learn shapes calls) known items

  -- the items teach what the call does, and have its entries; or they teach nothing, and have none
  abbrev Teaches : Course → Knowledge → ℕ → Call → List Item → Type 0
  Teaches course known number call items =
      ((after_items known items ≡ known) × (rows_here items ≡ []))
      ⊎ ((after_items known items ≡ known_after_call shapes known number call)
      × (rows_here items ≡ rows_by course here.rank number call))

  entry_rows : (number place : ℕ) (step : Step) (call : Call) (rest : List Item) (rows : List Row) →
      slice_get calls number ≡ Some call → rows_here rest ≡ rows →
      rows_here (Entry number place step ∷ rest) ≡ record {
        rank = here.rank;
        number = number;
        call = call;
        step = step;
      } ∷ rows
  entry_rows number place step call rest rows of is =
      ap (λ l. l ++ rows_here rest) (one_row here.stage.script here.rank number place step call of)
      ∙ ap (λ l. record { rank = here.rank; number = number; call = call; step = step } ∷ l) is

  one_step : (known : Knowledge) (number place : ℕ) (call : Call) → slice_get calls number ≡ Some call →
      IsOneEntry (course_of known.windows call) →
      learn shapes calls known (Entry number place One) ≡ known_after_call shapes known number call
  one_step known number place call of one = learns_call shapes calls known number place One call of
      (one_entry_moves_none known.windows call one)

  teaches : (course : Course) (known : Knowledge) (number : ℕ) (call : Call) (items : List Item) →
      course_of known.windows call ≡ course → slice_get calls number ≡ Some call →
      AreItemsOfCourse course known number call items → Teaches course known number call items
  teaches OneNull known number call items is of h = subst (Teaches OneNull known number call) (sym h)
      (inr (accepts shapes calls known number call of, refl))
  teaches OneIssue known number call items is of (item, issue, e) =
      let one = some_and (access_of known.windows call) issue in
      subst (Teaches OneIssue known number call) (sym (e ∙ ap (λ i. i ∷ []) one.2))
      (inr (accepts shapes calls known number call of, refl))
  teaches LookUpAndIssue known number call items is of (place, item, issue, e) =
      let one = some_and (access_of known.windows call) issue in
      let t = transfer_with_issue known.windows call (subst HasIssue (sym is) tt) in
      subst (Teaches LookUpAndIssue known number call) (sym (e ∙ ap (λ i. Entry number place One ∷ i ∷ []) one.2))
      (inr (
        ap (λ k. learn shapes calls k (Issue number one.0))
            (learns_nothing shapes calls known number place One call of (ap is_none t.1))
            ∙ accepts shapes calls known number call of,
        entry_rows number place One call (Issue number one.0 ∷ []) [] of refl,
      ))
  teaches OneFlush known number call items is of h = subst (Teaches OneFlush known number call) (sym h)
      (inr (accepts shapes calls known number call of, refl))
  teaches OneRequest known number call items is of h = subst (Teaches OneRequest known number call) (sym h)
      (inr (accepts shapes calls known number call of, refl))
  teaches ArriveAndLeave known number call items is of (arrived, left, e) =
      subst (Teaches ArriveAndLeave known number call) (sym e)
      (inr (
        ap (λ k. learn shapes calls k (Entry number left Leave))
            (learns_nothing shapes calls known number arrived Arrive call of refl)
            ∙ learns_call shapes calls known number left Leave call of refl,
        entry_rows number arrived Arrive call (Entry number left Leave ∷ [])
            (record { rank = here.rank; number = number; call = call; step = Leave } ∷ []) of
            (entry_rows number left Leave call [] [] of refl),
      ))
  teaches EntryOrTested known number call items is of (inl (place, e)) =
      subst (Teaches EntryOrTested known number call) (sym e)
      (inr (
        one_step known number place call of (subst IsOneEntry (sym is) tt),
        entry_rows number place One call [] [] of refl,
      ))
  teaches EntryOrTested known number call items is of (inr (seen, e)) =
      subst (Teaches EntryOrTested known number call) (sym e) (inl (refl, refl))
  teaches OneEntry known number call items is of (place, e) =
      subst (Teaches OneEntry known number call) (sym e)
      (inr (
        one_step known number place call of (subst IsOneEntry (sym is) tt),
        entry_rows number place One call [] [] of refl,
      ))

  -- ---- the finished calls

  module _ (formed : IsWellFormed here.stage.script) (win : ℕ) (small : win < 32) where
    abbrev pub FitsAt : List Item → Type 0
    FitsAt items = Fits here.rank win (known_at here items) (rows_here items)

    rows_joined : (xs ys : List Item) → rows_here (xs ++ ys) ≡ rows_here xs ++ rows_here ys
    rows_joined xs ys = flat_map-append (row_by here.stage.script here.rank) xs ys

    known_joined : (xs ys : List Item) → known_at here (xs ++ ys) ≡ after_items (known_at here xs) ys
    known_joined xs ys = fold_joined (learn shapes calls) (first_knowledge here.stage here.rank) xs ys

    nothing_more : (before last : List Item) → after_items (known_at here before) last ≡ known_at here before →
        rows_here last ≡ [] → FitsAt before → FitsAt (before ++ last)
    nothing_more before last same none fits =
        let rows : rows_here (before ++ last) ≡ rows_here before = rows_joined before last
        ∙ ap (λ l. rows_here before ++ l) none ∙ append-nil (rows_here before) in
        subst (λ k. Fits here.rank win k (rows_here (before ++ last))) (sym (known_joined before last ∙ same))
        (subst (Fits here.rank win (known_at here before)) (sym rows) fits)

    call_more : (before last : List Item) (number : ℕ) (call : Call) → slice_get calls number ≡ Some call →
        own_class (known_at here before) call ≡ None →
        Teaches (course_of (known_at here before).windows call) (known_at here before) number call last →
        FitsAt before → FitsAt (before ++ last)
    call_more before last number call of own (inl (same, none)) fits = nothing_more before last same none fits
    call_more before last number call of own (inr (learned, rows)) fits =
        let known = known_at here before in
        let after = call_fits shapes here.rank win small known (rows_here before) number call fits
        (each_at IsWrittenCall calls number call (calls_written here.stage.script here.rank formed) of)
        (windows_allow known call own) (epochs_allow known call own) in
        subst (λ k. Fits here.rank win k (rows_here (before ++ last))) (sym (known_joined before last ∙ learned))
        (subst (Fits here.rank win (known_after_call shapes known number call))
        (sym (rows_joined before last ∙ ap (λ l. rows_here before ++ l) rows)) after)

    class_more : (o : Option Class) (before last : List Item) (number : ℕ) (call : Call) →
        slice_get calls number ≡ Some call → own_class (known_at here before) call ≡ o →
        AreItemsBy o (known_at here before) number call last → FitsAt before → FitsAt (before ++ last)
    class_more (Some class) before last number call of own h fits =
        subst (λ l. FitsAt (before ++ l)) (sym h) (nothing_more before (Refused number class 0 ∷ []) refl refl fits)
    class_more None before last number call of own (inl refused) fits =
        subst (λ l. FitsAt (before ++ l)) (sym refused.3)
        (nothing_more before (Refused number refused.1 (suc refused.2) ∷ []) refl refl fits)
    class_more None before last number call of own (inr accepted) fits =
        call_more before last number call of own
        (teaches (course_of (known_at here before).windows call) (known_at here before) number call last refl of
        accepted) fits

    pub finished_fits : (number : ℕ) (items : List Item) → AreFinished here number items → FitsAt items
    finished_fits zero items h = subst FitsAt (sym h) (fits_first here.rank win _ _)
    finished_fits (suc number) items (before, last, is, earlier, of) =
        let call = some_and (slice_get calls number) of in
        subst FitsAt (sym is)
        (class_more (own_class (known_at here before) call.0) before last number call.0 call.1 refl call.2
        (finished_fits number before earlier))

  -- ---- touches teach nothing

  touch_teaches_none : (known : Knowledge) (x : Item) → is_touch x ≡ true → learn shapes calls known x ≡ known
  touch_teaches_none known (Issue number access) h = absurd (cc h)
  touch_teaches_none known (Null number) h = absurd (cc h)
  touch_teaches_none known (Touch issue element cell place bits) h = refl
  touch_teaches_none known (Flush number) h = absurd (cc h)
  touch_teaches_none known (Request number) h = absurd (cc h)
  touch_teaches_none known (Entry number place step) h = absurd (cc h)
  touch_teaches_none known (Tested number seen) h = absurd (cc h)
  touch_teaches_none known (Refused number class seen) h = absurd (cc h)
  touch_teaches_none known Ended h = absurd (cc h)

  after_untouched : (known : Knowledge) (log : List Item) →
      after_items known log ≡ after_items known (other_items log)
  after_untouched known [] = refl
  after_untouched known (x ∷ log) = by_test (is_touch x) refl (λ k. after_untouched k log)
    where
      by_test : (b : Bool) → is_touch x ≡ b →
          ((k : Knowledge) → after_items k log ≡ after_items k (other_items log)) →
          after_items (learn shapes calls known x) log ≡ after_items known
          (cond (not b) (x ∷ other_items log) (other_items log))
      by_test true is rest = ap (λ k. after_items k log) (touch_teaches_none known x is) ∙ rest known
      by_test false is rest = rest (learn shapes calls known x)

  pub known_untouched : (log : List Item) → known_at here log ≡ known_at here (other_items log)
  known_untouched log = after_untouched (first_knowledge here.stage here.rank) log
