-- What a rank knows in a lawful run lies in memory: its windows, with the parts that their creations brought, and its
-- ranges.
use Rattle.std.proofs.Common.{◌≡◌, ℕ, zero, suc, ◌+◌, ◌<◌, ◌≤◌, ◌⊎◌, inl, inr, true, false, cond, List, [], ◌∷◌, ◌++◌}
use Rattle.std.proofs.Common.{Option, Some, None, refl, ap, sym, ◌∙◌, subst, arith, append_assoc}
use Rattle.std.specs.Prelude.{◌==◌, ◌&&◌, slice_get, is_none}
use Rattle.std.specs.List.{count_by, fold, AllByRecursion}
use Rattle.std.specs.Option.{option_map_or}
use Rattle.std.proofs.lemmas.Bool.{ne_eqb, and_left}
use Rattle.std.proofs.lemmas.List.Sums.{sum_by-append}
use Rattle.list_laws.proofs.Members.{each_in, In}
use Rattle.list_laws.proofs.Options.{some_and}
use Rattle.rma_types.specs.declared.accesses.Step.{Step}
use Rattle.rma_types.specs.declared.accesses.Step.TheVariants.{Arrive, Leave, One}
use Rattle.rma_types.specs.declared.calls.Call.{Call}
use Rattle.rma_types.specs.declared.calls.Flavor.{Flavor}
use Rattle.rma_types.specs.declared.calls.Flavor.TheVariants.{Dynamic}
use Rattle.rma_types.specs.declared.classes.Class.{Class}
use Rattle.rma_types.specs.declared.schedules.Delay.{Delay}
use Rattle.rma_types.specs.declared.scripts.Part.{Part}
use Rattle.rma_types.specs.declared.scripts.Script.{Script}
use Rattle.rma_types.proofs.ActionLaws.{creates_it, name_made}
use Rattle.rma_record.specs.declared.items.Item.{Item}
use Rattle.rma_record.specs.declared.items.Item.TheVariants.{Null, Flush, Request, Entry, Tested, Refused}
use Rattle.rma_record.specs.declared.runs.Run.{Run}
use Rattle.rank_rules.proofs.KnowledgeLaws.{learns_nothing}
use Rattle.rank_rules.proofs.WindowLaws.{created_grows}
use Rattle.board_rules.specs.Entries.{Row, Act, acts, window_of, names_window}
use Rattle.rma_types.specs.declared.actions.Creation.{Creation}
use Rattle.rma_types.specs.declared.actions.Action.TheVariants.{Creates}
use Rattle.rma_types.specs.Actions.{action_of, creation_in, creation_of}
use Rattle.call_rules.specs.Layout.{layout}
use Rattle.call_rules.specs.WellFormed.{IsWellFormed}
use Rattle.board_rules.proofs.EntryLaws.{begins_by, new_number}
use Rattle.lawful_runs.specs.CallItems.{AreItemsOfCourse, AreItemsBy, AreItemsOf, AreFinished}
use Rattle.lawful_runs.specs.LawfulRun.{IsLawful, rank_in}
use Rattle.lawful_runs.specs.Logs.{calls_of, row_by, rows_of}
use Rattle.lawful_runs.specs.Stages.{RankOfRun, known_at, shapes_in, first_knowledge, stage_of}
use Rattle.rank_rules.specs.Courses.{Course, OneNull, OneIssue, LookUpAndIssue, OneFlush, OneRequest, ArriveAndLeave}
use Rattle.rank_rules.specs.Courses.{EntryOrTested, OneEntry, course_of, course_of_action, access_of}
use Rattle.rank_rules.specs.Knowledge.{Knowledge, own_class, ends_call, learn, known_after_call, known_after_number}
use Rattle.rank_rules.specs.Knowledge.{accepted_by}
use Rattle.rank_rules.specs.Windows.{RankWindows, next_number, window_number}
use Rattle.read_laws.proofs.Begun.{IsEntered, rows_in, act_among}
use Rattle.step_laws.proofs.CallCourses.{one_entry_moves_none, learns_call}
use Rattle.step_laws.proofs.Creations.{HasLists, own_has_room, MakesWith, parts_fit, parts_by_address}
use Rattle.step_laws.proofs.EntryMoves.{IsOneEntry}
use Rattle.step_laws.proofs.Flavors.{AreRegular, same_flavor}
use Rattle.step_laws.proofs.EntryNumbers.{is_creation_if}
use Rattle.step_laws.proofs.Memory.{space_has_memory}
use Rattle.step_laws.proofs.OwnRoom.{AreRoomy}
use Rattle.step_laws.proofs.OwnTests.{HasIssue, transfer_with_issue}
use Rattle.step_laws.proofs.Sound.{MakesByAddress, windows_stay_roomy, rank_stays, space_stays}
use Rattle.step_laws.specs.Inside.{bytes_at}
use Rattle.read_laws.proofs.Lessons.{fold_joined, accepts, count_joined, none_begins, not_arrive}
use Rattle.read_laws.proofs.Lessons.{not_leave, arrive_begins}

module _ (script : Script) (delay : Delay) (run : Run) (formed : IsWellFormed script)
    (lawful : IsLawful script delay run)
    (regular : AreRegular script (rows_of script run)) (rank : ℕ) (within : rank < script.ranks) where
  abbrev pub here_is : RankOfRun
  here_is = rank_in script delay run rank

  abbrev shapes : ℕ → List Part
  shapes = shapes_in (stage_of script delay) (rows_of script run)

  -- the entries of some items are as the board sees them
  abbrev pub AreEntered : List Item → Type 0
  AreEntered items = (xs ys : List Item) (number place : ℕ) (step : Step) (call : Call) →
      items ≡ xs ++ Entry number place step ∷ ys →
      slice_get (calls_of script rank) number ≡ Some call →
      IsEntered script delay run lawful rank number place step call xs

  -- what is known lies in memory, and counts the windows that the rank's entries have begun
  pub record IsSound (known : Knowledge) (begun : ℕ → ℕ) : Type 0 where
    pub mine : known.windows.rank ≡ rank
    pub space : known.windows.space ≤ bytes_at (layout script) rank
    pub roomy : AreRoomy (layout script) known.windows
    pub created : (win : ℕ) → count_by (λ name. name == win) known.windows.created ≡ begun win

  abbrev pub begun_in : List Item → ℕ → ℕ
  begun_in items win = count_by (begins_by rank win) (rows_in script rank items)

  lists : HasLists script
  lists = record { spaces = formed.spaces; lists = formed.lists }

  -- the parts of the dynamic window that a call makes
  by_address : (known : Knowledge) (before rest : List Item) (number place : ℕ) (call : Call) →
      slice_get (calls_of script rank) number ≡ Some call →
      IsSound known (begun_in before) → AreEntered (before ++ Entry number place Arrive ∷ rest) →
      MakesByAddress shapes known.windows (action_of call)
  by_address known before rest number place call of sound entered creation is dynamic =
      parts_by_address script (rows_of script run) (next_number known.windows.created creation.win)
      (subst (λ f. AllByRecursion (MakesWith f (next_number known.windows.created creation.win))
      (acts (rows_of script run))) flavor_is flavor.1)
    where
      entry : IsEntered script delay run lawful rank number place Arrive call before
      entry = entered before rest number place Arrive call refl of

      row : Row
      row = record { rank = rank; number = number; call = call; step = Arrive }

      makes : creation_of call ≡ Some creation
      makes = ap creation_in is

      act : Act
      act = record {
        row = record { rank = rank; number = number; call = call; step = Arrive };
        window = window_of entry.before row;
      }

      among : In act (acts (rows_of script run))
      among = subst (λ l. In act (acts l)) (sym entry.split) (act_among [] entry.before row entry.rest)

      number_is : window_of entry.before row ≡ next_number known.windows.created creation.win
      number_is =
          new_number entry.before row creation (is_creation_if call creation makes) makes
          ∙ ap (λ n. window_number n creation.win)
          (entry.counts (begins_by rank creation.win) others ∙ sym (sound.created creation.win))
        where
          others : (other : Row) → (other.rank ≡ rank → ⊥) → begins_by rank creation.win other ≡ false
          others other apart = and_left (other.rank == rank && _) (names_window creation.win other.call)
              (and_left (other.rank == rank) _ (ne_eqb other.rank rank apart))

      flavor : (f : Flavor) × AllByRecursion (MakesWith f (next_number known.windows.created creation.win))
          (acts (rows_of script run))
      flavor = regular.flavors (next_number known.windows.created creation.win)

      flavor_is : flavor.0 ≡ Dynamic
      flavor_is =
          sym (each_in (MakesWith flavor.0 (next_number known.windows.created creation.win))
          (acts (rows_of script run)) flavor.1 among
          (is_creation_if call creation makes) number_is creation makes)
          ∙ same_flavor creation.flavor Dynamic dynamic

  -- after an accepted call
  after_call : (known : Knowledge) (begun : ℕ → ℕ) (number : ℕ) (call : Call) → IsSound known begun →
      own_class known call ≡ None →
      MakesByAddress shapes known.windows (action_of call) →
      IsSound (known_after_call shapes known number call)
      (λ win. begun win + count_by (λ name. name == win) (name_made call))
  after_call known begun number call sound own address = record {
    mine = rank_stays shapes known.windows (action_of call) ∙ sound.mine;
    space = subst (λ n. n ≤ bytes_at (layout script) rank)
        (sym (space_stays shapes known.windows (action_of call))) sound.space;
    roomy = windows_stay_roomy (layout script) shapes known.windows (action_of call)
        (parts_fit script lists (rows_of script run) regular.sound)
        address (own_has_room known (bytes_at (layout script) known.windows.rank) call
        (subst (λ r. known.windows.space ≤ bytes_at (layout script) r) (sym sound.mine) sound.space) own) sound.roomy;
    created = λ win.
        ap (count_by (λ name. name == win)) (created_grows shapes known.windows call)
        ∙ sum_by-append (λ name. cond (name == win) 1 0) known.windows.created (name_made call)
        ∙ ap (λ n. n + count_by (λ name. name == win) (name_made call)) (sound.created win);
  }

  same_begun : (known : Knowledge) (one two : ℕ → ℕ) → ((win : ℕ) → one win ≡ two win) → IsSound known one →
      IsSound known two
  same_begun known one two same sound = record {
    mine = sound.mine;
    space = sound.space;
    roomy = sound.roomy;
    created = λ win. sound.created win ∙ same win;
  }

  -- ---- the items of one call

  -- the items teach nothing, and begin no window; or they teach the call, and begin what it makes
  abbrev Teaches : Knowledge → ℕ → Call → List Item → Type 0
  Teaches known number call items =
      ((fold (learn shapes (calls_of script rank)) known items ≡ known) × ((win : ℕ) → begun_in items win ≡ 0))
      ⊎ ((fold (learn shapes (calls_of script rank)) known items ≡ known_after_call shapes known number call)
      × ((win : ℕ) → begun_in items win ≡ count_by (λ name. name == win) (name_made call))
      × ((creation : Creation) → action_of call ≡ Creates creation →
      (arrived left : ℕ) × (items ≡ Entry number arrived Arrive ∷ Entry number left Leave ∷ [])))

  no_creation : (course : Course) (known : RankWindows) (call : Call) → course_of known call ≡ course →
      (course ≡ ArriveAndLeave → ⊥) →
      (creation : Creation) → action_of call ≡ Creates creation → ⊥
  no_creation course known call is other creation creates = other (sym is ∙ ap (course_of_action known) creates)

  no_names : (call : Call) → ((creation : Creation) → action_of call ≡ Creates creation → ⊥) → name_made call ≡ []
  no_names call none = by_creation (creation_of call) refl
    where
      by_creation : (o : Option Creation) → creation_of call ≡ o →
          option_map_or (λ (creation : Creation). creation.win ∷ []) o [] ≡ []
      by_creation None e = refl
      by_creation (Some creation) e = absurd (none creation (creates_it call creation e))

  -- an item that is accepted by itself
  single : (known : Knowledge) (number : ℕ) (call : Call) (items : List Item) (item : Item) → items ≡ item ∷ [] →
      slice_get (calls_of script rank) number ≡ Some call → accepted_by (calls_of script rank) item ≡ Some number →
      ((win : ℕ) → begun_in (item ∷ []) win ≡ 0) → ((creation : Creation) → action_of call ≡ Creates creation → ⊥) →
      Teaches known number call items
  single known number call items item is of accepted begins none = subst (Teaches known number call) (sym is) (inr (
    ap (λ o. option_map_or (known_after_number shapes (calls_of script rank) known) o known) accepted
        ∙ accepts shapes (calls_of script rank) known number call of,
    λ win. begins win ∙ sym (ap (count_by (λ name. name == win)) (no_names call none)),
    λ creation creates. absurd (none creation creates),
  ))

  nothing : (known : Knowledge) (number : ℕ) (call : Call) (items : List Item) (item : Item) → items ≡ item ∷ [] →
      learn shapes (calls_of script rank) known item ≡ known → ((win : ℕ) → begun_in (item ∷ []) win ≡ 0) →
      Teaches known number call items
  nothing known number call items item is same begins = subst (Teaches known number call) (sym is) (inl (same, begins))

  entry_ends : (step : Step) (number : ℕ) (call : Call) (place : ℕ) →
      slice_get (calls_of script rank) number ≡ Some call → ends_call step call ≡ true →
      accepted_by (calls_of script rank) (Entry number place step) ≡ Some number
  entry_ends step number call place of ends =
      ap (λ o. option_map_or (λ (c : Call). cond (ends_call step c) (Some number) None) o None) of
      ∙ ap (λ b. cond b (Some number) None) ends

  one_begins : (number place win : ℕ) (call : Call) → slice_get (calls_of script rank) number ≡ Some call →
      begun_in (Entry number place One ∷ []) win ≡ 0
  one_begins number place win call of =
      count_joined (begins_by rank win) (row_by script rank (Entry number place One)) []
      ∙ ap (λ n. n + 0) (none_begins script rank win number place One call of (not_arrive rank win number call))

  course_teaches : (course : Course) (known : Knowledge) (number : ℕ) (call : Call) (items : List Item) →
      course_of known.windows call ≡ course →
      slice_get (calls_of script rank) number ≡ Some call → AreItemsOfCourse course known number call items →
      Teaches known number call items
  course_teaches OneNull known number call items is of h =
      single known number call items (Null number) h of refl (λ win. refl)
      (no_creation OneNull known.windows call is (λ e. cc e))
  course_teaches OneIssue known number call items is of (item, issue, e) =
      let one = some_and (access_of known.windows call) issue in
      single known number call items item e of (ap (accepted_by (calls_of script rank)) one.2)
      (λ win. ap (λ i. begun_in (i ∷ []) win) one.2) (no_creation OneIssue known.windows call is (λ e. cc e))
  course_teaches LookUpAndIssue known number call items is of (place, item, issue, e) =
      let one = some_and (access_of known.windows call) issue in
      let t = transfer_with_issue known.windows call (subst HasIssue (sym is) tt) in
      let apart = no_creation LookUpAndIssue known.windows call is (λ e. cc e) in
      subst (Teaches known number call) (sym e) (inr (
        ap (λ k. learn shapes (calls_of script rank) k item)
            (learns_nothing shapes (calls_of script rank) known number place One call of (ap is_none t.1))
            ∙ ap (learn shapes (calls_of script rank) known) one.2
            ∙ accepts shapes (calls_of script rank) known number call of,
        λ win.
            count_joined (begins_by rank win) (row_by script rank (Entry number place One))
            (rows_in script rank (item ∷ []))
            ∙ ap (λ n. n + begun_in (item ∷ []) win)
            (none_begins script rank win number place One call of (not_arrive rank win number call))
            ∙ ap (λ i. 0 + begun_in (i ∷ []) win) one.2
            ∙ sym (ap (count_by (λ name. name == win)) (no_names call apart)),
        λ creation creates. absurd (apart creation creates),
      ))
  course_teaches OneFlush known number call items is of h =
      single known number call items (Flush number) h of refl (λ win. refl)
      (no_creation OneFlush known.windows call is (λ e. cc e))
  course_teaches OneRequest known number call items is of h =
      single known number call items (Request number) h of refl (λ win. refl)
      (no_creation OneRequest known.windows call is (λ e. cc e))
  course_teaches ArriveAndLeave known number call items is of (arrived, left, e) = subst (Teaches known number call)
      (sym e) (inr (
        ap (λ k. learn shapes (calls_of script rank) k (Entry number left Leave))
            (learns_nothing shapes (calls_of script rank) known number arrived Arrive call of refl)
            ∙ learns_call shapes (calls_of script rank) known number left Leave call of refl,
        λ win.
            count_joined (begins_by rank win) (row_by script rank (Entry number arrived Arrive))
            (rows_in script rank (Entry number left Leave ∷ []))
            ∙ ap (λ n. n + begun_in (Entry number left Leave ∷ []) win)
            (arrive_begins script rank win number arrived call of)
            ∙ ap (λ n. count_by (λ name. name == win) (name_made call) + n)
            (count_joined (begins_by rank win) (row_by script rank (Entry number left Leave)) []
            ∙ ap (λ n. n + 0) (none_begins script rank win number left Leave call of (not_leave rank win number call)))
            ∙ plain (count_by (λ name. name == win) (name_made call)),
        λ creation creates. (arrived, left, refl),
      ))
    where
      plain : (n : ℕ) → n + 0 ≡ n
      plain n = omega arith
  course_teaches EntryOrTested known number call items is of (inl (place, e)) =
      single known number call items (Entry number place One) e of
      (entry_ends One number call place of (one_entry_moves_none known.windows call (subst IsOneEntry (sym is) tt)))
      (λ win. one_begins number place win call of) (no_creation EntryOrTested known.windows call is (λ e. cc e))
  course_teaches EntryOrTested known number call items is of (inr (seen, e)) = nothing known number call items
      (Tested number seen) e refl (λ win. refl)
  course_teaches OneEntry known number call items is of (place, e) =
      single known number call items (Entry number place One) e of
      (entry_ends One number call place of (one_entry_moves_none known.windows call (subst IsOneEntry (sym is) tt)))
      (λ win. one_begins number place win call of) (no_creation OneEntry known.windows call is (λ e. cc e))

  -- the items of a call that the rank does not refuse, or of a refused one
  pub data IsOfCallAfter (known : Knowledge) (number : ℕ) (call : Call) (items : List Item) : Type 0 where
    Refuses : (item : Item) (class : Class) (seen : ℕ) → items ≡ Refused number class seen ∷ [] →
        IsOfCallAfter known number call items
    Accepts : own_class known call ≡ None → AreItemsOfCourse (course_of known.windows call) known number call items →
        IsOfCallAfter known number call items

  class_is : (o : Option Class) (known : Knowledge) (number : ℕ) (call : Call) (items : List Item) →
      own_class known call ≡ o →
      AreItemsBy o known number call items → IsOfCallAfter known number call items
  class_is (Some class) known number call items own h = Refuses (Refused number class 0) class 0 h
  class_is None known number call items own (inl refused) =
      Refuses (Refused number refused.1 (suc refused.2)) refused.1 (suc refused.2) refused.3
  class_is None known number call items own (inr accepted) = Accepts own accepted

  pub of_call_after : (before : List Item) (number : ℕ) (items : List Item) → AreItemsOf here_is before number items →
      (call : Call) × (slice_get (calls_of script rank) number ≡ Some call)
      × IsOfCallAfter (known_at here_is before) number call items
  of_call_after before number items h =
      let call = some_and (slice_get (calls_of script rank) number) h in (
        call.0,
        call.1,
        class_is (own_class (known_at here_is before) call.0)
            (known_at here_is before) number call.0 items refl call.2,
      )

  -- ---- the calls in their order

  call_sound : (known : Knowledge) (before rest items : List Item) (number : ℕ) (call : Call) →
      slice_get (calls_of script rank) number ≡ Some call →
      IsSound known (begun_in before) → AreEntered (before ++ (items ++ rest)) → IsOfCallAfter known number call items →
      IsSound (fold (learn shapes (calls_of script rank)) known items) (λ win. begun_in before win + begun_in items win)
  call_sound known before rest items number call of sound entered (Refuses item class seen is) =
      subst (λ l. IsSound (fold (learn shapes (calls_of script rank)) known l)
      (λ win. begun_in before win + begun_in l win)) (sym is)
      (same_begun known (begun_in before) (λ win. begun_in before win + 0) (λ win. plain (begun_in before win)) sound)
    where
      plain : (n : ℕ) → n ≡ n + 0
      plain n = omega arith
  call_sound known before rest items number call of sound entered (Accepts own accepted) =
      by_teaching (course_teaches (course_of known.windows call) known number call items refl of accepted)
    where
      plain : (n m : ℕ) → m ≡ 0 → n ≡ n + m
      plain n m e = omega arith

      by_teaching : Teaches known number call items →
          IsSound (fold (learn shapes (calls_of script rank)) known items)
          (λ win. begun_in before win + begun_in items win)
      by_teaching (inl (same, none)) =
          subst (λ k. IsSound k (λ win. begun_in before win + begun_in items win)) (sym same)
          (same_begun known (begun_in before) (λ win. begun_in before win + begun_in items win)
          (λ win. plain (begun_in before win) (begun_in items win) (none win)) sound)
      by_teaching (inr (learned, begins, arrives)) =
          subst (λ k. IsSound k (λ win. begun_in before win + begun_in items win)) (sym learned)
          (same_begun (known_after_call shapes known number call)
          (λ win. begun_in before win + count_by (λ name. name == win) (name_made call))
          (λ win. begun_in before win + begun_in items win)
          (λ win. ap (λ n. begun_in before win + n) (sym (begins win)))
          (after_call known (begun_in before) number call sound own address))
        where
          address : MakesByAddress shapes known.windows (action_of call)
          address creation is dynamic =
              let two = arrives creation is in
              by_address known before (Entry number two.1 Leave ∷ rest) number two.0 call of sound
              (subst (λ l. AreEntered (before ++ (l ++ rest))) two.2 entered) creation is dynamic

  -- what the rank knows after the items of its first calls
  pub known_sound : (number : ℕ) (items rest : List Item) → AreFinished here_is number items →
      AreEntered (items ++ rest) →
      IsSound (known_at here_is items) (begun_in items)
  known_sound zero items rest h entered = subst (λ l. IsSound (known_at here_is l) (begun_in l)) (sym h) (record {
    mine = refl;
    space = space_has_memory script rank (subst (λ n. rank < n) (sym formed.spaces) within)
        (subst (λ n. rank < n) (sym formed.lists) within);
    roomy = record { windows = tt; ranges = tt };
    created = λ win. refl;
  })
  known_sound (suc number) items rest (before, last, is, earlier, of) entered =
      let entered' : AreEntered (before ++ (last ++ rest)) = subst AreEntered (ap (λ l. l ++ rest) is
      ∙ append_assoc before last rest) entered in
      let sound = known_sound number before (last ++ rest) earlier entered' in
      let one = of_call_after before number last of in
      let after = call_sound (known_at here_is before) before rest last number one.0 one.1 sound entered' one.2 in
      subst (λ l. IsSound (known_at here_is l) (begun_in l)) (sym is)
      (subst (λ k. IsSound k (begun_in (before ++ last)))
      (sym (fold_joined (learn shapes (calls_of script rank))
      (first_knowledge (stage_of script delay) rank) before last))
      (same_begun (fold (learn shapes (calls_of script rank)) (known_at here_is before) last)
      (λ win. begun_in before win + begun_in last win) (begun_in (before ++ last))
      (λ win. sym (ap (count_by (begins_by rank win)) (rows_joined before last)
      ∙ count_joined (begins_by rank win) (rows_in script rank before) (rows_in script rank last))) after))
    where
      rows_joined : (xs ys : List Item) →
          rows_in script rank (xs ++ ys) ≡ rows_in script rank xs ++ rows_in script rank ys
      rows_joined [] ys = refl
      rows_joined (x ∷ xs) ys = ap (λ l. row_by script rank x ++ l) (rows_joined xs ys)
          ∙ sym (append_assoc (row_by script rank x) (rows_in script rank xs) (rows_in script rank ys))
