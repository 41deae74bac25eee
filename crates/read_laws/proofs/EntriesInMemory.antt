-- What the calls of a lawful run's entries name lies in memory, and the entries of each rank are as the board sees
-- them.
use Rattle.std.proofs.Common.{◌≡◌, ℕ, zero, suc, ◌+◌, ◌<◌, ◌≤◌, inl, inr, Bool, true, false, cond, not, List, [], ◌∷◌}
use Rattle.std.proofs.Common.{◌++◌, Option, Some, None, refl, ap, sym, ◌∙◌, subst, append_assoc}
use Rattle.std.specs.Prelude.{slice_get}
use Rattle.std.specs.List.{count_by, flat_map, AllByRecursion}
use Rattle.std.specs.Option.{option_map_or}
use Rattle.std.proofs.lemmas.List.{append-nil}
use Rattle.list_laws.proofs.Each.{AllFrom, each_append, each_at}
use Rattle.list_laws.proofs.Options.{some_and}
use Rattle.rma_types.specs.declared.accesses.Step.{Step}
use Rattle.rma_types.specs.declared.accesses.Step.TheVariants.{Arrive}
use Rattle.rma_types.specs.declared.calls.Call.{Call}
use Rattle.rma_types.specs.declared.calls.Flavor.TheVariants.{Dynamic}
use Rattle.rma_types.specs.declared.classes.Class.{Class}
use Rattle.rma_types.specs.declared.schedules.Delay.{Delay}
use Rattle.rma_types.specs.declared.scripts.Part.{Part}
use Rattle.rma_types.specs.declared.scripts.Script.{Script}
use Rattle.rma_record.specs.declared.items.Item.{Item}
use Rattle.rma_record.specs.declared.items.Item.TheVariants.{Entry, Refused, Ended}
use Rattle.rma_record.specs.declared.runs.Run.{Run}
use Rattle.board_rules.specs.Entries.{Row}
use Rattle.rma_types.specs.Actions.{action_of}
use Rattle.call_rules.specs.Layout.{layout}
use Rattle.call_rules.specs.WellFormed.{IsWellFormed}
use Rattle.lawful_runs.specs.BoardLaw.{AreAllowed}
use Rattle.lawful_runs.specs.CallItems.{other_items, AreItemsBy, AreFinished, StandsAt, EndsOrStands, HasItemsOfCalls}
use Rattle.lawful_runs.specs.Items.{is_touch, number_in}
use Rattle.lawful_runs.specs.LawfulRun.{IsLawful, rank_in}
use Rattle.lawful_runs.specs.Logs.{Named, log_of, calls_of, entries_of, row_by, row_of, rows_of}
use Rattle.lawful_runs.specs.Stages.{RankOfRun, known_at, shapes_in, first_knowledge, stage_of}
use Rattle.rank_rules.specs.Knowledge.{Knowledge, own_class, learn, known_after, known_after_call, known_after_number}
use Rattle.rank_rules.specs.Knowledge.{accepted_by}
use Rattle.lawful_runs.proofs.LogLaws.{IsEntryOf}
use Rattle.order_laws.proofs.Events.{entries_placed}
use Rattle.read_laws.proofs.Begun.{entered, rows_in, rows_untouched}
use Rattle.read_laws.proofs.Firsts.{AreOfOne, Single, Double, one_call}
use Rattle.read_laws.proofs.Known.{AreEntered}
use Rattle.read_laws.proofs.Leaves.{with_touches}
use Rattle.step_laws.proofs.Creations.{HasRoom, IsSoundRow, own_has_room}
use Rattle.step_laws.proofs.Flavors.{AreRegular}
use Rattle.step_laws.proofs.Memory.{space_has_memory}
use Rattle.step_laws.proofs.Sound.{regular_push, space_stays}
use Rattle.step_laws.specs.Inside.{bytes_at}

-- ---- the space of a rank

pub number_space : (shapes : ℕ → List Part) (calls : List Call) (known : Knowledge) (number : ℕ) →
    (known_after_number shapes calls known number).windows.space ≡ known.windows.space
number_space shapes calls known number = by_call (slice_get calls number)
  where
    by_call : (o : Option Call) →
        (option_map_or (known_after_call shapes known number) o known).windows.space ≡ known.windows.space
    by_call None = refl
    by_call (Some call) = space_stays shapes known.windows (action_of call)

pub item_space : (shapes : ℕ → List Part) (calls : List Call) (known : Knowledge) (item : Item) →
    (learn shapes calls known item).windows.space ≡ known.windows.space
item_space shapes calls known item = by_number (accepted_by calls item)
  where
    by_number : (o : Option ℕ) →
        (option_map_or (known_after_number shapes calls known) o known).windows.space ≡ known.windows.space
    by_number None = refl
    by_number (Some number) = number_space shapes calls known number

pub items_space : (shapes : ℕ → List Part) (calls : List Call) (known : Knowledge) (items : List Item) →
    (known_after shapes calls known items).windows.space ≡ known.windows.space
items_space shapes calls known [] = refl
items_space shapes calls known (item ∷ items) = items_space shapes calls (learn shapes calls known item) items
    ∙ item_space shapes calls known item

-- ---- the entries

-- what an entry's call names lies in its rank's memory
abbrev pub EntryHasRoom : Script → ℕ → Item → Type 0
EntryHasRoom script rank item = (number place : ℕ) (step : Step) → item ≡ Entry number place step → (call : Call) →
    slice_get (calls_of script rank) number ≡ Some call → HasRoom (bytes_at (layout script) rank) (action_of call)

pub one_room : (script : Script) (rank number : ℕ) (call : Call) (x : Item) →
    slice_get (calls_of script rank) number ≡ Some call →
    HasRoom (bytes_at (layout script) rank) (action_of call) → number_in x ≡ Some number → EntryHasRoom script rank x
one_room script rank number call x of room is other place step e found at =
    let same : Some number ≡ Some other = sym is ∙ ap number_in e in
    let number_is : number ≡ other = cc same in
    let both : Some call ≡ Some found = sym of ∙ ap (slice_get (calls_of script rank)) number_is ∙ at in
    let call_is : call ≡ found = cc both in
    subst (λ c. HasRoom (bytes_at (layout script) rank) (action_of c)) call_is room

pub block_room : (script : Script) (rank number : ℕ) (call : Call) (items : List Item) →
    slice_get (calls_of script rank) number ≡ Some call →
    HasRoom (bytes_at (layout script) rank) (action_of call) → AreOfOne number items →
    AllByRecursion (EntryHasRoom script rank) items
block_room script rank number call items of room (Single x of_x) = (one_room script rank number call x of room of_x, tt)
block_room script rank number call items of room (Double x y of_x of_y plain) =
    (one_room script rank number call x of room of_x, (one_room script rank number call y of room of_y, tt))

pub no_room : (script : Script) (rank : ℕ) (items : List Item) (x : Item) → items ≡ x ∷ [] →
    ((number place : ℕ) (step : Step) → x ≡ Entry number place step → ⊥) →
    AllByRecursion (EntryHasRoom script rank) items
no_room script rank items x is none =
    subst (AllByRecursion (EntryHasRoom script rank)) (sym is)
    (λ number place step e. absurd (none number place step e), tt)

module _ (script : Script) (delay : Delay) (run : Run) (formed : IsWellFormed script)
    (lawful : IsLawful script delay run) where
  abbrev pub here_at : ℕ → RankOfRun
  here_at rank = rank_in script delay run rank

  pub space_at : (rank : ℕ) (items : List Item) → rank < script.ranks →
      (known_at (here_at rank) items).windows.space ≤ bytes_at (layout script) rank
  space_at rank items within =
      subst (λ n. n ≤ bytes_at (layout script) rank)
      (sym (items_space (shapes_in (stage_of script delay) (rows_of script run)) (calls_of script rank)
      (first_knowledge (stage_of script delay) rank) items))
      (space_has_memory script rank (subst (λ n. rank < n) (sym formed.spaces) within)
      (subst (λ n. rank < n) (sym formed.lists) within))

  pub class_room : (rank : ℕ) (before : List Item) (number : ℕ) (call : Call) (o : Option Class) (items : List Item) →
      rank < script.ranks →
      slice_get (calls_of script rank) number ≡ Some call → own_class (known_at (here_at rank) before) call ≡ o →
      AreItemsBy o (known_at (here_at rank) before) number call items → AreOfOne number items →
      AllByRecursion (EntryHasRoom script rank) items
  class_room rank before number call (Some class) items within of own h one =
      no_room script rank items (Refused number class 0) h (λ n p s e. cc e)
  class_room rank before number call None items within of own (inl refused) one =
      no_room script rank items (Refused number refused.1 (suc refused.2)) refused.3 (λ n p s e. cc e)
  class_room rank before number call None items within of own (inr accepted) one =
      block_room script rank number call items of
      (own_has_room (known_at (here_at rank) before) (bytes_at (layout script) rank) call
      (space_at rank before within) own) one

  pub finished_room : (rank number : ℕ) (items : List Item) → rank < script.ranks →
      AreFinished (here_at rank) number items →
      AllByRecursion (EntryHasRoom script rank) items
  finished_room rank zero items within h = subst (AllByRecursion (EntryHasRoom script rank)) (sym h) tt
  finished_room rank (suc number) items within (before, last, is, earlier, of) =
      let call = some_and (slice_get (calls_of script rank) number) of in
      subst (AllByRecursion (EntryHasRoom script rank)) (sym is)
      (each_append (EntryHasRoom script rank) before last (finished_room rank number before within earlier)
      (class_room rank before number call.0 (own_class (known_at (here_at rank) before) call.0) last within call.1
      refl call.2
      (one_call (here_at rank) before number last of)))

  pub standing_room : (rank : ℕ) (before : List Item) (number : ℕ) (call : Call) (rest : List Item) →
      rank < script.ranks →
      slice_get (calls_of script rank) number ≡ Some call → StandsAt (here_at rank) before number call rest →
      AllByRecursion (EntryHasRoom script rank) rest
  standing_room rank before number call rest within of (own, inl none) =
      subst (AllByRecursion (EntryHasRoom script rank)) (sym none.0) tt
  standing_room rank before number call rest within of (own, inr arrived) =
      subst (AllByRecursion (EntryHasRoom script rank)) (sym arrived.1)
      (block_room script rank number call (Entry number arrived.0 Arrive ∷ []) of
      (own_has_room (known_at (here_at rank) before) (bytes_at (layout script) rank) call
      (space_at rank before within) own)
      (Single (Entry number arrived.0 Arrive) refl))

  pub ending_room : (rank : ℕ) (before : List Item) (number : ℕ) (rest : List Item) → rank < script.ranks →
      EndsOrStands (here_at rank) before number rest →
      AllByRecursion (EntryHasRoom script rank) rest
  ending_room rank before number rest within (inl ended) = no_room script rank rest Ended ended.1 (λ n p s e. cc e)
  ending_room rank before number rest within (inr stands) =
      let call = some_and (slice_get (calls_of script rank) number) stands in
      standing_room rank before number call.0 rest within call.1 call.2

  pub log_room : (rank : ℕ) → rank < script.ranks → AllByRecursion (EntryHasRoom script rank) (log_of run rank)
  log_room rank within = with_touches (EntryHasRoom script rank) no_touch (log_of run rank)
      (by_calls (lawful.logs rank within).calls)
    where
      no_touch : (x : Item) → is_touch x ≡ true → EntryHasRoom script rank x
      no_touch x touch number place step e = absurd (cc (touch, ap is_touch e))

      by_calls : HasItemsOfCalls (here_at rank) (other_items (log_of run rank)) →
          AllByRecursion (EntryHasRoom script rank) (other_items (log_of run rank))
      by_calls (number, before, rest, is, finished, end) =
          subst (AllByRecursion (EntryHasRoom script rank)) (sym is)
          (each_append (EntryHasRoom script rank) before rest (finished_room rank number before within finished)
          (ending_room rank before number rest within end))

  pub entries_sound : (at : ℕ) (xs : List Named) → AllFrom (IsEntryOf script run) at xs →
      AllByRecursion (IsSoundRow script) (flat_map (row_of script) xs)
  unfolding AllFrom
  entries_sound at [] all = tt
  entries_sound at (x ∷ xs) all =
      let e = all.0 in
      let row : row_of script x ≡ record { rank = x.id.rank; number = e.number; call = e.call; step = e.step } ∷ [] =
      ap (row_by script x.id.rank) e.is
      ∙ ap (λ o. option_map_or (λ call. record {
        rank = x.id.rank;
        number = e.number;
        call = call;
        step = e.step;
      } ∷ []) o []) e.of_rank in
      subst (λ l. AllByRecursion (IsSoundRow script) (l ++ flat_map (row_of script) xs)) (sym row) (
        record {
          inside = e.within;
          here = e.of_rank;
          room = each_at (EntryHasRoom script x.id.rank) (log_of run x.id.rank) x.id.index x.item
              (log_room x.id.rank e.within) e.logged
              e.number at e.step e.is e.call e.of_rank;
        },
        entries_sound (at + 1) xs all.1,
      )

  pub rows_sound : AllByRecursion (IsSoundRow script) (rows_of script run)
  rows_sound = entries_sound 0 (entries_of run) (entries_placed script run lawful.ranks lawful.board.entries)

  pub regular_all : (before rows : List Row) → AreRegular script before → AllByRecursion (IsSoundRow script) rows →
      AreAllowed script.ranks before rows →
      AreRegular script (before ++ rows)
  regular_all before [] regular sound allowed = subst (AreRegular script) (sym (append-nil before)) regular
  regular_all before (row ∷ rows) regular sound allowed =
      subst (AreRegular script) (append_assoc before (row ∷ []) rows)
      (regular_all (before ++ row ∷ []) rows (regular_push script before row formed regular sound.0 allowed.0) sound.1
      allowed.1)

  pub regular : AreRegular script (rows_of script run)
  regular = regular_all [] (rows_of script run)
      (record { sound = tt; numbered = tt; flavors = λ window. (Dynamic, tt) }) rows_sound lawful.board.allowed

  -- ---- the entries of a rank without its touches

  pub split_untouched : (log xs ys : List Item) (item : Item) → is_touch item ≡ false →
      other_items log ≡ xs ++ item ∷ ys →
      (front back : List Item) × (log ≡ front ++ item ∷ back) × (other_items front ≡ xs)
  split_untouched [] [] ys item plain e = absurd (cc e)
  split_untouched [] (x ∷ xs) ys item plain e = absurd (cc e)
  split_untouched (z ∷ log) xs ys item plain e =
      by_test (is_touch z) refl (λ xs' e'. split_untouched log xs' ys item plain e') e
    where
      grown : (front back : List Item) → is_touch z ≡ true → log ≡ front ++ item ∷ back → other_items front ≡ xs →
          (front' back' : List Item) × (z ∷ log ≡ front' ++ item ∷ back') × (other_items front' ≡ xs)
      grown front back touch is same = (
        z ∷ front,
        back,
        ap (λ l. z ∷ l) is,
        ap (λ b. cond (not b) (z ∷ other_items front) (other_items front)) touch
            ∙ same,
      )

      kept : is_touch z ≡ false → (xs' : List Item) → xs ≡ z ∷ xs' →
          ((front back : List Item) × (log ≡ front ++ item ∷ back) × (other_items front ≡ xs')) →
          (front' back' : List Item) × (z ∷ log ≡ front' ++ item ∷ back') × (other_items front' ≡ xs)
      kept other xs' is (front, back, split, same) = (
        z ∷ front,
        back,
        ap (λ l. z ∷ l) split,
        ap (λ b. cond (not b) (z ∷ other_items front) (other_items front)) other ∙ ap (λ l. z ∷ l) same ∙ sym is,
      )

      by_list : (l : List Item) → xs ≡ l → is_touch z ≡ false → z ∷ other_items log ≡ l ++ item ∷ ys →
          ((xs' : List Item) → other_items log ≡ xs' ++ item ∷ ys →
          (front back : List Item) × (log ≡ front ++ item ∷ back) × (other_items front ≡ xs')) →
          (front' back' : List Item) × (z ∷ log ≡ front' ++ item ∷ back') × (other_items front' ≡ xs)
      by_list [] is other e later = let same : z ≡ item = cc e in ([], log, ap (λ i. i ∷ log) same, sym is)
      by_list (x ∷ xs') is other e later =
          let same : z ≡ x = cc e in kept other xs' (is ∙ ap (λ i. i ∷ xs') (sym same)) (later xs' (cc e))

      by_test : (b : Bool) → is_touch z ≡ b →
          ((xs' : List Item) → other_items log ≡ xs' ++ item ∷ ys →
          (front back : List Item) × (log ≡ front ++ item ∷ back) × (other_items front ≡ xs')) →
          cond (not b) (z ∷ other_items log) (other_items log) ≡ xs ++ item ∷ ys →
          (front' back' : List Item) × (z ∷ log ≡ front' ++ item ∷ back') × (other_items front' ≡ xs)
      by_test true touch later e = let one = later xs e in grown one.0 one.1 touch one.2 one.3
      by_test false other later e = by_list xs refl other e later

  pub all_entered : (rank : ℕ) (within : rank < script.ranks) →
      AreEntered script delay run formed lawful regular rank within (other_items (log_of run rank))
  all_entered rank within xs ys number place step call e of =
      let split = split_untouched (log_of run rank) xs ys (Entry number place step) refl e in
      let one = entered script delay run lawful rank number place step call split.0 split.1 within split.2 of in
      record {
        before = one.before;
        rest = one.rest;
        split = one.split;
        counts = λ p others. one.counts p others
            ∙ ap (count_by p) (rows_untouched script rank split.0 ∙ ap (rows_in script rank) split.3);
      }
