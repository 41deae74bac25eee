-- The tables stand for what is known after each item of a lawful log.
use Rattle.std.proofs.Common.{◌≡◌, ℕ, zero, suc, Bool, true, false, cond, not, List, [], ◌∷◌, Option, Some, None, map}
use Rattle.std.proofs.Common.{replicate, refl, ap, sym, ◌∙◌, subst}
use Rattle.std.specs.Prelude.{int_lt, pos, slice_get, slice_index_or, slice_set, is_none}
use Rattle.std.specs.List.{AllByRecursion}
use Rattle.std.specs.Option.{option_map, option_map_or}
use Rattle.std.proofs.lemmas.List.{map-set}
use Rattle.std.proofs.Math.ListN.{get_or-map}
use Rattle.std.proofs.Math.Seq.{map-set_same}
use Rattle.list_laws.proofs.Each.{each_at}
use Rattle.rma_types.specs.declared.accesses.Step.{Step}
use Rattle.rma_types.specs.declared.accesses.Step.TheVariants.{Arrive, Leave, One}
use Rattle.rma_types.specs.declared.calls.Call.{Call}
use Rattle.rma_types.specs.declared.classes.Class.{Class}
use Rattle.rma_types.specs.declared.classes.Class.TheVariants.{Assert, Base, Disp, Rank, Size, Sync, Win}
use Rattle.rma_types.specs.declared.scripts.Part.{Part}
use Rattle.rma_record.specs.declared.items.Item.{Item}
use Rattle.rma_record.specs.declared.items.Item.TheVariants.{Issue, Null, Touch, Flush, Request, Entry, Tested, Refused}
use Rattle.rma_record.specs.declared.items.Item.TheVariants.{Ended}
use Rattle.rma_types.specs.declared.actions.Action.{Action}
use Rattle.rma_types.specs.declared.actions.Action.TheVariants.{Creates, Frees, Attaches, Detaches, Synchronises, Meets}
use Rattle.rma_types.specs.declared.actions.Action.TheVariants.{Moves, EndsRequest}
use Rattle.rma_types.specs.declared.actions.Creation.{Creation}
use Rattle.rma_types.specs.declared.actions.Synchronisation.{Synchronisation}
use Rattle.rma_types.specs.declared.actions.Transfer.{Transfer}
use Rattle.rma_types.specs.Actions.{action_of, transfer_in}
use Rattle.call_rules.specs.WellFormed.{IsWrittenAction, IsWrittenCall}
use Rattle.rank_rules.specs.Classes.{Test, least_class}
use Rattle.rank_rules.specs.Epochs.{Epochs, after_synchronisation, after_transfer, epochs_after, epochs_at}
use Rattle.rank_rules.specs.Epochs.{may_synchronise, no_epochs}
use Rattle.rank_rules.specs.EpochTests.{epoch_class, has_wrong_assert, names_wrong_rank}
use Rattle.rank_rules.specs.Knowledge.{Knowledge, ends_call, known_after_call, known_after_number, learn, own_class}
use Rattle.rank_rules.specs.Knowledge.{nothing_known}
use Rattle.rank_rules.specs.Requests.{request_class, requests_after}
use Rattle.rank_rules.specs.Windows.{RankWindows, is_live, windows_after}
use Rattle.rank_rules.specs.WindowTests.{has_wrong_base, window_class}
use Rattle.rank_rules.proofs.ClassLaws.{least_none, first_passed}
use Rattle.rma_rules.specs.WindowNumbers.{IsEmptyTable}
use Rattle.rma_rules.proofs.Names.{follow}
use Rattle.rank_records.specs.Deeds.{deed_by, is_transfer, turn_by}
use Rattle.rank_records.specs.Records.{ends_by, lesson_if, taught_by, taught_if}
use Rattle.rank_records.specs.Tables.{AreApart, StandsFor, epoch_by, taught, turned}
use Rattle.rank_records.specs.declared.records.Lesson.{Lesson}
use Rattle.rank_records.specs.declared.tables.Epoch.{Epoch}
use Rattle.rank_records.specs.declared.tables.Epoch.TheVariants.{Idle}
use Rattle.rank_records.specs.declared.tables.Known.{Known}
use Rattle.rank_records.proofs.Accepted.{IsPassed}
use Rattle.rank_records.proofs.Locked.{move_follows, once_at, once_first, once_set, turn_follows}

-- ---- a call that the rank did not refuse

least_choice : (b : Bool) (class other : Class) → ◌≡◌ {A = Option Class} (cond b (Some other) (Some class)) None → ⊥
least_choice true class other e = cc e
least_choice false class other e = cc e

-- a window that is made was not live
is_new : (known : RankWindows) (creation : Creation) → window_class known (Creates creation) ≡ None →
    is_live known creation.win ≡ false
is_new known creation e =
    let rest : List Test = (int_lt creation.bytes (pos 0), Size)
    ∷ (has_wrong_base known creation.flavor creation.base creation.bytes, Base)
    ∷ (int_lt creation.unit (pos 1), Disp)
    ∷ [] in
    (first_passed (is_live known creation.win) Win rest e).0

not_false : (b : Bool) → not b ≡ false → b ≡ true
not_false true e = refl
not_false false e = absurd (cc e)

-- ---- after one call

abbrev by_access : Epochs → Epoch
by_access one = epoch_by one.access

same_set : {X : Type 0} (xs : List X) (k : ℕ) (d : X) → slice_set xs k (slice_index_or xs k d) ≡ xs
same_set [] k d = refl
same_set (x ∷ xs) zero d = refl
same_set (x ∷ xs) (suc k) d = ap (λ l. x ∷ l) (same_set xs k d)

module _ (shapes : ℕ → List Part) (known : Knowledge) (tables : Known) (number : ℕ) (stands : StandsFor known tables)
  where
    -- the tables stand for what is known after the action
    abbrev StandAfter : Action → Type 0
    StandAfter a = StandsFor (record {
      windows = windows_after shapes known.windows a;
      epochs = epochs_after known.epochs a;
      requests = requests_after known.requests number a;
    }) (taught tables number (deed_by a))

    set_epoch : (win : ℕ) (new : Epochs) →
        slice_set tables.epochs win (epoch_by new.access) ≡ map by_access (slice_set known.epochs win new)
    set_epoch win new =
        ap (λ l. slice_set l win (epoch_by new.access)) stands.epochs ∙ sym (map-set by_access known.epochs win new)

    epoch_is : (win : ℕ) → slice_index_or tables.epochs win Idle ≡ epoch_by (epochs_at known.epochs win).access
    epoch_is win =
        ap (λ l. slice_index_or l win Idle) stands.epochs ∙ get_or-map by_access known.epochs win no_epochs

    stays : (win : ℕ) → slice_set tables.epochs win (slice_index_or tables.epochs win Idle)
        ≡ map by_access known.epochs
    stays win = same_set tables.epochs win Idle ∙ stands.epochs

    synchronised : (win : ℕ) (s : Synchronisation) → epoch_class known.windows.ranks known.epochs (Synchronises win s)
        ≡ None → StandAfter (Synchronises win s)
    synchronised win s passes =
        let here = epochs_at known.epochs win in
        let last : List Test = (not (may_synchronise here s), Sync) ∷ [] in
        let ranks = first_passed (names_wrong_rank known.windows.ranks s) Rank
        ((has_wrong_assert here s, Assert) ∷ last)
        passes in
        let asserts = first_passed (has_wrong_assert here s) Assert last ranks.1 in
        let allows = first_passed (not (may_synchronise (epochs_at known.epochs win) s)) Sync [] asserts.1 in
        let new = turn_follows here.access here.exposure s (not_false (may_synchronise here s) allows.0)
        (once_at known.epochs win stands.once) in
        record {
          numbers = stands.numbers;
          epochs = ap (λ e. slice_set tables.epochs win (turned e (turn_by s))) (epoch_is win)
              ∙ ap (slice_set tables.epochs win) (sym new.0)
              ∙ set_epoch win (after_synchronisation (epochs_at known.epochs win) s);
          once = once_set known.epochs win (after_synchronisation (epochs_at known.epochs win) s) stands.once new.1;
          makers = stands.makers;
        }

    moved : (t : Transfer) → StandAfter (Moves t)
    moved t =
        let here = epochs_at known.epochs t.win in
        let new = move_follows here.access t in
        let after : Epochs = record { access = after_transfer here.access t; exposure = here.exposure } in
        record {
          numbers = stands.numbers;
          epochs = stands.epochs ∙ sym (map-set_same by_access known.epochs t.win after no_epochs new.0);
          once = once_set known.epochs t.win after stands.once
              (subst AreApart (sym new.1) (once_at known.epochs t.win stands.once));
          makers = ap (λ l. option_map_or (λ req. slice_set l req (Some number)) t.request l) stands.makers;
        }

    after_action : (a : Action) → IsWrittenAction a → window_class known.windows a ≡ None →
        epoch_class known.windows.ranks known.epochs a ≡ None → StandAfter a
    after_action (Creates creation) written windows epochs = record {
      numbers = follow.creates shapes known.windows tables.numbers creation written.name
          (is_new known.windows creation windows) stands.numbers;
      epochs = set_epoch creation.win no_epochs;
      once = once_set known.epochs creation.win no_epochs stands.once tt;
      makers = stands.makers;
    }
    after_action (Frees win) written windows epochs = record {
      numbers = follow.frees shapes known.windows tables.numbers win written stands.numbers;
      epochs = set_epoch win no_epochs;
      once = once_set known.epochs win no_epochs stands.once tt;
      makers = stands.makers;
    }
    after_action (Attaches win base bytes) written windows epochs = record {
      numbers = record {
        names = stands.numbers.names;
        rounds = stands.numbers.rounds;
        live = stands.numbers.live;
        counted = stands.numbers.counted;
      };
      epochs = stays win;
      once = stands.once;
      makers = stands.makers;
    }
    after_action (Detaches win base) written windows epochs = record {
      numbers = record {
        names = stands.numbers.names;
        rounds = stands.numbers.rounds;
        live = stands.numbers.live;
        counted = stands.numbers.counted;
      };
      epochs = stays win;
      once = stands.once;
      makers = stands.makers;
    }
    after_action (Synchronises win s) written windows epochs = synchronised win s epochs
    after_action Meets written windows epochs = stands
    after_action (Moves t) written windows epochs = moved t
    after_action (EndsRequest req) written windows epochs = record {
      numbers = stands.numbers;
      epochs = stands.epochs;
      once = stands.once;
      makers = ap (λ l. slice_set l req None) stands.makers;
    }

    after_call : (call : Call) → IsWrittenCall call → own_class known call ≡ None →
        StandsFor (known_after_call shapes known number call) (taught tables number (deed_by (action_of call)))
    after_call call written own =
        let a = action_of call in
        let windows = least_none (window_class known.windows a)
        (least_class (epoch_class known.windows.ranks known.epochs a) (request_class known.requests a)) own in
        let epochs = least_none (epoch_class known.windows.ranks known.epochs a) (request_class known.requests a)
        windows.1 in
        after_action (action_of call) written windows.0 epochs.0

-- ---- after one item

ends_same : (a : Action) → is_none (transfer_in a) ≡ not (is_transfer (deed_by a))
ends_same (Creates creation) = refl
ends_same (Frees win) = refl
ends_same (Attaches win base bytes) = refl
ends_same (Detaches win base) = refl
ends_same (Synchronises win s) = refl
ends_same Meets = refl
ends_same (Moves t) = refl
ends_same (EndsRequest req) = refl

ends_alike : (step : Step) (call : Call) → ends_call step call ≡ ends_by step (deed_by (action_of call))
ends_alike Arrive call = refl
ends_alike Leave call = refl
ends_alike One call = ends_same (action_of call)

module _ (shapes : ℕ → List Part) (calls : List Call) (written : AllByRecursion IsWrittenCall calls)
    (known : Knowledge) (tables : Known) (stands : StandsFor known tables) where
  -- the tables stand for what is known after the call of this number, if there is one
  abbrev StandWith : Option ℕ → Option Lesson → Type 0
  StandWith number lesson =
      StandsFor (option_map_or (known_after_number shapes calls known) number known) (taught_if tables lesson)

  after_number : (number : ℕ) (call : Call) → slice_get calls number ≡ Some call → own_class known call ≡ None →
      StandWith (Some number) (Some (record { call = number; deed = deed_by (action_of call) }))
  after_number number call of own =
      subst (λ o. StandsFor (option_map_or (known_after_call shapes known number) o known)
      (taught tables number (deed_by (action_of call)))) (sym of)
      (after_call shapes known tables number stands call (each_at IsWrittenCall calls number call written of) own)

  -- an item of this number, where its step ends its call or not
  after_step : (number : ℕ) (step : Step) (o : Option Call) → slice_get calls number ≡ o →
      ((call : Call) → o ≡ Some call → ends_call step call ≡ true → own_class known call ≡ None) →
      StandWith (option_map_or (λ (call : Call). cond (ends_call step call) (Some number) None) o None)
      (option_map_or (λ d. lesson_if (ends_by step d) number d) (option_map (λ call. deed_by (action_of call)) o) None)
  after_step number step None of passes = stands
  after_step number step (Some call) of passes =
      by_end (ends_call step call) (ends_by step (deed_by (action_of call))) (ends_alike step call)
      (λ ends. passes call refl ends)
    where
      by_end : (b c : Bool) → b ≡ c → (b ≡ true → own_class known call ≡ None) →
          StandWith (cond b (Some number) None) (lesson_if c number (deed_by (action_of call)))
      by_end true true same own = after_number number call of (own refl)
      by_end true false same own = absurd (cc same)
      by_end false true same own = absurd (cc same)
      by_end false false same own = stands

  after_known : (number : ℕ) (o : Option Call) → slice_get calls number ≡ o →
      ((call : Call) → o ≡ Some call → own_class known call ≡ None) →
      StandWith (Some number)
      (option_map_or (λ d. lesson_if (ends_by Leave d) number d) (option_map (λ call. deed_by (action_of call)) o) None)
  after_known number None of passes =
      subst (λ o. StandsFor (option_map_or (known_after_call shapes known number) o known) tables) (sym of) stands
  after_known number (Some call) of passes = after_number number call of (passes call refl)

  ended_by : (step : Step) (number : ℕ) (call : Call) → slice_get calls number ≡ Some call →
      ends_call step call ≡ true →
      option_map_or (λ (c : Call). cond (ends_call step c) (Some number) None) (slice_get calls number) None
      ≡ Some number
  ended_by step number call of ends =
      ap (λ o. option_map_or (λ (c : Call). cond (ends_call step c) (Some number) None) o None) of
      ∙ ap (λ b. cond b (Some number) None) ends

  pub after_item : (item : Item) → IsPassed calls known item →
      StandsFor (learn shapes calls known item) (taught_by tables calls item)
  after_item (Issue number access) passed =
      after_known number (slice_get calls number) refl (λ call of. passed number call refl of)
  after_item (Null number) passed =
      after_known number (slice_get calls number) refl (λ call of. passed number call refl of)
  after_item (Touch issue element cell place bits) passed = stands
  after_item (Flush number) passed =
      after_known number (slice_get calls number) refl (λ call of. passed number call refl of)
  after_item (Request number) passed =
      after_known number (slice_get calls number) refl (λ call of. passed number call refl of)
  after_item (Entry number place step) passed =
      after_step number step (slice_get calls number) refl
      (λ call of ends. passed number call (ended_by step number call of ends) of)
  after_item (Tested number seen) passed = stands
  after_item (Refused number class seen) passed = stands
  after_item Ended passed = stands

-- ---- before the first call

pub first_stands : (rank ranks space : ℕ) (tables : Known) → IsEmptyTable tables.numbers →
    tables.epochs ≡ replicate 32 Idle → tables.makers ≡ replicate 64 None →
    StandsFor (nothing_known rank ranks space) tables
first_stands rank ranks space tables numbers epochs makers = record {
  numbers = follow.first rank ranks space tables.numbers numbers;
  epochs = epochs;
  once = once_first 32;
  makers = makers;
}
