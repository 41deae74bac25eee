-- What is kept grows item by item to the whole log, and log by log to the whole run.
use Rattle.std.proofs.Common.{◌≡◌, ℕ, zero, suc, ◌+◌, ◌<◌, ◌≤◌, List, [], ◌∷◌, ◌++◌, Option, Some, map, take}
use Rattle.std.proofs.Common.{append_assoc, length, refl, ap, sym, ◌∙◌, subst, arith}
use Rattle.std.specs.Prelude.{slice_get, slice_index_or}
use Rattle.std.specs.List.{AllByRecursion, filter, flat_map, fold}
use Rattle.std.proofs.lemmas.Grind.{flat_map-append}
use Rattle.std.proofs.lemmas.List.{append-nil, map-append, take_all}
use Rattle.rma_types.specs.declared.calls.Call.{Call}
use Rattle.rma_types.specs.declared.schedules.Delay.TheVariants.{Seeded}
use Rattle.rma_types.specs.declared.scripts.Script.{Script}
use Rattle.rma_record.specs.declared.items.Item.{Item}
use Rattle.rma_record.specs.declared.runs.Run.{Run}
use Rattle.call_rules.specs.WellFormed.{IsWellFormed, IsWrittenCall}
use Rattle.lawful_runs.specs.Accesses.{issued_by, issued_from}
use Rattle.lawful_runs.specs.LawfulRun.{IsLawful, rank_in}
use Rattle.lawful_runs.specs.Logs.{Named, calls_of, is_some_entry, log_of, named_from, named_in}
use Rattle.lawful_runs.specs.Logs.{rows_of}
use Rattle.lawful_runs.specs.Stages.{first_knowledge, known_at, shapes_in, stage_of}
use Rattle.lawful_runs.proofs.LogLaws.{calls_written}
use Rattle.order_rules.specs.CallSteps.{issued_access}
use Rattle.order_rules.specs.CallSteps.{steps_of_item}
use Rattle.rank_rules.specs.Knowledge.{learn}
use Rattle.rank_records.specs.Kept.{AreRecordsFrom, EachKept, IsKeptAccess, IsKeptStep, IsRecordOf, entry_kept}
use Rattle.rank_records.specs.Records.{access_kept, in_list, step_kept}
use Rattle.rank_records.specs.Records.{taught_by}
use Rattle.rank_records.specs.Tables.{StandsFor}
use Rattle.rank_records.specs.declared.kept.KeptAccess.{KeptAccess}
use Rattle.rank_records.specs.declared.kept.KeptStep.{KeptStep}
use Rattle.rank_records.specs.declared.kept.RankRecord.{RankRecord}
use Rattle.rank_records.specs.declared.tables.Known.{Known}
use Rattle.rank_records.proofs.Accepted.{passed_at}
use Rattle.rank_records.proofs.Keeping.{access_by_item, step_is_kept}
use Rattle.rank_records.proofs.Taught.{after_item}

-- ---- lists that are kept

pub each_joined : {A B : Type 0} (R : A → B → Type 0) (xs : List A) (ys : List B) (us : List A) (vs : List B) →
    EachKept R xs ys → EachKept R us vs → EachKept R (xs ++ us) (ys ++ vs)
each_joined R [] [] us vs one two = two
each_joined R [] (y ∷ ys) us vs one two = absurd one
each_joined R (x ∷ xs) [] us vs one two = absurd one
each_joined R (x ∷ xs) (y ∷ ys) us vs one two = (one.0, each_joined R xs ys us vs one.1 two)

-- ---- one item more

pub named_more : (rank i : ℕ) (log : List Item) (k : ℕ) (item : Item) → slice_get log k ≡ Some item →
    named_from rank i (take (suc k) log)
    ≡ named_from rank i (take k log) ++ record { id = record { rank = rank; index = i + k }; item = item } ∷ []
named_more rank i [] k item e = absurd (cc e)
named_more rank i (x ∷ log) zero item e =
    let same : x ≡ item = cc e in
    let at : i ≡ i + 0 = omega arith in
    ap (λ y. record { id = record { rank = rank; index = i }; item = y } ∷ []) same
    ∙ ap (λ n. record { id = record { rank = rank; index = n }; item = item } ∷ []) at
named_more rank i (x ∷ log) (suc k) item e =
    let at : i + 1 + k ≡ i + suc k = omega arith in
    ap (λ l. record { id = record { rank = rank; index = i }; item = x } ∷ l) (named_more rank (i + 1) log k item e
    ∙ ap (λ n. named_from rank (i + 1) (take k log)
    ++ record { id = record { rank = rank; index = n }; item = item } ∷ []) at)

issued_more : (calls : List Call) (i : ℕ) (log : List Item) (k : ℕ) (item : Item) → slice_get log k ≡ Some item →
    issued_from calls i (take (suc k) log)
    ≡ issued_from calls i (take k log) ++ in_list (issued_by calls (i + k) item)
issued_more calls i [] k item e = absurd (cc e)
issued_more calls i (x ∷ log) zero item e =
    let same : x ≡ item = cc e in
    let at : i ≡ i + 0 = omega arith in
    append-nil (in_list (issued_by calls i x)) ∙ ap (λ y. in_list (issued_by calls i y)) same
    ∙ ap (λ n. in_list (issued_by calls n item)) at
issued_more calls i (x ∷ log) (suc k) item e =
    let at : i + 1 + k ≡ i + suc k = omega arith in
    ap (λ l. in_list (issued_by calls i x) ++ l) (issued_more calls (i + 1) log k item e
    ∙ ap (λ n. issued_from calls (i + 1) (take k log) ++ in_list (issued_by calls n item)) at)
    ∙ sym (append_assoc (in_list (issued_by calls i x)) (issued_from calls (i + 1) (take k log))
    (in_list (issued_by calls (i + suc k) item)))

fold_more : {X Y : Type 0} (f : Y → X → Y) (y : Y) (xs : List X) (k : ℕ) (x : X) → slice_get xs k ≡ Some x →
    fold f y (take (suc k) xs) ≡ f (fold f y (take k xs)) x
fold_more f y [] k x e = absurd (cc e)
fold_more f y (z ∷ xs) zero x e = let same : z ≡ x = cc e in ap (f y) same
fold_more f y (z ∷ xs) (suc k) x e = fold_more f (f y z) xs k x e

written_at : (lists : List (List Call)) (rank : ℕ) → AllByRecursion (AllByRecursion IsWrittenCall) lists →
    AllByRecursion IsWrittenCall (slice_index_or lists rank [])
written_at [] rank h = tt
written_at (calls ∷ lists) zero h = h.0
written_at (calls ∷ lists) (suc rank) h = written_at lists rank h.1

-- an item of a rank's log, with its name
abbrev named_at : ℕ → ℕ → Item → Named
named_at rank k item = record { id = record { rank = rank; index = k }; item = item }

module _ (script : Script) (run : Run) (formed : IsWellFormed script) (rank k : ℕ) (item : Item)
    (e : slice_get (log_of run rank) k ≡ Some item) (tables : Known)
    (stands : StandsFor (known_at (rank_in script Seeded run rank) (take k (log_of run rank))) tables) where
  next : k + 1 ≡ suc k
  next = omega arith

  no_more : 0 + k ≡ k
  no_more = omega arith

  -- what is known after the item
  pub stands_more : IsLawful script Seeded run → rank < script.ranks →
      StandsFor (known_at (rank_in script Seeded run rank) (take (k + 1) (log_of run rank)))
      (taught_by tables (calls_of script rank) item)
  stands_more lawful within =
      subst (λ n. StandsFor (known_at (rank_in script Seeded run rank) (take n (log_of run rank)))
      (taught_by tables (calls_of script rank) item)) (sym next)
      (subst (λ known. StandsFor known (taught_by tables (calls_of script rank) item))
      (sym (fold_more
      (learn (shapes_in (stage_of script Seeded) (rows_of script run)) (calls_of script rank))
      (first_knowledge (stage_of script Seeded) rank) (log_of run rank) k item e))
      (after_item (shapes_in (stage_of script Seeded) (rows_of script run)) (calls_of script rank)
      (calls_written script rank formed)
      (known_at (rank_in script Seeded run rank) (take k (log_of run rank))) tables stands item
      (passed_at (rank_in script Seeded run rank) (log_of run rank) k item (lawful.logs rank within).calls e)))

  -- the steps of the items up to and with this one
  pub steps_more : (steps : List KeptStep) →
      EachKept (IsKeptStep script) steps
      (flat_map (steps_of_item script run) (named_in rank (take k (log_of run rank)))) →
      EachKept (IsKeptStep script)
      (steps ++ in_list (step_kept tables (calls_of script rank) (record { rank = rank; index = k }) item))
      (flat_map (steps_of_item script run) (named_in rank (take (k + 1) (log_of run rank))))
  steps_more steps old =
      subst (EachKept (IsKeptStep script)
      (steps ++ in_list (step_kept tables (calls_of script rank) (record { rank = rank; index = k }) item)))
      (sym more)
      (each_joined (IsKeptStep script) steps
      (flat_map (steps_of_item script run) (named_in rank (take k (log_of run rank))))
      (in_list (step_kept tables (calls_of script rank) (record { rank = rank; index = k }) item))
      (steps_of_item script run (named_at rank k item)) old
      (step_is_kept script run (named_at rank k item) tables stands (calls_written script rank formed)))
    where
      more : flat_map (steps_of_item script run) (named_in rank (take (k + 1) (log_of run rank)))
          ≡ flat_map (steps_of_item script run) (named_in rank (take k (log_of run rank)))
          ++ steps_of_item script run (named_at rank k item)
      more =
          ap (λ n. flat_map (steps_of_item script run) (named_in rank (take n (log_of run rank)))) next
          ∙ ap (flat_map (steps_of_item script run)) (named_more rank 0 (log_of run rank) k item e)
          ∙ ap (λ n. flat_map (steps_of_item script run)
          (named_in rank (take k (log_of run rank)) ++ named_at rank n item ∷ [])) no_more
          ∙ flat_map-append (steps_of_item script run) (named_in rank (take k (log_of run rank)))
          (named_at rank k item ∷ [])
          ∙ ap (λ l. flat_map (steps_of_item script run) (named_in rank (take k (log_of run rank))) ++ l)
          (append-nil (steps_of_item script run (named_at rank k item)))

  -- the accesses of the items up to and with this one
  pub accesses_more : (accesses : List KeptAccess) →
      EachKept IsKeptAccess accesses
      (map (issued_access script run rank) (issued_from (calls_of script rank) 0 (take k (log_of run rank)))) →
      EachKept IsKeptAccess
      (accesses ++ in_list (access_kept tables (calls_of script rank) (record { rank = rank; index = k }) item))
      (map (issued_access script run rank) (issued_from (calls_of script rank) 0 (take (k + 1) (log_of run rank))))
  accesses_more accesses old =
      subst (EachKept IsKeptAccess
      (accesses ++ in_list (access_kept tables (calls_of script rank) (record { rank = rank; index = k }) item)))
      (sym more)
      (each_joined IsKeptAccess accesses
      (map (issued_access script run rank) (issued_from (calls_of script rank) 0 (take k (log_of run rank))))
      (in_list (access_kept tables (calls_of script rank) (record { rank = rank; index = k }) item))
      (map (issued_access script run rank) (in_list (issued_by (calls_of script rank) k item))) old
      (access_by_item script run (named_at rank k item) tables stands (calls_written script rank formed) item))
    where
      more : map (issued_access script run rank)
          (issued_from (calls_of script rank) 0 (take (k + 1) (log_of run rank)))
          ≡ map (issued_access script run rank) (issued_from (calls_of script rank) 0 (take k (log_of run rank)))
          ++ map (issued_access script run rank) (in_list (issued_by (calls_of script rank) k item))
      more =
          ap (λ n. map (issued_access script run rank)
          (issued_from (calls_of script rank) 0 (take n (log_of run rank)))) next
          ∙ ap (map (issued_access script run rank))
          (issued_more (calls_of script rank) 0 (log_of run rank) k item e)
          ∙ ap (λ n. map (issued_access script run rank)
          (issued_from (calls_of script rank) 0 (take k (log_of run rank))
          ++ in_list (issued_by (calls_of script rank) n item))) no_more
          ∙ map-append (issued_access script run rank)
          (issued_from (calls_of script rank) 0 (take k (log_of run rank)))
          (in_list (issued_by (calls_of script rank) k item))

  -- the same, of lists and tables that are these
  pub stands_at : IsLawful script Seeded run → rank < script.ranks → (calls : List Call) →
      calls ≡ calls_of script rank → (new : Known) → new ≡ taught_by tables calls item →
      StandsFor (known_at (rank_in script Seeded run rank) (take (k + 1) (log_of run rank))) new
  stands_at lawful within calls calls_are new new_is =
      subst (StandsFor (known_at (rank_in script Seeded run rank) (take (k + 1) (log_of run rank))))
      (sym (new_is ∙ ap (λ l. taught_by tables l item) calls_are)) (stands_more lawful within)

  pub steps_at : (steps : List KeptStep) →
      EachKept (IsKeptStep script) steps
      (flat_map (steps_of_item script run) (named_in rank (take k (log_of run rank)))) → (calls : List Call) →
      calls ≡ calls_of script rank → (index : ℕ) → index ≡ k → (found : Option KeptStep) →
      found ≡ step_kept tables calls (record { rank = rank; index = index }) item →
      (new : List KeptStep) → new ≡ steps ++ in_list found →
      EachKept (IsKeptStep script) new
      (flat_map (steps_of_item script run) (named_in rank (take (k + 1) (log_of run rank))))
  steps_at steps old calls calls_are index index_is found found_is new new_is =
      subst (λ l. EachKept (IsKeptStep script) l
      (flat_map (steps_of_item script run) (named_in rank (take (k + 1) (log_of run rank))))) (sym whole)
      (steps_more steps old)
    where
      whole : new ≡ steps
          ++ in_list (step_kept tables (calls_of script rank) (record { rank = rank; index = k }) item)
      whole =
          new_is ∙ ap (λ o. steps ++ in_list o) (found_is
          ∙ ap (λ l. step_kept tables l (record { rank = rank; index = index }) item) calls_are
          ∙ ap (λ n. step_kept tables (calls_of script rank) (record { rank = rank; index = n }) item) index_is)

  pub accesses_at : (accesses : List KeptAccess) →
      EachKept IsKeptAccess accesses
      (map (issued_access script run rank) (issued_from (calls_of script rank) 0 (take k (log_of run rank)))) →
      (calls : List Call) → calls ≡ calls_of script rank → (index : ℕ) → index ≡ k → (found : Option KeptAccess) →
      found ≡ access_kept tables calls (record { rank = rank; index = index }) item →
      (new : List KeptAccess) → new ≡ accesses ++ in_list found →
      EachKept IsKeptAccess new
      (map (issued_access script run rank) (issued_from (calls_of script rank) 0 (take (k + 1) (log_of run rank))))
  accesses_at accesses old calls calls_are index index_is found found_is new new_is =
      subst (λ l. EachKept IsKeptAccess l
      (map (issued_access script run rank) (issued_from (calls_of script rank) 0 (take (k + 1) (log_of run rank)))))
      (sym whole) (accesses_more accesses old)
    where
      whole : new ≡ accesses
          ++ in_list (access_kept tables (calls_of script rank) (record { rank = rank; index = k }) item)
      whole =
          new_is ∙ ap (λ o. accesses ++ in_list o) (found_is
          ∙ ap (λ l. access_kept tables l (record { rank = rank; index = index }) item) calls_are
          ∙ ap (λ n. access_kept tables (calls_of script rank) (record { rank = rank; index = n }) item) index_is)

pub one_longer : {X : Type 0} (xs : List X) (x : X) → length (xs ++ x ∷ []) ≡ length xs + 1
one_longer [] x = refl
one_longer (y ∷ xs) x = let rest = one_longer xs x in omega (arith, rest)

-- nothing is kept of no items
pub none_kept : {A B : Type 0} (R : A → B → Type 0) (xs : List A) → xs ≡ [] → EachKept R xs []
none_kept R xs e = subst (λ l. EachKept R l []) (sym e) tt

-- ---- the whole log, and all ranks

-- where no item is left, all steps and accesses are kept
pub all_kept : (script : Script) (run : Run) (rank k : ℕ) (kept : RankRecord) → length (log_of run rank) ≤ k →
    EachKept (IsKeptStep script) kept.steps
    (flat_map (steps_of_item script run) (named_in rank (take k (log_of run rank)))) →
    flat_map entry_kept kept.steps ≡ filter is_some_entry (named_in rank (take k (log_of run rank))) →
    EachKept IsKeptAccess kept.accesses
    (map (issued_access script run rank) (issued_from (calls_of script rank) 0 (take k (log_of run rank)))) →
    IsRecordOf script run rank kept
all_kept script run rank k kept past steps entries accesses =
    let whole = take_all k (log_of run rank) past in
    record {
      steps = subst (λ l. EachKept (IsKeptStep script) kept.steps
          (flat_map (steps_of_item script run) (named_in rank l))) whole steps;
      entries = subst (λ l. flat_map entry_kept kept.steps ≡ filter is_some_entry (named_in rank l)) whole entries;
      accesses = subst (λ l. EachKept IsKeptAccess kept.accesses
          (map (issued_access script run rank) (issued_from (calls_of script rank) 0 l))) whole accesses;
    }

pub records_more : (script : Script) (run : Run) (rank : ℕ) (records : List RankRecord) (new : RankRecord) →
    AreRecordsFrom script run rank records → IsRecordOf script run (rank + length records) new →
    AreRecordsFrom script run rank (records ++ new ∷ [])
records_more script run rank [] new records is =
    let at : rank + 0 ≡ rank = omega arith in
    (subst (λ r. IsRecordOf script run r new) at is, tt)
records_more script run rank (one ∷ records) new old is =
    let at : rank + length (one ∷ records) ≡ rank + 1 + length records = omega arith in
    (old.0, records_more script run (rank + 1) records new old.1 (subst (λ r. IsRecordOf script run r new) at is))
