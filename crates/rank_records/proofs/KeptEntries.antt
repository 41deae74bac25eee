-- The steps with a place are the entries of a log.
use Rattle.std.proofs.Common.{◌≡◌, ℕ, zero, suc, ◌+◌, ◌<◌, List, [], ◌∷◌, ◌++◌, Option, Some, None, take, length}
use Rattle.std.proofs.Common.{refl, ap, sym, ◌∙◌, subst, arith}
use Rattle.std.specs.Prelude.{slice_get, slice_index_or}
use Rattle.std.specs.List.{AllByRecursion, filter, flat_map}
use Rattle.std.specs.Option.{option_map}
use Rattle.std.proofs.lemmas.Grind.{flat_map-append}
use Rattle.std.proofs.lemmas.List.Elements.{filter-append}
use Rattle.std.proofs.lemmas.Option.{slice_get-get_or}
use Rattle.list_laws.proofs.Each.{each_at}
use Rattle.rma_types.specs.declared.accesses.Id.{Id}
use Rattle.rma_types.specs.declared.accesses.Step.{Step}
use Rattle.rma_types.specs.declared.calls.Call.{Call}
use Rattle.rma_types.specs.declared.calls.Call.TheVariants.{Barrier}
use Rattle.rma_types.specs.declared.schedules.Delay.TheVariants.{Seeded}
use Rattle.rma_types.specs.declared.scripts.Script.{Script}
use Rattle.rma_record.specs.declared.items.Item.{Item}
use Rattle.rma_record.specs.declared.items.Item.TheVariants.{Issue, Null, Touch, Flush, Request, Entry, Tested, Refused}
use Rattle.rma_record.specs.declared.items.Item.TheVariants.{Ended}
use Rattle.rma_record.specs.declared.runs.Run.{Run}
use Rattle.rma_types.specs.Actions.{action_of}
use Rattle.lawful_runs.specs.BoardLaw.{NamesCallOf, NamesItsCall}
use Rattle.lawful_runs.specs.LawfulRun.{IsLawful}
use Rattle.lawful_runs.specs.Logs.{Named, calls_of, is_some_entry, log_of, named_from, named_in, named_logs}
use Rattle.rank_records.specs.Deeds.{deed_by}
use Rattle.rank_records.specs.Kept.{entry_kept}
use Rattle.rank_records.specs.Records.{in_list, step_kept, step_with}
use Rattle.rank_records.specs.declared.deeds.Deed.{Deed}
use Rattle.rank_records.specs.declared.kept.KeptStep.{KeptStep}
use Rattle.rank_records.specs.declared.tables.Known.{Known}
use Rattle.rank_records.proofs.WholeLogs.{named_more}

-- ---- an entry names a call of its rank

split_all : {X : Type 0} (P : X → Type 0) (xs ys : List X) → AllByRecursion P (xs ++ ys) →
    AllByRecursion P xs × AllByRecursion P ys
split_all P [] ys all = (tt, all)
split_all P (x ∷ xs) ys all = let rest = split_all P xs ys all.1 in ((all.0, rest.0), rest.1)

all_of_log : (P : Named → Type 0) (first : ℕ) (logs : List (List Item)) (rank : ℕ) →
    AllByRecursion P (named_logs first logs) → AllByRecursion P (named_in (first + rank) (slice_index_or logs rank []))
all_of_log P first [] rank all = tt
all_of_log P first (log ∷ logs) zero all =
    let at : first ≡ first + 0 = omega arith in
    subst (λ n. AllByRecursion P (named_in n log)) at
    (split_all P (named_in first log) (named_logs (first + 1) logs) all).0
all_of_log P first (log ∷ logs) (suc rank) all =
    let at : first + 1 + rank ≡ first + suc rank = omega arith in
    subst (λ n. AllByRecursion P (named_in n (slice_index_or logs rank []))) at
    (all_of_log P (first + 1) logs rank (split_all P (named_in first log) (named_logs (first + 1) logs) all).1)

named_get : (rank i : ℕ) (log : List Item) (k : ℕ) (item : Item) → slice_get log k ≡ Some item →
    slice_get (named_from rank i log) k ≡ Some (record { id = record { rank = rank; index = i + k }; item = item })
named_get rank i [] k item e = absurd (cc e)
named_get rank i (x ∷ log) zero item e =
    let same : x ≡ item = cc e in
    let at : i ≡ i + 0 = omega arith in
    λ j. Some (record { id = record { rank = rank; index = at j }; item = same j })
named_get rank i (x ∷ log) (suc k) item e =
    let at : i + 1 + k ≡ i + suc k = omega arith in
    named_get rank (i + 1) log k item e
    ∙ ap (λ n. Some (record { id = record { rank = rank; index = n }; item = item })) at

names_its_call : (script : Script) (run : Run) → IsLawful script Seeded run → (rank k : ℕ) (item : Item) →
    slice_get (log_of run rank) k ≡ Some item → NamesCallOf script rank item
names_its_call script run lawful rank k item e =
    let same : 0 + rank ≡ rank = omega arith in
    subst (λ r. NamesCallOf script r item) same
    (each_at (NamesItsCall script) (named_in (0 + rank) (log_of run rank)) k
    (record { id = record { rank = 0 + rank; index = 0 + k }; item = item })
    (all_of_log (NamesItsCall script) 0 run.logs rank lawful.board.entries.calls)
    (named_get (0 + rank) 0 (log_of run rank) k item e))

-- ---- one item

unplaced : (tables : Known) (id : Id) (number : ℕ) (step : Step) (o : Option Deed) →
    ◌≡◌ {A = List Named} (flat_map entry_kept (in_list (option_map (step_with tables id None number step) o))) []
unplaced tables id number step None = refl
unplaced tables id number step (Some deed) = refl

entry_of_item : (tables : Known) (calls : List Call) (id : Id) (item : Item) →
    ((number place : ℕ) (step : Step) → item ≡ Entry number place step → number < length calls) →
    flat_map entry_kept (in_list (step_kept tables calls id item))
    ≡ filter is_some_entry (record { id = id; item = item } ∷ [])
entry_of_item tables calls id (Issue number access) names = refl
entry_of_item tables calls id (Null number) names = refl
entry_of_item tables calls id (Touch issue element cell place bits) names = refl
entry_of_item tables calls id (Flush number) names =
    unplaced tables id number _ (option_map (λ call. deed_by (action_of call)) (slice_get calls number))
entry_of_item tables calls id (Request number) names =
    unplaced tables id number _ (option_map (λ call. deed_by (action_of call)) (slice_get calls number))
entry_of_item tables calls id (Entry number place step) names =
    ap (λ o. flat_map entry_kept (in_list (option_map (step_with tables id (Some place) number step)
    (option_map (λ call. deed_by (action_of call)) o))))
    (slice_get-get_or calls number Barrier (names number place step refl))
entry_of_item tables calls id (Tested number seen) names = refl
entry_of_item tables calls id (Refused number class seen) names = refl
entry_of_item tables calls id Ended names = refl

-- ---- one item more

pub entries_at : (script : Script) (run : Run) → IsLawful script Seeded run → (rank k : ℕ) (item : Item) →
    slice_get (log_of run rank) k ≡ Some item → (tables : Known) (steps : List KeptStep) →
    flat_map entry_kept steps ≡ filter is_some_entry (named_in rank (take k (log_of run rank))) → (calls : List Call) →
    calls ≡ calls_of script rank → (index : ℕ) → index ≡ k → (found : Option KeptStep) →
    found ≡ step_kept tables calls (record { rank = rank; index = index }) item →
    (new : List KeptStep) → new ≡ steps ++ in_list found →
    flat_map entry_kept new ≡ filter is_some_entry (named_in rank (take (k + 1) (log_of run rank)))
entries_at script run lawful rank k item e tables steps old calls calls_are index index_is found found_is new new_is =
    let log = log_of run rank in
    let id : Id = record { rank = rank; index = index } in
    let next : suc k ≡ k + 1 = omega arith in
    let at : index ≡ 0 + k = omega arith in
    ap (flat_map entry_kept) new_is
    ∙ flat_map-append entry_kept steps (in_list found)
    ∙ ap (λ l. l ++ flat_map entry_kept (in_list found)) old
    ∙ ap (λ l. filter is_some_entry (named_in rank (take k (log_of run rank))) ++ l)
    (ap (λ o. flat_map entry_kept (in_list o)) found_is
    ∙ entry_of_item tables calls (record { rank = rank; index = index }) item (named item (names_its_call script run
    lawful rank k item e))
    ∙ ap (λ n. filter is_some_entry (record { id = record { rank = rank; index = n }; item = item } ∷ [])) at)
    ∙ sym (filter-append is_some_entry (named_in rank (take k (log_of run rank)))
    (record { id = record { rank = rank; index = 0 + k }; item = item } ∷ []))
    ∙ ap (filter is_some_entry) (sym (named_more rank 0 (log_of run rank) k item e))
    ∙ ap (λ n. filter is_some_entry (named_in rank (take n (log_of run rank)))) next
  where
    named : (item : Item) → NamesCallOf script rank item →
        (number place : ℕ) (step : Step) → item ≡ Entry number place step → number < length calls
    named item names number place step is =
        subst (λ l. number < length l) (sym calls_are) (subst (NamesCallOf script rank) is names)
