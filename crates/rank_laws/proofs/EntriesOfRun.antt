-- The entries of all logs, where each log fits the same rows.
use Rattle.std.proofs.Common.{◌≡◌, ℕ, zero, suc, ◌+◌, ◌<◌, ◌≤◌, inl, inr, Bool, true, false, cond, eqb, List, [], ◌∷◌}
use Rattle.std.proofs.Common.{◌++◌, length, Option, Some, None, refl, sym, ◌∙◌, ap, subst, arith, append-nil}
use Rattle.std.proofs.Common.{length-append}
use Rattle.std.specs.Prelude.{slice_get}
use Rattle.std.specs.List.{AllByRecursion, filter, find, flat_map}
use Rattle.std.specs.Option.{option_map_or}
use Rattle.std.proofs.lemmas.Bool.{ne_eqb, eq-eqb}
use Rattle.std.proofs.lemmas.Bool.Decides.{eqb_tells}
use Rattle.std.proofs.lemmas.Grind.{flat_map-append}
use Rattle.std.proofs.lemmas.List.Elements.{filter-append}
use Rattle.list_laws.proofs.Each.{each_append}
use Rattle.rma_types.specs.declared.calls.Call.{Call}
use Rattle.rma_types.specs.declared.scripts.Script.{Script}
use Rattle.rma_record.specs.declared.items.Item.{Item}
use Rattle.rma_record.specs.declared.items.Item.TheVariants.{Issue, Null, Touch, Flush, Request, Entry, Tested, Refused}
use Rattle.rma_record.specs.declared.items.Item.TheVariants.{Ended}
use Rattle.board_rules.specs.Entries.{Row}
use Rattle.call_rules.specs.Pieces.{numbers_from}
use Rattle.lawful_runs.specs.BoardLaw.{AreAllowed, NamesCallOf, NamesItsCall}
use Rattle.lawful_runs.specs.Items.{is_entry}
use Rattle.lawful_runs.specs.Logs.{Named, named_from, named_in, named_logs, is_entry_at, is_named_entry_at}
use Rattle.lawful_runs.specs.Logs.{is_some_entry, entry_at, row_by, row_of, calls_of}
use Rattle.rank_laws.proofs.BoardFits.{entries_for, own_of, AreOwnAllowed, IsOfCall}

-- ---- the entry at a place

named_none : (place rank index : ℕ) (log : List Item) → filter (is_entry_at place) log ≡ [] →
    filter (is_named_entry_at place) (named_from rank index log) ≡ []
named_none place rank index [] e = refl
named_none place rank index (item ∷ items) e =
    let one : Named = record { id = record { rank = rank; index = index }; item = item } in
    let rest = filter (is_named_entry_at place) (named_from rank (index + 1) items) in
    elim (is_entry_at place item) as (λ b. cond b (item ∷ filter (is_entry_at place) items)
    (filter (is_entry_at place) items) ≡ [] → cond b (one ∷ rest) rest ≡ []) [
      | true ↦ λ k. absurd (cc k)
      | false ↦ λ k. named_none place rank (index + 1) items k
    ] e

-- the one entry with the place, among named items
pub record OneThere (place : ℕ) (items : List Named) (item : Item) (rank : ℕ) : Type 0 where
  pub one : Named
  pub alone : filter (is_named_entry_at place) items ≡ one ∷ []
  pub same : one.item ≡ item
  pub by : one.id.rank ≡ rank

named_one : (place rank index : ℕ) (log : List Item) (x : Item) → filter (is_entry_at place) log ≡ x ∷ [] →
    OneThere place (named_from rank index log) x rank
named_one place rank index [] x e = absurd (cc e)
named_one place rank index (item ∷ items) x e =
    elim (is_entry_at place item) as (λ b. is_entry_at place item ≡ b →
    cond b (item ∷ filter (is_entry_at place) items) (filter (is_entry_at place) items) ≡ x ∷ [] →
    OneThere place (named_from rank index (item ∷ items)) x rank) [
      | true ↦ λ t k.
          let one : Named = record { id = record { rank = rank; index = index }; item = item } in
          let same : item ≡ x = cc k in
          let none : filter (is_entry_at place) items ≡ [] = cc k in
          record {
            one = one;
            alone = ap (λ b. cond b (one ∷ filter (is_named_entry_at place) (named_from rank (index + 1) items))
                (filter (is_named_entry_at place) (named_from rank (index + 1) items))) t
                ∙ ap (λ rest. one ∷ rest) (named_none place rank (index + 1) items none);
            same = same;
            by = refl;
          }
      | false ↦ λ t k.
          let rest = named_one place rank (index + 1) items x k in
          let one : Named = record { id = record { rank = rank; index = index }; item = item } in
          record {
            one = rest.one;
            alone = ap (λ b. cond b (one ∷ filter (is_named_entry_at place) (named_from rank (index + 1) items))
                (filter (is_named_entry_at place) (named_from rank (index + 1) items))) t ∙ rest.alone;
            same = rest.same;
            by = rest.by;
          }
    ] refl e

-- each log has at a place what a row says
abbrev pub SaysRow : ℕ → ℕ → Option Row → List (List Item) → Type 0
SaysRow place first row logs = (at : ℕ) (log : List Item) → slice_get logs at ≡ Some log →
    filter (is_entry_at place) log ≡ entries_for (first + at) place row

says_later : (place first : ℕ) (row : Option Row) (log : List Item) (logs : List (List Item)) →
    SaysRow place first row (log ∷ logs) → SaysRow place (first + 1) row logs
says_later place first row log logs h at other e = h (suc at) other e
    ∙ ap (λ n. entries_for n place row) (omega arith)

pub none_in_logs : (place first : ℕ) (logs : List (List Item)) → SaysRow place first None logs →
    filter (is_named_entry_at place) (named_logs first logs) ≡ []
none_in_logs place first [] h = refl
none_in_logs place first (log ∷ logs) h =
    filter-append (is_named_entry_at place) (named_in first log) (named_logs (first + 1) logs)
    ∙ ap (λ front. front ++ filter (is_named_entry_at place) (named_logs (first + 1) logs))
    (named_none place first 0 log (h 0 log refl))
    ∙ none_in_logs place (first + 1) logs (says_later place first None log logs h)

-- ranks above that of the row have no entry there
none_above : (place first : ℕ) (row : Row) (logs : List (List Item)) → row.rank < first →
    SaysRow place first (Some row) logs → filter (is_named_entry_at place) (named_logs first logs) ≡ []
none_above place first row [] less h = refl
none_above place first row (log ∷ logs) less h =
    filter-append (is_named_entry_at place) (named_in first log) (named_logs (first + 1) logs)
    ∙ ap (λ front. front ++ filter (is_named_entry_at place) (named_logs (first + 1) logs))
    (named_none place first 0 log (h 0 log refl ∙ ap (λ b. cond b (Entry row.number place row.step ∷ []) [])
    (ne_eqb row.rank (first + 0) (λ e. omega arith))))
    ∙ none_above place (first + 1) row logs (omega arith) (says_later place first (Some row) log logs h)

pub one_in_logs : (place first : ℕ) (row : Row) (logs : List (List Item)) → first ≤ row.rank →
    row.rank < first + length logs → SaysRow place first (Some row) logs →
    OneThere place (named_logs first logs) (Entry row.number place row.step) row.rank
one_in_logs place first row [] low high h = absurd (omega arith)
one_in_logs place first row (log ∷ logs) low high h =
    let seam = filter-append (is_named_entry_at place) (named_in first log) (named_logs (first + 1) logs) in
    elim (eqb_tells row.rank first) [
      | inl mine ↦
          let same : row.rank ≡ first = mine.1 in
          let here = named_one place first 0 log (Entry row.number place row.step) (h 0 log refl
          ∙ ap (λ b. cond b (Entry row.number place row.step ∷ []) [])
          (eq-eqb row.rank (first + 0) (omega arith))) in
          record {
            one = here.one;
            alone = seam ∙ ap (λ front. front ++ filter (is_named_entry_at place)
                (named_logs (first + 1) logs)) here.alone
                ∙ ap (λ rest. here.one ∷ rest) (none_above place (first + 1) row logs (omega arith)
                (says_later place first (Some row) log logs h));
            same = here.same;
            by = here.by ∙ sym same;
          }
      | inr other ↦
          let apart = other.1 in
          let rest = one_in_logs place (first + 1) row logs (omega arith) (omega arith)
          (says_later place first (Some row) log logs h) in
          record {
            one = rest.one;
            alone = seam ∙ ap (λ front. front ++ filter (is_named_entry_at place) (named_logs (first + 1) logs))
                (named_none place first 0 log (h 0 log refl ∙ ap
                (λ b. cond b (Entry row.number place row.step ∷ []) [])
                (ne_eqb row.rank (first + 0) (λ e. apart (omega arith))))) ∙ rest.alone;
            same = rest.same;
            by = rest.by;
          }
    ]

-- ---- how many entries there are

named_amount : (rank index : ℕ) (log : List Item) → length (filter is_some_entry (named_from rank index log)) ≡ length
    (filter is_entry log)
named_amount rank index [] = refl
named_amount rank index (item ∷ items) =
    let one : Named = record { id = record { rank = rank; index = index }; item = item } in
    let rest = named_amount rank (index + 1) items in
    elim (is_entry item) as (λ b. length (cond b (one ∷ filter is_some_entry (named_from rank (index + 1) items))
    (filter is_some_entry (named_from rank (index + 1) items))) ≡
    length (cond b (item ∷ filter is_entry items) (filter is_entry items))) [
      | true ↦ ap suc rest
      | false ↦ rest
    ]

-- the rows of some ranks, counted by rank
total : ℕ → ℕ → List Row → ℕ
total first zero rows = 0
total first (suc count) rows = own_of first rows + total (first + 1) count rows

hits : ℕ → ℕ → Row → ℕ
hits first zero row = 0
hits first (suc count) row = cond {A = ℕ} (eqb row.rank first) 1 0 + hits (first + 1) count row

total_cons : (first count : ℕ) (row : Row) (rows : List Row) →
    total first count (row ∷ rows) ≡ hits first count row + total first count rows
unfolding total hits
total_cons first zero row rows = refl
total_cons first (suc count) row rows = let rest = total_cons (first + 1) count row rows in omega arith

hits_past : (first count : ℕ) (row : Row) → row.rank < first → hits first count row ≡ 0
unfolding hits
hits_past first zero row less = refl
hits_past first (suc count) row less =
    ap (λ b. cond {A = ℕ} b 1 0 + hits (first + 1) count row) (ne_eqb row.rank first (λ e. omega arith))
    ∙ ap (λ n. 0 + n) (hits_past (first + 1) count row (omega arith))

hits_once : (first count : ℕ) (row : Row) → first ≤ row.rank → row.rank < first + count → hits first count row ≡ 1
unfolding hits
hits_once first zero row low high = absurd (omega arith)
hits_once first (suc count) row low high = elim (eqb_tells row.rank first) [
  | inl mine ↦ let same = mine.1 in ap (λ b. cond {A = ℕ} b 1 0 + hits (first + 1) count row) mine.0
      ∙ ap (λ n. 1 + n) (hits_past (first + 1) count row (omega arith))
  | inr other ↦ let apart = other.1 in ap (λ b. cond {A = ℕ} b 1 0 + hits (first + 1) count row) other.0
      ∙ ap (λ n. 0 + n) (hits_once (first + 1) count row (omega arith) (omega arith))
]

total_none : (first count : ℕ) → total first count [] ≡ 0
unfolding total
total_none first zero = refl
total_none first (suc count) = ap (λ n. 0 + n) (total_none (first + 1) count)

total_all : (count : ℕ) (rows : List Row) → AllByRecursion (λ (row : Row). row.rank < count) rows →
    total 0 count rows ≡ length rows
total_all count [] h = total_none 0 count
total_all count (row ∷ rows) h =
    let less = h.0 in
    let sum = total_cons 0 count row rows in
    let one = hits_once 0 count row (omega arith) (omega arith) in
    let rest = total_all count rows h.1 in
    omega arith

amount_from : (first : ℕ) (logs : List (List Item)) (rows : List Row) →
    ((at : ℕ) (log : List Item) → slice_get logs at ≡ Some log →
    length (filter is_entry log) ≡ own_of (first + at) rows) →
    length (filter is_some_entry (named_logs first logs)) ≡ total first (length logs) rows
unfolding total
amount_from first [] rows h = refl
amount_from first (log ∷ logs) rows h =
    ap length (filter-append is_some_entry (named_in first log) (named_logs (first + 1) logs))
    ∙ length-append (filter is_some_entry (named_in first log)) (filter is_some_entry (named_logs (first + 1) logs))
    ∙ ap (λ n. n + length (filter is_some_entry (named_logs (first + 1) logs))) (named_amount first 0 log
    ∙ h 0 log refl ∙ ap (λ n. own_of n rows) (omega arith))
    ∙ ap (λ n. own_of first rows + n) (amount_from (first + 1) logs rows (λ at other e. h (suc at) other e
    ∙ ap (λ n. own_of n rows) (omega arith)))

-- as many as there are rows
pub amount_in_logs : (logs : List (List Item)) (rows : List Row) →
    AllByRecursion (λ (row : Row). row.rank < length logs) rows →
    ((at : ℕ) (log : List Item) → slice_get logs at ≡ Some log → length (filter is_entry log) ≡ own_of at rows) →
    length (filter is_some_entry (named_logs 0 logs)) ≡ length rows
amount_in_logs logs rows owners h =
    amount_from 0 logs rows (λ at log e. h at log e ∙ ap (λ n. own_of n rows) (omega arith))
    ∙ total_all (length logs) rows owners

-- ---- rows

found_first : {X : Type 0} (test : X → Bool) (xs : List X) (x : X) (ys : List X) → filter test xs ≡ x ∷ ys →
    find test xs ≡ Some x
found_first test [] x ys e = absurd (cc e)
found_first {X} test (y ∷ xs) x ys e =
    elim (test y) as (λ b. cond b (y ∷ filter test xs) (filter test xs) ≡ x ∷ ys →
    cond b (Some y) (find test xs) ≡ Some x) [
      | true ↦ λ k. let same : y ≡ x = cc k in ap Some same
      | false ↦ λ k. found_first test xs x ys k
    ] e

-- the row that the entry at a place is
pub row_there : (script : Script) (items : List Named) (place : ℕ) (row : Row) →
    OneThere place items (Entry row.number place row.step) row.rank →
    slice_get (calls_of script row.rank) row.number ≡ Some row.call →
    flat_map (row_of script) (entry_at items place) ≡ row ∷ []
row_there script items place row there call =
    ap (λ (o : Option Named). flat_map (row_of script) (option_map_or (λ one. one ∷ []) o []))
    (found_first (is_named_entry_at place) items there.one [] there.alone)
    ∙ append-nil (row_of script there.one)
    ∙ ap (λ rank. row_by script rank there.one.item) there.by
    ∙ ap (row_by script row.rank) there.same
    ∙ ap (λ (o : Option Call). option_map_or (λ c. (let made : Row = record {
      rank = row.rank;
      number = row.number;
      call = c;
      step = row.step;
    } in made) ∷ []) o []) call

pub rows_by_place : (script : Script) (items : List Named) (first : ℕ) (rows : List Row) →
    ((at : ℕ) (row : Row) → slice_get rows at ≡ Some row → flat_map (row_of script) (entry_at items (first + at))
    ≡ row ∷ []) →
    flat_map (row_of script) (flat_map (entry_at items) (numbers_from first (length rows))) ≡ rows
rows_by_place script items first [] h = refl
rows_by_place script items first (row ∷ rows) h =
    flat_map-append (row_of script) (entry_at items first) (flat_map (entry_at items)
    (numbers_from (first + 1) (length rows)))
    ∙ ap (λ front. front ++ flat_map (row_of script) (flat_map (entry_at items)
    (numbers_from (first + 1) (length rows))))
    (ap (λ n. flat_map (row_of script) (entry_at items n)) (omega arith) ∙ h 0 row refl)
    ∙ ap (λ rest. row ∷ rest) (rows_by_place script items (first + 1) rows
    (λ at other e. ap (λ n. flat_map (row_of script) (entry_at items n)) (omega arith) ∙ h (suc at) other e))

-- a row of a rank is one of its calls
pub call_of_row : (ranks : ℕ) (calls : List Call) (rank : ℕ) (before rows : List Row) →
    AreOwnAllowed ranks calls rank before rows → (at : ℕ) (row : Row) → slice_get rows at ≡ Some row →
    row.rank ≡ rank →
    slice_get calls row.number ≡ Some row.call
call_of_row ranks calls rank before [] h at row e mine = absurd (cc e)
call_of_row ranks calls rank before (r ∷ rows) h zero row e mine =
    let same : r ≡ row = cc e in subst (λ (x : Row). slice_get calls x.number ≡ Some x.call) same
    (h.0 (ap (λ (x : Row). x.rank) same ∙ mine)).1
call_of_row ranks calls rank before (r ∷ rows) h (suc at) row e mine = call_of_row ranks calls rank
    (before ++ r ∷ []) rows h.1 at row e mine

-- each row is allowed, since its owner says so
pub allowed_by_owners : (script : Script) (before rows : List Row) →
    AllByRecursion (λ (row : Row). row.rank < script.ranks) rows →
    ((rank : ℕ) → rank < script.ranks → AreOwnAllowed script.ranks (calls_of script rank) rank before rows) →
    AreAllowed script.ranks before rows
allowed_by_owners script before [] owners h = tt
allowed_by_owners script before (row ∷ rows) owners h = (
  ((h row.rank owners.0).0 refl).0,
  allowed_by_owners script (before ++ row ∷ []) rows owners.1
      (λ rank inside. (h rank inside).1),
)

-- ---- the calls of entries

names_call : (script : Script) (rank : ℕ) (item : Item) → IsOfCall (calls_of script rank) item →
    NamesCallOf script rank item
names_call script rank (Entry number place step) h = h
names_call script rank (Issue number access) h = tt
names_call script rank (Null number) h = tt
names_call script rank (Touch issue element cell place bits) h = tt
names_call script rank (Flush number) h = tt
names_call script rank (Request number) h = tt
names_call script rank (Tested number seen) h = tt
names_call script rank (Refused number class seen) h = tt
names_call script rank Ended h = tt

names_in_log : (script : Script) (rank index : ℕ) (log : List Item) →
    AllByRecursion (IsOfCall (calls_of script rank)) log → AllByRecursion (NamesItsCall script)
    (named_from rank index log)
names_in_log script rank index [] h = tt
names_in_log script rank index (item ∷ items) h = (
  names_call script rank item h.0,
  names_in_log script rank (index + 1) items h.1,
)

pub names_in_logs : (script : Script) (first : ℕ) (logs : List (List Item)) →
    ((at : ℕ) (log : List Item) → slice_get logs at ≡ Some log →
    AllByRecursion (IsOfCall (calls_of script (first + at))) log) →
    AllByRecursion (NamesItsCall script) (named_logs first logs)
names_in_logs script first [] h = tt
names_in_logs script first (log ∷ logs) h =
    each_append (NamesItsCall script) (named_in first log) (named_logs (first + 1) logs)
    (names_in_log script first 0 log (subst (λ n. AllByRecursion (IsOfCall (calls_of script n)) log) (omega arith)
    (h 0 log refl)))
    (names_in_logs script (first + 1) logs (λ at other e. subst
    (λ n. AllByRecursion (IsOfCall (calls_of script n)) other) (omega arith) (h (suc at) other e)))
