-- The entries of a rank before one of its entries: those of its log, as the board counts them.
use Rattle.std.proofs.Common.{◌≡◌, ℕ, zero, suc, ◌+◌, ◌-◌, ◌<◌, ◌≤◌, ◌⊎◌, inl, inr, Bool, true, false, cond, List, []}
use Rattle.std.proofs.Common.{◌∷◌, ◌++◌, Option, Some, None, refl, ap, sym, ◌∙◌, arith, append_assoc}
use Rattle.std.specs.Prelude.{◌==◌, nat_lt, slice_index_or}
use Rattle.std.specs.List.{find, flat_map, count_by}
use Rattle.std.specs.Option.{option_map_or}
use Rattle.std.proofs.lemmas.Bool.{cases_eq, cases_lt, eq-eqb, ne_eqb, lt-ltb, le-ltb}
use Rattle.std.proofs.lemmas.List.Sums.{sum_by-append}
use Rattle.list_laws.proofs.Members.{In, here, there}
use Rattle.list_laws.proofs.Tests.{count_cons}
use Rattle.rma_types.specs.declared.scripts.Script.{Script}
use Rattle.rma_record.specs.declared.items.Item.{Item}
use Rattle.rma_record.specs.declared.items.Item.TheVariants.{Issue, Null, Touch, Flush, Request, Entry, Tested, Refused}
use Rattle.rma_record.specs.declared.items.Item.TheVariants.{Ended}
use Rattle.rma_record.specs.declared.runs.Run.{Run}
use Rattle.call_rules.proofs.NumbersFrom.{numbers_last}
use Rattle.board_rules.specs.Entries.{Row}
use Rattle.call_rules.specs.Pieces.{numbers_from}
use Rattle.lawful_runs.specs.Logs.{Named, named_from, named_in, named_logs, named_items, log_of, is_entry_at}
use Rattle.lawful_runs.specs.Logs.{is_named_entry_at, entry_at, row_of}

-- ---- totals

abbrev pub total : {X : Type 0} → (X → ℕ) → List X → ℕ
total f [] = 0
total f (x ∷ xs) = f x + total f xs

pub total_joined : {X : Type 0} (f : X → ℕ) (xs ys : List X) → total f (xs ++ ys) ≡ total f xs + total f ys
total_joined f [] ys = omega arith
total_joined f (x ∷ xs) ys = let rest = total_joined f xs ys in omega (arith, rest)

pub total_of_all : {X : Type 0} (f : X → ℕ) (xs : List X) → ((x : X) → In x xs → f x ≡ 0) → total f xs ≡ 0
total_of_all f [] none = refl
total_of_all f (x ∷ xs) none =
    let one = none x here in
    let rest = total_of_all f xs (λ y m. none y (there m)) in omega (arith, one, rest)

pub total_alike : {X : Type 0} (f g : X → ℕ) (xs : List X) → ((x : X) → In x xs → f x ≡ g x) → total f xs ≡ total g xs
total_alike f g [] same = refl
total_alike f g (x ∷ xs) same =
    let one = same x here in
    let rest = total_alike f g xs (λ y m. same y (there m)) in omega (arith, one, rest)

total_added : {X : Type 0} (f g h : X → ℕ) (xs : List X) → ((x : X) → f x ≡ g x + h x) →
    total f xs ≡ total g xs + total h xs
total_added f g h [] sum = refl
total_added f g h (x ∷ xs) sum =
    let one = sum x in
    let rest = total_added f g h xs sum in omega (arith, one, rest)

-- how many pass a test in lists that are joined
count_flat : {X Y : Type 0} (p : Y → Bool) (f : X → List Y) (xs : List X) →
    count_by p (flat_map f xs) ≡ total (λ x. count_by p (f x)) xs
count_flat p f [] = refl
count_flat p f (x ∷ xs) =
    let one = sum_by-append (λ y. cond (p y) 1 0) (f x) (flat_map f xs) in
    let rest = count_flat p f xs in omega (arith, one, rest)

-- one that passes is counted
pub in_counts : {X : Type 0} (p : X → Bool) {x : X} {xs : List X} → In x xs → p x ≡ true → 1 ≤ count_by p xs
in_counts p {x} {xs} (here {xs = ys}) passes =
    let split = count_cons p x ys in
    let one : ◌≡◌ {A = ℕ} (cond (p x) 1 0) 1 = ap (λ b. cond b 1 0) passes in omega (arith, split, one)
in_counts p (there {y = z} {xs = ys} m) passes =
    let split = count_cons p z ys in
    let rest = in_counts p m passes in omega (arith, split, rest)

none_counts : {X : Type 0} (p : X → Bool) (g : X → ℕ) (xs : List X) → count_by p xs ≡ 0 →
    total (λ y. cond (p y) (g y) 0) xs ≡ 0
none_counts p g xs none = total_of_all (λ y. cond (p y) (g y) 0) xs fails
  where
    by_test : (b : Bool) (n : ℕ) → (b ≡ true → ⊥) → ◌≡◌ {A = ℕ} (cond b n 0) 0
    by_test true n h = absurd (h refl)
    by_test false n h = refl

    fails : (x : _) → In x xs → cond (p x) (g x) 0 ≡ 0
    fails x m = by_test (p x) (g x) (λ passes. let some = in_counts p m passes in omega (arith, some, none))

-- of one that alone passes, its own
one_counts : {X : Type 0} (p : X → Bool) (g : X → ℕ) (xs : List X) (x : X) → count_by p xs ≡ 1 → find p xs ≡ Some x →
    total (λ y. cond (p y) (g y) 0) xs ≡ g x
one_counts p g [] x one found = absurd (omega (arith, one))
one_counts {X} p g (y ∷ ys) x one found =
    by_test (p y) (count_cons p y ys) refl found (λ later. one_counts p g ys x later) (λ none. none_counts p g ys none)
  where
    by_test : (b : Bool) → count_by p (y ∷ ys) ≡ cond (p y) 1 0 + count_by p ys → p y ≡ b →
        cond b (Some y) (find p ys) ≡ Some x →
        (count_by p ys ≡ 1 → find p ys ≡ Some x → total (λ z. cond (p z) (g z) 0) ys ≡ g x) →
        (count_by p ys ≡ 0 → total (λ z. cond (p z) (g z) 0) ys ≡ 0) →
        cond b (g y) 0 + total (λ z. cond (p z) (g z) 0) ys ≡ g x
    by_test true split is found rest none =
        let counts : ◌≡◌ {A = ℕ} (cond (p y) 1 0) 1 = ap (λ b. cond b 1 0) is in
        let same : y ≡ x = cc found in
        let zero_rest = none (omega (arith, split, counts, one)) in
        let value : g y ≡ g x = ap g same in omega (arith, zero_rest, value)
    by_test false split is found rest none =
        let counts : ◌≡◌ {A = ℕ} (cond (p y) 1 0) 0 = ap (λ b. cond b 1 0) is in
        let later = rest (omega (arith, split, counts, one)) found in omega (arith, later)

in_head : {X : Type 0} {x y : X} {ys : List X} → In x (y ∷ ys) → (x ≡ y) ⊎ In x ys
in_head here = inl refl
in_head (there m) = inr m

-- what alone passes is what is found
pub alone : {X : Type 0} (p : X → Bool) (xs : List X) (x y : X) → count_by p xs ≤ 1 → find p xs ≡ Some x → In y xs →
    p y ≡ true → x ≡ y
alone p [] x y once found m passes = elim m [ ]
alone {X} p (z ∷ zs) x y once found m passes =
    by_test (p z) (count_cons p z zs) refl found (in_head m) (λ few later n. alone p zs x y few later n passes)
  where
    by_test : (b : Bool) → count_by p (z ∷ zs) ≡ cond (p z) 1 0 + count_by p zs → p z ≡ b →
        cond b (Some z) (find p zs) ≡ Some x →
        (y ≡ z) ⊎ In y zs → (count_by p zs ≤ 1 → find p zs ≡ Some x → In y zs → x ≡ y) → x ≡ y
    by_test true split is found (inl first) rest = let same : z ≡ x = cc found in sym same ∙ sym first
    by_test true split is found (inr n) rest =
        let some = in_counts p n passes in
        let counts : ◌≡◌ {A = ℕ} (cond (p z) 1 0) 1 = ap (λ b. cond b 1 0) is in
        absurd (omega (arith, some, split, counts, once))
    by_test false split is found (inl first) rest = absurd (cc (is, ap p first, passes))
    by_test false split is found (inr n) rest =
        let counts : ◌≡◌ {A = ℕ} (cond (p z) 1 0) 0 = ap (λ b. cond b 1 0) is in
        rest (omega (arith, split, counts, once)) found n

-- ---- numbers

pub numbers_split : (first count k : ℕ) → k < count →
    numbers_from first count ≡ numbers_from first k ++ (first + k) ∷ numbers_from (first + k + 1) (count - k - 1)
numbers_split first zero k below = absurd (omega arith)
numbers_split first (suc count) zero below =
    let one : first ≡ first + 0 = omega arith in
    let two : first + 1 ≡ first + 0 + 1 = omega arith in
    let three : count ≡ suc count - 0 - 1 = omega arith in
    λ i. one i ∷ numbers_from (two i) (three i)
numbers_split first (suc count) (suc k) below =
    let one : first + 1 + k ≡ first + suc k = omega arith in
    let two : count - k - 1 ≡ suc count - suc k - 1 = omega arith in
    ap (λ l. first ∷ l) (numbers_split (first + 1) count k (omega (arith, below))
    ∙ (λ i. numbers_from (first + 1) k ++ one i ∷ numbers_from (one i + 1) (two i)))

-- ---- entries by places

-- the item is an entry of a place below the number
abbrev pub is_below : ℕ → Item → Bool
is_below most (Entry number place step) = nat_lt place most
is_below most item = false

none_below : (item : Item) → is_below 0 item ≡ false
none_below (Issue number access) = refl
none_below (Null number) = refl
none_below (Touch issue element cell place bits) = refl
none_below (Flush number) = refl
none_below (Request number) = refl
none_below (Entry number place step) = le-ltb place 0 (omega arith)
none_below (Tested number seen) = refl
none_below (Refused number class seen) = refl
none_below Ended = refl

split_place : (place most n : ℕ) →
    cond (nat_lt place (suc most)) n 0 ≡ cond (nat_lt place most) n 0 + cond (place == most) n 0
split_place place most n = elim (cases_lt place most) [
  | inl low ↦
      let a = ap (λ b. cond b n 0) (lt-ltb place (suc most) (omega (arith, low))) in
      let b = ap (λ b. cond b n 0) (lt-ltb place most low) in
      let c = ap (λ b. cond b n 0) (ne_eqb place most (λ same. omega (arith, same, low))) in
      sums _ _ _ n a b c
  | inr high ↦ elim (cases_eq place most) [
    | inl same ↦
        let a = ap (λ b. cond b n 0) (lt-ltb place (suc most) (omega (arith, same))) in
        let b = ap (λ b. cond b n 0) (le-ltb place most high) in
        let c = ap (λ b. cond b n 0) (eq-eqb place most same) in
        sums' _ _ _ n a b c
    | inr other ↦
        let a = ap (λ b. cond b n 0) (le-ltb place (suc most) (omega (arith, high, other))) in
        let b = ap (λ b. cond b n 0) (le-ltb place most high) in
        let c = ap (λ b. cond b n 0) (ne_eqb place most other) in
        nones _ _ _ a b c
  ]
]
  where
    sums : (a b c n : ℕ) → a ≡ n → b ≡ n → c ≡ 0 → a ≡ b + c
    sums a b c n p q r = omega arith

    sums' : (a b c n : ℕ) → a ≡ n → b ≡ 0 → c ≡ n → a ≡ b + c
    sums' a b c n p q r = omega arith

    nones : (a b c : ℕ) → a ≡ 0 → b ≡ 0 → c ≡ 0 → a ≡ b + c
    nones a b c p q r = omega arith

one_more_below : (most n : ℕ) (item : Item) →
    cond (is_below (suc most) item) n 0 ≡ cond (is_below most item) n 0 + cond (is_entry_at most item) n 0
one_more_below most n (Issue number access) = refl
one_more_below most n (Null number) = refl
one_more_below most n (Touch issue element cell place bits) = refl
one_more_below most n (Flush number) = refl
one_more_below most n (Request number) = refl
one_more_below most n (Entry number place step) = split_place place most n
one_more_below most n (Tested number seen) = refl
one_more_below most n (Refused number class seen) = refl
one_more_below most n Ended = refl

-- the entries of the first places
abbrev pub first_entries : List Named → ℕ → List Named
first_entries items most = flat_map (entry_at items) (numbers_from 0 most)

entries_last : (items : List Named) (most : ℕ) →
    first_entries items (suc most) ≡ first_entries items most ++ entry_at items most
entries_last items most =
    let same : 0 + most ≡ most = omega arith in
    ap (flat_map (entry_at items)) (numbers_last 0 most) ∙ joined (numbers_from 0 most) (0 + most)
    ∙ ap (λ n. first_entries items most ++ entry_at items n) same
  where
    joined : (ns : List ℕ) (n : ℕ) →
        flat_map (entry_at items) (ns ++ n ∷ []) ≡ flat_map (entry_at items) ns ++ entry_at items n
    joined [] n = by_option (find (is_named_entry_at n) items)
      where
        by_option : (o : Option Named) →
            option_map_or (λ one. one ∷ []) o [] ++ [] ≡ option_map_or (λ one. one ∷ []) o []
        by_option None = refl
        by_option (Some x) = refl
    joined (m ∷ ns) n = ap (λ l. entry_at items m ++ l) (joined ns n)
        ∙ sym (append_assoc (entry_at items m) (flat_map (entry_at items) ns) (entry_at items n))

-- what is found where one is counted
pub found_where : {X : Type 0} (p : X → Bool) (xs : List X) → 1 ≤ count_by p xs → (x : X) × (find p xs ≡ Some x)
found_where p [] some = absurd (omega (arith, some))
found_where {X} p (x ∷ xs) some = by_test (p x) (count_cons p x xs) refl (λ later. found_where p xs later)
  where
    by_test : (b : Bool) → count_by p (x ∷ xs) ≡ cond (p x) 1 0 + count_by p xs → p x ≡ b →
        (1 ≤ count_by p xs → (y : X) × (find p xs ≡ Some y)) → (y : X) × (cond b (Some x) (find p xs) ≡ Some y)
    by_test true split is rest = (x, refl)
    by_test false split is rest =
        let counts : ◌≡◌ {A = ℕ} (cond (p x) 1 0) 0 = ap (λ b. cond b 1 0) is in
        rest (omega (arith, split, counts, some))

-- the total over the entries of the first places is that over the items with such a place
first_total : (items : List Named) (g : Named → ℕ) (most : ℕ) →
    ((place : ℕ) → place < most → count_by (is_named_entry_at place) items ≡ 1) →
    total g (first_entries items most) ≡ total (λ (x : Named). cond (is_below most x.item) (g x) 0) items
first_total items g zero once = sym (total_of_all (λ (x : Named). cond (is_below 0 x.item) (g x) 0) items
    (λ x m. ap (λ b. cond b (g x) 0) (none_below x.item)))
first_total items g (suc most) once =
    let rest = first_total items g most (λ place below. once place (omega (arith, below))) in
    let counts = once most (omega arith) in
    let one = found_where (is_named_entry_at most) items (omega (arith, counts)) in
    let last : entry_at items most ≡ one.0 ∷ [] = ap (λ o. option_map_or (λ x. x ∷ []) o []) one.1 in
    let grown = ap (total g) (entries_last items most ∙ ap (λ l. first_entries items most ++ l) last) in
    let joined = total_joined g (first_entries items most) (one.0 ∷ []) in
    let added = total_added (λ (x : Named). cond (is_below (suc most) x.item) (g x) 0)
    (λ (x : Named). cond (is_below most x.item) (g x) 0)
    (λ (x : Named). cond (is_named_entry_at most x) (g x) 0) items (λ x. one_more_below most (g x) x.item) in
    let own = one_counts (is_named_entry_at most) g items one.0 counts one.1 in
    omega (arith, rest, grown, joined, added, own)

-- ---- the items of one rank

log_total : (h : Named → ℕ) (rank index : ℕ) (log : List Item) → ((x : Named) → x.id.rank ≡ rank → h x ≡ 0) →
    total h (named_from rank index log) ≡ 0
log_total h rank index [] none = refl
log_total h rank index (item ∷ log) none =
    let one = none (record { id = record { rank = rank; index = index }; item = item }) refl in
    let rest = log_total h rank (index + 1) log none in omega (arith, one, rest)

later_total : (h : Named → ℕ) (first : ℕ) (logs : List (List Item)) → ((x : Named) → first ≤ x.id.rank → h x ≡ 0) →
    total h (named_logs first logs) ≡ 0
later_total h first [] none = refl
later_total h first (log ∷ logs) none =
    let joined = total_joined h (named_in first log) (named_logs (first + 1) logs) in
    let one = log_total h first 0 log (λ x is. none x (omega (arith, is))) in
    let rest = later_total h (first + 1) logs (λ x low. none x (omega (arith, low))) in omega (arith, joined, one, rest)

rank_total : (h : Named → ℕ) (first : ℕ) (logs : List (List Item)) (k rank : ℕ) → rank ≡ first + k →
    ((x : Named) → (x.id.rank ≡ rank → ⊥) → h x ≡ 0) →
    total h (named_logs first logs) ≡ total h (named_in rank (slice_index_or logs k []))
rank_total h first [] k rank is none = refl
rank_total h first (log ∷ logs) zero rank is none =
    let joined = total_joined h (named_in first log) (named_logs (first + 1) logs) in
    let rest = later_total h (first + 1) logs (λ x low. none x (λ same. omega (arith, low, same, is))) in
    let same : first ≡ rank = omega (arith, is) in
    let place_here = ap (λ r. total h (named_in r log)) same in omega (arith, joined, rest, place_here)
rank_total h first (log ∷ logs) (suc k) rank is none =
    let joined = total_joined h (named_in first log) (named_logs (first + 1) logs) in
    let one = log_total h first 0 log (λ x same. none x (λ other. omega (arith, same, other, is))) in
    let rest = rank_total h (first + 1) logs k rank (omega (arith, is)) none in omega (arith, joined, one, rest)

-- the total over the items of a run is that over those of a rank, where the others' are none
pub of_rank_total : (h : Named → ℕ) (run : Run) (rank : ℕ) → ((x : Named) → (x.id.rank ≡ rank → ⊥) → h x ≡ 0) →
    total h (named_items run) ≡ total h (named_in rank (log_of run rank))
of_rank_total h run rank none = rank_total h 0 run.logs rank rank (omega arith) none

pub rows_total : (script : Script) (p : Row → Bool) (run : Run) (most : ℕ) →
    ((place : ℕ) → place < most → count_by (is_named_entry_at place) (named_items run) ≡ 1) →
    count_by p (flat_map (row_of script) (first_entries (named_items run) most))
    ≡ total (λ (x : Named). cond (is_below most x.item) (count_by p (row_of script x)) 0) (named_items run)
rows_total script p run most once =
    count_flat p (row_of script) (first_entries (named_items run) most)
    ∙ first_total (named_items run) (λ (x : Named). count_by p (row_of script x)) most once

-- ---- before an entry of a log

-- the total over the items of a log with a place below that of one of its entries is that over the items before it
pub front_total : (g : Named → ℕ) (rank first most : ℕ) (xs : List Item) →
    ((x : Named) → In x (named_from rank first xs) → (is_below most x.item ≡ false → g x ≡ 0)) →
    total (λ (x : Named). cond (is_below most x.item) (g x) 0) (named_from rank first xs) ≡ total g
    (named_from rank first xs)
front_total g rank first most xs none = total_alike (λ (x : Named). cond (is_below most x.item) (g x) 0) g
    (named_from rank first xs) same
  where
    by_test : (b : Bool) (n : ℕ) → (b ≡ false → n ≡ 0) → cond b n 0 ≡ n
    by_test true n h = refl
    by_test false n h = sym (h refl)

    same : (x : Named) → In x (named_from rank first xs) → cond (is_below most x.item) (g x) 0 ≡ g x
    same x m = by_test (is_below most x.item) (g x) (none x m)
