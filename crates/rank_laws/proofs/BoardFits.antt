-- The log of a rank fits the entries that it knows: its own are there, each allowed, and its looks saw what they say.
use Rattle.std.proofs.Common.{◌≡◌, ◌≢◌, ℕ, zero, suc, ◌+◌, ◌<◌, ◌≤◌, ◌⊎◌, inl, inr, Bool, false, cond, eqb, List, []}
use Rattle.std.proofs.Common.{◌∷◌, ◌++◌, length, Option, Some, None, refl, sym, ◌∙◌, ap, subst, arith, append-nil}
use Rattle.std.proofs.Common.{append_assoc, length-append}
use Rattle.std.specs.Prelude.{slice_get, IsSomeAnd}
use Rattle.std.specs.List.{AllByRecursion, filter}
use Rattle.std.proofs.lemmas.Bool.{ne_eqb, eq-eqb}
use Rattle.std.proofs.lemmas.Grind.{flat_map-append}
use Rattle.std.proofs.lemmas.List.{take-append-le}
use Rattle.std.proofs.lemmas.List.Elements.{filter-append}
use Rattle.std.proofs.lemmas.Option.{slice_get_past}
use Rattle.list_laws.proofs.Each.{each_weaker, each_with, each_append}
use Rattle.rma_types.specs.declared.calls.Call.{Call}
use Rattle.rma_record.specs.declared.items.Item.{Item}
use Rattle.rma_record.specs.declared.items.Item.TheVariants.{Issue, Null, Touch, Flush, Request, Entry, Tested, Refused}
use Rattle.rma_record.specs.declared.items.Item.TheVariants.{Ended}
use Rattle.board_rules.specs.Board.{Allow, NotYet, decide, shared_class}
use Rattle.board_rules.specs.Entries.{Row}
use Rattle.lawful_runs.specs.Accesses.{EachPair}
use Rattle.lawful_runs.specs.BoardLaw.{IsLook, Moment, EntryAt, LookAfter, moment_by, moments_in, IsBefore, IsWithin}
use Rattle.lawful_runs.specs.BoardLaw.{first_row}
use Rattle.lawful_runs.specs.Items.{is_entry}
use Rattle.lawful_runs.specs.Logs.{is_entry_at}
use Rattle.rank_laws.proofs.Lists.{pair_push, place_in, get_front, get_rest}

-- ---- entries

-- the item that a row is in the log of a rank
abbrev pub entries_for : ℕ → ℕ → Option Row → List Item
entries_for rank place None = []
entries_for rank place (Some row) = cond (eqb row.rank rank) (Entry row.number place row.step ∷ []) []

-- how many of the rows are a rank's
abbrev pub own_of : ℕ → List Row → ℕ
own_of rank [] = 0
own_of rank (row ∷ rows) = cond {A = ℕ} (eqb row.rank rank) 1 0 + own_of rank rows

-- a row of the rank is allowed after those before, and is one of its calls
abbrev pub IsOwnAllowed : ℕ → List Call → ℕ → List Row → Row → Type 0
IsOwnAllowed ranks calls rank before row = row.rank ≡ rank →
    (decide ranks before row ≡ Allow) × (slice_get calls row.number ≡ Some row.call)

abbrev pub AreOwnAllowed : ℕ → List Call → ℕ → List Row → List Row → Type 0
AreOwnAllowed ranks calls rank before [] = Unit {0}
AreOwnAllowed ranks calls rank before (row ∷ rows) = IsOwnAllowed ranks calls rank before row
    × AreOwnAllowed ranks calls rank (before ++ row ∷ []) rows

-- the item, where it is an entry, is of one of the calls
abbrev pub IsOfCall : List Call → Item → Type 0
IsOfCall calls (Entry number place step) = number < length calls
IsOfCall calls item = Unit {0}

-- the look saw at most so many entries
abbrev pub IsSeen : ℕ → Item → Type 0
IsSeen entries (Refused number class seen) = seen ≤ entries
IsSeen entries (Tested number seen) = seen ≤ entries
IsSeen entries other = Unit {0}

pub record FitsBoard (ranks : ℕ) (calls : List Call) (rank : ℕ) (rows : List Row) (log : List Item) : Type 0 where
  pub allowed : AreOwnAllowed ranks calls rank [] rows
  pub entries : (place : ℕ) → filter (is_entry_at place) log ≡ entries_for rank place (slice_get rows place)
  pub amount : length (filter is_entry log) ≡ own_of rank rows
  pub named : AllByRecursion (IsOfCall calls) log
  pub looks : AllByRecursion (IsLook ranks rows rank calls) log
  pub seen : AllByRecursion (IsSeen (length rows)) log
  pub moments : EachPair IsBefore (moments_in log)
  pub within : AllByRecursion (IsWithin (length rows)) (moments_in log)

pub nothing_fits : (ranks : ℕ) (calls : List Call) (rank : ℕ) → FitsBoard ranks calls rank [] []
nothing_fits ranks calls rank = record {
  allowed = tt;
  entries = λ place. refl;
  amount = refl;
  named = tt;
  looks = tt;
  seen = tt;
  moments = tt;
  within = tt;
}

-- ---- rows more

allowed_more : (ranks : ℕ) (calls : List Call) (rank : ℕ) (before rows : List Row) (row : Row) →
    AreOwnAllowed ranks calls rank before rows → IsOwnAllowed ranks calls rank (before ++ rows) row →
    AreOwnAllowed ranks calls rank before (rows ++ row ∷ [])
allowed_more ranks calls rank before [] row h k = (
  subst (λ (b : List Row). IsOwnAllowed ranks calls rank b row)
      (append-nil before) k,
  tt,
)
allowed_more ranks calls rank before (r ∷ rows) row h k = (
  h.0,
  allowed_more ranks calls rank (before ++ r ∷ []) rows row h.1
      (subst (λ (b : List Row). IsOwnAllowed ranks calls rank b row) (sym (append_assoc before (r ∷ []) rows)) k),
)

own_more : (rank : ℕ) (rows : List Row) (row : Row) → own_of rank (rows ++ row ∷ []) ≡ own_of rank rows + cond {A = ℕ}
    (eqb row.rank rank) 1 0
own_more rank [] row = omega arith
own_more rank (r ∷ rows) row = let rest = own_more rank rows row in omega arith

look_grows : (ranks : ℕ) (calls : List Call) (rows more : List Row) (rank : ℕ) (item : Item) →
    IsLook ranks rows rank calls item → IsSeen (length rows) item →
    IsLook ranks (rows ++ more) rank calls item
look_grows ranks calls rows more rank (Refused number class zero) look seen = tt
look_grows ranks calls rows more rank (Refused number class (suc before)) look seen =
    subst (λ (first : List Row). IsSomeAnd (slice_get calls number)
    (λ call. shared_class ranks first (first_row rank number call) ≡ Some class))
    (sym (take-append-le (suc before) rows more seen)) look
look_grows ranks calls rows more rank (Tested number before) look seen =
    subst (λ (first : List Row). IsSomeAnd (slice_get calls number)
    (λ call. decide ranks first (first_row rank number call) ≡ NotYet))
    (sym (take-append-le before rows more seen)) look
look_grows ranks calls rows more rank (Issue number access) look seen = tt
look_grows ranks calls rows more rank (Null number) look seen = tt
look_grows ranks calls rows more rank (Touch issue element cell place bits) look seen = tt
look_grows ranks calls rows more rank (Flush number) look seen = tt
look_grows ranks calls rows more rank (Request number) look seen = tt
look_grows ranks calls rows more rank (Entry number place step) look seen = tt
look_grows ranks calls rows more rank Ended look seen = tt

seen_grows : (few many : ℕ) → few ≤ many → (item : Item) → IsSeen few item → IsSeen many item
seen_grows few many h (Refused number class seen) k = omega arith
seen_grows few many h (Tested number seen) k = omega arith
seen_grows few many h (Issue number access) k = tt
seen_grows few many h (Null number) k = tt
seen_grows few many h (Touch issue element cell place bits) k = tt
seen_grows few many h (Flush number) k = tt
seen_grows few many h (Request number) k = tt
seen_grows few many h (Entry number place step) k = tt
seen_grows few many h Ended k = tt

within_grows : (few many : ℕ) → few ≤ many → (moment : Moment) → IsWithin few moment → IsWithin many moment
within_grows few many h (EntryAt place) k = omega arith
within_grows few many h (LookAfter seen) k = omega arith

longer : (rows : List Row) (row : Row) → length rows ≤ length (rows ++ row ∷ [])
longer rows row = omega (arith, length-append rows (row ∷ []))

-- the row at a place, with one row more
row_at : (rows : List Row) (row : Row) (place : ℕ) → ((place < length rows) ×
    (slice_get (rows ++ row ∷ []) place ≡ slice_get rows place))
    ⊎ (((place ≡ length rows) × (slice_get (rows ++ row ∷ []) place ≡ Some row)) ⊎
    ((length rows < place) × (slice_get (rows ++ row ∷ []) place ≡ None)))
row_at rows row place = elim (place_in place (length rows)) [
  | inl less ↦ inl (less, get_front rows (row ∷ []) place less)
  | inr past ↦ inr (at_end past.0 past.1)
]
  where
    at_end : (at : ℕ) → place ≡ length rows + at → ((place ≡ length rows) ×
        (slice_get (rows ++ row ∷ []) place ≡ Some row)) ⊎ ((length rows < place) ×
        (slice_get (rows ++ row ∷ []) place ≡ None))
    at_end zero e = inl (omega arith, get_rest rows (row ∷ []) place 0 e)
    at_end (suc at) e = inr (omega arith, get_rest rows (row ∷ []) place (suc at) e)

-- another rank puts an entry
pub other_fits : (ranks : ℕ) (calls : List Call) (rank : ℕ) (rows : List Row) (row : Row) (log : List Item) →
    row.rank ≢ rank → FitsBoard ranks calls rank rows log → FitsBoard ranks calls rank (rows ++ row ∷ []) log
other_fits ranks calls rank rows row log other fits = record {
  allowed = allowed_more ranks calls rank [] rows row fits.allowed (λ same. absurd (other same));
  entries = λ place. fits.entries place ∙ same_entries place (row_at rows row place);
  amount = fits.amount ∙ sym (own_more rank rows row ∙ ap (λ b. own_of rank rows + cond {A = ℕ} b 1 0)
      (ne_eqb row.rank rank other) ∙ omega arith);
  named = fits.named;
  looks = each_with (IsLook ranks rows rank calls) (IsSeen (length rows)) (IsLook ranks (rows ++ row ∷ []) rank calls)
      (look_grows ranks calls rows (row ∷ []) rank) log fits.looks fits.seen;
  seen = each_weaker (IsSeen (length rows)) (IsSeen (length (rows ++ row ∷ [])))
      (seen_grows (length rows) (length (rows ++ row ∷ [])) (longer rows row)) log fits.seen;
  moments = fits.moments;
  within = each_weaker (IsWithin (length rows)) (IsWithin (length (rows ++ row ∷ [])))
      (within_grows (length rows) (length (rows ++ row ∷ [])) (longer rows row)) (moments_in log) fits.within;
}
  where
    same_entries : (place : ℕ) → ((place < length rows) × (slice_get (rows ++ row ∷ []) place ≡ slice_get rows place))
        ⊎ (((place ≡ length rows) × (slice_get (rows ++ row ∷ []) place ≡ Some row)) ⊎
        ((length rows < place) × (slice_get (rows ++ row ∷ []) place ≡ None))) →
        entries_for rank place (slice_get rows place) ≡ entries_for rank place (slice_get (rows ++ row ∷ []) place)
    same_entries place (inl old) = ap (entries_for rank place) (sym old.1)
    same_entries place (inr (inl new)) =
        let at = new.0 in
        ap (entries_for rank place) (slice_get_past rows place (omega arith))
        ∙ ap (λ b. cond b (Entry row.number place row.step ∷ []) []) (sym (ne_eqb row.rank rank other))
        ∙ ap (entries_for rank place) (sym new.1)
    same_entries place (inr (inr past)) =
        let far = past.0 in ap (entries_for rank place) (slice_get_past rows place (omega arith) ∙ sym past.1)

-- other ranks put entries
pub others_fit : (ranks : ℕ) (calls : List Call) (rank : ℕ) (more rows : List Row) (log : List Item) →
    AllByRecursion (λ (row : Row). row.rank ≢ rank) more → FitsBoard ranks calls rank rows log →
    FitsBoard ranks calls rank (rows ++ more) log
others_fit ranks calls rank [] rows log h fits = subst (λ (r : List Row). FitsBoard ranks calls rank r log)
    (sym (append-nil rows)) fits
others_fit ranks calls rank (row ∷ more) rows log h fits =
    subst (λ (r : List Row). FitsBoard ranks calls rank r log) (append_assoc rows (row ∷ []) more)
    (others_fit ranks calls rank more (rows ++ row ∷ []) log h.1 (other_fits ranks calls rank rows row log h.0 fits))

moments_push : (log : List Item) (item : Item) → moments_in (log ++ item ∷ []) ≡ moments_in log ++
    (moment_by item ++ [])
moments_push log item = flat_map-append moment_by log (item ∷ [])

-- the rank puts an entry
pub own_fits : (ranks : ℕ) (calls : List Call) (rank : ℕ) (rows : List Row) (row : Row) (log : List Item) →
    row.rank ≡ rank → decide ranks rows row ≡ Allow → slice_get calls row.number ≡ Some row.call →
    row.number < length calls →
    FitsBoard ranks calls rank rows log → FitsBoard ranks calls rank (rows ++ row ∷ [])
    (log ++ Entry row.number (length rows) row.step ∷ [])
own_fits ranks calls rank rows row log mine answer call inside fits = record {
  allowed = allowed_more ranks calls rank [] rows row fits.allowed (λ same. (answer, call));
  entries = λ place. filter-append (is_entry_at place) log (item ∷ [])
      ∙ ap (λ front. front ++ filter (is_entry_at place) (item ∷ [])) (fits.entries place) ∙ new_entries place;
  amount = ap length (filter-append is_entry log (item ∷ [])) ∙ length-append (filter is_entry log) (item ∷ [])
      ∙ ap (λ n. n + 1) fits.amount
      ∙ sym (own_more rank rows row ∙ ap (λ b. own_of rank rows + cond {A = ℕ} b 1 0) (eq-eqb row.rank rank mine));
  named = each_append (IsOfCall calls) log (item ∷ []) fits.named (inside, tt);
  looks = each_append (IsLook ranks (rows ++ row ∷ []) rank calls) log (item ∷ [])
      (each_with (IsLook ranks rows rank calls) (IsSeen (length rows)) (IsLook ranks (rows ++ row ∷ []) rank calls)
      (look_grows ranks calls rows (row ∷ []) rank) log fits.looks fits.seen) (tt, tt);
  seen = each_append (IsSeen (length (rows ++ row ∷ []))) log (item ∷ [])
      (each_weaker (IsSeen (length rows)) (IsSeen (length (rows ++ row ∷ [])))
      (seen_grows (length rows) (length (rows ++ row ∷ [])) (longer rows row)) log fits.seen) (tt, tt);
  moments = subst (EachPair IsBefore) (sym (moments_push log item))
      (pair_push IsBefore (moments_in log) (EntryAt (length rows)) fits.moments
      (each_weaker (IsWithin (length rows)) (λ m. IsBefore m (EntryAt (length rows))) entry_after
      (moments_in log) fits.within));
  within = subst (AllByRecursion (IsWithin (length (rows ++ row ∷ [])))) (sym (moments_push log item))
      (each_append (IsWithin (length (rows ++ row ∷ []))) (moments_in log) (EntryAt (length rows) ∷ [])
      (each_weaker (IsWithin (length rows)) (IsWithin (length (rows ++ row ∷ [])))
      (within_grows (length rows) (length (rows ++ row ∷ [])) (longer rows row)) (moments_in log) fits.within)
      (omega (arith, length-append rows (row ∷ [])), tt));
}
  where
    item : Item
    item = Entry row.number (length rows) row.step

    entry_after : (m : Moment) → IsWithin (length rows) m → IsBefore m (EntryAt (length rows))
    entry_after (EntryAt place) h = h
    entry_after (LookAfter seen) h = h

    new_entries : (place : ℕ) → entries_for rank place (slice_get rows place) ++ filter (is_entry_at place)
        (item ∷ []) ≡ entries_for rank place (slice_get (rows ++ row ∷ []) place)
    new_entries place = elim (row_at rows row place) [
      | inl old ↦
          let less = old.0 in
          ap (λ b. entries_for rank place (slice_get rows place) ++ cond b (item ∷ []) [])
          (ne_eqb (length rows) place (λ e. omega arith))
          ∙ append-nil (entries_for rank place (slice_get rows place)) ∙ ap (entries_for rank place) (sym old.1)
      | inr rest ↦ elim rest [
        | inl new ↦
            let gone : slice_get rows place ≡ None = let at = new.0 in slice_get_past rows place (omega arith) in
            ap (λ (o : Option Row). entries_for rank place o ++ filter (is_entry_at place) (item ∷ [])) gone
            ∙ ap (λ b. cond b (item ∷ []) []) (eq-eqb (length rows) place (sym new.0))
            ∙ ap (λ n. Entry row.number n row.step ∷ []) (sym new.0)
            ∙ ap (λ b. cond b (Entry row.number place row.step ∷ []) []) (sym (eq-eqb row.rank rank mine))
            ∙ ap (entries_for rank place) (sym new.1)
        | inr past ↦
            let far = past.0 in
            let gone : slice_get rows place ≡ None = slice_get_past rows place (omega arith) in
            ap (λ (o : Option Row). entries_for rank place o ++ filter (is_entry_at place) (item ∷ [])) gone
            ∙ ap (λ b. cond b (item ∷ []) []) (ne_eqb (length rows) place (λ e. omega arith))
            ∙ ap (entries_for rank place) (sym past.1)
      ]
    ]

-- ---- items more

-- the item says nothing of the board
abbrev pub IsQuiet : Item → Type 0
IsQuiet (Refused number class zero) = Unit {0}
IsQuiet (Refused number class (suc before)) = ⊥
IsQuiet (Tested number seen) = ⊥
IsQuiet (Entry number place step) = ⊥
IsQuiet other = Unit {0}

-- an item that is no entry, with what it adds to the looks
pub record AddsLook (ranks : ℕ) (calls : List Call) (rank : ℕ) (rows : List Row) (item : Item) : Type 0 where
  pub entry : is_entry item ≡ false
  pub look : IsLook ranks rows rank calls item
  pub seen : IsSeen (length rows) item
  pub moment : (moment_by item ≡ []) ⊎ (moment_by item ≡ LookAfter (length rows) ∷ [])

quiet_adds : (ranks : ℕ) (calls : List Call) (rank : ℕ) (rows : List Row) (item : Item) → IsQuiet item →
    AddsLook ranks calls rank rows item
quiet_adds ranks calls rank rows (Refused number class zero) q = record {
  entry = refl;
  look = tt;
  seen = omega arith;
  moment = inl refl;
}
quiet_adds ranks calls rank rows (Refused number class (suc before)) q = absurd q
quiet_adds ranks calls rank rows (Tested number seen) q = absurd q
quiet_adds ranks calls rank rows (Entry number place step) q = absurd q
quiet_adds ranks calls rank rows (Issue number access) q = record {
  entry = refl;
  look = tt;
  seen = tt;
  moment = inl refl;
}
quiet_adds ranks calls rank rows (Null number) q = record { entry = refl; look = tt; seen = tt; moment = inl refl }
quiet_adds ranks calls rank rows (Touch issue element cell place bits) q = record {
  entry = refl;
  look = tt;
  seen = tt;
  moment = inl refl;
}
quiet_adds ranks calls rank rows (Flush number) q = record { entry = refl; look = tt; seen = tt; moment = inl refl }
quiet_adds ranks calls rank rows (Request number) q = record { entry = refl; look = tt; seen = tt; moment = inl refl }
quiet_adds ranks calls rank rows Ended q = record { entry = refl; look = tt; seen = tt; moment = inl refl }

no_entry_at : (place : ℕ) (item : Item) → is_entry item ≡ false → is_entry_at place item ≡ false
no_entry_at place (Entry number other step) e = absurd (cc e)
no_entry_at place (Issue number access) e = refl
no_entry_at place (Null number) e = refl
no_entry_at place (Touch issue element cell other bits) e = refl
no_entry_at place (Flush number) e = refl
no_entry_at place (Request number) e = refl
no_entry_at place (Tested number seen) e = refl
no_entry_at place (Refused number class seen) e = refl
no_entry_at place Ended e = refl

no_entry_names : (calls : List Call) (item : Item) → is_entry item ≡ false → IsOfCall calls item
no_entry_names calls (Entry number other step) e = absurd (cc e)
no_entry_names calls (Issue number access) e = tt
no_entry_names calls (Null number) e = tt
no_entry_names calls (Touch issue element cell other bits) e = tt
no_entry_names calls (Flush number) e = tt
no_entry_names calls (Request number) e = tt
no_entry_names calls (Tested number seen) e = tt
no_entry_names calls (Refused number class seen) e = tt
no_entry_names calls Ended e = tt

filter_push : (test : Item → Bool) (log : List Item) (item : Item) → test item ≡ false →
    filter test (log ++ item ∷ []) ≡ filter test log
filter_push test log item e = filter-append test log (item ∷ [])
    ∙ ap (λ b. filter test log ++ cond b (item ∷ []) []) e ∙ append-nil (filter test log)

pub item_fits : (ranks : ℕ) (calls : List Call) (rank : ℕ) (rows : List Row) (log : List Item) (item : Item) →
    AddsLook ranks calls rank rows item → FitsBoard ranks calls rank rows log →
    FitsBoard ranks calls rank rows (log ++ item ∷ [])
item_fits ranks calls rank rows log item adds fits = record {
  allowed = fits.allowed;
  entries = λ place. filter_push (is_entry_at place) log item (no_entry_at place item adds.entry)
      ∙ fits.entries place;
  amount = ap length (filter_push is_entry log item adds.entry) ∙ fits.amount;
  named = each_append (IsOfCall calls) log (item ∷ []) fits.named (no_entry_names calls item adds.entry, tt);
  looks = each_append (IsLook ranks rows rank calls) log (item ∷ []) fits.looks (adds.look, tt);
  seen = each_append (IsSeen (length rows)) log (item ∷ []) fits.seen (adds.seen, tt);
  moments = subst (EachPair IsBefore) (sym (moments_push log item)) (pairs adds.moment);
  within = subst (AllByRecursion (IsWithin (length rows))) (sym (moments_push log item))
      (each_append (IsWithin (length rows)) (moments_in log) (moment_by item ++ []) fits.within (inside adds.moment));
}
  where
    look_after : (m : Moment) → IsWithin (length rows) m → IsBefore m (LookAfter (length rows))
    look_after (EntryAt place) h = h
    look_after (LookAfter seen) h = h

    pairs : ((moment_by item ≡ []) ⊎ (moment_by item ≡ LookAfter (length rows) ∷ [])) →
        EachPair IsBefore (moments_in log ++ (moment_by item ++ []))
    pairs (inl none) = subst (λ m. EachPair IsBefore (moments_in log ++ (m ++ []))) (sym none)
        (subst (EachPair IsBefore) (sym (append-nil (moments_in log))) fits.moments)
    pairs (inr one) = subst (λ m. EachPair IsBefore (moments_in log ++ (m ++ []))) (sym one)
        (pair_push IsBefore (moments_in log) (LookAfter (length rows)) fits.moments
        (each_weaker (IsWithin (length rows)) (λ m. IsBefore m (LookAfter (length rows))) look_after
        (moments_in log) fits.within))

    inside : ((moment_by item ≡ []) ⊎ (moment_by item ≡ LookAfter (length rows) ∷ [])) →
        AllByRecursion (IsWithin (length rows)) (moment_by item ++ [])
    inside (inl none) = subst (λ m. AllByRecursion (IsWithin (length rows)) (m ++ [])) (sym none) tt
    inside (inr one) = subst (λ m. AllByRecursion (IsWithin (length rows)) (m ++ [])) (sym one) (omega arith, tt)

pub quiet_fits : (ranks : ℕ) (calls : List Call) (rank : ℕ) (rows : List Row) (log : List Item) (item : Item) →
    IsQuiet item → FitsBoard ranks calls rank rows log → FitsBoard ranks calls rank rows (log ++ item ∷ [])
quiet_fits ranks calls rank rows log item q fits = item_fits ranks calls rank rows log item
    (quiet_adds ranks calls rank rows item q) fits

pub quiet_items_fit : (ranks : ℕ) (calls : List Call) (rank : ℕ) (rows : List Row) (items log : List Item) →
    AllByRecursion IsQuiet items → FitsBoard ranks calls rank rows log →
    FitsBoard ranks calls rank rows (log ++ items)
quiet_items_fit ranks calls rank rows [] log q fits = subst (FitsBoard ranks calls rank rows)
    (sym (append-nil log)) fits
quiet_items_fit ranks calls rank rows (item ∷ items) log q fits =
    subst (FitsBoard ranks calls rank rows) (append_assoc log (item ∷ []) items)
    (quiet_items_fit ranks calls rank rows items (log ++ item ∷ []) q.1
    (quiet_fits ranks calls rank rows log item q.0 fits))
