-- What a next entry gains from those that were replayed.
use Rattle.std.proofs.Common.{◌≡◌, ℕ, ◌<◌, ◌≤◌, inl, inr, true, false, List, [], ◌∷◌, Option, Some, None, refl, ap, sym}
use Rattle.std.proofs.Common.{subst, ◌∙◌}
use Rattle.std.specs.Prelude.{map, slice_index, if◌then◌else◌}
use Rattle.std.specs.List.{flat_map, fold, zip}
use Rattle.std.specs.Option.{option_map}
use Rattle.std.proofs.lemmas.Bool.{cases_Bool}
use Rattle.list_laws.proofs.Members.{In, here, there}
use Rattle.board_rules.specs.Edges.{Event, events_of, is_edge}
use Rattle.board_rules.specs.Entries.{Row}
use Rattle.cell_face.specs.Fronts.{greater, greater_front}
use Rattle.kept_rows.specs.Gifts.{Given, gained_by, gained_of, gift_to, next_event, rows_given}
use Rattle.kept_rows.specs.KeptRowLaws.{kept_given}
use Rattle.kept_rows.proofs.KeptGains.{gains_kept}
use Rattle.vector_clocks.specs.Replays.{Told, given_told}
use Rattle.vector_clocks.proofs.Greater.{fold_first, fold_in, fold_from}

-- the entry with its call as it is
raw : Told → Given
raw t = record { row = t.row; gift = Some (Some t.gift) }

rows_told : List Told → List Row
rows_told told = map (λ (t : Told). t.row) told

-- the numbers that were given with the entries that lead to the event
unfoldable pub gifts_from : Event → List Told → List (List ℕ)
gifts_from next [] = []
gifts_from next (t ∷ rest) = if is_edge t.stamp.entry.event next then t.gift ∷ gifts_from next rest else gifts_from
    next rest

kept_raw : (told : List Told) → map given_told told ≡ map kept_given (map raw told)
unfolding raw
kept_raw [] = refl
kept_raw (t ∷ rest) = ap (λ l. given_told t ∷ l) (kept_raw rest)

rows_raw : (told : List Told) → rows_given (map raw told) ≡ map (λ (t : Told). t.row) told
unfolding raw
rows_raw [] = refl
rows_raw (t ∷ rest) = ap (λ l. t.row ∷ l) (rows_raw rest)

gifts_are : (next : Event) (told : List Told) →
    flat_map (gift_to next) (zip (map (λ (t : Told). t.stamp.entry.event) told) (map raw told))
    ≡ map Some (gifts_from next told)
unfolding raw gifts_from
gifts_are next [] = refl
gifts_are next (t ∷ rest) = elim (cases_Bool (is_edge t.stamp.entry.event next)) [
  | inl leads ↦ rw leads (ap (λ l. Some t.gift ∷ l) (gifts_are next rest))
  | inr other ↦ rw other (gifts_are next rest)
]

fold_some : (first : List ℕ) (rest : List (List ℕ)) → fold greater_front (Some first) (map Some rest)
    ≡ Some (fold greater first rest)
fold_some first [] = refl
fold_some first (one ∷ rest) = fold_some (greater first one) rest

-- what is gained
unfoldable pub joined_gifts : List (List ℕ) → Option (List ℕ)
joined_gifts [] = None
joined_gifts (first ∷ rest) = Some (fold greater first rest)

joined_are : (gifts : List (List ℕ)) → gained_of (map Some gifts) ≡ option_map Some (joined_gifts gifts)
unfolding joined_gifts
joined_are [] = refl
joined_are (first ∷ rest) = ap Some (fold_some first rest)

pub gained_is : (ranks : ℕ) (told : List Told) (row : Row) → map (λ (t : Told). t.stamp.entry.event) told
    ≡ events_of ranks (map (λ (t : Told). t.row) told) →
    gained_by ranks (map given_told told) row
    ≡ option_map Some (joined_gifts (gifts_from (next_event ranks (map (λ (t : Told). t.row) told) row) told))
gained_is ranks told row events =
    ap (λ l. gained_by ranks l row) (kept_raw told)
    ∙ gains_kept ranks (map raw told) row
    ∙ ap (λ rows. gained_of (flat_map (gift_to (next_event ranks rows row))
    (zip (events_of ranks rows) (map raw told)))) (rows_raw told)
    ∙ ap (λ l. gained_of (flat_map (gift_to (next_event ranks (map (λ (t : Told). t.row) told) row))
    (zip l (map raw told)))) (sym events)
    ∙ ap gained_of (gifts_are (next_event ranks (map (λ (t : Told). t.row) told) row) told)
    ∙ joined_are (gifts_from (next_event ranks (map (λ (t : Told). t.row) told) row) told)

-- ---- from entries to gifts and back

pub in_gifts : (next : Event) {t : Told} {told : List Told} → In t told → is_edge t.stamp.entry.event next ≡ true →
    In t.gift (gifts_from next told)
unfolding gifts_from
in_gifts next here leads = rw leads here
in_gifts next (there {y = u} {xs = told} m) leads = elim (cases_Bool (is_edge u.stamp.entry.event next)) [
  | inl first ↦ rw first (there (in_gifts next m leads))
  | inr other ↦ rw other (in_gifts next m leads)
]

one_of : (next : Event) (u : Told) (told : List Told) {gift : List ℕ} → is_edge u.stamp.entry.event next ≡ true →
    (In gift (gifts_from next told) → (t : Told) × In t told × (is_edge t.stamp.entry.event next ≡ true) ×
    (t.gift ≡ gift)) →
    In gift (u.gift ∷ gifts_from next told) →
    (t : Told) × In t (u ∷ told) × (is_edge t.stamp.entry.event next ≡ true) × (t.gift ≡ gift)
one_of next u told leads rest here = (u, here, leads, refl)
one_of next u told leads rest (there m) = let one = rest m in (one.0, there one.1, one.2, one.3)

pub gifts_in : (next : Event) (told : List Told) {gift : List ℕ} → In gift (gifts_from next told) →
    (t : Told) × In t told × (is_edge t.stamp.entry.event next ≡ true) × (t.gift ≡ gift)
unfolding gifts_from
gifts_in next [] m = elim m [ ]
gifts_in next (u ∷ told) {gift} m = elim (cases_Bool (is_edge u.stamp.entry.event next)) [
  | inr other ↦ let rest = gifts_in next told (rw other at m) in (rest.0, there rest.1, rest.2, rest.3)
  | inl leads ↦ one_of next u told leads (λ n. gifts_in next told n) (rw leads at m)
]

-- each gift is at or below what is gained
pub gained_above : (gifts : List (List ℕ)) {gift : List ℕ} → In gift gifts →
    (all : List ℕ) × (joined_gifts gifts ≡ Some all) × ((rank : ℕ) → slice_index gift rank ≤ slice_index all rank)
unfolding joined_gifts
gained_above [] m = elim m [ ]
gained_above (first ∷ rest) here = (fold greater first rest, refl, fold_first first rest)
gained_above (first ∷ rest) (there m) = (fold greater first rest, refl, λ rank. fold_in first rest rank m)

-- what is gained comes from a gift
pub gained_from : (gifts : List (List ℕ)) (all : List ℕ) → joined_gifts gifts ≡ Some all → (rank n : ℕ) →
    n < slice_index all rank → (gift : List ℕ) × In gift gifts × (n < slice_index gift rank)
unfolding joined_gifts
gained_from [] all is rank n below = absurd (cc is)
gained_from (first ∷ rest) all is rank n below =
    let same : fold greater first rest ≡ all = cc is in
    elim (fold_from first rest rank n (subst (λ l. n < slice_index l rank) (sym same) below)) [
      | inl near ↦ (first, here, near)
      | inr far ↦ (far.0, there far.1, far.2)
    ]

pub nothing_gained : (next : Event) (told : List Told) →
    ((t : Told) → In t told → is_edge t.stamp.entry.event next ≡ false) → gifts_from next told ≡ []
unfolding gifts_from
nothing_gained next [] none = refl
nothing_gained next (t ∷ rest) none = rw (none t here) (nothing_gained next rest (λ u m. none u (there m)))
