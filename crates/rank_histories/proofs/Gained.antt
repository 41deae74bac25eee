-- What an entry gains is met: so each edge to it is.
use Rattle.std.proofs.Common.{◌≡◌, ◌≢◌, ℕ, zero, suc, ◌+◌, ◌≤◌, Bool, true, false, List, [], ◌∷◌, ◌++◌, length}
use Rattle.std.proofs.Common.{map, Option, Some, None, refl, sym, ◌∙◌, ap, subst, arith, IfSome}
use Rattle.std.proofs.Common.{length-append}
use Rattle.std.proofs.Math.Nat.{le-max_left, le-max_right}
use Rattle.std.specs.Prelude.{slice_index, if◌then◌else◌}
use Rattle.std.specs.List.{AllByRecursion, flat_map, fold, zip}
use Rattle.std.specs.Option.{option_map_or}
use Rattle.list_laws.proofs.Each.{each_append, each_front, each_back}
use Rattle.board_rules.specs.Edges.{Event, events_after, is_edge}
use Rattle.board_rules.specs.Entries.{Row}
use Rattle.board_rules.specs.Questions.{question}
use Rattle.cell_face.specs.Fronts.{greater, greater_front}
use Rattle.kept_rows.specs.Gifts.{Front, Given, gained_by, gained_of, gift_to, gifts_to, next_event, rows_given}
use Rattle.kept_rows.specs.KeptCalls.{kept_row}
use Rattle.rank_laws.specs.Fronts.{AreAtMost, Put, rows_put, event_after, AreMetFrom, MeetsEdges}
use Rattle.rank_histories.proofs.KeptEvents.{met_event, to_alike}
use Rattle.rank_histories.proofs.Parts.{lows_rise}
use Rattle.rank_histories.specs.Among.{front_of, lows_in, put_of, puts_of, Tells, IsMetBy}

-- ---- the greatest of fronts

greater_bounds : (xs ys : List ℕ) (k : ℕ) → (slice_index xs k ≤ slice_index (greater xs ys) k)
    × (slice_index ys k ≤ slice_index (greater xs ys) k)
greater_bounds [] ys k = (omega arith, omega arith)
greater_bounds (x ∷ xs) [] k = (omega arith, omega arith)
greater_bounds (x ∷ xs) (y ∷ ys) zero = (le-max_left x y, le-max_right x y)
greater_bounds (x ∷ xs) (y ∷ ys) (suc k) = greater_bounds xs ys k

abbrev IsTold : Front → Type 0
IsTold front = front ≢ None

-- what the greatest tells is met, so what each tells is
fold_met : (cells : ℕ) (lows : List ℕ) (front : Front) (fronts : List Front) → IsTold front →
    AllByRecursion IsTold fronts → IsMetBy cells lows (fold greater_front front fronts) →
    IsMetBy cells lows front × AllByRecursion (IsMetBy cells lows) fronts
fold_met cells lows front [] told all met = (met, tt)
fold_met cells lows None (next ∷ fronts) told all met = absurd (told refl)
fold_met cells lows (Some places) (None ∷ fronts) told all met = absurd (all.0 refl)
fold_met cells lows (Some places) (Some others ∷ fronts) told all met =
    let rest = fold_met cells lows (Some (greater places others)) fronts (λ e. cc e) all.1 met in (
      λ cell below. (let more = rest.0 cell below in let bound = (greater_bounds places others cell).0 in
          omega (arith, more, bound)),
      (
        λ cell below. (let more = rest.0 cell below in let bound = (greater_bounds places others cell).1 in
            omega (arith, more, bound)),
        rest.1,
      ),
    )

gained_met : (cells : ℕ) (lows : List ℕ) (fronts : List Front) → AllByRecursion IsTold fronts →
    IfSome (gained_of fronts) (IsMetBy cells lows) → AllByRecursion (IsMetBy cells lows) fronts
gained_met cells lows [] told met = tt
gained_met cells lows (front ∷ fronts) told met = fold_met cells lows front fronts told.0 told.1 met

-- ---- gifts

gift_told : (b : Bool) (gift : Option Front) → gift ≢ Some None →
    AllByRecursion IsTold (if b then option_map_or (λ front. front ∷ []) gift [] else [])
gift_told false gift tells = tt
gift_told true None tells = tt
gift_told true (Some front) tells = (λ e. tells (ap Some e), tt)

gifts_told : (event : Event) (events : List Event) (entries : List Given) → AllByRecursion Tells entries →
    AllByRecursion IsTold (flat_map (gift_to event) (zip events entries))
gifts_told event [] entries all = tt
gifts_told event (e ∷ events) [] all = tt
gifts_told event (e ∷ events) (one ∷ entries) all = each_append IsTold
    (gift_to event (e, one)) (flat_map (gift_to event) (zip events entries))
    (gift_told (is_edge e event) one.gift all.0) (gifts_told event events entries all.1)

-- ---- edges

gift_met : (cells : ℕ) (lows : List ℕ) (gift : Option Front) →
    AllByRecursion (IsMetBy cells lows) (option_map_or (λ front. front ∷ []) gift []) →
    AreAtMost (front_of cells gift) (lows_in cells lows)
gift_met cells lows None met = λ cell. omega arith
gift_met cells lows (Some None) met = λ cell. omega arith
gift_met cells lows (Some (Some places)) met = lows_rise cells places lows met.0

met_from : (ranks cells : ℕ) (event : Event) (lows : List ℕ) (puts : List Put) (rows : List Row) (place : ℕ)
    (entries : List Given) → rows_put puts ≡ rows → place ≡ length rows →
    AllByRecursion (IsMetBy cells lows)
    (flat_map (gift_to event) (zip (events_after ranks place rows (rows_given entries)) entries)) →
    AreMetFrom ranks puts (puts_of cells entries) event (lows_in cells lows)
met_from ranks cells event lows puts rows place [] same long met = tt
met_from ranks cells event lows puts rows place (one ∷ entries) same long met =
    let here : Event = record { place = place; step = one.row.step; asked = question ranks rows one.row } in
    let rest = flat_map (gift_to event)
    (zip (events_after ranks (place + 1) (rows ++ one.row ∷ []) (rows_given entries)) entries) in
    let is_here : event_after ranks (rows_put puts) one.row ≡ here = λ i. record {
      place = (ap length same ∙ sym long) i;
      step = one.row.step;
      asked = question ranks (same i) one.row;
    } in (
      λ edge. gift_met cells lows one.gift
          (subst (λ b. AllByRecursion (IsMetBy cells lows)
          (if b then option_map_or (λ front. front ∷ []) one.gift [] else []))
          (sym (ap (λ (e : Event). is_edge e event) is_here) ∙ edge)
          (each_front (IsMetBy cells lows) (gift_to event (here, one)) rest met)),
      met_from ranks cells event lows (puts ++ put_of cells one ∷ []) (rows ++ one.row ∷ []) (place + 1) entries
          (joined puts (put_of cells one) ∙ ap (λ (l : List Row). l ++ one.row ∷ []) same)
          (ap (λ n. n + 1) long ∙ sym (length-append rows (one.row ∷ [])))
          (each_back (IsMetBy cells lows) (gift_to event (here, one)) rest met),
    )
  where
    joined : (xs : List Put) (x : Put) → rows_put (xs ++ x ∷ []) ≡ rows_put xs ++ x.row ∷ []
    joined [] x = refl
    joined (y ∷ xs) x = ap (λ rest. y.row ∷ rest) (joined xs x)

pub rows_of_puts : (cells : ℕ) (entries : List Given) → rows_put (puts_of cells entries) ≡ rows_given entries
rows_of_puts cells [] = refl
rows_of_puts cells (one ∷ entries) = ap (λ rest. one.row ∷ rest) (rows_of_puts cells entries)

-- each edge to an entry is met where what it gains is; the entry is put as the board keeps it
pub gains_meet : (ranks cells : ℕ) (before : List Given) (row kept : Row) (lows : List ℕ) →
    kept_row kept ≡ kept_row row → AllByRecursion Tells before →
    IfSome (gained_by ranks before row) (IsMetBy cells lows) →
    MeetsEdges ranks (puts_of cells before) kept (lows_in cells lows)
gains_meet ranks cells before row kept lows same tells met =
    let event = next_event ranks (rows_given before) row in
    let fronts = gained_met cells lows (gifts_to ranks before row)
    (gifts_told event (events_after ranks 0 [] (rows_given before)) before tells) met in
    met_event ranks [] (puts_of cells before) event (event_after ranks (rows_put (puts_of cells before)) kept)
    (lows_in cells lows)
    (λ from. to_alike ranks (rows_put (puts_of cells before)) (rows_given before) kept row
    (ap (map kept_row) (rows_of_puts cells before)) same from)
    (met_from ranks cells event lows [] [] 0 before refl refl fronts)
