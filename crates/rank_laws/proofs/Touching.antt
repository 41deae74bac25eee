-- The touches and the accesses of a log that grows at its end.
use Rattle.std.proofs.Common.{◌≡◌, ◌≢◌, ℕ, zero, suc, ◌+◌, ◌<◌, ◌≤◌, ◌⊎◌, inl, inr, false, List, [], ◌∷◌, ◌++◌, length}
use Rattle.std.proofs.Common.{Option, Some, None, refl, sym, ◌∙◌, ap, subst, arith, append-nil}
use Rattle.std.specs.Prelude.{slice_get}
use Rattle.std.specs.List.{AllByRecursion}
use Rattle.std.specs.Option.{option_map_or}
use Rattle.std.proofs.lemmas.Bool.Decides.{eqb_tells}
use Rattle.std.proofs.lemmas.Grind.{flat_map-append}
use Rattle.std.proofs.lemmas.Option.{slice_get_within}
use Rattle.list_laws.proofs.Each.{each_append, each_at}
use Rattle.rma_types.specs.declared.calls.Call.{Call}
use Rattle.rma_record.specs.declared.items.Item.{Item}
use Rattle.rma_record.specs.declared.items.Item.TheVariants.{Issue, Null, Touch, Flush, Request, Entry, Tested, Refused}
use Rattle.rma_record.specs.declared.items.Item.TheVariants.{Ended}
use Rattle.call_rules.specs.declared.elements.Piece.{Piece}
use Rattle.rma_types.specs.declared.actions.Transfer.{Transfer}
use Rattle.call_rules.specs.Pieces.{pieces}
use Rattle.lawful_runs.specs.Accesses.{transfer_at, issued_by, issued_at, issued_from, pieces_of}
use Rattle.lawful_runs.specs.Items.{is_touch}
use Rattle.lawful_runs.specs.Stages.{Stage}
use Rattle.lawful_runs.specs.TouchLaw.{touch_of, touched_by, elements_from, issue_touched, issues_touched}
use Rattle.lawful_runs.proofs.ItemLaws.{plain_touches_nothing}
use Rattle.lawful_runs.proofs.TouchLaws.{touch_of_own, touched_joined}
use Rattle.rank_laws.proofs.Lists.{place_in, get_front, get_rest}
use Rattle.rank_laws.specs.Deliveries.{AreTouches, AreTouchesOf}
use Rattle.rank_laws.specs.Fronts.{Lows}
use Rattle.rank_rules.specs.declared.pending.PendingAccess.{PendingAccess}

-- the item is a touch of the Issue with this index
abbrev pub IsTouchOf : ℕ → Item → Type 0
IsTouchOf issue (Touch of element cell place bits) = of ≡ issue
IsTouchOf issue other = ⊥

-- ---- what touches are

pub touches_own : (t : Transfer) (issue element : ℕ) (places : List Piece) (lows : Lows) (items : List Item)
    (after : Lows) → AreTouches t issue element places lows items after →
    AllByRecursion (IsTouchOf issue) items
touches_own t issue element [] lows items after h = subst (AllByRecursion (IsTouchOf issue)) (sym h.0) tt
touches_own t issue element (piece ∷ rest) lows items after h =
    subst (AllByRecursion (IsTouchOf issue)) (sym h.4) (
      refl,
      touches_own t issue (element + 1) rest h.3 h.2 after h.8,
    )

pub touches_of_own : (stage : Stage) (one : PendingAccess) (o : Option Transfer) (lows : Lows) (items : List Item)
    (after : Lows) → AreTouchesOf stage one o lows items after →
    AllByRecursion (IsTouchOf one.index) items
touches_of_own stage one None lows items after h = subst (AllByRecursion (IsTouchOf one.index)) (sym h.0) tt
touches_of_own stage one (Some t) lows items after h = touches_own t one.index 0 _ lows items after h

pub touches_elements : (t : Transfer) (issue element : ℕ) (places : List Piece) (lows : Lows) (items : List Item)
    (after : Lows) → AreTouches t issue element places lows items after →
    touched_by issue items ≡ elements_from element places
touches_elements t issue element [] lows items after h = ap (touched_by issue) h.0
touches_elements t issue element (piece ∷ rest) lows items after h =
    ap (touched_by issue) h.4
    ∙ ap (λ front. front ++ touched_by issue h.2) (touch_of_own issue element piece.cell h.0 h.1)
    ∙ ap (λ more. (element, piece.cell) ∷ more) (touches_elements t issue (element + 1) rest h.3 h.2 after h.8)

-- the touches of an access are those of its elements
pub touches_whole : (stage : Stage) (calls : List Call) (one : PendingAccess) (lows : Lows) (items : List Item)
    (after : Lows) →
    AreTouchesOf stage one (transfer_at calls one.number) lows items after →
    touched_by one.index items ≡ elements_from 0 (pieces_of stage.layout calls one)
touches_whole stage calls one lows items after h =
    elim (transfer_at calls one.number) as (λ (o : Option Transfer). AreTouchesOf stage one o lows items after →
    touched_by one.index items ≡ elements_from 0 (option_map_or
    (λ (t : Transfer). pieces stage.layout one.access t.dtype) o [])) [
      | None ↦ λ k. ap (touched_by one.index) k.0
      | Some t ↦ λ k. touches_elements t one.index 0 _ lows items after k
    ] h

-- ---- touches of one Issue

touch_of_other : (index issue element cell place bits : ℕ) → issue ≢ index →
    touch_of index (Touch issue element cell place bits) ≡ []
touch_of_other index issue element cell place bits other =
    elim (eqb_tells issue index) [ inl same ↦ absurd (other same.1) | inr not ↦ rw not.0 refl ]

touch_is_other : (index issue : ℕ) (item : Item) → issue ≢ index → IsTouchOf issue item → touch_of index item ≡ []
touch_is_other index issue (Touch of element cell place bits) other is = touch_of_other index of element cell place
    bits (λ e. other (sym is ∙ e))
touch_is_other index issue (Issue number access) other is = absurd is
touch_is_other index issue (Null number) other is = absurd is
touch_is_other index issue (Flush number) other is = absurd is
touch_is_other index issue (Request number) other is = absurd is
touch_is_other index issue (Entry number place step) other is = absurd is
touch_is_other index issue (Tested number seen) other is = absurd is
touch_is_other index issue (Refused number class seen) other is = absurd is
touch_is_other index issue Ended other is = absurd is

-- touches of one Issue are no touches of another
pub touched_by_other : (index issue : ℕ) (items : List Item) → issue ≢ index →
    AllByRecursion (IsTouchOf issue) items → touched_by index items ≡ []
touched_by_other index issue [] other all = refl
touched_by_other index issue (item ∷ items) other all =
    rw (touch_is_other index issue item other all.0) (touched_by_other index issue items other all.1)

-- nor does it name an Issue that is touched
pub plain_names_nothing : (item : Item) → is_touch item ≡ false → issue_touched item ≡ []
plain_names_nothing (Touch of element cell place bits) e = absurd (cc e)
plain_names_nothing (Issue number access) e = refl
plain_names_nothing (Null number) e = refl
plain_names_nothing (Flush number) e = refl
plain_names_nothing (Request number) e = refl
plain_names_nothing (Entry number place step) e = refl
plain_names_nothing (Tested number seen) e = refl
plain_names_nothing (Refused number class seen) e = refl
plain_names_nothing Ended e = refl

pub touched_plain : (index : ℕ) (log : List Item) (item : Item) → is_touch item ≡ false →
    touched_by index (log ++ item ∷ []) ≡ touched_by index log
touched_plain index log item e =
    touched_joined index log (item ∷ []) ∙ ap (λ more. touched_by index log ++ (more ++ []))
    (plain_touches_nothing index item e) ∙ append-nil (touched_by index log)

pub issues_joined : (xs ys : List Item) → issues_touched (xs ++ ys) ≡ issues_touched xs ++ issues_touched ys
issues_joined xs ys = flat_map-append issue_touched xs ys

pub issues_plain : (log : List Item) (item : Item) → is_touch item ≡ false →
    issues_touched (log ++ item ∷ []) ≡ issues_touched log
issues_plain log item e =
    issues_joined log (item ∷ []) ∙ ap (λ more. issues_touched log ++ (more ++ [])) (plain_names_nothing item e)
    ∙ append-nil (issues_touched log)

-- the Issues of touches of one Issue
pub issues_of_touches : (issue : ℕ) (items : List Item) → AllByRecursion (IsTouchOf issue) items →
    AllByRecursion (λ n. n ≡ issue) (issues_touched items)
issues_of_touches issue [] all = tt
issues_of_touches issue (Touch of element cell place bits ∷ items) all = (all.0, issues_of_touches issue items all.1)
issues_of_touches issue (Issue number access ∷ items) all = absurd all.0
issues_of_touches issue (Null number ∷ items) all = absurd all.0
issues_of_touches issue (Flush number ∷ items) all = absurd all.0
issues_of_touches issue (Request number ∷ items) all = absurd all.0
issues_of_touches issue (Entry number place step ∷ items) all = absurd all.0
issues_of_touches issue (Tested number seen ∷ items) all = absurd all.0
issues_of_touches issue (Refused number class seen ∷ items) all = absurd all.0
issues_of_touches issue (Ended ∷ items) all = absurd all.0

-- a log whose touches are all of Issues below an index has none of that index, or of one past it
pub touched_past : (index bound : ℕ) (items : List Item) → bound ≤ index →
    AllByRecursion (λ n. n < bound) (issues_touched items) → touched_by index items ≡ []
touched_past index bound [] past all = refl
touched_past index bound (Touch of element cell place bits ∷ items) past all =
    let below : of < bound = all.0 in
    let away : of ≢ index = λ e. absurd (omega arith) in
    rw (touch_of_other index of element cell place bits away) (touched_past index bound items past all.1)
touched_past index bound (Issue number access ∷ items) past all = touched_past index bound items past all
touched_past index bound (Null number ∷ items) past all = touched_past index bound items past all
touched_past index bound (Flush number ∷ items) past all = touched_past index bound items past all
touched_past index bound (Request number ∷ items) past all = touched_past index bound items past all
touched_past index bound (Entry number place step ∷ items) past all = touched_past index bound items past all
touched_past index bound (Tested number seen ∷ items) past all = touched_past index bound items past all
touched_past index bound (Refused number class seen ∷ items) past all = touched_past index bound items past all
touched_past index bound (Ended ∷ items) past all = touched_past index bound items past all

-- ---- accesses

-- touches issue nothing
pub touch_issues_nothing : (calls : List Call) (index issue : ℕ) (item : Item) → IsTouchOf issue item →
    issued_by calls index item ≡ None
touch_issues_nothing calls index issue (Touch of element cell place bits) is = refl
touch_issues_nothing calls index issue (Issue number access) is = absurd is
touch_issues_nothing calls index issue (Null number) is = absurd is
touch_issues_nothing calls index issue (Flush number) is = absurd is
touch_issues_nothing calls index issue (Request number) is = absurd is
touch_issues_nothing calls index issue (Entry number place step) is = absurd is
touch_issues_nothing calls index issue (Tested number seen) is = absurd is
touch_issues_nothing calls index issue (Refused number class seen) is = absurd is
touch_issues_nothing calls index issue Ended is = absurd is

-- the index of an access is that of its Issue
pub made_at : (calls : List Call) (index : ℕ) (item : Item) (one : PendingAccess) →
    issued_by calls index item ≡ Some one → one.index ≡ index
made_at calls index (Issue number access) one e =
    elim (transfer_at calls number) as (λ (o : Option Transfer).
    option_map_or (λ (t : Transfer). Some (record {
      index = index;
      number = number;
      access = access;
      fetches = t.fetches;
    })) o None ≡ Some one → one.index ≡ index) [
      | None ↦ λ none. absurd (cc none)
      | Some t ↦ λ some. let same : (let made : PendingAccess = record {
        index = index;
        number = number;
        access = access;
        fetches = t.fetches;
      } in made) ≡ one = cc some in sym
          (ap (λ (i : PendingAccess). i.index) same)
    ] e
made_at calls index (Touch of element cell place bits) one e = absurd (cc e)
made_at calls index (Null number) one e = absurd (cc e)
made_at calls index (Flush number) one e = absurd (cc e)
made_at calls index (Request number) one e = absurd (cc e)
made_at calls index (Entry number place step) one e = absurd (cc e)
made_at calls index (Tested number seen) one e = absurd (cc e)
made_at calls index (Refused number class seen) one e = absurd (cc e)
made_at calls index Ended one e = absurd (cc e)

-- an access stands within its log
pub issued_inside : (calls : List Call) (log : List Item) (index : ℕ) (one : PendingAccess) →
    issued_at calls log index ≡ Some one → (index < length log) × (one.index ≡ index)
issued_inside calls log index one e =
    elim (slice_get log index) as (λ (o : Option Item). slice_get log index ≡ o →
    option_map_or (issued_by calls index) o None ≡ Some one → (index < length log) × (one.index ≡ index)) [
      | None ↦ λ g none. absurd (cc none)
      | Some item ↦ λ g some. (slice_get_within log index item g, made_at calls index item one some)
    ] refl e

-- it is there still in a longer log
pub issued_front : (calls : List Call) (log more : List Item) (index : ℕ) → index < length log →
    issued_at calls (log ++ more) index ≡ issued_at calls log index
issued_front calls log more index less = ap (λ (o : Option Item). option_map_or (issued_by calls index) o None)
    (get_front log more index less)

pub issued_still : (calls : List Call) (log more : List Item) (index : ℕ) (one : PendingAccess) →
    issued_at calls log index ≡ Some one → issued_at calls (log ++ more) index ≡ Some one
issued_still calls log more index one e = issued_front calls log more index (issued_inside calls log index one e).0
    ∙ e

-- touches at the end of a log issue nothing
pub issued_before_touches : (calls : List Call) (log items : List Item) (issue index : ℕ) (one : PendingAccess) →
    AllByRecursion (IsTouchOf issue) items →
    issued_at calls (log ++ items) index ≡ Some one → issued_at calls log index ≡ Some one
issued_before_touches calls log items issue index one own e = elim (place_in index (length log)) [
  | inl less ↦ sym (issued_front calls log items index less) ∙ e
  | inr past ↦
      let there : option_map_or (issued_by calls index) (slice_get items past.0) None ≡ Some one = ap
      (λ (o : Option Item). option_map_or (issued_by calls index) o None)
      (sym (get_rest log items index past.0 past.1)) ∙ e in
      absurd (no_touch past.0 there)
]
  where
    no_touch : (at : ℕ) → option_map_or (issued_by calls index) (slice_get items at) None ≡ Some one → ⊥
    no_touch at h =
        elim (slice_get items at) as (λ (o : Option Item). slice_get items at ≡ o →
        option_map_or (issued_by calls index) o None ≡ Some one → ⊥) [
          | None ↦ λ g none. cc none
          | Some item ↦ λ g some. cc (sym (touch_issues_nothing calls index issue item
              (each_at (IsTouchOf issue) items at item own g)) ∙ some)
        ] refl h

-- the accesses of a log and one more item: an old one, or that of the item
pub issued_push : (calls : List Call) (log : List Item) (item : Item) (index : ℕ) (one : PendingAccess) →
    issued_at calls (log ++ item ∷ []) index ≡ Some one →
    (issued_at calls log index ≡ Some one) ⊎ ((index ≡ length log) × (issued_by calls (length log) item ≡ Some one))
issued_push calls log item index one e = elim (place_in index (length log)) [
  | inl less ↦ inl (sym (issued_front calls log (item ∷ []) index less) ∙ e)
  | inr past ↦ at_end past.0 past.1 (ap (λ (o : Option Item). option_map_or (issued_by calls index) o None)
      (sym (get_rest log (item ∷ []) index past.0 past.1)) ∙ e)
]
  where
    at_end : (at : ℕ) → index ≡ length log + at → option_map_or (issued_by calls index)
        (slice_get (item ∷ []) at) None ≡ Some one →
        (issued_at calls log index ≡ Some one) ⊎ ((index ≡ length log) ×
        (issued_by calls (length log) item ≡ Some one))
    at_end zero is h = let same : index ≡ length log = omega arith in inr
        (same, subst (λ n. issued_by calls n item ≡ Some one) same h)
    at_end (suc at) is h = absurd (cc h)

-- what holds of each access by its index holds of each in the list of accesses
pub each_issued : (calls : List Call) (P : PendingAccess → Type 0) (log : List Item) →
    ((index : ℕ) (one : PendingAccess) → issued_at calls log index ≡ Some one → P one) →
    AllByRecursion P (issued_from calls 0 log)
each_issued calls P log h = each_from 0 log (λ at one e. h at one
    (subst (λ n. option_map_or (issued_by calls n) (slice_get log at) None ≡ Some one) (omega arith) e))
  where
    each_from : (index : ℕ) (items : List Item) → ((at : ℕ) (one : PendingAccess) →
        option_map_or (issued_by calls (index + at)) (slice_get items at) None ≡ Some one → P one) →
        AllByRecursion P (issued_from calls index items)
    each_from index [] k = tt
    each_from index (item ∷ items) k =
        each_append P (option_map_or (λ (one : PendingAccess). one ∷ []) (issued_by calls index item) [])
        (issued_from calls (index + 1) items)
        (elim (issued_by calls index item) as (λ (o : Option PendingAccess). issued_by calls index item ≡ o →
        AllByRecursion P (option_map_or (λ (one : PendingAccess). one ∷ []) o [])) [
          | None ↦ λ e. tt
          | Some one ↦ λ e. (k 0 one (subst (λ n. issued_by calls n item ≡ Some one) (omega arith) e), tt)
        ] refl)
        (each_from (index + 1) items (λ at one e. k (suc at) one
        (subst (λ n. option_map_or (issued_by calls n) (slice_get items at) None ≡ Some one) (omega arith) e)))
