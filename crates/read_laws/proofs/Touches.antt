-- The touches of a run, each with its item, its access and its element.
use Rattle.std.proofs.Common.{◌≡◌, ℕ, zero, suc, ◌+◌, ◌<◌, ◌≤◌, inl, inr, Bool, true, false, cond, List, [], ◌∷◌, ◌++◌}
use Rattle.std.proofs.Common.{length, Option, Some, None, refl, ap, sym, ◌∙◌, subst, arith, length-append}
use Rattle.std.specs.Prelude.{◌==◌, map, slice_get}
use Rattle.std.specs.List.{filter, flat_map, zip}
use Rattle.std.specs.Option.{option_map_or}
use Rattle.std.proofs.lemmas.List.{map-append}
use Rattle.std.proofs.lemmas.List.Elements.{filter-append}
use Rattle.list_laws.proofs.Members.{In, here, there, append_in, in_append_left, in_append_right, flat_map_in}
use Rattle.rma_types.specs.declared.accesses.Access.{Access}
use Rattle.rma_types.specs.declared.accesses.Id.{Id}
use Rattle.rma_types.specs.declared.calls.Call.{Call}
use Rattle.rma_types.specs.declared.dtypes.Dtype.{Dtype}
use Rattle.rma_types.specs.declared.scripts.Layout.{Layout}
use Rattle.rma_types.specs.declared.scripts.Script.{Script}
use Rattle.rma_record.specs.declared.items.Item.{Item}
use Rattle.rma_record.specs.declared.items.Item.TheVariants.{Issue, Null, Touch, Flush, Request, Entry, Tested, Refused}
use Rattle.rma_record.specs.declared.items.Item.TheVariants.{Ended}
use Rattle.rma_record.specs.declared.runs.Run.{Run}
use Rattle.call_rules.specs.declared.elements.Piece.{Piece}
use Rattle.rma_types.specs.declared.actions.Transfer.{Transfer}
use Rattle.call_rules.specs.Elements.{element_in}
use Rattle.call_rules.specs.Layout.{layout}
use Rattle.call_rules.specs.Pieces.{numbers_from}
use Rattle.call_rules.proofs.NumbersFrom.{in_numbers}
use Rattle.lawful_runs.specs.Accesses.{Touching, change_made, transfer_at, issued_by, issued_at, issued_from}
use Rattle.lawful_runs.specs.Accesses.{touching_by, touches_among, touches_of, all_touches}
use Rattle.lawful_runs.specs.Logs.{Named, named_from, named_in, log_of, calls_of}
use Rattle.lawful_runs.specs.TouchLaw.{touch_of, touched_by, elements_from}
use Rattle.rank_rules.specs.declared.pending.PendingAccess.{PendingAccess}
use Rattle.lawful_runs.proofs.TouchLaws.{touch_once, touched_most, touch_of_own}
use Rattle.order_rules.specs.OrderedReads.{element_touched}

-- ---- lists

pub in_flat_map : {X Y : Type 0} (f : X → List Y) {x : X} {y : Y} {xs : List X} → In x xs → In y (f x) →
    In y (flat_map f xs)
in_flat_map f {x} {y} {xs} here m = in_append_left _ m
in_flat_map f (there {y = z} n) m = in_append_right (f z) (in_flat_map f n m)

pub numbers_in : (first count n : ℕ) → In n (numbers_from first count) → (first ≤ n) × (n < first + count)
numbers_in first zero n m = elim m [ ]
numbers_in first (suc count) n here = (omega arith, omega arith)
numbers_in first (suc count) n (there m) = let rest = numbers_in (first + 1) count n m in
    (omega (arith, rest.0), omega (arith, rest.1))

-- ---- the item of a touch

-- the touch is this item of a log with these calls
pub record IsTouchIn (memory : Layout) (calls : List Call) (log : List Item) (x : Touching) : Type 0 where
  pub logged : slice_get log x.id.index ≡ Some (Touch x.issue x.element x.cell x.place x.bits)
  pub change : x.change ≡ option_map_or (λ one. change_made memory calls one x.element)
      (issued_at calls log x.issue) None

touch_item : (memory : Layout) (calls : List Call) (log : List Item) (id : Id) (item : Item) {x : Touching} →
    In x (touching_by memory calls log id item) →
    (x.id ≡ id) × (item ≡ Touch x.issue x.element x.cell x.place x.bits)
    × (x.change ≡ option_map_or (λ one. change_made memory calls one x.element) (issued_at calls log x.issue) None)
touch_item memory calls log id (Touch issue element cell place bits) here = (refl, refl, refl)
touch_item memory calls log id (Touch issue element cell place bits) (there m) = elim m [ ]
touch_item memory calls log id (Issue number access) m = elim m [ ]
touch_item memory calls log id (Null number) m = elim m [ ]
touch_item memory calls log id (Flush number) m = elim m [ ]
touch_item memory calls log id (Request number) m = elim m [ ]
touch_item memory calls log id (Entry number place step) m = elim m [ ]
touch_item memory calls log id (Tested number seen) m = elim m [ ]
touch_item memory calls log id (Refused number class seen) m = elim m [ ]
touch_item memory calls log id Ended m = elim m [ ]

pub named_at : (rank index : ℕ) (items : List Item) {x : Named} → In x (named_from rank index items) →
    (k : ℕ) × (x.id.rank ≡ rank) × (x.id.index ≡ index + k) × (slice_get items k ≡ Some x.item)
named_at rank index [] m = elim m [ ]
named_at rank index (item ∷ items) here = (0, refl, omega arith, refl)
named_at rank index (item ∷ items) (there m) =
    let rest = named_at rank (index + 1) items m in (suc rest.0, rest.1, omega (arith, rest.2), rest.3)

-- a touch of the log of a rank
pub touch_in_log : (memory : Layout) (calls : List Call) (rank : ℕ) (log : List Item) {x : Touching} →
    In x (touches_among memory calls log (named_in rank log)) → (x.id.rank ≡ rank) × IsTouchIn memory calls log x
touch_in_log memory calls rank log {x} m =
    let one = flat_map_in (λ (named : Named). touching_by memory calls log named.id named.item) (named_in rank log) m in
    let at = named_at rank 0 log one.1 in
    let is = touch_item memory calls log one.0.id one.0.item one.2 in
    let index : at.0 ≡ x.id.index = omega (arith, at.2, ap (λ (i : Id). i.index) is.0) in (
      ap (λ (i : Id). i.rank) is.0 ∙ at.1,
      record {
        logged = subst (λ k. slice_get log k ≡ Some one.0.item) index at.3 ∙ ap Some is.1;
        change = is.2;
      },
    )

-- a touch of a run: its rank is one, and it is this item of its log
pub record IsTouch (script : Script) (run : Run) (x : Touching) : Type 0 where
  pub within : x.id.rank < script.ranks
  pub item : IsTouchIn (layout script) (calls_of script x.id.rank) (log_of run x.id.rank) x

pub touch_of_rank : (script : Script) (run : Run) (rank : ℕ) {x : Touching} → rank < script.ranks →
    In x (touches_of script run rank) → (x.id.rank ≡ rank) × IsTouch script run x
touch_of_rank script run rank {x} within m =
    let one = touch_in_log (layout script) (calls_of script rank) rank (log_of run rank) m in (
      one.0,
      record {
        within = omega (arith, one.0, within);
        item = subst (λ r. IsTouchIn (layout script) (calls_of script r) (log_of run r) x) (sym one.0) one.1;
      },
    )

pub touch_is : (script : Script) (run : Run) {x : Touching} → In x (all_touches script run) → IsTouch script run x
touch_is script run {x} m =
    let rank = flat_map_in (touches_of script run) (numbers_from 0 script.ranks) m in
    let below = numbers_in 0 script.ranks rank.0 rank.1 in
    (touch_of_rank script run rank.0 (omega (arith, below.1)) rank.2).1

pub touch_of_all : (script : Script) (run : Run) (rank : ℕ) {x : Touching} → rank < script.ranks →
    In x (touches_of script run rank) → In x (all_touches script run)
touch_of_all script run rank within m = in_flat_map (touches_of script run)
    (in_numbers 0 script.ranks rank (omega arith) (omega (arith, within))) m

-- ---- the access of a touch

abbrev pending_by : ℕ → ℕ → Access → Option Transfer → Option PendingAccess
pending_by index number access o =
    option_map_or (λ (t : Transfer). Some
    (record { index = index; number = number; access = access; fetches = t.fetches })) o None

-- what an item issues: the access of an Issue, whose call makes a transfer
pub record IsIssuedBy (calls : List Call) (index : ℕ) (item : Item) (one : PendingAccess) : Type 0 where
  pub is : item ≡ Issue one.number one.access
  pub at : one.index ≡ index
  pub t : Transfer
  pub moves : transfer_at calls one.number ≡ Some t
  pub fetches : one.fetches ≡ t.fetches

issue_is : (calls : List Call) (index number : ℕ) (access : Access) (one : PendingAccess) (o : Option Transfer) →
    transfer_at calls number ≡ o → pending_by index number access o ≡ Some one →
    IsIssuedBy calls index (Issue number access) one
issue_is calls index number access one None moves e = absurd (cc e)
issue_is calls index number access one (Some t) moves e =
    let same : record { index = index; number = number; access = access; fetches = t.fetches } ≡ one = cc e in
    subst (IsIssuedBy calls index (Issue number access)) same
    (record { is = refl; at = refl; t = t; moves = moves; fetches = refl })

pub issued_is : (calls : List Call) (index : ℕ) (item : Item) (one : PendingAccess) →
    issued_by calls index item ≡ Some one →
    IsIssuedBy calls index item one
issued_is calls index (Issue number access) one e = issue_is calls index number access one
    (transfer_at calls number) refl e
issued_is calls index (Null number) one e = absurd (cc e)
issued_is calls index (Touch issue element cell place bits) one e = absurd (cc e)
issued_is calls index (Flush number) one e = absurd (cc e)
issued_is calls index (Request number) one e = absurd (cc e)
issued_is calls index (Entry number place step) one e = absurd (cc e)
issued_is calls index (Tested number seen) one e = absurd (cc e)
issued_is calls index (Refused number class seen) one e = absurd (cc e)
issued_is calls index Ended one e = absurd (cc e)

listed : (o : Option PendingAccess) (one : PendingAccess) → In one (option_map_or (λ x. x ∷ []) o []) → o ≡ Some one
listed None one m = elim m [ ]
listed (Some x) one here = refl
listed (Some x) one (there m) = elim m [ ]

-- an access of some items of a log is what one of them issues
pub issued_at_some : (calls : List Call) (first : ℕ) (items : List Item) (one : PendingAccess) →
    In one (issued_from calls first items) →
    (k : ℕ) × (item : Item) × (slice_get items k ≡ Some item) × (issued_by calls (first + k) item ≡ Some one)
issued_at_some calls first [] one m = elim m [ ]
issued_at_some calls first (item ∷ items) one m =
    elim (append_in (option_map_or (λ x. x ∷ []) (issued_by calls first item) []) m) [
      | inl now ↦
          let same : first ≡ first + 0 = omega arith in (
            0,
            item,
            refl,
            subst (λ n. issued_by calls n item ≡ Some one) same
                (listed (issued_by calls first item) one now),
          )
      | inr later ↦
          let rest = issued_at_some calls (first + 1) items one later in
          let same : first + 1 + rest.0 ≡ first + suc rest.0 = omega arith in
          (suc rest.0, rest.1, rest.2, subst (λ n. issued_by calls n rest.1 ≡ Some one) same rest.3)
    ]

pub in_issued : (calls : List Call) (first : ℕ) (items : List Item) (k : ℕ) (item : Item) (one : PendingAccess) →
    slice_get items k ≡ Some item → issued_by calls (first + k) item ≡ Some one → In one (issued_from calls first items)
in_issued calls first [] k item one e h = absurd (cc e)
in_issued calls first (x ∷ items) zero item one e h =
    let same : item ≡ x = cc e in
    let at : first + 0 ≡ first = omega arith in
    let is : issued_by calls first x ≡ Some one =
    sym (ap (λ i. issued_by calls first i) same) ∙ sym (ap (λ n. issued_by calls n item) at) ∙ h in
    in_append_left _ (subst (λ o. In one (option_map_or (λ y. y ∷ []) o [])) (sym is) here)
in_issued calls first (x ∷ items) (suc k) item one e h =
    let at : first + suc k ≡ first + 1 + k = omega arith in
    in_append_right (option_map_or (λ y. y ∷ []) (issued_by calls first x) [])
    (in_issued calls (first + 1) items k item one e (sym (ap (λ n. issued_by calls n item) at) ∙ h))

-- ---- what of a log touches an access

pub touch_among : (index : ℕ) (items : List Item) (k element cell place bits : ℕ) →
    slice_get items k ≡ Some (Touch index element cell place bits) → In (element, cell) (touched_by index items)
touch_among index [] k element cell place bits e = absurd (cc e)
touch_among index (x ∷ items) zero element cell place bits e =
    let is : x ≡ Touch index element cell place bits = cc e in
    in_append_left (touched_by index items)
    (subst (In (element, cell)) (sym (ap (touch_of index) is ∙ touch_of_own index element cell place bits)) here)
touch_among index (x ∷ items) (suc k) element cell place bits e =
    in_append_right (touch_of index x) (touch_among index items k element cell place bits e)

-- an element of an access
pub element_is : (first : ℕ) (pieces : List Piece) {pair : ℕ × ℕ} → In pair (elements_from first pieces) →
    (k : ℕ) × (piece : Piece) × (pair.0 ≡ first + k) × (slice_get pieces k ≡ Some piece) × (piece.cell ≡ pair.1)
element_is first [] m = elim m [ ]
element_is first (piece ∷ pieces) here = (0, piece, omega arith, refl, refl)
element_is first (piece ∷ pieces) (there m) =
    let rest = element_is (first + 1) pieces m in (suc rest.0, rest.1, omega (arith, rest.2), rest.3, rest.4)

-- where each of some items touches an access, no other item is among them
pub touched_fewer : (index : ℕ) (items : List Item) (k : ℕ) (item : Item) → slice_get items k ≡ Some item →
    touch_of index item ≡ [] → length (touched_by index items) < length items
touched_fewer index [] k item e none = absurd (cc e)
touched_fewer index (x ∷ items) zero item e none =
    let is : x ≡ item = cc e in
    let nothing : touch_of index x ≡ [] = ap (touch_of index) is ∙ none in
    let rest = touched_most index items in
    let both = length-append (touch_of index x) (touched_by index items) in
    let empty : length (touch_of index x) ≡ 0 = ap length nothing in
    omega arith
touched_fewer index (x ∷ items) (suc k) item e none =
    let rest = touched_fewer index items k item e none in
    let one = touch_once index x in
    let both = length-append (touch_of index x) (touched_by index items) in
    omega arith

-- no touch is among items that do not touch
pub untouched_have_none : (index : ℕ) (items : List Item) (k element cell place bits : ℕ) →
    length (touched_by index items) ≡ 0 →
    slice_get items k ≡ Some (Touch index element cell place bits) → ⊥
untouched_have_none index items k element cell place bits none e = no_member (touched_by index items) none
    (touch_among index items k element cell place bits e)
  where
    no_member : {X : Type 0} {x : X} (xs : List X) → length xs ≡ 0 → In x xs → ⊥
    no_member [] e m = elim m [ ]
    no_member (x ∷ xs) e m = omega (arith, e)

-- ---- the touches of an access, as records

abbrev pub pair_of : Touching → ℕ × ℕ
pair_of x = (x.element, x.cell)

abbrev pub is_by : ℕ → Touching → Bool
is_by index x = x.issue == index

item_pairs : (memory : Layout) (calls : List Call) (log : List Item) (index : ℕ) (id : Id) (item : Item) →
    map pair_of (filter (is_by index) (touching_by memory calls log id item)) ≡ touch_of index item
item_pairs memory calls log index id (Issue number access) = refl
item_pairs memory calls log index id (Null number) = refl
item_pairs memory calls log index id (Touch issue element cell place bits) = by_test (issue == index)
  where
    one : Touching
    one = record {
      id = id;
      issue = issue;
      element = element;
      cell = cell;
      place = place;
      bits = bits;
      change = option_map_or (λ a. change_made memory calls a element) (issued_at calls log issue) None;
    }

    by_test : (b : Bool) → map pair_of (cond b (one ∷ []) []) ≡ cond b ((element, cell) ∷ []) []
    by_test true = refl
    by_test false = refl
item_pairs memory calls log index id (Flush number) = refl
item_pairs memory calls log index id (Request number) = refl
item_pairs memory calls log index id (Entry number place step) = refl
item_pairs memory calls log index id (Tested number seen) = refl
item_pairs memory calls log index id (Refused number class seen) = refl
item_pairs memory calls log index id Ended = refl

-- the touches of an access have the elements and the cells that the law of touches speaks of
pub pairs_are : (memory : Layout) (calls : List Call) (log : List Item) (index rank first : ℕ) (items : List Item) →
    map pair_of (filter (is_by index) (touches_among memory calls log (named_from rank first items)))
    ≡ touched_by index items
pairs_are memory calls log index rank first [] = refl
pairs_are memory calls log index rank first (item ∷ items) =
    let id : Id = record { rank = rank; index = first } in
    ap (map pair_of) (filter-append (is_by index) (touching_by memory calls log id item)
    (touches_among memory calls log (named_from rank (first + 1) items)))
    ∙ map-append pair_of (filter (is_by index) (touching_by memory calls log id item))
    (filter (is_by index) (touches_among memory calls log (named_from rank (first + 1) items)))
    ∙ ap (λ l. l ++ map pair_of
    (filter (is_by index) (touches_among memory calls log (named_from rank (first + 1) items))))
    (item_pairs memory calls log index id item)
    ∙ ap (λ l. touch_of index item ++ l) (pairs_are memory calls log index rank (first + 1) items)

-- what each element that was touched gives, it gives in the order of the elements
pub each_read : (dtype : Dtype) (read : Piece → ℕ) (first : ℕ) (pieces : List Piece) (touches : List Touching) →
    map pair_of touches ≡ elements_from first pieces →
    ((k : ℕ) (piece : Piece) (touch : Touching) → slice_get pieces k ≡ Some piece → In touch touches →
    touch.element ≡ first + k →
    touch.cell ≡ piece.cell → element_in touch.bits piece.first_byte dtype ≡ read piece) →
    map (element_touched dtype) (zip pieces touches) ≡ map read pieces
each_read dtype read first [] touches pairs each = refl
each_read dtype read first (piece ∷ pieces) [] pairs each = absurd (cc pairs)
each_read dtype read first (piece ∷ pieces) (touch ∷ touches) pairs each =
    let one : pair_of touch ≡ (first, piece.cell) = cc pairs in
    let element : touch.element ≡ first = ap (λ (p : ℕ × ℕ). p.0) one in
    let cell : touch.cell ≡ piece.cell = ap (λ (p : ℕ × ℕ). p.1) one in
    let now = each 0 piece touch refl here (omega (arith, element)) cell in
    let rest = each_read dtype read (first + 1) pieces touches (cc pairs)
    (λ k p t at m e c. each (suc k) p t at (there m) (omega (arith, e)) c) in
    λ i. now i ∷ rest i
