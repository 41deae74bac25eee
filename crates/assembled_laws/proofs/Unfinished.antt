-- The accesses that a log leaves to be touched are those that are pending, also between the touches of one of them.
use Rattle.std.proofs.Common.{◌≡◌, ℕ, zero, suc, ◌+◌, ◌<◌, ◌≤◌, inl, inr, Bool, true, List, [], ◌∷◌, ◌++◌, length}
use Rattle.std.proofs.Common.{Option, Some, None, refl, sym, ◌∙◌, ap, subst, arith, length-append}
use Rattle.std.specs.Prelude.{slice_get}
use Rattle.std.specs.List.{AllByRecursion, filter}
use Rattle.std.specs.Option.{option_map_or}
use Rattle.std.proofs.lemmas.Bool.{lt-ltb, ltb-true}
use Rattle.std.proofs.lemmas.Bool.Decides.{eqb_tells}
use Rattle.list_laws.proofs.Each.{each_weaker, each_at}
use Rattle.list_laws.proofs.Members.{among_right, Among}
use Rattle.rma_types.specs.declared.calls.Call.{Call}
use Rattle.rma_types.specs.declared.scripts.Layout.{Layout}
use Rattle.rma_record.specs.declared.items.Item.{Item}
use Rattle.lawful_runs.proofs.TouchLaws.{touched_most, elements_count, touched_joined}
use Rattle.assembled_laws.proofs.Ascending.{filter_is}
use Rattle.board_rules.specs.Entries.{Row}
use Rattle.lawful_runs.specs.Accesses.{issued_by, issued_at, issued_from, pieces_of, EachPair}
use Rattle.lawful_runs.specs.DelayLaw.{is_unfinished}
use Rattle.lawful_runs.specs.Stages.{Stage, calls_at}
use Rattle.lawful_runs.specs.TouchLaw.{touched_by, issued_in}
use Rattle.rank_laws.proofs.Awaiting.{rank_of}
use Rattle.rank_laws.proofs.Lists.{among_left, among_each}
use Rattle.rank_laws.proofs.Pendings.{IsSettled, IsUntouched, HasTouches}
use Rattle.rank_laws.proofs.Touching.{IsTouchOf, touched_by_other, touch_issues_nothing, made_at}
use Rattle.rank_laws.proofs.Touching.{issued_inside, issued_still, issued_before_touches, each_issued}
use Rattle.rank_rules.specs.declared.pending.PendingAccess.{PendingAccess}

-- the access has an element
abbrev pub HasElements : Layout → List Call → PendingAccess → Type 0
HasElements memory calls one = 0 < length (pieces_of memory calls one)

-- ---- the accesses of a log

-- an access of the log stands at its index
pub issued_among : (calls : List Call) (log : List Item) (one : PendingAccess) → Among one (issued_from calls 0 log) →
    issued_at calls log one.index ≡ Some one
issued_among calls log one among =
    among_each (λ (x : PendingAccess). issued_at calls log x.index ≡ Some x) one (issued_from calls 0 log)
    (each_issued calls (λ (x : PendingAccess). issued_at calls log x.index ≡ Some x) log
    (λ index x e. subst (λ n. issued_at calls log n ≡ Some x) (sym (issued_inside calls log index x e).1) e)) among

-- what stands at an index is an access of the log
pub among_issued : (calls : List Call) (log : List Item) (index : ℕ) (one : PendingAccess) →
    issued_at calls log index ≡ Some one → Among one (issued_from calls 0 log)
among_issued calls log index one e = from 0 log index
    (subst (λ n. option_map_or (issued_by calls n) (slice_get log index) None ≡ Some one) (omega arith) e)
  where
    from : (first : ℕ) (items : List Item) (at : ℕ) →
        option_map_or (issued_by calls (first + at)) (slice_get items at) None ≡ Some one →
        Among one (issued_from calls first items)
    from first [] at k = absurd (cc k)
    from first (item ∷ items) zero k =
        among_left one (option_map_or (λ (x : PendingAccess). x ∷ []) (issued_by calls first item) [])
        (issued_from calls (first + 1) items)
        (subst (λ (o : Option PendingAccess). Among one (option_map_or (λ (x : PendingAccess). x ∷ []) o []))
        (sym (subst (λ n. issued_by calls n item ≡ Some one) (omega arith) k)) (inl refl))
    from first (item ∷ items) (suc at) k =
        among_right one (option_map_or (λ (x : PendingAccess). x ∷ []) (issued_by calls first item) [])
        (issued_from calls (first + 1) items)
        (from (first + 1) items at
        (subst (λ n. option_map_or (issued_by calls n) (slice_get items at) None ≡ Some one) (omega arith) k))

-- their indices rise
pub issued_rise : (calls : List Call) (first : ℕ) (items : List Item) →
    EachPair (λ (a : PendingAccess) (b : PendingAccess). a.index < b.index) (issued_from calls first items)
    × AllByRecursion (λ (one : PendingAccess). first ≤ one.index) (issued_from calls first items)
issued_rise calls first [] = (tt, tt)
issued_rise calls first (item ∷ items) =
    with_first (issued_rise calls (first + 1) items) (issued_by calls first item) refl
  where
    with_first : EachPair (λ (a : PendingAccess) (b : PendingAccess). a.index < b.index)
        (issued_from calls (first + 1) items)
        × AllByRecursion (λ (one : PendingAccess). first + 1 ≤ one.index) (issued_from calls (first + 1) items) →
        (o : Option PendingAccess) → issued_by calls first item ≡ o →
        EachPair (λ (a : PendingAccess) (b : PendingAccess). a.index < b.index)
        (option_map_or (λ (x : PendingAccess). x ∷ []) o [] ++ issued_from calls (first + 1) items)
        × AllByRecursion (λ (one : PendingAccess). first ≤ one.index)
        (option_map_or (λ (x : PendingAccess). x ∷ []) o [] ++ issued_from calls (first + 1) items)
    with_first rest None e = (
      rest.0,
      each_weaker (λ (one : PendingAccess). first + 1 ≤ one.index) (λ (one : PendingAccess). first ≤ one.index)
          (λ one h. omega arith) (issued_from calls (first + 1) items) rest.1,
    )
    with_first rest (Some x) e =
        let at = made_at calls first item x e in (
          (
            each_weaker (λ (one : PendingAccess). first + 1 ≤ one.index)
                (λ (one : PendingAccess). x.index < one.index) (λ one h. omega arith)
                (issued_from calls (first + 1) items) rest.1,
            rest.0,
          ),
          (
            omega arith,
            each_weaker (λ (one : PendingAccess). first + 1 ≤ one.index)
                (λ (one : PendingAccess). first ≤ one.index) (λ one h. omega arith)
                (issued_from calls (first + 1) items) rest.1,
          ),
        )

-- touches issue nothing
pub issued_by_touches : (calls : List Call) (issue first : ℕ) (log items : List Item) →
    AllByRecursion (IsTouchOf issue) items → issued_from calls first (log ++ items) ≡ issued_from calls first log
issued_by_touches calls issue first [] items own = none first items own
  where
    none : (n : ℕ) (rest : List Item) → AllByRecursion (IsTouchOf issue) rest → issued_from calls n rest ≡ []
    none n [] all = refl
    none n (item ∷ rest) all = ap (λ (o : Option PendingAccess). option_map_or (λ (x : PendingAccess). x ∷ []) o []
        ++ issued_from calls (n + 1) rest) (touch_issues_nothing calls n issue item all.0) ∙ none (n + 1) rest all.1
issued_by_touches calls issue first (item ∷ log) items own =
    ap (λ (rest : List PendingAccess). option_map_or (λ (x : PendingAccess). x ∷ []) (issued_by calls first item) []
    ++ rest) (issued_by_touches calls issue (first + 1) log items own)

-- ---- what is pending

-- the log with some touches of a pending access, but not all: what is not touched whole is what is pending
pub pending_between : (stage : Stage) (rank : ℕ) (rows : List Row) (log items : List Item)
    (pending : List PendingAccess) (at : ℕ) (one : PendingAccess) →
    HasTouches stage.layout (calls_at stage rank) log pending →
    AllByRecursion (HasElements stage.layout (calls_at stage rank)) pending →
    slice_get pending at ≡ Some one → AllByRecursion (IsTouchOf one.index) items →
    length items < length (pieces_of stage.layout (calls_at stage rank) one) →
    filter (is_unfinished (rank_of stage rank rows) (log ++ items)) (issued_in (rank_of stage rank rows) (log ++ items))
    ≡ pending
pending_between stage rank rows log items pending at one has elements there own few =
    filter_is (λ (x : PendingAccess). x.index) test (issued_from calls 0 (log ++ items)) pending
    (issued_rise calls 0 (log ++ items)).0 has.ascending from to
  where
    calls : List Call
    calls = calls_at stage rank

    test : PendingAccess → Bool
    test = is_unfinished (rank_of stage rank rows) (log ++ items)

    here : IsUntouched (calls_at stage rank) log one
    here = each_at (IsUntouched (calls_at stage rank) log) pending at one has.waiting there

    -- how many elements of a pending access are touched
    touched : (x : PendingAccess) → issued_at (calls_at stage rank) log x.index ≡ Some x →
        touched_by x.index log ≡ [] → HasElements stage.layout (calls_at stage rank) x →
        length (touched_by x.index (log ++ items)) < length (pieces_of stage.layout (calls_at stage rank) x)
    touched x issued none some =
        let joined : touched_by x.index (log ++ items) ≡ touched_by x.index items =
        touched_joined x.index log items ∙ ap (λ (front : List (ℕ × ℕ)). front ++ touched_by x.index items) none in
        elim (eqb_tells one.index x.index) [
          | inl same ↦
              let is : one ≡ x = let back : Some one ≡ Some x = sym here.0
              ∙ subst (λ n. issued_at (calls_at stage rank) log n ≡ Some x) (sym same.1) issued in cc back in
              let all = touched_most x.index items in
              let count = ap length joined in
              let enough = ap (λ (i : PendingAccess). length (pieces_of stage.layout (calls_at stage rank) i)) is in
              omega arith
          | inr apart ↦
              let empty = ap length (joined ∙ touched_by_other x.index one.index items apart.1 own) in omega arith
        ]

    from : (x : PendingAccess) → Among x pending →
        Among x (issued_from (calls_at stage rank) 0 (log ++ items))
        × (is_unfinished (rank_of stage rank rows) (log ++ items) x ≡ true)
    from x among =
        let waits = among_each (IsUntouched (calls_at stage rank) log) x pending has.waiting among in
        let some = among_each (HasElements stage.layout (calls_at stage rank)) x pending elements among in (
          among_issued (calls_at stage rank) (log ++ items) x.index x
              (issued_still (calls_at stage rank) log items x.index x waits.0),
          lt-ltb (length (touched_by x.index (log ++ items)))
              (length (pieces_of stage.layout (calls_at stage rank) x)) (touched x waits.0 waits.1 some),
        )

    to : (x : PendingAccess) → Among x (issued_from (calls_at stage rank) 0 (log ++ items)) →
        is_unfinished (rank_of stage rank rows) (log ++ items) x ≡ true → Among x pending
    to x among passes = by (has.each x.index x (issued_before_touches (calls_at stage rank) log items one.index x.index
        x own (issued_among (calls_at stage rank) (log ++ items) x among)))
      where
        by : IsSettled stage.layout (calls_at stage rank) log pending x → Among x pending
        by (inr waits) = waits.1
        by (inl whole) =
            let less = ltb-true (length (touched_by x.index (log ++ items)))
            (length (pieces_of stage.layout (calls_at stage rank) x)) passes in
            let count = ap length (touched_joined x.index log items)
            ∙ length-append (touched_by x.index log) (touched_by x.index items) in
            let all = ap length whole ∙ elements_count 0 (pieces_of stage.layout (calls_at stage rank) x) in
            absurd (omega arith)
