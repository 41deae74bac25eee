-- Each touch of an RMA access is made when it is due, as a log grows. Touches at the log's end are owed: the next item
-- that is no touch is one that must wait for them.
use Rattle.std.proofs.Common.{◌≡◌, ℕ, zero, suc, ◌+◌, ◌-◌, ◌<◌, ◌≤◌, inl, inr, Bool, true, false, not, ◌&&◌, ◌||◌, List}
use Rattle.std.proofs.Common.{[], ◌∷◌, ◌++◌, length, take, drop, Option, Some, None, refl, sym, ◌∙◌, ap, subst, arith}
use Rattle.std.proofs.Common.{length-drop}
use Rattle.std.specs.Prelude.{slice_get, ◌==◌}
use Rattle.std.specs.List.{AllByRecursion, filter, list_any}
use Rattle.std.specs.Option.{option_map_or}
use Rattle.std.proofs.Math.Seq.{drop-append-add, take-append_seam}
use Rattle.std.proofs.lemmas.List.{take-append-le, drop-append-le}
use Rattle.std.proofs.lemmas.Option.{slice_get_within}
use Rattle.list_laws.proofs.Each.{each_back, each_at, each_drop}
use Rattle.rma_types.specs.declared.calls.Call.{Call}
use Rattle.rma_record.specs.declared.items.Item.{Item}
use Rattle.rma_record.specs.declared.items.Item.TheVariants.{Touch}
use Rattle.call_rules.proofs.NumbersFrom.{some_number}
use Rattle.assembled_laws.proofs.NextItems.{next_after_none, next_stays, next_within, next_touches, next_plain}
use Rattle.board_rules.specs.Entries.{Row}
use Rattle.call_rules.specs.Pieces.{numbers_from}
use Rattle.lawful_runs.specs.Accesses.{issued_at}
use Rattle.lawful_runs.specs.DelayLaw.{is_unfinished, pending_at, next_untouched, gives_way_to, is_due_at, is_due}
use Rattle.lawful_runs.specs.DelayLaw.{is_remote}
use Rattle.lawful_runs.specs.Items.{is_touch}
use Rattle.lawful_runs.specs.Stages.{Stage, RankOfRun, calls_here}
use Rattle.lawful_runs.specs.TouchLaw.{issued_in, is_local, is_awaiting, issue_touched, issues_touched}
use Rattle.rank_laws.proofs.Awaiting.{rank_of}
use Rattle.rank_laws.proofs.Lists.{place_in, get_front, get_rest}
use Rattle.rank_laws.proofs.Touching.{IsTouchOf, issued_front, issued_before_touches}
use Rattle.rank_rules.specs.Knowledge.{Knowledge, own_class}
use Rattle.rank_rules.specs.Pending.{must_wait}
use Rattle.rank_rules.specs.declared.pending.PendingAccess.{PendingAccess}

-- ---- the law, by the items that it looks at

-- the item after those before it must wait for a pending access that is that of the Issue, or gave way to it
abbrev is_owed : RankOfRun → List Item → Option Item → List PendingAccess → ℕ → Bool
is_owed here before o pending issue = list_any (λ at. option_map_or
    (λ (one : PendingAccess). option_map_or (is_awaiting here before one) o false
    && (one.index == issue || gives_way_to pending at issue)) (slice_get pending at) false)
    (numbers_from 0 (length pending))

-- each touch of an RMA access is due, whatever the entries
abbrev pub AreDue : Stage → ℕ → List Item → Type 0
AreDue stage rank log = (rows : List Row) (index issue element cell place bits : ℕ) →
    slice_get log index ≡ Some (Touch issue element cell place bits) →
    is_remote (rank_of stage rank rows) log issue ≡ true → is_due (rank_of stage rank rows) log index issue ≡ true

-- the rank's next item that is no touch must wait for the access: it is the first of a call that must, or Ended
pub data WaitsNext (next : Option Call) (entered : Bool) (known : Knowledge) (one : PendingAccess) : Type 0 where
  ForCall : (call : Call) → next ≡ Some call → entered ≡ false → own_class known call ≡ None →
      must_wait known.requests call one ≡ true → WaitsNext next entered known one
  ForEnd : next ≡ None → WaitsNext next entered known one

-- a touch at the index is owed: the next item waits for a pending access that is that of the Issue, or gave way to it
pub record IsOwed (stage : Stage) (rank : ℕ) (log : List Item) (next : Option Call) (entered : Bool)
    (known : Knowledge) (index issue : ℕ) : Type 0 where
  pub at : ℕ
  pub one : PendingAccess
  pub there : slice_get (pending_at (rank_of stage rank []) log index) at ≡ Some one
  pub leads : (one.index == issue || gives_way_to (pending_at (rank_of stage rank []) log index) at issue) ≡ true
  pub waits : WaitsNext next entered known one

-- each touch of an RMA access that no other item follows is owed
abbrev pub AreOwed : Stage → ℕ → List Item → Option Call → Bool → Knowledge → Type 0
AreOwed stage rank log next entered known = (index issue element cell place bits : ℕ) →
    slice_get log index ≡ Some (Touch issue element cell place bits) →
    next_untouched index (drop index log) ≡ None → is_remote (rank_of stage rank []) log issue ≡ true →
    IsOwed stage rank log next entered known index issue

-- ---- a longer log

-- the Issue of a touch has what each Issue of a touch has
touched_issue : (P : ℕ → Type 0) (log : List Item) (index issue element cell place bits : ℕ) →
    slice_get log index ≡ Some (Touch issue element cell place bits) → AllByRecursion P (issues_touched log) → P issue
touched_issue P [] index issue element cell place bits e all = absurd (cc e)
touched_issue P (item ∷ log) zero issue element cell place bits e all =
    let same : item ≡ Touch issue element cell place bits = cc e in
    (subst (λ (i : Item). AllByRecursion P (issue_touched i ++ issues_touched log)) same all).0
touched_issue P (item ∷ log) (suc index) issue element cell place bits e all =
    touched_issue P log index issue element cell place bits e
    (each_back P (issue_touched item) (issues_touched log) all)

remote_front : (here : RankOfRun) (log more : List Item) (issue : ℕ) → issue < length log →
    is_remote here (log ++ more) issue ≡ is_remote here log issue
remote_front here log more issue less = ap (λ (o : Option PendingAccess). option_map_or
    (λ (one : PendingAccess). not (is_local one.access.kind)) o false)
    (issued_front (calls_here here) log more issue less)

pub remote_before : (here : RankOfRun) (log items : List Item) (of issue : ℕ) → AllByRecursion (IsTouchOf of) items →
    is_remote here (log ++ items) issue ≡ true → is_remote here log issue ≡ true
remote_before here log items of issue own e = by (issued_at (calls_here here) (log ++ items) issue) refl e
  where
    by : (o : Option PendingAccess) → issued_at (calls_here here) (log ++ items) issue ≡ o →
        option_map_or (λ (one : PendingAccess). not (is_local one.access.kind)) o false ≡ true →
        is_remote here log issue ≡ true
    by None none k = absurd (cc k)
    by (Some one) some k = ap (λ (o : Option PendingAccess). option_map_or
        (λ (x : PendingAccess). not (is_local x.access.kind)) o false)
        (issued_before_touches (calls_here here) log items of issue one own some) ∙ k

pending_front : (here : RankOfRun) (log more : List Item) (index : ℕ) → index ≤ length log →
    pending_at here (log ++ more) index ≡ pending_at here log index
pending_front here log more index low = ap (λ (before : List Item). filter (is_unfinished here before)
    (issued_in here before)) (take-append-le index log more low)

-- what is due, where another item follows
due_at_next : (here : RankOfRun) (log : List Item) (index issue next : ℕ) →
    next_untouched index (drop index log) ≡ Some next →
    is_due here log index issue ≡ is_owed here (take next log) (slice_get log next) (pending_at here log index) issue
due_at_next here log index issue next e = ap (λ (o : Option ℕ). option_map_or
    (is_due_at here log (pending_at here log index) issue) o true) e

-- what is due stays due
due_stays : (here : RankOfRun) (log more : List Item) (index issue next : ℕ) → index < length log →
    next_untouched index (drop index log) ≡ Some next →
    is_due here (log ++ more) index issue ≡ is_due here log index issue
due_stays here log more index issue next inside e =
    due_at_next here (log ++ more) index issue next
    (ap (next_untouched index) (drop-append-le index log more (omega arith))
    ∙ next_stays index next (drop index log) more e)
    ∙ ap (λ (pending : List PendingAccess). is_owed here (take next (log ++ more)) (slice_get (log ++ more) next)
    pending issue) (pending_front here log more index (omega arith))
    ∙ ap (λ (before : List Item). is_owed here before (slice_get (log ++ more) next) (pending_at here log index) issue)
    (take-append-le next log more (let less = within in omega arith))
    ∙ ap (λ (o : Option Item). is_owed here (take next log) o (pending_at here log index) issue)
    (get_front log more next within)
    ∙ sym (due_at_next here log index issue next e)
  where
    rises : (a b c d : ℕ) → a < b + c → c ≡ d - b → b < d → a < d
    rises a b c d less e k = omega arith

    within : next < length log
    within = rises next index (length (drop index log)) (length log) (next_within index next (drop index log) e)
        (length-drop index log) inside

-- the item for which a touch is owed pays for it
owed_is_due : (here : RankOfRun) (log : List Item) (item : Item) (pending : List PendingAccess) (at issue : ℕ)
    (one : PendingAccess) → slice_get pending at ≡ Some one →
    (one.index == issue || gives_way_to pending at issue) ≡ true → is_awaiting here log one item ≡ true →
    is_owed here log (Some item) pending issue ≡ true
owed_is_due here log item pending at issue one there leads waits =
    some_number (λ n. option_map_or (λ (x : PendingAccess). is_awaiting here log x item
    && (x.index == issue || gives_way_to pending n issue)) (slice_get pending n) false) 0 (length pending) at
    (omega arith) (let less = slice_get_within pending at one there in omega arith)
    (ap (λ (o : Option PendingAccess). option_map_or (λ (x : PendingAccess). is_awaiting here log x item
    && (x.index == issue || gives_way_to pending at issue)) o false) there
    ∙ ap (λ b. b && (one.index == issue || gives_way_to pending at issue)) waits ∙ leads)

-- ---- one more item that is no touch

-- an item for which the touches at the log's end are owed
abbrev pub Pays : Stage → ℕ → List Item → Option Call → Bool → Knowledge → Item → Type 0
Pays stage rank log next entered known item = (rows : List Row) (one : PendingAccess) →
    WaitsNext next entered known one → is_awaiting (rank_of stage rank rows) log one item ≡ true

no_touch_at : (log : List Item) (item : Item) (index past issue element cell place bits : ℕ) → is_touch item ≡ false →
    index ≡ length log + past → slice_get (log ++ item ∷ []) index ≡ Some (Touch issue element cell place bits) → ⊥
no_touch_at log item index past issue element cell place bits plain far e =
    at_end past (sym (get_rest log (item ∷ []) index past far) ∙ e)
  where
    at_end : (n : ℕ) → slice_get (item ∷ []) n ≡ Some (Touch issue element cell place bits) → ⊥
    at_end zero k = let same : item ≡ Touch issue element cell place bits = cc k in cc (sym plain ∙ ap is_touch same)
    at_end (suc n) k = cc k

-- the item is the next one of a touch at the end of the log
next_is_item : (log : List Item) (item : Item) (index : ℕ) → is_touch item ≡ false → index < length log →
    next_untouched index (drop index log) ≡ None →
    next_untouched index (drop index (log ++ item ∷ [])) ≡ Some (length log)
next_is_item log item index plain inside none =
    ap (next_untouched index) (drop-append-le index log (item ∷ []) (omega arith))
    ∙ next_after_none index (drop index log) (item ∷ []) none
    ∙ next_plain (index + length (drop index log)) item plain
    ∙ ap Some (let rest = length-drop index log in omega arith)

pub due_push : (stage : Stage) (rank : ℕ) (log : List Item) (item : Item) (next : Option Call) (entered : Bool)
    (known : Knowledge) → is_touch item ≡ false → AllByRecursion (λ n. n < length log) (issues_touched log) →
    AreDue stage rank log → AreOwed stage rank log next entered known → Pays stage rank log next entered known item →
    AreDue stage rank (log ++ item ∷ [])
due_push stage rank log item next entered known plain below due owed pays rows index issue element cell place bits e
    remote = elim (place_in index (length log)) [
      | inr past ↦ absurd (no_touch_at log item index past.0 issue element cell place bits plain past.1 e)
      | inl inside ↦ by inside (sym (get_front log (item ∷ []) index inside) ∙ e)
          (next_untouched index (drop index log)) refl
    ]
  where
    here : RankOfRun
    here = rank_of stage rank rows

    still_remote : slice_get log index ≡ Some (Touch issue element cell place bits) →
        is_remote (rank_of stage rank rows) log issue ≡ true
    still_remote old = sym (remote_front (rank_of stage rank rows) log (item ∷ []) issue
        (touched_issue (λ n. n < length log) log index issue element cell place bits old below)) ∙ remote

    by : index < length log → slice_get log index ≡ Some (Touch issue element cell place bits) → (o : Option ℕ) →
        next_untouched index (drop index log) ≡ o →
        is_due (rank_of stage rank rows) (log ++ item ∷ []) index issue ≡ true
    by inside old (Some n) some = due_stays (rank_of stage rank rows) log (item ∷ []) index issue n inside some
        ∙ due rows index issue element cell place bits old (still_remote old)
    by inside old None none =
        let is = owed index issue element cell place bits old none (still_remote old) in
        due_at_next here (log ++ item ∷ []) index issue (length log) (next_is_item log item index plain inside none)
        ∙ ap (λ (before : List Item). is_owed here before (slice_get (log ++ item ∷ []) (length log))
        (pending_at here (log ++ item ∷ []) index) issue) (take-append_seam log (item ∷ []))
        ∙ ap (λ (o : Option Item). is_owed here log o (pending_at here (log ++ item ∷ []) index) issue)
        (get_rest log (item ∷ []) (length log) 0 (omega arith))
        ∙ ap (λ (pending : List PendingAccess). is_owed here log (Some item) pending issue)
        (pending_front here log (item ∷ []) index (omega arith))
        ∙ owed_is_due here log item (pending_at here log index) is.at issue is.one is.there is.leads
        (pays rows is.one is.waits)

-- after it nothing is owed
pub owed_push : (stage : Stage) (rank : ℕ) (log : List Item) (item : Item) (next : Option Call) (entered : Bool)
    (known : Knowledge) → is_touch item ≡ false → AreOwed stage rank (log ++ item ∷ []) next entered known
owed_push stage rank log item next entered known plain index issue element cell place bits e none remote =
    elim (place_in index (length log)) [
      | inr past ↦ absurd (no_touch_at log item index past.0 issue element cell place bits plain past.1 e)
      | inl inside ↦ absurd (by inside (next_untouched index (drop index log)) refl)
    ]
  where
    by : index < length log → (o : Option ℕ) → next_untouched index (drop index log) ≡ o → ⊥
    by inside (Some n) some = cc (sym none
        ∙ ap (next_untouched index) (drop-append-le index log (item ∷ []) (omega arith))
        ∙ next_stays index n (drop index log) (item ∷ []) some)
    by inside None old = cc (sym none ∙ next_is_item log item index plain inside old)

-- ---- touches more

pub due_touches : (stage : Stage) (rank of : ℕ) (log items : List Item) → AllByRecursion (IsTouchOf of) items →
    AreDue stage rank log → AreDue stage rank (log ++ items)
due_touches stage rank of log items own due rows index issue element cell place bits e remote =
    elim (place_in index (length log)) [
      | inr past ↦ free (ap (next_untouched index) (ap (λ n. drop n (log ++ items)) past.1
          ∙ drop-append-add log items past.0)
          ∙ next_touches of index (drop past.0 items) (each_drop (IsTouchOf of) past.0 items own))
      | inl inside ↦ by inside (next_untouched index (drop index log)) refl
    ]
  where
    free : next_untouched index (drop index (log ++ items)) ≡ None →
        is_due (rank_of stage rank rows) (log ++ items) index issue ≡ true
    free none = ap (λ (o : Option ℕ). option_map_or (is_due_at (rank_of stage rank rows) (log ++ items)
        (pending_at (rank_of stage rank rows) (log ++ items) index) issue) o true) none

    by : index < length log → (o : Option ℕ) → next_untouched index (drop index log) ≡ o →
        is_due (rank_of stage rank rows) (log ++ items) index issue ≡ true
    by inside (Some n) some = due_stays (rank_of stage rank rows) log items index issue n inside some
        ∙ due rows index issue element cell place bits (sym (get_front log items index inside) ∙ e)
        (remote_before (rank_of stage rank rows) log items of issue own remote)
    by inside None none = free (ap (next_untouched index) (drop-append-le index log items (omega arith))
        ∙ next_after_none index (drop index log) items none
        ∙ next_touches of (index + length (drop index log)) items own)

-- the touches of one access more: those of an RMA access are owed
pub owed_touches : (stage : Stage) (rank of : ℕ) (log items : List Item) (next : Option Call) (entered : Bool)
    (known : Knowledge) → AllByRecursion (IsTouchOf of) items → AreOwed stage rank log next entered known →
    ((past : ℕ) → past < length items → is_remote (rank_of stage rank []) (log ++ items) of ≡ true →
    IsOwed stage rank (log ++ items) next entered known (length log + past) of) →
    AreOwed stage rank (log ++ items) next entered known
owed_touches stage rank of log items next entered known own owed new index issue element cell place bits e none remote =
    elim (place_in index (length log)) [
      | inr past ↦
          let there : slice_get items past.0 ≡ Some (Touch issue element cell place bits) =
          sym (get_rest log items index past.0 past.1) ∙ e in
          let same : issue ≡ of = each_at (IsTouchOf of) items past.0 (Touch issue element cell place bits) own there in
          subst (λ n. IsOwed stage rank (log ++ items) next entered known n issue) (sym past.1)
          (subst (λ n. IsOwed stage rank (log ++ items) next entered known (length log + past.0) n) (sym same)
          (new past.0 (slice_get_within items past.0 (Touch issue element cell place bits) there)
          (subst (λ n. is_remote (rank_of stage rank []) (log ++ items) n ≡ true) same remote)))
      | inl inside ↦ by inside (next_untouched index (drop index log)) refl
    ]
  where
    by : index < length log → (o : Option ℕ) → next_untouched index (drop index log) ≡ o →
        IsOwed stage rank (log ++ items) next entered known index issue
    by inside (Some n) some = absurd (cc (sym none
        ∙ ap (next_untouched index) (drop-append-le index log items (omega arith))
        ∙ next_stays index n (drop index log) items some))
    by inside None old =
        let is = owed index issue element cell place bits (sym (get_front log items index inside) ∙ e) old
        (remote_before (rank_of stage rank []) log items of issue own remote) in
        let same = pending_front (rank_of stage rank []) log items index (omega arith) in record {
          at = is.at;
          one = is.one;
          there = ap (λ (pending : List PendingAccess). slice_get pending is.at) same ∙ is.there;
          leads = ap (λ (pending : List PendingAccess). is.one.index == issue || gives_way_to pending is.at issue) same
              ∙ is.leads;
          waits = is.waits;
        }
