-- What a log must have touched before an item that waits, as the log grows; and the live requests that it leaves.
use Rattle.std.proofs.Common.{◌≡◌, ℕ, zero, suc, ◌+◌, inl, inr, true, false, List, [], ◌∷◌, ◌++◌, length, take, Option}
use Rattle.std.proofs.Common.{Some, None, refl, sym, ◌∙◌, ap, subst, arith, append-nil, append_assoc, length-append}
use Rattle.std.specs.Prelude.{slice_get, IsTrue}
use Rattle.std.specs.List.{AllByRecursion}
use Rattle.std.specs.Option.{option_map_or}
use Rattle.std.proofs.Math.Seq.{take-append_seam}
use Rattle.std.proofs.lemmas.List.{take-append-le}
use Rattle.std.proofs.lemmas.List.Sums.{fold-append}
use Rattle.std.proofs.lemmas.Option.{slice_get_past}
use Rattle.rma_types.specs.declared.calls.Call.{Call}
use Rattle.rma_types.specs.declared.scripts.Part.{Part}
use Rattle.rma_record.specs.declared.items.Item.{Item}
use Rattle.rma_record.specs.declared.items.Item.TheVariants.{Issue, Null, Touch, Flush, Request, Entry, Tested, Refused}
use Rattle.rma_record.specs.declared.items.Item.TheVariants.{Ended}
use Rattle.board_rules.specs.Entries.{Row}
use Rattle.rma_types.specs.Actions.{action_of}
use Rattle.lawful_runs.specs.Accesses.{issued_at}
use Rattle.lawful_runs.specs.Stages.{Stage, RankOfRun, calls_at, calls_here, first_knowledge, known_at, shapes_in}
use Rattle.lawful_runs.specs.TouchLaw.{IsTouchedWhole, issued_in, is_awaiting, waits_at, IsAwaitedWhole}
use Rattle.rank_laws.proofs.Lists.{each_of, place_in, get_front, get_rest}
use Rattle.rank_laws.proofs.Touching.{IsTouchOf, each_issued, issued_inside}
use Rattle.rank_rules.specs.Knowledge.{Knowledge, learn, known_after_number, known_after_call, accepted_by}
use Rattle.rank_rules.specs.declared.pending.PendingAccess.{PendingAccess}
use Rattle.rank_rules.specs.Requests.{Requests, requests_after}

-- a rank of a run with these entries
abbrev pub rank_of : Stage → ℕ → List Row → RankOfRun
rank_of stage rank rows = record { stage = stage; rank = rank; rows = rows }

-- ---- live requests

requests_by_number : (s other : ℕ → List Part) (calls : List Call) (a b : Knowledge) (number : ℕ) (o : Option Call) →
    a.requests ≡ b.requests →
    (option_map_or (known_after_call s a number) o a).requests ≡
    (option_map_or (known_after_call other b number) o b).requests
requests_by_number s other calls a b number None e = e
requests_by_number s other calls a b number (Some call) e = ap
    (λ (r : Requests). requests_after r number (action_of call)) e

requests_by_item : (s other : ℕ → List Part) (calls : List Call) (a b : Knowledge) (o : Option ℕ) →
    a.requests ≡ b.requests →
    (option_map_or (known_after_number s calls a) o a).requests ≡
    (option_map_or (known_after_number other calls b) o b).requests
requests_by_item s other calls a b None e = e
requests_by_item s other calls a b (Some number) e = requests_by_number s other calls a b number
    (slice_get calls number) e

-- an item teaches the same of requests, whatever the shapes
requests_learnt : (s other : ℕ → List Part) (calls : List Call) (a b : Knowledge) (item : Item) →
    a.requests ≡ b.requests → (learn s calls a item).requests ≡ (learn other calls b item).requests
requests_learnt s other calls a b item e = requests_by_item s other calls a b (accepted_by calls item) e

-- the requests that a log leaves are the rank's
abbrev pub KnowsRequests : Stage → ℕ → Knowledge → List Item → Type 0
KnowsRequests stage rank known log = (rows : List Row) → (known_at (rank_of stage rank rows) log).requests
    ≡ known.requests

pub known_push : (here : RankOfRun) (log : List Item) (item : Item) →
    known_at here (log ++ item ∷ []) ≡ learn (shapes_in here.stage here.rows) (calls_here here)
    (known_at here log) item
known_push here log item = fold-append (learn (shapes_in here.stage here.rows) (calls_here here))
    (first_knowledge here.stage here.rank) log (item ∷ [])

pub requests_push : (shapes : ℕ → List Part) (stage : Stage) (rank : ℕ) (known : Knowledge) (log : List Item)
    (item : Item) → KnowsRequests stage rank known log →
    KnowsRequests stage rank (learn shapes (calls_at stage rank) known item) (log ++ item ∷ [])
requests_push shapes stage rank known log item h rows =
    ap (λ (k : Knowledge). k.requests) (known_push (rank_of stage rank rows) log item)
    ∙ requests_learnt (shapes_in stage rows) shapes (calls_at stage rank)
    (known_at (rank_of stage rank rows) log) known item (h rows)

touch_teaches_nothing : (shapes : ℕ → List Part) (calls : List Call) (known : Knowledge) (issue : ℕ) (item : Item) →
    IsTouchOf issue item → learn shapes calls known item ≡ known
touch_teaches_nothing shapes calls known issue (Touch of element cell place bits) is = refl
touch_teaches_nothing shapes calls known issue (Issue number access) is = absurd is
touch_teaches_nothing shapes calls known issue (Null number) is = absurd is
touch_teaches_nothing shapes calls known issue (Flush number) is = absurd is
touch_teaches_nothing shapes calls known issue (Request number) is = absurd is
touch_teaches_nothing shapes calls known issue (Entry number place step) is = absurd is
touch_teaches_nothing shapes calls known issue (Tested number seen) is = absurd is
touch_teaches_nothing shapes calls known issue (Refused number class seen) is = absurd is
touch_teaches_nothing shapes calls known issue Ended is = absurd is

-- touches teach nothing
pub touches_teach_nothing : (here : RankOfRun) (issue : ℕ) (items log : List Item) →
    AllByRecursion (IsTouchOf issue) items → known_at here (log ++ items) ≡ known_at here log
touches_teach_nothing here issue [] log own = ap (known_at here) (append-nil log)
touches_teach_nothing here issue (item ∷ items) log own =
    ap (known_at here) (sym (append_assoc log (item ∷ []) items))
    ∙ touches_teach_nothing here issue items (log ++ item ∷ []) own.1
    ∙ known_push here log item
    ∙ touch_teaches_nothing (shapes_in here.stage here.rows) (calls_here here) (known_at here log) issue item own.0

-- ---- what is awaited, as a log grows

abbrev pub AreAwaited : Stage → ℕ → List Item → Type 0
AreAwaited stage rank log = (rows : List Row) (index : ℕ) → IsAwaitedWhole (rank_of stage rank rows) log index

past_waits : (here : RankOfRun) (log : List Item) (index : ℕ) (one : PendingAccess) → slice_get log index ≡ None →
    waits_at here log index one ≡ false
past_waits here log index one e = rw e refl

-- one more item, before which all that it waits for is touched
pub awaited_push : (stage : Stage) (rank : ℕ) (log : List Item) (item : Item) → AreAwaited stage rank log →
    ((rows : List Row) (one : PendingAccess) → issued_at (calls_at stage rank) log one.index ≡ Some one →
    is_awaiting (rank_of stage rank rows) log one item ≡ true →
    IsTouchedWhole (rank_of stage rank rows) log one) →
    AreAwaited stage rank (log ++ item ∷ [])
awaited_push stage rank log item h new rows index = elim (place_in index (length log)) [
  | inl less ↦
      subst (λ (before : List Item). AllByRecursion (λ one. IsTrue
      (option_map_or (is_awaiting here before one) (slice_get (log ++ item ∷ []) index) false) →
      IsTouchedWhole here before one) (issued_in here before))
      (sym (take-append-le index log (item ∷ []) (omega arith)))
      (subst (λ (o : Option Item). AllByRecursion (λ one. IsTrue
      (option_map_or (is_awaiting here (take index log) one) o false) → IsTouchedWhole here (take index log) one)
      (issued_in here (take index log)))
      (sym (get_front log (item ∷ []) index less)) (h rows index))
  | inr past ↦ at_end past.0 past.1
]
  where
    here : RankOfRun
    here = rank_of stage rank rows

    at_end : (at : ℕ) → index ≡ length log + at → IsAwaitedWhole here (log ++ item ∷ []) index
    at_end zero e =
        let same : length log ≡ index = omega arith in
        subst (IsAwaitedWhole here (log ++ item ∷ [])) same
        (subst (λ (before : List Item). AllByRecursion (λ one. IsTrue
        (option_map_or (is_awaiting here before one) (slice_get (log ++ item ∷ []) (length log)) false) →
        IsTouchedWhole here before one) (issued_in here before))
        (sym (take-append_seam log (item ∷ [])))
        (subst (λ (o : Option Item). AllByRecursion (λ one. IsTrue
        (option_map_or (is_awaiting here log one) o false) → IsTouchedWhole here log one) (issued_in here log))
        (sym (get_rest log (item ∷ []) (length log) 0 (omega arith)))
        (each_issued (calls_at stage rank) (λ one. IsTrue (is_awaiting here log one item) →
        IsTouchedWhole here log one) log
        (λ at one issued waits. new rows one (subst (λ n. issued_at (calls_at stage rank) log n ≡ Some one)
        (sym (issued_inside (calls_at stage rank) log at one issued).1) issued) waits))))
    at_end (suc at) e =
        let gone : slice_get (log ++ item ∷ []) index ≡ None = slice_get_past (log ++ item ∷ []) index
        (omega (arith, length-append log (item ∷ []))) in
        each_of (λ one. IsTrue (waits_at here (log ++ item ∷ []) index one) →
        IsTouchedWhole here (take index (log ++ item ∷ [])) one)
        (λ one waits. let none = past_waits here (log ++ item ∷ []) index one gone in absurd (cc (sym none ∙ waits)))
        (issued_in here (take index (log ++ item ∷ [])))

touch_awaits_nothing : (here : RankOfRun) (before : List Item) (one : PendingAccess) (issue : ℕ) (item : Item) →
    IsTouchOf issue item → is_awaiting here before one item ≡ false
touch_awaits_nothing here before one issue (Touch of element cell place bits) is = refl
touch_awaits_nothing here before one issue (Issue number access) is = absurd is
touch_awaits_nothing here before one issue (Null number) is = absurd is
touch_awaits_nothing here before one issue (Flush number) is = absurd is
touch_awaits_nothing here before one issue (Request number) is = absurd is
touch_awaits_nothing here before one issue (Entry number place step) is = absurd is
touch_awaits_nothing here before one issue (Tested number seen) is = absurd is
touch_awaits_nothing here before one issue (Refused number class seen) is = absurd is
touch_awaits_nothing here before one issue Ended is = absurd is

pub awaited_touches : (stage : Stage) (rank issue : ℕ) (items log : List Item) →
    AllByRecursion (IsTouchOf issue) items → AreAwaited stage rank log → AreAwaited stage rank (log ++ items)
awaited_touches stage rank issue [] log own h = subst (AreAwaited stage rank) (sym (append-nil log)) h
awaited_touches stage rank issue (item ∷ items) log own h =
    subst (AreAwaited stage rank) (append_assoc log (item ∷ []) items)
    (awaited_touches stage rank issue items (log ++ item ∷ []) own.1
    (awaited_push stage rank log item h (λ rows one e waits. let none = touch_awaits_nothing
    (rank_of stage rank rows) log one issue item own.0 in absurd (cc (sym none ∙ waits)))))
