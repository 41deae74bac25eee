-- Where the touches of an access stand in a lawful log: before an item that waits for it, and directly after its
-- Issue where it is a load or a store.
use Rattle.std.proofs.Common.{◌≡◌, ℕ, zero, suc, ◌+◌, ◌-◌, ◌<◌, inl, inr, Bool, true, false, not, List, [], ◌∷◌}
use Rattle.std.proofs.Common.{length, take, drop, Option, Some, refl, ap, sym, ◌∙◌, subst, arith, length-append}
use Rattle.std.specs.Prelude.{◌&&◌, ◌||◌, slice_get}
use Rattle.std.specs.List.{list_any}
use Rattle.std.specs.Option.{option_map_or}
use Rattle.std.proofs.lemmas.Bool.{cases_lt}
use Rattle.std.proofs.lemmas.List.{take-append-drop}
use Rattle.std.proofs.lemmas.Option.{slice_get_within}
use Rattle.list_laws.proofs.Lists.{length_taken, get_taken}
use Rattle.list_laws.proofs.Members.{each_in, In}
use Rattle.rma_types.specs.declared.calls.Call.{Call}
use Rattle.rma_record.specs.declared.items.Item.{Item}
use Rattle.rma_record.specs.declared.items.Item.TheVariants.{Issue, Null, Touch, Flush, Request, Entry, Tested, Refused}
use Rattle.rma_record.specs.declared.items.Item.TheVariants.{Ended}
use Rattle.call_rules.specs.Pieces.{numbers_from}
use Rattle.call_rules.proofs.NumbersFrom.{in_numbers}
use Rattle.lawful_runs.specs.Accesses.{issued_by}
use Rattle.lawful_runs.specs.CallItems.{other_items, HasItemsOfCalls}
use Rattle.lawful_runs.specs.Items.{is_ended, is_own_refusal, number_in, belongs_to}
use Rattle.lawful_runs.specs.LawfulRun.{IsLawfulLog}
use Rattle.lawful_runs.specs.Stages.{RankOfRun, calls_here, known_at}
use Rattle.lawful_runs.specs.TouchLaw.{touch_of, touched_by, issued_in, pieces_here, IsTouchedWhole}
use Rattle.lawful_runs.specs.TouchLaw.{FollowsDirectly, begins_awaiting, is_awaiting, waits_at, IsAwaitedWhole}
use Rattle.rank_rules.specs.declared.pending.PendingAccess.{PendingAccess}
use Rattle.rank_rules.specs.Pending.{must_wait}
use Rattle.lawful_runs.proofs.TouchLaws.{elements_count, touched_joined}
use Rattle.read_laws.proofs.Firsts.{is_initial, is_first}
use Rattle.read_laws.proofs.Touches.{in_issued, touched_fewer, untouched_have_none}

-- ---- lists

get_dropped : {X : Type 0} (n k at : ℕ) (xs : List X) → at ≡ n + k → slice_get (drop n xs) k ≡ slice_get xs at
get_dropped zero k at xs e = let same : at ≡ k = omega arith in sym (ap (slice_get xs) same)
get_dropped (suc n) k zero xs e = absurd (omega arith)
get_dropped (suc n) k (suc at) [] e = refl
get_dropped (suc n) k (suc at) (x ∷ xs) e = get_dropped n k at xs (omega (arith, e))

-- what touches an access, before an index and from there on
touched_split : (index k : ℕ) (log : List Item) →
    length (touched_by index log) ≡ length (touched_by index (take k log)) + length (touched_by index (drop k log))
touched_split index k log =
    ap (λ l. length (touched_by index l)) (sym (take-append-drop k log))
    ∙ ap length (touched_joined index (take k log) (drop k log))
    ∙ length-append (touched_by index (take k log)) (touched_by index (drop k log))

-- ---- what waits

initial_waits : (x : Item) → is_initial x ≡ true → (is_ended x ≡ false) × (is_own_refusal x ≡ false)
initial_waits (Issue number access) h = absurd (cc h)
initial_waits (Null number) h = absurd (cc h)
initial_waits (Touch issue element cell place bits) h = absurd (cc h)
initial_waits (Flush number) h = (refl, refl)
initial_waits (Request number) h = (refl, refl)
initial_waits (Entry number place step) h = (refl, refl)
initial_waits (Tested number seen) h = absurd (cc h)
initial_waits (Refused number class seen) h = absurd (cc h)
initial_waits Ended h = absurd (cc h)

-- the item at an index is an initial one of a call that must wait for the access
pub record WaitsFor (here : RankOfRun) (log : List Item) (k : ℕ) (one : PendingAccess) : Type 0 where
  pub item : Item
  pub number : ℕ
  pub call : Call
  pub logged : slice_get log k ≡ Some item
  pub initial : is_initial item ≡ true
  pub of_call : number_in item ≡ Some number
  pub call_is : slice_get (calls_here here) number ≡ Some call
  pub waits : must_wait (known_at here (take k log)).requests call one ≡ true

waits_there : (here : RankOfRun) (log : List Item) (k : ℕ) (one : PendingAccess) →
    HasItemsOfCalls here (other_items log) →
    WaitsFor here log k one → waits_at here log k one ≡ true
waits_there here log k one calls w =
    ap (λ o. option_map_or (is_awaiting here (take k log) one) o false) w.logged
    ∙ ap (λ b. b || option_map_or (begins_awaiting here (take k log) w.item one) (number_in w.item) false)
    (initial_waits w.item w.initial).0
    ∙ ap (λ o. option_map_or (begins_awaiting here (take k log) w.item one) o false) w.of_call
    ∙ ap (λ b. (not b && not (list_any (belongs_to w.number) (take k log))) && waits_by
    (slice_get (calls_here here) w.number))
    (initial_waits w.item w.initial).1
    ∙ ap (λ b. not b && waits_by (slice_get (calls_here here) w.number))
    (is_first here log k w.item w.number calls w.logged w.initial w.of_call)
    ∙ ap waits_by w.call_is
    ∙ w.waits
  where
    waits_by : Option Call → Bool
    waits_by o = option_map_or (λ call. must_wait (known_at here (take k log)).requests call one) o false

-- the access of an Issue, at its index
pub record IsIssuedAt (here : RankOfRun) (log : List Item) (one : PendingAccess) : Type 0 where
  pub item : Item
  pub logged : slice_get log one.index ≡ Some item
  pub issued : issued_by (calls_here here) one.index item ≡ Some one

pub issued_among : (here : RankOfRun) (log : List Item) (one : PendingAccess) → IsIssuedAt here log one →
    In one (issued_in here log)
issued_among here log one is = in_issued (calls_here here) 0 log one.index is.item one is.logged
    (let same : one.index ≡ 0 + one.index = omega arith in
    subst (λ n. issued_by (calls_here here) n is.item ≡ Some one) same is.issued)

whole : (here : RankOfRun) (log : List Item) (one : PendingAccess) → IsLawfulLog here log → IsIssuedAt here log one →
    IsTouchedWhole here log one
whole here log one lawful is = each_in (IsTouchedWhole here log) (issued_in here log) lawful.touches
    (issued_among here log one is)

-- each touch of the access stands before an item that waits for it
pub touched_before : (here : RankOfRun) (log : List Item) (one : PendingAccess) (k : ℕ) → IsLawfulLog here log →
    IsIssuedAt here log one → one.index < k → WaitsFor here log k one →
    (j element cell place bits : ℕ) → slice_get log j ≡ Some (Touch one.index element cell place bits) → j < k
touched_before here log one k lawful is earlier w j element cell place bits e =
    let at = each_in (IsAwaitedWhole here log) (numbers_from 0 (length log)) lawful.awaited
    (in_numbers 0 (length log) k (omega arith) (omega (arith, slice_get_within log k w.item w.logged))) in
    let among = issued_among here (take k log) one (record {
      item = is.item;
      logged = get_taken k one.index log earlier ∙ is.logged;
      issued = is.issued;
    }) in
    let there : IsTouchedWhole here (take k log) one = each_in (λ other. waits_at here log k other ≡ true →
    IsTouchedWhole here (take k log) other)
    (issued_in here (take k log)) at among (waits_there here log k one lawful.calls w) in
    let all : IsTouchedWhole here log one = whole here log one lawful is in
    let same : length (touched_by one.index (take k log)) ≡ length (touched_by one.index log) = ap length (there
    ∙ sym all) in
    let split = touched_split one.index k log in
    let none : length (touched_by one.index (drop k log)) ≡ 0 = omega (arith, same, split) in
    elim (cases_lt j k) [
      | inl below ↦ below
      | inr late ↦ absurd (untouched_have_none one.index (drop k log) (j - k) element cell place bits none
          (get_dropped k (j - k) j log (omega (arith, late)) ∙ e))
    ]

-- each touch of an access that is touched directly after its Issue stands before any later item that does not touch it
pub directly_before : (here : RankOfRun) (log : List Item) (one : PendingAccess) (k : ℕ) (x : Item) →
    IsLawfulLog here log →
    IsIssuedAt here log one → FollowsDirectly here log one → one.index < k → slice_get log k ≡ Some x →
    touch_of one.index x ≡ [] →
    (j element cell place bits : ℕ) → slice_get log j ≡ Some (Touch one.index element cell place bits) → j < k
directly_before here log one k x lawful is direct earlier at plain j element cell place bits e =
    let count = length (pieces_here here one) in
    let rest = drop (one.index + 1) log in
    let all : IsTouchedWhole here log one = whole here log one lawful is in
    let total : length (touched_by one.index log) ≡ count = ap length all ∙ elements_count 0 (pieces_here here one) in
    let first = touched_split one.index (one.index + 1) log in
    let second = touched_split one.index count rest in
    let middle : length (touched_by one.index (take count rest)) ≡ count = direct in
    let none : length (touched_by one.index (drop count rest)) ≡ 0 = omega (arith, total, first, second, middle) in
    elim (cases_lt j (one.index + 1 + count)) [
      | inr late ↦
          let from = get_dropped count (j - (one.index + 1 + count)) (j - (one.index + 1)) rest (omega (arith, late)) in
          let base = get_dropped (one.index + 1) (j - (one.index + 1)) j log (omega (arith, late)) in
          absurd (untouched_have_none one.index (drop count rest)
          (j - (one.index + 1 + count)) element cell place bits none (from ∙ base ∙ e))
      | inl soon ↦ elim (cases_lt k (one.index + 1 + count)) [
        | inr past ↦ omega (arith, soon, past)
        | inl within ↦
            let from = get_taken count (k - (one.index + 1)) rest (omega (arith, within, earlier)) in
            let base = get_dropped (one.index + 1) (k - (one.index + 1)) k log (omega (arith, earlier)) in
            let fewer = touched_fewer one.index (take count rest) (k - (one.index + 1)) x (from ∙ base ∙ at) plain in
            let long = length_taken count rest in
            absurd (omega (arith, fewer, long, middle))
      ]
    ]
