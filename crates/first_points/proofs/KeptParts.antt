-- What is kept of the steps and the accesses of a run, and what the definitions say of them.
use Rattle.std.proofs.Common.{◌≡◌, ℕ, zero, suc, ◌+◌, ◌<◌, ◌⊎◌, inl, inr, Bool, true, false, List, [], ◌∷◌}
use Rattle.std.proofs.Common.{Option, Some, None, length, refl, ap, sym, subst, ◌∙◌, arith, ℤ}
use Rattle.std.specs.Prelude.{◌&&◌, ◌==◌, nat_lt, slice_get}
use Rattle.std.specs.List.{find, flat_map}
use Rattle.std.specs.Option.{option_map, option_map_or}
use Rattle.std.proofs.lemmas.Bool.{cases_Bool, cases_lt, cond-true, cond-false, eq-eqb}
use Rattle.std.proofs.lemmas.List.{get_or_past}
use Rattle.std.proofs.lemmas.Option.{slice_get_past}
use Rattle.list_laws.proofs.Members.{In, here, there, contains_in}
use Rattle.rma_types.specs.declared.accesses.Access.{Access}
use Rattle.rma_types.specs.declared.accesses.Id.{Id}
use Rattle.rma_types.specs.declared.scripts.Script.{Script}
use Rattle.rma_record.specs.declared.items.Item.{Item}
use Rattle.rma_record.specs.declared.runs.Run.{Run}
use Rattle.rma_types.specs.declared.actions.Synchronisation.{Synchronisation}
use Rattle.rma_types.specs.declared.actions.Synchronisation.TheVariants.{Fences, Posts, Starts, Completes, Waits, Locks}
use Rattle.rma_types.specs.declared.actions.Synchronisation.TheVariants.{Unlocks, Flushes, Syncs}
use Rattle.rma_types.specs.Actions.{action_of, synchronisation_of, window_of_call}
use Rattle.call_rules.specs.Pieces.{numbers_from}
use Rattle.call_rules.specs.Ranks.{natural}
use Rattle.rank_rules.specs.Knowledge.{Knowledge}
use Rattle.rank_rules.specs.Pending.{is_requested_by, is_towards}
use Rattle.rank_rules.specs.Requests.{Requests, maker_of}
use Rattle.rank_rules.specs.Windows.{Window, window_of_name}
use Rattle.rank_rules.specs.declared.pending.PendingAccess.{PendingAccess}
use Rattle.lawful_runs.specs.Logs.{calls_of, named_in}
use Rattle.order_rules.specs.CallSteps.{CallStep, IssuedAccess, accesses_in, accesses_of, is_later_at_origin}
use Rattle.order_rules.specs.CallSteps.{is_numbered}
use Rattle.order_rules.specs.CallSteps.{is_step_on, steps_of_item}
use Rattle.order_rules.specs.DonePoints.{completes_at_origin, completes_at_target, request_ended}
use Rattle.rank_records.specs.Kept.{AreRecordsFrom, EachKept, IsKeptAccess, IsKeptStep}
use Rattle.rank_records.specs.Kept.{steps_of_rank}
use Rattle.rank_records.specs.declared.kept.KeptAccess.{KeptAccess}
use Rattle.rank_records.specs.declared.kept.KeptStep.{KeptStep}
use Rattle.rank_records.specs.declared.kept.RankRecord.{RankRecord}
use Rattle.rank_records.proofs.WholeLogs.{each_joined}
use Rattle.first_points.specs.KeptPoints.{AllAscending, AreAscending, call_at, does, ends_request, is_after}
use Rattle.first_points.specs.KeptPoints.{is_on_window, is_sought, issued_as, kept_accesses, kept_steps}
use Rattle.first_points.specs.declared.searches.Sought.{Sought}
use Rattle.first_points.specs.declared.searches.Sought.TheVariants.{FenceArrival, Complete, Wait, AtTarget, AtOrigin}
use Rattle.first_points.specs.declared.searches.Sought.TheVariants.{TakingIn, GivingOut}
use Rattle.first_points.proofs.Finds.{Ordered}
use Rattle.first_points.proofs.RankSteps.{InLogOrder, ordered_steps}

-- ---- lists of which each is kept of the other

-- neither test finds one, or they find two of which one is kept of the other
pub data IsFoundAs {A B : Type 0} (R : A → B → Type 0) (found : Option A) (is : Option B) : Type 0 where
  Neither : found ≡ None → is ≡ None → IsFoundAs R found is
  Both : (k : A) (x : B) → found ≡ Some k → is ≡ Some x → R k x → IsFoundAs R found is

pub each_found : {A B : Type 0} (R : A → B → Type 0) (p : A → Bool) (q : B → Bool) → (ks : List A) (xs : List B) →
    EachKept R ks xs → ((k : A) (x : B) → In x xs → R k x → p k ≡ q x) → IsFoundAs R (find p ks) (find q xs)
each_found R p q [] [] all same = Neither refl refl
each_found R p q [] (x ∷ xs) all same = absurd all
each_found R p q (k ∷ ks) [] all same = absurd all
each_found {A} {B} R p q (k ∷ ks) (x ∷ xs) all same = next (cases_Bool (p k))
    (each_found R p q ks xs all.1 (λ l y m. same l y (there m)))
  where
    next : (p k ≡ true) ⊎ (p k ≡ false) → IsFoundAs R (find p ks) (find q xs) →
        IsFoundAs R (find p (k ∷ ks)) (find q (x ∷ xs))
    next (inl passes) rest = Both k x (cond-true (p k) (Some k) (find p ks) passes)
        (cond-true (q x) (Some x) (find q xs) (sym (same k x here all.0) ∙ passes)) all.0
    next (inr fails) (Neither none nothing) = Neither (cond-false (p k) (Some k) (find p ks) fails ∙ none)
        (cond-false (q x) (Some x) (find q xs) (sym (same k x here all.0) ∙ fails) ∙ nothing)
    next (inr fails) (Both l y one other kept) = Both l y (cond-false (p k) (Some k) (find p ks) fails ∙ one)
        (cond-false (q x) (Some x) (find q xs) (sym (same k x here all.0) ∙ fails) ∙ other) kept

pub each_member : {A B : Type 0} (R : A → B → Type 0) (ks : List A) (xs : List B) {k : A} → EachKept R ks xs → In k ks →
    (x : B) × In x xs × R k x
each_member R [] xs all m = elim m [ ]
each_member R (k ∷ ks) [] all m = absurd all
each_member R (k ∷ ks) (x ∷ xs) all here = (x, here, all.0)
each_member R (k ∷ ks) (x ∷ xs) all (there m) =
    let rest = each_member R ks xs all.1 m in (rest.0, there rest.1, rest.2)

-- ---- what the steps of a call do

towards_same : (t : Option ℤ) (one other : PendingAccess) → one.access ≡ other.access →
    is_towards t one ≡ is_towards t other
towards_same None one other same = refl
towards_same (Some rank) one other same = ap (λ (a : Access). a.target == natural rank) same

at_target : (one other : PendingAccess) → one.access ≡ other.access → (s : Synchronisation) →
    completes_at_target one s ≡ completes_at_target other s
at_target one other same (Fences asserts) = refl
at_target one other same (Posts group asserts) = refl
at_target one other same (Starts group asserts) = refl
at_target one other same Completes = refl
at_target one other same (Waits tests) = refl
at_target one other same (Locks kind target asserts) = refl
at_target one other same (Unlocks target) = towards_same target one other same
at_target one other same (Flushes target true) = refl
at_target one other same (Flushes target false) = towards_same target one other same
at_target one other same Syncs = refl

at_origin : (one other : PendingAccess) → one.access ≡ other.access → (s : Synchronisation) →
    completes_at_origin one s ≡ completes_at_origin other s
at_origin one other same (Fences asserts) = refl
at_origin one other same (Posts group asserts) = refl
at_origin one other same (Starts group asserts) = refl
at_origin one other same Completes = refl
at_origin one other same (Waits tests) = refl
at_origin one other same (Locks kind target asserts) = refl
at_origin one other same (Unlocks target) = refl
at_origin one other same (Flushes target true) = towards_same target one other same
at_origin one other same (Flushes target false) = refl
at_origin one other same Syncs = refl

where_one : (p q : Synchronisation → Bool) → ((s : Synchronisation) → p s ≡ q s) → (o : Option Synchronisation) →
    option_map_or p o false ≡ option_map_or q o false
where_one p q same None = refl
where_one p q same (Some s) = same s

does_same : (sought : Sought) (one other : PendingAccess) → one.access ≡ other.access → (x : CallStep) →
    does sought one x.step x.call ≡ does sought other x.step x.call
does_same FenceArrival one other same x = refl
does_same Complete one other same x = refl
does_same Wait one other same x = refl
does_same AtTarget one other same x =
    where_one (completes_at_target one) (completes_at_target other) (at_target one other same) (synchronisation_of
    x.call)
does_same AtOrigin one other same x =
    where_one (completes_at_origin one) (completes_at_origin other) (at_origin one other same) (synchronisation_of
    x.call)
does_same TakingIn one other same x = refl
does_same GivingOut one other same x = refl

-- ---- tests of what is kept

name_on : (o : Option Window) (n : ℕ) →
    option_map_or (λ number. number == n) (option_map (λ (window : Window). window.number) o) false
    ≡ option_map_or (λ (window : Window). window.number == n) o false
name_on None n = refl
name_on (Some window) n = refl

window_on : (known : Knowledge) (o : Option ℕ) (n : ℕ) →
    option_map_or (λ number. number == n)
    (option_map_or (λ win. option_map (λ (window : Window). window.number) (window_of_name known.windows win)) o
    None) false
    ≡ option_map_or (is_numbered known n) o false
window_on known None n = refl
window_on known (Some win) n = name_on (window_of_name known.windows win) n

-- the step is on the window of the access and is what is looked for
abbrev pub sought_of : Sought → IssuedAccess → CallStep → Bool
sought_of sought a x = is_step_on a.issued.access.window x && does sought a.issued x.step x.call

module _ (script : Script) where
  pub sought_same : (sought : Sought) (k : KeptStep) (x : CallStep) (kept : KeptAccess) (a : IssuedAccess) →
      IsKeptStep script k x → IsKeptAccess kept a → is_sought script sought kept k ≡ sought_of sought a x
  sought_same sought k x kept a step access =
      let on : is_on_window kept k ≡ is_step_on a.issued.access.window x =
      (λ i. option_map_or (λ number. number == (access.access i).window) (step.window i) false)
      ∙ window_on x.known (window_of_call x.call) a.issued.access.window in
      let called : call_at script k ≡ Some x.call =
      ap (λ (id : Id). slice_get (calls_of script id.rank) k.call) step.named ∙ step.called in
      let is : option_map_or (does sought (issued_as kept) k.step) (call_at script k) false
      ≡ does sought a.issued x.step x.call =
      (λ i. option_map_or (does sought (issued_as kept) (step.step i)) (called i) false)
      ∙ does_same sought (issued_as kept) a.issued access.access x in
      (λ i. on i && is i)

request_same : (requests : Requests) (o : Option ℕ) (one : PendingAccess) →
    option_map_or (λ number. number == one.number) (option_map_or (maker_of requests) o None) false
    ≡ option_map_or (λ req. is_requested_by requests req one) o false
request_same requests None one = refl
request_same requests (Some req) one = refl

-- the step ends the request of the access
abbrev pub ends_of : IssuedAccess → CallStep → Bool
ends_of a x =
    option_map_or (λ req. is_requested_by x.known.requests req a.issued) (request_ended (action_of x.call)) false

pub ends_same : (script : Script) (k : KeptStep) (x : CallStep) (kept : KeptAccess) (a : IssuedAccess) →
    IsKeptStep script k x → IsKeptAccess kept a → ends_request kept k ≡ ends_of a x
ends_same script k x kept a step access =
    (λ i. option_map_or (λ number. number == access.number i) (step.maker i) false)
    ∙ request_same x.known.requests (request_ended (action_of x.call)) a.issued

-- the step stands after the access, where it is one of its rank
pub after_same : (script : Script) (k : KeptStep) (x : CallStep) (kept : KeptAccess) (a : IssuedAccess) →
    IsKeptStep script k x → IsKeptAccess kept a → x.id.rank ≡ a.id.rank → is_after kept k ≡ is_later_at_origin a x
after_same script k x kept a step access same =
    (λ i. nat_lt (access.named i).index (step.named i).index)
    ∙ sym (ap (λ b. b && nat_lt a.id.index x.id.index) (eq-eqb x.id.rank a.id.rank same))

-- ---- all ranks

module _ (script : Script) (run : Run) where
  records_kept : (first k : ℕ) (records : List RankRecord) → AreRecordsFrom script run first records →
      k < length records →
      EachKept (IsKeptStep script) (kept_steps records k) (steps_of_rank script run (first + k))
  records_kept first k [] all within = absurd (omega (arith, within))
  records_kept first zero (kept ∷ rest) all within =
      let same : first ≡ first + 0 = omega arith in
      subst (λ r. EachKept (IsKeptStep script) kept.steps (steps_of_rank script run r)) same all.0.steps
  records_kept first (suc k) (kept ∷ rest) all within =
      let same : first + 1 + k ≡ first + suc k = omega arith in
      subst (λ r. EachKept (IsKeptStep script) (kept_steps rest k) (steps_of_rank script run r)) same
      (records_kept (first + 1) k rest all.1 (omega (arith, within)))

  -- the steps of a rank are kept, also of a rank that is none
  pub steps_kept : (records : List RankRecord) → length records ≡ script.ranks → length run.logs ≡ script.ranks →
      AreRecordsFrom script run 0 records → (rank : ℕ) →
      EachKept (IsKeptStep script) (kept_steps records rank) (steps_of_rank script run rank)
  steps_kept records ranks logs all rank = elim (cases_lt rank (length records)) [
    | inl within ↦
        let same : 0 + rank ≡ rank = omega arith in
        subst (λ r. EachKept (IsKeptStep script) (kept_steps records rank) (steps_of_rank script run r)) same
        (records_kept 0 rank records all within)
    | inr past ↦
        let none : kept_steps records rank ≡ [] =
        ap (λ o. option_map_or (λ (record_of : RankRecord). record_of.steps) o []) (slice_get_past records rank past) in
        let nothing : steps_of_rank script run rank ≡ [] =
        ap (λ (log : List Item). flat_map (steps_of_item script run) (named_in rank log))
        (get_or_past run.logs rank [] (omega (arith, past, ranks, logs))) in
        subst (λ ks. EachKept (IsKeptStep script) ks (steps_of_rank script run rank)) (sym none)
        (subst (λ xs. EachKept (IsKeptStep script) [] xs) (sym nothing) tt)
  ]

  accesses_from : (first count : ℕ) (records : List RankRecord) → length records ≡ count →
      AreRecordsFrom script run first records →
      EachKept IsKeptAccess (kept_accesses records) (flat_map (accesses_of script run) (numbers_from first count))
  accesses_from first zero [] ranks all = tt
  accesses_from first (suc count) [] ranks all = absurd (omega (arith, ranks))
  accesses_from first zero (kept ∷ rest) ranks all = absurd (omega (arith, ranks))
  accesses_from first (suc count) (kept ∷ rest) ranks all =
      each_joined IsKeptAccess kept.accesses (accesses_of script run first) (kept_accesses rest)
      (flat_map (accesses_of script run) (numbers_from (first + 1) count)) all.0.accesses
      (accesses_from (first + 1) count rest (omega (arith, ranks)) all.1)

  -- the accesses of a run are kept, in the order of their names
  pub accesses_kept : (records : List RankRecord) → length records ≡ script.ranks →
      AreRecordsFrom script run 0 records → EachKept IsKeptAccess (kept_accesses records) (accesses_in script run)
  accesses_kept records ranks all = accesses_from 0 script.ranks records ranks all

  -- ---- order

  kept_ascending : (ks : List KeptStep) (xs : List CallStep) → EachKept (IsKeptStep script) ks xs →
      Ordered InLogOrder xs → AreAscending ks
  kept_ascending [] xs all ordered = tt
  kept_ascending (k ∷ ks) [] all ordered = absurd all
  kept_ascending (k ∷ ks) (x ∷ xs) all ordered = (
    λ later m.
        let one = each_member (IsKeptStep script) ks xs all.1 (contains_in ks later m) in
        let stands = ordered.0 one.0 one.1 in
        let first : k.id.rank ≡ x.id.rank = ap (λ (id : Id). id.rank) all.0.named in
        let second : later.id.rank ≡ one.0.id.rank = ap (λ (id : Id). id.rank) one.2.named in
        let from : k.id.index ≡ x.id.index = ap (λ (id : Id). id.index) all.0.named in
        let to : later.id.index ≡ one.0.id.index = ap (λ (id : Id). id.index) one.2.named in
        (first ∙ stands.0 ∙ sym second, omega (arith, stands.1, from, to)),
    kept_ascending ks xs all.1 ordered.1,
  )

  -- the steps that are kept of each rank stand in the order of its log
  pub records_ascend : (records : List RankRecord) → length records ≡ script.ranks → length run.logs ≡ script.ranks →
      AreRecordsFrom script run 0 records → AllAscending records
  records_ascend records ranks logs all rank =
      kept_ascending (kept_steps records rank) (steps_of_rank script run rank) (steps_kept records ranks logs all rank)
      (ordered_steps script run rank)
