-- The accesses that are judged stand in the order of their names.
use Rattle.std.proofs.Common.{◌≡◌, ℕ, zero, suc, ◌+◌, ◌<◌, ◌≤◌, ◌⊎◌, inl, inr, List, [], ◌∷◌, ◌++◌, Option, Some, None}
use Rattle.std.proofs.Common.{refl, ap, ◌∙◌, arith}
use Rattle.std.specs.Prelude.{map}
use Rattle.std.specs.List.{flat_map, AllByRecursion}
use Rattle.std.specs.Option.{option_map_or}
use Rattle.list_laws.proofs.Each.{each_append, each_weaker}
use Rattle.rma_types.specs.declared.accesses.Access.{Access}
use Rattle.rma_types.specs.declared.calls.Call.{Call}
use Rattle.rma_record.specs.declared.items.Item.{Item}
use Rattle.rma_record.specs.declared.items.Item.TheVariants.{Issue, Null, Touch, Flush, Request, Entry, Tested, Refused}
use Rattle.rma_record.specs.declared.items.Item.TheVariants.{Ended}
use Rattle.rma_types.specs.declared.scripts.Script.{Script}
use Rattle.rma_record.specs.declared.runs.Run.{Run}
use Rattle.rma_types.specs.declared.actions.Transfer.{Transfer}
use Rattle.call_rules.specs.Pieces.{numbers_from}
use Rattle.rank_rules.specs.declared.pending.PendingAccess.{PendingAccess}
use Rattle.lawful_runs.specs.Accesses.{EachPair, transfer_at, issued_by, issued_from}
use Rattle.lawful_runs.specs.Logs.{log_of, calls_of}
use Rattle.lawful_runs.proofs.PairLaws.{pair_joined, pair_turned}
use Rattle.order_rules.specs.CallSteps.{IssuedAccess, issued_access, accesses_of, accesses_in}
use Rattle.order_rules.specs.DonePoints.{timeline_of}
use Rattle.order_rules.specs.Findings.{judged_access}
use Rattle.order_rules.specs.Ordered.{JudgedAccess}
use Rattle.order_laws.specs.FindingLaws.{IsSmaller, AccessesAscend}

-- ---- lists

each_mapped : {X Y : Type 0} (P : Y → Type 0) (f : X → Y) (xs : List X) → AllByRecursion (λ x. P (f x)) xs →
    AllByRecursion P (map f xs)
each_mapped P f [] all = tt
each_mapped P f (x ∷ xs) all = (all.0, each_mapped P f xs all.1)

pair_mapped : {X Y : Type 0} (R : Y → Y → Type 0) (f : X → Y) (xs : List X) → EachPair (λ x y. R (f x) (f y)) xs →
    EachPair R (map f xs)
pair_mapped R f [] all = tt
pair_mapped R f (x ∷ xs) all = (each_mapped (R (f x)) f xs all.0, pair_mapped R f xs all.1)

-- ---- the accesses of a log

abbrev pending_of : ℕ → ℕ → Access → Transfer → PendingAccess
pending_of index number access t = record { index = index; number = number; access = access; fetches = t.fetches }

one_by : (index number : ℕ) (access : Access) (o : Option Transfer) →
    (option_map_or (λ (t : Transfer). Some (pending_of index number access t)) o None ≡ None)
    ⊎ ((one : PendingAccess) × (option_map_or (λ (t : Transfer). Some (pending_of index number access t)) o None ≡ Some
    one) × (one.index ≡ index))
one_by index number access None = inl refl
one_by index number access (Some t) = inr (pending_of index number access t, refl, refl)

-- an item issues at most one access, with its own index
issued_one : (calls : List Call) (index : ℕ) (item : Item) →
    (issued_by calls index item ≡ None) ⊎ ((one : PendingAccess) × (issued_by calls index item ≡ Some one)
    × (one.index ≡ index))
issued_one calls index (Issue number access) = one_by index number access (transfer_at calls number)
issued_one calls index (Null number) = inl refl
issued_one calls index (Touch issue element cell place bits) = inl refl
issued_one calls index (Flush number) = inl refl
issued_one calls index (Request number) = inl refl
issued_one calls index (Entry number place step) = inl refl
issued_one calls index (Tested number seen) = inl refl
issued_one calls index (Refused number class seen) = inl refl
issued_one calls index Ended = inl refl

AreFrom : ℕ → List PendingAccess → Type 0
AreFrom index ones = AllByRecursion (λ (one : PendingAccess). index ≤ one.index) ones
    × EachPair (λ (a b : PendingAccess). a.index < b.index) ones

one_more : (index : ℕ) (rest : List PendingAccess) (o : Option PendingAccess) → AreFrom (index + 1) rest →
    ((o ≡ None) ⊎ ((one : PendingAccess) × (o ≡ Some one) × (one.index ≡ index))) →
    AreFrom index (option_map_or (λ one. one ∷ []) o [] ++ rest)
unfolding AreFrom
one_more index rest None all kind = (
  each_weaker (λ (one : PendingAccess). index + 1 ≤ one.index)
      (λ (one : PendingAccess). index ≤ one.index) (λ one low. omega (arith, low)) rest all.0,
  all.1,
)
one_more index rest (Some x) all (inl none) = absurd (cc none)
one_more index rest (Some x) all (inr some) =
    let same : x ≡ some.0 = cc some.1 in
    let at : x.index ≡ index = ap (λ (one : PendingAccess). one.index) same ∙ some.2 in (
      (
        omega (arith, at),
        each_weaker (λ (one : PendingAccess). index + 1 ≤ one.index)
            (λ (one : PendingAccess). index ≤ one.index) (λ one low. omega (arith, low)) rest all.0,
      ),
      (
        each_weaker (λ (one : PendingAccess). index + 1 ≤ one.index) (λ (one : PendingAccess). x.index < one.index)
            (λ one low. omega (arith, low, at)) rest all.0,
        all.1,
      ),
    )

issued_ascend : (calls : List Call) (index : ℕ) (items : List Item) → AreFrom index (issued_from calls index items)
unfolding AreFrom
issued_ascend calls index [] = (tt, tt)
issued_ascend calls index (item ∷ items) =
    one_more index (issued_from calls (index + 1) items) (issued_by calls index item)
    (issued_ascend calls (index + 1) items) (issued_one calls index item)

-- ---- the accesses of a run

module _ (script : Script) (run : Run) where
  -- of the accesses of one rank
  in_one : (rank : ℕ) (ones : List PendingAccess) → EachPair (λ (a b : PendingAccess). a.index < b.index) ones →
      EachPair (λ (a b : IssuedAccess). IsSmaller a.id b.id) (map (issued_access script run rank) ones)
  in_one rank ones all = pair_mapped (λ (a b : IssuedAccess). IsSmaller a.id b.id) (issued_access script run rank) ones
      (pair_turned (λ (a b : PendingAccess). a.index < b.index)
      (λ (a b : PendingAccess). IsSmaller (issued_access script run rank a).id (issued_access script run rank b).id)
      (λ a b below. inr (refl, below)) ones all)

  of_rank : (rank : ℕ) (ones : List PendingAccess) → AllByRecursion (λ (a : IssuedAccess). a.id.rank ≡ rank)
      (map (issued_access script run rank) ones)
  of_rank rank [] = tt
  of_rank rank (one ∷ ones) = (refl, of_rank rank ones)

  above_rank : (first count : ℕ) → AllByRecursion (λ (a : IssuedAccess). first ≤ a.id.rank)
      (flat_map (accesses_of script run) (numbers_from first count))
  above_rank first zero = tt
  above_rank first (suc count) = each_append (λ (a : IssuedAccess). first ≤ a.id.rank) (accesses_of script run first)
      (flat_map (accesses_of script run) (numbers_from (first + 1) count))
      (each_weaker (λ (a : IssuedAccess). a.id.rank ≡ first) (λ (a : IssuedAccess). first ≤ a.id.rank)
      (λ a is. omega (arith, is)) (accesses_of script run first)
      (of_rank first (issued_from (calls_of script first) 0 (log_of run first))))
      (each_weaker (λ (a : IssuedAccess). first + 1 ≤ a.id.rank) (λ (a : IssuedAccess). first ≤ a.id.rank)
      (λ a low. omega (arith, low)) (flat_map (accesses_of script run) (numbers_from (first + 1) count))
      (above_rank (first + 1) count))

  ranks_ascend : (first count : ℕ) → EachPair (λ (a b : IssuedAccess). IsSmaller a.id b.id)
      (flat_map (accesses_of script run) (numbers_from first count))
  unfolding AreFrom
  ranks_ascend first zero = tt
  ranks_ascend first (suc count) =
      let rest = flat_map (accesses_of script run) (numbers_from (first + 1) count) in
      let log = issued_from (calls_of script first) 0 (log_of run first) in
      pair_joined (λ (a b : IssuedAccess). IsSmaller a.id b.id) (accesses_of script run first) rest
      (in_one first log (issued_ascend (calls_of script first) 0 (log_of run first)).1)
      (ranks_ascend (first + 1) count)
      (each_weaker (λ (a : IssuedAccess). a.id.rank ≡ first)
      (λ (a : IssuedAccess). AllByRecursion (λ (b : IssuedAccess). IsSmaller a.id b.id) rest)
      (λ a is. each_weaker (λ (b : IssuedAccess). first + 1 ≤ b.id.rank) (λ (b : IssuedAccess). IsSmaller a.id b.id)
      (λ b low. inl (omega (arith, low, is))) rest (above_rank (first + 1) count))
      (accesses_of script run first) (of_rank first log))

pub ascend : AccessesAscend
ascend script run model before =
    pair_mapped (λ (a b : JudgedAccess). IsSmaller a.id b.id) (judged_access model before (timeline_of script run))
    (accesses_in script run)
    (ranks_ascend script run 0 script.ranks)
