-- Moves that only name an access to be delivered, or nothing.
use Rattle.std.proofs.Common.{◌≡◌, ℕ, zero, suc, ◌+◌, ◌<◌, ◌≤◌, Bool, true, false, cond, not, List, [], ◌∷◌, ◌++◌}
use Rattle.std.proofs.Common.{length, drop, Option, Some, None, refl, sym, ◌∙◌, ap, subst, arith}
use Rattle.std.specs.Prelude.{◌/◌, ◌%◌, ◌==◌, ◌&&◌, map, nat_lt, slice_get}
use Rattle.std.specs.List.{position}
use Rattle.std.specs.Option.{option_and_then, option_map_or}
use Rattle.std.proofs.lemmas.Bool.{and_parts, eq-eqb, lt-ltb}
use Rattle.std.proofs.lemmas.List.{append-nil}
use Rattle.rank_rules.specs.declared.pending.PendingAccess.{PendingAccess}
use Rattle.rank_rules.specs.Pending.{awaited, gives_way, must_wait, share_cell, way}
use Rattle.rank_rules.specs.Requests.{Requests}
use Rattle.call_rules.specs.Transfers.{is_ordered_kind}
use Rattle.rma_types.specs.declared.calls.Call.{Call}
use Rattle.rma_types.specs.declared.schedules.Delay.{Delay}
use Rattle.rma_types.specs.declared.schedules.Delay.TheVariants.{None as NoDelay, End as EndDelay}
use Rattle.rma_types.specs.declared.schedules.Delay.TheVariants.{Seeded as SeededDelay}
use Rattle.lawful_runs.specs.Stages.{Stage}
use Rattle.lawful_runs.proofs.TouchLaws.{local_is_unordered}
use Rattle.step_runs.specs.Agents.{Agent, is_seeded, must_draw}
use Rattle.step_runs.specs.DataSteps.{draw, is_at_once, just_delivers}
use Rattle.step_runs.specs.Generator.{drawn_from, next_state}
use Rattle.rank_engine.proofs.Ways.{way_alone, way_twice}
use Rattle.rank_engine.specs.Moves.{IsFirst, IsMove}
use Rattle.rank_engine.specs.RankStates.{RankState, delivery_of, moves_to}

all_dropped : {X : Type 0} (xs : List X) → drop (length xs) xs ≡ []
all_dropped [] = refl
all_dropped (x ∷ xs) = all_dropped xs

-- nothing is issued
pub nothing_touched : (touched : List ℕ) (pending : List PendingAccess) →
    touched ++ map (λ (_ : PendingAccess). 0) (drop (length pending) pending) ≡ touched
nothing_touched touched pending =
    ap (λ p. touched ++ map (λ (_ : PendingAccess). 0) p) (all_dropped pending) ∙ append-nil touched

-- a pending access is named
pub names_one : (s : RankState) (at : ℕ) → IsFirst s.agent.pending at →
    IsMove s (record s { opened = Some at }) (just_delivers s.agent at)
names_one s at first = record {
  rank = ap (λ touched. record s { touched = touched; opened = Some at })
      (sym (nothing_touched s.touched s.agent.pending))
      ∙ ap (λ o. record (moves_to s (just_delivers s.agent at)) { opened = o })
      (ap (λ b. cond b (Some at) None) (sym (lt-ltb at (length s.agent.pending) first.0)));
  above = omega arith;
  below = omega arith;
}

-- the awaited access gives way to none
pub awaited_first : (requests : Requests) (call : Call) (pending : List PendingAccess) (at : ℕ) →
    Some at ≡ awaited requests call pending → way pending at ≡ at
awaited_first requests call pending at e = by_place (position (must_wait requests call) pending) e
  where
    by_place : (o : Option ℕ) → Some at ≡ option_map_or (λ n. Some (way pending n)) o None → way pending at ≡ at
    by_place None h = absurd (cc h)
    by_place (Some n) h =
        let is : at ≡ way pending n = cc h in
        subst (λ m. way pending m ≡ m) (sym is) (way_twice pending n)

-- the access that a draw names gives way to none
pub drawn_first : (pending : List PendingAccess) (place number : ℕ) → 0 < length pending →
    place ≡ way pending (number % length pending) → place ≤ number % length pending → IsFirst pending place
drawn_first pending place number some is low = (
  omega arith,
  subst (λ m. way pending m ≡ m) (sym is) (way_twice pending (number % length pending)),
)

-- an odd draw names one
pub draws_one : (s : RankState) (draws number place : ℕ) → draws ≡ next_state s.agent.draws →
    number ≡ drawn_from draws → number % 2 ≡ 1 →
    place ≡ way s.agent.pending (number / 2 % length s.agent.pending) → place < length s.agent.pending →
    IsMove s (record s { agent = record s.agent { drawn = true; draws = draws }; opened = Some place })
    (draw s.agent)
draws_one s draws number place d n odd is within = record {
  rank = cc (d, touches, names);
  above = omega arith;
  below = omega arith;
}
  where
    inside : ℕ → Option ℕ
    inside at = cond (nat_lt at (length s.agent.pending)) (Some at) None

    named : ℕ
    named = way s.agent.pending (drawn_from (next_state s.agent.draws) / 2 % length s.agent.pending)

    touches : s.touched ++ map (λ (_ : PendingAccess). 0) (drop (length s.agent.pending) s.agent.pending) ≡ s.touched
    touches = nothing_touched s.touched s.agent.pending

    odd_test : (drawn_from (next_state s.agent.draws) % 2 == 1) ≡ true
    odd_test = eq-eqb (drawn_from (next_state s.agent.draws) % 2) 1 (subst (λ m. m % 2 ≡ 1) (n ∙ ap drawn_from d) odd)

    same : named ≡ place
    same = sym (is ∙ ap (λ m. way s.agent.pending (m / 2 % length s.agent.pending)) (n ∙ ap drawn_from d))

    inner : inside place ≡ Some place
    inner = ap (λ b. cond b (Some place) None) (lt-ltb place (length s.agent.pending) within)

    names : delivery_of (draw s.agent) ≡ Some place
    names = ap (λ b. option_and_then inside (cond b (Some named) None)) odd_test
        ∙ (ap (option_and_then inside) (ap Some same) ∙ inner)

-- a draw is made where something is pending
pub some_waits : (stage : Stage) (agent : Agent) → must_draw stage agent ≡ true → 0 < length agent.pending
some_waits stage agent e = by_tests (is_seeded stage.delay) agent.drawn (length agent.pending) e
  where
    by_length : (n : ℕ) → not (n == 0) ≡ true → 0 < n
    by_length zero h = absurd (cc h)
    by_length (suc n) h = omega arith

    by_tests : (a b : Bool) (n : ℕ) → (a && not b && not (n == 0)) ≡ true → 0 < n
    by_tests a b n h = by_length n (and_parts (a && not b) (not (n == 0)) h).1

-- ---- issues

unordered : (one other : PendingAccess) → is_ordered_kind one.access.kind ≡ false → gives_way one other ≡ false
unordered one other e =
    ap (λ b. b && is_ordered_kind other.access.kind && share_cell one.access other.access) e

only : {X : Type 0} (xs : List X) (at : ℕ) (x : X) → slice_get xs at ≡ Some x → length xs ≤ 1 → at ≡ 0
only [] at x here few = absurd (cc here)
only (y ∷ ys) zero x here few = refl
only (y ∷ []) (suc at) x here few = absurd (cc here)
only (y ∷ z ∷ ys) (suc at) x here few = absurd (omega arith)

local_alone : (delay : Delay) (one : PendingAccess) → (delay ≡ NoDelay → ⊥) → is_at_once delay one.access ≡ true →
    (other : PendingAccess) → gives_way one other ≡ false
local_alone NoDelay one apart e other = absurd (apart refl)
local_alone EndDelay one apart e other = unordered one other (local_is_unordered one.access.kind e)
local_alone SeededDelay one apart e other = unordered one other (local_is_unordered one.access.kind e)

-- the access that is touched in the step of its Issue gives way to none
pub at_once_first : (delay : Delay) (pending : List PendingAccess) (at : ℕ) (one : PendingAccess) →
    slice_get pending at ≡ Some one → is_at_once delay one.access ≡ true → (delay ≡ NoDelay → length pending ≤ 1) →
    way pending at ≡ at
at_once_first NoDelay pending at one here once few =
    let zero_at : at ≡ 0 = only pending at one here (few refl) in subst (λ n. way pending n ≡ n) (sym zero_at) refl
at_once_first EndDelay pending at one here once few =
    way_alone pending at one here (local_alone EndDelay one (λ e. absurd (cc e)) once)
at_once_first SeededDelay pending at one here once few =
    way_alone pending at one here (local_alone SeededDelay one (λ e. absurd (cc e)) once)
