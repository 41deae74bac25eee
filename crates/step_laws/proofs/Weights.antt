-- What is left of a rank: each turn of it lowers that, or leaves the rank waiting.
use Rattle.std.proofs.Common.{◌≡◌, ℕ, zero, suc, ◌+◌, ◌-◌, ◌*◌, ◌<◌, ◌≤◌, ◌⊎◌, inl, inr, Bool, true, false, cond, not}
use Rattle.std.proofs.Common.{List, [], ◌∷◌, ◌++◌, length, take, Option, Some, None, refl, sym, ◌∙◌, ap, subst, arith}
use Rattle.std.specs.Prelude.{slice_get, remove}
use Rattle.std.specs.List.{position}
use Rattle.std.specs.Option.{option_map_or}
use Rattle.std.proofs.lemmas.List.{length-take}
use Rattle.std.proofs.lemmas.List.Edits.{length-remove}
use Rattle.std.proofs.lemmas.List.Quantifiers.{position-Some}
use Rattle.std.proofs.lemmas.Option.{slice_get_within}
use Rattle.list_laws.proofs.Lists.{some_within}
use Rattle.rma_types.specs.declared.calls.Call.{Call}
use Rattle.call_rules.specs.declared.cells.Cell.{Cell}
use Rattle.rma_types.specs.declared.actions.Transfer.{Transfer}
use Rattle.lawful_runs.specs.Accesses.{transfer_at}
use Rattle.lawful_runs.specs.Stages.{Stage, calls_at}
use Rattle.rank_rules.specs.Pending.{gives_way, first_in_way, way_in, way, must_wait, awaited}
use Rattle.rank_rules.specs.declared.pending.PendingAccess.{PendingAccess}
use Rattle.rank_rules.specs.Requests.{Requests}
use Rattle.step_runs.specs.Agents.{Agent, next_call}
use Rattle.step_runs.specs.DataSteps.{OnMemory, with_touches, with_delivery, deliver}

-- a call has at most two entries, each of which may let 16 ranks wait once more, a draw, and a delivery
abbrev pub weight : ℕ → Bool → ℕ → Bool → Bool → ℕ
weight calls entered pending drawn ended = 64 * calls - cond entered 32 0 + pending + cond drawn 0 1 + cond ended 0 1

abbrev pub weight_of : Stage → Agent → ℕ
weight_of stage agent =
    weight (length (calls_at stage agent.rank) - agent.at) agent.entered (length agent.pending) agent.drawn agent.ended

-- less is left, by more than the number of ranks
abbrev pub FallsFar : Stage → Agent → Agent → Type 0
FallsFar stage agent next = weight_of stage next + 16 < weight_of stage agent

-- ---- calls

finishing : (calls at pending : ℕ) (entered drawn ended : Bool) → at < calls →
    weight (calls - (at + 1)) false pending false ended + 16 < weight (calls - at) entered pending drawn ended
finishing calls at pending true drawn ended h = omega arith
finishing calls at pending false drawn ended h = omega arith

issuing : (calls at pending more : ℕ) (entered drawn ended : Bool) → at < calls → more ≤ pending + 1 →
    weight (calls - (at + 1)) false more false ended < weight (calls - at) entered pending drawn ended
issuing calls at pending more true drawn ended h k = omega arith
issuing calls at pending more false drawn ended h k = omega arith

opening : (calls at pending : ℕ) (drawn ended : Bool) → at < calls →
    weight (calls - at) true pending drawn ended + 16 < weight (calls - at) false pending drawn ended
opening calls at pending drawn ended h = omega arith

pub at_within : (stage : Stage) (agent : Agent) (call : Call) → next_call stage agent ≡ Some call →
    agent.at < length (calls_at stage agent.rank)
at_within stage agent call here = slice_get_within (calls_at stage agent.rank) agent.at call here

-- the rank is at its next call, and all else that counts is as it was
pub record IsFinished (agent next : Agent) : Type 0 where
  pub rank : next.rank ≡ agent.rank
  pub at : next.at ≡ agent.at + 1
  pub entered : next.entered ≡ false
  pub drawn : next.drawn ≡ false
  pub ended : next.ended ≡ agent.ended

-- a call has all its items
pub finished_falls : (stage : Stage) (agent next : Agent) (call : Call) → next_call stage agent ≡ Some call →
    IsFinished agent next → next.pending ≡ agent.pending → FallsFar stage agent next
finished_falls stage agent next call here is same =
    rw (is.rank, is.at, is.entered, is.drawn, is.ended, same)
    (finishing (length (calls_at stage agent.rank)) agent.at (length agent.pending) agent.entered agent.drawn
    agent.ended (at_within stage agent call here))

-- a call that moves data has all its items
pub issued_falls : (stage : Stage) (agent next : Agent) (call : Call) → next_call stage agent ≡ Some call →
    IsFinished agent next →
    length next.pending ≤ length agent.pending + 1 → weight_of stage next < weight_of stage agent
issued_falls stage agent next call here is few =
    rw (is.rank, is.at, is.entered, is.drawn, is.ended)
    (issuing (length (calls_at stage agent.rank)) agent.at (length agent.pending) (length next.pending) agent.entered
    agent.drawn agent.ended (at_within stage agent call here) few)

-- a call begins
pub opened_falls : (stage : Stage) (agent next : Agent) (call : Call) → next_call stage agent ≡ Some call →
    agent.entered ≡ false →
    next.rank ≡ agent.rank → next.at ≡ agent.at → next.entered ≡ true → next.pending ≡ agent.pending →
    next.drawn ≡ agent.drawn → next.ended ≡ agent.ended →
    FallsFar stage agent next
opened_falls stage agent next call here new rank at entered pending drawn ended =
    rw (rank, at, entered, pending, drawn, ended, new)
    (opening (length (calls_at stage agent.rank)) agent.at (length agent.pending) agent.drawn agent.ended
    (at_within stage agent call here))

-- ---- deliveries

-- a delivery leaves all but the log and the pending accesses, of which one is gone
pub record IsDelivered (agent next : Agent) : Type 0 where
  pub rank : next.rank ≡ agent.rank
  pub at : next.at ≡ agent.at
  pub entered : next.entered ≡ agent.entered
  pub drawn : next.drawn ≡ agent.drawn
  pub ended : next.ended ≡ agent.ended
  pub known : next.known ≡ agent.known

abbrev pub DeliversAt : Agent → ℕ → Agent → Type 0
DeliversAt agent at next = IsDelivered agent next × (next.pending ≡ remove agent.pending at)

pub with_delivery_is : (stage : Stage) (agent : Agent) (cells : List Cell) (at : ℕ) (one : PendingAccess) →
    DeliversAt agent at (with_delivery stage agent cells at one).agent
with_delivery_is stage agent cells at one = by_transfer (transfer_at (calls_at stage agent.rank) one.number)
  where
    rest : Agent
    rest = record agent { pending = remove agent.pending at }

    by_transfer : (o : Option Transfer) → DeliversAt agent at
        (option_map_or (with_touches stage rest cells one) o (record { agent = rest; cells = cells })).agent
    by_transfer None = (
      record { rank = refl; at = refl; entered = refl; drawn = refl; ended = refl; known = refl },
      refl,
    )
    by_transfer (Some t) =
        (record { rank = refl; at = refl; entered = refl; drawn = refl; ended = refl; known = refl }, refl)

pub delivers_is : (stage : Stage) (agent : Agent) (cells : List Cell) (at : ℕ) (one : PendingAccess) →
    slice_get agent.pending at ≡ Some one →
    DeliversAt agent at (deliver stage agent cells at).agent
delivers_is stage agent cells at one here =
    subst (λ (o : Option PendingAccess). DeliversAt agent at
    (option_map_or (with_delivery stage agent cells at) o (record { agent = agent; cells = cells })).agent)
    (sym here) (with_delivery_is stage agent cells at one)

delivered_weighs : (stage : Stage) (agent next : Agent) (at : ℕ) → at < length agent.pending →
    DeliversAt agent at next → weight_of stage next + 1 ≡ weight_of stage agent
delivered_weighs stage agent next at inside is =
    let less = length-remove agent.pending at inside in
    let same = ap length is.1 in
    rw (is.0.rank, is.0.at, is.0.entered, is.0.drawn, is.0.ended)
    (one_less (64 * (length (calls_at stage agent.rank) - agent.at) - cond agent.entered 32 0) (length next.pending)
    (length agent.pending) (cond agent.drawn 0 1) (cond agent.ended 0 1)
    (ap (λ n. n + 1) same ∙ less))
  where
    one_less : (a p q c d : ℕ) → p + 1 ≡ q → a + p + c + d + 1 ≡ a + q + c + d
    one_less a p q c d e = omega arith

-- a delivery lowers what is left
pub delivery_falls : (stage : Stage) (agent : Agent) (cells : List Cell) (at : ℕ) → at < length agent.pending →
    weight_of stage (deliver stage agent cells at).agent < weight_of stage agent
delivery_falls stage agent cells at inside =
    let one = some_within agent.pending at inside in
    below (weight_of stage (deliver stage agent cells at).agent) (weight_of stage agent)
    (delivered_weighs stage agent (deliver stage agent cells at).agent at inside
    (delivers_is stage agent cells at one.0 one.1))
  where
    below : (a b : ℕ) → a + 1 ≡ b → a < b
    below a b e = omega arith

-- where nothing is pending at the place, nothing is done
pub delivery_no_more : (stage : Stage) (agent : Agent) (cells : List Cell) (at : ℕ) →
    weight_of stage (deliver stage agent cells at).agent ≤ weight_of stage agent
delivery_no_more stage agent cells at = by_access (slice_get agent.pending at) refl
  where
    not_above : (a b : ℕ) → a + 1 ≡ b → a ≤ b
    not_above a b e = omega arith

    by_access : (o : Option PendingAccess) → slice_get agent.pending at ≡ o →
        weight_of stage (option_map_or (with_delivery stage agent cells at) o
        (record { agent = agent; cells = cells })).agent ≤ weight_of stage agent
    by_access None e = omega arith
    by_access (Some one) e = not_above (weight_of stage (with_delivery stage agent cells at one).agent)
        (weight_of stage agent)
        (delivered_weighs stage agent (with_delivery stage agent cells at one).agent at
        (slice_get_within agent.pending at one e) (with_delivery_is stage agent cells at one))

-- ---- what a call waits for

-- what gives way leads to a pending access
in_way_within : (pending : List PendingAccess) (at next : ℕ) → first_in_way pending at ≡ Some next →
    next < length pending
in_way_within pending at next e = by_access (slice_get pending at) e
  where
    few : (a b c : ℕ) → a < b → b ≤ c → a < c
    few a b c h k = omega arith

    taken : (n : ℕ) (xs : List PendingAccess) → length (take n xs) ≤ length xs
    taken n xs = rw (length-take n xs) (omega arith)

    by_access : (o : Option PendingAccess) → option_map_or
        (λ (one : PendingAccess). position (gives_way one) (take at pending)) o None ≡ Some next → next < length pending
    by_access None h = absurd (cc h)
    by_access (Some one) h = few next (length (take at pending)) (length pending)
        (position-Some (gives_way one) (take at pending) next one h).0 (taken at pending)

way_in_within : (steps : ℕ) (pending : List PendingAccess) (at : ℕ) → at < length pending →
    way_in steps pending at < length pending
way_in_within zero pending at inside = inside
way_in_within (suc steps) pending at inside = by_way (way_in_within steps pending) (first_in_way pending at) refl
  where
    by_way : ((next : ℕ) → next < length pending → way_in steps pending next < length pending) → (o : Option ℕ) →
        first_in_way pending at ≡ o →
        option_map_or (way_in steps pending) o at < length pending
    by_way fewer None e = inside
    by_way fewer (Some next) e = fewer next (in_way_within pending at next e)

pub way_within : (pending : List PendingAccess) (at : ℕ) → at < length pending → way pending at < length pending
way_within pending at inside = way_in_within at pending at inside

-- what a call must wait for is pending
pub awaited_within : (requests : Requests) (call : Call) (pending : List PendingAccess) (at : ℕ) →
    awaited requests call pending ≡ Some at → at < length pending
awaited_within requests call [] at e = absurd (cc e)
awaited_within requests call (first ∷ rest) at e = by_position (position (must_wait requests call) (first ∷ rest))
    refl e
  where
    by_position : (o : Option ℕ) → position (must_wait requests call) (first ∷ rest) ≡ o →
        option_map_or (λ one. Some (way (first ∷ rest) one)) o None ≡ Some at → at < length (first ∷ rest)
    by_position None p h = absurd (cc h)
    by_position (Some one) p h =
        let is : way (first ∷ rest) one ≡ at = cc h in
        subst (λ n. n < length (first ∷ rest)) is
        (way_within (first ∷ rest) one (position-Some (must_wait requests call) (first ∷ rest) one first p).0)
