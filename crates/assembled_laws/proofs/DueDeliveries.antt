-- What is delivered is owed: a call that waits for it, or the end, comes next.
use Rattle.std.proofs.Common.{◌≡◌, ℕ, ◌+◌, ◌<◌, ◌≤◌, true, false, not, ◌||◌, List, [], ◌∷◌, ◌++◌}
use Rattle.std.proofs.Common.{length, take, Option, Some, None, refl, sym, ◌∙◌, ap, arith, get_or}
use Rattle.std.specs.Prelude.{slice_get, ◌==◌}
use Rattle.std.specs.List.{filter, position}
use Rattle.std.specs.Option.{option_map_or}
use Rattle.std.proofs.Math.Seq.{take-append-add}
use Rattle.std.proofs.lemmas.Bool.{eq-eqb}
use Rattle.std.proofs.lemmas.List.Quantifiers.{position-Some}
use Rattle.std.proofs.lemmas.Option.{slice_get-get_or}
use Rattle.list_laws.proofs.Each.{each_removed, each_take}
use Rattle.list_laws.proofs.Lists.{length_taken}
use Rattle.list_laws.proofs.Truths.{or_first, or_second}
use Rattle.rma_types.specs.declared.accesses.Access.{Access}
use Rattle.rma_types.specs.declared.calls.Call.{Call}
use Rattle.rma_types.specs.declared.schedules.Delay.{Delay}
use Rattle.rma_types.specs.declared.schedules.Delay.TheVariants.{End as EndDelay}
use Rattle.rma_record.specs.declared.items.Item.{Item}
use Rattle.rma_record.specs.declared.items.Item.TheVariants.{Issue}
use Rattle.assembled_laws.proofs.Due.{ForCall, ForEnd, IsOwed, due_touches, owed_touches, remote_before}
use Rattle.assembled_laws.proofs.DueMoves.{HasDue, begun_push, begun_touches, all_later, pushed, issue_pays}
use Rattle.assembled_laws.proofs.Unfinished.{HasElements, pending_between}
use Rattle.rma_types.specs.declared.actions.Transfer.{Transfer}
use Rattle.call_rules.specs.Pieces.{pieces}
use Rattle.lawful_runs.specs.Accesses.{transfer_at, issued_by}
use Rattle.lawful_runs.specs.DelayLaw.{pending_at, gives_way_to, is_unfinished, is_remote}
use Rattle.lawful_runs.specs.Stages.{Stage, calls_at}
use Rattle.lawful_runs.specs.TouchLaw.{issued_in, is_local}
use Rattle.rank_laws.proofs.Awaiting.{rank_of}
use Rattle.rank_laws.proofs.AwaitMoves.{KeepsAwaited}
use Rattle.rank_laws.proofs.DirectMoves.{touches_count}
use Rattle.rank_laws.proofs.Lists.{get_rest}
use Rattle.rank_laws.proofs.Moves.{Issuing, Reason, IsDrawn, IsAwaited, IsAtEnd, IsDrained, IsDue, issued_whole}
use Rattle.rank_laws.proofs.Touching.{IsTouchOf, touches_own, touches_of_own}
use Rattle.rank_laws.proofs.TouchMoves.{made_is}
use Rattle.rank_laws.specs.Deliveries.{AreTouches, AreTouchesOf, delivered}
use Rattle.rank_laws.specs.Fronts.{Lows}
use Rattle.rank_rules.specs.Pending.{must_wait, way}
use Rattle.rank_rules.specs.declared.pending.PendingAccess.{PendingAccess}
use Rattle.step_runs.specs.Agents.{Agent, next_call, awaited_by, is_seeded}
use Rattle.step_runs.specs.DataSteps.{is_at_once}

-- ---- what is pending between the touches of an access

touches_many : (stage : Stage) (calls : List Call) (one : PendingAccess) (o : Option Transfer) (lows : Lows)
    (items : List Item) (after : Lows) → AreTouchesOf stage one o lows items after →
    length items ≡ length (option_map_or (λ (t : Transfer). pieces stage.layout one.access t.dtype) o [])
touches_many stage calls one None lows items after h = ap length h.0
touches_many stage calls one (Some t) lows items after h =
    touches_count t one.index 0 (pieces stage.layout one.access t.dtype) lows items after h

still_pending : (stage : Stage) (agent : Agent) (at : ℕ) (one : PendingAccess) (items : List Item)
    (lows after : Lows) → KeepsAwaited stage agent → HasDue stage agent → slice_get agent.pending at ≡ Some one →
    AreTouchesOf stage one (transfer_at (calls_at stage agent.rank) one.number) lows items after →
    (past : ℕ) → past < length items →
    pending_at (rank_of stage agent.rank []) (agent.log ++ items) (length agent.log + past) ≡ agent.pending
still_pending stage agent at one items lows after awaited h there touches past inside =
    ap (λ (before : List Item). filter (is_unfinished (rank_of stage agent.rank []) before)
    (issued_in (rank_of stage agent.rank []) before)) (take-append-add agent.log items past)
    ∙ pending_between stage agent.rank [] agent.log (take past items) agent.pending at one awaited.touches.has
    h.elements there (each_take (IsTouchOf one.index) past items
    (touches_of_own stage one _ lows items after touches))
    (fewer (length (take past items)) past (length items) _ (length_taken past items) inside
    (touches_many stage (calls_at stage agent.rank) one (transfer_at (calls_at stage agent.rank) one.number) lows items
    after touches))
  where
    fewer : (a b c d : ℕ) → a ≤ b → b < c → c ≡ d → a < d
    fewer a b c d h k e = omega arith

-- ---- why it is delivered

-- the access that a call waits for, and where its way ends
awaited_way : (agent : Agent) (call : Call) (at : ℕ) → awaited_by agent call ≡ Some at →
    (n : ℕ) × (position (must_wait agent.known.requests call) agent.pending ≡ Some n) × (way agent.pending n ≡ at)
awaited_way agent call at e = by (position (must_wait agent.known.requests call) agent.pending) refl e
  where
    by : (o : Option ℕ) → position (must_wait agent.known.requests call) agent.pending ≡ o →
        option_map_or (λ n. Some (way agent.pending n)) o None ≡ Some at →
        (n : ℕ) × (position (must_wait agent.known.requests call) agent.pending ≡ Some n) × (way agent.pending n ≡ at)
    by None none k = absurd (cc k)
    by (Some n) some k = (n, some, cc k)

-- a delivered access is owed, for a rank that makes steps and draws none
owed_by : (stage : Stage) (agent : Agent) (at : ℕ) (one : PendingAccess) (log : List Item) (index : ℕ) →
    stage.delay ≡ EndDelay → slice_get agent.pending at ≡ Some one →
    pending_at (rank_of stage agent.rank []) log index ≡ agent.pending → Reason false stage agent at →
    IsOwed stage agent.rank log (next_call stage agent) agent.entered agent.known index one.index
owed_by stage agent at one log index end there same (IsDrawn seeded) = absurd (cc (sym (ap is_seeded end) ∙ seeded))
owed_by stage agent at one log index end there same (IsAwaited call here new passes awaits) =
    let found = awaited_way agent call at awaits in
    let first = position-Some (must_wait agent.known.requests call) agent.pending found.0 one found.1 in
    let x = get_or agent.pending found.0 one in record {
      at = found.0;
      one = x;
      there = ap (λ (pending : List PendingAccess). slice_get pending found.0) same
          ∙ slice_get-get_or agent.pending found.0 one first.0;
      leads = ap (λ (pending : List PendingAccess). x.index == one.index || gives_way_to pending found.0 one.index) same
          ∙ or_second (x.index == one.index) (gives_way_to agent.pending found.0 one.index)
          (ap (λ n. option_map_or (λ (y : PendingAccess). y.index == one.index) (slice_get agent.pending n) false)
          found.2
          ∙ ap (λ (o : Option PendingAccess). option_map_or (λ (y : PendingAccess). y.index == one.index) o false) there
          ∙ eq-eqb one.index one.index refl);
      waits = ForCall call here new passes first.1;
    }
owed_by stage agent at one log index end there same (IsAtEnd none zeroth) = record {
  at = at;
  one = one;
  there = ap (λ (pending : List PendingAccess). slice_get pending at) same ∙ there;
  leads = or_first (one.index == one.index)
      (gives_way_to (pending_at (rank_of stage agent.rank []) log index) at one.index)
      (eq-eqb one.index one.index refl);
  waits = ForEnd none;
}
owed_by stage agent at one log index end there same (IsDrained may zeroth) = absurd (cc may)

-- ---- moves

pub delivered_due : (stage : Stage) (agent : Agent) (at : ℕ) (one : PendingAccess) (items : List Item)
    (lows after : Lows) → stage.delay ≡ EndDelay → KeepsAwaited stage agent → HasDue stage agent →
    slice_get agent.pending at ≡ Some one → IsDue false stage agent at →
    AreTouchesOf stage one (transfer_at (calls_at stage agent.rank) one.number) lows items after →
    HasDue stage (delivered agent at items)
delivered_due stage agent at one items lows after end awaited h there due touches =
    let own = touches_of_own stage one _ lows items after touches in record {
      begun = begun_touches (agent.at + 1) one.index agent.log items own h.begun;
      unbegun = λ new. begun_touches agent.at one.index agent.log items own (h.unbegun new);
      elements = each_removed (HasElements stage.layout (calls_at stage agent.rank)) agent.pending at h.elements;
      due = due_touches stage agent.rank one.index agent.log items own h.due;
      owed = owed_touches stage agent.rank one.index agent.log items (next_call stage agent) agent.entered agent.known
          own h.owed (λ past inside remote.
          owed_by stage agent at one (agent.log ++ items) (length agent.log + past) end there
          (still_pending stage agent at one items lows after awaited h there touches past inside) due.reason);
    }

at_once_is_local : (d : Delay) (access : Access) → d ≡ EndDelay → is_at_once d access ≡ true →
    is_local access.kind ≡ true
at_once_is_local d access end once = ap (λ (x : Delay). is_at_once x access) (sym end) ∙ once

-- an access that is touched at once is none of another rank's memory
local_is_not_remote : (stage : Stage) (agent : Agent) (call : Call) (t : Transfer) (access : Access) →
    stage.delay ≡ EndDelay → Issuing stage agent call t access → is_at_once stage.delay access ≡ true →
    is_remote (rank_of stage agent.rank []) (agent.log ++ Issue agent.at access ∷ []) (length agent.log) ≡ false
local_is_not_remote stage agent call t access end issuing once =
    let kind = λ (o : Option PendingAccess). option_map_or (λ (x : PendingAccess). not (is_local x.access.kind)) o false
    in
    ap kind (ap (λ (o : Option Item). option_map_or (issued_by (calls_at stage agent.rank) (length agent.log)) o None)
    (get_rest agent.log (Issue agent.at access ∷ []) (length agent.log) 0 (omega arith))
    ∙ made_is stage agent call t access issuing)
    ∙ ap not (at_once_is_local stage.delay access end once)

pub issued_due : (stage : Stage) (agent : Agent) (call : Call) (t : Transfer) (access : Access) (items : List Item)
    (lows after : Lows) → stage.delay ≡ EndDelay → KeepsAwaited stage agent → HasDue stage agent →
    Issuing stage agent call t access → is_at_once stage.delay access ≡ true →
    AreTouches t (length agent.log) 0 (pieces stage.layout access t.dtype) lows items after →
    HasDue stage (issued_whole stage agent access items)
issued_due stage agent call t access items lows after end awaited h issuing once touches =
    let item = Issue agent.at access in
    let log = agent.log ++ item ∷ [] in
    let issue = length agent.log in
    let next = issued_whole stage agent access items in
    let own = touches_own t issue 0 _ lows items after touches in
    let all = begun_touches (agent.at + 1) issue log items own (begun_push agent.at agent.log item h.begun refl) in
    let more = pushed stage agent item (next_call stage next) next.entered next.known awaited h refl
    (issue_pays stage agent call t access awaited h issuing) in record {
      begun = all_later (agent.at + 1) (agent.at + 1 + 1) (omega arith) (log ++ items) all;
      unbegun = λ new. all;
      elements = h.elements;
      due = due_touches stage agent.rank issue log items own more.0;
      owed = owed_touches stage agent.rank issue log items (next_call stage next) next.entered next.known own more.1
          (λ past inside remote. absurd (cc
          (sym (local_is_not_remote stage agent call t access end issuing once)
          ∙ remote_before (rank_of stage agent.rank []) log items issue issue own remote)));
    }
