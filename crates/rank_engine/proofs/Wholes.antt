-- A delivery over a memory that tells its cells is the definition's.
use Rattle.std.proofs.Common.{◌≡◌, ℕ, ◌<◌, true, false, List, ◌++◌, length, Option, Some, None, refl, sym, ◌∙◌, ap}
use Rattle.std.proofs.Common.{subst}
use Rattle.std.specs.Prelude.{◌%◌, IfSome, IsSomeAnd, drop, remove, slice_get, slice_index}
use Rattle.std.specs.List.{AllByRecursion}
use Rattle.std.specs.Option.{option_map_or}
use Rattle.list_laws.proofs.Each.{each_get_or, each_removed}
use Rattle.rma_types.specs.declared.calls.Call.{Call}
use Rattle.rma_types.specs.Datatypes.{size_of}
use Rattle.access_steps.specs.TouchesMade.{IsTouchEach}
use Rattle.rma_types.specs.declared.actions.Transfer.{Transfer}
use Rattle.rma_types.specs.Actions.{transfer_of}
use Rattle.call_rules.specs.declared.cells.Cell.{Cell}
use Rattle.call_rules.specs.declared.elements.Piece.{Piece}
use Rattle.call_rules.specs.Pieces.{pieces}
use Rattle.call_rules.specs.Touches.{touch_each}
use Rattle.call_rules.specs.Transfers.{bytes_of}
use Rattle.cell_face.specs.Faces.{Face}
use Rattle.delivery_queue.specs.Queues.{Queue, Delivers, DeliversWhole}
use Rattle.lawful_runs.specs.Accesses.{transfer_at}
use Rattle.lawful_runs.specs.Stages.{Stage, calls_at}
use Rattle.rank_rules.specs.declared.pending.PendingAccess.{PendingAccess}
use Rattle.step_runs.specs.Agents.{Agent}
use Rattle.step_runs.specs.DataSteps.{OnMemory, deliver, with_delivery, with_touches}
use Rattle.rank_engine.proofs.Deliveries.{PendingAt, pending_at}
use Rattle.rank_engine.specs.DataAnswers.{IsWhole}
use Rattle.rank_engine.specs.RankStates.{RankState, queue_of}
use Rattle.rank_engine.specs.Sound.{IsSound}

some_of_and : {X : Type 0} (P : X → Type 0) (o : Option X) → IsSomeAnd o P → (x : X) × (o ≡ Some x)
some_of_and P None h = absurd h
some_of_and P (Some x) h = (x, refl)

-- what the definition's delivery is, where the access and its transfer are known
deliver_is : (stage : Stage) (agent : Agent) (cells : List Cell) (at : ℕ) (one : PendingAccess) (t : Transfer) →
    slice_get agent.pending at ≡ Some one → transfer_at (calls_at stage agent.rank) one.number ≡ Some t →
    deliver stage agent cells at ≡
    with_touches stage (record agent { pending = remove agent.pending at }) cells one t
deliver_is stage agent cells at one t here moves =
    ap (λ o. option_map_or (with_delivery stage agent cells at) o (record { agent = agent; cells = cells })) here
    ∙ ap (λ o. option_map_or (with_touches stage (record agent { pending = remove agent.pending at }) cells one) o
    (record { agent = record agent { pending = remove agent.pending at }; cells = cells })) moves

pub delivered_whole : (s after : RankState) (at : ℕ) (cells : List Cell) (told : Option (List Cell))
    (face face_after : Face) (knows : ℕ → Cell → Type 0) → IsSound s → at < length s.agent.pending →
    AllByRecursion (λ count. count ≡ 0) s.touched →
    after ≡ record s {
      agent = record s.agent { log = after.agent.log; pending = after.agent.pending };
      touched = after.touched;
      opened = None;
      free = after.free;
    } →
    Delivers (queue_of s) (queue_of after) at true s.stage.layout (calls_at s.stage s.agent.rank) face face_after knows
    s.agent.log after.agent.log →
    DeliversWhole (queue_of s) at s.stage.layout (calls_at s.stage s.agent.rank) cells told s.agent.log after.agent.log
    →
    IsWhole (deliver s.stage s.agent cells at) after told
delivered_whole s after at cells told face face_after knows sound within untouched eq d whole = record {
  rank = ap (λ (x : RankState). x.agent) eq
      ∙ (ap (λ l. record s.agent { log = l; pending = after.agent.pending }) each.items
      ∙ (ap (λ p. record s.agent { log = s.agent.log ++ (touch_each t one.index 0 all cells).items; pending = p }) waits
      ∙ sym (ap (λ (m : OnMemory). m.agent) is)));
  cells = each.cells_after ∙ ap Some (sym (ap (λ (m : OnMemory). m.cells) is));
  between = record {
    closed = ap (λ (x : RankState). x.opened) eq;
    untouched = subst (AllByRecursion (λ count. count ≡ 0)) (sym (ap (λ (q : Queue). q.touched) d.queue_after))
        (each_removed (λ count. count ≡ 0) s.touched at untouched);
  };
}
  where
    calls : List Call
    calls = calls_at s.stage s.agent.rank

    here : PendingAt s.stage.layout (calls_at s.stage s.agent.rank) s.agent.pending s.touched at
    here = pending_at s.stage.layout (calls_at s.stage s.agent.rank) s.agent.pending s.touched at sound.queue.each
        within

    one : PendingAccess
    one = here.one

    some : (t : Transfer) × (transfer_of here.is.call ≡ Some t)
    some = some_of_and (λ (t : Transfer). (here.one.access.kind ≡ t.kind) × (here.one.access.len ≡ bytes_of t)
        × (here.one.access.lo % size_of t.dtype ≡ 0)) (transfer_of here.is.call) here.is.its.1

    t : Transfer
    t = some.0

    all : List Piece
    all = pieces s.stage.layout here.one.access some.0.dtype

    moves : transfer_at calls one.number ≡ Some t
    moves = ap (λ o. option_map_or transfer_of o None) here.is.named ∙ some.1

    is : deliver s.stage s.agent cells at ≡
        with_touches s.stage (record s.agent { pending = remove s.agent.pending at }) cells one t
    is = deliver_is s.stage s.agent cells at one t here.here moves

    waits : after.agent.pending ≡ remove s.agent.pending at
    waits = ap (λ (q : Queue). q.pending) d.queue_after

    none : slice_index s.touched at ≡ 0
    none = each_get_or (λ count. count ≡ 0) s.touched at 0 refl untouched

    each : IsTouchEach t all one.index 0 cells told s.agent.log after.agent.log
    each =
        let by_one = subst (λ (o : Option PendingAccess). IfSome o (λ (p : PendingAccess).
        IfSome (slice_get calls p.number) (λ (c : Call). IfSome (transfer_of c) (λ (x : Transfer).
        IsTouchEach x (drop (slice_index s.touched at) (pieces s.stage.layout p.access x.dtype)) p.index
        (slice_index s.touched at) cells told s.agent.log after.agent.log)))) here.here whole in
        let by_call = subst (λ (o : Option Call). IfSome o (λ (c : Call). IfSome (transfer_of c) (λ (x : Transfer).
        IsTouchEach x (drop (slice_index s.touched at) (pieces s.stage.layout one.access x.dtype)) one.index
        (slice_index s.touched at) cells told s.agent.log after.agent.log))) here.is.named by_one in
        let by_transfer = subst (λ (o : Option Transfer). IfSome o (λ (x : Transfer).
        IsTouchEach x (drop (slice_index s.touched at) (pieces s.stage.layout one.access x.dtype)) one.index
        (slice_index s.touched at) cells told s.agent.log after.agent.log)) some.1 by_call in
        subst (λ n. IsTouchEach t (drop n all) one.index n cells told s.agent.log after.agent.log) none by_transfer
