-- The delivery of a pending access: what it asks, and what it leaves.
use Rattle.std.proofs.Common.{◌≡◌, ℕ, zero, suc, ◌+◌, ◌-◌, ◌<◌, ◌≤◌, Bool, true, false, cond, List, [], ◌∷◌, ◌++◌}
use Rattle.std.proofs.Common.{length, Option, Some, None, refl, sym, ◌∙◌, ap, subst, arith}
use Rattle.std.specs.Prelude.{IfSome, IsTrue, drop, map, remove, slice_get, slice_index, slice_set, ℤ, pos, negsuc}
use Rattle.std.specs.List.{AllByRecursion, flat_map, sum_by}
use Rattle.std.specs.Option.{option_map_or}
use Rattle.std.proofs.lemmas.Grind.{flat_map-append}
use Rattle.std.proofs.lemmas.List.{append-nil}
use Rattle.list_laws.proofs.Each.{each_removed}
use Rattle.list_laws.proofs.Lists.{set_removed}
use Rattle.rma_types.specs.declared.calls.Call.{Call}
use Rattle.rma_types.specs.declared.schedules.Delay.TheVariants.{None as NoDelay}
use Rattle.rma_types.specs.declared.scripts.Layout.{Layout}
use Rattle.rma_types.specs.declared.scripts.Script.{Script}
use Rattle.rma_record.specs.declared.items.Item.{Item}
use Rattle.access_steps.specs.Plans.{element_count, is_update}
use Rattle.access_steps.specs.TouchesMade.{MadeTouch, item_of}
use Rattle.board_rules.specs.Entries.{creations}
use Rattle.rma_types.specs.declared.actions.Action.{Action}
use Rattle.rma_types.specs.declared.actions.Action.TheVariants.{Creates, Frees, Attaches, Detaches, Synchronises, Meets}
use Rattle.rma_types.specs.declared.actions.Action.TheVariants.{Moves, EndsRequest}
use Rattle.rma_types.specs.declared.actions.Transfer.{Transfer}
use Rattle.rma_types.specs.Actions.{action_of, transfer_in}
use Rattle.call_rules.specs.declared.cells.Cell.{Cell}
use Rattle.call_rules.specs.Ranks.{natural}
use Rattle.call_rules.specs.WellFormed.{IsUpTo, IsWrittenAction}
use Rattle.cell_face.specs.Faces.{Face}
use Rattle.delivery_queue.specs.Queues.{Queue, Delivers, IsDeliverable, after_delivery}
use Rattle.lawful_runs.specs.Logs.{row_by}
use Rattle.lawful_runs.specs.Stages.{calls_at}
use Rattle.rank_rules.specs.declared.pending.PendingAccess.{PendingAccess}
use Rattle.rank_engine.specs.DataAnswers.{HasRoom, opened_after}
use Rattle.rank_engine.specs.Moves.{IsFirst}
use Rattle.rank_engine.specs.RankStates.{RankState, others, own_rows, queue_of}
use Rattle.rank_engine.specs.Shares.{updates_by, updates_left, updates_of}
use Rattle.rank_engine.specs.Sound.{ArePending, IsPending, IsSound}

-- ---- lists

pub record PendingAt (layout : Layout) (calls : List Call) (pending : List PendingAccess) (touched : List ℕ) (at : ℕ)
    : Type 0 where
  pub one : PendingAccess
  pub here : slice_get pending at ≡ Some one
  pub is : IsPending layout calls one (slice_index touched at)

pub pending_at : (layout : Layout) (calls : List Call) (pending : List PendingAccess) (touched : List ℕ) (at : ℕ) →
    ArePending layout calls pending touched → at < length pending → PendingAt layout calls pending touched at
pending_at layout calls [] touched at h l = absurd (omega arith)
pending_at layout calls (one ∷ pending) [] at h l = absurd h
pending_at layout calls (one ∷ pending) (count ∷ touched) zero h l = record { one = one; here = refl; is = h.0 }
pending_at layout calls (one ∷ pending) (count ∷ touched) (suc at) h l =
    let rest = pending_at layout calls pending touched at h.1 (omega arith) in
    record { one = rest.one; here = rest.here; is = rest.is }

pending_removed : (layout : Layout) (calls : List Call) (pending : List PendingAccess) (touched : List ℕ) (at : ℕ) →
    ArePending layout calls pending touched → ArePending layout calls (remove pending at) (remove touched at)
pending_removed layout calls [] [] zero h = tt
pending_removed layout calls [] [] (suc at) h = tt
pending_removed layout calls [] (count ∷ touched) at h = absurd h
pending_removed layout calls (one ∷ pending) [] at h = absurd h
pending_removed layout calls (one ∷ pending) (count ∷ touched) zero h = h.1
pending_removed layout calls (one ∷ pending) (count ∷ touched) (suc at) h =
    (h.0, pending_removed layout calls pending touched at h.1)

pending_touched : (layout : Layout) (calls : List Call) (pending : List PendingAccess) (touched : List ℕ) (at next : ℕ)
    (one : PendingAccess) → slice_get pending at ≡ Some one → IsPending layout calls one next →
    ArePending layout calls pending touched → ArePending layout calls pending (slice_set touched at next)
pending_touched layout calls [] [] at next one here new h = absurd (cc here)
pending_touched layout calls [] (count ∷ touched) at next one here new h = absurd h
pending_touched layout calls (other ∷ pending) [] at next one here new h = absurd h
pending_touched layout calls (other ∷ pending) (count ∷ touched) zero next one here new h =
    let same : one ≡ other = cc here in (subst (λ (p : PendingAccess). IsPending layout calls p next) same new, h.1)
pending_touched layout calls (other ∷ pending) (count ∷ touched) (suc at) next one here new h =
    (h.0, pending_touched layout calls pending touched at next one here new h.1)

untouched_but : (opened : Option ℕ) (touched : List ℕ) (at : ℕ) → IfSome opened (λ place. place ≡ at) →
    AllByRecursion (λ count. count ≡ 0) (others opened touched) →
    AllByRecursion (λ count. count ≡ 0) (remove touched at)
untouched_but None touched at only h = each_removed (λ (count : ℕ). count ≡ 0) touched at h
untouched_but (Some place) touched at only h =
    subst (λ n. AllByRecursion (λ count. count ≡ 0) (remove touched n)) only h

alone_but : (opened : Option ℕ) (pending : List PendingAccess) (at : ℕ) → IfSome opened (λ place. place ≡ at) →
    others opened pending ≡ [] → remove pending at ≡ []
alone_but None [] zero only h = refl
alone_but None [] (suc at) only h = refl
alone_but None (one ∷ pending) at only h = absurd (cc h)
alone_but (Some place) pending at only h = ap (remove pending) (sym only) ∙ h

-- touches are no entries
touch_rows : (script : Script) (rank issue : ℕ) (touches : List MadeTouch) →
    flat_map (row_by script rank) (map (item_of issue) touches) ≡ []
touch_rows script rank issue [] = refl
touch_rows script rank issue (touch ∷ touches) =
    flat_map-append (row_by script rank) (item_of issue touch ∷ []) (map (item_of issue) touches)
    ∙ touch_rows script rank issue touches

-- ---- what is left

left_at : (calls : List Call) (pending : List PendingAccess) (touched : List ℕ) (at : ℕ) (one : PendingAccess) →
    slice_get pending at ≡ Some one →
    updates_by calls one ≤ slice_index touched at + updates_left calls pending touched
left_at calls [] touched at one here = absurd (cc here)
left_at calls (other ∷ pending) [] zero one here =
    let same : other ≡ one = cc here in
    subst (λ (p : PendingAccess). updates_by calls p ≤ 0 + (updates_by calls other + updates_left calls pending []))
    same
    (omega arith)
left_at calls (other ∷ pending) [] (suc at) one here =
    let rest = left_at calls pending [] at one here in
    let none : slice_index [] at ≡ 0 = refl in omega arith
left_at calls (other ∷ pending) (count ∷ touched) zero one here =
    let same : other ≡ one = cc here in
    subst (λ (p : PendingAccess). updates_by calls p ≤ count + ((updates_by calls other - count) +
    updates_left calls pending touched)) same (omega arith)
left_at calls (other ∷ pending) (count ∷ touched) (suc at) one here =
    let rest = left_at calls pending touched at one here in omega arith

few_by : (a : Action) → IsWrittenAction a →
    option_map_or (λ (t : Transfer). natural t.count) (transfer_in a) 0 ≤ 256
few_by (Creates creation) w = omega arith
few_by (Frees win) w = omega arith
few_by (Attaches win base bytes) w = omega arith
few_by (Detaches win base) w = omega arith
few_by (Synchronises win s) w = omega arith
few_by Meets w = omega arith
few_by (Moves t) w = small t.count w.elements
  where
    small : (z : ℤ) → IsUpTo 256 z → natural z ≤ 256
    small (pos n) h = h
    small (negsuc n) h = omega arith
few_by (EndsRequest req) w = omega arith

-- ---- what is asked

pub deliverable : (s : RankState) (at : ℕ) (face : Face) → IsSound s → HasRoom s face → 256 ≤ s.free →
    IsFirst s.agent.pending at →
    IsDeliverable (queue_of s) at s.stage.layout (calls_at s.stage s.agent.rank) face s.free
deliverable s at face sound room free first = record {
  one = here.one;
  call = here.is.call;
  here = here.here;
  named = here.is.named;
  first_way = first.1;
  is_its = (
    here.is.its.0,
    here.is.its.1,
    λ element below.
        let lies = here.is.its.2 element below in (within _ _ _ lies.0 room.cells, lies.1),
  );
  begun = let begun = here.is.begun in omega arith;
  room = enough (element_count here.is.call) (slice_index s.touched at) s.free
      (few_by (action_of here.is.call) here.is.its.0) free;
  share = λ update. shared (element_count here.is.call) (updates_by calls here.one) (slice_index s.touched at)
      (sum_by updates_of (drop s.agent.at calls)) (updates_left calls s.agent.pending s.touched) face.share
      (by_update update) (left_at calls s.agent.pending s.touched at here.one here.here) room.share;
}
  where
    calls : List Call
    calls = calls_at s.stage s.agent.rank

    here : PendingAt s.stage.layout (calls_at s.stage s.agent.rank) s.agent.pending s.touched at
    here = pending_at s.stage.layout (calls_at s.stage s.agent.rank) s.agent.pending s.touched at sound.queue.each
        first.0

    within : (a b c : ℕ) → a < b → b ≤ c → a < c
    within a b c h k = omega arith

    enough : (count from free : ℕ) → count ≤ 256 → 256 ≤ free → count ≤ from + free
    enough count from free h k = omega arith

    shared : (count by from ahead left share : ℕ) → by ≡ count → by ≤ from + left → ahead + left ≤ share →
        count ≤ from + share
    shared count by from ahead left share e h k = omega arith

    by_update : IsTrue (is_update here.is.call) → updates_by calls here.one ≡ element_count here.is.call
    by_update update = ap (λ o. option_map_or updates_of o 0) here.is.named ∙ chosen (is_update here.is.call) update
      where
        chosen : (b : Bool) → IsTrue b → cond b (element_count here.is.call) 0 ≡ element_count here.is.call
        chosen true h = refl
        chosen false h = absurd (cc h)

-- ---- what it leaves

pub delivered_sound : (s : RankState) (q : Queue) (at : ℕ) (done : Bool) (log : List Item) (face face_after : Face)
    (knows : ℕ → Cell → Type 0) (free : ℕ) (home : List ℕ) → IsSound s →
    Delivers (queue_of s) q at done s.stage.layout (calls_at s.stage s.agent.rank) face face_after knows s.agent.log log
    →
    IsFirst s.agent.pending at → IfSome s.opened (λ place. place ≡ at) →
    IsSound (record {
      stage = s.stage;
      agent = record s.agent {
        log = log;
        known = record { windows = s.agent.known.windows; epochs = s.agent.known.epochs; requests = q.requests };
        pending = q.pending;
      };
      touched = q.touched;
      opened = opened_after done at;
      free = free;
      home = home;
    })
delivered_sound s q at done log face face_after knows free home sound d first none_else =
    subst (λ (x : Queue). IsSound (by_queue done x)) (sym d.queue_after) (by_done done d.left)
  where
    by_queue : Bool → Queue → RankState
    by_queue b x = record {
      stage = s.stage;
      agent = record s.agent {
        log = log;
        known = record { windows = s.agent.known.windows; epochs = s.agent.known.epochs; requests = x.requests };
        pending = x.pending;
      };
      touched = x.touched;
      opened = opened_after b at;
      free = free;
      home = home;
    }

    here : PendingAt s.stage.layout (calls_at s.stage s.agent.rank) s.agent.pending s.touched at
    here = pending_at s.stage.layout (calls_at s.stage s.agent.rank) s.agent.pending s.touched at sound.queue.each
        first.0

    rows : flat_map (row_by s.stage.script s.agent.rank) log ≡ own_rows s.stage s.agent
    rows =
        ap (flat_map (row_by s.stage.script s.agent.rank)) d.touches.items
        ∙ (flat_map-append (row_by s.stage.script s.agent.rank) s.agent.log
        (map (item_of d.one.index) d.touches.touches)
        ∙ (ap (λ r. own_rows s.stage s.agent ++ r)
        (touch_rows s.stage.script s.agent.rank d.one.index d.touches.touches)
        ∙ append-nil (own_rows s.stage s.agent)))

    others_untouched : AllByRecursion (λ count. count ≡ 0) (remove s.touched at)
    others_untouched = untouched_but s.opened s.touched at none_else sound.queue.untouched

    alone : s.stage.delay ≡ NoDelay → remove s.agent.pending at ≡ []
    alone delay = alone_but s.opened s.agent.pending at none_else (sound.queue.alone delay)

    next_pending : d.next < element_count d.call →
        IsPending s.stage.layout (calls_at s.stage s.agent.rank) here.one d.next
    next_pending left =
        let one_is : d.one ≡ here.one = cc (d.here, here.here) in
        let named : slice_get (calls_at s.stage s.agent.rank) here.one.number ≡ Some d.call =
        subst (λ (p : PendingAccess). slice_get (calls_at s.stage s.agent.rank) p.number ≡ Some d.call) one_is d.named
        in
        let call_is : d.call ≡ here.is.call = cc (named, here.is.named) in
        record {
          call = here.is.call;
          named = here.is.named;
          its = here.is.its;
          begun = subst (λ (c : Call). d.next < element_count c) call_is left;
        }

    by_done : (b : Bool) → (b ≡ false → d.next < element_count d.call) →
        IsSound (by_queue b (after_delivery b (queue_of s) at d.next))
    by_done true left = record {
      formed = sound.formed;
      layout = sound.layout;
      rank = sound.rank;
      windows = sound.windows;
      begun = sound.begun;
      queue = record {
        each = pending_removed s.stage.layout (calls_at s.stage s.agent.rank) s.agent.pending s.touched at
            sound.queue.each;
        first = tt;
        untouched = others_untouched;
        alone = alone;
      };
      numbers = λ win. ap (λ r. creations r s.agent.rank win) rows ∙ sound.numbers win;
    }
    by_done false left = record {
      formed = sound.formed;
      layout = sound.layout;
      rank = sound.rank;
      windows = sound.windows;
      begun = sound.begun;
      queue = record {
        each = pending_touched s.stage.layout (calls_at s.stage s.agent.rank) s.agent.pending s.touched at d.next
            here.one here.here (next_pending (left refl)) sound.queue.each;
        first = first;
        untouched = subst (AllByRecursion (λ count. count ≡ 0)) (sym (set_removed s.touched at d.next))
            others_untouched;
        alone = alone;
      };
      numbers = λ win. ap (λ r. creations r s.agent.rank win) rows ∙ sound.numbers win;
    }

-- where the log has the same entries
pub log_sound : (s : RankState) (log : List Item) (ended : Bool) (free : ℕ) (home : List ℕ) → IsSound s →
    flat_map (row_by s.stage.script s.agent.rank) log ≡ own_rows s.stage s.agent →
    IsSound (record {
      stage = s.stage;
      agent = record s.agent { log = log; ended = ended };
      touched = s.touched;
      opened = s.opened;
      free = free;
      home = home;
    })
log_sound s log ended free home sound rows = record {
  formed = sound.formed;
  layout = sound.layout;
  rank = sound.rank;
  windows = sound.windows;
  begun = sound.begun;
  queue = sound.queue;
  numbers = λ win. ap (λ r. creations r s.agent.rank win) rows ∙ sound.numbers win;
}

-- where nothing is delivered
pub undelivered_sound : (s : RankState) (q : Queue) (log : List Item) (free : ℕ) (home : List ℕ) → IsSound s →
    q ≡ queue_of s → log ≡ s.agent.log →
    IsSound (record {
      stage = s.stage;
      agent = record s.agent {
        log = log;
        known = record { windows = s.agent.known.windows; epochs = s.agent.known.epochs; requests = q.requests };
        pending = q.pending;
      };
      touched = q.touched;
      opened = s.opened;
      free = free;
      home = home;
    })
undelivered_sound s q log free home sound e l =
    subst (λ (x : Queue). IsSound (record {
      stage = s.stage;
      agent = record s.agent {
        log = log;
        known = record { windows = s.agent.known.windows; epochs = s.agent.known.epochs; requests = x.requests };
        pending = x.pending;
      };
      touched = x.touched;
      opened = s.opened;
      free = free;
      home = home;
    })) (sym e) (log_sound s log s.agent.ended free home sound (ap (flat_map (row_by s.stage.script s.agent.rank)) l))
