-- A step over a memory that tells its cells is the definition's.
use Rattle.std.proofs.Common.{◌≡◌, ℕ, ◌<◌, Bool, true, false, cond, List, [], ◌∷◌, length, drop}
use Rattle.std.proofs.Common.{Option, Some, None, refl, sym, ◌∙◌, ap, subst}
use Rattle.std.specs.Prelude.{IfSome, map, nat_lt}
use Rattle.std.specs.List.{AllByRecursion}
use Rattle.std.specs.Option.{option_and_then, option_map_or, unwrap_or}
use Rattle.std.proofs.lemmas.Bool.{ltb-false}
use Rattle.list_laws.proofs.Each.{each_append}
use Rattle.list_laws.proofs.Lists.{past_end}
use Rattle.call_rules.specs.declared.cells.Cell.{Cell}
use Rattle.cell_face.specs.Faces.{Face}
use Rattle.delivery_queue.specs.Queues.{DeliversWhole}
use Rattle.lawful_runs.specs.Stages.{Stage, calls_at}
use Rattle.rank_rules.specs.declared.pending.PendingAccess.{PendingAccess}
use Rattle.step_runs.specs.DataSteps.{Move, OnMemory, data_step, deliver, deliver_if, just_delivers}
use Rattle.step_runs.specs.DataSteps.{move_of, with_delivery}
use Rattle.rank_engine.proofs.Wholes.{delivered_whole}
use Rattle.rank_engine.specs.DataAnswers.{IsDelivered, IsWhole, IsWholeDrain, IsWholeStep}
use Rattle.rank_engine.specs.Moves.{IsFirst, IsMove}
use Rattle.rank_engine.specs.RankStates.{RankState, IsBetween, delivery_of, own_move, queue_of}
use Rattle.rank_engine.specs.Sound.{IsSound}

-- no delivery is begun
not_begun : (s : RankState) → IsBetween s → own_move s ≡ move_of s.stage s.agent
not_begun s between =
    ap (λ o. option_map_or (just_delivers s.agent) o (move_of s.stage s.agent)) between.closed

-- ---- the definition's step

deliver_none : (stage : Stage) (cells : List Cell) (move : Move) → delivery_of move ≡ None →
    deliver_if stage cells move ≡ record { agent = move.agent; cells = cells }
deliver_none stage cells move e = by_place move.delivers e
  where
    nothing : OnMemory
    nothing = record { agent = move.agent; cells = cells }

    by_test : (at : ℕ) (b : Bool) → nat_lt at (length move.agent.pending) ≡ b → cond b (Some at) None ≡ None →
        deliver stage move.agent cells at ≡ nothing
    by_test at true is h = absurd (cc h)
    by_test at false is h = ap (λ o. option_map_or (with_delivery stage move.agent cells at) o nothing)
        (past_end move.agent.pending at (ltb-false at (length move.agent.pending) is))

    by_place : (o : Option ℕ) →
        option_and_then (λ at. cond (nat_lt at (length move.agent.pending)) (Some at) None) o ≡ None →
        option_map_or (deliver stage move.agent cells) o nothing ≡ nothing
    by_place None h = refl
    by_place (Some at) h = by_test at (nat_lt at (length move.agent.pending)) refl h

delivers_some : (move : Move) (at : ℕ) → delivery_of move ≡ Some at → move.delivers ≡ Some at
delivers_some move at e = by_place move.delivers e
  where
    by_test : (n : ℕ) (b : Bool) → cond b (Some n) None ≡ Some at → n ≡ at
    by_test n true h = cc h
    by_test n false h = absurd (cc h)

    by_place : (o : Option ℕ) →
        option_and_then (λ n. cond (nat_lt n (length move.agent.pending)) (Some n) None) o ≡ Some at → o ≡ Some at
    by_place None h = absurd (cc h)
    by_place (Some n) h = ap Some (by_test n (nat_lt n (length move.agent.pending)) h)

-- ---- what is between

all_zero : (pending : List PendingAccess) → AllByRecursion (λ (count : ℕ). count ≡ 0)
    (map (λ (_ : PendingAccess). 0) pending)
all_zero [] = tt
all_zero (one ∷ pending) = (refl, all_zero pending)

still_untouched : (before after : RankState) → IsBetween before → IsMove before after (own_move before) →
    AllByRecursion (λ (count : ℕ). count ≡ 0) after.touched
still_untouched before after between move =
    let new : List PendingAccess = drop (length before.agent.pending) (own_move before).agent.pending in
    subst (AllByRecursion (λ (count : ℕ). count ≡ 0)) (sym (ap (λ (s : RankState). s.touched) move.rank))
    (each_append (λ (count : ℕ). count ≡ 0) before.touched (map (λ (_ : PendingAccess). 0) new) between.untouched
    (all_zero new))

-- the place that a move opens is that of the access that it delivers
opens_place : (before after : RankState) (place : Option ℕ) → IsMove before after (own_move before) →
    after.opened ≡ place → delivery_of (own_move before) ≡ place
opens_place before after place move opens = sym (ap (λ (s : RankState). s.opened) move.rank) ∙ opens

-- ---- the step

pub whole_alone : (before after : RankState) (cells : List Cell) → IsBetween before →
    IsMove before after (own_move before) → after.opened ≡ None →
    IsWhole (data_step before.stage before.agent cells) after (Some cells)
whole_alone before after cells between move opens =
    let own = not_begun before between in
    let is : data_step before.stage before.agent cells ≡ record { agent = (own_move before).agent; cells = cells } =
    ap (deliver_if before.stage cells) (sym own)
    ∙ deliver_none before.stage cells (own_move before) (opens_place before after None move opens) in
    subst (λ (m : OnMemory). IsWhole m after (Some cells)) (sym is) (record {
      rank = ap (λ (s : RankState). s.agent) move.rank;
      cells = refl;
      between = record { closed = opens; untouched = still_untouched before after between move };
    })

pub whole_delivered : (before mid after : RankState) (at : ℕ) (cells : List Cell) (told : Option (List Cell))
    (face face_after : Face) (knows : ℕ → Cell → Type 0) → IsSound mid → IsBetween before →
    IsMove before mid (own_move before) → mid.opened ≡ Some at →
    IsDelivered (Some at) mid after true face face_after knows →
    DeliversWhole (queue_of mid) at mid.stage.layout (calls_at mid.stage mid.agent.rank) cells told mid.agent.log
    after.agent.log →
    IsWhole (data_step before.stage before.agent cells) after told
whole_delivered before mid after at cells told face face_after knows sound between move opens delivered whole =
    let own = not_begun before between in
    let delivers : (own_move before).delivers ≡ Some at =
    delivers_some (own_move before) at (opens_place before mid (Some at) move opens) in
    let is : data_step before.stage before.agent cells ≡ deliver before.stage (own_move before).agent cells at =
    ap (deliver_if before.stage cells) (sym own)
    ∙ ap (λ o. option_map_or (deliver before.stage (own_move before).agent cells) o
    (record { agent = (own_move before).agent; cells = cells })) delivers in
    let same : deliver mid.stage mid.agent cells at ≡ deliver before.stage (own_move before).agent cells at =
    ap (λ (s : RankState). deliver s.stage s.agent cells at) move.rank in
    let first : IsFirst mid.agent.pending at =
    subst (λ o. IfSome o (IsFirst mid.agent.pending)) opens sound.queue.first in
    subst (λ (m : OnMemory). IsWhole m after told) (same ∙ sym is)
    (delivered_whole mid after at cells told face face_after knows sound first.0
    (still_untouched before mid between move) delivered.0 delivered.1 whole)

-- ---- where the memory tells its cells

pub whole_step_alone : (before after : RankState) (face : Face) → IsMove before after (own_move before) →
    after.opened ≡ None → IsWholeStep before after face face
whole_step_alone before after face move opens = by_told face.told refl
  where
    by_told : (o : Option (List Cell)) → face.told ≡ o → IfSome o (λ cells. IsBetween before →
        IsWhole (data_step before.stage before.agent cells) after face.told)
    by_told None e = tt
    by_told (Some cells) e = λ between. subst (IsWhole (data_step before.stage before.agent cells) after) (sym e)
        (whole_alone before after cells between move opens)

pub whole_step_delivered : (before mid after : RankState) (at : ℕ) (face face_after : Face)
    (knows : ℕ → Cell → Type 0) → IsSound mid → IsMove before mid (own_move before) → mid.opened ≡ Some at →
    IsDelivered (Some at) mid after true face face_after knows →
    IfSome face.told (λ cells. DeliversWhole (queue_of mid) at mid.stage.layout (calls_at mid.stage mid.agent.rank)
    cells face_after.told mid.agent.log after.agent.log) →
    IsWholeStep before after face face_after
whole_step_delivered before mid after at face face_after knows sound move opens delivered whole =
    by_told face.told whole
  where
    by_told : (o : Option (List Cell)) → IfSome o (λ cells. DeliversWhole (queue_of mid) at mid.stage.layout
        (calls_at mid.stage mid.agent.rank) cells face_after.told mid.agent.log after.agent.log) →
        IfSome o (λ cells. IsBetween before → IsWhole (data_step before.stage before.agent cells) after face_after.told)
    by_told None h = tt
    by_told (Some cells) h = λ between. whole_delivered before mid after at cells face_after.told face face_after knows
        sound between move opens delivered h

pub whole_drain : (before after : RankState) (face face_after : Face) (knows : ℕ → Cell → Type 0) → IsSound before →
    0 < length before.agent.pending →
    IsDelivered (Some (unwrap_or before.opened 0)) before after true face face_after knows →
    IfSome face.told (λ cells. DeliversWhole (queue_of before) (unwrap_or before.opened 0) before.stage.layout
    (calls_at before.stage before.agent.rank) cells face_after.told before.agent.log after.agent.log) →
    IsWholeDrain before after face face_after
whole_drain before after face face_after knows sound some delivered whole = by_told face.told whole
  where
    at_first : (cells : List Cell) → before.opened ≡ None →
        DeliversWhole (queue_of before) (unwrap_or before.opened 0) before.stage.layout
        (calls_at before.stage before.agent.rank) cells face_after.told before.agent.log after.agent.log →
        DeliversWhole (queue_of before) 0 before.stage.layout
        (calls_at before.stage before.agent.rank) cells face_after.told before.agent.log after.agent.log
    at_first cells closed h = subst (λ o. DeliversWhole (queue_of before) (unwrap_or o 0) before.stage.layout
        (calls_at before.stage before.agent.rank) cells face_after.told before.agent.log after.agent.log) closed h

    by_told : (o : Option (List Cell)) → IfSome o (λ cells. DeliversWhole (queue_of before) (unwrap_or before.opened 0)
        before.stage.layout
        (calls_at before.stage before.agent.rank) cells face_after.told before.agent.log after.agent.log) →
        IfSome o (λ cells. IsBetween before →
        IsWhole (deliver before.stage before.agent cells 0) after face_after.told)
    by_told None h = tt
    by_told (Some cells) h = λ between.
        let first = subst (λ o. IsDelivered (Some (unwrap_or o 0)) before after true face face_after knows)
        between.closed delivered in
        delivered_whole before after 0 cells face_after.told face face_after knows sound
        some between.untouched first.0 first.1 (at_first cells between.closed h)
