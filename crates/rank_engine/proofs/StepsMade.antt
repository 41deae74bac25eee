-- A step on memory is a move of the rank, and a delivery after it.
use Rattle.std.proofs.Common.{◌≡◌, ℕ, zero, suc, ◌+◌, ◌<◌, ◌≤◌, Bool, true, not, List, length, Option, Some, None, refl}
use Rattle.std.proofs.Common.{sym, ◌∙◌, ap, subst, arith}
use Rattle.std.specs.Prelude.{◌==◌, ◌≢◌}
use Rattle.std.specs.Option.{unwrap_or}
use Rattle.std.proofs.lemmas.Bool.{ne_eqb}
use Rattle.rma_record.specs.declared.items.Item.{Item}
use Rattle.call_rules.specs.declared.cells.Cell.{Cell}
use Rattle.cell_face.specs.Faces.{Face, cell_count}
use Rattle.call_rules.specs.Layout.{cells_of}
use Rattle.rank_engine.proofs.MoveKinds.{kind_few, move_ahead, own_kind}
use Rattle.rank_engine.proofs.Shares.{delivered_ahead}
use Rattle.rank_engine.specs.DataAnswers.{Drains, HasRoom, IsDelivered, StepsOnMemory}
use Rattle.rank_engine.specs.Moves.{IsMove}
use Rattle.rank_engine.specs.RankStates.{RankState, delivery_of, moved, own_move}
use Rattle.rank_engine.specs.Shares.{updates_ahead}
use Rattle.rank_engine.specs.Sound.{IsSound}

move_few : (before after : RankState) → IsMove before after (own_move before) →
    length after.agent.log ≤ length before.agent.log + 1
move_few before after move =
    subst (λ (l : List Item). length l ≤ length before.agent.log + 1)
    (sym (ap (λ (s : RankState). s.agent.log) move.rank))
    (kind_few before.stage before.agent (own_move before) (own_kind before))

move_share : (before after : RankState) → IsSound before →
    IsMove before after (own_move before) → updates_ahead after ≤ updates_ahead before
move_share before after sound move =
    subst (λ n. n ≤ updates_ahead before) (sym (ap updates_ahead move.rank))
    (move_ahead before (own_move before) sound (own_kind before))

-- the place that a move opens is that of the access that it delivers
opens_place : (before after : RankState) (place : Option ℕ) → IsMove before after (own_move before) →
    after.opened ≡ place → place ≡ delivery_of (own_move before)
opens_place before after place move opens = sym opens ∙ ap (λ (s : RankState). s.opened) move.rank

-- where nothing is delivered
pub steps_alone : (before after : RankState) (face : Face) (knows : ℕ → Cell → Type 0) → IsSound before →
    IsMove before after (own_move before) → after.opened ≡ None → StepsOnMemory before after true face face knows
steps_alone before after face knows sound move opens = record {
  delivered = subst (λ o. IsDelivered o (moved before) after true face face knows)
      (opens_place before after None move opens) (move.rank, refl, refl);
  few = let few = move_few before after move in omega arith;
  free = move.below;
  share = let share = move_share before after sound move in omega arith;
}

-- where an access is delivered after the move
pub steps_delivered : (before between after : RankState) (at : ℕ) (done : Bool) (face face_after : Face)
    (knows : ℕ → Cell → Type 0) → IsSound before → IsSound between →
    IsMove before between (own_move before) → between.opened ≡ Some at →
    IsDelivered (Some at) between after done face face_after knows →
    length after.agent.log ≤ length between.agent.log + 256 → after.free ≤ between.free →
    StepsOnMemory before after done face face_after knows
steps_delivered before between after at done face face_after knows sound sound_between move opens delivered few
    free =
    record {
      delivered = subst (λ o. IsDelivered o (moved before) after done face face_after knows)
          (opens_place before between (Some at) move opens)
          (subst (λ (s : RankState). IsDelivered (Some at) s after done face face_after knows) move.rank delivered);
      few = let more = move_few before between move in omega arith;
      free = let less = move.below in omega arith;
      share = let less = move_share before between sound move in
          let ahead = delivered_ahead between after at done face face_after knows sound_between delivered.0
          delivered.1 in
          omega arith;
    }

-- the memory has room after the move
pub room_after : (before between : RankState) (face : Face) → IsSound before →
    IsMove before between (own_move before) → HasRoom before face → HasRoom between face
room_after before between face sound move room = record {
  cells = subst (λ (s : RankState). cells_of s.stage.layout ≤ cell_count face) (sym move.rank) room.cells;
  share = let less = move_share before between sound move in let enough = room.share in omega arith;
}

-- the first pending access is delivered
pub drains_one : (before after : RankState) (done : Bool) (face face_after : Face) (knows : ℕ → Cell → Type 0) →
    IsSound before → IsDelivered (Some (unwrap_or before.opened 0)) before after done face face_after knows →
    length after.agent.log ≤ length before.agent.log + 256 → after.free ≤ before.free →
    Drains before after done face face_after knows
drains_one before after done face face_after knows sound delivered few free = record {
  delivered = delivered;
  few = omega arith;
  free = free;
  share = delivered_ahead before after (unwrap_or before.opened 0) done face face_after knows sound delivered.0 delivered.1;
}

pub some_pending : (n : ℕ) → n ≢ 0 → not (n == 0) ≡ true
some_pending n h = ap not (ne_eqb n 0 h)

pub positive : (n : ℕ) → n ≢ 0 → 0 < n
positive zero h = absurd (h refl)
positive (suc n) h = omega arith
