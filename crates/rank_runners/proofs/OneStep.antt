-- A step of one rank over a memory that tells its cells is the definition's.
use Rattle.std.proofs.Common.{◌≡◌, ℕ, Bool, true, false, Option, Some, None, refl, ap, subst, arith}
use Rattle.std.specs.Option.{unwrap_or}
use Rattle.call_rules.specs.declared.cells.Cell.{Cell}
use Rattle.cell_face.specs.Faces.{Face}
use Rattle.cell_face.specs.PlainCells.{PlainCells, plain_face}
use Rattle.rank_engine.specs.DataAnswers.{IsDataAnswer, IsDelivered, IsWholeStep, IsDrainAnswer, IsWholeDrain, Drains}
use Rattle.rank_engine.specs.DataAnswers.{StepsOnMemory, is_full}
use Rattle.rank_engine.specs.RankStates.{RankState, IsBetween, delivery_of, moved, own_move}
use Rattle.rank_engine.specs.declared.answers.Turned.{Turned}
use Rattle.rank_engine.specs.declared.answers.Turned.TheVariants.{Did, NotYet, Again, Full, Ended}
use Rattle.rank_runners.specs.Steps.{IsStep, IsDelivery}
use Rattle.step_runs.specs.Agents.{has_pending}

pub delivery_stays : (o : Option ℕ) (before after : RankState) (done : Bool) (face face_after : Face) (knows : ℕ
    → Cell → Type 0)
    → IsDelivered o before after done face face_after knows → after.stage ≡ before.stage
delivery_stays None before after done face face_after knows h = ap (λ (state : RankState). state.stage) h.0
delivery_stays (Some at) before after done face face_after knows h = ap (λ (state : RankState). state.stage) h.0

made_of : (before after : RankState) (done : Bool) (memory memory_after : PlainCells) (knows : ℕ → Cell → Type 0)
    → IsBetween before → StepsOnMemory before after done (plain_face memory) (plain_face memory_after) knows
    → IsWholeStep before after (plain_face memory) (plain_face memory_after) → IsStep before after memory memory_after
made_of before after done memory memory_after knows between steps whole =
    let w = whole between in
    record {
      stage = delivery_stays (delivery_of (own_move before)) (moved before) after done (plain_face memory)
          (plain_face memory_after) knows steps.delivered;
      agent = w.rank;
      cells = let told = w.cells in cc;
      between = w.between;
      share = steps.share;
    }

pub step_made : (turned : Turned) (before after : RankState) (memory memory_after : PlainCells) (knows : ℕ → Cell
    → Type 0)
    → before.free ≡ 4294967295 → IsBetween before
    → IsDataAnswer turned before after (plain_face memory) (plain_face memory_after) knows
    → (is_full turned ≡ false → IsWholeStep before after (plain_face memory) (plain_face memory_after))
    → IsStep before after memory memory_after
step_made Did before after memory memory_after knows free between h whole = made_of before after true memory
    memory_after knows between h.2 (whole refl)
step_made NotYet before after memory memory_after knows free between h whole = absurd h
step_made Again before after memory memory_after knows free between h whole = made_of before after false memory
    memory_after knows between h.2 (whole refl)
step_made Full before after memory memory_after knows free between h whole = let low = h.0 in absurd (omega arith)
step_made Ended before after memory memory_after knows free between h whole = made_of before after true memory
    memory_after knows between h.2 (whole refl)

-- ---- deliveries

delivered_of : (before after : RankState) (done : Bool) (memory memory_after : PlainCells) (knows : ℕ → Cell → Type 0)
    → IsBetween before → has_pending before.agent ≡ true
    → Drains before after done (plain_face memory) (plain_face memory_after) knows
    → IsWholeDrain before after (plain_face memory) (plain_face memory_after)
    → IsDelivery true before after memory memory_after
delivered_of before after done memory memory_after knows between some steps whole =
    let w = whole between in (
      some,
      record {
        stage = delivery_stays (Some (unwrap_or before.opened 0)) before after done (plain_face memory)
            (plain_face memory_after) knows steps.delivered;
        agent = w.rank;
        cells = let told = w.cells in cc;
        between = w.between;
        share = steps.share;
      },
    )

pub delivery_made : (turned : Turned) (before after : RankState) (memory memory_after : PlainCells) (knows : ℕ
    → Cell → Type 0)
    → (turned ≡ Ended → ⊥) → IsBetween before
    → IsDrainAnswer turned before after (plain_face memory) (plain_face memory_after) knows
    → IsWholeDrain before after (plain_face memory) (plain_face memory_after)
    → IsDelivery true before after memory memory_after
delivery_made Did before after memory memory_after knows n between h whole = delivered_of before after true memory
    memory_after knows between h.0 h.1 whole
delivery_made NotYet before after memory memory_after knows n between h whole = absurd h
delivery_made Again before after memory memory_after knows n between h whole = delivered_of before after false memory
    memory_after knows between h.0 h.1 whole
delivery_made Full before after memory memory_after knows n between h whole = absurd h
delivery_made Ended before after memory memory_after knows n between h whole = absurd (n refl)

pub none_delivered : (turned : Turned) (before after : RankState) (memory memory_after : PlainCells) (knows : ℕ
    → Cell → Type 0) → turned ≡ Ended
    → IsDrainAnswer turned before after (plain_face memory) (plain_face memory_after) knows
    → IsDelivery false before after memory memory_after
none_delivered turned before after memory memory_after knows e answer =
    let h = subst (λ one. IsDrainAnswer one before after (plain_face memory)
    (plain_face memory_after) knows) e answer in
    let told : Some memory_after.cells ≡ Some memory.cells = ap (λ (face : Face). face.told) h.2 in
    let cells : memory_after.cells ≡ memory.cells = cc in
    (h.0, h.1, cells, ap (λ (face : Face). face.share) h.2)
