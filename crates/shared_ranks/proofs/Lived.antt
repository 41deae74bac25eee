-- A rank that has stopped delivers what is pending, and then has its whole history.
use Rattle.std.proofs.Common.{◌≡◌, ℕ, zero, suc, ◌<◌, Bool, true, false, not, List, [], length, Option, None, Some}
use Rattle.std.proofs.Common.{refl, sym, ◌∙◌, ap, subst, arith}
use Rattle.std.specs.Prelude.{◌==◌, slice_get}
use Rattle.std.specs.Option.{unwrap_or}
use Rattle.board_turns.specs.Places.{Place}
use Rattle.call_rules.specs.declared.cells.Cell.{Cell}
use Rattle.cell_face.specs.Faces.{Face, Keeps}
use Rattle.kept_rows.specs.Gifts.{Given}
use Rattle.lawful_runs.specs.Stages.{calls_at}
use Rattle.rank_engine.specs.DataAnswers.{Drains, HasRoom, IsDelivered, IsDrainAnswer}
use Rattle.rank_engine.specs.RankStates.{RankState}
use Rattle.rank_engine.specs.Sound.{IsSound}
use Rattle.rank_engine.specs.declared.answers.Turned.{Turned}
use Rattle.rank_engine.specs.declared.answers.Turned.TheVariants.{Did, NotYet, Again, Full, Ended as HasEnded}
use Rattle.rank_histories.proofs.Going.{drains_begin, drains_go_on, drains_stay}
use Rattle.rank_histories.proofs.Recording.{recorded_delivery}
use Rattle.rank_histories.proofs.Stopping.{lived_among, none_pending as pending_none}
use Rattle.rank_histories.specs.Among.{HasLivedAmong}
use Rattle.rank_histories.specs.Partly.{DeliversOn, IsAmong, IsBetween, IsDrained, IsDraining, lows_of, opened_after}
use Rattle.rank_histories.specs.Recorded.{IsRecorded}
use Rattle.rank_laws.specs.Fronts.{Lows}
use Rattle.rank_rules.specs.declared.pending.PendingAccess.{PendingAccess}
use Rattle.shared_ranks.proofs.Stepped.{as_many, delivered_on, recorded_still}
use Rattle.shared_ranks.specs.Drains.{DeliversSince, KeepsDelivering}
use Rattle.shared_ranks.specs.declared.standings.Standing.{Standing}
use Rattle.shared_ranks.specs.declared.standings.Standing.TheVariants.{Going, Waits, Ended, OutOfMemory}
use Rattle.shared_ranks.specs.Ranks.{HasLivedWhole, IsGoing, IsSameMemory, IsSomeRank, IsStanding}
use Rattle.shared_ranks.specs.Ranks.{IsStopped, RankNow, RunRank}
use Rattle.shared_ranks.specs.Standings.{has_stopped}
use Rattle.step_runs.specs.Agents.{Agent, has_pending}

-- ---- the beginning

between_when : (run : RunRank) (state : RankState) (known : List Given) (face : Face) (knows : ℕ → Cell → Type 0) →
    IsGoing run state known face knows → state.opened ≡ None →
    IsBetween state.stage run.seed run.number known state.agent state.touched face
between_when run state known face knows going closed =
    subst (λ o. IsAmong o state.stage run.seed run.number known state.agent state.touched face knows) closed going.among

delivers_none : (run : RunRank) (state : RankState) (known : List Given) (face : Face) (knows : ℕ → Cell → Type 0) →
    IsGoing run state known face knows → state.opened ≡ None → DeliversSince run state face state face knows
delivers_none run state known face knows going closed = record {
  stage = refl;
  cells = going.cells;
  drained = subst (λ o. IsDrained o state.stage state.agent (lows_of state.stage face) state.agent state.touched face
      knows) (sym closed)
      (drains_stay state.stage run.seed run.number known state.agent state.touched face
      (between_when run state known face knows going closed));
  recorded = going.recorded;
}

-- ---- a delivery

some_pending : (n : ℕ) → not (n == 0) ≡ true → 0 < n
some_pending zero e = absurd (cc e)
some_pending (suc n) e = omega arith

delivers_one : (run : RunRank) (stopped : RankState) (since : Face) (before after : RankState) (done : Bool)
    (face face_after : Face) (knew knows : ℕ → Cell → Type 0) → IsSound before → has_pending before.agent ≡ true →
    Drains before after done face face_after knows → Keeps knew knows →
    DeliversSince run stopped since before face knew → DeliversSince run stopped since after face_after knows
delivers_one run stopped since before after done face face_after knew knows sound some drains keeps was =
    by before.opened refl
  where
    lows : Lows
    lows = lows_of stopped.stage since

    -- the first pending access was delivered, or a part of it
    goes : IsDelivered (Some 0) before after done face face_after knows →
        (DeliversOn stopped.stage before.agent before.touched face 0 done after.agent after.touched face_after knows →
        IsDrained (opened_after done 0) stopped.stage stopped.agent lows after.agent after.touched face_after knows) →
        DeliversSince run stopped since after face_after knows
    goes is drained =
        let d = delivered_on before after 0 done face face_after knows is in
        let on : DeliversOn stopped.stage before.agent before.touched face 0 done after.agent after.touched face_after
        knows = subst (λ s. DeliversOn s before.agent before.touched face 0 done after.agent after.touched face_after
        knows) was.stage d.on in
        record {
          stage = d.stage ∙ was.stage;
          cells = on.delivers.touches.made.stays.cells ∙ was.cells;
          drained = subst (λ o. IsDrained o stopped.stage stopped.agent lows after.agent after.touched face_after knows)
              (sym d.opened) (drained on);
          recorded = recorded_delivery stopped.stage run.number before.agent before.touched face 0 done after.agent
              after.touched face_after knew knows was.recorded was.cells keeps on;
        }

    by : (o : Option ℕ) → before.opened ≡ o → DeliversSince run stopped since after face_after knows
    by None closed =
        let same = as_many before.stage.layout (calls_at before.stage before.agent.rank) before.agent.pending
        before.touched sound.queue.each in
        let one = some_pending (length before.agent.pending) some in
        let below : 0 < length before.touched = omega (arith, same, one) in
        let draining : IsDraining stopped.stage stopped.agent lows before.agent before.touched face =
        subst (λ o. IsDrained o stopped.stage stopped.agent lows before.agent before.touched face knew) closed
        was.drained in
        goes (subst (λ o. IsDelivered (Some (unwrap_or o 0)) before after done face face_after knows) closed
        drains.delivered)
        (λ on. drains_begin stopped.stage stopped.agent lows before.agent before.touched face knew after.agent
        after.touched face_after knows done draining below was.cells keeps on)
    by (Some at) opened =
        let within = subst (λ o. IsDrained o stopped.stage stopped.agent lows before.agent before.touched face knew)
        opened was.drained in
        let is = subst (λ o. IsDelivered (Some (unwrap_or o 0)) before after done face face_after knows) opened
        drains.delivered in
        goes (subst (λ n. IsDelivered (Some n) before after done face face_after knows) within.0 is)
        (λ on. drains_go_on stopped.stage stopped.agent lows before.agent before.touched face knew after.agent
        after.touched face_after knows done within.1 was.cells keeps on)

-- where nothing is pending, no delivery is begun
closed_when : (run : RunRank) (stopped : RankState) (since : Face) (now : RankState) (face : Face)
    (knows : ℕ → Cell → Type 0) → DeliversSince run stopped since now face knows → has_pending now.agent ≡ false →
    now.opened ≡ None
closed_when run stopped since now face knows was none = by now.opened refl
  where
    by : (o : Option ℕ) → now.opened ≡ o → now.opened ≡ None
    by None closed = closed
    by (Some at) opened =
        let within = subst (λ o. IsDrained o stopped.stage stopped.agent (lows_of stopped.stage since) now.agent
        now.touched face knows) opened was.drained in
        let partly = within.1.partly in
        let empty : now.agent.pending ≡ [] = pending_none now.agent none in
        let here : slice_get now.agent.pending 0 ≡ Some partly.one =
        ap (λ (a : Agent). slice_get a.pending 0) partly.rank ∙ partly.here in
        let gone : None ≡ Some partly.one = sym (ap (λ (l : List PendingAccess). slice_get l 0) empty) ∙ here in
        absurd (cc gone)

delivers_still : (run : RunRank) (stopped : RankState) (since : Face) (now : RankState) (face : Face)
    (knew knows : ℕ → Cell → Type 0) → has_pending now.agent ≡ false → Keeps knew knows →
    DeliversSince run stopped since now face knew → DeliversSince run stopped since now face knows
delivers_still run stopped since now face knew knows none keeps was =
    let closed = closed_when run stopped since now face knew was none in
    let draining : IsDraining stopped.stage stopped.agent (lows_of stopped.stage since) now.agent now.touched face =
    subst (λ o. IsDrained o stopped.stage stopped.agent (lows_of stopped.stage since) now.agent now.touched face knew)
    closed was.drained in
    record {
      stage = was.stage;
      cells = was.cells;
      drained = subst (λ o. IsDrained o stopped.stage stopped.agent (lows_of stopped.stage since) now.agent now.touched
          face knows) (sym closed) draining;
      recorded = recorded_still stopped.stage run.number now.agent face knew knows keeps was.recorded;
    }

pub drain_answered : (turned : Turned) (run : RunRank) (stopped : RankState) (since : Face) (before after : RankState)
    (face face_after : Face) (knew knows : ℕ → Cell → Type 0) → IsSound before →
    IsDrainAnswer turned before after face face_after knows → Keeps knew knows →
    DeliversSince run stopped since before face knew → DeliversSince run stopped since after face_after knows
drain_answered Did run stopped since before after face face_after knew knows sound h keeps was =
    delivers_one run stopped since before after true face face_after knew knows sound h.0 h.1 keeps was
drain_answered NotYet run stopped since before after face face_after knew knows sound h keeps was = absurd h
drain_answered Again run stopped since before after face face_after knew knows sound h keeps was =
    delivers_one run stopped since before after false face face_after knew knows sound h.0 h.1 keeps was
drain_answered Full run stopped since before after face face_after knew knows sound h keeps was = absurd h
drain_answered HasEnded run stopped since before after face face_after knew knows sound h keeps was =
    subst (λ f. DeliversSince run stopped since after f knows) (sym h.2)
    (subst (λ s. DeliversSince run stopped since s face knows) (sym h.1)
    (delivers_still run stopped since before face knew knows h.0 keeps was))

-- ---- the end

stopped_parts : (s : Standing) (run : RunRank) (state : RankState) (known : List Given) (face : Face)
    (knows : ℕ → Cell → Type 0) → has_stopped s ≡ true → IsStanding s run state known face knows →
    IsGoing run state known face knows × IsStopped state known
stopped_parts Going run state known face knows e h = absurd (cc e)
stopped_parts Waits run state known face knows e h = h
stopped_parts Ended run state known face knows e h = (h.0, h.1)
stopped_parts OutOfMemory run state known face knows e h = absurd (cc e)

-- what a rank keeps while it delivers what is pending
pub record DrainsOn {X : Type 0} (face_of : X → Face) (knows_of : X → ℕ → Cell → Type 0) (before now : RankNow X)
    : Type 0 where
  pub delivers : KeepsDelivering face_of knows_of before now
  pub room : HasRoom now.state (face_of now.memory)
  pub over : now.state.agent.ended ≡ before.state.agent.ended
  pub seat : now.seat ≡ before.seat
  pub memory : IsSameMemory (face_of before.memory) (face_of now.memory)

pub drains_first : {X : Type 0} (face_of : X → Face) (knows_of : X → ℕ → Cell → Type 0) (now : RankNow X) →
    IsSomeRank face_of knows_of now → has_stopped now.standing ≡ true → DrainsOn face_of knows_of now now
drains_first face_of knows_of now some stopped = record {
  delivers = λ run stopped since was. was;
  room = (stopped_parts now.standing some.0 now.state now.seat.known (face_of now.memory) (knows_of now.memory) stopped
      some.1.stands).0.room;
  over = refl;
  seat = refl;
  memory = record { name = refl; grant = refl };
}

pub drains_more : {X : Type 0} (face_of : X → Face) (knows_of : X → ℕ → Cell → Type 0) (before middle now : RankNow X) →
    DrainsOn face_of knows_of before middle → KeepsDelivering face_of knows_of middle now →
    HasRoom now.state (face_of now.memory) → now.state.agent.ended ≡ middle.state.agent.ended →
    now.seat ≡ middle.seat → IsSameMemory (face_of middle.memory) (face_of now.memory) →
    DrainsOn face_of knows_of before now
drains_more face_of knows_of before middle now first delivers room over seat memory = record {
  delivers = λ run stopped since was. delivers run stopped since (first.delivers run stopped since was);
  room = room;
  over = over ∙ first.over;
  seat = seat ∙ first.seat;
  memory = record {
    name = memory.name ∙ first.memory.name;
    grant = memory.grant ∙ first.memory.grant;
  };
}

pub lived_whole : {X : Type 0} (face_of : X → Face) (knows_of : X → ℕ → Cell → Type 0) (before now : RankNow X) →
    has_stopped before.standing ≡ true → DrainsOn face_of knows_of before now → has_pending now.state.agent ≡ false →
    HasLivedWhole face_of knows_of before now
lived_whole {X} face_of knows_of before now stopped drains none run rank =
    let face = face_of before.memory in
    let knew = knows_of before.memory in
    let face_now = face_of now.memory in
    let knows = knows_of now.memory in
    let known = before.seat.known in
    let parts = stopped_parts before.standing run before.state known face knew stopped rank.stands in
    let going = parts.0 in
    let between = between_when run before.state known face knew going parts.1.closed in
    let since : DeliversSince run before.state face now.state face_now knows =
    drains.delivers run before.state face (delivers_none run before.state known face knew going parts.1.closed) in
    let stage = before.state.stage in
    let draining : IsDraining stage before.state.agent (lows_of stage face) now.state.agent now.state.touched face_now =
    subst (λ o. IsDrained o stage before.state.agent (lows_of stage face) now.state.agent now.state.touched face_now
    knows) (closed_when run before.state face now.state face_now knows since none) since.drained in
    let history : HasLivedAmong stage run.seed run.number known now.state.agent =
    lived_among stage run.seed run.number known before.state.agent now.state.agent before.state.touched
    now.state.touched face face_now between parts.1.stops draining (pending_none now.state.agent none) in
    record {
      history = subst (λ s. HasLivedAmong s run.seed run.number now.seat.known now.state.agent) going.stage
          (subst (λ (p : Place). HasLivedAmong stage run.seed run.number p.known now.state.agent) (sym drains.seat)
          history);
      recorded = subst (λ s. IsRecorded s run.number now.state.agent face_now knows) going.stage since.recorded;
    }
