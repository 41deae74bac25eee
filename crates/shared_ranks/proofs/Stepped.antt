-- A step of a rank without the board: what it does by itself, and a delivery, which is done, or left where an attempt
-- came too late.
use Rattle.std.proofs.Common.{◌≡◌, ℕ, suc, ◌+◌, ◌≤◌, Bool, true, false, cond, not, List, [], ◌∷◌, ◌++◌, length, drop}
use Rattle.std.proofs.Common.{map, inl, Option, None, Some, IfSome, refl, sym, ◌∙◌, ap, subst, arith}
use Rattle.std.specs.Prelude.{◌&&◌, ◌==◌, is_none}
use Rattle.std.specs.Option.{option_map_or}
use Rattle.std.proofs.lemmas.Bool.{eqb-true, lt-ltb}
use Rattle.list_laws.proofs.Truths.{both_right}
use Rattle.rma_types.specs.declared.calls.Call.{Call}
use Rattle.rma_types.specs.declared.scripts.Layout.{Layout}
use Rattle.call_rules.specs.declared.cells.Cell.{Cell}
use Rattle.call_rules.specs.Layout.{cells_of}
use Rattle.cell_face.specs.Faces.{Face, Keeps, Stays, cell_count}
use Rattle.kept_rows.specs.Gifts.{Given, rows_given}
use Rattle.lawful_runs.specs.Stages.{Stage, calls_at}
use Rattle.rank_engine.proofs.MovesMade.{names_one}
use Rattle.rank_engine.specs.DataAnswers as engine
use Rattle.rank_engine.specs.DataAnswers.{HasRoom, IsDataAnswer, IsDelivered, StepsOnMemory, is_over}
use Rattle.rank_engine.specs.Moves.{IsFirst}
use Rattle.rank_engine.specs.RankStates.{RankState, AreOwnRows, delivery_of, moved, moves_to, needs_entry}
use Rattle.rank_engine.specs.RankStates.{own_move}
use Rattle.rank_engine.specs.Shares.{updates_ahead}
use Rattle.rank_engine.specs.Sound.{ArePending, IsSound}
use Rattle.rank_engine.specs.declared.answers.Turned.{Turned}
use Rattle.rank_engine.specs.declared.answers.Turned.TheVariants.{Did, NotYet, Again, Full, Ended}
use Rattle.rank_histories.proofs.Going.{counted_more, delivery_none, delivery_some, steps_alone, steps_begin}
use Rattle.rank_histories.proofs.Going.{steps_go_on, untouched_more}
use Rattle.rank_histories.proofs.Recording.{found_still, recorded_delivery, recorded_move}
use Rattle.rank_histories.proofs.Stopping.{over_ends}
use Rattle.rank_histories.specs.Partly as histories
use Rattle.rank_histories.specs.Partly.{AreUntouched, DeliversOn, IsAmong, IsBetween, IsWithin}
use Rattle.rank_histories.specs.Recorded.{IsRecorded}
use Rattle.rank_rules.specs.declared.pending.PendingAccess.{PendingAccess}
use Rattle.shared_ranks.proofs.Owned.{own_delivers, own_moves}
use Rattle.shared_ranks.specs.Ranks.{IsGoing, IsSameMemory, IsStanding, RunRank, stage_in}
use Rattle.shared_ranks.specs.Standings.{standing_by}
use Rattle.step_histories.specs.LogTouches.{touches_at}
use Rattle.step_runs.specs.Agents.{Agent, has_pending, next_call, tries_entry}
use Rattle.step_runs.specs.DataSteps.{just_delivers, move_of}

-- ---- a delivery, as the engine says it

opened_same : (done : Bool) (at : ℕ) → engine.opened_after done at ≡ histories.opened_after done at
opened_same true at = refl
opened_same false at = refl

-- what the engine says of a delivery
pub record IsDeliveredOn (before after : RankState) (at : ℕ) (done : Bool) (face face_after : Face)
    (knows : ℕ → Cell → Type 0) : Type 0 where
  pub stage : after.stage ≡ before.stage
  pub opened : after.opened ≡ histories.opened_after done at
  pub on : DeliversOn before.stage before.agent before.touched face at done after.agent after.touched face_after knows

pub delivered_on : (before after : RankState) (at : ℕ) (done : Bool) (face face_after : Face)
    (knows : ℕ → Cell → Type 0) → IsDelivered (Some at) before after done face face_after knows →
    IsDeliveredOn before after at done face face_after knows
delivered_on before after at done face face_after knows is = record {
  stage = ap (λ (s : RankState). s.stage) is.0;
  opened = ap (λ (s : RankState). s.opened) is.0 ∙ opened_same done at;
  on = record { rank = ap (λ (s : RankState). s.agent) is.0; delivers = is.1 };
}

-- what a delivery leaves of the memory
pub delivery_stays : (before after : RankState) (at : ℕ) (done : Bool) (face face_after : Face)
    (knows : ℕ → Cell → Type 0) → IsDelivered (Some at) before after done face face_after knows → Stays face face_after
delivery_stays before after at done face face_after knows is = is.1.touches.made.stays

-- the room of a rank after a step that makes some of its updates
pub room_left : (before after : RankState) (face face_after : Face) → after.stage ≡ before.stage →
    cell_count face_after ≡ cell_count face →
    face.share + updates_ahead after ≤ face_after.share + updates_ahead before →
    HasRoom before face → HasRoom after face_after
room_left before after face face_after stage cells share room = record {
  cells = subst (λ (s : Stage). cells_of s.layout ≤ cell_count face_after) (sym stage)
      (let enough = room.cells in omega (arith, cells, enough));
  share = let enough = room.share in omega (arith, share, enough);
}

-- what is known stays known
pub recorded_still : (stage : Stage) (rank : ℕ) (agent : Agent) (face : Face) (knew knows : ℕ → Cell → Type 0) →
    Keeps knew knows → IsRecorded stage rank agent face knew → IsRecorded stage rank agent face knows
recorded_still stage rank agent face knew knows keeps recorded = record {
  mine = recorded.mine;
  issues = recorded.issues;
  updates = recorded.updates;
  found = found_still (cells_of stage.layout) knew knows keeps (touches_at stage rank agent) recorded.found;
}

-- ---- between two steps

-- the rank after what it does by itself, where nothing of its accesses is touched
pub as_many : (layout : Layout) (calls : List Call) (pending : List PendingAccess) (touched : List ℕ) →
    ArePending layout calls pending touched → length touched ≡ length pending
as_many layout calls [] [] h = refl
as_many layout calls [] (count ∷ touched) h = absurd h
as_many layout calls (one ∷ pending) [] h = absurd h
as_many layout calls (one ∷ pending) (count ∷ touched) h = ap suc (as_many layout calls pending touched h.1)

-- a step that delivers nothing
moves_alone : (run : RunRank) (before after : RankState) (known : List Given) (face face_after : Face)
    (knew knows : ℕ → Cell → Type 0) → before.opened ≡ None → tries_entry before.stage before.agent ≡ false →
    delivery_of (move_of before.stage before.agent) ≡ None →
    after ≡ record (moves_to before (move_of before.stage before.agent)) { free = after.free } → face_after ≡ face →
    face.share + updates_ahead after ≤ face_after.share + updates_ahead before → Keeps knew knows →
    IsGoing run before known face knew → IsGoing run after known face_after knows
moves_alone run before after known face face_after knew knows closed tries none is same share keeps going =
    let move = move_of before.stage before.agent in
    let touched : List ℕ =
    before.touched ++ map (λ (_ : PendingAccess). 0) (drop (length before.agent.pending) move.agent.pending) in
    let was : IsBetween before.stage run.seed run.number known before.agent before.touched face =
    subst (λ o. IsAmong o before.stage run.seed run.number known before.agent before.touched face knew) closed
    going.among in
    let between : IsBetween before.stage run.seed run.number known move.agent touched face =
    steps_alone before.stage run.seed run.number known before.agent before.touched touched face was tries
    (delivery_none move none) (untouched_more before.touched (drop (length before.agent.pending) move.agent.pending)
    was.untouched) in
    let stage : after.stage ≡ before.stage = ap (λ (s : RankState). s.stage) is in
    subst (λ f. IsGoing run after known f knows) (sym same)
    (subst (λ s. IsGoing run s known face knows) (sym is) (record {
      stage = going.stage;
      cells = going.cells;
      room = subst (λ (s : RankState). HasRoom s face) is (room_left before after face face stage refl
          (subst (λ (f : Face). face.share + updates_ahead after ≤ f.share + updates_ahead before) same share)
          going.room);
      own = own_moves before.stage before.agent (rows_given known) going.own;
      among = subst (λ o. IsAmong o before.stage run.seed run.number known move.agent touched face knows) (sym none)
          between;
      recorded = recorded_still before.stage run.number move.agent face knew knows keeps
          (recorded_move before.stage run.number before.agent face knew going.recorded);
    }))

-- a step that goes on with a delivery, or begins one after what the rank does by itself
going_delivered : (run : RunRank) (before after : RankState) (known : List Given) (at : ℕ) (done : Bool)
    (face face_after : Face) (knew knows : ℕ → Cell → Type 0) →
    IsDeliveredOn before after at done face face_after knows → Keeps knew knows → before.stage ≡ stage_in run →
    cell_count face ≡ cells_of before.stage.layout → HasRoom after face_after →
    AreOwnRows before.stage before.agent (rows_given known) →
    IsRecorded before.stage run.number before.agent face knew →
    IsAmong (histories.opened_after done at) before.stage run.seed run.number known after.agent after.touched face_after
    knows → IsGoing run after known face_after knows
going_delivered run before after known at done face face_after knew knows is keeps stage cells room own recorded
    among =
    record {
      stage = is.stage ∙ stage;
      cells = is.on.delivers.touches.made.stays.cells ∙ cells
          ∙ ap (λ (s : Stage). cells_of s.layout) (sym is.stage);
      room = room;
      own = subst (λ s. AreOwnRows s after.agent (rows_given known)) (sym is.stage)
          (own_delivers before.stage before.agent before.touched face at done after.agent after.touched face_after knows
          (rows_given known) is.on own);
      among = subst (λ s. IsAmong after.opened s run.seed run.number known after.agent after.touched face_after knows)
          (sym is.stage)
          (subst (λ o. IsAmong o before.stage run.seed run.number known after.agent after.touched face_after knows)
          (sym is.opened) among);
      recorded = subst (λ s. IsRecorded s run.number after.agent face_after knows) (sym is.stage)
          (recorded_delivery before.stage run.number before.agent before.touched face at done after.agent after.touched
          face_after knew knows recorded cells keeps is.on);
    }

moves_and_begins : (run : RunRank) (before after : RankState) (known : List Given) (at : ℕ) (done : Bool)
    (face face_after : Face) (knew knows : ℕ → Cell → Type 0) → IsSound before → before.opened ≡ None →
    tries_entry before.stage before.agent ≡ false →
    delivery_of (move_of before.stage before.agent) ≡ Some at →
    IsDeliveredOn (moves_to before (move_of before.stage before.agent)) after at done face face_after knows →
    HasRoom after face_after → Keeps knew knows → IsGoing run before known face knew →
    IsGoing run after known face_after knows
moves_and_begins run before after known at done face face_after knew knows sound closed tries begins is room keeps
    going =
    let move = move_of before.stage before.agent in
    let between = moves_to before move in
    let was : IsBetween before.stage run.seed run.number known before.agent before.touched face =
    subst (λ o. IsAmong o before.stage run.seed run.number known before.agent before.touched face knew) closed
    going.among in
    let some = delivery_some move at begins in
    let same = as_many before.stage.layout (calls_at before.stage before.agent.rank) before.agent.pending before.touched
    sound.queue.each in
    let untouched = untouched_more before.touched (drop (length before.agent.pending) move.agent.pending) was.untouched
    in
    let below = counted_more before.touched before.agent.pending move.agent.pending at same some.1 in
    going_delivered run between after known at done face face_after knew knows is keeps going.stage going.cells room
    (own_moves before.stage before.agent (rows_given known) going.own)
    (recorded_move before.stage run.number before.agent face knew going.recorded)
    (steps_begin before.stage run.seed run.number known before.agent before.touched between.touched face knew at
    after.agent after.touched face_after knows done was tries some.0 below untouched going.cells keeps is.on)

moves_on : (run : RunRank) (before after : RankState) (known : List Given) (at : ℕ) (done : Bool)
    (face face_after : Face) (knew knows : ℕ → Cell → Type 0) → before.opened ≡ Some at →
    IsDeliveredOn before after at done face face_after knows → HasRoom after face_after → Keeps knew knows →
    IsGoing run before known face knew → IsGoing run after known face_after knows
moves_on run before after known at done face face_after knew knows opened is room keeps going =
    let was : IsWithin before.stage run.seed run.number known before.agent before.touched at face knew =
    subst (λ o. IsAmong o before.stage run.seed run.number known before.agent before.touched face knew) opened
    going.among in
    going_delivered run before after known at done face face_after knew knows is keeps going.stage going.cells room
    going.own going.recorded
    (steps_go_on before.stage run.seed run.number known before.agent before.touched at face knew after.agent
    after.touched face_after knows done was going.cells keeps is.on)

-- ---- a step

pub none_pending : (n : ℕ) → not (not (n == 0)) ≡ true → n ≡ 0
none_pending n e = eqb-true n 0 (by (n == 0) e)
  where
    by : (b : Bool) → not (not b) ≡ true → b ≡ true
    by true h = refl
    by false h = absurd (cc h)

-- a rank within a delivery does nothing else
opens_again : (before : RankState) (at : ℕ) → before.opened ≡ Some at → IsFirst before.agent.pending at →
    moves_to before (just_delivers before.agent at) ≡ before
opens_again before at opened first =
    sym (names_one before at first).rank ∙ ap (λ o. record before { opened = o }) (sym opened)

-- what a rank within a delivery delivers
delivers_again : (before after : RankState) (at : ℕ) (done : Bool) (face face_after : Face)
    (knows : ℕ → Cell → Type 0) → before.opened ≡ Some at → IsFirst before.agent.pending at →
    StepsOnMemory before after done face face_after knows →
    IsDelivered (Some at) before after done face face_after knows
delivers_again before after at done face face_after knows opened first steps =
    let move = just_delivers before.agent at in
    let own : own_move before ≡ move =
    ap (λ o. option_map_or (just_delivers before.agent) o (move_of before.stage before.agent)) opened in
    let open_at : delivery_of move ≡ Some at =
    ap (λ b. cond b (Some at) None) (lt-ltb at (length before.agent.pending) first.0) in
    subst (λ s. IsDelivered (Some at) s after done face face_after knows) (opens_again before at opened first)
    (subst (λ o. IsDelivered o (moves_to before move) after done face face_after knows) open_at
    (subst (λ m. IsDelivered (delivery_of m) (moves_to before m) after done face face_after knows) own
    steps.delivered))

-- what a rank between two steps delivers
delivers_first : (before after : RankState) (done : Bool) (face face_after : Face) (knows : ℕ → Cell → Type 0) →
    before.opened ≡ None → StepsOnMemory before after done face face_after knows →
    IsDelivered (delivery_of (move_of before.stage before.agent))
    (moves_to before (move_of before.stage before.agent)) after done face face_after knows
delivers_first before after done face face_after knows closed steps =
    subst (λ m. IsDelivered (delivery_of m) (moves_to before m) after done face face_after knows)
    (ap (λ o. option_map_or (just_delivers before.agent) o (move_of before.stage before.agent)) closed)
    steps.delivered

pub stepped : (run : RunRank) (before after : RankState) (known : List Given) (done : Bool) (face face_after : Face)
    (knew knows : ℕ → Cell → Type 0) → IsSound before → needs_entry before ≡ false →
    StepsOnMemory before after done face face_after knows → Keeps knew knows → IsGoing run before known face knew →
    IsGoing run after known face_after knows
stepped run before after known done face face_after knew knows sound needs steps keeps going = by before.opened refl
  where
    room : (between : RankState) (at : ℕ) → between.stage ≡ before.stage →
        IsDelivered (Some at) between after done face face_after knows → HasRoom after face_after
    room between at same is =
        room_left before after face face_after
        ((delivered_on between after at done face face_after knows is).stage ∙ same)
        (delivery_stays between after at done face face_after knows is).cells steps.share going.room

    moves : before.opened ≡ None → (o : Option ℕ) → delivery_of (move_of before.stage before.agent) ≡ o →
        IsDelivered o (moves_to before (move_of before.stage before.agent)) after done face face_after knows →
        IsGoing run after known face_after knows
    moves closed None none is =
        moves_alone run before after known face face_after knew knows closed
        (subst (λ o. (is_none o && tries_entry before.stage before.agent) ≡ false) closed needs) none is.0 is.2
        steps.share keeps going
    moves closed (Some at) begins is =
        let between = moves_to before (move_of before.stage before.agent) in
        moves_and_begins run before after known at done face face_after knew knows sound closed
        (subst (λ o. (is_none o && tries_entry before.stage before.agent) ≡ false) closed needs) begins
        (delivered_on between after at done face face_after knows is) (room between at refl is) keeps going

    by : (o : Option ℕ) → before.opened ≡ o → IsGoing run after known face_after knows
    by None closed =
        moves closed (delivery_of (move_of before.stage before.agent)) refl
        (delivers_first before after done face face_after knows closed steps)
    by (Some at) opened =
        let first = subst (λ o. IfSome o (IsFirst before.agent.pending)) opened sound.queue.first in
        let is = delivers_again before after at done face face_after knows opened first steps in
        moves_on run before after known at done face face_after knew knows opened
        (delivered_on before after at done face face_after knows is) (room before at refl is) keeps going

-- ---- the end

-- a rank that is over has ended, and no delivery is begun
pub ended : (before after : RankState) (face face_after : Face) (knows : ℕ → Cell → Type 0) → IsSound before →
    is_over before ≡ true → StepsOnMemory before after true face face_after knows →
    (after.opened ≡ None) × (after.agent.ended ≡ true)
ended before after face face_after knows sound over steps = by before.opened refl
  where
    moves : (o : Option ℕ) → delivery_of (move_of before.stage before.agent) ≡ o →
        IsDelivered o (moves_to before (move_of before.stage before.agent)) after true face face_after knows →
        (after.opened ≡ None) × (after.agent.ended ≡ true)
    moves None none is = (
      ap (λ (s : RankState). s.opened) is.0 ∙ none,
      ap (λ (s : RankState). s.agent.ended) is.0 ∙ over_ends before.stage before.agent over,
    )
    moves (Some at) begins is = (
      ap (λ (s : RankState). s.opened) is.0,
      ap (λ (s : RankState). s.agent.ended) is.0 ∙ over_ends before.stage before.agent over,
    )

    by : (o : Option ℕ) → before.opened ≡ o → (after.opened ≡ None) × (after.agent.ended ≡ true)
    by None closed =
        moves (delivery_of (move_of before.stage before.agent)) refl
        (delivers_first before after true face face_after knows closed steps)
    by (Some at) opened =
        let first = subst (λ o. IfSome o (IsFirst before.agent.pending)) opened sound.queue.first in
        let none = none_pending (length before.agent.pending)
        (both_right (is_none (next_call before.stage before.agent)) (not (has_pending before.agent)) over) in
        let within = first.0 in
        absurd (omega (arith, within, none))

-- ---- the answer

pub data_answered : (turned : Turned) (run : RunRank) (before after : RankState) (known : List Given)
    (face face_after : Face) (knew knows : ℕ → Cell → Type 0) → before.free ≡ 4294967295 → IsSound before →
    needs_entry before ≡ false → IsDataAnswer turned before after face face_after knows → Keeps knew knows →
    IsGoing run before known face knew → IsStanding (standing_by turned) run after known face_after knows
data_answered Did run before after known face face_after knew knows free sound needs h keeps going =
    stepped run before after known true face face_after knew knows sound needs h.2 keeps going
data_answered NotYet run before after known face face_after knew knows free sound needs h keeps going = absurd h
data_answered Again run before after known face face_after knew knows free sound needs h keeps going =
    stepped run before after known false face face_after knew knows sound needs h.2 keeps going
data_answered Full run before after known face face_after knew knows free sound needs h keeps going =
    absurd (let low = h.0 in omega (arith, low, free))
data_answered Ended run before after known face face_after knew knows free sound needs h keeps going =
    let end = ended before after face face_after knows sound h.1 h.2 in (
      stepped run before after known true face face_after knew knows sound needs h.2 keeps going,
      record { closed = end.0; stops = inl end.1 },
      end.1,
    )

delivery_same : (o : Option ℕ) (before after : RankState) (done : Bool) (face face_after : Face)
    (knows : ℕ → Cell → Type 0) → IsDelivered o before after done face face_after knows →
    IsSameMemory face face_after
delivery_same None before after done face face_after knows is =
    record { name = ap (λ (f : Face). f.name) is.2; grant = ap (λ (f : Face). f.grant) is.2 }
delivery_same (Some at) before after done face face_after knows is =
    let stays = delivery_stays before after at done face face_after knows is in
    record { name = stays.name; grant = stays.grant }

pub data_same : (turned : Turned) (before after : RankState) (face face_after : Face) (knows : ℕ → Cell → Type 0) →
    IsDataAnswer turned before after face face_after knows → IsSameMemory face face_after
data_same Did before after face face_after knows h = delivery_same (delivery_of (own_move before)) (moved before) after
    true face face_after knows h.2.delivered
data_same NotYet before after face face_after knows h = absurd h
data_same Again before after face face_after knows h = delivery_same (delivery_of (own_move before)) (moved before)
    after false face face_after knows h.2.delivered
data_same Full before after face face_after knows h =
    record { name = ap (λ (f : Face). f.name) h.2; grant = ap (λ (f : Face). f.grant) h.2 }
data_same Ended before after face face_after knows h = delivery_same (delivery_of (own_move before)) (moved before)
    after true face face_after knows h.2.delivered
