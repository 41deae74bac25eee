-- The steps of a rank as code makes them: with its seat at the turn, whether memory runs out or not.
use Rattle.std.proofs.Common.{◌≡◌, ◌≢◌, ℕ, true, false, List, [], ◌++◌, refl, sym, ◌∙◌, ap, subst, append_assoc}
use Rattle.std.proofs.Common.{append-nil}
use mathlib.Core.List.{IsPrefix}
use Rattle.std.specs.Prelude.{Result, Ok, Err, IfOk, OnErr}
use Rattle.std.specs.List.{AllByRecursion}
use Rattle.std.proofs.lemmas.List.Elements.{All-from_recursion, recursion_from_All}
use Rattle.board_turns.specs.Places.{AddsOthers, IsSameSeat, Place, Round, with_entries}
use Rattle.call_rules.specs.declared.cells.Cell.{Cell}
use Rattle.cell_face.specs.Faces.{Face, Keeps}
use Rattle.kept_rows.specs.Gifts.{Given, rows_given}
use Rattle.lawful_runs.specs.Stages.{Stage}
use Rattle.rank_engine.specs.BoardAnswers.{AreTold, IsBoardAnswer, IsBoardOf}
use Rattle.rank_engine.specs.DataAnswers.{IsDataAnswer}
use Rattle.rank_engine.specs.RankStates.{RankState, AreOwnRows, needs_entry}
use Rattle.rank_engine.specs.Sound.{IsSound}
use Rattle.rank_engine.specs.declared.answers.Turned.{Turned}
use Rattle.rank_histories.specs.Among.{AreOfOthers, Tells}
use Rattle.shared_ranks.proofs.Looked.{PutsOwn, board_answered}
use Rattle.shared_ranks.proofs.Owned.{own_learns}
use Rattle.shared_ranks.proofs.Stepped.{data_answered, data_same}
use Rattle.shared_ranks.specs.declared.standings.Standing.{Standing}
use Rattle.shared_ranks.specs.declared.standings.Standing.TheVariants.{Going, Waits, Ended, OutOfMemory}
use Rattle.shared_ranks.specs.Ranks.{IsGoing, IsRank, IsSameMemory, IsSomeRank, IsStanding, RankNow}
use Rattle.shared_ranks.specs.Ranks.{RunRank, StaysRank}
use Rattle.shared_ranks.specs.Standings.{is_going, standing_after}
use Rattle.sync_board.specs.Boards.{BoardState, rank_of}
use Rattle.turn_lock.specs.Lists.{AddsOwn}

-- ---- the board that is taken

-- the rank knows the entries of the board that it took
pub record IsTaken (before : Place) (board : BoardState) (after : Place) : Type 0 where
  pub same : IsSameSeat before after
  pub board_is : board ≡ with_entries before.turn.first after.known
  pub others : AddsOthers before.number before.known after.known

module _ {X : Type 0} (face_of : X → Face) (knows_of : X → ℕ → Cell → Type 0) (run : RunRank) (now : RankNow X)
    (rank : IsRank face_of knows_of run now) (is : now.standing ≡ Going) (board : BoardState) (seat : Place)
    (taken : IsTaken now.seat board seat) where
  pub goes : IsGoing run now.state now.seat.known (face_of now.memory) (knows_of now.memory)
  goes =
      subst (λ s. IsStanding s run now.state now.seat.known (face_of now.memory) (knows_of now.memory)) is
      rank.stands

  pub others_apart : AreOfOthers run.number taken.others.0
  others_apart =
      subst (λ n. AreOfOthers n taken.others.0) rank.seated.its
      (recursion_from_All (λ (one : Given). rank_of one ≢ now.seat.number) taken.others.0 taken.others.2)

  pub entries_taken : board.entries ≡ now.seat.known ++ taken.others.0
  entries_taken = ap (λ (b : BoardState). b.entries) taken.board_is ∙ taken.others.1

  first_of : now.seat.turn.first ≡ run.turn.first
  first_of = ap (λ (r : Round). r.first) rank.seated.at_rest.at_turn

  pub ranks_taken : board.ranks ≡ now.state.stage.script.ranks
  ranks_taken =
      ap (λ (b : BoardState). b.ranks) (taken.board_is ∙ ap (λ b. with_entries b seat.known) first_of)
      ∙ rank.board.ranks ∙ ap (λ (s : Stage). s.script.ranks) (sym goes.stage)

  -- it is one of the rank's run
  pub board_taken : IsBoardOf now.state board (face_of now.memory)
  board_taken = record {
    ranks = ranks_taken;
    layout = ap (λ (b : BoardState). b.layout) (taken.board_is ∙ ap (λ b. with_entries b seat.known) first_of)
        ∙ rank.board.layout ∙ ap (λ (s : Stage). s.layout) (sym goes.stage);
    rows = subst (λ l. AreOwnRows now.state.stage now.state.agent (rows_given l)) (sym entries_taken)
        (own_learns now.state.stage now.state.agent now.seat.known taken.others.0 goes.own
        (subst (λ n. AreOfOthers n taken.others.0) (sym goes.recorded.mine) others_apart));
    name = ap (λ (b : BoardState). b.name) (taken.board_is ∙ ap (λ b. with_entries b seat.known) first_of)
        ∙ rank.board.name;
  }

-- ---- the board that is given back

pub board_given : (first board board_after : BoardState) (known : List Given) (rank : ℕ) →
    board ≡ with_entries first known → PutsOwn rank board board_after →
    board_after ≡ with_entries first board_after.entries
board_given first board board_after known rank is put =
    let now : board_after ≡ with_entries first (board.entries ++ put.given) =
    put.entries ∙ ap (λ b. with_entries b (board.entries ++ put.given)) is in
    now ∙ ap (λ l. with_entries first l) (sym (ap (λ (b : BoardState). b.entries) now))

pub entries_own : (first board board_after : BoardState) (known : List Given) (rank number : ℕ) →
    board ≡ with_entries first known → PutsOwn rank board board_after → rank ≡ number →
    AddsOwn rank_of number known board_after.entries
entries_own first board board_after known rank number is put same = (
  put.given,
  ap (λ (b : BoardState). b.entries) put.entries ∙ ap (λ (b : BoardState). b.entries ++ put.given) is,
  All-from_recursion (λ (one : Given). rank_of one ≡ number) put.given
      (subst (λ n. AllByRecursion (λ (one : Given). one.row.rank ≡ n) put.given) same put.of_rank),
)

pub knows_more : (before seat : Place) (first board board_after : BoardState) (rank : ℕ) →
    AddsOthers before.number before.known seat.known → board ≡ with_entries first seat.known →
    PutsOwn rank board board_after → (known : List Given) → known ≡ board_after.entries → IsPrefix before.known known
knows_more before seat first board board_after rank others is put known now = (
  others.0 ++ put.given,
  sym (append_assoc before.known others.0 put.given)
      ∙ sym (now ∙ ap (λ (b : BoardState). b.entries) put.entries ∙ ap (λ (b : BoardState). b.entries ++ put.given) is
      ∙ ap (λ l. l ++ put.given) others.1),
)

-- ---- steps

-- what a clause says under a condition that is met
pub applied : {E : Type 0} (P Q : Type 0) (r : Result Turned E) → P → IfOk r (λ _. P → Q) → IfOk r (λ _. Q)
applied P Q (Ok turned) p f = f p
applied P Q (Err error) p f = tt

-- What is known of a rank's step at the board. middle: its seat while it had the board.
pub record HasLooked {X E : Type 0} (face_of : X → Face) (knows_of : X → ℕ → Cell → Type 0) (before after : RankNow X)
    (middle : Place) (board board_after : BoardState) (r : Result Turned E) : Type 0 where
  pub going : before.standing ≡ Going
  pub taken : IsTaken before.seat board middle
  pub free : before.state.free ≡ 4294967295
  pub needs : needs_entry before.state ≡ true
  pub tells : AllByRecursion Tells board.entries
  pub answer : IfOk r (λ turned. IsBoardAnswer turned before.state after.state board board_after
      (face_of before.memory) (face_of after.memory))
  pub told : IfOk r (λ _. AreTold (face_of before.memory) board board_after)
  pub keeps : Keeps (knows_of before.memory) (knows_of after.memory)
  pub memory : IsSameMemory (face_of before.memory) (face_of after.memory)
  pub same : IsSameSeat middle after.seat
  pub rests : after.seat.holds ≡ false
  pub knows : after.seat.known ≡ board_after.entries
  pub stands : after.standing ≡ standing_after r

pub look_stays : {X E : Type 0} (face_of : X → Face) (knows_of : X → ℕ → Cell → Type 0) (before after : RankNow X)
    (middle : Place) (board board_after : BoardState) (r : Result Turned E) →
    HasLooked face_of knows_of before after middle board board_after r → StaysRank face_of knows_of before after
look_stays {X} {E} face_of knows_of before after middle board board_after r look run rank = record {
  seated = record {
    at_rest = record {
      at_turn = look.same.0 ∙ look.taken.same.0 ∙ rank.seated.at_rest.at_turn;
      rests = look.rests;
    };
    its = look.same.1 ∙ look.taken.same.1 ∙ rank.seated.its;
  };
  board = record {
    ranks = rank.board.ranks;
    layout = rank.board.layout;
    name = rank.board.name ∙ sym look.memory.name;
  };
  stands = subst (λ s. IsStanding s run after.state after.seat.known face_after knows) (sym look.stands)
      (subst (λ l. IsStanding (standing_after r) run after.state l face_after knows) (sym look.knows)
      (by r look.answer look.told));
}
  where
    face_after : Face
    face_after = face_of after.memory

    knows : ℕ → Cell → Type 0
    knows = knows_of after.memory

    by : (r : Result Turned E) → IfOk r (λ turned. IsBoardAnswer turned before.state after.state board board_after
        (face_of before.memory) (face_of after.memory)) →
        IfOk r (λ _. AreTold (face_of before.memory) board board_after) →
        IsStanding (standing_after r) run after.state board_after.entries (face_of after.memory) (knows_of after.memory)
    by (Ok turned) answer told =
        board_answered turned run before.state after.state before.seat.known look.taken.others.0 board board_after
        (face_of before.memory) (face_of after.memory) (knows_of before.memory) (knows_of after.memory) (record {
          free = look.free;
          needs = look.needs;
          ranks = ranks_taken face_of knows_of run before rank look.going board middle look.taken;
          tells = look.tells;
          keeps = look.keeps;
          entries = entries_taken face_of knows_of run before rank look.going board middle look.taken;
          apart = others_apart face_of knows_of run before rank look.going board middle look.taken;
          going = goes face_of knows_of run before rank look.going board middle look.taken;
        }) told answer
    by (Err error) answer told = tt

-- what is known of a rank's step without the board
pub record HasStepped {X E : Type 0} (face_of : X → Face) (knows_of : X → ℕ → Cell → Type 0) (before after : RankNow X)
    (r : Result Turned E) : Type 0 where
  pub going : before.standing ≡ Going
  pub free : before.state.free ≡ 4294967295
  pub sound : IsSound before.state
  pub needs : needs_entry before.state ≡ false
  pub answer : IfOk r (λ turned. IsDataAnswer turned before.state after.state (face_of before.memory)
      (face_of after.memory) (knows_of after.memory))
  pub keeps : Keeps (knows_of before.memory) (knows_of after.memory)
  pub unwritten : OnErr r (after.memory ≡ before.memory)
  pub seat : after.seat ≡ before.seat
  pub stands : after.standing ≡ standing_after r

pub answer_memory : {X E : Type 0} (face_of : X → Face) (knows_of : X → ℕ → Cell → Type 0) (before after : RankState)
    (memory memory_after : X) (r : Result Turned E) →
    IfOk r (λ turned. IsDataAnswer turned before after (face_of memory) (face_of memory_after)
    (knows_of memory_after)) →
    OnErr r (memory_after ≡ memory) → IsSameMemory (face_of memory) (face_of memory_after)
answer_memory face_of knows_of before after memory memory_after (Ok turned) answer unwritten =
    data_same turned before after (face_of memory) (face_of memory_after) (knows_of memory_after) answer
answer_memory {X} face_of knows_of before after memory memory_after (Err error) answer unwritten = record {
  name = ap (λ (m : X). (face_of m).name) unwritten;
  grant = ap (λ (m : X). (face_of m).grant) unwritten;
}

step_memory : {X E : Type 0} (face_of : X → Face) (knows_of : X → ℕ → Cell → Type 0) (before after : RankNow X)
    (r : Result Turned E) → HasStepped face_of knows_of before after r →
    IsSameMemory (face_of before.memory) (face_of after.memory)
step_memory face_of knows_of before after r step =
    answer_memory face_of knows_of before.state after.state before.memory after.memory r step.answer step.unwritten

pub step_stays : {X E : Type 0} (face_of : X → Face) (knows_of : X → ℕ → Cell → Type 0) (before after : RankNow X)
    (r : Result Turned E) → HasStepped face_of knows_of before after r → StaysRank face_of knows_of before after
step_stays {X} {E} face_of knows_of before after r step run rank = record {
  seated = record {
    at_rest = record {
      at_turn = ap (λ (p : Place). p.turn) step.seat ∙ rank.seated.at_rest.at_turn;
      rests = ap (λ (p : Place). p.holds) step.seat ∙ rank.seated.at_rest.rests;
    };
    its = ap (λ (p : Place). p.number) step.seat ∙ rank.seated.its;
  };
  board = record {
    ranks = rank.board.ranks;
    layout = rank.board.layout;
    name = rank.board.name ∙ sym (step_memory face_of knows_of before after r step).name;
  };
  stands = subst (λ s. IsStanding s run after.state after.seat.known (face_of after.memory) (knows_of after.memory))
      (sym step.stands)
      (subst (λ (p : Place). IsStanding (standing_after r) run after.state p.known (face_of after.memory)
      (knows_of after.memory)) (sym step.seat) (by r step.answer));
}
  where
    by : (r : Result Turned E) → IfOk r (λ turned. IsDataAnswer turned before.state after.state (face_of before.memory)
        (face_of after.memory) (knows_of after.memory)) →
        IsStanding (standing_after r) run after.state before.seat.known (face_of after.memory) (knows_of after.memory)
    by (Ok turned) answer =
        data_answered turned run before.state after.state before.seat.known (face_of before.memory)
        (face_of after.memory) (knows_of before.memory) (knows_of after.memory) step.free step.sound step.needs answer
        step.keeps
        (subst (λ s. IsStanding s run before.state before.seat.known (face_of before.memory) (knows_of before.memory))
        step.going rank.stands)
    by (Err error) answer = tt

-- ---- in code, where the rank is seen by its fields

pub taken_at : (before after : Place) (round : Round) (board : BoardState) → before.turn ≡ round →
    board ≡ with_entries round.first after.known → IsSameSeat before after →
    AddsOthers before.number before.known after.known → IsTaken before board after
taken_at before after round board turn is same others = record {
  same = same;
  board_is = is ∙ ap (λ (r : Round). with_entries r.first after.known) (sym turn);
  others = others;
}

pub board_asked : {X : Type 0} (face_of : X → Face) (knows_of : X → ℕ → Cell → Type 0) {old now : RankNow X} →
    now ≡ old → IsSomeRank face_of knows_of old → old.standing ≡ Going → (board : BoardState) (seat : Place) →
    IsTaken now.seat board seat → IsBoardOf now.state board (face_of now.memory)
board_asked {X} face_of knows_of {old} {now} was some going board seat taken =
    board_taken face_of knows_of some.0 now
    (subst (λ (r : RankNow X). IsRank face_of knows_of some.0 r) (sym was) some.1)
    (ap (λ (r : RankNow X). r.standing) was ∙ going) board seat taken

-- its number is that of its seat
pub its_number : {X : Type 0} (face_of : X → Face) (knows_of : X → ℕ → Cell → Type 0) {old now : RankNow X} →
    now ≡ old → IsSomeRank face_of knows_of old → old.standing ≡ Going → now.state.agent.rank ≡ now.seat.number
its_number {X} face_of knows_of {old} {now} was some going =
    let run : RunRank = some.0 in
    let rank : IsRank face_of knows_of run old = some.1 in
    let goes : IsGoing run old.state old.seat.known (face_of old.memory) (knows_of old.memory) =
    subst (λ s. IsStanding s run old.state old.seat.known (face_of old.memory) (knows_of old.memory)) going
    rank.stands in
    ap (λ (r : RankNow X). r.state.agent.rank) was ∙ goes.recorded.mine ∙ sym rank.seated.its
    ∙ sym (ap (λ (r : RankNow X). r.seat.number) was)

pub looked_stays : {X E : Type 0} (face_of : X → Face) (knows_of : X → ℕ → Cell → Type 0) {old before after : RankNow X}
    {middle : Place} {board board_after : BoardState} {r : Result Turned E} → before ≡ old →
    HasLooked face_of knows_of before after middle board board_after r → StaysRank face_of knows_of old after
looked_stays {X} face_of knows_of {old} {before} {after} {middle} {board} {board_after} {r} was look =
    subst (λ (b : RankNow X). StaysRank face_of knows_of b after) was
    (look_stays face_of knows_of before after middle board board_after r look)

pub stepped_stays : {X E : Type 0} (face_of : X → Face) (knows_of : X → ℕ → Cell → Type 0)
    {old before after : RankNow X} {r : Result Turned E} → before ≡ old → HasStepped face_of knows_of before after r →
    StaysRank face_of knows_of old after
stepped_stays {X} face_of knows_of {old} {before} {after} {r} was step =
    subst (λ (b : RankNow X). StaysRank face_of knows_of b after) was (step_stays face_of knows_of before after r step)

-- ---- a round

-- what a rank keeps through a round
pub record LeadsOn {X : Type 0} (face_of : X → Face) (knows_of : X → ℕ → Cell → Type 0) (before now : RankNow X)
    : Type 0 where
  pub stays : StaysRank face_of knows_of before now
  pub seat : IsSameSeat before.seat now.seat
  pub knows : IsPrefix before.seat.known now.seat.known
  pub memory : IsSameMemory (face_of before.memory) (face_of now.memory)

pub leads_first : {X : Type 0} (face_of : X → Face) (knows_of : X → ℕ → Cell → Type 0) (now : RankNow X) →
    LeadsOn face_of knows_of now now
leads_first face_of knows_of now = record {
  stays = λ run rank. rank;
  seat = (refl, refl);
  knows = ([], append-nil now.seat.known);
  memory = record { name = refl; grant = refl };
}

pub leads_more : {X : Type 0} (face_of : X → Face) (knows_of : X → ℕ → Cell → Type 0) (before middle now : RankNow X) →
    LeadsOn face_of knows_of before middle → LeadsOn face_of knows_of middle now → LeadsOn face_of knows_of before now
leads_more face_of knows_of before middle now first second = record {
  stays = λ run rank. second.stays run (first.stays run rank);
  seat = (second.seat.0 ∙ first.seat.0, second.seat.1 ∙ first.seat.1);
  knows = (
    first.knows.0 ++ second.knows.0,
    sym (append_assoc before.seat.known first.knows.0 second.knows.0)
        ∙ ap (λ l. l ++ second.knows.0) first.knows.1 ∙ second.knows.1,
  );
  memory = record {
    name = second.memory.name ∙ first.memory.name;
    grant = second.memory.grant ∙ first.memory.grant;
  };
}

pub goes_on : (s : Standing) → is_going s ≡ true → s ≡ Going
goes_on Going e = refl
goes_on Waits e = absurd (cc e)
goes_on Ended e = absurd (cc e)
goes_on OutOfMemory e = absurd (cc e)
