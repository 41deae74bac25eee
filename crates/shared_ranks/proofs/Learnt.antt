-- A rank learns what others put.
use Rattle.std.proofs.Common.{◌≡◌, ◌≢◌, ℕ, ◌<◌, ◌≤◌, Bool, true, false, cond, inl, inr, List, [], ◌∷◌, ◌++◌, length}
use Rattle.std.proofs.Common.{refl, sym, ◌∙◌, ap, subst, arith, length-append}
use Rattle.std.specs.Prelude.{nat_lt}
use Rattle.std.proofs.lemmas.Bool.{ltb-false, lt-ltb, le-ltb, le-leb, lt-leb}
use Rattle.std.proofs.lemmas.List.Elements.{recursion_from_All}
use Rattle.board_turns.specs.Places.{AddsOthers, IsSameSeat}
use Rattle.call_rules.specs.declared.cells.Cell.{Cell}
use Rattle.cell_face.specs.Faces.{Face}
use Rattle.kept_rows.specs.Gifts.{Given}
use Rattle.rank_engine.specs.RankStates.{RankState}
use Rattle.rank_histories.proofs.Going.{among_learns}
use Rattle.rank_histories.proofs.Stopping.{stops_still}
use Rattle.rank_histories.specs.Among.{AreOfOthers}
use Rattle.shared_ranks.proofs.Owned.{own_learns}
use Rattle.shared_ranks.specs.declared.standings.Standing.{Standing}
use Rattle.shared_ranks.specs.declared.standings.Standing.TheVariants.{Going, Waits, Ended, OutOfMemory}
use Rattle.shared_ranks.specs.Ranks.{IsBoardOfRun, IsGoing, IsStanding, RankNow, RunRank, StaysRank}
use Rattle.shared_ranks.specs.Standings.{standing_with, tried_again}
use Rattle.sync_board.specs.Boards.{rank_of}
use Rattle.turn_lock.specs.Lists.{longer}

-- ---- one rank

going_learns : (run : RunRank) (state : RankState) (known others : List Given) (face : Face)
    (knows : ℕ → Cell → Type 0) → AreOfOthers run.number others → IsGoing run state known face knows →
    IsGoing run state (known ++ others) face knows
going_learns run state known others face knows apart going = record {
  stage = going.stage;
  cells = going.cells;
  room = going.room;
  own = own_learns state.stage state.agent known others going.own
      (subst (λ n. AreOfOthers n others) (sym going.recorded.mine) apart);
  among = among_learns state.opened state.stage run.seed run.number known others state.agent state.touched face knows
      apart going.among;
  recorded = going.recorded;
}

-- where nothing was learnt, the standing is as it was
stands_learns : (run : RunRank) (state : RankState) (known others : List Given) (face : Face)
    (knows : ℕ → Cell → Type 0) → AreOfOthers run.number others → (s : Standing) (grew : Bool) →
    (grew ≡ false → others ≡ []) → IsStanding s run state known face knows →
    IsStanding (cond grew (tried_again s) s) run state (known ++ others) face knows
stands_learns run state known others face knows apart Going true none h =
    going_learns run state known others face knows apart h
stands_learns run state known others face knows apart Going false none h =
    going_learns run state known others face knows apart h
stands_learns run state known others face knows apart Waits true none h =
    going_learns run state known others face knows apart h.0
stands_learns run state known others face knows apart Waits false none h = (
  going_learns run state known others face knows apart h.0,
  record {
    closed = h.1.closed;
    stops = stops_still state.stage state.agent known others h.1.stops (inr (none refl));
  },
)
stands_learns run state known others face knows apart Ended true none h = (
  going_learns run state known others face knows apart h.0,
  record {
    closed = h.1.closed;
    stops = stops_still state.stage state.agent known others h.1.stops (inl h.2);
  },
  h.2,
)
stands_learns run state known others face knows apart Ended false none h = (
  going_learns run state known others face knows apart h.0,
  record {
    closed = h.1.closed;
    stops = stops_still state.stage state.agent known others h.1.stops (inl h.2);
  },
  h.2,
)
stands_learns run state known others face knows apart OutOfMemory true none h = tt
stands_learns run state known others face knows apart OutOfMemory false none h = tt

none_more : {A : Type 0} (xs ys : List A) → length (xs ++ ys) ≤ length xs → ys ≡ []
none_more xs [] le = refl
none_more xs (y ∷ ys) le = absurd (let long = length-append xs (y ∷ ys) in omega (arith, le, long))

pub catches_up : {X : Type 0} (face_of : X → Face) (knows_of : X → ℕ → Cell → Type 0) (before after : RankNow X) →
    after.state ≡ before.state → after.memory ≡ before.memory → IsSameSeat before.seat after.seat →
    after.seat.holds ≡ false → AddsOthers before.seat.number before.seat.known after.seat.known →
    after.standing ≡ standing_with (length before.seat.known) (length after.seat.known) before.standing →
    StaysRank face_of knows_of before after
catches_up {X} face_of knows_of before after state memory seat rests adds standing run rank =
    let others : List Given = adds.0 in
    let known : List Given = before.seat.known in
    let apart : AreOfOthers run.number others =
    subst (λ n. AreOfOthers n others) rank.seated.its
    (recursion_from_All (λ (one : Given). rank_of one ≢ before.seat.number) others adds.2) in
    let s : Standing = standing_with (length known) (length after.seat.known) before.standing in
    let none : nat_lt (length known) (length after.seat.known) ≡ false → others ≡ [] = λ same.
    none_more known others (subst (λ (l : List Given). length l ≤ length known) adds.1
    (ltb-false (length known) (length after.seat.known) same)) in
    let stands : IsStanding s run before.state (known ++ others) (face_of before.memory) (knows_of before.memory) =
    stands_learns run before.state known others (face_of before.memory) (knows_of before.memory) apart
    before.standing (nat_lt (length known) (length after.seat.known)) none rank.stands in
    record {
      seated = record {
        at_rest = record { at_turn = seat.0 ∙ rank.seated.at_rest.at_turn; rests = rests };
        its = seat.1 ∙ rank.seated.its;
      };
      board = subst (λ (m : X). IsBoardOfRun run (face_of m)) (sym memory) rank.board;
      stands = subst (λ s. IsStanding s run after.state after.seat.known (face_of after.memory)
          (knows_of after.memory)) (sym standing)
          (subst (λ st. IsStanding s run st after.seat.known (face_of after.memory) (knows_of after.memory)) (sym state)
          (subst (λ (m : X). IsStanding s run before.state after.seat.known (face_of m) (knows_of m)) (sym memory)
          (subst (λ l. IsStanding s run before.state l (face_of before.memory) (knows_of before.memory)) (sym adds.1)
          stands)));
    }

-- ---- how long the lists are

-- the longer list is longer than the first exactly where the second is
pub longer_with : {A : Type 0} (xs ys : List A) (s : Standing) → length xs < length ys →
    standing_with (length xs) (length (longer xs ys)) s ≡ tried_again s
longer_with xs ys s lt =
    ap (λ b. standing_with (length xs) (length (cond b xs ys)) s) (lt-leb (length ys) (length xs) lt)
    ∙ ap (λ b. cond b (tried_again s) s) (lt-ltb (length xs) (length ys) lt)

pub same_with : {A : Type 0} (xs ys : List A) (s : Standing) → length ys ≤ length xs →
    standing_with (length xs) (length (longer xs ys)) s ≡ s
same_with xs ys s le =
    ap (λ b. standing_with (length xs) (length (cond b xs ys)) s) (le-leb (length ys) (length xs) le)
    ∙ ap (λ b. cond b (tried_again s) s) (le-ltb (length xs) (length xs) (omega arith))

pub longer_second : {A : Type 0} (xs ys : List A) → length xs < length ys → longer xs ys ≡ ys
longer_second xs ys lt = ap (λ b. cond b xs ys) (lt-leb (length ys) (length xs) lt)

pub longer_first : {A : Type 0} (xs ys : List A) → length ys ≤ length xs → longer xs ys ≡ xs
longer_first xs ys le = ap (λ b. cond b xs ys) (le-leb (length ys) (length xs) le)

-- ---- in code, where the rank is seen by its fields

pub caught_up : {X : Type 0} (face_of : X → Face) (knows_of : X → ℕ → Cell → Type 0)
    {old new before after : RankNow X} → before ≡ old → new ≡ after → after.state ≡ before.state → after.memory ≡ before.memory →
    IsSameSeat before.seat after.seat → after.seat.holds ≡ false →
    AddsOthers before.seat.number before.seat.known after.seat.known →
    after.standing ≡ standing_with (length before.seat.known) (length after.seat.known) before.standing →
    StaysRank face_of knows_of old new
caught_up {X} face_of knows_of {old} {new} {before} {after} was is state memory seat rests adds standing =
    subst (λ (r : RankNow X). StaysRank face_of knows_of r new) was
    (subst (λ (r : RankNow X). StaysRank face_of knows_of before r) (sym is)
    (catches_up face_of knows_of before after state memory seat rests adds standing))
