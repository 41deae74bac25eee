-- A step of a rank at the board, and another after it.
use Rattle.std.proofs.Common.{◌≡◌, ℕ, zero, suc, ◌+◌, ◌<◌, ◌≤◌, inl, inr, false, List, [], ◌∷◌, ◌++◌, length, take}
use Rattle.std.proofs.Common.{drop, sym, ◌∙◌, ap, subst, arith, length-append}
use Rattle.std.specs.Prelude.{map, slice_get, slice_index, IfSome}
use Rattle.std.specs.List.{AllByRecursion}
use Rattle.std.proofs.lemmas.Bool.Decides.{leb_tells}
use Rattle.std.proofs.lemmas.List.{append_assoc, drop-append-le, map-append, take-append-le}
use Rattle.std.proofs.Math.Seq.{drop-append_seam}
use Rattle.list_laws.proofs.Each.{each_append}
use Rattle.list_laws.proofs.Options.{if_some_weaker}
use Rattle.board_rules.specs.Entries.{Row}
use Rattle.cell_face.specs.Faces.{Face, cell_count, low_at}
use Rattle.kept_rows.specs.Gifts.{Front, Given, gained_by, rows_given}
use Rattle.kept_rows.specs.KeptCalls.{kept_row}
use Rattle.step_runs.specs.BoardSteps.{AtBoard}
use Rattle.sync_board.specs.Boards.{BoardState, rows_on}
use Rattle.rank_engine.proofs.EntrySteps.{as_many}
use Rattle.rank_engine.proofs.Unwritten.{handed_twice}
use Rattle.rank_engine.specs.BoardAnswers.{IsGift, IsGiven, IsMet, gives}
use Rattle.rank_engine.specs.Entering.{IsHandedOver, StepsTo}
use Rattle.rank_engine.specs.RankStates.{RankState}
use Rattle.rank_engine.specs.Shares.{updates_ahead}

below_is : (a b : ℕ) → a < b → a ≤ b
below_is a b h = omega arith

-- ---- a step and then another

got_before : {X : Type 0} (xs ys : List X) (P : X → Type 0) (place : ℕ) → place < length xs →
    IfSome (slice_get xs place) P → IfSome (slice_get (xs ++ ys) place) P
got_before [] ys P place l h = absurd (omega arith)
got_before (x ∷ xs) ys P zero l h = h
got_before (x ∷ xs) ys P (suc n) l h = got_before xs ys P n (omega arith) h

still_met : (face after : Face) (front : Front) → IsHandedOver face after → IsMet face front → IsMet after front
still_met face after front handed met =
    if_some_weaker
    (λ (places : List ℕ). (cell : ℕ) → cell < cell_count face → slice_index places cell ≤ low_at face cell)
    (λ (places : List ℕ). (cell : ℕ) → cell < cell_count after → slice_index places cell ≤ low_at after cell)
    (λ places h cell below.
    let first : slice_index places cell ≤ low_at face cell =
    h cell (subst (λ n. cell < n) handed.unwritten.stays.cells below) in
    let second = handed.unwritten.stays.lows cell in
    further (slice_index places cell) (low_at face cell) (low_at after cell) first second) front met
  where
    further : (a b c : ℕ) → a ≤ b → b ≤ c → a ≤ c
    further a b c h k = omega arith

-- the rows of what was given last are those that the step put
given_rows : (board board_after : BoardState) (given : List Given) (rows : List Row) →
    board_after ≡ record board { entries = board.entries ++ given } →
    rows_on board_after ≡ rows_on board ++ rows → rows_given given ≡ rows
given_rows board board_after given rows is put =
    let both : rows_on board ++ rows_given given ≡ rows_on board ++ rows =
    sym (map-append (λ (one : Given). one.row) board.entries given)
    ∙ (ap (λ (b : BoardState). rows_on b) (sym is) ∙ put) in
    sym (drop-append_seam (rows_on board) (rows_given given))
    ∙ (ap (drop (length (rows_on board))) both ∙ drop-append_seam (rows_on board) rows)

still_given : (face between : Face) (given : List Given) → AllByRecursion (λ (r : Row). gives r.step r.call ≡ false)
    (rows_given given) → AllByRecursion (IsGiven between) given → AllByRecursion (IsGiven face) given
still_given face between [] none h = tt
still_given face between (one ∷ given) none h = (
  subst (λ b. IsGift face b one.gift) (sym none.0) (subst (λ b. IsGift between b one.gift) none.0 h.0),
  still_given face between given none.1 h.1,
)

pub then_steps : (first second : AtBoard) (s between after : RankState) (board board_between board_after : BoardState)
    (face face_between face_after : Face) (more : List Row) → StepsTo first s between board board_between face
    face_between →
    StepsTo second between after board_between board_after face_between face_after →
    first.rows ≡ rows_on board_between → second.rows ≡ first.rows ++ more → between.agent.rank ≡ s.agent.rank →
    AllByRecursion (λ (r : Row). gives r.step r.call ≡ false) (map kept_row more) →
    StepsTo second s after board board_after face face_after
then_steps first second s between after board board_between board_after face face_between face_after more one two
    at_rows grows
    same none = record {
      rank = two.rank ∙ ap (λ (x : RankState). record x { agent = second.agent; free = after.free }) one.rank;
      given = one.given ++ two.given;
      entries = two.entries
          ∙ (ap (λ (b : BoardState). record b { entries = b.entries ++ two.given }) one.entries
          ∙ ap (λ l. record board { entries = l }) (append_assoc board.entries one.given two.given));
      rows = two.rows
          ∙ (ap (λ l. rows_on board_between ++ map kept_row l) dropped_second
          ∙ (ap (λ l. l ++ map kept_row more) one.rows
          ∙ (append_assoc (rows_on board) (map kept_row (drop (length board.entries) first.rows)) (map kept_row more)
          ∙ ap (λ l. rows_on board ++ l)
          (sym (map-append kept_row (drop (length board.entries) first.rows) more)
          ∙ ap (map kept_row) (sym dropped_all)))));
      own = two.own;
      of_rank = each_append (λ (x : Given). x.row.rank ≡ s.agent.rank) one.given two.given one.of_rank
          (subst (λ r. AllByRecursion (λ (x : Given). x.row.rank ≡ r) two.given) same two.of_rank);
      gifts = each_append (IsGiven face) one.given two.given one.gifts
          (still_given face face_between two.given
          (subst (AllByRecursion (λ (r : Row). gives r.step r.call ≡ false)) (sym two_rows) none) two.gifts);
      gains = λ place low. elim (leb_tells (length board_between.entries) place) [
        | inl past ↦ two.gains place past.1
        | inr before ↦ by_first place low before.1
      ];
      handed = handed_twice face face_between face_after one.handed two.handed;
      pending = two.pending ∙ one.pending;
      ahead = further (updates_ahead after) (updates_ahead between) (updates_ahead s) two.ahead one.ahead;
      below = further after.free between.free s.free two.below one.below;
    }
  where
    further : (a b c : ℕ) → a ≤ b → b ≤ c → a ≤ c
    further a b c h k = omega arith

    between_long : length board_between.entries ≡ length first.rows
    between_long = sym (as_many board_between) ∙ ap length (sym at_rows)

    long : length board.entries ≤ length first.rows
    long =
        let e : length board_between.entries ≡ length board.entries + length one.given =
        ap (λ (b : BoardState). length b.entries) one.entries ∙ length-append board.entries one.given in
        let f = between_long in
        omega arith

    dropped_second : drop (length board_between.entries) second.rows ≡ more
    dropped_second =
        ap (drop (length board_between.entries)) grows
        ∙ (ap (λ n. drop n (first.rows ++ more)) between_long ∙ drop-append_seam first.rows more)

    dropped_all : drop (length board.entries) second.rows ≡ drop (length board.entries) first.rows ++ more
    dropped_all =
        ap (drop (length board.entries)) grows ∙ drop-append-le (length board.entries) first.rows more long

    two_rows : rows_given two.given ≡ map kept_row more
    two_rows = given_rows board_between board_after two.given (map kept_row more) two.entries
        (two.rows ∙ ap (λ l. rows_on board_between ++ map kept_row l) dropped_second)

    by_first : (place : ℕ) → length board.entries ≤ place → place < length board_between.entries →
        IfSome (slice_get second.rows place)
        (λ (r : Row). IfSome (gained_by board_after.ranks (take place board_after.entries) r) (IsMet face_after))
    by_first place low before =
        subst (λ rows. IfSome (slice_get rows place)
        (λ (r : Row). IfSome (gained_by board_after.ranks (take place board_after.entries) r) (IsMet face_after)))
        (sym grows)
        (got_before first.rows more
        (λ (r : Row). IfSome (gained_by board_after.ranks (take place board_after.entries) r) (IsMet face_after)) place
        (subst (λ n. place < n) between_long before)
        (if_some_weaker
        (λ (r : Row). IfSome (gained_by board_between.ranks (take place board_between.entries) r) (IsMet face_between))
        (λ (r : Row). IfSome (gained_by board_after.ranks (take place board_after.entries) r) (IsMet face_after))
        (λ r h. subst (λ gains. IfSome gains (IsMet face_after)) (sym (same_gains r))
        (if_some_weaker (IsMet face_between) (IsMet face_after)
        (λ front met. still_met face_between face_after front two.handed met)
        (gained_by board_between.ranks (take place board_between.entries) r) h))
        (slice_get first.rows place)
        (one.gains place low)))
      where
        same_gains : (r : Row) → gained_by board_after.ranks (take place board_after.entries) r
            ≡ gained_by board_between.ranks (take place board_between.entries) r
        same_gains r =
            ap (λ (b : BoardState). gained_by b.ranks (take place b.entries) r) two.entries
            ∙ ap (λ l. gained_by board_between.ranks l r)
            (take-append-le place board_between.entries two.given (below_is place
            (length board_between.entries) before))
