-- The steps of a rank at the board that are made of one entry.
use Rattle.std.proofs.Common.{◌≡◌, ℕ, zero, suc, ◌+◌, ◌≤◌, false, List, [], ◌∷◌, ◌++◌, length, take, drop, None, refl}
use Rattle.std.proofs.Common.{sym, ◌∙◌, ap, subst, arith, length-append}
use Rattle.std.specs.Prelude.{◌==◌, ◌||◌, map, slice_get, IfSome}
use Rattle.std.specs.List.{filter, flat_map, sum_by}
use Rattle.std.specs.Option.{option_map_or}
use Rattle.std.proofs.lemmas.List.{append-nil, length-map}
use Rattle.std.proofs.lemmas.List.Sums.{sum_by-cons}
use Rattle.std.proofs.Math.Seq.{drop-append_seam, take-append_seam}
use Rattle.rma_types.specs.declared.accesses.Step.{Step}
use Rattle.rma_types.specs.declared.calls.Call.{Call}
use Rattle.rma_types.specs.declared.classes.Class.{Class}
use Rattle.rma_record.specs.declared.items.Item.{Item}
use Rattle.rma_record.specs.declared.items.Item.TheVariants.{Entry, Refused}
use Rattle.board_rules.specs.Board.{Refuse, Allow, NotYet as NotYetDecided, decide}
use Rattle.board_rules.specs.Entries.{Row, is_arrive}
use Rattle.cell_face.specs.Faces.{Face}
use Rattle.kept_rows.proofs.KeptActs.{synchronisation_kept}
use Rattle.kept_rows.specs.Gifts.{Given, gained_by}
use Rattle.rma_types.specs.KeptCalls.{kept_call}
use Rattle.kept_rows.specs.KeptCalls.{kept_row}
use Rattle.rma_types.specs.Actions.{synchronisation_of}
use Rattle.lawful_runs.specs.Logs.{row_by}
use Rattle.lawful_runs.specs.Stages.{calls_at, shapes_in}
use Rattle.step_runs.specs.Agents.{Agent, keep_item}
use Rattle.step_runs.specs.BoardSteps.{AtBoard, next_row, stay_waiting, put_entry, refuse_entry, enter_by, enter}
use Rattle.step_runs.specs.DataSteps.{with_item, without_delivery}
use Rattle.sync_board.specs.Boards.{BoardState, rows_on}
use Rattle.rank_engine.proofs.Ended.{no_row}
use Rattle.rank_engine.proofs.EntryRows.{own_still, rows_grow}
use Rattle.rank_engine.proofs.MovesMade.{nothing_touched}
use Rattle.rank_engine.specs.BoardAnswers.{IsGift, IsMet, hands_on}
use Rattle.rank_engine.specs.Entering.{IsHandedOver, IsPut, IsReady, IsTurn, StepsTo}
use Rattle.rank_engine.specs.Moves.{IsMove}
use Rattle.rank_engine.specs.RankStates.{RankState, AreOwnRows, own_rows}
use Rattle.rank_engine.specs.Shares.{updates_ahead, updates_left, updates_of}
use Rattle.rank_engine.specs.declared.answers.Turned.TheVariants.{Did, NotYet}

-- ---- updates ahead

later : (f : Call → ℕ) (xs : List Call) (n : ℕ) → sum_by f (drop (suc n) xs) ≤ sum_by f (drop n xs)
later f [] zero = omega arith
later f (x ∷ xs) zero = let all : sum_by f (x ∷ xs) ≡ f x + sum_by f xs = sum_by-cons f x xs in omega arith
later f [] (suc n) = omega arith
later f (x ∷ xs) (suc n) = later f xs n

-- a rank that is as far as it was has as many updates ahead
pub ahead_same : (s after : RankState) (next : Agent) → after ≡ record s { agent = next; free = after.free } →
    next.rank ≡ s.agent.rank → next.pending ≡ s.agent.pending → next.at ≡ s.agent.at →
    updates_ahead after ≤ updates_ahead s
ahead_same s after next is rank pending at =
    let e : updates_ahead after ≡ updates_ahead s =
    ap updates_ahead is
    ∙ (ap (λ r. sum_by updates_of (drop next.at (calls_at s.stage r))
    + updates_left (calls_at s.stage r) next.pending s.touched) rank
    ∙ (ap (λ p. sum_by updates_of (drop next.at (calls_at s.stage s.agent.rank))
    + updates_left (calls_at s.stage s.agent.rank) p s.touched) pending
    ∙ ap (λ n. sum_by updates_of (drop n (calls_at s.stage s.agent.rank))
    + updates_left (calls_at s.stage s.agent.rank) s.agent.pending s.touched) at)) in
    omega arith

-- so has one that ended a call, or fewer
pub ahead_less : (s after : RankState) (next : Agent) → after ≡ record s { agent = next; free = after.free } →
    next.rank ≡ s.agent.rank → next.pending ≡ s.agent.pending → next.at ≡ s.agent.at + 1 →
    updates_ahead after ≤ updates_ahead s
ahead_less s after next is rank pending at =
    let e : updates_ahead after ≡ sum_by updates_of (drop (suc s.agent.at) (calls_at s.stage s.agent.rank))
    + updates_left (calls_at s.stage s.agent.rank) s.agent.pending s.touched =
    ap updates_ahead is
    ∙ (ap (λ r. sum_by updates_of (drop next.at (calls_at s.stage r))
    + updates_left (calls_at s.stage r) next.pending s.touched) rank
    ∙ (ap (λ p. sum_by updates_of (drop next.at (calls_at s.stage s.agent.rank))
    + updates_left (calls_at s.stage s.agent.rank) p s.touched) pending
    ∙ ap (λ n. sum_by updates_of (drop n (calls_at s.stage s.agent.rank))
    + updates_left (calls_at s.stage s.agent.rank) s.agent.pending s.touched) (at ∙ one_more s.agent.at))) in
    let less = later updates_of (calls_at s.stage s.agent.rank) s.agent.at in
    fewer (updates_ahead after) (sum_by updates_of (drop (suc s.agent.at) (calls_at s.stage s.agent.rank)))
    (sum_by updates_of (drop s.agent.at (calls_at s.stage s.agent.rank)))
    (updates_left (calls_at s.stage s.agent.rank) s.agent.pending s.touched) e less
  where
    one_more : (n : ℕ) → n + 1 ≡ suc n
    one_more n = omega arith

    fewer : (a b c d : ℕ) → a ≡ b + d → b ≤ c → a ≤ c + d
    fewer a b c d e h = omega arith

-- ---- places past the rows

last_get : {X : Type 0} (xs : List X) (y : X) (P : X → Type 0) (place : ℕ) → length xs ≤ place →
    (place ≡ length xs → P y) → IfSome (slice_get (xs ++ y ∷ []) place) P
last_get [] y P zero l h = h refl
last_get [] y P (suc n) l h = tt
last_get (x ∷ xs) y P zero l h = absurd (omega arith)
last_get (x ∷ xs) y P (suc n) l h = last_get xs y P n (omega arith) (λ e. h (ap suc e))

pub past_get : {X : Type 0} (xs : List X) (P : X → Type 0) (place : ℕ) → length xs ≤ place →
    IfSome (slice_get xs place) P
past_get [] P place l = tt
past_get (x ∷ xs) P zero l = absurd (omega arith)
past_get (x ∷ xs) P (suc n) l = past_get xs P n (omega arith)

pub all_dropped : {X : Type 0} (xs : List X) → drop (length xs) xs ≡ []
all_dropped [] = refl
all_dropped (x ∷ xs) = all_dropped xs

pub as_many : (board : BoardState) → length (rows_on board) ≡ length board.entries
as_many board = length-map board.entries (λ (one : Given). one.row)

-- ---- an entry that is put

pub put_turn : (s after : RankState) (call : Call) (step : Step) (go : Agent → Agent) (place : ℕ)
    (board board_after : BoardState) (face face_after : Face) → ((a : Agent) → (go a).rank ≡ a.rank) →
    ((a : Agent) → (go a).log ≡ a.log) → ((a : Agent) → (go a).pending ≡ a.pending) → IsReady s call board face →
    IsPut (next_row s.agent call step) place board board_after face face_after → IsHandedOver face face_after →
    after ≡ record s { agent = (put_entry s.stage s.agent (rows_on board) call step go).agent; free = after.free } →
    updates_ahead after ≤ updates_ahead s → s.free ≤ after.free + 1 → after.free ≤ s.free →
    IsTurn Did 1 (enter s.stage s.agent (rows_on board) call step go) s after board board_after face face_after
put_turn s after call step go place board board_after face face_after ranks logs pendings ready put handed is ahead
    above
    below =
    subst (λ to. IsTurn Did 1 to s after board board_after face face_after) (sym is_entered) (record {
      says = refl;
      steps = record {
        rank = is;
        given = given;
        entries = put.put;
        rows = ap rows_on put.put
            ∙ (rows_grow board row put.gift ∙ ap (λ l. rows ++ map kept_row l) (sym dropped));
        own = subst (λ (x : RankState). AreOwnRows x.stage x.agent (rows_on board_after)) (sym is)
            (subst (λ (b : BoardState). AreOwnRows s.stage next (rows_on b)) (sym put.put)
            (own_still s.stage s.agent next call step (length rows) board put.gift ready.board_is.rows ready.here
            (ranks held) (logs held)));
        of_rank = (refl, tt);
        gifts = (subst (λ b. IsGift face b put.gift) (sym same_gives) put.given, tt);
        gains = λ n low. last_get rows row
            (λ (r : Row). IfSome (gained_by board_after.ranks (take n board_after.entries) r) (IsMet face_after)) n
            (subst (λ m. m ≤ n) (sym (as_many board)) low)
            (λ e. subst (λ gains. IfSome gains (IsMet face_after)) (sym (same_gains n (e ∙ as_many board))) put.gained);
        handed = handed;
        pending = ap (λ (x : RankState). x.agent.pending) is ∙ pendings held;
        ahead = ahead;
        below = below;
      };
      few = few (length after.agent.log) (length (s.agent.log ++ Entry s.agent.at (length rows) step ∷ []))
          (length s.agent.log) (ap (λ (x : RankState). length x.agent.log) is ∙ ap length (logs held))
          (length-append s.agent.log (Entry s.agent.at (length rows) step ∷ []));
      above = above;
    })
  where
    row : Row
    row = next_row s.agent call step

    rows : List Row
    rows = rows_on board

    held : Agent
    held = keep_item (shapes_in s.stage (rows_on board ++ next_row s.agent call step ∷ [])) s.stage s.agent
        (Entry s.agent.at (length (rows_on board)) step)

    next : Agent
    next = go (keep_item (shapes_in s.stage (rows_on board ++ next_row s.agent call step ∷ [])) s.stage s.agent
        (Entry s.agent.at (length (rows_on board)) step))

    given : List Given
    given = record { row = kept_row (next_row s.agent call step); gift = put.gift } ∷ []

    allowed : decide s.stage.script.ranks (rows_on board) (next_row s.agent call step) ≡ Allow
    allowed =
        ap (λ n. decide n (rows_on board) (next_row s.agent call step)) (sym ready.board_is.ranks) ∙ put.allowed

    is_entered : enter s.stage s.agent (rows_on board) call step go ≡ put_entry s.stage s.agent
        (rows_on board) call step go
    is_entered = ap (λ d. enter_by d s.stage s.agent (rows_on board) call step go) allowed

    dropped : drop (length board.entries) (rows_on board ++ next_row s.agent call step ∷ [])
        ≡ next_row s.agent call step ∷ []
    dropped =
        ap (λ n. drop n (rows_on board ++ next_row s.agent call step ∷ [])) (sym (as_many board))
        ∙ drop-append_seam (rows_on board) (next_row s.agent call step ∷ [])

    same_gives : (is_arrive step || option_map_or hands_on (synchronisation_of (kept_call call)) false)
        ≡ (is_arrive step || option_map_or hands_on (synchronisation_of call) false)
    same_gives = ap (λ o. is_arrive step || option_map_or hands_on o false) (synchronisation_kept call)

    same_gains : (n : ℕ) → n ≡ length board.entries →
        gained_by board_after.ranks (take n board_after.entries) (next_row s.agent call step)
        ≡ gained_by board.ranks board.entries (next_row s.agent call step)
    same_gains n e =
        ap (λ (b : BoardState). gained_by b.ranks (take n b.entries) (next_row s.agent call step)) put.put
        ∙ ap (λ l. gained_by board.ranks l (next_row s.agent call step))
        (ap (λ m. take m (board.entries
        ++ record { row = kept_row (next_row s.agent call step); gift = put.gift } ∷ [])) e
        ∙ take-append_seam board.entries _)

    few : (a b c : ℕ) → a ≡ b → b ≡ c + 1 → a ≤ c + 1
    few a b c e f = omega arith

-- ---- a step that puts no entry

pub still_steps : (to : AtBoard) (s after : RankState) (call : Call) (board : BoardState) (face face_after : Face) →
    IsReady s call board face → to.rows ≡ rows_on board → to.agent.rank ≡ s.agent.rank →
    flat_map (row_by s.stage.script s.agent.rank) to.agent.log ≡ own_rows s.stage s.agent →
    to.agent.pending ≡ s.agent.pending → after ≡ record s { agent = to.agent; free = after.free } →
    updates_ahead after ≤ updates_ahead s → after.free ≤ s.free → IsHandedOver face face_after →
    StepsTo to s after board board face face_after
still_steps to s after call board face face_after ready same rank own pending is ahead below handed = record {
  rank = is;
  given = [];
  entries = ap (λ l. record board { entries = l }) (sym (append-nil board.entries));
  rows = sym (append-nil (rows_on board)) ∙ ap (λ l. rows_on board ++ map kept_row l) (sym dropped);
  own = subst (λ (x : RankState). AreOwnRows x.stage x.agent (rows_on board)) (sym is)
      (ap (λ r. filter (λ (row : Row). row.rank == r) (rows_on board)) rank
      ∙ (ready.board_is.rows
      ∙ (ap (map kept_row) (sym own)
      ∙ ap (λ r. map kept_row (flat_map (row_by s.stage.script r) to.agent.log)) (sym rank))));
  of_rank = tt;
  gifts = tt;
  gains = λ n low. past_get to.rows
      (λ (r : Row). IfSome (gained_by board.ranks (take n board.entries) r) (IsMet face_after)) n
      (subst (λ m. m ≤ n) (sym (ap length same ∙ as_many board)) low);
  handed = handed;
  pending = ap (λ (x : RankState). x.agent.pending) is ∙ pending;
  ahead = ahead;
  below = below;
}
  where
    dropped : drop (length board.entries) to.rows ≡ []
    dropped =
        ap (λ n. drop n to.rows) (sym (ap length same ∙ as_many board)) ∙ all_dropped to.rows

-- an item that is no entry ends the call
pub item_moved : (s after : RankState) (item : Item) → s.opened ≡ None →
    IsMove s after (without_delivery (with_item s.stage s.agent item)) →
    (with_item s.stage s.agent item).pending ≡ s.agent.pending →
    after ≡ record s { agent = with_item s.stage s.agent item; free = after.free }
item_moved s after item closed move same =
    move.rank
    ∙ (ap (λ t. record s { agent = with_item s.stage s.agent item; touched = t; opened = None; free = after.free })
    (nothing_touched s.touched s.agent.pending)
    ∙ ap (λ o. record s { agent = with_item s.stage s.agent item; opened = o; free = after.free }) (sym closed))

pub waiting_turn : (s : RankState) (call : Call) (step : Step) (go : Agent → Agent) (board : BoardState)
    (face face_after : Face) → IsReady s call board face → IsHandedOver face face_after →
    decide board.ranks (rows_on board) (next_row s.agent call step) ≡ NotYetDecided →
    IsTurn NotYet 1 (enter s.stage s.agent (rows_on board) call step go) s s board board face face_after
waiting_turn s call step go board face face_after ready handed decided =
    subst (λ to. IsTurn NotYet 1 to s s board board face face_after) (sym is_waiting) (record {
      says = refl;
      steps = still_steps (stay_waiting s.agent (rows_on board)) s s call board face face_after ready refl refl refl
          refl
          refl
          (omega arith) (omega arith) handed;
      few = omega arith;
      above = omega arith;
    })
  where
    is_waiting : enter s.stage s.agent (rows_on board) call step go ≡ stay_waiting s.agent (rows_on board)
    is_waiting = ap (λ d. enter_by d s.stage s.agent (rows_on board) call step go)
        (ap (λ n. decide n (rows_on board) (next_row s.agent call step)) (sym ready.board_is.ranks) ∙ decided)

pub refused_turn : (s after : RankState) (call : Call) (step : Step) (go : Agent → Agent) (class : Class) (seen : ℕ)
    (board : BoardState) (face face_after : Face) → IsReady s call board face → IsHandedOver face face_after →
    decide board.ranks (rows_on board) (next_row s.agent call step) ≡ Refuse class → seen ≡ length board.entries →
    IsMove s after (without_delivery (with_item s.stage s.agent (Refused s.agent.at class seen))) →
    IsTurn Did 1 (enter s.stage s.agent (rows_on board) call step go) s after board board face face_after
refused_turn s after call step go class seen board face face_after ready handed decided all move =
    subst (λ to. IsTurn Did 1 to s after board board face face_after) (sym is_refused) (record {
      says = refl;
      steps = still_steps (refuse_entry s.stage s.agent (rows_on board) class) s after call board face face_after
          ready refl
          refl
          (no_row s.stage s.agent.rank s.agent.log (s.agent.log ++ item ∷ []) item refl refl) refl is
          (ahead_less s after (with_item s.stage s.agent item) is refl refl refl) move.below handed;
      few = few (length after.agent.log) (length (s.agent.log ++ item ∷ [])) (length s.agent.log)
          (ap (λ (x : RankState). length x.agent.log) is) (length-append s.agent.log (item ∷ []));
      above = move.above;
    })
  where
    item : Item
    item = Refused s.agent.at class (length (rows_on board))

    same : seen ≡ length (rows_on board)
    same = all ∙ sym (as_many board)

    is : after ≡ record s {
      agent = with_item s.stage s.agent (Refused s.agent.at class (length (rows_on board)));
      free = after.free;
    }
    is = subst (λ n. after ≡ record s {
      agent = with_item s.stage s.agent
          (Refused s.agent.at class n);
      free = after.free;
    })
        same (item_moved s after (Refused s.agent.at class seen) ready.closed move refl)

    is_refused : enter s.stage s.agent (rows_on board) call step go ≡ refuse_entry s.stage s.agent (rows_on board) class
    is_refused = ap (λ d. enter_by d s.stage s.agent (rows_on board) call step go)
        (ap (λ n. decide n (rows_on board) (next_row s.agent call step)) (sym ready.board_is.ranks) ∙ decided)

    few : (a b c : ℕ) → a ≡ b → b ≡ c + 1 → a ≤ c + 1
    few a b c e f = omega arith
