-- A step at the board, after entries that others put.
use Rattle.std.proofs.Common.{◌≡◌, ℕ, ◌<◌, ◌≤◌, Bool, true, false, cond, List, ◌++◌, length, map, Option, None, Some}
use Rattle.std.proofs.Common.{IfSome, refl, sym, ◌∙◌, ap, subst, arith}
use Rattle.std.specs.Prelude.{◌||◌, drop, is_none, slice_get, slice_index, take, Result, Ok, Err, IfOk, OnErr, IsSome}
use Rattle.std.specs.List.{AllByRecursion}
use Rattle.std.specs.Option.{option_map_or}
use Rattle.std.proofs.Math.Seq.{drop-append_seam}
use Rattle.list_laws.proofs.Each.{each_weaker}
use Rattle.list_laws.proofs.Options.{if_some_weaker}
use Rattle.list_laws.proofs.Truths.{both_left, both_right}
use Rattle.rma_types.specs.declared.accesses.Step.{Step}
use Rattle.rma_types.specs.declared.actions.Synchronisation.{Synchronisation}
use Rattle.rma_types.specs.declared.actions.Synchronisation.TheVariants.{Fences, Posts, Starts, Completes, Waits, Locks}
use Rattle.rma_types.specs.declared.actions.Synchronisation.TheVariants.{Unlocks, Flushes, Syncs}
use Rattle.rma_types.specs.declared.calls.Call.{Call}
use Rattle.rma_types.specs.Actions.{synchronisation_of}
use Rattle.board_rules.specs.Entries.{Row, is_arrive}
use Rattle.call_rules.specs.declared.cells.Cell.{Cell}
use Rattle.call_rules.specs.Layout.{cells_of}
use Rattle.cell_face.specs.Faces.{Face, Keeps, cell_count, low_at}
use Rattle.kept_rows.specs.Gifts.{Front, Given, gained_by, rows_given}
use Rattle.kept_rows.specs.KeptCalls.{kept_row}
use Rattle.rank_engine.specs.BoardAnswers as engine
use Rattle.rank_engine.specs.BoardAnswers.{AlwaysTells, AreTold, IsBoardAnswer, IsMet, IsTold, StepsAtBoard}
use Rattle.rank_engine.specs.DataAnswers.{HasRoom}
use Rattle.rank_engine.specs.Entering.{IsHandedOver}
use Rattle.rank_engine.specs.KeptItems.{PutsFirst}
use Rattle.rank_engine.specs.RankStates.{RankState, AreOwnRows, needs_entry}
use Rattle.rank_engine.specs.Shares.{updates_ahead}
use Rattle.rank_engine.specs.declared.answers.Turned.{Turned}
use Rattle.rank_engine.specs.declared.answers.Turned.TheVariants.{Did, NotYet, Again, Full, Ended}
use Rattle.rank_histories.proofs.Looking.{between_looks, given_by}
use Rattle.rank_histories.proofs.Recording.{recorded_at_board}
use Rattle.rank_histories.proofs.Stopping.{waits_stops}
use Rattle.rank_histories.specs.Among as histories
use Rattle.rank_histories.specs.Among.{AreOfOthers, GivesLows, IsMetBy, PutsAmong, Tells}
use Rattle.rank_histories.specs.Partly.{IsAmong, IsBetween}
use Rattle.rank_laws.specs.Lives.{Stops}
use Rattle.shared_ranks.specs.Ranks.{IsGoing, IsSameMemory, IsStanding, IsStopped, RunRank}
use Rattle.shared_ranks.specs.Standings.{standing_by}
use Rattle.step_runs.specs.Agents.{tries_entry}
use Rattle.step_runs.specs.BoardSteps.{board_step}
use Rattle.sync_board.specs.Boards.{BoardState, IsFrontOfToken, IsGiftOfToken, rows_on}

-- ---- what is given

hands_same : (s : Synchronisation) → engine.hands_on s ≡ histories.hands_on s
hands_same (Fences asserts) = refl
hands_same (Posts group asserts) = refl
hands_same (Starts group asserts) = refl
hands_same Completes = refl
hands_same (Waits tests) = refl
hands_same (Locks kind target asserts) = refl
hands_same (Unlocks target) = refl
hands_same (Flushes target local) = refl
hands_same Syncs = refl

gives_same : (step : Step) (call : Call) → engine.gives step call ≡ histories.gives step call
gives_same step call = ap (λ b. is_arrive step || b) (by (synchronisation_of call))
  where
    by : (o : Option Synchronisation) →
        option_map_or engine.hands_on o false ≡ option_map_or histories.hands_on o false
    by None = refl
    by (Some s) = hands_same s

-- a token that tells was given exactly where one is given
lows_given : (face : Face) (given : List Given) → AllByRecursion (IsTold face) given →
    AllByRecursion (GivesLows face.lows) given
lows_given face given =
    each_weaker (IsTold face) (GivesLows face.lows) (λ one is. is
    ∙ ap (λ b. cond b (Some (Some face.lows)) None) (gives_same one.row.step one.row.call)) given

-- each gift tells, where each token does
pub all_tell : {N : Type 0} (front_of : N → Front) → AlwaysTells front_of → (entries : List Given) →
    AllByRecursion (IsGiftOfToken front_of) entries → AllByRecursion Tells entries
all_tell front_of always entries =
    each_weaker (IsGiftOfToken front_of) Tells (λ one of. by one.gift of) entries
  where
    none : IsFrontOfToken front_of None → ⊥
    none from = let some = subst (λ (f : Front). IsSome f) (sym from.same) (always from.token) in cc some

    by : (gift : Option Front) → IfSome gift (IsFrontOfToken front_of) → gift ≡ Some None → ⊥
    by gift of e = none (subst (λ (g : Option Front). IfSome g (IsFrontOfToken front_of)) e of)

-- ---- the step

none_is : (o : Option ℕ) → is_none o ≡ true → o ≡ None
none_is None e = refl
none_is (Some at) e = absurd (cc e)

-- a rank that tries an entry delivers nothing
pub entry_closed : (state : RankState) → needs_entry state ≡ true → state.opened ≡ None
entry_closed state needs =
    none_is state.opened (both_left (is_none state.opened) (tries_entry state.stage state.agent) needs)

-- The step of a rank at a board with these entries. ready: its board is of the run, and its gifts tell.
pub record IsLook (before after : RankState) (waiting : Bool) (board board_after : BoardState) (face face_after : Face)
    (knew knows : ℕ → Cell → Type 0) : Type 0 where
  pub needs : needs_entry before ≡ true
  pub ranks : board.ranks ≡ before.stage.script.ranks
  pub tells : AllByRecursion Tells board.entries
  pub steps : StepsAtBoard before after waiting board board_after face face_after
  pub told : AreTold face board board_after
  pub keeps : Keeps knew knows

gains_met : (ranks cells : ℕ) (board : BoardState) (rows : List Row) (face : Face) (before given : List Given) →
    board.entries ≡ before ++ given → board.ranks ≡ ranks → cell_count face ≡ cells →
    engine.AreGainsMet (length before) board rows face →
    histories.AreGainsMet ranks cells (length before) (before ++ given) rows face.lows
gains_met ranks cells board rows face before given entries same room gains place le =
    if_some_weaker (λ row. IfSome (gained_by board.ranks (take place board.entries) row) (IsMet face))
    (λ row. IfSome (gained_by ranks (take place (before ++ given)) row) (IsMetBy cells face.lows))
    (λ row met. if_some_weaker (IsMet face) (IsMetBy cells face.lows) front
    (gained_by ranks (take place (before ++ given)) row)
    (subst (λ n. IfSome (gained_by n (take place (before ++ given)) row) (IsMet face)) same
    (subst (λ l. IfSome (gained_by board.ranks (take place l) row) (IsMet face)) entries met)))
    (slice_get rows place) (gains place le)
  where
    front : (f : Front) → IsMet face f → IsMetBy cells face.lows f
    front f = if_some_weaker
        (λ places. (cell : ℕ) → cell < cell_count face → slice_index places cell ≤ low_at face cell)
        (λ places. (cell : ℕ) → cell < cells → slice_index places cell ≤ slice_index face.lows cell)
        (λ places met cell lt. met cell (subst (λ n. cell < n) (sym room) lt)) f

-- what it put, gave and gained
puts_among : (before after : RankState) (waiting : Bool) (board board_after : BoardState) (face face_after : Face)
    (knew knows : ℕ → Cell → Type 0)
    (look : IsLook before after waiting board board_after face face_after knew knows) →
    cell_count face ≡ cells_of before.stage.layout →
    PutsAmong before.stage before.agent board.entries look.steps.given face.lows face_after.lows
puts_among before after waiting board board_after face face_after knew knows look cells =
    let steps = look.steps in
    let given = steps.given in
    let made = (board_step before.stage before.agent (rows_on board)).rows in
    let now : board_after.entries ≡ board.entries ++ given = ap (λ (b : BoardState). b.entries) steps.entries in
    record {
      tries = both_right (is_none before.opened) (tries_entry before.stage before.agent) look.needs;
      rows = given_by board.entries given (map kept_row (drop (length board.entries) made))
          (sym (ap rows_on steps.entries) ∙ steps.rows);
      gifts = lows_given face given (subst (AllByRecursion (IsTold face))
          (ap (drop (length board.entries)) now ∙ drop-append_seam board.entries given) look.told);
      tells = look.tells;
      gains = gains_met before.stage.script.ranks (cells_of before.stage.layout) board_after made face_after
          board.entries given now (ap (λ (b : BoardState). b.ranks) steps.entries ∙ look.ranks)
          (steps.unwritten.stays.cells ∙ cells) steps.gains;
      rise = λ cell lt. steps.unwritten.stays.lows cell;
    }

-- the rank goes on after it
pub looked : (run : RunRank) (before after : RankState) (waiting : Bool) (board board_after : BoardState)
    (face face_after : Face) (knew knows : ℕ → Cell → Type 0) (known others : List Given) →
    IsLook before after waiting board board_after face face_after knew knows →
    board.entries ≡ known ++ others → AreOfOthers run.number others → IsGoing run before known face knew →
    IsGoing run after board_after.entries face_after knows
looked run before after waiting board board_after face face_after knew knows known others look entries apart going =
    let steps = look.steps in
    let given = steps.given in
    let now : board_after.entries ≡ board.entries ++ given = ap (λ (b : BoardState). b.entries) steps.entries in
    let all : board_after.entries ≡ (known ++ others) ++ given = now ∙ ap (λ l. l ++ given) entries in
    let closed = entry_closed before look.needs in
    let next = (board_step before.stage before.agent (rows_on board)).agent in
    let was : IsBetween before.stage run.seed run.number known before.agent before.touched face =
    subst (λ o. IsAmong o before.stage run.seed run.number known before.agent before.touched face knew) closed
    going.among in
    let puts = puts_among before after waiting board board_after face face_after knew knows look going.cells in
    let between : IsBetween before.stage run.seed run.number ((known ++ others) ++ given)
    (board_step before.stage before.agent (rows_given (known ++ others))).agent before.touched face_after =
    between_looks before.stage run.seed run.number known others given before.agent before.touched face face_after was
    apart (subst (λ l. PutsAmong before.stage before.agent l given face.lows face_after.lows) entries puts) in
    let is : IsBetween before.stage run.seed run.number board_after.entries next before.touched face_after =
    subst (λ l. IsBetween before.stage run.seed run.number l next before.touched face_after) (sym all)
    (subst (λ l. IsBetween before.stage run.seed run.number ((known ++ others) ++ given)
    (board_step before.stage before.agent (rows_given l)).agent before.touched face_after) (sym entries) between) in
    let share : updates_ahead after ≤ face_after.share =
    (let ahead = steps.ahead in
    let more = steps.unwritten.share in
    let enough = going.room.share in
    omega (arith, ahead, more, enough)) in
    let room : cells_of after.stage.layout ≤ cell_count face_after =
    subst (λ (s : RankState). cells_of s.stage.layout ≤ cell_count face_after) (sym steps.rank)
    (let same = steps.unwritten.stays.cells in let enough = going.room.cells in omega (arith, same, enough)) in
    let own = subst (λ (s : RankState). AreOwnRows s.stage s.agent (rows_on board_after)) steps.rank steps.own in
    subst (λ s. IsGoing run s board_after.entries face_after knows) (sym steps.rank) (record {
      stage = going.stage;
      cells = steps.unwritten.stays.cells ∙ going.cells;
      room = subst (λ (s : RankState). HasRoom s face_after) steps.rank (record { cells = room; share = share });
      own = own;
      among = subst (λ o. IsAmong o before.stage run.seed run.number board_after.entries next before.touched face_after
          knows) (sym closed) is;
      recorded = recorded_at_board before.stage run.number before.agent (rows_on board) face face_after knew knows
          going.recorded steps.unwritten.updates look.keeps;
    })

-- and stops, where it waits
pub waits : (before after : RankState) (board board_after : BoardState) (face face_after : Face)
    (knew knows : ℕ → Cell → Type 0) → IsLook before after true board board_after face face_after knew knows →
    cell_count face ≡ cells_of before.stage.layout → IsStopped after board_after.entries
waits before after board board_after face face_after knew knows look cells =
    let steps = look.steps in
    let given = steps.given in
    let now : board_after.entries ≡ board.entries ++ given = ap (λ (b : BoardState). b.entries) steps.entries in
    let puts = puts_among before after true board board_after face face_after knew knows look cells in
    record {
      closed = ap (λ (s : RankState). s.opened) steps.rank ∙ entry_closed before look.needs;
      stops = subst (λ l. Stops after.stage after.agent (rows_given l)) (sym now)
          (subst (λ (s : RankState). Stops s.stage s.agent (rows_given (board.entries ++ given))) (sym steps.rank)
          (waits_stops before.stage before.agent board.entries given puts.tries puts.rows steps.waits));
    }

-- ---- the answer

-- What is known of a rank's step at a board, whatever it answers. others: the entries that the rank did not know.
pub record IsAsked (run : RunRank) (before : RankState) (known others : List Given) (board : BoardState) (face : Face)
    (knew knows : ℕ → Cell → Type 0) : Type 0 where
  pub free : before.free ≡ 4294967295
  pub needs : needs_entry before ≡ true
  pub ranks : board.ranks ≡ before.stage.script.ranks
  pub tells : AllByRecursion Tells board.entries
  pub keeps : Keeps knew knows
  pub entries : board.entries ≡ known ++ others
  pub apart : AreOfOthers run.number others
  pub going : IsGoing run before known face knew

pub board_answered : (turned : Turned) (run : RunRank) (before after : RankState) (known others : List Given)
    (board board_after : BoardState) (face face_after : Face) (knew knows : ℕ → Cell → Type 0) →
    IsAsked run before known others board face knew knows →
    AreTold face board board_after → IsBoardAnswer turned before after board board_after face face_after →
    IsStanding (standing_by turned) run after board_after.entries face_after knows
board_answered Did run before after known others board board_after face face_after knew knows asked told h =
    looked run before after false board board_after face face_after knew knows known others (record {
      needs = asked.needs;
      ranks = asked.ranks;
      tells = asked.tells;
      steps = h.1;
      told = told;
      keeps = asked.keeps;
    }) asked.entries asked.apart asked.going
board_answered NotYet run before after known others board board_after face face_after knew knows asked told h =
    let look : IsLook before after true board board_after face face_after knew knows = record {
      needs = asked.needs;
      ranks = asked.ranks;
      tells = asked.tells;
      steps = h.1;
      told = told;
      keeps = asked.keeps;
    } in (
      looked run before after true board board_after face face_after knew knows known others look asked.entries
          asked.apart asked.going,
      waits before after board board_after face face_after knew knows look asked.going.cells,
    )
board_answered Again run before after known others board board_after face face_after knew knows asked told h = absurd h
board_answered Full run before after known others board board_after face face_after knew knows asked told h =
    absurd (let low = h.0 in let free = asked.free in omega (arith, low, free))
board_answered Ended run before after known others board board_after face face_after knew knows asked told h = absurd h

-- ---- what the board is given back with

-- The board begins with all entries that it had, and those that follow are of this rank.
pub record PutsOwn (rank : ℕ) (board board_after : BoardState) : Type 0 where
  pub given : List Given
  pub entries : board_after ≡ record board { entries = board.entries ++ given }
  pub of_rank : AllByRecursion (λ (one : Given). one.row.rank ≡ rank) given

steps_own : (before after : RankState) (waiting : Bool) (board board_after : BoardState) (face face_after : Face) →
    StepsAtBoard before after waiting board board_after face face_after →
    PutsOwn before.agent.rank board board_after × IsSameMemory face face_after
steps_own before after waiting board board_after face face_after steps = (
  record { given = steps.given; entries = steps.entries; of_rank = steps.of_rank },
  record { name = steps.unwritten.stays.name; grant = steps.unwritten.stays.grant },
)

answer_own : (turned : Turned) (before after : RankState) (board board_after : BoardState) (face face_after : Face) →
    before.free ≡ 4294967295 → IsBoardAnswer turned before after board board_after face face_after →
    PutsOwn before.agent.rank board board_after × IsSameMemory face face_after
answer_own Did before after board board_after face face_after free h =
    steps_own before after false board board_after face face_after h.1
answer_own NotYet before after board board_after face face_after free h =
    steps_own before after true board board_after face face_after h.1
answer_own Again before after board board_after face face_after free h = absurd h
answer_own Full before after board board_after face face_after free h =
    absurd (let low = h.0 in omega (arith, low, free))
answer_own Ended before after board board_after face face_after free h = absurd h

-- whether memory ran out or not
pub puts_own : {E : Type 0} (r : Result Turned E) (before after : RankState) (rows : List Row)
    (board board_after : BoardState) (face face_after : Face) → before.free ≡ 4294967295 →
    IfOk r (λ turned. IsBoardAnswer turned before after board board_after face face_after) →
    OnErr r (PutsFirst before.agent.rank rows board board_after) → OnErr r (IsHandedOver face face_after) →
    PutsOwn before.agent.rank board board_after × IsSameMemory face face_after
puts_own (Ok turned) before after rows board board_after face face_after free answer put handed =
    answer_own turned before after board board_after face face_after free answer
puts_own (Err error) before after rows board board_after face face_after free answer put handed = (
  record { given = put.given; entries = put.entries; of_rank = put.of_rank },
  record { name = handed.unwritten.stays.name; grant = handed.unwritten.stays.grant },
)
