-- A turn of one rank leaves the run in the world after that turn.
use Rattle.std.proofs.Common.{◌≡◌, ℕ, zero, suc, ◌+◌, ◌<◌, ◌≤◌, inl, inr, Bool, false, cond, List, [], ◌∷◌, ◌++◌}
use Rattle.std.proofs.Common.{length, map, get_or, set, drop, Some, refl, sym, ap, ◌∙◌, subst, arith}
use Rattle.std.specs.Prelude.{◌==◌, sum_by}
use Rattle.std.specs.List.{filter, AllByRecursion}
use Rattle.std.proofs.lemmas.Bool.{cases_eq, ne_eqb}
use Rattle.std.proofs.lemmas.List.{append-nil, map-append, length-map, map-set, length-set, get_or-map, get_or-set_same}
use Rattle.std.proofs.lemmas.List.{get_or-set_other}
use Rattle.std.proofs.lemmas.List.Elements.{filter-append}
use Rattle.std.proofs.lemmas.List.Sums.{sum_by-set, sum_by-take-drop}
use Rattle.rma_types.specs.declared.calls.Call.{Call}
use Rattle.board_rules.specs.Entries.{Row}
use Rattle.cell_face.specs.PlainCells.{PlainCells, plain_face}
use Rattle.kept_rows.specs.Gifts.{Given, rows_given}
use Rattle.kept_rows.specs.KeptCalls.{kept_row}
use Rattle.kept_rows.specs.KeptRowLaws.{kept_rows}
use Rattle.lawful_runs.specs.Stages.{Stage, calls_at}
use Rattle.kept_rows.proofs.KeptRowLawLaws.{rows_twice}
use Rattle.rank_engine.specs.BoardAnswers.{StepsAtBoard}
use Rattle.rank_engine.specs.RankStates.{RankState, AreOwnRows, IsBetween, own_rows}
use Rattle.rank_engine.specs.Shares.{updates_ahead, updates_left, updates_of}
use Rattle.rank_runners.specs.Runs.{no_state, state_at, IsRank, IsWorld}
use Rattle.rank_runners.specs.Steps.{IsMade}
use Rattle.rank_histories.proofs.KeptSteps.{Laws, Alike, alike_step}
use Rattle.rank_runners.proofs.Onward.{IsOn, board_goes_on, PutsNone, entries_in}
use Rattle.step_runs.specs.Agents.{Agent, new_agent}
use Rattle.step_runs.specs.BoardSteps.{AtBoard, board_step}
use Rattle.step_runs.specs.DataSteps.{OnMemory}
use Rattle.step_runs.specs.StepRun.{World, agent_at, turn_at_board, turn_on_memory}
use Rattle.sync_board.specs.Boards.{BoardState, rows_on}

-- ---- ranks

-- the rank's agent is that of the world
pub same_agent : (stage : Stage) (states : List RankState) (world : World) (rank : ℕ) → rank < length states
    → map (λ (state : RankState). state.agent) states ≡ world.agents
    → (state_at stage states rank).agent ≡ agent_at stage world rank
same_agent stage states world rank h e =
    sym (get_or-map (λ (state : RankState). state.agent) states rank (no_state stage rank) (new_agent stage 0 rank) h)
    ∙ ap (λ (agents : List Agent). get_or agents rank (new_agent stage 0 rank)) e

-- one rank is another, and all others are as they were
pub ranks_with : (P : ℕ → RankState → Type 0) (stage : Stage) (states : List RankState) (rank : ℕ) (state : RankState)
    → rank < length states → P rank state
    → ((other : ℕ) → other < length states → (other ≡ rank → ⊥) → P other (state_at stage states other))
    → (other : ℕ) → other < length states → P other (state_at stage (set states rank state) other)
ranks_with P stage states rank state h here others other l = elim (cases_eq other rank) [
  | inl same ↦
      let e : state_at stage (set states rank state) other ≡ state =
      ap (λ k. get_or (set states rank state) k (no_state stage other)) same
      ∙ get_or-set_same states rank state (no_state stage other) h in
      subst (λ s. P other s) (sym e) (subst (λ k. P k state) (sym same) here)
  | inr apart ↦ subst (λ s. P other s) (sym (get_or-set_other states rank other state (no_state stage other) apart))
      (others other l apart)
]

-- the shares of all ranks together
pub share_with : (stage : Stage) (states : List RankState) (rank share share_after : ℕ) (state : RankState)
    → rank < length states
    → share + updates_ahead state ≤ share_after + updates_ahead (state_at stage states rank)
    → sum_by updates_ahead states ≤ share → sum_by updates_ahead (set states rank state) ≤ share_after
share_with stage states rank share share_after state h less all =
    let sums = sum_by-set updates_ahead states rank state (no_state stage rank) h in
    omega arith

-- ---- rows of other ranks

none_of : (rank other : ℕ) (given : List Given) → (other ≡ rank → ⊥)
    → AllByRecursion (λ (one : Given). one.row.rank ≡ rank) given
    → filter (λ (row : Row). row.rank == other) (rows_given given) ≡ []
none_of rank other [] apart h = refl
none_of rank other (one ∷ given) apart h =
    let e : (one.row.rank == other) ≡ false = ne_eqb one.row.rank other (λ same. let is = h.0 in apart (omega arith)) in
    let rest = filter (λ (row : Row). row.rank == other) (rows_given given) in
    ap (λ b. cond b (one.row ∷ rest) rest) e ∙ none_of rank other given apart h.1

pub rows_stay : (rank other : ℕ) (board board_after : BoardState) (given : List Given) → (other ≡ rank → ⊥)
    → AllByRecursion (λ (one : Given). one.row.rank ≡ rank) given
    → board_after ≡ record board { entries = board.entries ++ given }
    → filter (λ (row : Row). row.rank == other) (rows_on board_after)
    ≡ filter (λ (row : Row). row.rank == other) (rows_on board)
rows_stay rank other board board_after given apart all e =
    let kept = filter (λ (row : Row). row.rank == other) (rows_on board) in
    ap (λ (b : BoardState). filter (λ (row : Row). row.rank == other) (rows_on b)) e
    ∙ ap (λ (rows : List Row). filter (λ (row : Row). row.rank == other) rows)
    (map-append (λ (one : Given). one.row) board.entries given)
    ∙ filter-append (λ (row : Row). row.rank == other) (rows_on board) (rows_given given)
    ∙ ap (λ (rows : List Row). kept ++ rows) (none_of rank other given apart all) ∙ append-nil kept

-- ---- at the board

drop_all : {X : Type 0} (xs ys : List X) → drop (length xs) (xs ++ ys) ≡ ys
drop_all [] ys = refl
drop_all (x ∷ xs) ys = drop_all xs ys

-- the rows of the board are those of the world after the step
rows_after : (xs ys : List Row) (a b : AtBoard) → kept_rows xs ≡ xs → Alike xs a b
    → ys ≡ xs ++ map kept_row (drop (length xs) a.rows) → ys ≡ kept_rows b.rows
rows_after xs ys a b k h e =
    let tail : drop (length xs) a.rows ≡ h.more = ap (drop (length xs)) h.grown ∙ drop_all xs h.more in
    e ∙ ap (λ (rows : List Row). xs ++ map kept_row rows) tail
    ∙ ap (λ (rows : List Row). rows ++ kept_rows h.more) (sym k)
    ∙ sym (map-append kept_row xs h.more) ∙ ap kept_rows (sym h.grown) ∙ h.kept

sum_less : (f : Call → ℕ) (k : ℕ) (xs : List Call) → sum_by f (drop k xs) ≤ sum_by f xs
sum_less f k xs = let parts = sum_by-take-drop f xs k in omega arith

sum_falls : (f : Call → ℕ) (a b : ℕ) (xs : List Call) → a ≤ b → sum_by f (drop b xs) ≤ sum_by f (drop a xs)
sum_falls f zero b xs h = sum_less f b xs
sum_falls f (suc a) zero xs h = absurd (omega arith)
sum_falls f (suc a) (suc b) [] h = let none : sum_by f (drop (suc b) []) ≡ 0 = refl in omega arith
sum_falls f (suc a) (suc b) (x ∷ xs) h = sum_falls f a b xs (omega arith)

-- a rank that came further has no more to update
ahead_falls : (before after : RankState) → after.stage ≡ before.stage → IsOn before.agent after.agent
    → after.touched ≡ before.touched
    → updates_ahead after ≤ updates_ahead before
ahead_falls before after s on t =
    let calls = calls_at before.stage before.agent.rank in
    let same : calls_at after.stage after.agent.rank ≡ calls =
    ap (λ stage. calls_at stage after.agent.rank) s ∙ ap (λ rank. calls_at before.stage rank) on.rank in
    let left : updates_left (calls_at after.stage after.agent.rank) after.agent.pending after.touched
    ≡ updates_left calls before.agent.pending before.touched =
    ap (λ (list : List Call). updates_left list after.agent.pending after.touched) same
    ∙ ap (λ pending. updates_left calls pending after.touched) on.pending
    ∙ ap (λ touched. updates_left calls before.agent.pending touched) t in
    let rest : sum_by updates_of (drop after.agent.at (calls_at after.stage after.agent.rank))
    ≡ sum_by updates_of (drop after.agent.at calls) =
    ap (λ (list : List Call). sum_by updates_of (drop after.agent.at list)) same in
    let less = sum_falls updates_of before.agent.at after.agent.at calls on.at in
    omega arith

-- the rank between two steps, whose accesses are as they were
between_still : (before after : RankState) → after.opened ≡ before.opened → after.touched ≡ before.touched
    → IsBetween before → IsBetween after
between_still before after o t b = record {
  closed = o ∙ b.closed;
  untouched = subst (λ touched. AllByRecursion (λ count. count ≡ 0) touched) (sym t) b.untouched;
}

-- ---- a turn

count_stays : (stage : Stage) (states : List RankState) (rank : ℕ) (state : RankState)
    → length states ≡ stage.script.ranks
    → length (set states rank state) ≡ stage.script.ranks
count_stays stage states rank state e = length-set states rank state ∙ e

agents_with : (states : List RankState) (agents : List Agent) (rank : ℕ) (state : RankState) (agent : Agent)
    → map (λ (one : RankState). one.agent) states ≡ agents → state.agent ≡ agent
    → map (λ (one : RankState). one.agent) (set states rank state) ≡ set agents rank agent
agents_with states agents rank state agent e f =
    map-set (λ (one : RankState). one.agent) states rank state
    ∙ ap (λ (list : List Agent). set list rank state.agent) e ∙ ap (λ one. set agents rank one) f

-- the agent of a step at the board is that of the world's step
stepped : Laws → (stage : Stage) (world : World) (rank : ℕ) (before after : RankState) (waits : Bool)
    (board board_after : BoardState)
    (memory memory_after : PlainCells) → before.stage ≡ stage → before.agent ≡ agent_at stage world rank
    → rows_on board ≡ kept_rows world.rows
    → StepsAtBoard before after waits board board_after (plain_face memory) (plain_face memory_after)
    → (step : AtBoard) → step ≡ board_step stage before.agent (rows_on board)
    → Alike (rows_on board) step (board_step stage (agent_at stage world rank) world.rows)
stepped l stage world rank before after waits board board_after memory memory_after s a r h step e =
    subst (λ one. Alike (rows_on board) one (board_step stage (agent_at stage world rank) world.rows)) (sym e)
    (subst (λ agent. Alike (rows_on board) (board_step stage before.agent (rows_on board))
    (board_step stage agent world.rows)) a
    (alike_step l stage before.agent (rows_on board) world.rows (ap kept_rows r ∙ rows_twice world.rows)))

own_after : (before after : RankState) (stage : Stage) (rows : List Row) → after.stage ≡ stage
    → AreOwnRows after.stage after.agent rows → AreOwnRows stage after.agent rows
own_after before after stage rows s own = subst (λ one. AreOwnRows one after.agent rows) s own

-- what the step of one rank at the board leaves
pub record IsTurn (stage : Stage) (rank : ℕ) (before after : RankState) (waits : Bool)
    (board board_after : BoardState) (memory memory_after : PlainCells)
    (step : AtBoard) : Type 0 where
  pub same_stage : after.stage ≡ stage
  pub same_agent : after.agent ≡ step.agent
  pub on : IsOn before.agent after.agent
  pub touched : after.touched ≡ before.touched
  pub opened : after.opened ≡ before.opened
  pub same_waits : step.waits ≡ waits
  pub same_rows : rows_on board_after ≡ kept_rows step.rows

pub turn_is : Laws → (stage : Stage) (world : World) (rank : ℕ) (before after : RankState) (waits : Bool)
    (board board_after : BoardState)
    (memory memory_after : PlainCells) → before.stage ≡ stage → before.agent ≡ agent_at stage world rank
    → rows_on board ≡ kept_rows world.rows
    → StepsAtBoard before after waits board board_after (plain_face memory) (plain_face memory_after)
    → IsTurn stage rank before after waits board board_after memory memory_after
    (board_step stage (agent_at stage world rank) world.rows)
turn_is l stage world rank before after waits board board_after memory memory_after s a r h =
    let own = board_step before.stage before.agent (rows_on board) in
    let there : own ≡ board_step stage before.agent (rows_on board) = ap
    (λ one. board_step one before.agent (rows_on board)) s in
    let alike = stepped l stage world rank before after waits board board_after memory memory_after s a r h own there in
    let after_agent : after.agent ≡ own.agent = ap (λ (one : RankState). one.agent) h.rank in
    let entries : length (rows_on board) ≡ length board.entries = length-map board.entries (λ (one : Given). one.row) in
    record {
      same_stage = ap (λ (one : RankState). one.stage) h.rank ∙ s;
      same_agent = after_agent ∙ alike.agent;
      on = subst (λ agent. IsOn before.agent agent) (sym after_agent)
          (board_goes_on before.stage before.agent (rows_on board));
      touched = ap (λ (one : RankState). one.touched) h.rank;
      opened = ap (λ (one : RankState). one.opened) h.rank;
      same_waits = sym alike.waits ∙ h.waits;
      same_rows = rows_after (rows_on board) (rows_on board_after) own
          (board_step stage (agent_at stage world rank) world.rows)
          (ap kept_rows r ∙ rows_twice world.rows ∙ sym r) alike
          (h.rows ∙ ap (λ n. rows_on board ++ map kept_row (drop n own.rows)) (sym entries));
    }

pub board_turned : Laws → (stage : Stage) (states : List RankState) (board board_after : BoardState)
    (memory memory_after : PlainCells) (world : World)
    (rank : ℕ) (after : RankState) (waits : Bool) → IsWorld stage states board memory world → rank < stage.script.ranks
    → StepsAtBoard (state_at stage states rank) after waits board board_after (plain_face memory)
    (plain_face memory_after)
    → IsWorld stage (set states rank after) board_after memory_after
    (turn_at_board world rank (board_step stage (agent_at stage world rank) world.rows))
board_turned l stage states board board_after memory memory_after world rank after waits w h steps =
    let count = w.count in
    let within : rank < length states = omega arith in
    let here = w.ranks rank h in
    let before = state_at stage states rank in
    let turn = turn_is l stage world rank before after waits board board_after memory memory_after here.same_stage
    (same_agent stage states world rank within w.agents) w.rows steps in
    let told : Some memory_after.cells ≡ Some memory.cells = steps.unwritten.told in
    let cells : memory_after.cells ≡ memory.cells = cc in
    let new = board_step stage (agent_at stage world rank) world.rows in
    let own : AreOwnRows stage after.agent (rows_on board_after) = subst
    (λ one. AreOwnRows one after.agent (rows_on board_after)) turn.same_stage steps.own in
    let same : after.stage ≡ before.stage = turn.same_stage ∙ sym here.same_stage in
    let number : after.agent.rank ≡ rank = turn.on.rank ∙ here.number in
    let shares : memory.share ≤ memory_after.share = steps.unwritten.share in
    let fewer = ahead_falls before after same turn.on turn.touched in
    record {
      count = count_stays stage states rank after count;
      agents = agents_with states world.agents rank after new.agent w.agents turn.same_agent;
      ranks = λ other k. ranks_with (λ n s. IsRank stage (rows_on board_after) n s) stage states rank after within
          (record {
            same_stage = turn.same_stage;
            number = number;
            between = between_still before after turn.opened turn.touched here.between;
            own = own;
          })
          (λ one l apart.
          let one_here = w.ranks one (omega arith) in
          let stays : filter (λ (row : Row). row.rank == one) (rows_on board_after)
          ≡ filter (λ (row : Row). row.rank == one) (rows_on board) =
          rows_stay before.agent.rank one board board_after steps.given
          (λ e. apart (e ∙ here.number)) steps.of_rank steps.entries in
          record {
            same_stage = one_here.same_stage;
            number = one_here.number;
            between = one_here.between;
            own = subst (λ n. filter (λ (row : Row). row.rank == n) (rows_on board_after)
                ≡ map kept_row (own_rows stage (state_at stage states one).agent))
                (sym one_here.number) (stays ∙ ap (λ n. filter (λ (row : Row). row.rank == n) (rows_on board))
                (sym one_here.number) ∙ one_here.own);
          })
          other (omega arith);
      of_run = record {
        ranks = ap (λ (b : BoardState). b.ranks) steps.entries ∙ w.of_run.ranks;
        layout = ap (λ (b : BoardState). b.layout) steps.entries ∙ w.of_run.layout;
        name = ap (λ (b : BoardState). b.name) steps.entries ∙ w.of_run.name;
      };
      rows = turn.same_rows;
      cells = cells ∙ w.cells;
      all_cells = ap length cells ∙ w.all_cells;
      share = share_with stage states rank memory.share memory_after.share after within (omega arith) w.share;
    }

pub data_turned : (stage : Stage) (states : List RankState) (board : BoardState) (memory memory_after : PlainCells)
    (world : World)
    (rank : ℕ) (after : RankState) (step : OnMemory) → IsWorld stage states board memory world
    → rank < stage.script.ranks
    → IsMade step (state_at stage states rank) after memory memory_after
    → PutsNone stage.script (state_at stage states rank).agent step.agent
    → length step.cells ≡ length memory.cells
    → IsWorld stage (set states rank after) board memory_after (turn_on_memory world rank step)
data_turned stage states board memory memory_after world rank after step w h made none size =
    let count = w.count in
    let within : rank < length states = omega arith in
    let here = w.ranks rank h in
    let before = state_at stage states rank in
    let puts : PutsNone stage.script before.agent after.agent = subst
    (λ agent. PutsNone stage.script before.agent agent) (sym made.agent) none in
    let entries : own_rows stage after.agent ≡ own_rows stage before.agent =
    ap (λ n. entries_in stage.script n after.agent.log) puts.rank ∙ puts.entries in
    record {
      count = count_stays stage states rank after count;
      agents = agents_with states world.agents rank after step.agent w.agents made.agent;
      ranks = λ other k. ranks_with (λ n s. IsRank stage (rows_on board) n s) stage states rank after within
          (record {
            same_stage = made.stage ∙ here.same_stage;
            number = puts.rank ∙ here.number;
            between = made.between;
            own = ap (λ n. filter (λ (row : Row). row.rank == n) (rows_on board)) puts.rank ∙ here.own
                ∙ ap (λ (rows : List Row). map kept_row rows) (sym entries);
          })
          (λ one l apart. w.ranks one (omega arith)) other (omega arith);
      of_run = w.of_run;
      rows = w.rows;
      cells = made.cells;
      all_cells = ap length made.cells ∙ size ∙ w.all_cells;
      share = share_with stage states rank memory.share memory_after.share after within made.share w.share;
    }
