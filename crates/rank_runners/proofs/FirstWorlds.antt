-- The beginning of a run is in the first world.
use Rattle.std.proofs.Common.{◌≡◌, ℕ, zero, suc, ◌+◌, ◌*◌, ◌/◌, ◌<◌, ◌≤◌, Bool, true, false, List, [], ◌∷◌, ◌++◌}
use Rattle.std.proofs.Common.{length, map, get_or, replicate, refl, sym, ap, ◌∙◌, subst, arith}
use Rattle.std.specs.Prelude.{ℤ, pos, negsuc, sum_by, slice_get, if◌then◌else◌}
use Rattle.std.specs.List.{AllByRecursion, zip}
use Rattle.std.specs.Option.{option_map_or}
use Rattle.std.proofs.lemmas.List.{length-map, map-append, length-replicate}
use Rattle.std.proofs.lemmas.List.Sums.{sum_by-cons}
use Rattle.rma_types.specs.declared.calls.Call.{Call}
use Rattle.rma_types.specs.declared.schedules.Delay.{Delay}
use Rattle.rma_types.specs.declared.schedules.Order.{Order}
use Rattle.rma_types.specs.declared.schedules.Order.TheVariants.{Robin, Reverse, Greedy, Seeded}
use Rattle.rma_types.specs.declared.scripts.MemoryPart.{MemoryPart}
use Rattle.rma_types.specs.declared.scripts.Script.{Script}
use Rattle.call_rules.specs.Layout.{layout, cells_of, memory_bytes, parts_from, ranks_of}
use Rattle.call_rules.specs.Pieces.{numbers_from}
use Rattle.call_rules.specs.Touches.{empty_cell}
use Rattle.call_rules.proofs.NumbersFrom.{numbers_length, numbers_last}
use Rattle.access_steps.specs.Plans.{element_count, is_update}
use Rattle.rma_types.specs.declared.actions.Action.{Action}
use Rattle.rma_types.specs.declared.actions.Action.TheVariants.{Creates, Frees, Attaches, Detaches, Synchronises, Meets}
use Rattle.rma_types.specs.declared.actions.Action.TheVariants.{Moves, EndsRequest}
use Rattle.rma_types.specs.declared.actions.Transfer.{Transfer}
use Rattle.rma_types.specs.Actions.{action_of, transfer_in}
use Rattle.call_rules.specs.Ranks.{natural}
use Rattle.call_rules.specs.WellFormed.{IsUpTo, IsWellFormed, IsWrittenAction, IsWrittenCall}
use Rattle.lawful_runs.specs.Stages.{Stage, stage_of}
use Rattle.rank_engine.specs.RankStates.{RankState, new_state}
use Rattle.rank_engine.specs.Shares.{updates_ahead, updates_of}
use Rattle.rank_runners.specs.Marks.{IsKept}
use Rattle.rank_runners.specs.RankSets.{has}
use Rattle.rank_runners.specs.Runs.{no_state, state_at, IsRank, IsRun}
use Rattle.rank_runners.specs.declared.runners.Runner.{Runner}
use Rattle.step_runs.specs.Agents.{Agent, new_agent}
use Rattle.step_runs.specs.Schedules.{first_schedule, last_before}
use Rattle.step_runs.specs.StepRun.{first_world}
use Rattle.sync_board.specs.Boards.{BoardState, IsLayoutOf, rows_on}

pub map_replicate : {X Y : Type 0} (f : X → Y) (n : ℕ) (x : X) → map f (replicate n x) ≡ replicate n (f x)
map_replicate f zero x = refl
map_replicate f (suc n) x = ap (λ rest. f x ∷ rest) (map_replicate f n x)

-- one rank more
pub one_agent_more : (f : ℕ → RankState) (rank : ℕ) (states more : List RankState) (state : RankState)
    → states ≡ map f (numbers_from 0 rank) → more ≡ states ++ state ∷ [] → state ≡ f rank
    → more ≡ map f (numbers_from 0 (rank + 1))
one_agent_more f rank states more state e m s =
    let n : rank + 1 ≡ suc rank = omega arith in
    let k : 0 + rank ≡ rank = omega arith in
    m ∙ ap (λ (xs : List RankState). xs ++ state ∷ []) e
    ∙ ap (λ one. map f (numbers_from 0 rank) ++ one ∷ []) (s ∙ ap f (sym k))
    ∙ sym (ap (λ j. map f (numbers_from 0 j)) n ∙ ap (λ (xs : List ℕ). map f xs) (numbers_last 0 rank)
    ∙ map-append f (numbers_from 0 rank) ((0 + rank) ∷ []))

-- ---- the layout

quarter_cells : (cell : ℕ) (ranks : List (ℕ × List Call))
    → 4 * sum_by (λ (part : MemoryPart). part.bytes / 4) (parts_from cell ranks) ≤ sum_by
    (λ (rank : ℕ × List Call). memory_bytes rank.0 rank.1) ranks
quarter_cells cell [] = omega arith
quarter_cells cell (rank ∷ ranks) =
    let f : MemoryPart → ℕ = λ part. part.bytes / 4 in
    let g : (ℕ × List Call) → ℕ = λ one. memory_bytes one.0 one.1 in
    let bytes = memory_bytes rank.0 rank.1 in
    let a = sum_by-cons f (record { first_cell = cell; bytes = bytes }) (parts_from (cell + bytes / 4) ranks) in
    let b = sum_by-cons g rank ranks in
    let rest = quarter_cells (cell + bytes / 4) ranks in
    let one : 4 * (bytes / 4) ≤ bytes = omega arith in
    omega arith

pub few_cells : (script : Script) → IsWellFormed script → cells_of (layout script) ≤ 16384
few_cells script h = let all = quarter_cells 0 (ranks_of script) in let limit = h.limits.memory in omega arith

part_bytes : (cell rank : ℕ) (ranks : List (ℕ × List Call))
    → option_map_or (λ (part : MemoryPart). part.bytes) (slice_get (parts_from cell ranks) rank) 0 ≤ sum_by
    (λ (one : ℕ × List Call). memory_bytes one.0 one.1) ranks
part_bytes cell rank [] = omega arith
part_bytes cell zero (one ∷ ranks) =
    let g : (ℕ × List Call) → ℕ = λ one. memory_bytes one.0 one.1 in let b = sum_by-cons g one ranks in omega arith
part_bytes cell (suc rank) (one ∷ ranks) =
    let g : (ℕ × List Call) → ℕ = λ one. memory_bytes one.0 one.1 in
    let b = sum_by-cons g one ranks in
    let rest = part_bytes (cell + memory_bytes one.0 one.1 / 4) rank ranks in
    omega arith

parts_count : (cell : ℕ) (ranks : List (ℕ × List Call)) → length (parts_from cell ranks) ≡ length ranks
parts_count cell [] = refl
parts_count cell (one ∷ ranks) = ap suc (parts_count (cell + memory_bytes one.0 one.1 / 4) ranks)

zip_count : {X Y : Type 0} (xs : List X) (ys : List Y) → length xs ≡ length ys → length (zip xs ys) ≡ length xs
zip_count [] ys e = refl
zip_count (x ∷ xs) [] e = cc
zip_count (x ∷ xs) (y ∷ ys) e = ap suc (zip_count xs ys (let n : length xs ≡ length ys = omega arith in n))

pub layout_fits : (script : Script) → IsWellFormed script → IsLayoutOf script.ranks (layout script)
layout_fits script h =
    let ranks : length (ranks_of script)
    ≡ script.ranks = zip_count script.spaces script.calls (h.spaces ∙ sym h.lists) ∙ h.spaces in
    record {
      parts = parts_count 0 (ranks_of script) ∙ ranks;
      bases = length-map (ranks_of script) _ ∙ ranks;
      bytes = λ rank. let all = part_bytes 0 rank (ranks_of script) in let limit = h.limits.memory in omega arith;
    }

-- ---- the first world

state_of : (f : ℕ → RankState) (stage : Stage) (first count rank : ℕ) → rank < count
    → get_or (map f (numbers_from first count)) rank (no_state stage rank) ≡ f (first + rank)
state_of f stage first count rank h = at (no_state stage rank) first count rank h
  where
    at : (d : RankState) (first count rank : ℕ) → rank < count
        → get_or (map f (numbers_from first count)) rank d ≡ f (first + rank)
    at d first zero rank h = absurd (omega arith)
    at d first (suc count) zero h = let e : first ≡ first + 0 = omega arith in ap f e
    at d first (suc count) (suc rank) h =
        let e : first + 1 + rank ≡ first + suc rank = omega arith in at d (first + 1) count rank (omega arith) ∙ ap f e

map_of_map : (f : ℕ → RankState) (g : ℕ → Agent) (xs : List ℕ) → ((rank : ℕ) → (f rank).agent ≡ g rank)
    → map (λ (state : RankState). state.agent) (map f xs) ≡ map g xs
map_of_map f g [] same = refl
map_of_map f g (x ∷ xs) same = ap (λ one. one ∷ map (λ (state : RankState). state.agent) (map f xs)) (same x)
    ∙ ap (λ (rest : List Agent). g x ∷ rest) (map_of_map f g xs same)

-- ---- how many updates there are to make

few_elements : (call : Call) → IsWrittenCall call → updates_of call ≤ 256
few_elements call h = by (is_update call) (elements (action_of call) h)
  where
    below : (count : ℤ) → IsUpTo 256 count → natural count ≤ 256
    below (pos n) k = k
    below (negsuc n) k = omega arith

    elements : (action : Action) → IsWrittenAction action
        → option_map_or (λ (t : Transfer). natural t.count) (transfer_in action) 0 ≤ 256
    elements (Creates creation) k = omega arith
    elements (Frees win) k = omega arith
    elements (Attaches win base bytes) k = omega arith
    elements (Detaches win base) k = omega arith
    elements (Synchronises win s) k = omega arith
    elements Meets k = omega arith
    elements (Moves t) k = below t.count k.elements
    elements (EndsRequest req) k = omega arith

    by : (b : Bool) → element_count call ≤ 256 → (if b then element_count call else 0) ≤ 256
    by true k = k
    by false k = omega arith

list_updates : (calls : List Call) → AllByRecursion IsWrittenCall calls → sum_by updates_of calls ≤ 256 * length calls
list_updates [] h = omega arith
list_updates (call ∷ calls) h =
    let sums = sum_by-cons updates_of call calls in
    let one = few_elements call h.0 in
    let rest = list_updates calls h.1 in
    omega arith

list_at : (lists : List (List Call)) (rank : ℕ) → AllByRecursion (AllByRecursion IsWrittenCall) lists
    → AllByRecursion IsWrittenCall (get_or lists rank []) × (length (get_or lists rank []) ≤ sum_by length lists)
list_at [] rank h = (tt, omega arith)
list_at (list ∷ lists) zero h = let sums = sum_by-cons length list lists in (h.0, omega arith)
list_at (list ∷ lists) (suc rank) h =
    let sums = sum_by-cons length list lists in let rest = list_at lists rank h.1 in let less = rest.1 in
    (rest.0, omega arith)

all_updates : (f : ℕ → RankState) (first count : ℕ) → ((rank : ℕ) → updates_ahead (f rank) ≤ 16777216)
    → sum_by updates_ahead (map f (numbers_from first count)) ≤ 16777216 * count
all_updates f first zero h = omega arith
all_updates f first (suc count) h =
    let sums = sum_by-cons updates_ahead (f first) (map f (numbers_from (first + 1) count)) in
    let one = h first in
    let rest = all_updates f (first + 1) count h in
    omega arith

last_below : (order : Order) (ranks : ℕ) → 1 ≤ ranks → last_before order ranks < ranks
last_below Robin ranks h = omega arith
last_below Reverse ranks h = omega arith
last_below Greedy ranks h = omega arith
last_below Seeded ranks h = omega arith

pub starts_in : (script : Script) (order : Order) (delay : Delay) (seed : ℕ) (runner : Runner) → IsWellFormed script
    → runner.agents.items ≡ map (λ (rank : ℕ). new_state script delay seed rank 4294967295 [])
    (numbers_from 0 script.ranks)
    → runner.board ≡ record { ranks = script.ranks; layout = layout script; name = []; entries = [] }
    → runner.memory.cells ≡ replicate (cells_of (layout script)) empty_cell → runner.memory.share ≡ 4294967295
    → IsKept runner.turns (first_schedule order script.ranks seed) → ((rank : ℕ) → has runner.ended rank ≡ false)
    → IsRun (stage_of script delay) runner (first_world (stage_of script delay) order seed)
starts_in script order delay seed runner h agents board cells share kept ended = record {
  few = h.few_ranks;
  in_world = record {
    count = ap length agents ∙ length-map (numbers_from 0 script.ranks) one ∙ numbers_length 0 script.ranks;
    agents = ap (λ (list : List RankState). map (λ (state : RankState). state.agent) list) agents
        ∙ map_of_map one (new_agent stage seed) (numbers_from 0 script.ranks) (λ rank. refl);
    ranks = λ rank l. subst (λ rows. IsRank stage rows rank (state_at stage runner.agents.items rank)) (sym no_rows)
        (subst (λ state. IsRank stage [] rank state) (sym (is rank l))
        (record { same_stage = refl; number = refl; between = record { closed = refl; untouched = tt }; own = refl }));
    of_run = record {
      ranks = ap (λ (b : BoardState). b.ranks) board;
      layout = ap (λ (b : BoardState). b.layout) board;
      name = ap (λ (b : BoardState). b.name) board;
    };
    rows = no_rows;
    cells = cells;
    all_cells = ap length cells ∙ length-replicate (cells_of (layout script)) empty_cell;
    share = (let few = h.few_ranks in let all = all_updates one 0 script.ranks updates in
        let same : sum_by updates_ahead runner.agents.items
        ≡ sum_by updates_ahead (map one (numbers_from 0 script.ranks)) =
        ap (λ (list : List RankState). sum_by updates_ahead list) agents in
        omega arith);
  };
  kept = kept;
  last = (let at = kept.last in let below = last_below order script.ranks h.some_rank in omega arith);
  over = λ rank l. ended rank ∙ ap (λ (state : RankState). state.agent.ended) (sym (is rank l));
}
  where
    stage : Stage
    stage = stage_of script delay

    one : ℕ → RankState
    one rank = new_state script delay seed rank 4294967295 []

    no_rows : rows_on runner.board ≡ []
    no_rows = ap (λ (b : BoardState). rows_on b) board

    is : (rank : ℕ) → rank < script.ranks → state_at stage runner.agents.items rank ≡ one rank
    is rank l =
        let e : 0 + rank ≡ rank = omega arith in
        ap (λ (list : List RankState). get_or list rank (no_state stage rank)) agents
        ∙ state_of one stage 0 script.ranks rank l ∙ ap one e

    updates : (rank : ℕ) → updates_ahead (one rank) ≤ 16777216
    updates rank =
        let list = list_at script.calls rank h.calls in
        let less = list.1 in
        let limit = h.limits.calls in
        let mine = list_updates (get_or script.calls rank []) list.0 in
        let is : updates_ahead (one rank) ≡ sum_by updates_of (get_or script.calls rank []) + 0 = refl in
        omega arith
