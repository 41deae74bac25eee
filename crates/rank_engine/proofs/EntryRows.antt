-- The rows of a rank that puts one entry more, and those of the board.
use Rattle.std.proofs.Common.{◌≡◌, ℕ, ◌+◌, Bool, true, false, cond, List, [], ◌∷◌, ◌++◌, Option, Some, refl, sym, ◌∙◌}
use Rattle.std.proofs.Common.{ap, arith}
use Rattle.std.specs.Prelude.{◌==◌, ◌&&◌, map}
use Rattle.std.specs.List.{filter, flat_map, sum_by}
use Rattle.std.specs.Option.{option_map_or}
use Rattle.std.proofs.lemmas.Bool.{eq-eqb}
use Rattle.std.proofs.lemmas.Grind.{flat_map-append}
use Rattle.std.proofs.lemmas.List.{map-append}
use Rattle.std.proofs.lemmas.List.Elements.{filter-append}
use Rattle.std.proofs.lemmas.List.Sums.{sum_by-cons}
use Rattle.rma_types.specs.declared.accesses.Step.{Step}
use Rattle.rma_types.specs.declared.calls.Call.{Call}
use Rattle.rma_record.specs.declared.items.Item.{Item}
use Rattle.rma_record.specs.declared.items.Item.TheVariants.{Entry}
use Rattle.board_rules.specs.Entries.{Row, begins_window, creations, names_window}
use Rattle.kept_rows.proofs.KeptActs.{creations_kept}
use Rattle.kept_rows.specs.Gifts.{Front, Given}
use Rattle.kept_rows.specs.KeptCalls.{kept_row}
use Rattle.lawful_runs.specs.Logs.{row_by}
use Rattle.lawful_runs.specs.Stages.{Stage}
use Rattle.step_runs.specs.Agents.{Agent, next_call}
use Rattle.step_runs.specs.BoardSteps.{next_row}
use Rattle.sync_board.specs.Boards.{BoardState, rows_on, with_entry}
use Rattle.rank_engine.specs.RankStates.{AreOwnRows, own_rows}

-- ---- the rank's own

-- an entry adds its row
pub own_grows : (stage : Stage) (agent : Agent) (call : Call) (step : Step) (place : ℕ) (log : List Item) →
    next_call stage agent ≡ Some call → log ≡ agent.log ++ Entry agent.at place step ∷ [] →
    flat_map (row_by stage.script agent.rank) log ≡ own_rows stage agent ++ next_row agent call step ∷ []
own_grows stage agent call step place log here is =
    ap (flat_map (row_by stage.script agent.rank)) is
    ∙ (flat_map-append (row_by stage.script agent.rank) agent.log (Entry agent.at place step ∷ [])
    ∙ ap (λ (o : Option Call). own_rows stage agent ++ (option_map_or
    (λ (c : Call). record { rank = agent.rank; number = agent.at; call = c; step = step } ∷ []) o [] ++ [])) here)

-- ---- the board's

pub rows_grow : (board : BoardState) (row : Row) (gift : Option Front) →
    rows_on (with_entry board row gift) ≡ rows_on board ++ kept_row row ∷ []
rows_grow board row gift = map-append (λ (one : Given). one.row) board.entries (_ ∷ [])

of_rank_grow : (rows : List Row) (row : Row) (rank : ℕ) → row.rank ≡ rank →
    filter (λ (r : Row). r.rank == rank) (rows ++ kept_row row ∷ [])
    ≡ filter (λ (r : Row). r.rank == rank) rows ++ kept_row row ∷ []
of_rank_grow rows row rank mine =
    filter-append (λ (r : Row). r.rank == rank) rows (kept_row row ∷ [])
    ∙ ap (λ b. filter (λ (r : Row). r.rank == rank) rows ++ cond b (kept_row row ∷ []) []) (eq-eqb row.rank rank mine)

-- the board's rows of the rank are the entries of its log, also after one more
pub own_still : (stage : Stage) (agent next : Agent) (call : Call) (step : Step) (place : ℕ) (board : BoardState)
    (gift : Option Front) → AreOwnRows stage agent (rows_on board) → next_call stage agent ≡ Some call →
    next.rank ≡ agent.rank → next.log ≡ agent.log ++ Entry agent.at place step ∷ [] →
    AreOwnRows stage next (rows_on (with_entry board (next_row agent call step) gift))
own_still stage agent next call step place board gift own here same is =
    ap (filter (λ (r : Row). r.rank == next.rank)) (rows_grow board (next_row agent call step) gift)
    ∙ (of_rank_grow (rows_on board) (next_row agent call step) next.rank (sym same)
    ∙ (ap (λ rank. filter (λ (r : Row). r.rank == rank) (rows_on board) ++ kept_row
    (next_row agent call step) ∷ []) same
    ∙ (ap (λ rows. rows ++ kept_row (next_row agent call step) ∷ []) own
    ∙ (sym (map-append kept_row (own_rows stage agent) (next_row agent call step ∷ []))
    ∙ (ap (map kept_row) (sym (own_grows stage agent call step place next.log here is))
    ∙ ap (λ rank. map kept_row (flat_map (row_by stage.script rank) next.log)) (sym same))))))

-- ---- how many windows a rank has begun

-- a rank's creations are among its own rows
creations_own : (rows : List Row) (rank win : ℕ) →
    creations (filter (λ (r : Row). r.rank == rank) rows) rank win ≡ creations rows rank win
creations_own [] rank win = refl
creations_own (row ∷ rows) rank win = by_rank (creations_own rows rank win) (row.rank == rank) refl
  where
    f : Row → ℕ
    f r = cond (r.rank == rank && begins_window r && names_window win r.call) 1 0

    by_rank : creations (filter (λ (r : Row). r.rank == rank) rows) rank win ≡ creations rows rank win → (b : Bool) →
        (row.rank == rank) ≡ b →
        creations (cond b (row ∷ filter (λ (r : Row). r.rank == rank) rows)
        (filter (λ (r : Row). r.rank == rank) rows)) rank win
        ≡ creations (row ∷ rows) rank win
    by_rank rest true e =
        sum_by-cons f row (filter (λ (r : Row). r.rank == rank) rows)
        ∙ (ap (λ n. f row + n) rest ∙ sym (sum_by-cons f row rows))
    by_rank rest false e =
        let none : f row ≡ 0 = ap (λ b. cond (b && begins_window row && names_window win row.call) 1 0) e in
        let all : sum_by f (row ∷ rows) ≡ f row + sum_by f rows = sum_by-cons f row rows in
        rest ∙ nothing_more (sum_by f rows) (f row) (sum_by f (row ∷ rows)) none all
      where
        nothing_more : (a b c : ℕ) → b ≡ 0 → c ≡ b + a → a ≡ c
        nothing_more a b c e g = omega arith

pub creations_agree : (stage : Stage) (agent : Agent) (rows : List Row) (win : ℕ) → AreOwnRows stage agent rows →
    creations rows agent.rank win ≡ creations (own_rows stage agent) agent.rank win
creations_agree stage agent rows win own =
    sym (creations_own rows agent.rank win)
    ∙ (ap (λ own_now. creations own_now agent.rank win) own
    ∙ creations_kept (own_rows stage agent) agent.rank win)
