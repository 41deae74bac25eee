-- The entries of a rank's log and those of the rank that are known: others' entries, moves and touches leave them.
use Rattle.std.proofs.Common.{◌≡◌, ℕ, Bool, cond, List, [], ◌∷◌, ◌++◌, map, refl, sym, ◌∙◌, ap}
use Rattle.std.proofs.Common.{append-nil}
use Rattle.std.specs.Prelude.{◌==◌, filter}
use Rattle.std.specs.List.{flat_map}
use Rattle.std.proofs.lemmas.Bool.{ne_eqb}
use Rattle.std.proofs.lemmas.List.{map-append}
use Rattle.std.proofs.lemmas.List.Concat.{flat_map-append}
use Rattle.std.proofs.lemmas.List.Elements.{filter-append}
use Rattle.rma_types.specs.declared.scripts.Script.{Script}
use Rattle.access_steps.specs.TouchesMade.{MadeTouch, item_of}
use Rattle.board_rules.specs.Entries.{Row}
use Rattle.call_rules.specs.declared.cells.Cell.{Cell}
use Rattle.cell_face.specs.Faces.{Face}
use Rattle.kept_rows.specs.Gifts.{Given, rows_given}
use Rattle.kept_rows.specs.KeptCalls.{kept_row}
use Rattle.lawful_runs.specs.Logs.{row_by}
use Rattle.lawful_runs.specs.Stages.{Stage}
use Rattle.rank_engine.specs.RankStates.{AreOwnRows}
use Rattle.rank_histories.specs.Among.{AreOfOthers}
use Rattle.rank_histories.specs.Partly.{DeliversOn}
use Rattle.rank_runners.proofs.Onward.{PutsNone, move_puts_none}
use Rattle.step_runs.specs.Agents.{Agent}
use Rattle.step_runs.specs.DataSteps.{move_of}

none_own : (rank : ℕ) (others : List Given) → AreOfOthers rank others →
    filter (λ (row : Row). row.rank == rank) (rows_given others) ≡ []
none_own rank [] apart = refl
none_own rank (one ∷ others) apart =
    let rest : List Row = filter (λ (row : Row). row.rank == rank) (rows_given others) in
    ap (λ b. cond b (one.row ∷ rest) rest) (ne_eqb one.row.rank rank apart.0) ∙ none_own rank others apart.1

-- others put entries
pub own_learns : (stage : Stage) (agent : Agent) (known others : List Given) →
    AreOwnRows stage agent (rows_given known) → AreOfOthers agent.rank others →
    AreOwnRows stage agent (rows_given (known ++ others))
own_learns stage agent known others own apart =
    let mine : Row → Bool = λ row. row.rank == agent.rank in
    ap (filter mine) (map-append (λ (one : Given). one.row) known others)
    ∙ filter-append mine (rows_given known) (rows_given others)
    ∙ ap (λ l. filter mine (rows_given known) ++ l) (none_own agent.rank others apart)
    ∙ append-nil (filter mine (rows_given known)) ∙ own

-- the rank puts no entry
own_stays : (stage : Stage) (agent next : Agent) (rows : List Row) → PutsNone stage.script agent next →
    AreOwnRows stage agent rows → AreOwnRows stage next rows
own_stays stage agent next rows none own =
    ap (λ n. filter (λ (row : Row). row.rank == n) rows) none.rank ∙ own
    ∙ ap (map kept_row) (sym (ap (λ n. flat_map (row_by stage.script n) next.log) none.rank ∙ none.entries))

-- what a rank does by itself
pub own_moves : (stage : Stage) (agent : Agent) (rows : List Row) → AreOwnRows stage agent rows →
    AreOwnRows stage (move_of stage agent).agent rows
own_moves stage agent rows own =
    own_stays stage agent (move_of stage agent).agent rows (move_puts_none stage agent) own

touches_put_none : (script : Script) (rank issue : ℕ) (touches : List MadeTouch) →
    flat_map (row_by script rank) (map (item_of issue) touches) ≡ []
touches_put_none script rank issue [] = refl
touches_put_none script rank issue (touch ∷ touches) =
    flat_map-append (row_by script rank) (item_of issue touch ∷ []) (map (item_of issue) touches)
    ∙ touches_put_none script rank issue touches

-- a delivery
pub own_delivers : (stage : Stage) (agent : Agent) (touched : List ℕ) (face : Face) (at : ℕ) (done : Bool)
    (after : Agent) (touched_after : List ℕ) (face_after : Face) (knows : ℕ → Cell → Type 0) (rows : List Row) →
    DeliversOn stage agent touched face at done after touched_after face_after knows →
    AreOwnRows stage agent rows → AreOwnRows stage after rows
own_delivers stage agent touched face at done after touched_after face_after knows rows on own =
    let made = on.delivers.touches in
    own_stays stage agent after rows (record {
      rank = ap (λ (a : Agent). a.rank) on.rank;
      entries = ap (flat_map (row_by stage.script agent.rank)) made.items
          ∙ flat_map-append (row_by stage.script agent.rank) agent.log
          (map (item_of on.delivers.one.index) made.touches)
          ∙ ap (λ l. flat_map (row_by stage.script agent.rank) agent.log ++ l)
          (touches_put_none stage.script agent.rank on.delivers.one.index made.touches)
          ∙ append-nil (flat_map (row_by stage.script agent.rank) agent.log);
    }) own
