-- That an entry may be judged, and what it is answered.
use Rattle.std.proofs.Common.{◌≡◌, ℕ, ◌≤◌, List, ap, sym, ◌∙◌, subst}
use Rattle.rma_types.specs.declared.scripts.Layout.{Layout}
use Rattle.board_rules.specs.Board.{decide}
use Rattle.board_rules.specs.Entries.{Row}
use Rattle.sync_board.specs.Asked.{IsAfter, MayBeJudged, decision_of, row_asked}
use Rattle.sync_board.specs.Boards.{BoardState, MayJudge, rows_on}
use Rattle.sync_board.specs.Counted.{KeepsCreations, KeepsState}
use Rattle.sync_board.specs.declared.asked.Asked.{Asked}
use Rattle.sync_board.specs.declared.asked.Judged.{Judged}
use Rattle.sync_board.specs.declared.state.State.{State}

-- an entry that is asked as this row, of so many ranks
pub may_be_judged : (asked : Asked) (ranks : ℕ) (row : Row) → ranks ≤ 16 → asked.ranks ≡ ranks →
    row_asked asked ≡ row → MayJudge ranks row.rank row.call row.step → MayBeJudged asked
may_be_judged asked ranks row few same_ranks same_row may = record {
  few = subst (λ n. n ≤ 16) (sym same_ranks) few;
  may = subst (λ (r : Row). MayJudge asked.ranks r.rank r.call r.step) (sym same_row)
      (subst (λ n. MayJudge n row.rank row.call row.step) (sym same_ranks) may);
}

-- what the state answers is what a board of its entries answers
pub answer_is : (inside board : BoardState) (state : State) (asked : Asked) (judged : Judged) (row : Row) →
    inside ≡ board → asked.ranks ≡ inside.ranks → row_asked asked ≡ row →
    KeepsState inside.layout inside.ranks (rows_on inside) state →
    ((rows : List Row) → KeepsCreations rows state.creations.items → IsAfter rows asked) →
    ((layout : Layout) (rows : List Row) → IsAfter rows asked → KeepsState layout asked.ranks rows state →
    decision_of judged ≡ decide asked.ranks rows (row_asked asked)) →
    decision_of judged ≡ decide board.ranks (rows_on board) row
answer_is inside board state asked judged row same same_ranks same_row kept after answer =
    answer inside.layout (rows_on inside) (after (rows_on inside) kept.begun)
    (subst (λ n. KeepsState inside.layout n (rows_on inside) state) (sym same_ranks) kept)
    ∙ (ap (λ n. decide n (rows_on inside) (row_asked asked)) same_ranks
    ∙ (ap (decide inside.ranks (rows_on inside)) same_row
    ∙ ap (λ (b : BoardState). decide b.ranks (rows_on b) row) same))
