-- Laws of the definitions.
use Rattle.std.proofs.Common.{List, ◌≡◌, [], refl, ◌∷◌}
use Rattle.rma_types.proofs.CallLaws.{call_kept_again}
use Rattle.board_rules.specs.Entries.{Row}
use Rattle.kept_rows.specs.KeptRowLaws.{kept_rows}

pub rows_twice : (rows : List Row) → kept_rows (kept_rows rows) ≡ kept_rows rows
rows_twice [] = refl
rows_twice (row ∷ rows) =
    let call = call_kept_again row.call in
    λ i. record { rank = row.rank; number = row.number; call = call i; step = row.step } ∷ rows_twice rows i
