-- Entries with their gifts, one more.
use Rattle.std.proofs.Common.{List, ◌++◌, ◌∷◌, [], ◌≡◌}
use Rattle.std.proofs.lemmas.List.{map-append}
use Rattle.kept_rows.specs.Gifts.{Given, rows_given}

pub rows_more : (entries : List Given) (one : Given) →
    rows_given (entries ++ one ∷ []) ≡ rows_given entries ++ one.row ∷ []
rows_more entries one = map-append (λ (one : Given). one.row) entries (one ∷ [])
