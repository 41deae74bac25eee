-- The locks that are held after one act more.
use Rattle.std.proofs.Common.{ℕ, List, ◌++◌, ◌∷◌, [], ◌≡◌}
use Rattle.std.proofs.lemmas.Grind.{fold-append}
use Rattle.board_rules.specs.Entries.{Act}
use Rattle.board_rules.specs.Locks.{held_locks, held_after_entry}

pub held_more : (ranks : ℕ) (entries : List Act) (act : Act) →
    held_locks ranks (entries ++ act ∷ []) ≡ held_after_entry ranks
    (held_locks ranks entries) act
held_more ranks entries act = fold-append (held_after_entry ranks) [] entries (act ∷ [])
