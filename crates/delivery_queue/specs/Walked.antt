-- What a walk along pending accesses that give way says of them.
use Rattle.std.specs.Prelude.{ℕ, ◌≡◌, ◌-◌, ◌≤◌, List, [], ◌∷◌, Some}
use Rattle.rank_rules.specs.declared.pending.PendingAccess.{PendingAccess}
use Rattle.rank_rules.specs.Pending.{first_in_way}
use Rattle.delivery_queue.specs.declared.walks.Walk.{Walk}

-- each gap leads from a place back to the first access to which the one there gives way, and the last to the end
abbrev pub leads : List PendingAccess → ℕ → List ℕ → ℕ → Type 0
leads pending start [] end = start ≡ end
leads pending start (gap ∷ gaps) end =
    (gap ≤ start) × (first_in_way pending start ≡ Some (start - gap)) × leads pending (start - gap) gaps end

-- the walk is one along these accesses
abbrev pub IsWalked : List PendingAccess → Walk → Type 0
IsWalked pending walk = leads pending walk.start walk.gaps.items walk.end
