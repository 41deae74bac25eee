-- An item by its place.
use Rattle.std.proofs.Common.{Option, ℕ, ◌≡◌, None, Some}
use Rattle.std.specs.Prelude.{IsSomeAnd}
use Rattle.rma_types.specs.declared.accesses.Access.{Access}
use Rattle.rma_types.specs.declared.accesses.Kind.TheVariants.{Get}
use Rattle.rma_record.specs.declared.items.Item.{Item}
use Rattle.rma_record.specs.declared.items.Item.TheVariants.{Issue}

pub issue_of : (o : Option Access) (number : ℕ) (item : Item) → IsSomeAnd o (λ access. item ≡ Issue number access) →
    (access : Access) × (item ≡ Issue number access)
issue_of None number item h = absurd h
issue_of (Some access) number item h = (access, h)

-- an item that stands in no log
abbrev pub no_item : Item
no_item = Issue 0 (record { window = 0; target = 0; lo = 0; len = 0; kind = Get })
