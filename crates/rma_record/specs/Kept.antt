-- What contracts see of a log.
use Rattle.std.specs.Prelude.{ℕ, List}
use Rattle.rma_record.specs.declared.items.Item.{Item}

-- the items, and how many more can be kept without taking memory
pub record Kept : Type 0 where
  pub items : List Item
  pub spare : ℕ
