-- All that the board keeps of its entries but the entries themselves.
use Rattle.std.specs.Prelude.{◌≡◌, ℕ, ◌+◌, ◌*◌, ◌<◌, ◌^◌, List, length, slice_index}
use Rattle.rma_types.specs.declared.scripts.Layout.{Layout}
use Rattle.board_rules.specs.Entries.{Barrier, Row, acts, arrivals, creations}
use Rattle.sync_board.specs.Named.{KeepsWindows}
use Rattle.sync_board.specs.declared.state.State.{State}

-- how many windows of each name each rank has begun to create
pub record KeepsCreations (rows : List Row) (counts : List ℕ) : Type 0 where
  pub counted : (rank name : ℕ) → name < 32 → slice_index counts (32 * rank + name) ≡ creations rows rank name
  pub small : (index : ℕ) → slice_index counts index < 2 ^ 27

-- how often each rank has arrived at a barrier
abbrev pub KeepsBarriers : List Row → List ℕ → Type 0
KeepsBarriers rows counts = (rank : ℕ) → slice_index counts rank ≡ length (arrivals (acts rows) Barrier rank 0)

-- what is kept is what the entries have done
pub record KeepsState (layout : Layout) (ranks : ℕ) (rows : List Row) (state : State) : Type 0 where
  pub begun : KeepsCreations rows state.creations.items
  pub met : KeepsBarriers rows state.barriers.items
  pub windows : KeepsWindows layout ranks (acts rows) state.windows.names.items
