-- The parts of the ranks in a window.
use Rattle.std.specs.Prelude.{ℕ, ◌≡◌, ◌+◌, ◌<◌, ◌^◌, true, List}
use Rattle.rma_types.specs.declared.calls.Flavor.{Flavor}
use Rattle.rma_types.specs.declared.calls.Flavor.TheVariants.{Dynamic}
use Rattle.rma_types.specs.declared.scripts.Part.{Part}
use Rattle.rank_rules.specs.Windows.{is_same_flavor, no_part, part_at}

-- each part ends below 2 to 32, and in a dynamic window, whose displacements are addresses, there is none
pub record IsShape (flavor : Flavor) (parts : List Part) : Type 0 where
  pub ends : (rank : ℕ) → (part_at parts rank).base + (part_at parts rank).bytes < 2 ^ 32
  pub dynamic : is_same_flavor flavor Dynamic ≡ true → (rank : ℕ) → part_at parts rank ≡ no_part
