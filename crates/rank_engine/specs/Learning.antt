-- What an entry that ends its call teaches a rank: MPI 3.1, sections 11.2 and 11.5.
use Rattle.std.specs.Prelude.{ℕ, ◌≡◌, List, Option, Some, None, IfSome}
use Rattle.rma_types.specs.declared.scripts.Part.{Part}
use Rattle.rma_types.specs.declared.actions.Action.{Action}
use Rattle.rma_types.specs.declared.actions.Action.TheVariants.{Creates, Frees, Attaches, Detaches, Synchronises, Meets}
use Rattle.rma_types.specs.declared.actions.Action.TheVariants.{Moves, EndsRequest}
use Rattle.rma_types.specs.declared.actions.Creation.{Creation}
use Rattle.rank_rules.specs.Windows.{RankWindows, next_number}
use Rattle.window_regions.specs.Shapes.{IsShape}
use Rattle.window_regions.specs.declared.window.Shape.{Shape}

-- the shape of the window that a creation makes is there
abbrev pub IsShapeThere : Creation → Option Shape → Type 0
IsShapeThere creation None = ⊥
IsShapeThere creation (Some shape) = (shape.flavor ≡ creation.flavor) × IsShape shape.flavor shape.parts

abbrev pub HasShape : Action → Option Shape → Type 0
HasShape (Creates creation) made = IsShapeThere creation made
HasShape (Frees win) made = Unit {0}
HasShape (Attaches win base bytes) made = Unit {0}
HasShape (Detaches win base) made = Unit {0}
HasShape (Synchronises win s) made = Unit {0}
HasShape Meets made = Unit {0}
HasShape (Moves t) made = Unit {0}
HasShape (EndsRequest req) made = Unit {0}

-- the parts of the window that a creation makes are those that the entries brought
abbrev pub HasParts : (ℕ → List Part) → RankWindows → Action → Option Shape → Type 0
HasParts shapes known (Creates creation) made =
    IfSome made (λ (shape : Shape). shape.parts ≡ shapes (next_number known.created creation.win))
HasParts shapes known (Frees win) made = Unit {0}
HasParts shapes known (Attaches win base bytes) made = Unit {0}
HasParts shapes known (Detaches win base) made = Unit {0}
HasParts shapes known (Synchronises win s) made = Unit {0}
HasParts shapes known Meets made = Unit {0}
HasParts shapes known (Moves t) made = Unit {0}
HasParts shapes known (EndsRequest req) made = Unit {0}
