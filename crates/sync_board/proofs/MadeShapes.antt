-- The window that an entry makes, by the flavor of its call.
use Rattle.std.proofs.Common.{◌≡◌, refl, Option, Some, None}
use Rattle.std.specs.Option.{option_map}
use Rattle.rma_types.specs.declared.calls.Flavor.{Flavor}
use Rattle.rma_types.specs.declared.actions.Creation.{Creation}
use Rattle.board_rules.specs.Entries.{Row}
use Rattle.sync_board.specs.Boards.{BoardState, IsMadeOf, IsShapeMade}
use Rattle.window_regions.specs.declared.window.Shape.{Shape}

pub none_made : (board : BoardState) (row : Row) (o : Option Creation) →
    option_map (λ (c : Creation). c.flavor) o ≡ None → IsMadeOf board row o None
none_made board row None e = refl
none_made board row (Some creation) e = cc

pub one_made : (board : BoardState) (row : Row) (o : Option Creation) (flavor : Flavor) (shape : Shape) →
    option_map (λ (c : Creation). c.flavor) o ≡ Some flavor →
    ((creation : Creation) → creation.flavor ≡ flavor → IsShapeMade board row creation shape) →
    IsMadeOf board row o (Some shape)
one_made board row None flavor shape e made = cc
one_made board row (Some creation) flavor shape e made = made creation (let f : creation.flavor ≡ flavor = cc in f)
