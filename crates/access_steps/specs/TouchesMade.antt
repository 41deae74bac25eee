-- What making touches does to a memory, whatever the memory tells. Touches are in the order in which they are made.
use Rattle.std.specs.Prelude.{◌≡◌, ◌≤◌, ℕ, ◌+◌, List, [], ◌∷◌, ◌++◌, length, map, Option, Some, None, IfSome}
use Rattle.std.specs.List.{AllByRecursion}
use Rattle.std.specs.Option.{option_map, option_map_or}
use Rattle.rma_record.specs.declared.items.Item.{Item}
use Rattle.rma_record.specs.declared.items.Item.TheVariants.{Touch}
use Rattle.call_rules.specs.declared.cells.Cell.{Cell}
use Rattle.call_rules.specs.declared.elements.Change.{Change}
use Rattle.call_rules.specs.Elements.{next}
use Rattle.call_rules.specs.declared.elements.Piece.{Piece}
use Rattle.rma_types.specs.declared.actions.Transfer.{Transfer}
use Rattle.call_rules.specs.Touches.{cell_at, cells_after, touch_each}
use Rattle.cell_face.specs.Faces.{Face, Update, Stays, Rose, low_at}
use Rattle.access_steps.specs.Plans.{PlannedTouch}

-- a touch that was made: the one that was planned, on the state of its cell before it
pub record MadeTouch : Type 0 where
  pub plan : PlannedTouch
  pub seen : Cell

abbrev pub plan_of : MadeTouch → PlannedTouch
plan_of touch = touch.plan

-- the item that is kept of a touch; issue: the index of the access's Issue item
abbrev pub item_of : ℕ → MadeTouch → Item
item_of issue touch = Touch issue touch.plan.element touch.plan.cell touch.seen.place touch.seen.bits

-- the update of a cell from this state on, where there is a change
abbrev pub update_by : ℕ → Cell → Option Change → List Update
update_by cell seen None = []
update_by cell seen (Some change) = record {
  cell = cell;
  place = seen.place;
  before = seen.bits;
  after = next seen.bits
      change;
} ∷ []

-- the updates among the touches
abbrev pub updates_of : List MadeTouch → List Update
updates_of [] = []
updates_of (touch ∷ touches) = update_by touch.plan.cell touch.seen touch.plan.change ++ updates_of touches

-- the least place that a later touch of the same cell can have: past an update, and not before a read
abbrev pub place_after : MadeTouch → ℕ
place_after touch = option_map_or (λ (_ : Change). touch.seen.place + 1) touch.plan.change touch.seen.place

-- the touches follow each other on each cell
abbrev pub Follows : MadeTouch → MadeTouch → Type 0
Follows earlier later = later.plan.cell ≡ earlier.plan.cell → place_after earlier ≤ later.seen.place

abbrev pub IsInOrder : List MadeTouch → Type 0
IsInOrder [] = Unit {0}
IsInOrder (touch ∷ touches) = AllByRecursion (Follows touch) touches × IsInOrder touches

-- the cells after the touches
abbrev pub cells_left : List Cell → List MadeTouch → List Cell
cells_left cells [] = cells
cells_left cells (touch ∷ touches) = cells_left (cells_after cells touch.plan.cell touch.plan.change) touches

-- each touch was made on its cell's state after the touches before it
abbrev pub SeesEach : List Cell → List MadeTouch → Type 0
SeesEach cells [] = Unit {0}
SeesEach cells (touch ∷ touches) =
    (touch.seen ≡ cell_at cells touch.plan.cell) × SeesEach (cells_after cells touch.plan.cell touch.plan.change)
    touches

-- What the touches did. told and states: where the memory tells its cells. not_below, raised and order: the lowest
-- places at the call and after it, and the places of touches of one cell.
pub record TouchesMade (before after : Face) (touches : List MadeTouch) : Type 0 where
  pub stays : Stays before after
  pub share : before.share ≤ after.share + length (updates_of touches)
  pub updates : after.updates ≡ option_map (λ made. made ++ updates_of touches) before.updates
  pub told : after.told ≡ option_map (λ cells. cells_left cells touches) before.told
  pub states : IfSome before.told (λ cells. SeesEach cells touches)
  pub not_below : AllByRecursion (λ touch. low_at before touch.plan.cell ≤ touch.seen.place) touches
  pub raised : AllByRecursion (λ touch. place_after touch ≤ low_at after touch.plan.cell) touches
  pub order : IsInOrder touches

-- touches of these plans were made, one item was kept of each, and the state of each is known
pub record TouchesKept (before after : Face) (knows : ℕ → Cell → Type 0) (kept_before kept_after : List Item)
    (issue : ℕ) (planned : List PlannedTouch) : Type 0 where
  pub touches : List MadeTouch
  pub plans : map plan_of touches ≡ planned
  pub items : kept_after ≡ kept_before ++ map (item_of issue) touches
  pub made : TouchesMade before after touches
  pub states : AllByRecursion (λ touch. knows touch.plan.cell touch.seen) touches

-- a memory that tells its cells: they and the items are those of the elements touched one after another
pub record IsTouchEach (t : Transfer) (pieces : List Piece) (issue from : ℕ) (cells : List Cell)
    (told : Option (List Cell)) (kept_before kept_after : List Item) : Type 0 where
  pub cells_after : told ≡ Some (touch_each t issue from pieces cells).cells
  pub items : kept_after ≡ kept_before ++ (touch_each t issue from pieces cells).items

-- one touch was made of a cell, on this state, as whatever element
pub record TouchesOne (before after : Face) (cell : ℕ) (change : Option Change) (seen : Cell) : Type 0 where
  pub made : (element : ℕ) → TouchesMade before after
      (record { plan = record { element = element; cell = cell; change = change }; seen = seen } ∷ [])
  pub moves : after.moves ≡ before.moves

-- no touch was made, since an attempt came too late; the memory does not tell its cells, or this could not be
pub record TouchesNone (before after : Face) : Type 0 where
  pub made : TouchesMade before after []
  pub moves : Rose before.moves after.moves
  pub untold : before.told ≡ None
