-- Entries that come one after the other, in the order of their places: MPI 3.1, sections 11.2, 11.5 and 11.7, in this
-- project's profile of order.
use Rattle.std.specs.Prelude.{◌≡◌, ℕ, ◌+◌, ◌-◌, ◌*◌, ◌<◌, Bool, false, if◌then◌else◌, List, length, Some, slice_index}
use Rattle.std.specs.Option.{option_map_or}
use Rattle.rma_types.specs.Actions.{synchronisation_of}
use Rattle.rank_rules.specs.EpochTests.{names_wrong_rank}
use Rattle.board_rules.specs.Entries.{Row, creations}
use Rattle.cell_face.specs.declared.fronts.Front.{Front as FrontToken}
use Rattle.kept_rows.specs.Gifts.{Front, Given, rows_given}
use Rattle.entry_gains.specs.Gains.{Keeps}
use Rattle.entry_gains.specs.declared.by_place.Begun.{Begun}
use Rattle.entry_gains.specs.declared.by_place.GainsByPlace.{GainsByPlace}

abbrev pub front_of : FrontToken → Front
front_of token = Some token.places

-- the round of the window that an entry is on, where its rank has begun to create so many of its name before
abbrev pub round_begun : Bool → ℕ → ℕ
round_begun begins count = if begins then count else count - 1

-- how many windows of each name each rank has begun to create
abbrev pub KeepsBegun : List Row → Begun → Type 0
KeepsBegun rows begun = (rank name : ℕ) → rank < 16 → name < 32 →
    slice_index begun.counts (32 * rank + name) ≡ creations rows rank name

-- What is asked of the entry that comes next: its rank is one of the run, so are the ranks that a synchronisation
-- names, and there are fewer entries before it than those of any run of a script.
pub record IsComing (ranks : ℕ) (entries : List Given) (row : Row) : Type 0 where
  pub rank : row.rank < ranks
  pub named : option_map_or (names_wrong_rank ranks) (synchronisation_of row.call) false ≡ false
  pub short : length entries < 131072

-- what is kept is what the entries gave, and of which windows their ranks have begun the creation
pub record KeepsInOrder (ranks : ℕ) (entries : List Given) (placed : GainsByPlace) : Type 0 where
  pub gains : Keeps front_of ranks entries placed.gains
  pub begun : KeepsBegun (rows_given entries) placed.begun
