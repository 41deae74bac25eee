-- The windows and the ranges of memory that a rank knows: MPI 3.1, section 11.2.
use Rattle.std.specs.Prelude.{ℕ, ◌+◌, ◌*◌, Bool, true, false, not, ◌&&◌, ◌==◌, List, [], ◌∷◌, ◌++◌, map, Option}
use Rattle.std.specs.Prelude.{slice_index_or, is_some}
use Rattle.std.specs.List.{count_by, filter, find}
use Rattle.rma_types.specs.declared.calls.Flavor.{Flavor}
use Rattle.rma_types.specs.declared.calls.Flavor.TheVariants.{Allocate, Create, Dynamic}
use Rattle.rma_types.specs.declared.scripts.Part.{Part}
use Rattle.rma_types.specs.declared.actions.Action.{Action}
use Rattle.rma_types.specs.declared.actions.Action.TheVariants.{Creates, Frees, Attaches, Detaches, Synchronises, Meets}
use Rattle.rma_types.specs.declared.actions.Action.TheVariants.{Moves, EndsRequest}
use Rattle.call_rules.specs.Ranks.{natural}
use Rattle.rank_rules.specs.Ranges.{Range}

-- a live window: its name and its number, how it was made, and the part of each rank in it
pub record Window : Type 0 where
  pub win : ℕ
  pub number : ℕ
  pub flavor : Flavor
  pub parts : List Part

-- a range of the rank's own space: it belongs to the window of this name, which was created over it or to which it is
-- attached
pub record OwnRange : Type 0 where
  pub win : ℕ
  pub range : Range
  pub is_attached : Bool

-- The rank, the number of ranks, the bytes of the rank's space, the names of the windows made so far, the live windows,
-- and the ranges of the space that belong to live windows.
pub record RankWindows : Type 0 where
  pub rank : ℕ
  pub ranks : ℕ
  pub space : ℕ
  pub created : List ℕ
  pub windows : List Window
  pub ranges : List OwnRange

abbrev pub no_windows : ℕ → ℕ → ℕ → RankWindows
no_windows rank ranks space =
    record { rank = rank; ranks = ranks; space = space; created = []; windows = []; ranges = [] }

abbrev pub is_same_flavor : Flavor → Flavor → Bool
is_same_flavor Allocate Allocate = true
is_same_flavor Allocate Create = false
is_same_flavor Allocate Dynamic = false
is_same_flavor Create Allocate = false
is_same_flavor Create Create = true
is_same_flavor Create Dynamic = false
is_same_flavor Dynamic Allocate = false
is_same_flavor Dynamic Create = false
is_same_flavor Dynamic Dynamic = true

-- the live window of this name
abbrev pub window_of_name : RankWindows → ℕ → Option Window
window_of_name known win = find (λ (window : Window). window.win == win) known.windows

abbrev pub is_live : RankWindows → ℕ → Bool
is_live known win = is_some (window_of_name known win)

-- The number of a window: 32 times the round of its creation, which counts the windows that the rank made of this name
-- before, plus the name.
abbrev pub window_number : (round : ℕ) → (win : ℕ) → ℕ
window_number round win = 32 * round + win

abbrev pub next_number : List ℕ → ℕ → ℕ
next_number created win = window_number (count_by (λ name. name == win) created) win

-- what a rank that brings no memory has of a window; in a dynamic window an address is a displacement (11.2.4)
abbrev pub no_part : Part
no_part = record { base = 0; bytes = 0; unit = 1 }

abbrev pub part_at : List Part → ℕ → Part
part_at parts rank = slice_index_or parts rank no_part

-- the bytes of a part
abbrev pub range_of : Part → Range
range_of part = record { base = part.base; bytes = part.bytes }

-- the range of the space over which a window of a flavor is created: the rank's part of it
abbrev pub range_made : Flavor → ℕ → Part → List OwnRange
range_made Allocate win part = []
range_made Create win part = record { win = win; range = range_of part; is_attached = false } ∷ []
range_made Dynamic win part = []

-- a window is made: its name, its number, its flavor and its parts
abbrev pub with_window : RankWindows → ℕ → ℕ → Flavor → List Part → RankWindows
with_window known win number flavor parts = record known {
  created = known.created ++ win ∷ [];
  windows = known.windows ++ record { win = win; number = number; flavor = flavor; parts = parts } ∷ [];
  ranges = known.ranges ++ range_made flavor win (part_at parts known.rank);
}

-- a window is freed, and with it the ranges that belong to it
abbrev pub without_window : RankWindows → ℕ → RankWindows
without_window known win = record known {
  windows = filter (λ (window : Window). not (window.win == win)) known.windows;
  ranges = filter (λ (own : OwnRange). not (own.win == win)) known.ranges;
}

-- a range is attached to the window
abbrev pub with_range : RankWindows → ℕ → Range → RankWindows
with_range known win range =
    record known { ranges = known.ranges ++ record { win = win; range = range; is_attached = true } ∷ [] }

-- the range is attached to the window of this name, and begins at the base
abbrev pub is_attached_from : ℕ → ℕ → OwnRange → Bool
is_attached_from win base own = own.is_attached && own.win == win && own.range.base == base

-- the range that begins at the base is detached from the window
abbrev pub without_range : RankWindows → ℕ → ℕ → RankWindows
without_range known win base =
    record known { ranges = filter (λ (own : OwnRange). not (is_attached_from win base own)) known.ranges }

-- the ranges that are attached to the window
abbrev pub attached_to : RankWindows → ℕ → List Range
attached_to known win =
    map (λ (own : OwnRange). own.range) (filter (λ (own : OwnRange). own.is_attached && own.win == win) known.ranges)

-- the ranges of the space that belong to any live window
abbrev pub ranges_in_use : RankWindows → List Range
ranges_in_use known = map (λ (own : OwnRange). own.range) known.ranges

-- what is known after the accepted call; shapes gives the parts of a window by its number
abbrev pub windows_after : (ℕ → List Part) → RankWindows → Action → RankWindows
windows_after shapes known (Creates creation) =
    let number = next_number known.created creation.win in
    with_window known creation.win number creation.flavor (shapes number)
windows_after shapes known (Frees win) = without_window known win
windows_after shapes known (Attaches win base bytes) = with_range known win
    (record { base = natural base; bytes = natural bytes })
windows_after shapes known (Detaches win base) = without_range known win (natural base)
windows_after shapes known (Synchronises win synchronisation) = known
windows_after shapes known Meets = known
windows_after shapes known (Moves transfer) = known
windows_after shapes known (EndsRequest req) = known
