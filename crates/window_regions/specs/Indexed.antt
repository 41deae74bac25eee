-- A rank's ranges, kept twice: in the order in which they came, and for searches.
use Rattle.std.specs.Prelude.{◌≡◌, Bool, true, not, ◌&&◌, ◌==◌, List}
use Rattle.std.specs.List.{list_any}
use Rattle.rank_rules.specs.Windows.{OwnRange}
use Rattle.window_regions.specs.Ascending.{IsAscending}

-- Of all ranges, those of created windows and those that are attached pass the same tests as the lists for searches,
-- and the attached ones have no byte in common.
pub record IsIndexed (ranges created attached : List OwnRange) : Type 0 where
  pub of_created : (test : OwnRange → Bool)
      → list_any test created ≡ list_any (λ (own : OwnRange). not own.is_attached && test own) ranges
  pub of_attached : (test : OwnRange → Bool)
      → list_any test attached ≡ list_any (λ (own : OwnRange). own.is_attached && test own) ranges
  pub ascending : IsAscending attached

-- the range is attached to the window w0, as all ranges are where there is one window alone
abbrev pub IsAttachedAlone : OwnRange → Type 0
IsAttachedAlone own = (own.is_attached && own.win == 0) ≡ true
