-- The numbers of a rank's live windows as a table by name: MPI 3.1, section 11.2.
use Rattle.std.specs.Prelude.{ℕ, ◌≡◌, ◌<◌, ◌+◌, ◌*◌, ◌==◌, false, List, length, replicate, slice_index, slice_index_or}
use Rattle.std.specs.Prelude.{slice_set, Some, None}
use Rattle.std.specs.List.{count_by}
use Rattle.std.specs.Option.{option_map}
use Rattle.rma_types.specs.declared.scripts.Part.{Part}
use Rattle.rma_types.specs.declared.actions.Creation.{Creation}
use Rattle.rma_types.specs.declared.actions.Action.TheVariants.{Creates, Frees}
use Rattle.rank_rules.specs.Windows.{RankWindows, Window, no_windows, window_of_name, is_live, windows_after}
use Rattle.rma_rules.specs.declared.numbers.WindowNumbers.{WindowNumbers}

-- the table says which windows are live, and how many of each name were made
pub record AreNumbers (known : RankWindows) (table : WindowNumbers) : Type 0 where
  pub names : length table.numbers ≡ 32
  pub rounds : length table.made ≡ 32
  pub live : (win : ℕ) → win < 32 →
      slice_index_or table.numbers win None ≡ option_map (λ (window : Window). window.number) (window_of_name known win)
  pub counted : (win : ℕ) → win < 32 → slice_index table.made win ≡ count_by (λ name. name == win) known.created

-- the table after a window of this name is made
abbrev pub with_made : WindowNumbers → ℕ → WindowNumbers
with_made table win = record {
  numbers = slice_set table.numbers win (Some (32 * slice_index table.made win + win));
  made = slice_set table.made win (slice_index table.made win + 1);
}

-- the table after the window of this name is freed
abbrev pub with_freed : WindowNumbers → ℕ → WindowNumbers
with_freed table win = record table { numbers = slice_set table.numbers win None }

-- a table of no window
abbrev pub IsEmptyTable : WindowNumbers → Type 0
IsEmptyTable table = (table.numbers ≡ replicate 32 None) × (table.made ≡ replicate 32 0)

-- a rank that does not refuse a creation or a free keeps its table by these; no other call changes it
pub record NumbersFollow : Type 0 where
  pub first : (rank ranks space : ℕ) (table : WindowNumbers) → IsEmptyTable table →
      AreNumbers (no_windows rank ranks space) table
  pub creates : (shapes : ℕ → List Part) (known : RankWindows) (table : WindowNumbers) (creation : Creation) →
      creation.win < 32 → is_live known creation.win ≡ false → AreNumbers known table →
      AreNumbers (windows_after shapes known (Creates creation)) (with_made table creation.win)
  pub frees : (shapes : ℕ → List Part) (known : RankWindows) (table : WindowNumbers) (win : ℕ) → win < 32 →
      AreNumbers known table → AreNumbers (windows_after shapes known (Frees win)) (with_freed table win)
