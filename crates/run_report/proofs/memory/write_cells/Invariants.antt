use Rattle.std.proofs.Common.{◌≡◌, ◌++◌, drop}
use Rattle.std.specs.List.{flat_map}
use Rattle.std.specs.String.{string_bytes}
use Rattle.run_texts.specs.Report.{cell_hex}
use Rattle.run_report.proofs.memory.write_cells.Given as goal

-- what is left gives the whole
abbrev pub invariant-loop-cell : goal.invariant-loop-cell
invariant-loop-cell l =
    string_bytes l.text ++ flat_map cell_hex (drop l.cell-index l.cells)
    ≡ string_bytes l.initial.text ++ flat_map cell_hex l.cells
