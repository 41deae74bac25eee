use Rattle.std.proofs.Common.{◌≡◌, ◌+◌, ◌≤◌, length}
use Rattle.script_language.specs.Drafts.{no_lines}
use Rattle.script_language.specs.Lines.{lines_of}
use Rattle.script_language.specs.Reading.{lines_read}
use Rattle.script_reader.specs.Counted.{IsCounted}
use Rattle.script_reader.specs.Lexing.{lines_behind}
use Rattle.script_reader.proofs.TextLines.{size_left}
use Rattle.script_reader.proofs.parses.script.Given as goal

-- the lines that are left give what all lines give
abbrev pub invariant-loop-left : goal.invariant-loop-left
invariant-loop-left l = record {
  counted : IsCounted l.reader;
  left : lines_read (l.line + 1) l.reader.draft (lines_behind l.left) ≡ lines_read 1 no_lines (lines_of l.text);
  number : l.line + length (lines_behind l.left) ≡ length (lines_of l.text);
  few : l.line + size_left l.left ≤ 1048577;
}

abbrev pub decreases-loop-left : goal.decreases-loop-left
decreases-loop-left l = size_left l.left
