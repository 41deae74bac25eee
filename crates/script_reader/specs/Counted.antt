-- The reader's totals are those of its lines.
use Rattle.std.specs.Prelude.{◌≡◌}
use Rattle.script_reader.specs.declared.readers.Reader.{Reader}
use Rattle.script_reader.specs.Sound.{IsSoundDraft}
use Rattle.script_reader.specs.Totals.{totals_of}

abbrev pub HasTotals : Reader → Type 0
HasTotals reader = reader.totals ≡ totals_of reader.draft

-- the lines so far keep their ranges, and are counted
pub record IsCounted (reader : Reader) : Type 0 where
  pub sound : IsSoundDraft reader.draft
  pub totals : HasTotals reader
