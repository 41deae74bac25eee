-- What was written where a text was to be written.
use Rattle.std.specs.Prelude.{ℕ, ◌≡◌, List, Option, Result, Ok, Err}
use Rattle.rma_streams.specs.Moves.{Wrote, WrotePrefix}
use Rattle.rma_program.specs.declared.outputs.NoText.{NoText}
use Rattle.rma_program.specs.declared.outputs.NoText.TheVariants.{Failed, NoMemory}

-- the whole text was written, or a front of it where a write failed; without memory for the text nothing was
abbrev pub WritesOrStops : Option (List ℕ) → Option (List ℕ) → List ℕ → Result (Unit {0}) NoText → Type 0
WritesOrStops before after text (Ok done) = Wrote before text after
WritesOrStops before after text (Err Failed) = WrotePrefix before text after
WritesOrStops before after text (Err NoMemory) = after ≡ before
