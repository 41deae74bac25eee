-- The words of the command line: what holds where they stand for options, and why there are none.
use Rattle.std.specs.Prelude.{ℕ, ◌≡◌, List, IsSomeAnd, None}
use Rattle.std.specs.declared.io.ErrorKind.{ErrorKind}
use Rattle.command_words.specs.Words.{options_of}
use Rattle.command_words.specs.declared.options.Options.{Options}
use Rattle.std.specs.declared.io.ErrorKind.TheVariants.{OutOfMemory}
use Rattle.rma_program.specs.declared.words.NoWords.{NoWords}
use Rattle.rma_program.specs.declared.words.NoWords.TheVariants.{NoText, NoMemory}

-- the system's words fail for want of memory, or because one of them is no text
abbrev pub why_no_words : ErrorKind → NoWords
why_no_words OutOfMemory = NoMemory
why_no_words _ = NoText

-- the words stand for options of which this holds
abbrev pub StandFor : List (List ℕ) → (Options → Type 0) → Type 0
StandFor words Holds = IsSomeAnd (options_of words) Holds

-- the words stand for some options
abbrev pub AreOptions : List (List ℕ) → Type 0
AreOptions words = StandFor words (λ options. Unit {0})

-- the words stand for no options
abbrev pub AreNoOptions : List (List ℕ) → Type 0
AreNoOptions words = options_of words ≡ None
