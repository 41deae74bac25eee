-- Worked lists of words, and what they stand for.
use Rattle.std.specs.Prelude.{◌≡◌, [], ◌∷◌, Some, None, codes}
use Rattle.rma_types.specs.declared.schedules.Delay.TheVariants.{End}
use Rattle.rma_types.specs.declared.schedules.Order.TheVariants.{Greedy}
use Rattle.command_words.specs.declared.options.TheConstants.{DEFAULT_OPTIONS}
use Rattle.command_words.specs.Words.{options_of}

-- accepted: no words; values apart and after an equals sign
pub record AreAccepted : Type 0 where
  pub none : options_of [] ≡ Some DEFAULT_OPTIONS
  pub seed : options_of (codes "--mode=step" ∷ codes "--seed" ∷ codes "5" ∷ []) ≡ Some
      (record DEFAULT_OPTIONS { seed = 5 })
  pub greedy : options_of (codes "--order" ∷ codes "greedy" ∷ []) ≡ Some (record DEFAULT_OPTIONS { order = Greedy })
  pub end : options_of (codes "--delay=end" ∷ codes "--workers=016" ∷ []) ≡ Some
      (record DEFAULT_OPTIONS { delay = End; workers = 16 })
  pub ended : options_of (codes "--" ∷ []) ≡ Some DEFAULT_OPTIONS

-- refused: a word that is no option, an option without a value, twice, or with no value of its own, and a number that
-- is none
pub record AreRefused : Type 0 where
  pub extra : options_of (codes "extra" ∷ []) ≡ None
  pub empty : options_of ([] ∷ []) ≡ None
  pub help : options_of (codes "--help" ∷ []) ≡ None
  pub alone : options_of (codes "--mode" ∷ []) ≡ None
  pub twice : options_of (codes "--seed=1" ∷ codes "--seed=1" ∷ []) ≡ None
  pub walk : options_of (codes "--mode" ∷ codes "walk" ∷ []) ≡ None
  pub nothing : options_of (codes "--mode=" ∷ []) ≡ None
  pub zero : options_of (codes "--workers" ∷ codes "0" ∷ []) ≡ None
  pub many : options_of (codes "--workers=17" ∷ []) ≡ None
  pub large : options_of (codes "--seed=4294967296" ∷ []) ≡ None
  pub long : options_of (codes "--seed=00000000000" ∷ []) ≡ None
  pub minus : options_of (codes "--seed=-1" ∷ []) ≡ None
