-- The options that words stand for.
use Rattle.std.proofs.Common.{◌≡◌, ℕ, ◌∙◌, cond, Bool, true, false, List, Option, Some, None, refl, codes}
use Rattle.std.specs.Str.{bytes_eq}
use Rattle.clap.specs.Faults.{fault_of}
use Rattle.clap.specs.Simple.{matches_of}
use Rattle.clap.specs.Walk.{Row, Text, first_of, is_empty}
use Rattle.rma_types.specs.declared.schedules.Delay.{Delay}
use Rattle.rma_types.specs.declared.schedules.Order.{Order}
use Rattle.run_texts.specs.declared.modes.Mode.{Mode}
use Rattle.run_texts.specs.declared.modes.Mode.TheVariants.{Step}
use Rattle.command_words.specs.Values.{mode_of}
use Rattle.command_words.specs.Words.{command, options_in, options_of, value_or, with_value}
use Rattle.command_words.specs.declared.options.Options.{Options}

-- a mode that is read is step
mode_by : (text : Text) (named : Bool) → bytes_eq text (codes "step") ≡ named → (mode : Mode) →
    mode_of text ≡ Some mode → mode ≡ Step
mode_by text true e mode read = cc (e, read)
mode_by text false e mode read = absurd (cc (e, read))

mode_is : (given : Option Text) (mode : Mode) → value_or Step mode_of given ≡ Some mode → mode ≡ Step
mode_is None mode read = cc read
mode_is (Some text) mode read = mode_by text (bytes_eq text (codes "step")) refl mode read

-- what a chain of values gives, by its first one
first_value : {X : Type 0} (value : Option X) (next : X → Option Options) (options : Options) →
    with_value value next ≡ Some options →
    (x : X) × (value ≡ Some x) × (next x ≡ Some options)
first_value None next options e = absurd (cc e)
first_value (Some x) next options e = (x, refl, e)

-- the values that follow the mode leave it
keeps_mode : (order : Option Order) (workers : Option ℕ) (delay : Option Delay) (seed : Option ℕ) (mode : Mode)
    (options : Options) →
    with_value order (λ o. with_value workers (λ w. with_value delay (λ d. with_value seed (λ s.
    Some (record { mode = mode; order = o; workers = w; delay = d; seed = s }))))) ≡ Some options → options.mode ≡ mode
keeps_mode None workers delay seed mode options e = absurd (cc e)
keeps_mode (Some o) None delay seed mode options e = absurd (cc e)
keeps_mode (Some o) (Some w) None seed mode options e = absurd (cc e)
keeps_mode (Some o) (Some w) (Some d) None mode options e = absurd (cc e)
keeps_mode (Some o) (Some w) (Some d) (Some s) mode options e = cc e

in_rows : (rows : List Row) (options : Options) → options_in rows ≡ Some options → options.mode ≡ Step
in_rows rows options e =
    let one = first_value (value_or Step mode_of (first_of (codes "mode") rows)) _ options e in
    keeps_mode _ _ _ _ one.0 options one.2 ∙ mode_is (first_of (codes "mode") rows) one.0 one.1

taken_one : (taken : Bool) (given : Option Options) (options : Options) → cond taken given None ≡ Some options →
    given ≡ Some options
taken_one true given options e = e
taken_one false given options e = absurd (cc e)

-- words stand for the mode step alone
pub steps_alone : (words : List Text) (options : Options) → options_of words ≡ Some options → options.mode ≡ Step
steps_alone words options is = in_rows (matches_of command words) options
    (taken_one (is_empty (fault_of command words)) (options_in (matches_of command words)) options is)
