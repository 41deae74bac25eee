-- The command line, and what each list of words stands for, by what clap promises of a simple command: this project's
-- program.
use Rattle.std.specs.Prelude.{true, if◌then◌else◌, List, Option, Some, None, codes}
use Rattle.clap.specs.Simple.{App, Shape, new_app, new_rule, on_top, with_rule, matches_of}
use Rattle.clap.specs.Faults.{fault_of}
use Rattle.clap.specs.Walk.{Row, Rule, Text, first_of, is_empty}
use Rattle.clap.specs.declared.builder.action.ArgAction.TheVariants.{Set}
use Rattle.command_words.specs.declared.options.Options.{Options}
use Rattle.command_words.specs.declared.options.TheConstants.{DEFAULT_OPTIONS}
use Rattle.command_words.specs.Values.{mode_of, order_of, workers_of, delay_of, seed_of}

-- an option that takes one value
abbrev pub option_rule : Text → Rule
option_rule name = record (new_rule name) { long = Some name; action = Some Set }

-- all words are arguments, and there is no flag for help
abbrev pub bare : Shape → Shape
bare shape = record shape { no_binary_name = true; disable_help_flag = true }

-- one simple command with five options
abbrev pub command : App
command = with_rule (with_rule (with_rule (with_rule (with_rule (on_top bare (new_app (codes "rma_runner")))
    (option_rule (codes "mode"))) (option_rule (codes "order"))) (option_rule (codes "workers")))
    (option_rule (codes "delay"))) (option_rule (codes "seed"))

-- the value of an option: its default where it is not given; none where its text is no value
abbrev pub value_or : {X : Type 0} → X → (Text → Option X) → Option Text → Option X
value_or default read None = Some default
value_or default read (Some text) = read text

abbrev pub with_value : {X : Type 0} → Option X → (X → Option Options) → Option Options
with_value None next = None
with_value (Some value) next = next value

-- the options that the matches give, where each text is a value of its option
abbrev pub options_in : List Row → Option Options
options_in rows =
    with_value (value_or DEFAULT_OPTIONS.mode mode_of (first_of (codes "mode") rows)) (λ mode.
    with_value (value_or DEFAULT_OPTIONS.order order_of (first_of (codes "order") rows)) (λ order.
    with_value (value_or DEFAULT_OPTIONS.workers workers_of (first_of (codes "workers") rows)) (λ workers.
    with_value (value_or DEFAULT_OPTIONS.delay delay_of (first_of (codes "delay") rows)) (λ delay.
    with_value (value_or DEFAULT_OPTIONS.seed seed_of (first_of (codes "seed") rows)) (λ seed.
    Some (record { mode = mode; order = order; workers = workers; delay = delay; seed = seed }))))))

-- the options that a list of words stands for, where the command takes the words and each value is one of its option
abbrev pub options_of : List Text → Option Options
options_of words = if is_empty (fault_of command words) then options_in (matches_of command words) else None
