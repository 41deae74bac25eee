-- The parts of a report's text, as they are written.
use Rattle.std.specs.Prelude.{ℕ, ◌+◌, ◌==◌, Bool, if◌then◌else◌, List, [], ◌∷◌, ◌++◌, length, Option, Some, None}
use Rattle.std.specs.List.{flat_map, enumerate_from}
use Rattle.std.specs.Option.{option_map_or}
use Rattle.rma_types.specs.declared.accesses.Access.{Access}
use Rattle.rma_types.specs.declared.calls.Call.{Call}
use Rattle.rma_types.specs.declared.dtypes.Dtype.{Dtype}
use Rattle.rma_record.specs.declared.items.Item.{Item}
use Rattle.rma_record.specs.declared.items.Item.TheVariants.{Touch}
use Rattle.rma_types.specs.declared.actions.Transfer.{Transfer}
use Rattle.rma_types.specs.Actions.{transfer_of}
use Rattle.call_rules.specs.Text.{integer}
use Rattle.run_report.specs.Chains.{links}
use Rattle.run_texts.specs.Answers.{item_answers, fetched_integer, wait_answer}
use Rattle.run_texts.specs.Report.{answer_line}

-- the datatype of what a call fetches, where it fetches
abbrev pub fetches_as : Call → Option Dtype
fetches_as call = option_map_or (λ (t : Transfer). if t.fetches then Some t.dtype else None) (transfer_of call) None

-- the number that a touch found, behind a space
abbrev pub number_found : Access → Dtype → Item → List ℕ
number_found access dtype (Touch issue element cell place bits) = 32
    ∷ integer (fetched_integer access dtype element bits)
number_found access dtype item = []

-- the numbers that the touches of the access found whose Issue has this index
abbrev pub numbers_found : Access → Dtype → ℕ → ℕ → List Item → List ℕ
numbers_found access dtype calls index log = flat_map (λ one. number_found access dtype one.1)
    (links calls (calls + index) 0 log)

-- the lines of one item
abbrev pub item_lines : ℕ → List Call → List Item → ℕ → Item → List ℕ
item_lines rank calls log index item = flat_map (answer_line rank) (item_answers calls log index item)

-- the lines of the items of a call
abbrev pub said_lines : ℕ → List Call → List Item → ℕ → List ℕ
said_lines rank calls log call = flat_map (λ one. item_lines rank calls log one.0 one.1)
    (links (length calls) call 0 log)

-- that the rank waits at this call, where it stands there
abbrev pub waiting_lines : ℕ → List Call → Option ℕ → ℕ → List ℕ
waiting_lines rank calls None call = []
waiting_lines rank calls (Some stands) call = if stands == call then flat_map (answer_line rank)
    (wait_answer calls (Some stands)) else []

-- all lines of a call
abbrev pub lines_of_call : ℕ → List Call → List Item → Option ℕ → ℕ → List ℕ
lines_of_call rank calls log stands call = said_lines rank calls log call ++ waiting_lines rank calls stands call
