-- The exit status of the program: this project's profile.
use Rattle.std.specs.Prelude.{ℕ, not, ◌||◌, if◌then◌else◌, List, length, nat_lt}
use Rattle.std.specs.List.{list_any}
use Rattle.rma_types.specs.declared.findings.Finding.{Finding}
use Rattle.rma_record.specs.declared.runs.Run.{Run}
use Rattle.lawful_runs.specs.Items.{is_refused}
use Rattle.run_texts.specs.Report.{all_ended}

-- each rank ended, no call was refused, and nothing was found
abbrev pub all_is_well : ℕ
all_is_well = 0

-- there is a finding or a refused call
abbrev pub something_is_wrong : ℕ
something_is_wrong = 1

-- a rank stands at a call
abbrev pub rank_is_stuck : ℕ
rank_is_stuck = 7

-- of a run whose report was written
abbrev pub status : Run → List Finding → ℕ
status run found =
    if not (all_ended run) then rank_is_stuck
    else (if nat_lt 0 (length found) || list_any (list_any is_refused) run.logs
    then something_is_wrong else all_is_well)

-- the words of the command line are refused
abbrev pub words_refused : ℕ
words_refused = 2

-- the script is refused
abbrev pub script_refused : ℕ
script_refused = 3

-- a read failed
abbrev pub read_failed : ℕ
read_failed = 4

-- a write failed
abbrev pub write_failed : ℕ
write_failed = 5

-- want of memory
abbrev pub out_of_memory : ℕ
out_of_memory = 6
