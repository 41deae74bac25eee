-- The text of a report on a run: this project's profile.
use Rattle.std.specs.Prelude.{ℕ, ◌+◌, ◌*◌, ◌/◌, ◌%◌, Bool, false, ◌==◌, if◌then◌else◌, List, [], ◌∷◌, ◌++◌, length}
use Rattle.std.specs.Prelude.{take, drop, sum, sum_by, count_by, slice_get, codes}
use Rattle.std.specs.List.{filter, flat_map, list_all}
use Rattle.std.specs.Option.{option_map_or}
use Rattle.std.specs.Fmt.{digit_glyph}
use Rattle.rma_types.specs.declared.accesses.Id.{Id}
use Rattle.rma_types.specs.declared.calls.Call.{Call}
use Rattle.rma_types.specs.declared.findings.Finding.{Finding}
use Rattle.rma_types.specs.declared.findings.Rule.{Rule}
use Rattle.rma_types.specs.declared.findings.Rule.TheVariants.{S1, S2, S3}
use Rattle.rma_types.specs.declared.scripts.Layout.{Layout}
use Rattle.rma_types.specs.declared.scripts.MemoryPart.{MemoryPart}
use Rattle.rma_types.specs.declared.scripts.Script.{Script}
use Rattle.rma_record.specs.declared.items.Item.{Item}
use Rattle.rma_record.specs.declared.items.Item.TheVariants.{Issue}
use Rattle.rma_record.specs.declared.runs.Run.{Run}
use Rattle.call_rules.specs.Layout.{layout, call_count as calls_in_all}
use Rattle.call_rules.specs.Pieces.{numbers_from}
use Rattle.call_rules.specs.Text.{line, join_by_spaces, number}
use Rattle.lawful_runs.specs.Items.{is_issue, is_touch, is_entry, is_refused, has_ended}
use Rattle.lawful_runs.specs.Logs.{log_of, calls_of}
use Rattle.run_texts.specs.declared.modes.Mode.{Mode}
use Rattle.run_texts.specs.declared.modes.Mode.TheVariants.{Step as StepMode, Run as RunMode, Work as WorkMode}
use Rattle.run_texts.specs.Answers.{Answer, answers}

-- a call as it is named: its rank, a colon, and its number in the rank's list
abbrev pub call_name : ℕ → ℕ → List ℕ
call_name rank call = number rank ++ 58 ∷ number call

-- every rank has ended
abbrev pub all_ended : Run → Bool
all_ended run = list_all has_ended run.logs

-- how many items of the run pass the test
abbrev pub items_where : (Item → Bool) → Run → ℕ
items_where test run = sum_by (count_by test) run.logs

-- ---- lines

abbrev pub answer_line : ℕ → Answer → List ℕ
answer_line rank a = line (join_by_spaces (call_name rank a.call ∷ a.words))

-- the lines about the first calls of a rank's list, call by call
abbrev pub lines_of_calls : ℕ → List Answer → ℕ → List ℕ
lines_of_calls rank all count =
    flat_map (λ call. flat_map (answer_line rank) (filter (λ (a : Answer). a.call == call) all)) (numbers_from 0 count)

abbrev pub call_lines : ℕ → List Call → List Item → List ℕ
call_lines rank calls log = lines_of_calls rank (answers calls log) (length calls)

-- two lower-case hexadecimal digits
abbrev pub byte_hex : ℕ → List ℕ
byte_hex byte = digit_glyph false (byte / 16) ∷ digit_glyph false (byte % 16) ∷ []

-- the 4 bytes of a cell, little-endian
abbrev pub cell_hex : ℕ → List ℕ
cell_hex cell =
    byte_hex (cell % 256) ++ byte_hex (cell / 256 % 256) ++ byte_hex (cell / 65536 % 256) ++ byte_hex
    (cell / 16777216 % 256)

-- the line of some cells of a rank's memory from an address on, where one of them is not 0
abbrev pub memory_line : ℕ → ℕ → List ℕ → List ℕ
memory_line rank address cells =
    if list_all (λ cell. cell == 0) cells then []
    else line (join_by_spaces (codes "memory" ∷ number rank ∷ number address ∷ flat_map cell_hex cells ∷ []))

-- the lines of a rank's memory, 8 cells to a line; the last may have fewer
abbrev pub memory_lines : ℕ → List ℕ → List ℕ
memory_lines rank cells =
    flat_map (λ piece. memory_line rank (32 * piece) (take 8 (drop (8 * piece) cells)))
    (numbers_from 0 ((length cells + 7) / 8))

-- the cells of a part of the memory
abbrev pub cells_in : List ℕ → MemoryPart → List ℕ
cells_in memory part = take (part.bytes / 4) (drop part.first_cell memory)

abbrev pub rule_text : Rule → List ℕ
rule_text S1 = codes "S1"
rule_text S2 = codes "S2"
rule_text S3 = codes "S3"

-- the call that an Issue item is of
abbrev pub issued_call : Item → ℕ
issued_call (Issue call access) = call
issued_call item = 0

-- an access as it is named: by its rank and its call
abbrev pub access_name : Run → Id → List ℕ
access_name run id =
    call_name id.rank (option_map_or issued_call (slice_get (log_of run id.rank) id.index) 0)

abbrev pub finding_line : Run → Finding → List ℕ
finding_line run finding =
    line (join_by_spaces (codes "finding" ∷ rule_text finding.rule ∷ access_name run finding.first
    ∷ access_name run finding.second ∷ []))

-- ---- the report

abbrev pub cells_at : Layout → List ℕ → ℕ → List ℕ
cells_at layout memory rank = option_map_or (cells_in memory) (slice_get layout.parts rank) []

abbrev pub first_line : Run → List ℕ
first_line run = line (if all_ended run then codes "ended" else codes "stuck")

abbrev pub summary_line : Run → List Finding → List ℕ
summary_line run found = line (join_by_spaces
    (codes "summary" ∷ codes "accesses" ∷ number (items_where is_issue run) ∷ codes "touches"
    ∷ number (items_where is_touch run)
    ∷ codes "entries" ∷ number (items_where is_entry run) ∷ codes "refused" ∷ number (items_where is_refused run)
    ∷ codes "findings" ∷ number (length found) ∷ []))

-- the report on a script's run: how it ended, then the calls and then the memory of each rank, the findings, and the
-- counts
abbrev pub full_report : Script → Run → List Finding → List ℕ
full_report script run found =
    first_line run
    ++ flat_map (λ rank. call_lines rank (calls_of script rank) (log_of run rank)) (numbers_from 0 script.ranks)
    ++ flat_map (λ rank. memory_lines rank (cells_at (layout script) run.memory rank)) (numbers_from 0 script.ranks)
    ++ flat_map (finding_line run) found
    ++ summary_line run found

-- the report on the built-in work: one line of counts, with the sum of all cells
abbrev pub work_report : Script → Run → List Finding → List ℕ
work_report script run found = line (join_by_spaces
    (codes "work" ∷ codes "calls" ∷ number (calls_in_all script) ∷ codes "accesses" ∷ number (items_where is_issue run)
    ∷ codes "touches" ∷ number (items_where is_touch run) ∷ codes "findings" ∷ number (length found)
    ∷ codes "total" ∷ number (sum run.memory) ∷ []))

unfoldable pub report : Script → Run → List Finding → Mode → List ℕ
report script run found StepMode = full_report script run found
report script run found RunMode = full_report script run found
report script run found WorkMode = work_report script run found
