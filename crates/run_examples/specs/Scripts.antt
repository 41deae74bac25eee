-- Scripts in few words, and what their runs give.
use Rattle.std.specs.List.{flat_map}
use Rattle.std.specs.Prelude.{ℕ, ◌≡◌, false, not, ◌==◌, pos, List, [], length, map, replicate, slice_get}
use Rattle.std.specs.Prelude.{slice_index_or, Some, None}
use Rattle.rma_types.specs.declared.calls.Call.{Call}
use Rattle.rma_types.specs.declared.calls.Call.TheVariants.{Allocate, Create, Attach, Detach, Fence, Post, Start}
use Rattle.rma_types.specs.declared.calls.Call.TheVariants.{LockOne, Unlock, LockAll, Flush, FlushLocal, Put, Get, Acc}
use Rattle.rma_types.specs.declared.calls.Call.TheVariants.{Fop, Cas, Load, Store}
use Rattle.rma_types.specs.declared.calls.Lock.{Lock}
use Rattle.rma_types.specs.declared.dtypes.Dtype.{Dtype}
use Rattle.rma_types.specs.declared.findings.Finding.{Finding}
use Rattle.rma_types.specs.declared.findings.Rule.{Rule}
use Rattle.rma_types.specs.declared.ops.Op.{Op}
use Rattle.rma_types.specs.declared.schedules.Delay.TheVariants.{None as NoDelay}
use Rattle.rma_types.specs.declared.schedules.Order.TheVariants.{Robin}
use Rattle.rma_types.specs.declared.scripts.Script.{Script}
use Rattle.rma_record.specs.declared.items.Item.{Item}
use Rattle.rma_record.specs.declared.runs.Run.{Run}
use Rattle.run_texts.specs.declared.modes.Mode.TheVariants.{Step}
use Rattle.rma_types.specs.declared.calls.Asserts.{Asserts}
use Rattle.run_texts.specs.Report.{report}
use Rattle.run_texts.specs.Status.{status}
use Rattle.step_runs.specs.StepRun.{step_run}
use Rattle.call_rules.specs.Text.{line}

-- no assertion is given
abbrev pub no_asserts : Asserts
no_asserts = record { nocheck = false; nostore = false; noput = false; noprecede = false; nosucceed = false }

-- ---- calls without assertions and requests, and with no negative number

abbrev pub allocate : ℕ → ℕ → ℕ → Call
allocate win bytes unit = Allocate win (pos bytes) (pos unit)

abbrev pub create : ℕ → ℕ → ℕ → ℕ → Call
create win base bytes unit = Create win (pos base) (pos bytes) (pos unit)

abbrev pub attach : ℕ → ℕ → ℕ → Call
attach win base bytes = Attach win (pos base) (pos bytes)

abbrev pub detach : ℕ → ℕ → Call
detach win base = Detach win (pos base)

abbrev pub fence : ℕ → Call
fence win = Fence win no_asserts

abbrev pub post : ℕ → List ℕ → Call
post win group = Post win (map (λ rank. pos rank) group) no_asserts

abbrev pub start : ℕ → List ℕ → Call
start win group = Start win (map (λ rank. pos rank) group) no_asserts

abbrev pub lock : ℕ → Lock → ℕ → Call
lock win kind rank = LockOne win kind (pos rank) no_asserts

abbrev pub unlock : ℕ → ℕ → Call
unlock win rank = Unlock win (pos rank)

abbrev pub lock_all : ℕ → Call
lock_all win = LockAll win no_asserts

abbrev pub flush : ℕ → ℕ → Call
flush win rank = Flush win (pos rank)

abbrev pub flush_local : ℕ → ℕ → Call
flush_local win rank = FlushLocal win (pos rank)

abbrev pub put : ℕ → ℕ → ℕ → Dtype → List ℕ → Call
put win rank disp dtype values = Put None win (Some (pos rank)) (pos disp) dtype values

abbrev pub get : ℕ → ℕ → ℕ → Dtype → ℕ → Call
get win rank disp dtype count = Get None win (Some (pos rank)) (pos disp) dtype (pos count)

abbrev pub acc : ℕ → ℕ → ℕ → Dtype → Op → List ℕ → Call
acc win rank disp dtype op values = Acc None win (Some (pos rank)) (pos disp) dtype op values

abbrev pub fop : ℕ → ℕ → ℕ → Dtype → Op → ℕ → Call
fop win rank disp dtype op value = Fop win (Some (pos rank)) (pos disp) dtype op value

abbrev pub cas : ℕ → ℕ → ℕ → Dtype → ℕ → ℕ → Call
cas win rank disp dtype compare new = Cas win (Some (pos rank)) (pos disp) dtype compare new

abbrev pub load : ℕ → ℕ → Dtype → ℕ → Call
load win disp dtype count = Load win (pos disp) dtype (pos count)

abbrev pub store : ℕ → ℕ → Dtype → List ℕ → Call
store win disp dtype values = Store win (pos disp) dtype values

-- ---- scripts and runs

-- the bytes of space of each rank, and its calls
abbrev pub spaced_script : List ℕ → List (List Call) → Script
spaced_script spaces calls = record { ranks = length calls; spaces = spaces; calls = calls }

-- the calls of each rank, which has no space
abbrev pub script : List (List Call) → Script
script calls = spaced_script (replicate (length calls) 0) calls

-- the run in which the next rank after the last one has its turn, and each access is touched at once
abbrev pub plain_run : Script → Run
plain_run script = step_run script Robin NoDelay 0

-- a forbidden pair: the first access by its rank and the index of its item in that rank's log, and then the second
abbrev pub pair : Rule → ℕ → ℕ → ℕ → ℕ → Finding
pair rule first_rank first_index second_rank second_index = record {
  first = record { rank = first_rank; index = first_index };
  second = record { rank = second_rank; index = second_index };
  rule = rule;
}

-- the lines, each with a line feed at its end
abbrev pub lines_text : List (List ℕ) → List ℕ
lines_text lines = flat_map line lines

-- The report on the run with these findings has these lines, and this is the exit status. The run has ended unless that
-- is 7.
abbrev pub Gives : Script → Run → List Finding → List (List ℕ) → ℕ → Type 0
Gives script run findings lines code =
    (report script run findings Step ≡ lines_text lines)
    × (status run findings ≡ code)
    × (run.ended ≡ not (code == 7))

-- the item at an index of a rank's log
abbrev pub HasItem : Run → ℕ → ℕ → Item → Type 0
HasItem run rank index item = slice_get (slice_index_or run.logs rank []) index ≡ Some item
