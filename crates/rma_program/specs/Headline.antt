-- What holds of a script and its recorded run, half-sentence by half-sentence: after MPI 3.1, sections 11.2 to 11.7,
-- in this project's profile. Under every schedule and order of delivery, each recorded update stands once in its cell's
-- one history; every touch reads the state at its place; a call is refused exactly by its named class, changing
-- nothing; a finding is printed exactly where rules S1 to S3 forbid a pair of accesses that no recorded synchronisation
-- orders; without findings, every get and load gives what the updates ordered before it left.
use Rattle.std.specs.Prelude.{ℕ, ◌≡◌, ◌<◌, ◌⊎◌, if◌then◌else◌, nat_lt, List, [], length, slice_index, Option}
use Rattle.std.specs.List.{count_by, AllByRecursion}
use Rattle.rma_types.specs.declared.findings.Finding.{Finding}
use Rattle.rma_types.specs.declared.findings.Model.TheVariants.{Separate}
use Rattle.rma_types.specs.declared.schedules.Delay.{Delay}
use Rattle.rma_types.specs.declared.scripts.Script.{Script}
use Rattle.rma_record.specs.declared.runs.Run.{Run}
use Rattle.call_rules.specs.Layout.{layout, cells_of}
use Rattle.lawful_runs.specs.Accesses.{Touching, all_touches, on_cell}
use Rattle.lawful_runs.specs.BoardLaw.{AreAllowed, HasLawfulLooks}
use Rattle.lawful_runs.specs.CallItems.{HasItemsOfCalls, other_items}
use Rattle.lawful_runs.specs.Cells.{ReadsState, has_place, state}
use Rattle.lawful_runs.specs.LawfulRun.{rank_in}
use Rattle.lawful_runs.specs.Logs.{log_of, rows_of}
use Rattle.order_rules.specs.Findings.{AreFindings}
use Rattle.order_rules.specs.OrderedReads.{updates_of}
use Rattle.refusal_laws.specs.RefusalLaws.{RefusalsChangeNothing}
use Rattle.rma_streams.specs.Moves.{Wrote, WrotePrefix}
use Rattle.conflict_check.specs.Judgements.{AreReadsOrderedIfNone}
use Rattle.command_words.specs.declared.options.Options.{Options}
use Rattle.rma_program.specs.Answers.{IsRunOf, ReadsAs, report_on}

-- the bytes taken are the whole input and say a script; the run is the script's run by the options; and this holds of
-- both
abbrev pub OfScript : Options → (left_before left_after : Option (List ℕ)) → (Script → Run → Type 0) → Run → Type 0
OfScript options left_before left_after Holds run =
    (script : Script) × ReadsAs left_before left_after script × IsRunOf options script run × Holds script run

-- ---- each recorded update stands once in its cell's one history

-- the updates of the cell, in all logs, have the places from 0 on, each once, and leave what the memory has in the end
pub record HasOneHistory (script : Script) (run : Run) (cell : ℕ) : Type 0 where
  pub places : (place : ℕ) →
      count_by (has_place place) (updates_of script run cell)
      ≡ (if nat_lt place (length (updates_of script run cell)) then 1 else 0)
  pub last : slice_index run.memory cell ≡ state (updates_of script run cell) (length (updates_of script run cell))

-- each touch is on a cell of the memory, and each of these cells has one history
pub record UpdatesStandOnce (script : Script) (run : Run) : Type 0 where
  pub inside : AllByRecursion (λ (touch : Touching). touch.cell < cells_of (layout script)) (all_touches script run)
  pub histories : (cell : ℕ) → cell < cells_of (layout script) → HasOneHistory script run cell

-- ---- every touch reads the state at its place

abbrev pub TouchesReadStates : Script → Run → Type 0
TouchesReadStates script run = (cell : ℕ) → cell < cells_of (layout script) →
    AllByRecursion (ReadsState (updates_of script run cell)) (on_cell cell (all_touches script run))

-- ---- a call is refused exactly by its named class, changing nothing

-- Where its rank gives a call a class, that it is refused by this class is its one item. Where its rank gives none, the
-- board refuses the call, or it is accepted. A refusal by the board has the class that the board gives after the
-- entries that it saw, and each entry is one that the board allows after those before it.
pub record CallsAreRefusedByClass (delay : Delay) (script : Script) (run : Run) : Type 0 where
  pub by_rank : (rank : ℕ) → rank < script.ranks →
      HasItemsOfCalls (rank_in script delay run rank) (other_items (log_of run rank))
  pub by_board : (rank : ℕ) → rank < script.ranks →
      HasLawfulLooks script (rows_of script run) rank (log_of run rank)
  pub entries : AreAllowed script.ranks [] (rows_of script run)

-- a refused call has no other item, and so no entry and no access; and its rank knows after it what it knew before
abbrev pub RefusalsOfRunChangeNothing : Delay → Script → Run → Type 0
RefusalsOfRunChangeNothing delay script run = (rank : ℕ) → rank < script.ranks →
    RefusalsChangeNothing (rank_in script delay run rank) (log_of run rank)

-- ---- a finding is printed exactly where rules S1 to S3 forbid a pair that no recorded synchronisation orders

-- the text was written, or a front of it where a write failed
abbrev pub WroteOrBegan : Option (List ℕ) → List ℕ → Option (List ℕ) → Type 0
WroteOrBegan before text after = Wrote before text after ⊎ WrotePrefix before text after

-- what was written is the report with exactly the run's findings, or a front of it
abbrev pub PrintsFindings : (before after : Option (List ℕ)) → Script → Run → Type 0
PrintsFindings before after script run =
    (found : List Finding) × AreFindings script run Separate found
    × WroteOrBegan before (report_on script run found) after

-- ---- without findings, every get and load gives what the updates ordered before it left

abbrev pub ReadsAreOrdered : Script → Run → Type 0
ReadsAreOrdered script run =
    (found : List Finding) × AreFindings script run Separate found × AreReadsOrderedIfNone script run found
