-- What stays the same through a run, and what a rank knows in it: this project's record of a run.
use Rattle.std.specs.Prelude.{ℕ, List, slice_index_or}
use Rattle.rma_types.specs.declared.calls.Call.{Call}
use Rattle.rma_types.specs.declared.schedules.Delay.{Delay}
use Rattle.rma_types.specs.declared.scripts.Layout.{Layout}
use Rattle.rma_types.specs.declared.scripts.Part.{Part}
use Rattle.rma_types.specs.declared.scripts.Script.{Script}
use Rattle.rma_record.specs.declared.items.Item.{Item}
use Rattle.board_rules.specs.Entries.{Row, acts}
use Rattle.board_rules.specs.Shapes.{parts_of}
use Rattle.call_rules.specs.Layout.{layout}
use Rattle.lawful_runs.specs.Logs.{calls_of}
use Rattle.rank_rules.specs.Knowledge.{Knowledge, nothing_known, known_after}

-- a script, its layout, and how its accesses are delayed
pub record Stage : Type 0 where
  pub script : Script
  pub layout : Layout
  pub delay : Delay

abbrev pub stage_of : Script → Delay → Stage
stage_of script delay = record { script = script; layout = layout script; delay = delay }

abbrev pub calls_at : Stage → ℕ → List Call
calls_at stage rank = calls_of stage.script rank

-- what a rank knows before its first call
abbrev pub first_knowledge : Stage → ℕ → Knowledge
first_knowledge stage rank =
    nothing_known rank stage.script.ranks (slice_index_or stage.script.spaces rank 0)

-- the parts of a window by its number, as the entries brought them
abbrev pub shapes_in : Stage → List Row → ℕ → List Part
shapes_in stage rows window = parts_of stage.layout stage.script.ranks (acts rows) window

-- a rank of a run, with all entries of the run
pub record RankOfRun : Type 0 where
  pub stage : Stage
  pub rank : ℕ
  pub rows : List Row

abbrev pub calls_here : RankOfRun → List Call
calls_here here = calls_at here.stage here.rank

-- what the rank knows after these items of its log
abbrev pub known_at : RankOfRun → List Item → Knowledge
known_at here items =
    known_after (shapes_in here.stage here.rows) (calls_here here) (first_knowledge here.stage here.rank) items
