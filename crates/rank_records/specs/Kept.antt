-- The steps and the accesses of a run as the code keeps them, each with what its rank knew of it: this project's record
-- of a run.
use Rattle.std.specs.Prelude.{ℕ, ◌≡◌, ◌+◌, List, [], ◌∷◌, length, Option, Some, None, slice_get}
use Rattle.std.specs.List.{filter, flat_map}
use Rattle.std.specs.Option.{option_map, option_map_or}
use Rattle.rma_types.specs.declared.schedules.Delay.TheVariants.{Seeded}
use Rattle.rma_types.specs.declared.scripts.Script.{Script}
use Rattle.rma_record.specs.declared.items.Item.TheVariants.{Entry}
use Rattle.rma_record.specs.declared.runs.Run.{Run}
use Rattle.rma_types.specs.Actions.{action_of, window_of_call}
use Rattle.call_rules.specs.WellFormed.{IsWellFormed}
use Rattle.lawful_runs.specs.LawfulRun.{IsLawful}
use Rattle.lawful_runs.specs.Logs.{Named, calls_of, is_some_entry, log_of, named_in}
use Rattle.order_rules.specs.CallSteps.{CallStep, IssuedAccess, accesses_of, steps_of_item}
use Rattle.order_rules.specs.DonePoints.{request_ended}
use Rattle.rank_rules.specs.Epochs.{AccessEpoch}
use Rattle.rank_rules.specs.Epochs.{Idle, FenceUnused, FenceUsed, StartTo, LocksAt, LockAll}
use Rattle.rank_rules.specs.Requests.{maker_of}
use Rattle.rank_rules.specs.Windows.{Window, window_of_name}
use Rattle.rank_records.specs.declared.kept.EpochKind.{EpochKind}
use Rattle.rank_records.specs.declared.kept.EpochKind.TheVariants.{NoEpoch, Fence, Start, Passive}
use Rattle.rank_records.specs.declared.kept.KeptAccess.{KeptAccess}
use Rattle.rank_records.specs.declared.kept.KeptStep.{KeptStep}
use Rattle.rank_records.specs.declared.kept.RankRecord.{RankRecord}
use Rattle.rank_records.specs.declared.kept.RunRecord.{RunRecord}

-- the number of the live window that the call of a step names, as its rank knew it
abbrev pub number_known : CallStep → Option ℕ
number_known x = option_map_or
    (λ win. option_map (λ (window : Window). window.number) (window_of_name x.known.windows win))
    (window_of_call x.call) None

-- the number of the call that made the live request which the call of a step ends, as its rank knew it
abbrev pub maker_known : CallStep → Option ℕ
maker_known x = option_map_or (maker_of x.known.requests) (request_ended (action_of x.call)) None

abbrev pub kind_of_epoch : AccessEpoch → EpochKind
kind_of_epoch Idle = NoEpoch
kind_of_epoch FenceUnused = Fence
kind_of_epoch FenceUsed = Fence
kind_of_epoch (StartTo group) = Start
kind_of_epoch (LocksAt targets) = Passive
kind_of_epoch LockAll = Passive

-- the step as the code keeps it
pub record IsKeptStep (script : Script) (kept : KeptStep) (x : CallStep) : Type 0 where
  pub named : kept.id ≡ x.id
  pub called : slice_get (calls_of script x.id.rank) kept.call ≡ Some x.call
  pub step : kept.step ≡ x.step
  pub window : kept.window ≡ number_known x
  pub maker : kept.maker ≡ maker_known x

-- the entry of the board that a step is, where it has a place
abbrev pub entry_kept : KeptStep → List Named
entry_kept kept = option_map_or
    (λ place. record { id = kept.id; item = Entry kept.call place kept.step } ∷ []) kept.place []

-- the access as the code keeps it
pub record IsKeptAccess (kept : KeptAccess) (a : IssuedAccess) : Type 0 where
  pub named : kept.id ≡ a.id
  pub number : kept.call ≡ a.issued.number
  pub access : kept.access ≡ a.issued.access
  pub epoch : kept.epoch ≡ kind_of_epoch a.epoch

-- the relation holds of each two elements at one place, and the lists have one length
abbrev pub EachKept : {A B : Type 0} → (A → B → Type 0) → List A → List B → Type 0
EachKept R [] [] = Unit {0}
EachKept R [] (y ∷ ys) = ⊥
EachKept R (x ∷ xs) [] = ⊥
EachKept R (x ∷ xs) (y ∷ ys) = R x y × EachKept R xs ys

-- the steps of the calls of a rank, in the order of their names
abbrev pub steps_of_rank : Script → Run → ℕ → List CallStep
steps_of_rank script run rank = flat_map (steps_of_item script run) (named_in rank (log_of run rank))

-- what the code keeps of a rank: all steps, those with a place being its entries, and all accesses, in the order of
-- their names
pub record IsRecordOf (script : Script) (run : Run) (rank : ℕ) (kept : RankRecord) : Type 0 where
  pub steps : EachKept (IsKeptStep script) kept.steps (steps_of_rank script run rank)
  pub entries : flat_map entry_kept kept.steps ≡ filter is_some_entry (named_in rank (log_of run rank))
  pub accesses : EachKept IsKeptAccess kept.accesses (accesses_of script run rank)

-- what the code keeps of the ranks from this one on
abbrev pub AreRecordsFrom : Script → Run → ℕ → List RankRecord → Type 0
AreRecordsFrom script run rank [] = Unit {0}
AreRecordsFrom script run rank (kept ∷ rest) =
    IsRecordOf script run rank kept × AreRecordsFrom script run (rank + 1) rest

-- a lawful run of a script, with what is kept of all its ranks
pub record IsRecorded (recorded : RunRecord) : Type 0 where
  pub formed : IsWellFormed recorded.script.now
  pub lawful : IsLawful recorded.script.now Seeded recorded.run.now
  pub ranks : length recorded.ranks.items ≡ recorded.script.now.ranks
  pub each : AreRecordsFrom recorded.script.now recorded.run.now 0 recorded.ranks.items
