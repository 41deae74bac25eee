-- The entries of a run in the order of their places: this project's record of a run.
use Rattle.std.specs.Prelude.{ℕ, Bool, List, [], ◌∷◌, is_some, slice_set}
use Rattle.std.specs.List.{count_by, sum_by}
use Rattle.std.specs.Option.{option_map_or}
use Rattle.rma_types.specs.declared.accesses.Step.TheVariants.{Arrive}
use Rattle.rma_record.specs.declared.items.Item.TheVariants.{Entry}
use Rattle.lawful_runs.specs.Logs.{Named}
use Rattle.rank_records.specs.declared.kept.KeptStep.{KeptStep}
use Rattle.rank_records.specs.declared.kept.RankRecord.{RankRecord}
use Rattle.vector_clocks.specs.declared.places.Placed.{Placed}

-- an entry as it stands in a log
abbrev pub placed_item : Placed → Named
placed_item one = record { id = one.id; item = Entry one.call one.place one.step }

-- what stands at a place before its entry is found
abbrev pub no_entry : Placed
no_entry = record { id = record { rank = 0; index = 0 }; call = 0; place = 0; step = Arrive }

-- the step is an entry
abbrev pub has_place : KeptStep → Bool
has_place kept = is_some kept.place

-- the list with the step at its place, where it is an entry
abbrev pub with_step : List Placed → KeptStep → List Placed
with_step list kept = option_map_or
    (λ place. slice_set list place (record { id = kept.id; call = kept.call; place = place; step = kept.step }))
    kept.place list

-- the list with the entries among some steps, each at its place
abbrev pub with_steps : List Placed → List KeptStep → List Placed
with_steps list [] = list
with_steps list (kept ∷ rest) = with_steps (with_step list kept) rest

abbrev pub with_records : List Placed → List RankRecord → List Placed
with_records list [] = list
with_records list (one ∷ rest) = with_records (with_steps list one.steps) rest

-- how many entries the ranks have
abbrev pub count_kept : List RankRecord → ℕ
count_kept records = sum_by (λ (one : RankRecord). count_by has_place one.steps) records
