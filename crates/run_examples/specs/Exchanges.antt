-- An exchange between neighbours on a ring of 4 ranks: MPI 3.1, sections 11.3 and 11.5.1.
use Rattle.std.specs.Prelude.{ℕ, List, [], ◌∷◌, codes}
use Rattle.rma_types.specs.declared.calls.Call.{Call}
use Rattle.rma_types.specs.declared.dtypes.Dtype.TheVariants.{Int32}
use Rattle.rma_types.specs.declared.schedules.Delay.TheVariants.{End as EndDelay, Seeded as SeededDelay}
use Rattle.rma_types.specs.declared.schedules.Order.TheVariants.{Robin}
use Rattle.rma_types.specs.declared.scripts.Script.{Script}
use Rattle.step_runs.specs.StepRun.{step_run}
use Rattle.run_examples.specs.Scripts.{Gives, allocate, fence, load, plain_run, put, script, store}

-- a rank puts its number to its two neighbours
abbrev pub exchange : ℕ → ℕ → ℕ → List Call
exchange number right left =
    allocate 0 12 4
    ∷ store 0 1 Int32 (number ∷ [])
    ∷ fence 0
    ∷ put 0 right 0 Int32 (number ∷ [])
    ∷ put 0 left 2 Int32 (number ∷ [])
    ∷ fence 0
    ∷ load 0 0 Int32 3
    ∷ []

abbrev pub ring : Script
ring = script (exchange 10 1 3 ∷ exchange 11 2 0 ∷ exchange 12 3 1 ∷ exchange 13 0 2 ∷ [])

-- each access is touched at once
abbrev pub ExchangesAtOnce : Type 0
ExchangesAtOnce = Gives ring (plain_run ring) []
    (codes "ended"
    ∷ codes "0:6 value 13 10 11"
    ∷ codes "1:6 value 10 11 12"
    ∷ codes "2:6 value 11 12 13"
    ∷ codes "3:6 value 12 13 10"
    ∷ codes "memory 0 0 0d0000000a0000000b00000000000000"
    ∷ codes "memory 1 0 0a0000000b0000000c00000000000000"
    ∷ codes "memory 2 0 0b0000000c0000000d00000000000000"
    ∷ codes "memory 3 0 0c0000000d0000000a00000000000000"
    ∷ codes "summary accesses 16 touches 24 entries 24 refused 0 findings 0"
    ∷ [])
    0

-- each access is touched when a call must have it
abbrev pub ExchangesAtTheFence : Type 0
ExchangesAtTheFence = Gives ring (step_run ring Robin EndDelay 0) []
    (codes "ended"
    ∷ codes "0:6 value 13 10 11"
    ∷ codes "1:6 value 10 11 12"
    ∷ codes "2:6 value 11 12 13"
    ∷ codes "3:6 value 12 13 10"
    ∷ codes "memory 0 0 0d0000000a0000000b00000000000000"
    ∷ codes "memory 1 0 0a0000000b0000000c00000000000000"
    ∷ codes "memory 2 0 0b0000000c0000000d00000000000000"
    ∷ codes "memory 3 0 0c0000000d0000000a00000000000000"
    ∷ codes "summary accesses 16 touches 24 entries 24 refused 0 findings 0"
    ∷ [])
    0

-- accesses are touched at drawn moments
abbrev pub ExchangesAtDrawnMoments : Type 0
ExchangesAtDrawnMoments = Gives ring (step_run ring Robin SeededDelay 7) []
    (codes "ended"
    ∷ codes "0:6 value 13 10 11"
    ∷ codes "1:6 value 10 11 12"
    ∷ codes "2:6 value 11 12 13"
    ∷ codes "3:6 value 12 13 10"
    ∷ codes "memory 0 0 0d0000000a0000000b00000000000000"
    ∷ codes "memory 1 0 0a0000000b0000000c00000000000000"
    ∷ codes "memory 2 0 0b0000000c0000000d00000000000000"
    ∷ codes "memory 3 0 0c0000000d0000000a00000000000000"
    ∷ codes "summary accesses 16 touches 24 entries 24 refused 0 findings 0"
    ∷ [])
    0
