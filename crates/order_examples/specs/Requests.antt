-- The order of runs with requests: MPI 3.1, sections 11.3.5 and 11.7.
use Rattle.std.specs.Prelude.{pos, [], ◌∷◌, Some}
use Rattle.rma_types.specs.declared.calls.Call.TheVariants.{Get, Put, TestReq, UnlockAll, WaitReq}
use Rattle.rma_types.specs.declared.dtypes.Dtype.TheVariants.{Int32}
use Rattle.rma_types.specs.declared.findings.Rule.TheVariants.{S2}
use Rattle.rma_types.specs.declared.scripts.Script.{Script}
use Rattle.run_examples.specs.Deliveries.{requested_gets}
use Rattle.run_examples.specs.Scripts.{allocate, lock_all, pair, plain_run, put, script}
use Rattle.order_examples.specs.Judged.{Finds}

-- a get and a put with requests, each with a put to its place after the end of its request
abbrev pub requests : Script
requests = script
    ((allocate 0 8 4
    ∷ lock_all 0
    ∷ Get (Some 0) 0 (Some (pos 0)) (pos 0) Int32 (pos 1)
    ∷ WaitReq 0
    ∷ put 0 0 0 Int32 (4 ∷ [])
    ∷ Put (Some 0) 0 (Some (pos 0)) (pos 1) Int32 (5 ∷ [])
    ∷ TestReq 0
    ∷ put 0 0 1 Int32 (6 ∷ [])
    ∷ UnlockAll 0
    ∷ [])
    ∷ [])

-- the pair is of the put with a request and of the put after it
abbrev pub FindsTheRequestedPut : Type 0
FindsTheRequestedPut = Finds requests (plain_run requests) (pair S2 0 8 0 11 ∷ [])

abbrev pub FindsNoneAfterRequestedGets : Type 0
FindsNoneAfterRequestedGets = Finds requested_gets (plain_run requested_gets) []
