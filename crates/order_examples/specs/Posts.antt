-- The order of runs with posts and starts: MPI 3.1, sections 11.5.2 and 11.7.
use Rattle.std.specs.Prelude.{[], ◌∷◌}
use Rattle.rma_types.specs.declared.calls.Call.TheVariants.{Complete, WaitWin}
use Rattle.rma_types.specs.declared.dtypes.Dtype.TheVariants.{Int32}
use Rattle.rma_types.specs.declared.findings.Rule.TheVariants.{S2}
use Rattle.rma_types.specs.declared.scripts.Script.{Script}
use Rattle.run_examples.specs.Posts.{put_and_get}
use Rattle.run_examples.specs.Scripts.{allocate, load, pair, plain_run, post, put, script, start}
use Rattle.order_examples.specs.Judged.{Finds, IsDoneAt, item}

abbrev pub FindsTheGetBeforeTheWait : Type 0
FindsTheGetBeforeTheWait = Finds put_and_get (plain_run put_and_get) (pair S2 1 3 2 5 ∷ [])

-- a put in each of two rounds, and a load after each
abbrev pub two_rounds : Script
two_rounds = script
    ((allocate 0 4 4
    ∷ post 0 (1 ∷ [])
    ∷ WaitWin 0
    ∷ load 0 0 Int32 1
    ∷ post 0 (1 ∷ [])
    ∷ WaitWin 0
    ∷ load 0 0 Int32 1
    ∷ [])
    ∷ (allocate 0 4 4
    ∷ start 0 (0 ∷ [])
    ∷ put 0 0 0 Int32 (1 ∷ [])
    ∷ Complete 0
    ∷ start 0 (0 ∷ [])
    ∷ put 0 0 0 Int32 (2 ∷ [])
    ∷ Complete 0
    ∷ [])
    ∷ [])

abbrev pub FindsNoneInTwoRounds : Type 0
FindsNoneInTwoRounds = Finds two_rounds (plain_run two_rounds) []

abbrev pub IsDoneAtItsOwnWait : Type 0
IsDoneAtItsOwnWait =
    IsDoneAt two_rounds (plain_run two_rounds) (item 1 3) (item 0 3 ∷ [])
    × IsDoneAt two_rounds (plain_run two_rounds) (item 1 7) (item 0 7 ∷ [])
