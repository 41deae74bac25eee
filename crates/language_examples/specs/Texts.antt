-- Texts that are read.
use Rattle.std.specs.Prelude.{ℕ, pos, negsuc, true, false, List, [], ◌∷◌, ◌++◌, codes, Some, None}
use Rattle.rma_types.specs.declared.calls.Asserts.{Asserts}
use Rattle.rma_types.specs.declared.calls.Call.{Call}
use Rattle.rma_types.specs.declared.calls.Call.TheVariants.{Allocate, Create, Dynamic, Free, Attach, Detach, Fence}
use Rattle.rma_types.specs.declared.calls.Call.TheVariants.{Post, Start, Complete, WaitWin, TestWin, LockOne, Unlock}
use Rattle.rma_types.specs.declared.calls.Call.TheVariants.{LockAll, UnlockAll, Flush, FlushAll, FlushLocal}
use Rattle.rma_types.specs.declared.calls.Call.TheVariants.{FlushLocalAll, Sync, Barrier, Put, Get, Acc, GetAcc, Fop}
use Rattle.rma_types.specs.declared.calls.Call.TheVariants.{Cas, Load, Store, WaitReq, TestReq}
use Rattle.rma_types.specs.declared.calls.Lock.TheVariants.{Shared, Exclusive}
use Rattle.rma_types.specs.declared.dtypes.Dtype.TheVariants.{Int8, Int16, Int32, Uint8, Uint16, Uint32, Byte}
use Rattle.rma_types.specs.declared.ops.Op.TheVariants.{Replace, NoOp, Max, Sum, Bxor}
use Rattle.rma_types.specs.declared.scripts.Script.{Script}
use Rattle.script_language.specs.Calls.{no_asserts}
use Rattle.script_language.specs.Reading.{Reads}
use Rattle.language_examples.specs.Said.{script, Say, AreCanonical}

-- a rank without calls has no line in the canonical text
abbrev pub NoCallsAreSaid : Type 0
NoCallsAreSaid =
    AreCanonical (codes "ranks 1" ∷ []) (script ([] ∷ []))
    × Say (codes "ranks 1" ∷ codes "rank 0" ∷ []) (script ([] ∷ []))

abbrev pub some_asserts : Asserts
some_asserts = record { nocheck = true; nostore = false; noput = true; noprecede = false; nosucceed = false }

abbrev pub all_asserts : Asserts
all_asserts = record { nocheck = true; nostore = true; noput = true; noprecede = true; nosucceed = true }

-- every form of a call's line, with numbers at the ends of their ranges
abbrev pub each_call : List Call
each_call =
    Allocate 0 (pos 65528) (pos 64)
    ∷ Create 31 (pos 2147483647) (pos 65536) (negsuc 2147483647)
    ∷ Dynamic 1
    ∷ Free 2
    ∷ Attach 3 (negsuc 0) (pos 0)
    ∷ Detach 10 (pos 8)
    ∷ Fence 0 all_asserts
    ∷ Post 0 (pos 1 ∷ negsuc 6 ∷ []) some_asserts
    ∷ Start 0 [] no_asserts
    ∷ Complete 0
    ∷ WaitWin 0
    ∷ TestWin 0
    ∷ LockOne 0 Shared (pos 1) no_asserts
    ∷ LockOne 0 Exclusive (pos 0) some_asserts
    ∷ Unlock 0 (pos 1)
    ∷ LockAll 0 some_asserts
    ∷ UnlockAll 0
    ∷ Flush 0 (pos 1)
    ∷ FlushAll 0
    ∷ FlushLocal 0 (pos 1)
    ∷ FlushLocalAll 0
    ∷ Sync 0
    ∷ Barrier
    ∷ Put None 0 (Some (pos 1)) (pos 0) Int32 (5 ∷ 4294967295 ∷ [])
    ∷ Put (Some 0) 0 None (negsuc 4) Int8 (128 ∷ 127 ∷ [])
    ∷ Get None 0 (Some (pos 1)) (pos 0) Uint8 (pos 256)
    ∷ Get (Some 63) 0 None (pos 0) Int16 (negsuc 0)
    ∷ Acc None 0 (Some (pos 1)) (pos 0) Uint16 Max (65535 ∷ [])
    ∷ Acc (Some 9) 0 (Some (pos 1)) (pos 0) Byte Bxor []
    ∷ GetAcc None 0 (Some (pos 1)) (pos 0) Uint32 NoOp (4294967295 ∷ 0 ∷ [])
    ∷ GetAcc (Some 10) 0 (Some (pos 1)) (pos 0) Int16 Replace (32768 ∷ 32767 ∷ [])
    ∷ Fop 0 (Some (pos 1)) (pos 2) Int32 Sum 2147483648
    ∷ Cas 0 None (pos 2) Byte 255 0
    ∷ Load 0 (pos 2) Int32 (pos 3)
    ∷ Store 0 (pos 2) Int8 (255 ∷ [])
    ∷ WaitReq 63
    ∷ TestReq 0
    ∷ []

abbrev pub each_call_lines : List (List ℕ)
each_call_lines =
    codes "ranks 2"
    ∷ codes "space 1 8"
    ∷ codes "rank 1"
    ∷ codes "allocate w0 65528 64"
    ∷ codes "create w31 2147483647 65536 -2147483648"
    ∷ codes "dynamic w1"
    ∷ codes "free w2"
    ∷ codes "attach w3 -1 0"
    ∷ codes "detach w10 8"
    ∷ codes "fence w0 nocheck nostore noput noprecede nosucceed"
    ∷ codes "post w0 1 -7 nocheck noput"
    ∷ codes "start w0"
    ∷ codes "complete w0"
    ∷ codes "wait w0"
    ∷ codes "testwin w0"
    ∷ codes "lock w0 shared 1"
    ∷ codes "lock w0 exclusive 0 nocheck noput"
    ∷ codes "unlock w0 1"
    ∷ codes "lock_all w0 nocheck noput"
    ∷ codes "unlock_all w0"
    ∷ codes "flush w0 1"
    ∷ codes "flush_all w0"
    ∷ codes "flush_local w0 1"
    ∷ codes "flush_local_all w0"
    ∷ codes "sync w0"
    ∷ codes "barrier"
    ∷ codes "put w0 1 0 int32 5 -1"
    ∷ codes "rput q0 w0 null -5 int8 -128 127"
    ∷ codes "get w0 1 0 uint8 256"
    ∷ codes "rget q63 w0 null 0 int16 -1"
    ∷ codes "acc w0 1 0 uint16 max 65535"
    ∷ codes "racc q9 w0 1 0 byte bxor"
    ∷ codes "getacc w0 1 0 uint32 no_op 4294967295 0"
    ∷ codes "rgetacc q10 w0 1 0 int16 replace -32768 32767"
    ∷ codes "fop w0 1 2 int32 sum -2147483648"
    ∷ codes "cas w0 null 2 byte 255 0"
    ∷ codes "load w0 2 int32 3"
    ∷ codes "store w0 2 int8 -1"
    ∷ codes "waitreq q63"
    ∷ codes "testreq q0"
    ∷ []

-- each form of a line is printed and read
abbrev pub EachCallIsSaid : Type 0
EachCallIsSaid = AreCanonical each_call_lines (record { ranks = 2; spaces = 0 ∷ 8 ∷ []; calls = [] ∷ each_call ∷ [] })

abbrev pub one_put : Script
one_put = script (
    (Allocate 0 (pos 4) (pos 4) ∷ Fence 0 no_asserts ∷ Put None 0 (Some (pos 1)) (pos 0) Int32 (5 ∷ 0 ∷ []) ∷ [])
    ∷ (Barrier ∷ [])
    ∷ [])

abbrev pub OnePutIsSaid : Type 0
OnePutIsSaid = AreCanonical
    (codes "ranks 2"
    ∷ codes "rank 0"
    ∷ codes "allocate w0 4 4"
    ∷ codes "fence w0"
    ∷ codes "put w0 1 0 int32 5 0"
    ∷ codes "rank 1"
    ∷ codes "barrier"
    ∷ [])
    one_put

-- comments, blank lines, spaces, tabs and carriage returns say nothing, and the last line needs no line feed
abbrev pub BlanksAreSkipped : Type 0
BlanksAreSkipped =
    Reads (codes "\n  ranks\t 2 # two\n#\nrank 0\r\n\tallocate w0 4 4\r\n  \r\nfence  w0#\n"
    ++ codes "put w0 1  0 int32 5 0 \nrank 1 # 2\n # rank 0\nbarrier") one_put
    × Reads (codes "ranks 2\nrank 0\nallocate w0 4 4\nfence w0\nput w0 1 0 int32 5 0\nrank 1\nbarrier\n\n\n") one_put

-- a number may have leading zeros, and zero a minus sign
abbrev pub NumbersAreSpelled : Type 0
NumbersAreSpelled = Say
    (codes "ranks 002"
    ∷ codes "rank -0"
    ∷ codes "allocate w0 00000000000000000004 04"
    ∷ codes "fence w0"
    ∷ codes "put w0 01 -0 int32 005 -0"
    ∷ codes "rank 1"
    ∷ codes "barrier"
    ∷ [])
    one_put

-- a block is of several ranks, a rank has several blocks, and the calls of a repeat stand as often as it says
abbrev pub BlocksAndRepeatsAreSaid : Type 0
BlocksAndRepeatsAreSaid = Say
    (codes "ranks 3"
    ∷ codes "rank 2 0"
    ∷ codes "barrier"
    ∷ codes "repeat 3"
    ∷ codes "free w1 # the first"
    ∷ []
    ∷ codes "sync w2"
    ∷ codes "end"
    ∷ codes "rank 1"
    ∷ codes "rank 0"
    ∷ codes "repeat 2"
    ∷ codes "end"
    ∷ codes "complete w3"
    ∷ [])
    (script (
    (Barrier ∷ Free 1 ∷ Sync 2 ∷ Free 1 ∷ Sync 2 ∷ Free 1 ∷ Sync 2 ∷ Complete 3 ∷ [])
    ∷ []
    ∷ (Barrier ∷ Free 1 ∷ Sync 2 ∷ Free 1 ∷ Sync 2 ∷ Free 1 ∷ Sync 2 ∷ [])
    ∷ []))

-- assertions are read in any order and as often as they stand; the canonical text has each once
abbrev pub AssertionsAreSaid : Type 0
AssertionsAreSaid = Say
    (codes "ranks 1" ∷ codes "rank 0" ∷ codes "fence w0 noput nocheck noput" ∷ codes "post w1 7 7 noput nocheck" ∷ [])
    (script ((Fence 0 some_asserts ∷ Post 1 (pos 7 ∷ pos 7 ∷ []) some_asserts ∷ []) ∷ []))

-- a space line of no bytes says what no space line says
abbrev pub SpacesAreSaid : Type 0
SpacesAreSaid =
    Say (codes "ranks 2" ∷ codes "space 1 5" ∷ codes "space 0 0" ∷ [])
    (record { ranks = 2; spaces = 0 ∷ 5 ∷ []; calls = [] ∷ [] ∷ [] })
    × AreCanonical (codes "ranks 2" ∷ codes "space 1 5" ∷ [])
    (record { ranks = 2; spaces = 0 ∷ 5 ∷ []; calls = [] ∷ [] ∷ [] })
