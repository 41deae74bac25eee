-- Texts at the limits of the language, and past them.
use Rattle.std.specs.Prelude.{ℕ, ◌++◌, ◌<◌, length, List, [], ◌∷◌, codes, replicate}
use Rattle.script_language.specs.declared.faults.FaultKind.TheVariants.{Word, Limit}
use Rattle.script_language.specs.Reading.{HasFault}
use Rattle.language_examples.specs.Said.{Fail, fails, call_fails, copies, Say, script}
use Rattle.std.specs.Prelude.{pos, Some, None}
use Rattle.rma_types.specs.declared.calls.Call.TheVariants.{Barrier, Put, Post}
use Rattle.rma_types.specs.declared.dtypes.Dtype.TheVariants.{Int8}
use Rattle.script_language.specs.Calls.{no_asserts}
use Rattle.script_language.specs.Drafts.{repeat_calls}

-- a number past its range
abbrev pub LimitsOfNumbers : Type 0
LimitsOfNumbers = Fail (
    fails (codes "ranks 17" ∷ []) 1 Limit
    ∷ fails (codes "ranks 0" ∷ []) 1 Limit
    ∷ fails (codes "ranks -1" ∷ []) 1 Limit
    ∷ fails (codes "ranks 99999999999999999999" ∷ []) 1 Limit
    ∷ fails (codes "ranks 2" ∷ codes "space 2 1" ∷ []) 2 Limit
    ∷ fails (codes "ranks 2" ∷ codes "space -1 1" ∷ []) 2 Limit
    ∷ fails (codes "ranks 2" ∷ codes "space 0 65537" ∷ []) 2 Limit
    ∷ fails (codes "ranks 2" ∷ codes "space 0 -1" ∷ []) 2 Limit
    ∷ fails (codes "ranks 2" ∷ codes "rank 0 2" ∷ []) 2 Limit
    ∷ fails (codes "ranks 2" ∷ codes "rank 0" ∷ codes "repeat 0" ∷ []) 3 Limit
    ∷ fails (codes "ranks 2" ∷ codes "rank 0" ∷ codes "repeat 65537" ∷ []) 3 Limit
    ∷ call_fails (codes "allocate w0 65537 1") Limit
    ∷ call_fails (codes "allocate w0 1 65") Limit
    ∷ call_fails (codes "allocate w0 -2147483649 1") Limit
    ∷ call_fails (codes "create w0 2147483648 0 1") Limit
    ∷ call_fails (codes "put w0 2147483648 0 int8 1") Limit
    ∷ call_fails (codes "get w0 0 0 int8 257") Limit
    ∷ call_fails (codes "put w0 0 0 int8 128") Limit
    ∷ call_fails (codes "put w0 0 0 int8 -129") Limit
    ∷ call_fails (codes "put w0 0 0 uint8 256") Limit
    ∷ call_fails (codes "put w0 0 0 uint8 -1") Limit
    ∷ call_fails (codes "put w0 0 0 int16 32768") Limit
    ∷ call_fails (codes "put w0 0 0 uint16 65536") Limit
    ∷ call_fails (codes "put w0 0 0 int32 2147483648") Limit
    ∷ call_fails (codes "put w0 0 0 uint32 4294967296") Limit
    ∷ call_fails (codes "put w0 0 0 byte -1") Limit
    ∷ call_fails (codes "cas w0 0 0 int8 1 200") Limit
    ∷ call_fails (codes "fop w0 0 0 int8 sum -129") Limit
    ∷ call_fails (codes "start w0 0 2147483648") Limit
    ∷ [])

-- a script has at most 16 ranks
abbrev pub LimitOfRanks : Type 0
LimitOfRanks = Say (codes "ranks 16" ∷ []) (script (replicate 16 []))

abbrev pub sixteen : List ℕ
sixteen = copies 16 (codes " 1")

-- a group has at most 16 ranks, as it is written
abbrev pub LimitsOfGroups : Type 0
LimitsOfGroups =
    Say (codes "ranks 2" ∷ codes "rank 0" ∷ (codes "post w31" ++ sixteen) ∷ [])
    (script ((Post 31 (replicate 16 (pos 1)) no_asserts ∷ []) ∷ [] ∷ []))
    × Fail (
    call_fails (codes "post w0" ++ sixteen ++ codes " 1") Limit
    ∷ call_fails (codes "start w0" ++ sixteen ++ codes " 1x nocheck") Limit
    ∷ call_fails (codes "start w0" ++ sixteen ++ codes " x") Word
    ∷ [])

abbrev pub many_values : List ℕ
many_values = copies 256 (codes " 0")

-- a call has at most 256 values
abbrev pub LimitsOfValues : Type 0
LimitsOfValues =
    Say (codes "ranks 1" ∷ codes "rank 0" ∷ (codes "put w0 0 0 int8" ++ many_values) ∷ [])
    (script ((Put None 0 (Some (pos 0)) (pos 0) Int8 (replicate 256 0) ∷ []) ∷ []))
    × Fail (call_fails (codes "put w0 0 0 int8" ++ many_values ++ codes " 0") Limit
    ∷ call_fails (codes "store w0 0 byte" ++ many_values ++ codes " x") Limit ∷ [])

-- the memory of all ranks has at most 65,536 bytes, of spaces and of allocates
abbrev pub LimitsOfMemory : Type 0
LimitsOfMemory = Fail (
    fails (codes "ranks 2" ∷ codes "space 0 65536" ∷ codes "space 1 1" ∷ []) 3 Limit
    ∷ fails (codes "ranks 2" ∷ codes "space 0 65535" ∷ codes "space 1 0" ∷ codes "rank 1" ∷ codes "allocate w0 0 1"
    ∷ codes "allocate w0 1 1" ∷ []) 6 Limit
    ∷ fails (codes "ranks 2" ∷ codes "rank 0 1" ∷ codes "allocate w0 32769 1" ∷ []) 3 Limit
    ∷ fails (codes "ranks 1" ∷ codes "rank 0" ∷ codes "repeat 2" ∷ codes "allocate w0 32768 1" ∷ codes "end"
    ∷ codes "allocate w0 -5 1" ∷ codes "allocate w0 1 1" ∷ []) 7 Limit
    ∷ fails (codes "ranks 1" ∷ codes "rank 0" ∷ codes "repeat 3" ∷ codes "allocate w0 32768 1" ∷ codes "barrier"
    ∷ codes "end" ∷ codes "barrier" ∷ []) 6 Limit
    ∷ [])

-- the script that 65,536 calls make: a repeat counts as its calls, and its last line does not count
abbrev pub longest : List (List ℕ)
longest = codes "ranks 1" ∷ codes "rank 0" ∷ codes "repeat 65536" ∷ codes "barrier" ∷ codes "end" ∷ []

abbrev pub IsTheLongest : Type 0
IsTheLongest = Say longest (script (repeat_calls 65536 (Barrier ∷ []) ∷ []))

-- all ranks together have at most 65,536 calls
abbrev pub LimitsOfCalls : Type 0
LimitsOfCalls = Fail (
    fails (codes "ranks 1" ∷ codes "rank 0" ∷ codes "repeat 65536" ∷ codes "barrier" ∷ codes "end" ∷ codes "barrier"
    ∷ []) 6 Limit
    ∷ fails (codes "ranks 2" ∷ codes "rank 0 1" ∷ codes "repeat 32769" ∷ codes "barrier" ∷ codes "end" ∷ []) 5 Limit
    ∷ fails (codes "ranks 1" ∷ codes "rank 0" ∷ codes "barrier" ∷ codes "repeat 65536" ∷ codes "barrier" ∷ codes "end"
    ∷ codes "walk" ∷ []) 6 Limit
    ∷ [])

-- a text of more than 1,048,576 bytes is refused, whatever it says
abbrev pub TooLongIsRefused : Type 0
TooLongIsRefused = (text : List ℕ) → 1048576 < length text → HasFault text (record { line = 0; kind = Limit })
