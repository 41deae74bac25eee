-- Texts with their first faults: a text for each kind of fault, at its first, middle and last place.
use Rattle.std.specs.Prelude.{◌++◌, [], ◌∷◌, codes}
use Rattle.script_language.specs.declared.faults.FaultKind.TheVariants.{Word, Number, Datatype, Op, Name, Shape, Limit}
use Rattle.script_language.specs.Reading.{HasFault}
use Rattle.language_examples.specs.Said.{Fail, fails, call_fails}

-- a first token that is no word, a byte that is no printable character, a word that is not of its place
abbrev pub FaultsOfWords : Type 0
FaultsOfWords = Fail (
    fails (codes "Ranks 1" ∷ []) 1 Word
    ∷ fails (codes "ranks 1" ∷ codes "rank 0" ∷ codes "PUT w0 0 0 int32 1" ∷ []) 3 Word
    ∷ fails (codes "ranks 1" ∷ codes "rank 0" ∷ codes "barrier" ∷ codes "walk" ∷ []) 4 Word
    ∷ fails ((195 ∷ codes "ranks 1") ∷ []) 1 Word
    ∷ call_fails (codes "put w0 0 0 int32 1 2" ++ 127 ∷ codes " 3") Word
    ∷ call_fails (codes "barrier 1 2 " ++ 200 ∷ []) Shape
    ∷ call_fails (codes "barrier " ++ 200 ∷ codes " 1") Word
    ∷ call_fails (codes "lock w0 Shared 0") Word
    ∷ call_fails (codes "lock w0 exclusive 0 nocheck nochecks") Word
    ∷ call_fails (codes "fence w0 nocheck 1") Word
    ∷ call_fails (codes "post w0 0 nocheck 1") Word
    ∷ call_fails (codes "post w0 +1") Word
    ∷ call_fails (codes "lock_all w0 x nocheck") Word
    ∷ [])

-- a token that is no number, or has more than 20 digits
abbrev pub FaultsOfNumbers : Type 0
FaultsOfNumbers = Fail (
    fails (codes "ranks x" ∷ []) 1 Number
    ∷ fails (codes "ranks +1" ∷ []) 1 Number
    ∷ fails (codes "ranks 2" ∷ codes "space 0 1.5" ∷ []) 2 Number
    ∷ fails (codes "ranks 2" ∷ codes "rank 0 x" ∷ []) 2 Number
    ∷ call_fails (codes "allocate w0 - 4") Number
    ∷ call_fails (codes "allocate w0 4 000000000000000000001") Number
    ∷ call_fails (codes "put w0 0 0 int32 +5") Number
    ∷ call_fails (codes "put w0 NULL 0 int32 5") Number
    ∷ call_fails (codes "put w0 0 0 int32 1 2 0x3") Number
    ∷ call_fails (codes "cas w0 0 0 int8 1 --2") Number
    ∷ call_fails (codes "start w0 0 1a") Number
    ∷ call_fails (codes "get w0 0 0 int32 -") Number
    ∷ fails (codes "ranks 2" ∷ codes "rank 0" ∷ codes "repeat no" ∷ []) 3 Number
    ∷ [])

-- a token that is no window, no request, no datatype or no operation
abbrev pub FaultsOfNames : Type 0
FaultsOfNames = Fail (
    call_fails (codes "fence w32") Name
    ∷ call_fails (codes "fence w01") Name
    ∷ call_fails (codes "fence W0") Name
    ∷ call_fails (codes "fence 0") Name
    ∷ call_fails (codes "allocate w-0 4 4") Name
    ∷ call_fails (codes "rput w0 w0 0 0 int32 1") Name
    ∷ call_fails (codes "rget q64 w0 0 0 int32 1") Name
    ∷ call_fails (codes "rget q00 w0 0 0 int32 1") Name
    ∷ call_fails (codes "waitreq q") Name
    ∷ call_fails (codes "testreq q0q") Name
    ∷ call_fails (codes "put w0 0 0 int64 1") Datatype
    ∷ call_fails (codes "load w0 0 Int32 1") Datatype
    ∷ call_fails (codes "rgetacc q0 w0 0 0 int sum 1") Datatype
    ∷ call_fails (codes "acc w0 0 0 int32 minus 1") Op
    ∷ call_fails (codes "fop w0 0 0 int8 SUM 1") Op
    ∷ call_fails (codes "rgetacc q0 w0 0 0 byte 1 1") Op
    ∷ [])

-- a line in a wrong place, too few tokens, too many, a rank said twice
abbrev pub FaultsOfShapes : Type 0
FaultsOfShapes = Fail (
    fails ([] ∷ []) 2 Shape
    ∷ fails (codes "rank 0" ∷ []) 1 Shape
    ∷ fails (codes "barrier" ∷ []) 1 Shape
    ∷ fails (codes "ranks 1" ∷ codes "ranks 1" ∷ []) 2 Shape
    ∷ fails (codes "ranks 1" ∷ codes "fence w0" ∷ []) 2 Shape
    ∷ fails (codes "ranks 1" ∷ codes "repeat 2" ∷ []) 2 Shape
    ∷ fails (codes "ranks 1" ∷ codes "rank 0" ∷ codes "end" ∷ []) 3 Shape
    ∷ fails (codes "ranks 2" ∷ codes "space 0 8" ∷ codes "rank 0" ∷ codes "space 1 8" ∷ []) 4 Shape
    ∷ fails (codes "ranks 2" ∷ codes "space 1 8" ∷ codes "space 1 8" ∷ []) 3 Shape
    ∷ fails (codes "ranks 2" ∷ codes "space 1 0" ∷ codes "space 1 8" ∷ []) 3 Shape
    ∷ fails (codes "ranks 2" ∷ codes "rank 0 1 0" ∷ []) 2 Shape
    ∷ fails (codes "ranks 2" ∷ codes "rank" ∷ []) 2 Shape
    ∷ fails (codes "ranks 1" ∷ codes "rank 0" ∷ codes "repeat 2" ∷ codes "repeat 2" ∷ []) 4 Shape
    ∷ fails (codes "ranks 1" ∷ codes "rank 0" ∷ codes "repeat 2" ∷ codes "rank 0" ∷ []) 4 Shape
    ∷ fails (codes "ranks 1" ∷ codes "rank 0" ∷ codes "repeat 2" ∷ codes "barrier" ∷ codes "end 2" ∷ []) 5 Shape
    ∷ fails (codes "ranks 1" ∷ codes "rank 0" ∷ codes "repeat 2" ∷ codes "barrier" ∷ []) 5 Shape
    ∷ fails (codes "ranks" ∷ []) 1 Shape
    ∷ fails (codes "ranks 1 2" ∷ []) 1 Shape
    ∷ call_fails (codes "allocate w0 4") Shape
    ∷ call_fails (codes "allocate w0 4 4 4") Shape
    ∷ call_fails (codes "put w0 0 0") Shape
    ∷ call_fails (codes "fop w0 0 0 int32 sum") Shape
    ∷ call_fails (codes "fop w0 0 0 int32 sum 1 2") Shape
    ∷ call_fails (codes "cas w0 0 0 int32 1") Shape
    ∷ call_fails (codes "lock w0 shared") Shape
    ∷ call_fails (codes "barrier w0") Shape
    ∷ call_fails (codes "waitreq") Shape
    ∷ call_fails (codes "fence") Shape
    ∷ [])

-- the first of several faults: by line, then by token; a wrong place before the tokens behind it
abbrev pub FirstFaults : Type 0
FirstFaults = Fail (
    fails (codes "ranks 2" ∷ codes "rank 0" ∷ codes "put w0 x 0 int64 y" ∷ codes "walk" ∷ []) 3 Number
    ∷ fails (codes "ranks 2" ∷ codes "rank 5" ∷ codes "walk" ∷ []) 2 Limit
    ∷ fails (codes "ranks 2" ∷ codes "walk" ∷ codes "rank 5" ∷ []) 2 Word
    ∷ fails (codes "rank x" ∷ []) 1 Shape
    ∷ fails (codes "walk x" ∷ []) 1 Word
    ∷ fails (codes "# a comment" ∷ [] ∷ codes "ranks 0" ∷ codes "ranks x" ∷ []) 3 Limit
    ∷ call_fails (codes "put w0 0 99999999999 int64 1") Limit
    ∷ call_fails (codes "barrier 1 2") Shape
    ∷ fails (codes "ranks 2" ∷ codes "space 5 x" ∷ []) 2 Limit
    ∷ fails (codes "ranks 2" ∷ codes "space 0 8" ∷ codes "space 0 x" ∷ []) 3 Shape
    ∷ fails (codes "ranks 2" ∷ codes "rank 0 0 x" ∷ []) 2 Shape
    ∷ fails (codes "ranks 2" ∷ codes "rank 0 5 0" ∷ []) 2 Limit
    ∷ fails (codes "ranks 2" ∷ codes "rank 0" ∷ codes "fence w0 noput# nochecks" ∷ codes "barrier 1" ∷ []) 4 Shape
    ∷ [])

-- a missing line feed at the end, and a text without bytes
abbrev pub FaultsAtTheEnd : Type 0
FaultsAtTheEnd =
    HasFault (codes "ranks 2\nrank 0\nallocate w0 4") (record { line = 3; kind = Shape })
    × HasFault [] (record { line = 1; kind = Shape })
    × HasFault (codes "\n\n# ranks 1") (record { line = 3; kind = Shape })
    × HasFault (codes "ranks 1\nrank 0\nrepeat 2\nend\nrepeat 2") (record { line = 5; kind = Shape })
